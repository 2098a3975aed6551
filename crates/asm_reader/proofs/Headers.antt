-- Free. Readers regrouped: what is before a body is read by itself, and so is a part with its end
-- word.
use Rattle.std.proofs.Common.{◌≡◌, ℕ, List, Ok, Err, refl}
use Rattle.asm_syntax.specs.declared.token.Kind.TheVariants.{Symbol, Keyword}
use Rattle.asm_syntax.specs.declared.token.Symbol.TheVariants.{Equal, Dots}
use Rattle.asm_syntax.specs.declared.token.Keyword.{Keyword as ReservedWord}
use Rattle.asm_syntax.specs.declared.token.Keyword.TheVariants.{If, Then, Else, EndIf, Let, In, EndLet, Forall, Do, EndForall, Choose, IfNone, EndChoose, Iterate, EndIterate, While, EndWhile, Enum, Universe, Function, Derived, Rule}
use Rattle.asm_syntax.specs.declared.token.Token.{Token}
use Rattle.asm_syntax.specs.SourceTree as source
use Rattle.asm_reader.specs.RuleGrammar.{branch}
use Rattle.asm_reader.specs.code.Steps.{ReaderResult, Reader, and_then, enter, choice_at, pair_of, mapped, past_of, before_of, between_of, braced_of}
use Rattle.asm_reader.specs.Grammar.{function_kinds}
use Rattle.asm_reader.specs.code.TermReading.{name_at, binding_at, quantified_at, term_at}
use Rattle.asm_reader.specs.code.RuleReading.{rule_at, branch_at, condition_at, if_at, let_at, forall_at, choose_at, iterate_at, while_at}
use Rattle.asm_reader.specs.code.Reading.{int_at, elements_at, signature_at, initially_at, parameters_at, enum_at, universe_at, function_at, derived_at, rule_item_at}

pub joined : {A B C : Type 0} (answer : ReaderResult A) (f : A → Reader B) (g : B → Reader C) → and_then (and_then answer f) g ≡ and_then answer (λ x rest. and_then (f x rest) g)
joined (Ok r) f g = refl
joined (Err e) f g = refl

module _ (text : List ℕ) (n : ℕ) (term : Reader source.Term) (rule : Reader source.Rule) (ts : List Token) where
  pub if_splits : if_at text n term rule ts ≡ and_then (enter n (Keyword If) ts) (λ _ rest. and_then (before_of (Keyword Then) term rest) (λ t after.
      and_then (rule after) (λ P behind. mapped (λ Q. source.If t P (branch Q)) (before_of (Keyword EndIf) (branch_at Else rule)) behind)))
  unfolding if_at
  if_splits = simp joined

  pub let_splits : let_at text n term rule ts ≡ and_then (between_of n (Keyword Let) (Symbol Equal) (name_at text) ts) (λ name rest. and_then (before_of (Keyword In) term rest) (λ t after.
      mapped (λ P. source.Let name t P) (before_of (Keyword EndLet) rule) after))
  unfolding let_at
  let_splits = simp joined

  pub forall_splits : forall_at text n term rule ts ≡ and_then (between_of n (Keyword Forall) (Keyword Do) (pair_of (binding_at text) (condition_at term)) ts) (λ r rest.
      mapped (λ P. source.Forall r.0.0 r.0.1 r.1 P) (before_of (Keyword EndForall) rule) rest)
  unfolding forall_at
  forall_splits = simp joined

  pub choose_splits : choose_at text n term rule ts ≡ and_then (between_of n (Keyword Choose) (Keyword Do) (pair_of (binding_at text) (condition_at term)) ts) (λ r rest. and_then (rule rest) (λ P after.
      mapped (λ Q. source.Choose r.0.0 r.0.1 r.1 P (branch Q)) (before_of (Keyword EndChoose) (branch_at IfNone rule)) after))
  unfolding choose_at
  choose_splits = simp joined

  pub iterate_splits : iterate_at text n term rule ts ≡ and_then (enter n (Keyword Iterate) ts) (λ _ rest. mapped source.Iterate (before_of (Keyword EndIterate) rule) rest)
  unfolding iterate_at
  iterate_splits = simp joined

  pub while_splits : while_at text n term rule ts ≡ and_then (enter n (Keyword While) ts) (λ _ rest. and_then (before_of (Keyword Do) term rest) (λ t after.
      mapped (λ P. source.While t P) (before_of (Keyword EndWhile) rule) after))
  unfolding while_at
  while_splits = simp joined

pub quantified_splits : (text : List ℕ) (deeper : Reader source.Term) (first second : ReservedWord) (ts : List Token) → quantified_at text deeper first second ts ≡ pair_of (braced_of (Keyword first) (Keyword second) (binding_at text)) deeper ts
unfolding quantified_at
quantified_splits text deeper first second ts = simp joined

module _ (text : List ℕ) (ts : List Token) where
  pub enum_splits : enum_at text ts ≡ and_then (braced_of (Keyword Enum) (Symbol Equal) (name_at text) ts) (λ name rest. mapped (source.Enum name) (elements_at text) rest)
  unfolding enum_at
  enum_splits = simp joined

  pub universe_splits : universe_at text ts ≡ and_then (braced_of (Keyword Universe) (Symbol Equal) (name_at text) ts) (λ name rest. mapped (λ r. source.Universe name r.0 r.1) (pair_of int_at (past_of (Symbol Dots) int_at)) rest)
  unfolding universe_at
  universe_splits = simp joined

  module _ (n : ℕ) where
    pub function_splits : function_at text n ts ≡ and_then (past_of (Keyword Function) (pair_of (choice_at function_kinds) (name_at text)) ts) (λ r rest.
        and_then (signature_at text rest) (λ t after. mapped (λ g. source.Function r.1 r.0 t.0 t.1 g) (initially_at text n) after))
    unfolding function_at
    function_splits = simp joined

    pub derived_splits : derived_at text n ts ≡ and_then (braced_of (Keyword Derived) (Symbol Equal) (pair_of (name_at text) (parameters_at text n)) ts) (λ r rest. mapped (source.Derived r.0 r.1) (term_at text n) rest)
    unfolding derived_at
    derived_splits = simp joined

    pub rule_item_splits : rule_item_at text n ts ≡ and_then (braced_of (Keyword Rule) (Symbol Equal) (pair_of (name_at text) (parameters_at text n)) ts) (λ r rest. mapped (source.NamedRule r.0 r.1) (rule_at text n) rest)
    unfolding rule_item_at
    rule_item_splits = simp joined
