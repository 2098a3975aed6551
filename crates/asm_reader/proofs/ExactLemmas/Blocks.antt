-- Free. The readers of rules with an end word are exact.
use Rattle.std.proofs.Common.{◌≡◌, ℕ, suc, true, false, List, [], ◌∷◌, ◌++◌, Option, None, refl}
use Rattle.asm_syntax.specs.declared.token.Kind.{Kind}
use Rattle.asm_syntax.specs.declared.token.Kind.TheVariants.{Symbol, Keyword}
use Rattle.asm_syntax.specs.declared.token.Symbol.TheVariants.{Assign, LeftArrow, Equal}
use Rattle.asm_syntax.specs.declared.token.Keyword.{Keyword as ReservedWord}
use Rattle.asm_syntax.specs.declared.token.Keyword.TheVariants.{Par, EndPar, Seq, EndSeq, If, Then, Else, EndIf, Let, In, EndLet, Forall, With, Do, EndForall, Choose, IfNone, EndChoose, Iterate, EndIterate, While, EndWhile}
use Rattle.asm_syntax.specs.SourceTree as source
use Rattle.asm_syntax.specs.code.Views.{rules_of}
use Rattle.asm_reader.specs.Kinds.{is_one_of}
use Rattle.asm_reader.specs.Levels.{openers, closers}
use Rattle.asm_reader.specs.Productions.{Production, ◌then◌, ◌or◌, optional, repeated, ◌makes◌, past, several, between}
use Rattle.asm_reader.specs.code.Steps.{Reader, pair_of, mapped, either_of, option_of, repeated_of, past_of, several_of, between_of}
use Rattle.asm_reader.specs.TermGrammar.{name, binding}
use Rattle.asm_reader.specs.code.TermReading.{name_at, binding_at}
use Rattle.asm_reader.specs.RuleGrammar.{branch, par_rule, seq_rule, if_rule, let_rule, forall_rule, choose_rule, iterate_rule, while_rule, block_rule}
use Rattle.asm_reader.specs.code.RuleReading.{rule_starts, branch_at, condition_at, par_at, seq_at, if_at, let_at, forall_at, choose_at, iterate_at, while_at, block_at}
use Rattle.asm_reader.proofs.Lists.{alike_symbol, alike_word, alike_self, apart, within}
use Rattle.asm_reader.proofs.ExactLemmas.Readers.{IsExact, Begins, HasText, exact_pair, exact_makes, exact_optional, exact_repeated, repeated_ends, ends_none, ends_by}
use Rattle.asm_reader.proofs.ExactLemmas.ExactTokens.{depth, IsPlain, exact_past, has_past, has_makes, has_then, begins_makes, begins_then, begins_past, begins_or, exact_or, optional_ends}
use Rattle.asm_reader.proofs.ExactLemmas.EnclosedReaders.{begins_between, exact_between}
use Rattle.asm_reader.proofs.ExactLemmas.TermExact.{term_more, has_name, has_binding, exact_name, exact_binding}

-- ---- sets of kinds

-- what the rules begin with, from one of them on
abbrev iterate_first : List Kind
iterate_first = Keyword Iterate ∷ Keyword While ∷ []

abbrev choose_first : List Kind
choose_first = Keyword Choose ∷ iterate_first

abbrev forall_first : List Kind
forall_first = Keyword Forall ∷ choose_first

abbrev let_first : List Kind
let_first = Keyword Let ∷ forall_first

abbrev if_first : List Kind
if_first = Keyword If ∷ let_first

abbrev seq_first : List Kind
seq_first = Keyword Seq ∷ if_first

abbrev pub block_first : List Kind
block_first = Keyword Par ∷ seq_first

abbrev pub rule_first : List Kind
rule_first = rule_starts

-- what carries on a rule that is whole
abbrev pub rule_more : List Kind
rule_more = Symbol Assign ∷ Symbol LeftArrow ∷ term_more

-- what carries on rules that follow one another
abbrev several_more : List Kind
several_more = rule_first ++ rule_more

-- what carries on a condition that may be left out
abbrev condition_more : List Kind
condition_more = Keyword With ∷ term_more

-- ---- what is between the words, and what the rules begin with

module _ (text : List ℕ) (X : Production source.Term) (S : Production source.Rule) where
  -- a rule after a word
  abbrev pub behind : ReservedWord → Production source.Rule
  behind w = past (Keyword w) S

  abbrev pub condition : Production (Option source.Term)
  condition = optional (past (Keyword With) X)

  abbrev pub if_body : Production (source.Term × (source.Rule × Option source.Rule))
  if_body = X then behind Then then optional (behind Else)

  abbrev pub let_body : Production (source.Name × (source.Term × source.Rule))
  let_body = name text then past (Symbol Equal) X then behind In

  abbrev pub forall_body : Production ((source.Name × source.Name) × (Option source.Term × source.Rule))
  forall_body = binding text then condition then behind Do

  abbrev pub choose_body : Production ((source.Name × source.Name) × (Option source.Term × (source.Rule × Option source.Rule)))
  choose_body = binding text then condition then behind Do then optional (behind IfNone)

  abbrev pub while_body : Production (source.Term × source.Rule)
  while_body = X then behind Do

  begins_frame : {A : Type 0} (k close : ReservedWord) (B : Production A) (f : A → source.Rule) → Begins (Keyword k ∷ []) (between (Keyword k) (Keyword close) B makes f)
  begins_frame k close B f = begins_makes (Keyword k ∷ []) (between (Keyword k) (Keyword close) B) f (begins_between (Keyword k) (Keyword close) B)

  begins_par : Begins (Keyword Par ∷ []) (par_rule text X S)
  unfolding par_rule
  begins_par = begins_frame Par EndPar (several S) (λ r. source.Par (rules_of r))

  begins_seq : Begins (Keyword Seq ∷ []) (seq_rule text X S)
  unfolding seq_rule
  begins_seq = begins_frame Seq EndSeq (several S) (λ r. source.Seq (rules_of r))

  begins_if : Begins (Keyword If ∷ []) (if_rule text X S)
  unfolding if_rule
  begins_if = begins_frame If EndIf if_body (λ r. source.If r.0 r.1.0 (branch r.1.1))

  begins_let : Begins (Keyword Let ∷ []) (let_rule text X S)
  unfolding let_rule
  begins_let = begins_frame Let EndLet let_body (λ r. source.Let r.0 r.1.0 r.1.1)

  begins_forall : Begins (Keyword Forall ∷ []) (forall_rule text X S)
  unfolding forall_rule
  begins_forall = begins_frame Forall EndForall forall_body (λ r. source.Forall r.0.0 r.0.1 r.1.0 r.1.1)

  begins_choose : Begins (Keyword Choose ∷ []) (choose_rule text X S)
  unfolding choose_rule
  begins_choose = begins_frame Choose EndChoose choose_body (λ r. source.Choose r.0.0 r.0.1 r.1.0 r.1.1.0 (branch r.1.1.1))

  begins_iterate : Begins (Keyword Iterate ∷ []) (iterate_rule text X S)
  unfolding iterate_rule
  begins_iterate = begins_frame Iterate EndIterate S source.Iterate

  begins_while : Begins (Keyword While ∷ []) (while_rule text X S)
  unfolding while_rule
  begins_while = begins_frame While EndWhile while_body (λ r. source.While r.0 r.1)

  -- the rules from one of them on
  abbrev from_iterate : Production source.Rule
  from_iterate = iterate_rule text X S or while_rule text X S

  abbrev from_choose : Production source.Rule
  from_choose = choose_rule text X S or from_iterate

  abbrev from_forall : Production source.Rule
  from_forall = forall_rule text X S or from_choose

  abbrev from_let : Production source.Rule
  from_let = let_rule text X S or from_forall

  abbrev from_if : Production source.Rule
  from_if = if_rule text X S or from_let

  abbrev from_seq : Production source.Rule
  from_seq = seq_rule text X S or from_if

  begins_from_iterate : Begins iterate_first from_iterate
  begins_from_iterate = begins_or (Keyword Iterate ∷ []) (Keyword While ∷ []) iterate_first (iterate_rule text X S) (while_rule text X S) begins_iterate begins_while refl refl

  begins_from_choose : Begins choose_first from_choose
  begins_from_choose = begins_or (Keyword Choose ∷ []) iterate_first choose_first (choose_rule text X S) from_iterate begins_choose begins_from_iterate refl refl

  begins_from_forall : Begins forall_first from_forall
  begins_from_forall = begins_or (Keyword Forall ∷ []) choose_first forall_first (forall_rule text X S) from_choose begins_forall begins_from_choose refl refl

  begins_from_let : Begins let_first from_let
  begins_from_let = begins_or (Keyword Let ∷ []) forall_first let_first (let_rule text X S) from_forall begins_let begins_from_forall refl refl

  begins_from_if : Begins if_first from_if
  begins_from_if = begins_or (Keyword If ∷ []) let_first if_first (if_rule text X S) from_let begins_if begins_from_let refl refl

  begins_from_seq : Begins seq_first from_seq
  begins_from_seq = begins_or (Keyword Seq ∷ []) if_first seq_first (seq_rule text X S) from_if begins_seq begins_from_if refl refl

  pub begins_block : Begins block_first (block_rule text X S)
  unfolding block_rule
  begins_block = begins_or (Keyword Par ∷ []) seq_first block_first (par_rule text X S) from_seq begins_par begins_from_seq refl refl

-- ---- exact readers

-- a word that opens a level, and one that closes it
abbrev IsFrame : ReservedWord → ReservedWord → Type 0
IsFrame k close = (is_one_of openers (Keyword k) ≡ true) × (is_one_of openers (Keyword close) ≡ false) × (is_one_of closers (Keyword close) ≡ true)

module _ (n : ℕ) {A : Type 0} (k close : ReservedWord) (frame : IsFrame k close) (more : List Kind) (differ : apart (Keyword close ∷ []) more ≡ true) (B C : Production A) (some : HasText B) (f : Reader A)
    (exact : (m : ℕ) → n ≡ suc m → IsExact (depth m false) (depth m false) more B C f) (make : A → source.Rule) where
  exact_frame : IsExact (depth n false) (depth n false) [] (between (Keyword k) (Keyword close) B makes make) (between (Keyword k) (Keyword close) C makes make) (mapped make (between_of n (Keyword k) (Keyword close) f))
  exact_frame = exact_makes (depth n false) (depth n false) [] (between (Keyword k) (Keyword close) B) (between (Keyword k) (Keyword close) C) make (between_of n (Keyword k) (Keyword close) f)
      (exact_between n false false (Keyword k) (Keyword close) (alike_word k) (alike_word close) (λ t e. rw e frame.0) (λ m t e d. rw (e, d, frame.0) refl) (λ m t e d. rw (e, d, frame.1, frame.2) refl) more differ B C some f exact)

-- `term` and `rule` read P and Q, and what they refuse is no N and no M.
module _ (text : List ℕ) (n : ℕ) (term : Reader source.Term) (P N : Production source.Term) (some : HasText P) (exact : (m : ℕ) → n ≡ suc m → IsExact (depth m false) (depth m false) term_more P N term)
    (rule : Reader source.Rule) (Q M : Production source.Rule) (has : HasText Q) (starts : Begins rule_first Q) (first : Begins rule_first M)
    (exact_rule : (m : ℕ) → n ≡ suc m → IsExact (depth m false) (depth m false) rule_more Q M rule) where
  exact_several : (m : ℕ) → n ≡ suc m → IsExact (depth m false) (depth m false) several_more (several Q) (several M) (several_of rule_starts rule)
  exact_several m e = exact_makes (depth m false) (depth m false) several_more (Q then repeated Q) (M then repeated M) (λ r. r.0 ∷ r.1) (pair_of rule (repeated_of rule_starts rule))
      (exact_pair (depth m false) (depth m false) (depth m false) rule_more several_more Q M (repeated Q) (repeated M) (repeated_ends (depth m false) rule_more several_more rule_first Q M starts first refl refl refl) ([], [], refl)
      rule (repeated_of rule_starts rule) (exact_rule m e) (exact_repeated (depth m false) rule_more several_more rule_first Q M starts first refl refl refl rule (exact_rule m e)))

  has_several : HasText (several Q)
  has_several = has_makes (Q then repeated Q) (λ r. r.0 ∷ r.1) (has_then Q (repeated Q) has ([], [], refl))

  exact_par : IsExact (depth n false) (depth n false) [] (par_rule text P Q) (par_rule text N M) (par_at text n term rule)
  unfolding par_rule par_at
  exact_par = exact_frame n Par EndPar (refl, refl, refl) several_more refl (several Q) (several M) has_several (several_of rule_starts rule) exact_several (λ r. source.Par (rules_of r))

  exact_seq : IsExact (depth n false) (depth n false) [] (seq_rule text P Q) (seq_rule text N M) (seq_at text n term rule)
  unfolding seq_rule seq_at
  exact_seq = exact_frame n Seq EndSeq (refl, refl, refl) several_more refl (several Q) (several M) has_several (several_of rule_starts rule) exact_several (λ r. source.Seq (rules_of r))

  exact_iterate : IsExact (depth n false) (depth n false) [] (iterate_rule text P Q) (iterate_rule text N M) (iterate_at text n term rule)
  unfolding iterate_rule iterate_at
  exact_iterate = exact_frame n Iterate EndIterate (refl, refl, refl) rule_more refl Q M has rule exact_rule source.Iterate

  -- ---- a rule after a word, and one more after another that may be left out

  exact_behind : (w : ReservedWord) → IsPlain (Keyword w) → (m : ℕ) → n ≡ suc m → IsExact (depth m false) (depth m false) rule_more (past (Keyword w) Q) (past (Keyword w) M) (past_of (Keyword w) rule)
  exact_behind w plain m e = exact_past m false (depth m false) rule_more (Keyword w) (alike_word w) plain Q M has rule (exact_rule m e)

  abbrev two_more : ReservedWord → List Kind
  two_more v = Keyword v ∷ rule_more

  exact_two : (w v : ReservedWord) → IsPlain (Keyword w) → IsPlain (Keyword v) → apart (Keyword v ∷ []) rule_more ≡ true → within rule_more (two_more v) ≡ true → (m : ℕ) → n ≡ suc m
      → IsExact (depth m false) (depth m false) (two_more v) (past (Keyword w) Q then optional (past (Keyword v) Q)) (past (Keyword w) M then optional (past (Keyword v) M)) (pair_of (past_of (Keyword w) rule) (option_of (Keyword v ∷ []) (past_of (Keyword v) rule)))
  exact_two w v plain other differ kept m e = exact_pair (depth m false) (depth m false) (depth m false) rule_more (two_more v) (past (Keyword w) Q) (past (Keyword w) M) (optional (past (Keyword v) Q)) (optional (past (Keyword v) M))
      (optional_ends rule_more (two_more v) (Keyword v ∷ []) (past (Keyword v) M) (ends_by rule_more (two_more v) (Keyword v ∷ []) (past (Keyword v) M) (begins_past (Keyword v) M) differ) kept) ([], None, refl)
      (past_of (Keyword w) rule) (option_of (Keyword v ∷ []) (past_of (Keyword v) rule)) (exact_behind w plain m e)
      (exact_optional (depth m false) rule_more (two_more v) (Keyword v ∷ []) (past (Keyword v) Q) (past (Keyword v) M) (begins_past (Keyword v) M) kept (rw (alike_self (Keyword v)) refl) (past_of (Keyword v) rule) (exact_behind v other m e))

  has_two : (w v : ReservedWord) → HasText (past (Keyword w) Q then optional (past (Keyword v) Q))
  has_two w v = has_then (past (Keyword w) Q) (optional (past (Keyword v) Q)) (has_past (Keyword w) Q has) ([], None, refl)

  begins_two : (w v : ReservedWord) → Begins (Keyword w ∷ []) (past (Keyword w) M then optional (past (Keyword v) M))
  begins_two w v = begins_then (Keyword w ∷ []) (past (Keyword w) M) (optional (past (Keyword v) M)) (begins_past (Keyword w) M)

  exact_if_body : (m : ℕ) → n ≡ suc m → IsExact (depth m false) (depth m false) (two_more Else) (if_body text P Q) (if_body text N M) (pair_of term (pair_of (past_of (Keyword Then) rule) (option_of (Keyword Else ∷ []) (past_of (Keyword Else) rule))))
  exact_if_body m e = exact_pair (depth m false) (depth m false) (depth m false) term_more (two_more Else) P N (past (Keyword Then) Q then optional (past (Keyword Else) Q)) (past (Keyword Then) M then optional (past (Keyword Else) M))
      (ends_by term_more (two_more Else) (Keyword Then ∷ []) (past (Keyword Then) M then optional (past (Keyword Else) M)) (begins_two Then Else) refl) (has_two Then Else)
      term (pair_of (past_of (Keyword Then) rule) (option_of (Keyword Else ∷ []) (past_of (Keyword Else) rule))) (exact m e) (exact_two Then Else (refl, refl, refl) (refl, refl, refl) refl refl m e)

  exact_if : IsExact (depth n false) (depth n false) [] (if_rule text P Q) (if_rule text N M) (if_at text n term rule)
  unfolding if_rule if_at branch_at
  exact_if = exact_frame n If EndIf (refl, refl, refl) (two_more Else) refl (if_body text P Q) (if_body text N M) (has_then P (past (Keyword Then) Q then optional (past (Keyword Else) Q)) some (has_two Then Else))
      (pair_of term (pair_of (past_of (Keyword Then) rule) (option_of (Keyword Else ∷ []) (past_of (Keyword Else) rule)))) exact_if_body (λ r. source.If r.0 r.1.0 (branch r.1.1))

  exact_let_body : (m : ℕ) → n ≡ suc m → IsExact (depth m false) (depth m false) rule_more (let_body text P Q) (let_body text N M) (pair_of (name_at text) (pair_of (past_of (Symbol Equal) term) (past_of (Keyword In) rule)))
  exact_let_body m e = exact_pair (depth m false) (depth m false) (depth m false) [] rule_more (name text) (name text) (past (Symbol Equal) P then past (Keyword In) Q) (past (Symbol Equal) N then past (Keyword In) M)
      (ends_none rule_more (past (Symbol Equal) N then past (Keyword In) M)) (has_then (past (Symbol Equal) P) (past (Keyword In) Q) (has_past (Symbol Equal) P some) (has_past (Keyword In) Q has))
      (name_at text) (pair_of (past_of (Symbol Equal) term) (past_of (Keyword In) rule)) (exact_name text m false)
      (exact_pair (depth m false) (depth m false) (depth m false) term_more rule_more (past (Symbol Equal) P) (past (Symbol Equal) N) (past (Keyword In) Q) (past (Keyword In) M)
      (ends_by term_more rule_more (Keyword In ∷ []) (past (Keyword In) M) (begins_past (Keyword In) M) refl) (has_past (Keyword In) Q has) (past_of (Symbol Equal) term) (past_of (Keyword In) rule)
      (exact_past m false (depth m false) term_more (Symbol Equal) (alike_symbol Equal) (refl, refl, refl) P N some term (exact m e)) (exact_behind In (refl, refl, refl) m e))

  exact_let : IsExact (depth n false) (depth n false) [] (let_rule text P Q) (let_rule text N M) (let_at text n term rule)
  unfolding let_rule let_at
  exact_let = exact_frame n Let EndLet (refl, refl, refl) rule_more refl (let_body text P Q) (let_body text N M)
      (has_then (name text) (past (Symbol Equal) P then past (Keyword In) Q) (has_name text) (has_then (past (Symbol Equal) P) (past (Keyword In) Q) (has_past (Symbol Equal) P some) (has_past (Keyword In) Q has)))
      (pair_of (name_at text) (pair_of (past_of (Symbol Equal) term) (past_of (Keyword In) rule))) exact_let_body (λ r. source.Let r.0 r.1.0 r.1.1)

  -- ---- a binding and a condition, and what comes after `do`

  exact_condition : (m : ℕ) → n ≡ suc m → IsExact (depth m false) (depth m false) condition_more (optional (past (Keyword With) P)) (optional (past (Keyword With) N)) (condition_at term)
  unfolding condition_at
  exact_condition m e = exact_optional (depth m false) term_more condition_more (Keyword With ∷ []) (past (Keyword With) P) (past (Keyword With) N) (begins_past (Keyword With) N) refl refl (past_of (Keyword With) term)
      (exact_past m false (depth m false) term_more (Keyword With) (alike_word With) (refl, refl, refl) P N some term (exact m e))

  module _ {A : Type 0} (more : List Kind) (B C : Production A) (text_of : HasText B) (f : Reader A) where
    exact_bound : Begins (Keyword Do ∷ []) C → (m : ℕ) → n ≡ suc m → IsExact (depth m false) (depth m false) more B C f
        → IsExact (depth m false) (depth m false) more (binding text then optional (past (Keyword With) P) then B) (binding text then optional (past (Keyword With) N) then C) (pair_of (binding_at text) (pair_of (condition_at term) f))
    exact_bound begins m e h = exact_pair (depth m false) (depth m false) (depth m false) [] more (binding text) (binding text) (optional (past (Keyword With) P) then B) (optional (past (Keyword With) N) then C)
        (ends_none more (optional (past (Keyword With) N) then C)) (has_then (optional (past (Keyword With) P)) B ([], None, refl) text_of) (binding_at text) (pair_of (condition_at term) f) (exact_binding text m false)
        (exact_pair (depth m false) (depth m false) (depth m false) condition_more more (optional (past (Keyword With) P)) (optional (past (Keyword With) N)) B C (ends_by condition_more more (Keyword Do ∷ []) C begins refl) text_of (condition_at term) f (exact_condition m e) h)

    has_bound : HasText (binding text then optional (past (Keyword With) P) then B)
    has_bound = has_then (binding text) (optional (past (Keyword With) P) then B) (has_binding text) (has_then (optional (past (Keyword With) P)) B ([], None, refl) text_of)

  exact_forall : IsExact (depth n false) (depth n false) [] (forall_rule text P Q) (forall_rule text N M) (forall_at text n term rule)
  unfolding forall_rule forall_at
  exact_forall = exact_frame n Forall EndForall (refl, refl, refl) rule_more refl (forall_body text P Q) (forall_body text N M) (has_bound rule_more (past (Keyword Do) Q) (past (Keyword Do) M) (has_past (Keyword Do) Q has) (past_of (Keyword Do) rule))
      (pair_of (binding_at text) (pair_of (condition_at term) (past_of (Keyword Do) rule)))
      (λ m e. exact_bound rule_more (past (Keyword Do) Q) (past (Keyword Do) M) (has_past (Keyword Do) Q has) (past_of (Keyword Do) rule) (begins_past (Keyword Do) M) m e (exact_behind Do (refl, refl, refl) m e)) (λ r. source.Forall r.0.0 r.0.1 r.1.0 r.1.1)

  exact_choose : IsExact (depth n false) (depth n false) [] (choose_rule text P Q) (choose_rule text N M) (choose_at text n term rule)
  unfolding choose_rule choose_at branch_at
  exact_choose = exact_frame n Choose EndChoose (refl, refl, refl) (two_more IfNone) refl (choose_body text P Q) (choose_body text N M)
      (has_bound (two_more IfNone) (past (Keyword Do) Q then optional (past (Keyword IfNone) Q)) (past (Keyword Do) M then optional (past (Keyword IfNone) M)) (has_two Do IfNone) done_at)
      (pair_of (binding_at text) (pair_of (condition_at term) done_at))
      (λ m e. exact_bound (two_more IfNone) (past (Keyword Do) Q then optional (past (Keyword IfNone) Q)) (past (Keyword Do) M then optional (past (Keyword IfNone) M)) (has_two Do IfNone) done_at (begins_two Do IfNone) m e
      (exact_two Do IfNone (refl, refl, refl) (refl, refl, refl) refl refl m e)) (λ r. source.Choose r.0.0 r.0.1 r.1.0 r.1.1.0 (branch r.1.1.1))
    where
      done_at : Reader (source.Rule × Option source.Rule)
      done_at = pair_of (past_of (Keyword Do) rule) (option_of (Keyword IfNone ∷ []) (past_of (Keyword IfNone) rule))

  exact_while_body : (m : ℕ) → n ≡ suc m → IsExact (depth m false) (depth m false) rule_more (while_body text P Q) (while_body text N M) (pair_of term (past_of (Keyword Do) rule))
  exact_while_body m e = exact_pair (depth m false) (depth m false) (depth m false) term_more rule_more P N (past (Keyword Do) Q) (past (Keyword Do) M) (ends_by term_more rule_more (Keyword Do ∷ []) (past (Keyword Do) M) (begins_past (Keyword Do) M) refl) (has_past (Keyword Do) Q has)
      term (past_of (Keyword Do) rule) (exact m e) (exact_behind Do (refl, refl, refl) m e)

  exact_while : IsExact (depth n false) (depth n false) [] (while_rule text P Q) (while_rule text N M) (while_at text n term rule)
  unfolding while_rule while_at
  exact_while = exact_frame n While EndWhile (refl, refl, refl) rule_more refl (while_body text P Q) (while_body text N M) (has_then P (past (Keyword Do) Q) some (has_past (Keyword Do) Q has)) (pair_of term (past_of (Keyword Do) rule)) exact_while_body (λ r. source.While r.0 r.1)

  -- ---- one rule or another

  exact_both : (ks js : List Kind) (B C D E : Production source.Rule) → Begins ks C → Begins js E → apart js ks ≡ true → (f h : Reader source.Rule) → IsExact (depth n false) (depth n false) [] B C f → IsExact (depth n false) (depth n false) [] D E h
      → IsExact (depth n false) (depth n false) [] (B or D) (C or E) (either_of ks f h)
  exact_both ks js B C D E b d differ f h i j = exact_or (depth n false) (depth n false) [] [] [] ks js B D C E b d differ refl refl f h i j

  pub exact_block : IsExact (depth n false) (depth n false) [] (block_rule text P Q) (block_rule text N M) (block_at text n term rule)
  unfolding block_rule block_at
  exact_block = exact_both (Keyword Par ∷ []) seq_first (par_rule text P Q) (par_rule text N M) (from_seq text P Q) (from_seq text N M) (begins_par text N M) (begins_from_seq text N M) refl (par_at text n term rule) seq_on exact_par
      (exact_both (Keyword Seq ∷ []) if_first (seq_rule text P Q) (seq_rule text N M) (from_if text P Q) (from_if text N M) (begins_seq text N M) (begins_from_if text N M) refl (seq_at text n term rule) if_on exact_seq
      (exact_both (Keyword If ∷ []) let_first (if_rule text P Q) (if_rule text N M) (from_let text P Q) (from_let text N M) (begins_if text N M) (begins_from_let text N M) refl (if_at text n term rule) let_on exact_if
      (exact_both (Keyword Let ∷ []) forall_first (let_rule text P Q) (let_rule text N M) (from_forall text P Q) (from_forall text N M) (begins_let text N M) (begins_from_forall text N M) refl (let_at text n term rule) forall_on exact_let
      (exact_both (Keyword Forall ∷ []) choose_first (forall_rule text P Q) (forall_rule text N M) (from_choose text P Q) (from_choose text N M) (begins_forall text N M) (begins_from_choose text N M) refl (forall_at text n term rule) choose_on exact_forall
      (exact_both (Keyword Choose ∷ []) iterate_first (choose_rule text P Q) (choose_rule text N M) (from_iterate text P Q) (from_iterate text N M) (begins_choose text N M) (begins_from_iterate text N M) refl (choose_at text n term rule) iterate_on exact_choose
      (exact_both (Keyword Iterate ∷ []) (Keyword While ∷ []) (iterate_rule text P Q) (iterate_rule text N M) (while_rule text P Q) (while_rule text N M) (begins_iterate text N M) (begins_while text N M) refl (iterate_at text n term rule) (while_at text n term rule) exact_iterate exact_while))))))
    where
      iterate_on : Reader source.Rule
      iterate_on = either_of (Keyword Iterate ∷ []) (iterate_at text n term rule) (while_at text n term rule)

      choose_on : Reader source.Rule
      choose_on = either_of (Keyword Choose ∷ []) (choose_at text n term rule) iterate_on

      forall_on : Reader source.Rule
      forall_on = either_of (Keyword Forall ∷ []) (forall_at text n term rule) choose_on

      let_on : Reader source.Rule
      let_on = either_of (Keyword Let ∷ []) (let_at text n term rule) forall_on

      if_on : Reader source.Rule
      if_on = either_of (Keyword If ∷ []) (if_at text n term rule) let_on

      seq_on : Reader source.Rule
      seq_on = either_of (Keyword Seq ∷ []) (seq_at text n term rule) if_on
