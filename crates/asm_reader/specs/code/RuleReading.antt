-- Bridge to the code. What the functions of the code read as rules.
use Rattle.std.specs.Prelude.{◌⊎◌, ℕ, zero, suc, List, [], ◌∷◌, Option, Some, None}
use Rattle.std.proofs.Common.{inl, inr}
use Rattle.asm_syntax.specs.declared.token.Kind.{Kind}
use Rattle.asm_syntax.specs.declared.token.Kind.TheVariants as kind
use Rattle.asm_syntax.specs.declared.token.Kind.TheVariants.{Symbol, Keyword}
use Rattle.asm_syntax.specs.declared.token.Symbol.TheVariants.{Assign, LeftArrow, Equal}
use Rattle.asm_syntax.specs.declared.token.Keyword.{Keyword as ReservedWord}
use Rattle.asm_syntax.specs.declared.token.Keyword.TheVariants.{Skip, Par, EndPar, Seq, EndSeq, If, Then, Else, EndIf, Let, In, EndLet, Forall, With, Do, EndForall, Choose, IfNone, EndChoose, Iterate, EndIterate, While, EndWhile, Result}
use Rattle.asm_syntax.specs.SourceTree as source
use Rattle.asm_syntax.specs.code.Views.{rules_of}
use Rattle.asm_reader.specs.code.Steps.{Reader, refuse, expect, below, pair_of, mapped, either_of, option_of, past_of, before_of, several_of, between_of}
use Rattle.asm_reader.specs.RuleGrammar.{branch}
use Rattle.asm_reader.specs.code.TermReading.{name_at, result_at, binding_at, applied_at, disjunction_at, term_at}

-- what rules begin with
abbrev pub rule_starts : List Kind
rule_starts = Keyword Skip ∷ kind.Name ∷ Keyword Par ∷ Keyword Seq ∷ Keyword If ∷ Keyword Let ∷ Keyword Forall ∷ Keyword Choose ∷ Keyword Iterate ∷ Keyword While ∷ Keyword Result ∷ []

-- a name with its arguments
abbrev pub Applied : Type 0
Applied = source.Name × source.Terms

-- a call, or the assignment or the call with a result that it turns out to be
abbrev pub named_rule : Applied × Option (source.Term ⊎ Applied) → source.Rule
named_rule (first, None) = source.Call None first.0 first.1
named_rule (first, Some (inl t)) = source.Assign first.0 first.1 t
named_rule (first, Some (inr called)) = source.Call (Some first) called.0 called.1

unfoldable pub skip_at : Reader source.Rule
skip_at = mapped (λ _. source.Skip) (expect (Keyword Skip))

-- the rule after a word, if the word is there
unfoldable pub branch_at : ReservedWord → Reader source.Rule → Reader (Option source.Rule)
branch_at word rule = option_of (Keyword word ∷ []) (past_of (Keyword word) rule)

unfoldable pub condition_at : Reader source.Term → Reader (Option source.Term)
condition_at term = option_of (Keyword With ∷ []) (past_of (Keyword With) term)

-- n levels may open, and `term` and `rule` read after one of them has opened
module _ (text : List ℕ) (n : ℕ) (term : Reader source.Term) (rule : Reader source.Rule) where
  -- what may come after a name with its arguments
  abbrev pub value_at : Reader source.Term
  value_at = past_of (Symbol Assign) (disjunction_at text n term)

  abbrev pub called_at : Reader Applied
  called_at = past_of (Symbol LeftArrow) (applied_at text n term)

  abbrev pub behind_name_at : Reader (Option (source.Term ⊎ Applied))
  behind_name_at = option_of (Symbol Assign ∷ Symbol LeftArrow ∷ []) (either_of (Symbol Assign ∷ []) (mapped inl value_at) (mapped inr called_at))

  unfoldable pub named_rule_at : Reader source.Rule
  named_rule_at = mapped named_rule (pair_of (applied_at text n term) behind_name_at)

  unfoldable pub result_rule_at : Reader source.Rule
  result_rule_at = mapped (λ r. source.SetResult r.0 r.1) (pair_of (result_at text) value_at)

  unfoldable pub par_at : Reader source.Rule
  par_at = mapped (λ r. source.Par (rules_of r)) (between_of n (Keyword Par) (Keyword EndPar) (several_of rule_starts rule))

  unfoldable pub seq_at : Reader source.Rule
  seq_at = mapped (λ r. source.Seq (rules_of r)) (between_of n (Keyword Seq) (Keyword EndSeq) (several_of rule_starts rule))

  unfoldable pub if_at : Reader source.Rule
  if_at = mapped (λ r. source.If r.0 r.1.0 (branch r.1.1)) (between_of n (Keyword If) (Keyword EndIf) (pair_of term (pair_of (past_of (Keyword Then) rule) (branch_at Else rule))))

  unfoldable pub let_at : Reader source.Rule
  let_at = mapped (λ r. source.Let r.0 r.1.0 r.1.1) (between_of n (Keyword Let) (Keyword EndLet) (pair_of (name_at text) (pair_of (past_of (Symbol Equal) term) (past_of (Keyword In) rule))))

  unfoldable pub forall_at : Reader source.Rule
  forall_at = mapped (λ r. source.Forall r.0.0 r.0.1 r.1.0 r.1.1)
      (between_of n (Keyword Forall) (Keyword EndForall) (pair_of (binding_at text) (pair_of (condition_at term) (past_of (Keyword Do) rule))))

  unfoldable pub choose_at : Reader source.Rule
  choose_at = mapped (λ r. source.Choose r.0.0 r.0.1 r.1.0 r.1.1.0 (branch r.1.1.1))
      (between_of n (Keyword Choose) (Keyword EndChoose) (pair_of (binding_at text) (pair_of (condition_at term) (pair_of (past_of (Keyword Do) rule) (branch_at IfNone rule)))))

  unfoldable pub iterate_at : Reader source.Rule
  iterate_at = mapped source.Iterate (between_of n (Keyword Iterate) (Keyword EndIterate) rule)

  unfoldable pub while_at : Reader source.Rule
  while_at = mapped (λ r. source.While r.0 r.1) (between_of n (Keyword While) (Keyword EndWhile) (pair_of term (past_of (Keyword Do) rule)))

  unfoldable pub block_at : Reader source.Rule
  block_at = either_of (Keyword Par ∷ []) par_at (either_of (Keyword Seq ∷ []) seq_at (either_of (Keyword If ∷ []) if_at (either_of (Keyword Let ∷ []) let_at
      (either_of (Keyword Forall ∷ []) forall_at (either_of (Keyword Choose ∷ []) choose_at (either_of (Keyword Iterate ∷ []) iterate_at while_at))))))

  unfoldable pub rule_over_at : Reader source.Rule
  rule_over_at = either_of (Keyword Skip ∷ []) skip_at (either_of (kind.Name ∷ []) named_rule_at (either_of (Keyword Result ∷ []) result_rule_at block_at))

module _ (text : List ℕ) where
  unfoldable pub rule_at : ℕ → Reader source.Rule
  rule_at zero = rule_over_at text zero refuse refuse
  rule_at (suc n) = rule_over_at text (suc n) (term_at text n) (rule_at n)

  -- parts of rules in which n levels may open: rules, a term or a rule before a word, a rule after a
  -- word that may be missing, and the same before another word
  abbrev pub rules_at : ℕ → Reader (List source.Rule)
  rules_at n = several_of rule_starts (rule_at n)

  abbrev pub term_before_at : ℕ → ReservedWord → Reader source.Term
  term_before_at n word = before_of (Keyword word) (term_at text n)

  abbrev pub body_at : ℕ → ReservedWord → Reader source.Rule
  body_at n end = before_of (Keyword end) (rule_at n)

  abbrev pub rule_behind_at : ℕ → ReservedWord → Reader (Option source.Rule)
  rule_behind_at n word = branch_at word (rule_at n)

  abbrev pub last_branch_at : ℕ → (word end : ReservedWord) → Reader (Option source.Rule)
  last_branch_at n word end = before_of (Keyword end) (rule_behind_at n word)

-- the same, with the readers of what comes after one of n levels
module _ (text : List ℕ) (n : ℕ) where
  abbrev pub value_in : Reader source.Term
  value_in = value_at text n (below (term_at text) n) (below (rule_at text) n)

  abbrev pub called_in : Reader Applied
  called_in = called_at text n (below (term_at text) n) (below (rule_at text) n)

  abbrev pub named_rule_in : Reader source.Rule
  named_rule_in = named_rule_at text n (below (term_at text) n) (below (rule_at text) n)

  abbrev pub result_rule_in : Reader source.Rule
  result_rule_in = result_rule_at text n (below (term_at text) n) (below (rule_at text) n)

  abbrev pub par_in : Reader source.Rule
  par_in = par_at text n (below (term_at text) n) (below (rule_at text) n)

  abbrev pub seq_in : Reader source.Rule
  seq_in = seq_at text n (below (term_at text) n) (below (rule_at text) n)

  abbrev pub if_in : Reader source.Rule
  if_in = if_at text n (below (term_at text) n) (below (rule_at text) n)

  abbrev pub let_in : Reader source.Rule
  let_in = let_at text n (below (term_at text) n) (below (rule_at text) n)

  abbrev pub forall_in : Reader source.Rule
  forall_in = forall_at text n (below (term_at text) n) (below (rule_at text) n)

  abbrev pub choose_in : Reader source.Rule
  choose_in = choose_at text n (below (term_at text) n) (below (rule_at text) n)

  abbrev pub iterate_in : Reader source.Rule
  iterate_in = iterate_at text n (below (term_at text) n) (below (rule_at text) n)

  abbrev pub while_in : Reader source.Rule
  while_in = while_at text n (below (term_at text) n) (below (rule_at text) n)

  abbrev pub block_in : Reader source.Rule
  block_in = block_at text n (below (term_at text) n) (below (rule_at text) n)

  -- a binding and maybe a condition, between a word and `do`
  abbrev pub ranged_in : ReservedWord → Reader ((source.Name × source.Name) × Option source.Term)
  ranged_in word = between_of n (Keyword word) (Keyword Do) (pair_of (binding_at text) (condition_at (below (term_at text) n)))

  -- the name between `let` and `=`
  abbrev pub let_name_in : Reader source.Name
  let_name_in = between_of n (Keyword Let) (Symbol Equal) (name_at text)
