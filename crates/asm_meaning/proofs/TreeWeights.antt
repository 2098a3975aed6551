-- Free. What falls on the way of a recursion over the code's tree: the lemmas that are public are
-- the clauses of tree_weights.
use Rattle.std.proofs.Common.{◌≡◌, ℕ, zero, suc, ◌+◌, ◌*◌, ◌<◌, List, [], ◌∷◌, length, map, Option, Some, None, Box, Global, refl, sym, ap, subst, ◌∙◌, arith}
use Rattle.std.specs.Prelude.{slice_index_or}
use Rattle.asm_state.specs.declared.value.Value.{Value}
use Rattle.asm_syntax.specs.PlainTree.{plain_term, plain_terms, plain_rule}
use Rattle.asm_syntax.specs.Tree as tree
use Rattle.asm_syntax.specs.Tree.{Name, Terms, Named}
use Rattle.asm_syntax.specs.code.Views.{name_of, term_of, terms_of, rule_of, spec_of}
use Rattle.asm_syntax.specs.declared.name.Name as syntax
use Rattle.asm_syntax.specs.declared.rule.Rule.{Rule}
use Rattle.asm_syntax.specs.declared.term.Term.{Term}
use Rattle.asm_syntax.specs.declared.term.Term.TheVariants as term
use Rattle.asm_check.specs.Names as names
use Rattle.asm_check.specs.Numbers.{declared_with_number, named, rules_of}
use Rattle.asm_check.specs.Ranks.{derived_rank, rule_rank}
use Rattle.asm_check.specs.declared.checked.Checked.{Checked}
use Rattle.asm_check.specs.declared.checked.NameNumber.{NameNumber as Number}
use Rattle.asm_check.specs.declared.checked.NameNumber.TheVariants as number
use Rattle.asm_meaning.specs.Declarations.{numbered}
use Rattle.asm_meaning.specs.code.MeantTrees.{text_of}
use Rattle.asm_meaning.specs.Program.{Program, Declared, Derived, NamedRule, declared, Environment, bound_to}
use Rattle.asm_meaning.specs.code.TreeWeights.{term_weight, named_weight, body_weight, rules_in, rules_in_all, in_body}
use Rattle.asm_meaning.specs.Value.{nesting}
use Rattle.asm_meaning.specs.code.TermValues.{program}
use Rattle.asm_meaning.specs.code.Weights.{called_size, rule_size, rule_sizes, rule_size_within, rule_weight, weight, WeightsFall}
use Rattle.asm_meaning.proofs.MeantDeclarations.{program_declares}
use Rattle.asm_meaning.proofs.NumberedValues.{numbered_names-rule as numbered_rule}
use Rattle.asm_meaning.proofs.PlainForms.{plain_terms-of_not as plain_not, plain_terms-negative as plain_negative}
use Rattle.asm_meaning.proofs.RanksInPrograms.{declared_ranks-derived as ranked, declared_ranks-derived_low as rank_low, declared_ranks-rules as rules_ranked, declared_ranks-rule_low as rule_rank_low}
use Rattle.asm_meaning.proofs.Weights.{term_weights_fall, call_weights_fall}

-- ---- terms

falls : (checked : Checked) (e : Environment) → WeightsFall (program checked) (derived_rank (spec_of checked.spec)) e
falls checked e = term_weights_fall (program checked) (derived_rank (spec_of checked.spec)) e (ranked (spec_of checked.spec) checked.well_formed)

is_low : (checked : Checked) (x : Name) → derived_rank (spec_of checked.spec) x < nesting
is_low checked x = rank_low (spec_of checked.spec) x checked.well_formed

module _ (checked : Checked) (e : Environment) (t : Term) where
  pub tree_weights-of_not : (inner : Box Term Global) → t ≡ term.Not inner → (u : Term) → u ≡ inner.value → term_weight (program checked) e u < term_weight (program checked) e t
  tree_weights-of_not inner is u same =
      let it = (falls checked e).at_not (plain_term (term_of inner.value)) in
      omega (arith, it, ap (term_weight (program checked) e) same, ap (weight (program checked) e) (plain_not t inner is))

  pub tree_weights-negative : (inner : Box Term Global) → t ≡ term.Negative inner → (u : Term) → u ≡ inner.value → term_weight (program checked) e u < term_weight (program checked) e t
  tree_weights-negative inner is u same =
      let it = (falls checked e).at_negative (plain_term (term_of inner.value)) in
      omega (arith, it, ap (term_weight (program checked) e) same, ap (weight (program checked) e) (plain_negative t inner is))

-- each argument is lighter than the name with all of them
pub tree_weights-argument : (checked : Checked) (e : Environment) (x : Name) (ts : List Term) (i : ℕ) (t : Term) → i < length ts → t ≡ slice_index_or ts i t
    → term_weight (program checked) e t < named_weight (program checked) e x ts
tree_weights-argument checked e x [] i t within is = absurd (omega arith)
tree_weights-argument checked e x (u ∷ ts) zero t within is =
    let lighter = (falls checked e).at_argument x (plain_term (term_of u)) (plain_terms (terms_of (map term_of ts))) in
    subst (λ t. term_weight (program checked) e t < named_weight (program checked) e x (u ∷ ts)) (sym is) lighter
tree_weights-argument checked e x (u ∷ ts) (suc i) t within is =
    let rest = tree_weights-argument checked e x ts i t (omega arith) is in
    let lighter = (falls checked e).at_later_argument x (plain_term (term_of u)) (plain_terms (terms_of (map term_of ts))) in
    omega (arith, rest, lighter)

by_declared : (program : Program) (rank : Name → ℕ) (e : Environment) → WeightsFall program rank e → (x : Name) (ts : Terms) (vs : List Value) → bound_to e x ≡ None → rank x < nesting
    → (it : Option Declared) → declared program x ≡ it → body_weight program it vs < 4 * weight program e (Named x ts) + 1
by_declared program rank e fall x ts vs free low (Some (Derived xs t)) d = let lighter = fall.at_derived x ts xs t vs free d low in omega (arith, lighter)
by_declared program rank e fall x ts vs free low it d = omega arith

-- so is the body of the name that isn't bound
pub tree_weights-body : (checked : Checked) (e : Environment) (x : Name) (ts : List Term) (it : Option Number) (vs : List Value) → bound_to e x ≡ None → it ≡ named (spec_of checked.spec) x
    → body_weight (program checked) (numbered (spec_of checked.spec) it) vs < 4 * named_weight (program checked) e x ts + 1
tree_weights-body checked e x ts it vs free is =
    by_declared (program checked) (derived_rank (spec_of checked.spec)) e (falls checked e) x (plain_terms (terms_of (map term_of ts))) vs free (is_low checked x)
    (numbered (spec_of checked.spec) it) (program_declares (spec_of checked.spec) x ∙ ap (numbered (spec_of checked.spec)) (sym is))

-- ---- rules

declared_rule : (checked : Checked) (f : tree.Name) (r : ℕ) (xs : List syntax.Name) (R : Rule) → named (spec_of checked.spec) f ≡ Some (number.Rule r)
    → declared_with_number (rules_of (spec_of checked.spec)) r ≡ Some (names.NamedRule (map name_of xs) (rule_of R))
    → declared (program checked) f ≡ Some (NamedRule (map text_of xs) (plain_rule (rule_of R)))
declared_rule checked f r xs R is says =
    let spec = spec_of checked.spec in
    program_declares spec f ∙ numbered_rule spec (named spec f) r xs R is says

-- what a rule is made of is its weight
module _ (program : Program) (body : tree.Rule → ℕ) where
  abbrev of_called : tree.Name → ℕ
  of_called f = called_size program body (declared program f)

  mutual
    unfolding rule_size

    size_is : (R : tree.Rule) → rules_in of_called R ≡ rule_size program body R
    size_is tree.Skip = refl
    size_is (tree.Assign f ts t) = refl
    size_is (tree.Call to f ts) = refl
    size_is (tree.Par Ps) = ap (λ k. 1 + k) (sizes_are Ps)
    size_is (tree.Seq Ps) = ap (λ k. 1 + k) (sizes_are Ps)
    size_is (tree.If c P Q) = λ i. 1 + (size_is P i + size_is Q i)
    size_is (tree.Let x t P) = ap (λ k. 1 + k) (size_is P)
    size_is (tree.Forall x u c P) = ap (λ k. 1 + k) (size_is P)
    size_is (tree.Choose x u c P Q) = λ i. 1 + (size_is P i + size_is Q i)
    size_is (tree.Iterate P) = ap (λ k. 1 + k) (size_is P)

    sizes_are : (Ps : tree.Rules) → rules_in_all of_called Ps ≡ rule_sizes program body Ps
    sizes_are tree.no_rules = refl
    sizes_are (tree.rule_then P Ps) = λ i. size_is P i + sizes_are Ps i

rule_within : (program : Program) (R : tree.Rule) → rule_weight program R ≡ rule_size program (rule_size_within program 16) R
unfolding rule_weight rule_size_within
rule_within program R = refl

pub tree_weights-rule : (checked : Checked) (R : tree.Rule) → rules_in (in_body checked) R ≡ rule_weight (program checked) R
tree_weights-rule checked R = size_is (program checked) (rule_size_within (program checked) 16) R ∙ sym (rule_within (program checked) R)

pub tree_weights-call : (checked : Checked) (to : Option (tree.Name × tree.Terms)) (f : tree.Name) (ts : tree.Terms) (r : ℕ) (xs : List syntax.Name) (R : Rule) → named (spec_of checked.spec) f ≡ Some (number.Rule r)
    → declared_with_number (rules_of (spec_of checked.spec)) r ≡ Some (names.NamedRule (map name_of xs) (rule_of R))
    → rules_in (in_body checked) (plain_rule (rule_of R)) < rules_in (in_body checked) (tree.Call to f ts)
tree_weights-call checked to f ts r xs R is says =
    let spec = spec_of checked.spec in
    let fall = (call_weights_fall (program checked) (rule_rank spec) (rules_ranked spec checked.well_formed)).at_call to f ts (map text_of xs) (plain_rule (rule_of R))
    (declared_rule checked f r xs R is says) (rule_rank_low spec f checked.well_formed) in
    let small = tree_weights-rule checked (plain_rule (rule_of R)) in
    let great = tree_weights-rule checked (tree.Call to f ts) in
    omega (arith, fall, small, great)
