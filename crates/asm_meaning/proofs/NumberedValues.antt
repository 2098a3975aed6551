-- Free. The value of what a number stands for.
use Rattle.std.proofs.Common.{◌≡◌, ℕ, zero, suc, ◌<◌, true, List, [], ◌∷◌, length, map, Option, Some, None, refl, ap, subst, ◌∙◌, arith}
use Rattle.std.specs.List.{All}
use Rattle.std.specs.Prelude.{option_map, slice_get}
use Rattle.std.proofs.lemmas.List.Elements.{filter_passes}
use Rattle.asm_state.specs.declared.value.Value.{Value}
use Rattle.asm_state.specs.declared.value.Value.TheVariants.{Undef}
use Rattle.asm_state.specs.Location.{State}
use Rattle.asm_state.specs.Signature.{Shape}
use Rattle.asm_syntax.specs.SourceTree.{Spec}
use Rattle.asm_syntax.specs.PlainTree.{plain_term, plain_rule}
use Rattle.asm_syntax.specs.code.Views.{term_of, name_of, rule_of}
use Rattle.asm_syntax.specs.declared.name.Name.{Name}
use Rattle.asm_syntax.specs.declared.rule.Rule.{Rule}
use Rattle.asm_syntax.specs.declared.term.Term.{Term}
use Rattle.asm_check.proofs.NumberLemmas.SignatureNumbers.{signature_numbers}
use Rattle.asm_check.specs.Faults.{IsWellFormed}
use Rattle.asm_check.specs.Limits.{is_rule}
use Rattle.asm_check.specs.code.numbers.NumberTables.{IsInRange}
use Rattle.asm_check.specs.Names as names
use Rattle.asm_check.specs.Names.{Meaning, Declaration, first_declarations}
use Rattle.asm_check.specs.Numbers.{elements_of, functions_of, derived_of, rules_of, declared_with_number}
use Rattle.asm_check.specs.Shapes.{shape_of}
use Rattle.asm_check.specs.declared.checked.NameNumber.{NameNumber}
use Rattle.asm_check.specs.declared.checked.NameNumber.TheVariants as number
use Rattle.asm_meaning.specs.Declarations.{numbered, body_of}
use Rattle.asm_meaning.specs.code.MeantTrees.{text_of}
use Rattle.asm_meaning.specs.Program.{Program, Derived, NamedRule, Universe}
use Rattle.asm_meaning.specs.code.TermValues.{declared_value}

-- the numbers of elements and of functions are below the signature's limits
pub numbered_names-element : (spec : Spec) (it : Option NameNumber) (e : ℕ) → IsWellFormed spec → IsInRange spec it → it ≡ Some (number.Element e) → e < 262_144
numbered_names-element spec it e good below is =
    let own : e < length (elements_of spec) = subst (IsInRange spec) is below in
    let few = (signature_numbers spec good).few_elements in
    omega (arith, few, own)

pub numbered_names-function : (spec : Spec) (shape : Shape) (it : Option NameNumber) (f : ℕ) → IsWellFormed spec → shape ≡ shape_of spec → IsInRange spec it → it ≡ Some (number.Function f)
    → f < length shape.functions
numbered_names-function spec shape it f good shaped below is =
    let own : f < length (functions_of spec) = subst (IsInRange spec) is below in
    let same = (signature_numbers spec good).count_of_functions in
    let held : length shape.functions ≡ length (shape_of spec).functions = ap (λ s. length s.functions) shaped in
    omega (arith, same, held, own)

-- the texts of names in the source tree are those of the names
texts : (xs : List Name) → map names.text_of (map name_of xs) ≡ map text_of xs
texts [] = refl
texts (x ∷ xs) = ap (λ ys. x.text ∷ ys) (texts xs)

-- a derived function with the code's parameters and body
pub numbered_names-derived : (spec : Spec) (it : Option NameNumber) (d : ℕ) (xs : List Name) (t : Term) → it ≡ Some (number.Derived d)
    → declared_with_number (derived_of spec) d ≡ Some (names.Derived (map name_of xs) (term_of t))
    → numbered spec it ≡ Some (Derived (map text_of xs) (plain_term (term_of t)))
numbered_names-derived spec it d xs t is meant = ap (numbered spec) is ∙ ap body_of meant ∙ ap (λ ys. Some (Derived ys (plain_term (term_of t)))) (texts xs)

-- a rule with the code's parameters and body
pub numbered_names-rule : (spec : Spec) (it : Option NameNumber) (r : ℕ) (xs : List Name) (R : Rule) → it ≡ Some (number.Rule r)
    → declared_with_number (rules_of spec) r ≡ Some (names.NamedRule (map name_of xs) (rule_of R))
    → numbered spec it ≡ Some (NamedRule (map text_of xs) (plain_rule (rule_of R)))
numbered_names-rule spec it r xs R is meant = ap (numbered spec) is ∙ ap body_of meant ∙ ap (λ ys. Some (NamedRule ys (plain_rule (rule_of R)))) (texts xs)

-- ---- what has no value

module _ (program : Program) (A : State) (vs : List Value) where
  rule_undef : (m : Meaning) → is_rule m ≡ true → Undef ≡ declared_value program A (body_of (Some m)) vs
  rule_undef (names.Derived xs t) is = cc
  rule_undef m is = refl

  rules_undef : (ds : List Declaration) (r : ℕ) → All (λ d. is_rule d.meaning ≡ true) ds → Undef ≡ declared_value program A (body_of (declared_with_number ds r)) vs
  rules_undef [] r each = refl
  rules_undef (d ∷ ds) zero each = rule_undef d.meaning (each 0 d (omega arith))
  rules_undef (d ∷ ds) (suc r) each = rules_undef ds r (λ k d below. each (suc k) d (omega arith))

  pub numbered_names-universe_undef : (spec : Spec) (n : ℕ) → Undef ≡ declared_value program A (numbered spec (Some (number.Universe n))) vs
  numbered_names-universe_undef spec n = by (slice_get (shape_of spec).universes n)
    where
      by : (o : Option (List Value)) → Undef ≡ declared_value program A (option_map Universe o) vs
      by None = refl
      by (Some us) = refl

  pub numbered_names-rule_undef : (spec : Spec) (r : ℕ) → Undef ≡ declared_value program A (numbered spec (Some (number.Rule r))) vs
  numbered_names-rule_undef spec r = rules_undef (rules_of spec) r (filter_passes (λ d. is_rule d.meaning) (first_declarations spec))
