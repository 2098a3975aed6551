-- Free. What a name may stand for in a term, by its number.
--     arguments_are      how many arguments it has
--     universe_is        whether it is a universe
--     function_arity_is      how many arguments a function of the signature has
use Rattle.std.proofs.Common.{◌≡◌, ℕ, ◌<◌, Bool, true, false, List, map, length, slice_get, Option, Some, None, refl, sym, ap, subst, ◌∙◌, inl, inr, arith}
use Rattle.std.specs.Prelude.{option_map}
use Rattle.std.proofs.lemmas.List.{length-map}
use Rattle.std.proofs.lemmas.Option.{same_Some, slice_get_cases}
use Rattle.asm_state.specs.declared.function.Function as state
use Rattle.asm_state.specs.declared.function.FunctionKind.{FunctionKind}
use Rattle.asm_state.specs.declared.function.FunctionKind.TheVariants as kind
use Rattle.asm_syntax.specs.SourceTree.{Name, Term, Spec}
use Rattle.asm_check.specs.Faults.{IsWellFormed}
use Rattle.asm_check.specs.Laws.{IsDeclaredBy}
use Rattle.asm_check.specs.Limits.{is_universe}
use Rattle.asm_check.specs.Names as names
use Rattle.asm_check.specs.Names.{Text, Declaration, Meaning, InTerm, AsUniverse, is_known, arguments_of, declared, function_of}
use Rattle.asm_check.specs.Numbers.{is_element, is_table, is_derived, universes_of, elements_of, functions_of, derived_of, rules_of, all_of, number_in, named_as, named, declared_with_number}
use Rattle.asm_check.specs.Shapes.{shape_of, index_among, texts_of}
use Rattle.asm_check.specs.declared.checked.NameNumber.{NameNumber}
use Rattle.asm_check.specs.declared.checked.NameNumber.TheVariants as number
use Rattle.asm_check.specs.code.uses.TermFaultLists.{arity_of, arguments_by, universe_by}
use Rattle.asm_check.proofs.NumberLemmas.NamesNumbered.{index_like}
use Rattle.asm_check.proofs.NumberLemmas.SignatureNumbers.{signature_numbers}

-- ---- by the number of a name

module _ (spec : Spec) (x : Text) where
  -- a universe or a rule has no arguments in a term
  no_universe : (o : Option ℕ) → arguments_by spec (option_map number.Universe o) ≡ None
  no_universe None = refl
  no_universe (Some n) = refl

  no_rule : (o : Option ℕ) → arguments_by spec (option_map number.Rule o) ≡ None
  no_rule None = refl
  no_rule (Some n) = refl

  -- what is declared so has a number among its like
  number_like : (is_like : Meaning → Bool) (make : ℕ → NameNumber) (m : Meaning) → declared spec x ≡ Some m → is_like m ≡ true
      → (n : ℕ) × (option_map make (number_in (all_of is_like spec) x) ≡ Some (make n)) × (declared_with_number (all_of is_like spec) n ≡ Some m)
  number_like is_like make m means kind = let at = index_like spec x m means is_like kind in (at.0, ap (option_map make) at.1, at.2)

  by_element : (k : ℕ) → declared spec x ≡ Some (names.Element k) → arguments_by spec (option_map number.Element (number_in (elements_of spec) x)) ≡ Some 0
  by_element k means = let at = number_like is_element number.Element (names.Element k) means refl in ap (arguments_by spec) at.1

  by_function : (m : Meaning) → declared spec x ≡ Some m → is_table m ≡ true → arguments_by spec (option_map number.Function (number_in (functions_of spec) x)) ≡ Some (arity_of m)
  by_function m means kind = let at = number_like is_table number.Function m means kind in ap (arguments_by spec) at.1 ∙ ap (option_map arity_of) at.2

  by_derived : (xs : List Name) (t : Term) → declared spec x ≡ Some (names.Derived xs t) → arguments_by spec (option_map number.Derived (number_in (derived_of spec) x)) ≡ Some (length xs)
  by_derived xs t means = let at = number_like is_derived number.Derived (names.Derived xs t) means refl in ap (arguments_by spec) at.1 ∙ ap (option_map arity_of) at.2

  arguments_as : (o : Option Meaning) → declared spec x ≡ o → arguments_by spec (named_as spec x o) ≡ arguments_of InTerm false o
  arguments_as None means = refl
  arguments_as (Some names.Predeclared) means = refl
  arguments_as (Some (names.Range first last)) means = no_universe (number_in (universes_of spec) x)
  arguments_as (Some (names.Enumeration k)) means = no_universe (number_in (universes_of spec) x)
  arguments_as (Some (names.Element k)) means = by_element k means
  arguments_as (Some (names.Controlled domain)) means = by_function (names.Controlled domain) means refl
  arguments_as (Some (names.Static domain)) means = by_function (names.Static domain) means refl
  arguments_as (Some (names.Derived xs t)) means = by_derived xs t means
  arguments_as (Some (names.NamedRule xs P)) means = no_rule (number_in (rules_of spec) x)

  pub arguments_are : arguments_by spec (named spec x) ≡ arguments_of InTerm false (declared spec x)
  unfolding named
  arguments_are = arguments_as (declared spec x) refl

  other_number : (make : ℕ → NameNumber) → ((n : ℕ) → universe_by (Some (make n)) ≡ false) → (o : Option ℕ) → universe_by (option_map make o) ≡ false
  other_number make other None = refl
  other_number make other (Some n) = other n

  by_universe : (m : Meaning) → declared spec x ≡ Some m → is_universe m ≡ true → universe_by (option_map number.Universe (number_in (universes_of spec) x)) ≡ true
  by_universe m means kind = let at = number_like is_universe number.Universe m means kind in ap universe_by at.1

  universe_as : (o : Option Meaning) → declared spec x ≡ o → universe_by (named_as spec x o) ≡ is_known AsUniverse false o
  universe_as None means = refl
  universe_as (Some names.Predeclared) means = refl
  universe_as (Some (names.Range first last)) means = by_universe (names.Range first last) means refl
  universe_as (Some (names.Enumeration k)) means = by_universe (names.Enumeration k) means refl
  universe_as (Some (names.Element k)) means = other_number number.Element (λ n. refl) (number_in (elements_of spec) x)
  universe_as (Some (names.Controlled domain)) means = other_number number.Function (λ n. refl) (number_in (functions_of spec) x)
  universe_as (Some (names.Static domain)) means = other_number number.Function (λ n. refl) (number_in (functions_of spec) x)
  universe_as (Some (names.Derived xs t)) means = other_number number.Derived (λ n. refl) (number_in (derived_of spec) x)
  universe_as (Some (names.NamedRule xs P)) means = other_number number.Rule (λ n. refl) (number_in (rules_of spec) x)

  pub universe_is : universe_by (named spec x) ≡ is_known AsUniverse false (declared spec x)
  unfolding named
  universe_is = universe_as (declared spec x) refl

-- ---- by the number of a function

same_arity : (k : FunctionKind) (domain : List Name) → arity_of (function_of k domain) ≡ length domain
same_arity kind.Controlled domain = refl
same_arity kind.Static domain = refl

module _ (spec : Spec) (good : IsWellFormed spec) (f : ℕ) where
  abbrev index_of : Name → ℕ
  index_of u = index_among (texts_of (universes_of spec)) u.text

  of_declaration : (d : Declaration) (function : state.Function) → IsDeclaredBy spec d (Some function) → arity_of d.meaning ≡ length function.domain
  of_declaration d function it =
      let made = same_Some _ _ it.given_so in
      let same : function.domain ≡ map index_of it.domain = ap (λ (g : state.Function). g.domain) made in
      ap (λ (e : Declaration). arity_of e.meaning) it.declared_so ∙ same_arity it.kind it.domain ∙ sym (ap length same ∙ length-map it.domain index_of)

  -- the function with this number in the signature has as many universes as its declaration
  pub function_arity_is : (function : state.Function) → f < length (functions_of spec) → slice_get (shape_of spec).functions f ≡ Some function
      → option_map arity_of (declared_with_number (functions_of spec) f) ≡ Some (length function.domain)
  function_arity_is function below at =
      elim (slice_get_cases (functions_of spec) f).1 [
        | inl it ↦
            ap (λ o. option_map arity_of (option_map (λ (d : Declaration). d.meaning) o)) it.2
            ∙ ap (λ (n : ℕ). Some n) (of_declaration it.0 function (subst (IsDeclaredBy spec it.0) at ((signature_numbers spec good).functions f it.0 it.2)))
        | inr none ↦ let short = none.0 in absurd (omega (arith, below, short))
      ]

  pub function_in_range : f < length (functions_of spec) → f < length (shape_of spec).functions
  function_in_range below = let count = (signature_numbers spec good).count_of_functions in omega (arith, below, count)
