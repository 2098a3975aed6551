-- Free. The numbers of universes and of elements, by their names.
use Rattle.std.proofs.Common.{◌≡◌, ℕ, suc, ◌+◌, ◌≤◌, Bool, true, false, cond, not, ◌||◌, nat_eq, nat_lt, List, [], ◌∷◌, length, Option, Some, None, refl, sym, ap, subst, ◌∙◌, arith, true≢false}
use Rattle.std.specs.Prelude.{find, option_map}
use Rattle.std.specs.Cmp.Lexicographic.{pointwise}
use Rattle.std.specs.List.{list_any, position_or_len}
use Rattle.std.specs.Map.{lookup}
use Rattle.std.specs.Option.{option_flatten}
use Rattle.std.proofs.lemmas.Bool.Decides.{nat_tests}
use Rattle.asm_syntax.specs.SourceTree.{Spec}
use Rattle.asm_check.specs.declared.checked.NameNumber.{NameNumber}
use Rattle.asm_check.specs.declared.checked.NameNumber.TheVariants as number
use Rattle.asm_check.specs.declared.numbers.numbering.Numbering.{Numbering}
use Rattle.asm_check.specs.Limits.{is_universe}
use Rattle.asm_check.specs.Names as names
use Rattle.asm_check.specs.Names.{Text, Declaration, Meaning, is_text, is_among, first_declarations, declared}
use Rattle.asm_check.specs.Numbers.{is_element, universes_of, elements_of, functions_of, derived_of, rules_of, number_in, named_as, named}
use Rattle.asm_check.specs.code.numbers.NumberTables.{IsNumberingOf, declared_like, universe_or, element_or}
use Rattle.asm_check.specs.Shapes.{index_among, texts_of}
use Rattle.asm_check.proofs.NameLemmas.EachNameOnce.{AreApart, declarations_apart}
use Rattle.asm_check.proofs.NameLemmas.FirstOfName.{same_text}
use Rattle.asm_check.proofs.NameLemmas.FirstDeclarations.{first_stands}
use Rattle.asm_check.proofs.NumberLemmas.IndicesWhere.{where_length}
use Rattle.asm_check.proofs.NumberLemmas.UniversePositions.{is_named, index_is}
use Rattle.asm_check.proofs.NumberLemmas.Numbered.{none_like, found_named}

-- ---- a name that isn't declared so isn't among those that are

abbrev passes : (Meaning → Bool) → Option Meaning → Bool
passes is_like None = false
passes is_like (Some m) = is_like m

abbrev meaning_in : List Declaration → Text → Option Meaning
meaning_in ds x = option_map (λ d. d.meaning) (find (is_named x) ds)

none_among : (is_like : Meaning → Bool) (ds : List Declaration) (x : Text) → AreApart (texts_of ds) → passes is_like (meaning_in ds x) ≡ false → list_any (is_named x) (declared_like is_like ds) ≡ false
none_among is_like [] x apart other = refl
none_among is_like (d ∷ ds) x apart other = by_text (is_text d.name.text x) refl other (none_among is_like ds x apart.1)
  where
    by_kind : (b : Bool) → is_text d.name.text x ≡ false → list_any (is_named x) (declared_like is_like ds) ≡ false → list_any (is_named x) (cond b (d ∷ declared_like is_like ds) (declared_like is_like ds)) ≡ false
    by_kind true e rest = ap (λ t. t || list_any (is_named x) (declared_like is_like ds)) e ∙ rest
    by_kind false e rest = rest

    by_text : (b : Bool) → is_text d.name.text x ≡ b → passes is_like (option_map (λ d. d.meaning) (cond b (Some d) (find (is_named x) ds))) ≡ false
        → (passes is_like (meaning_in ds x) ≡ false → list_any (is_named x) (declared_like is_like ds) ≡ false) → list_any (is_named x) (declared_like is_like (d ∷ ds)) ≡ false
    by_text true e other rest =
        ap (λ b. list_any (is_named x) (cond b (d ∷ declared_like is_like ds) (declared_like is_like ds))) other
        ∙ none_like is_like ds x (subst (λ y. is_among (texts_of ds) y ≡ false) (same_text d.name.text x e) apart.0)
    by_text false e other rest = by_kind (is_like d.meaning) e (rest other)

behind_all : {X : Type 0} (p : X → Bool) (xs : List X) → list_any p xs ≡ false → length xs ≡ position_or_len p xs
behind_all p [] none = refl
behind_all p (x ∷ xs) none = by_test (p x) none (behind_all p xs)
  where
    by_test : (b : Bool) → (b || list_any p xs) ≡ false → (list_any p xs ≡ false → length xs ≡ position_or_len p xs) → suc (length xs) ≡ cond (not b) (1 + position_or_len p xs) 0
    by_test true none rest = absurd (true≢false none)
    by_test false none rest = let e = rest none in omega (arith, e)

within : {X : Type 0} (p : X → Bool) (xs : List X) → position_or_len p xs ≤ length xs
within p [] = omega arith
within p (x ∷ xs) = elim (p x) as (λ b. cond (not b) (1 + position_or_len p xs) 0 ≤ length (x ∷ xs)) [ true ↦ omega arith | false ↦ let less = within p xs in omega (arith, less) ]

-- ---- what a name stands for, as a number among those of a kind

-- `read` takes a number of the kind, and else the other one
module _ (spec : Spec) (x : Text) (is_like : Meaning → Bool) (read : ℕ → Option NameNumber → ℕ) (none : (other : ℕ) → read other None ≡ other) where
  abbrev among : List Declaration
  among = declared_like is_like (first_declarations spec)

  past : (m : Option Meaning) → declared spec x ≡ m → passes is_like m ≡ false → length among ≡ position_or_len (is_named x) among
  past m is out =
      behind_all (is_named x) among
      (none_among is_like (first_declarations spec) x (declarations_apart spec) (ap (passes is_like) (first_stands spec x ∙ is) ∙ out))

  unnumbered : (m : Option Meaning) → declared spec x ≡ m → passes is_like m ≡ false → read (length among) None ≡ position_or_len (is_named x) among
  unnumbered m is out = none (length among) ∙ past m is out

  own : (make : ℕ → NameNumber) → ((other n : ℕ) → read other (Some (make n)) ≡ n) → read (length among) (option_map make (number_in among x)) ≡ position_or_len (is_named x) among
  own make reads = by_test (nat_lt (position_or_len (is_named x) among) (length among)) refl
    where
      by_test : (b : Bool) → nat_lt (position_or_len (is_named x) among) (length among) ≡ b
          → read (length among) (option_map make (cond b (Some (position_or_len (is_named x) among)) None)) ≡ position_or_len (is_named x) among
      by_test true e = reads (length among) (position_or_len (is_named x) among)
      by_test false e =
          let most = within (is_named x) among in
          let least : length among ≤ position_or_len (is_named x) among = grind (arith, nat_tests, e) in
          none (length among) ∙ omega (arith, most, least)

  other : (make : ℕ → NameNumber) → ((other n : ℕ) → read other (Some (make n)) ≡ other) → (o : Option ℕ) (m : Meaning) → declared spec x ≡ Some m → is_like m ≡ false
      → read (length among) (option_map make o) ≡ position_or_len (is_named x) among
  other make reads None m is out = unnumbered (Some m) is out
  other make reads (Some n) m is out = reads (length among) n ∙ past (Some m) is out

module _ (spec : Spec) (x : Text) where
  universe_as : (m : Option Meaning) → declared spec x ≡ m → universe_or (length (universes_of spec)) (named_as spec x m) ≡ position_or_len (is_named x) (universes_of spec)
  universe_as None is = unnumbered spec x is_universe universe_or (λ o. refl) None is refl
  universe_as (Some names.Predeclared) is = unnumbered spec x is_universe universe_or (λ o. refl) (Some names.Predeclared) is refl
  universe_as (Some (names.Range first last)) is = own spec x is_universe universe_or (λ o. refl) number.Universe (λ o n. refl)
  universe_as (Some (names.Enumeration k)) is = own spec x is_universe universe_or (λ o. refl) number.Universe (λ o n. refl)
  universe_as (Some (names.Element k)) is = other spec x is_universe universe_or (λ o. refl) number.Element (λ o n. refl) (number_in (elements_of spec) x) (names.Element k) is refl
  universe_as (Some (names.Controlled domain)) is = other spec x is_universe universe_or (λ o. refl) number.Function (λ o n. refl) (number_in (functions_of spec) x) (names.Controlled domain) is refl
  universe_as (Some (names.Static domain)) is = other spec x is_universe universe_or (λ o. refl) number.Function (λ o n. refl) (number_in (functions_of spec) x) (names.Static domain) is refl
  universe_as (Some (names.Derived xs t)) is = other spec x is_universe universe_or (λ o. refl) number.Derived (λ o n. refl) (number_in (derived_of spec) x) (names.Derived xs t) is refl
  universe_as (Some (names.NamedRule xs P)) is = other spec x is_universe universe_or (λ o. refl) number.Rule (λ o n. refl) (number_in (rules_of spec) x) (names.NamedRule xs P) is refl

  element_as : (m : Option Meaning) → declared spec x ≡ m → element_or (length (elements_of spec)) (named_as spec x m) ≡ position_or_len (is_named x) (elements_of spec)
  element_as None is = unnumbered spec x is_element element_or (λ o. refl) None is refl
  element_as (Some names.Predeclared) is = unnumbered spec x is_element element_or (λ o. refl) (Some names.Predeclared) is refl
  element_as (Some (names.Range first last)) is = other spec x is_element element_or (λ o. refl) number.Universe (λ o n. refl) (number_in (universes_of spec) x) (names.Range first last) is refl
  element_as (Some (names.Enumeration k)) is = other spec x is_element element_or (λ o. refl) number.Universe (λ o n. refl) (number_in (universes_of spec) x) (names.Enumeration k) is refl
  element_as (Some (names.Element k)) is = own spec x is_element element_or (λ o. refl) number.Element (λ o n. refl)
  element_as (Some (names.Controlled domain)) is = other spec x is_element element_or (λ o. refl) number.Function (λ o n. refl) (number_in (functions_of spec) x) (names.Controlled domain) is refl
  element_as (Some (names.Static domain)) is = other spec x is_element element_or (λ o. refl) number.Function (λ o n. refl) (number_in (functions_of spec) x) (names.Static domain) is refl
  element_as (Some (names.Derived xs t)) is = other spec x is_element element_or (λ o. refl) number.Derived (λ o n. refl) (number_in (derived_of spec) x) (names.Derived xs t) is refl
  element_as (Some (names.NamedRule xs P)) is = other spec x is_element element_or (λ o. refl) number.Rule (λ o n. refl) (number_in (rules_of spec) x) (names.NamedRule xs P) is refl

  universe_of_name : universe_or (length (universes_of spec)) (named spec x) ≡ index_among (texts_of (universes_of spec)) x
  unfolding named
  universe_of_name = universe_as (declared spec x) refl ∙ sym (index_is (universes_of spec) x)

  element_of_name : element_or (length (elements_of spec)) (named spec x) ≡ index_among (texts_of (elements_of spec)) x
  unfolding named
  element_of_name = element_as (declared spec x) refl ∙ sym (index_is (elements_of spec) x)

-- ---- what the numbering finds

module _ (spec : Spec) (n : Numbering) (it : IsNumberingOf (first_declarations spec) n) (x : Text) (count : ℕ) (found : Option NameNumber) (answered : found ≡ option_flatten (lookup (pointwise nat_eq x) n.names)) where
  pub universe_numbered : count ≡ length n.indices.universes.items → universe_or count found ≡ index_among (texts_of (universes_of spec)) x
  universe_numbered counted =
      ap (λ c. universe_or c found) (counted ∙ ap length it.indices.universes ∙ where_length (λ (d : Declaration). is_universe d.meaning) (first_declarations spec))
      ∙ ap (universe_or (length (universes_of spec))) (answered ∙ found_named spec n x it)
      ∙ universe_of_name spec x

  pub element_numbered : count ≡ length n.indices.elements.items → element_or count found ≡ index_among (texts_of (elements_of spec)) x
  element_numbered counted =
      ap (λ c. element_or c found) (counted ∙ ap length it.indices.elements ∙ where_length (λ (d : Declaration). is_element d.meaning) (first_declarations spec))
      ∙ ap (element_or (length (elements_of spec))) (answered ∙ found_named spec n x it)
      ∙ element_of_name spec x
