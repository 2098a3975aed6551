-- Free. Tables of a well-formed specification: their entries are in the domain, and
-- no two have one argument list.
use Rattle.std.proofs.Common.{◌≡◌, ℕ, ◌+◌, ◌-◌, ◌<◌, ◌≤◌, ℤ, pos, negsuc, ◌+ℤ◌, ◌-ℤ◌, ◌≤ℤ◌, Bool, true, false, cond, not, ◌&&◌, ◌||◌, List, [], ◌∷◌, ◌++◌, map, slice_index_or, AllPairs, Option, Some, None, refl, sym, ap, subst, ◌∙◌, arith, inl, inr}
use Rattle.std.specs.Prelude.{Contains, IsTrue, find, flat_map, slice_get, int_le, unsigned_abs}
use Rattle.std.specs.List.{list_any, list_all}
use Rattle.std.specs.Option.{option_map_or}
use Rattle.std.proofs.lemmas.Bool.{false≢true}
use Rattle.std.proofs.lemmas.Bool.Decides.{nat_tests}
use Rattle.std.proofs.lemmas.Int.{ints}
use Rattle.std.proofs.lemmas.List.Elements.{All-map, Contains-append_left, Contains-append_right}
use Rattle.std.proofs.lemmas.List.Folds.{list_any_at}
use Rattle.std.proofs.lemmas.List.Kept.{AllPairs-cons}
use Rattle.std.proofs.lemmas.Option.{get_or_from_slice_get}
use Rattle.asm_state.specs.declared.element.TheConstants.{MAX_ELEMENTS}
use Rattle.asm_state.specs.declared.element.Element.{Element as Member}
use Rattle.asm_state.specs.declared.number.Number.{Number as WholeNumber}
use Rattle.asm_state.specs.declared.value.Value.{Value}
use Rattle.asm_state.specs.declared.value.Value.TheVariants as value
use Rattle.asm_state.specs.code.Codes.{code_of}
use Rattle.asm_state.specs.Operation.{is_same, number_or_undef}
use Rattle.asm_state.specs.Numbers.{at_most}
use Rattle.asm_state.specs.Signature.{domain_in}
use Rattle.asm_state.specs.Tables.{is_in, is_list, AreEntriesIn, IsTableOf}
use Rattle.asm_state.specs.Universe.{element, elements, numbers, count_between, numbers_between}
use Rattle.asm_state.proofs.Domains.{universe_laws}
use Rattle.asm_state.proofs.Lists.{All-from_contained, AllPairs-none, AllPairs-map, Contains-flat_map, Contains-cons_cases, Contains-first, Contains-later, Contains-none}
use Rattle.asm_state.proofs.ValueLaws.{value_laws}
use Rattle.asm_state.specs.declared.function.FunctionKind.{FunctionKind}
use Rattle.asm_syntax.specs.declared.term.Literal.{Literal}
use Rattle.asm_syntax.specs.declared.term.Literal.TheVariants as literal
use Rattle.asm_syntax.specs.SourceTree as source
use Rattle.asm_syntax.specs.SourceTree.{Name, Const, Entry, Given, Spec}
use Rattle.asm_syntax.specs.PlainTree.{literal_value}
use Rattle.asm_check.specs.Names as names
use Rattle.asm_check.specs.Names.{Declaration, Meaning, Range, Enumeration, Element, AsElement, is_text, is_known, declared, first_declarations, plain_use, uses_of, uses_of_const, uses_of_entry, uses_of_codomain}
use Rattle.asm_check.specs.Faults.{IsWellFormed, is_known_use, same_literal, same_const, same_arguments, is_element_in, is_in_universe, fits_domain, table_of, table_entry}
use Rattle.asm_check.specs.Limits.{is_universe, is_element_of, size_of}
use Rattle.asm_check.specs.Numbers.{universes_of, elements_of}
use Rattle.asm_check.specs.Shapes.{index_among, texts_of, domain_by, universe_values, const_value, entry_by, is_element_before, table_by}
use Rattle.asm_check.proofs.NameLemmas.FirstOfName.{same_text, text_itself}
use Rattle.asm_check.proofs.NumberLemmas.Domains.{values_of}
use Rattle.asm_check.proofs.NumberLemmas.ElementNumbers.{number_in, number_small, element_at}
use Rattle.asm_check.proofs.CycleLemmas.HeightsAreRanks.{split}
use Rattle.asm_check.proofs.NameLemmas.ItemLists.{count_like}
use Rattle.asm_check.proofs.NumberLemmas.UniversePositions.{is_named, index_is, at_index, find_kept, first_named, all_known}
use Rattle.asm_check.proofs.NameLemmas.DeclaredOnce.{left_false, right_false}

both : (a b : Bool) → a ≡ true → b ≡ true → (a && b) ≡ true
both a b e f = ap (λ c. c && b) e ∙ f

left_of : (a b : Bool) → (a && b) ≡ true → a ≡ true
left_of true b e = refl
left_of false b e = absurd (false≢true e)

right_of : (a b : Bool) → (a && b) ≡ true → b ≡ true
right_of true b e = e
right_of false b e = absurd (false≢true e)

-- how far one number is from another
gap : (m n : ℤ) → m ≤ℤ n → (i : ℕ) × (m +ℤ pos i ≡ n)
gap (pos a) (pos b) h = (b - a, omega (arith, ints, h))
gap (pos a) (negsuc b) h = absurd (omega (arith, ints, h))
gap (negsuc a) (pos b) h = (a + 1 + b, omega (arith, ints))
gap (negsuc a) (negsuc b) h = (a - b, omega (arith, ints, h))

-- a number from the first to the last is among them
number_among : (first last : ℤ) (n : WholeNumber) → int_le first n.value ≡ true → int_le n.value last ≡ true → list_any (is_same (value.Number n)) (numbers_between first last) ≡ true
number_among first last n low high =
    let above : first ≤ℤ n.value = at_most low in
    let below : n.value ≤ℤ last = at_most high in
    let up = gap first n.value above in
    let over = gap first last (omega (arith, ints, above, below)) in
    let test : int_le first last ≡ true = grind (arith, ints, above, below) in
    let apart : last -ℤ first ≡ pos over.0 = omega (arith, ints, over.1) in
    let count : count_between first last ≡ over.0 + 1 = ap (λ b. cond b (unsigned_abs (last -ℤ first) + 1) 0) test ∙ ap (λ z. unsigned_abs z + 1) apart in
    let short : up.0 < count_between first last = omega (arith, ints, count, up.1, over.1, below) in
    let long = universe_laws.number_count first (count_between first last) in
    let it : value.Number n ≡ slice_index_or (numbers first (count_between first last)) up.0 value.Undef =
    value_laws.number n.value n refl ∙ ap number_or_undef (sym up.1) ∙ sym (get_or_from_slice_get (numbers first (count_between first last)) up.0 (number_or_undef (first +ℤ pos up.0)) value.Undef (universe_laws.number_at first (count_between first last) up.0 short)) in
    list_any_at (is_same (value.Number n)) (numbers first (count_between first last)) up.0 value.Undef (omega (arith, short, long))
    (subst (λ v. is_same (value.Number n) v ≡ true) it ((value_laws.same (value.Number n) (value.Number n)).1 refl))

-- so does an element of a run of elements
element_among : (first count n : ℕ) → first ≤ n → n < first + count → list_any (is_same (element n)) (elements first count) ≡ true
element_among first count n low high =
    let long = universe_laws.element_count first count in
    let index : first + (n - first) ≡ n = omega (arith, low) in
    let it : element n ≡ slice_index_or (elements first count) (n - first) value.Undef = ap element (sym index) ∙ sym (get_or_from_slice_get (elements first count) (n - first) (element (first + (n - first))) value.Undef (universe_laws.element_at first count (n - first) (omega (arith, low, high)))) in
    list_any_at (is_same (element n)) (elements first count) (n - first) value.Undef (omega (arith, low, high, long))
    (subst (λ v. is_same (element n) v ≡ true) it ((value_laws.same (element n) (element n)).1 refl))

none_of : {X : Type 0} (p : X → Bool) (xs : List X) (x : X) → list_any p xs ≡ false → Contains xs x → p x ≡ false
none_of p [] x none it = absurd (Contains-none x it)
none_of p (y ∷ xs) x none it =
    elim (Contains-cons_cases y xs x it) [
      | inl e ↦ subst (λ z. p z ≡ false) e (left_false (p y) (list_any p xs) none)
      | inr rest ↦ none_of p xs x (right_false (p y) (list_any p xs) none) rest
    ]

all_pass : {X : Type 0} (p : X → Bool) (xs : List X) → ((x : X) → Contains xs x → p x ≡ true) → list_all p xs ≡ true
all_pass p [] each = refl
all_pass p (x ∷ xs) each = both (p x) (list_all p xs) (each x (Contains-first x xs)) (all_pass p xs (λ y it. each y (Contains-later x xs y it)))

-- what holds of each element and each one before it
pairs_from : {X : Type 0} (R : X → X → Type 0) (xs : List X) → ((before after : List X) (x y : X) → xs ≡ before ++ y ∷ after → Contains before x → R x y) → AllPairs R xs
pairs_from R [] each = AllPairs-none R
pairs_from R (x ∷ xs) each =
    AllPairs-cons R x xs
    (All-from_contained (R x) xs (λ y it. let parts = split xs y it in each (x ∷ parts.0) parts.1 x y (ap (λ zs. x ∷ zs) parts.2) (Contains-first x parts.0)))
    (pairs_from R xs (λ before after w y parts it. each (x ∷ before) after w y (ap (λ zs. x ∷ zs) parts) (Contains-later x before w it)))

same_member : (n : ℕ) → n < MAX_ELEMENTS → (e : Member) × (element n ≡ value.Element e)
same_member n below = (record { index = n; in_range = below }, sym (value_laws.element_at n (record { index = n; in_range = below }) refl))

truths : (b c : Bool) → b ≡ c → ((b && c) || (not b && not c)) ≡ true
truths true true e = refl
truths false false e = refl
truths true false e = absurd (false≢true (sym e))
truths false true e = absurd (false≢true e)

at_most_itself : (z : ℤ) → int_le z z ≡ true
at_most_itself z = grind (arith, ints)

same_literals : (v w : Literal) → literal_value v ≡ literal_value w → same_literal v w ≡ true
same_literals literal.Undef literal.Undef e = refl
same_literals literal.Undef (literal.Truth c) e = cc
same_literals literal.Undef (literal.Number n) e = cc
same_literals (literal.Truth b) literal.Undef e = cc
same_literals (literal.Truth b) (literal.Truth c) e = let same : b ≡ c = cc in truths b c same
same_literals (literal.Truth b) (literal.Number n) e = cc
same_literals (literal.Number m) literal.Undef e = cc
same_literals (literal.Number m) (literal.Truth c) e = cc
same_literals (literal.Number m) (literal.Number n) e =
    let same : m ≡ n = cc in
    subst (λ k. same_literal (literal.Number m) (literal.Number k) ≡ true) same (both (int_le m.value m.value) (int_le m.value m.value) (at_most_itself m.value) (at_most_itself m.value))

no_literal : (e : Member) (v : Literal) → literal_value v ≡ value.Element e → ⊥
no_literal e literal.Undef h = cc
no_literal e (literal.Truth b) h = cc
no_literal e (literal.Number n) h = cc

known_element : (m : Option Meaning) → is_known AsElement false m ≡ true → (k : ℕ) × (m ≡ Some (Element k))
known_element None e = absurd (false≢true e)
known_element (Some (Element k)) e = (k, refl)
known_element (Some names.Predeclared) e = absurd (false≢true e)
known_element (Some (Range first last)) e = absurd (false≢true e)
known_element (Some (Enumeration k)) e = absurd (false≢true e)
known_element (Some (names.Controlled domain)) e = absurd (false≢true e)
known_element (Some (names.Static domain)) e = absurd (false≢true e)
known_element (Some (names.Derived xs t)) e = absurd (false≢true e)
known_element (Some (names.NamedRule xs P)) e = absurd (false≢true e)

of_element : (k : ℕ) (m : Meaning) → is_element_of k m ≡ true → m ≡ Element k
of_element k (Element j) e = let same : k ≡ j = grind (arith, nat_tests) in ap Element (sym same)
of_element k names.Predeclared e = absurd (false≢true e)
of_element k (Range first last) e = absurd (false≢true e)
of_element k (Enumeration j) e = absurd (false≢true e)
of_element k (names.Controlled domain) e = absurd (false≢true e)
of_element k (names.Static domain) e = absurd (false≢true e)
of_element k (names.Derived xs t) e = absurd (false≢true e)
of_element k (names.NamedRule xs P) e = absurd (false≢true e)

module _ (spec : Spec) (good : IsWellFormed spec) where
  abbrev number_of : Name → ℕ
  number_of x = index_among (texts_of (elements_of spec)) x.text

  element_inside : (k : ℕ) (x : Name) (o : Option Meaning) → declared spec x.text ≡ o → is_element_in spec k o ≡ true → list_any (is_same (element (number_of x))) (universe_values spec (Enumeration k)) ≡ true
  element_inside k x None is inside = absurd (false≢true inside)
  element_inside k x (Some m) is inside =
      let known = is ∙ ap Some (of_element k m inside) in
      let it = element_at spec good x.text k known in
      let index = number_in spec good (number_of x) k it.declaration it.stands it.meaning in
      element_among (count_like (is_element_before k) (first_declarations spec)) (size_of spec (Enumeration k)) (number_of x) index.behind index.below

  -- a constant of a universe is among its values
  const_inside : (m : Meaning) (c : Const) → is_in_universe spec (Some m) c ≡ true → (is_universe m ≡ true) × (list_any (is_same (const_value spec c)) (universe_values spec m) ≡ true)
  const_inside (Range first last) (source.Plain (literal.Number n)) inside =
      (refl, number_among first last n (left_of (int_le first n.value) (int_le n.value last) inside) (right_of (int_le first n.value) (int_le n.value last) inside))
  const_inside (Range first last) (source.Plain literal.Undef) inside = absurd (false≢true inside)
  const_inside (Range first last) (source.Plain (literal.Truth b)) inside = absurd (false≢true inside)
  const_inside (Range first last) (source.Element x) inside = absurd (false≢true inside)
  const_inside (Enumeration k) (source.Element x) inside = (refl, element_inside k x (declared spec x.text) refl inside)
  const_inside (Enumeration k) (source.Plain v) inside = absurd (false≢true inside)
  const_inside names.Predeclared c inside = absurd (false≢true inside)
  const_inside (Element k) c inside = absurd (false≢true inside)
  const_inside (names.Controlled domain) c inside = absurd (false≢true inside)
  const_inside (names.Static domain) c inside = absurd (false≢true inside)
  const_inside (names.Derived xs t) c inside = absurd (false≢true inside)
  const_inside (names.NamedRule xs P) c inside = absurd (false≢true inside)

  abbrev values_at : Name → List Value
  values_at u = slice_index_or (values_of spec good) (index_among (texts_of (universes_of spec)) u.text) []

  values_are : (u : Name) (m : Meaning) → declared spec u.text ≡ Some m → is_universe m ≡ true → values_at u ≡ universe_values spec m
  values_are u m known is =
      let it = first_named spec u.text m known in
      let found : find (is_named u.text) (universes_of spec) ≡ Some it.0 = find_kept (is_named u.text) (λ d. is_universe d.meaning) (first_declarations spec) it.0 it.1 (ap is_universe it.2 ∙ is) in
      ap (λ n. slice_index_or (values_of spec good) n []) (index_is (universes_of spec) u.text)
      ∙ at_index (is_named u.text) (λ d. universe_values spec d.meaning) (universes_of spec) []
      ∙ ap (λ o. option_map_or (λ (d : Declaration). universe_values spec d.meaning) o []) found
      ∙ ap (universe_values spec) it.2

  stands_inside : (u : Name) (c : Const) (o : Option Meaning) → declared spec u.text ≡ o → is_in_universe spec o c ≡ true → list_any (is_same (const_value spec c)) (values_at u) ≡ true
  stands_inside u c None is inside = absurd (false≢true inside)
  stands_inside u c (Some m) is inside =
      let it = const_inside m c inside in
      subst (λ vs. list_any (is_same (const_value spec c)) vs ≡ true) (sym (values_are u m is it.0)) it.1

  -- arguments that fit are in the domain
  all_inside : (domain : List Name) (cs : List Const) → fits_domain spec domain cs ≡ true → is_in (domain_in (values_of spec good) (domain_by (texts_of (universes_of spec)) domain)) (map (const_value spec) cs) ≡ true
  all_inside [] [] fits = refl
  all_inside [] (c ∷ cs) fits = absurd (false≢true fits)
  all_inside (u ∷ us) [] fits = absurd (false≢true fits)
  all_inside (u ∷ us) (c ∷ cs) fits =
      both (list_any (is_same (const_value spec c)) (values_at u)) (is_in (domain_in (values_of spec good) (domain_by (texts_of (universes_of spec)) us)) (map (const_value spec) cs))
      (stands_inside u c (declared spec u.text) refl (left_of (is_in_universe spec (declared spec u.text) c) (fits_domain spec us cs) fits))
      (all_inside us cs (right_of (is_in_universe spec (declared spec u.text) c) (fits_domain spec us cs) fits))

  -- ---- values that tell constants apart

  abbrev IsKnownConst : Const → Type 0
  IsKnownConst (source.Plain v) = Unit {0}
  IsKnownConst (source.Element x) = (k : ℕ) × (declared spec x.text ≡ Some (Element k))

  member : (x : Name) → IsKnownConst (source.Element x) → (e : Member) × (element (number_of x) ≡ value.Element e)
  member x known = let it = element_at spec good x.text known.0 known.1 in same_member (number_of x) (number_small spec good (number_of x) it.declaration it.stands)

  same_names : (x y : Name) → IsKnownConst (source.Element x) → IsKnownConst (source.Element y) → element (number_of x) ≡ element (number_of y) → is_text x.text y.text ≡ true
  same_names x y known other e =
      let it = element_at spec good x.text known.0 known.1 in
      let that = element_at spec good y.text other.0 other.1 in
      let low = value_laws.element_code (number_of x) (number_small spec good (number_of x) it.declaration it.stands) in
      let high = value_laws.element_code (number_of y) (number_small spec good (number_of y) that.declaration that.stands) in
      let codes = ap code_of e in
      let number : number_of x ≡ number_of y = omega (arith, low, high, codes) in
      let at_one : Some it.declaration ≡ Some that.declaration = sym it.stands ∙ ap (slice_get (elements_of spec)) number ∙ that.stands in
      let one : it.declaration ≡ that.declaration = cc in
      let text : x.text ≡ y.text = sym (same_text it.declaration.name.text x.text it.name) ∙ ap (λ (d : Declaration). d.name.text) one ∙ same_text that.declaration.name.text y.text that.name in
      subst (λ t. is_text x.text t ≡ true) text (text_itself x.text)

  same_consts : (c d : Const) → IsKnownConst c → IsKnownConst d → const_value spec c ≡ const_value spec d → same_const c d ≡ true
  same_consts (source.Plain v) (source.Plain w) known other e = same_literals v w e
  same_consts (source.Plain v) (source.Element y) known other e = let it = member y other in absurd (no_literal it.0 v (e ∙ it.1))
  same_consts (source.Element x) (source.Plain w) known other e = let it = member x known in absurd (no_literal it.0 w (sym e ∙ it.1))
  same_consts (source.Element x) (source.Element y) known other e = same_names x y known other e

  same_lists : (cs ds : List Const) → ((c : Const) → Contains cs c → IsKnownConst c) → ((d : Const) → Contains ds d → IsKnownConst d)
      → is_list (map (const_value spec) cs) (map (const_value spec) ds) ≡ true → same_arguments cs ds ≡ true
  same_lists [] [] known others e = refl
  same_lists [] (d ∷ ds) known others e = absurd (false≢true e)
  same_lists (c ∷ cs) [] known others e = absurd (false≢true e)
  same_lists (c ∷ cs) (d ∷ ds) known others e =
      let first = left_of (is_same (const_value spec c) (const_value spec d)) (is_list (map (const_value spec) cs) (map (const_value spec) ds)) e in
      let rest = right_of (is_same (const_value spec c) (const_value spec d)) (is_list (map (const_value spec) cs) (map (const_value spec) ds)) e in
      both (same_const c d) (same_arguments cs ds)
      (same_consts c d (known c (Contains-first c cs)) (others d (Contains-first d ds)) ((value_laws.same (const_value spec c) (const_value spec d)).0 first))
      (same_lists cs ds (λ a it. known a (Contains-later c cs a it)) (λ a it. others a (Contains-later d ds a it)) rest)

  -- ---- one table

  module _ (x : Name) (how : FunctionKind) (domain : List Name) (codomain : Option Name) (entries : List Entry)
      (it : Contains spec.items (source.Function x how domain codomain (Some (source.Entries entries)))) where
    entry_known : (e : Entry) (u : names.Use) → Contains entries e → Contains (uses_of_entry e) u → is_known_use spec u ≡ true
    entry_known e u stands own =
        all_known spec good (source.Function x how domain codomain (Some (source.Entries entries))) u it
        (Contains-append_right (map (plain_use names.AsUniverse) domain ++ uses_of_codomain codomain) (flat_map uses_of_entry entries) u (Contains-flat_map uses_of_entry entries e u stands own))

    const_known : (e : Entry) → Contains entries e → (c : Const) → Contains e.arguments c → IsKnownConst c
    const_known e stands (source.Plain v) among = tt
    const_known e stands (source.Element y) among =
        known_element (declared spec y.text)
        (entry_known e (plain_use AsElement y) stands
        (Contains-append_left (flat_map uses_of_const e.arguments) (uses_of_const e.value) (plain_use AsElement y)
        (Contains-flat_map uses_of_const e.arguments (source.Element y) (plain_use AsElement y) among (Contains-first (plain_use AsElement y) []))))

    no_wrong : (before after : List Entry) (e : Entry) → entries ≡ before ++ e ∷ after
        → (not (fits_domain spec domain e.arguments) || list_any (λ b. same_arguments b.arguments e.arguments) before) ≡ false
    no_wrong before after e parts =
        elim (not (fits_domain spec domain e.arguments) || list_any (λ b. same_arguments b.arguments e.arguments) before)
        as (λ b. (not (fits_domain spec domain e.arguments) || list_any (λ b. same_arguments b.arguments e.arguments) before) ≡ b → b ≡ false) [
          | true ↦ λ wrong. absurd (good e.at 16 (table_entry (record {
            domain = domain;
            entries = entries;
            stands = Contains-flat_map table_of spec.items (source.Function x how domain codomain (Some (source.Entries entries))) (domain, entries) it (Contains-first (domain, entries) []);
            before = before;
            entry = e;
            after = after;
            parts = parts;
            known = all_pass (is_known_use spec) (uses_of_entry e) (λ u own. entry_known e u (subst (λ es. Contains es e) (sym parts) (Contains-append_right before (e ∷ after) e (Contains-first e after))) own);
            wrong = wrong;
            offset = refl;
          })))
          | false ↦ λ _. refl
        ] refl

    not_false : (b : Bool) → not b ≡ false → b ≡ true
    not_false true e = refl
    not_false false e = absurd (false≢true (sym e))

    entry_inside : (e : Entry) → Contains entries e → is_in (domain_in (values_of spec good) (domain_by (texts_of (universes_of spec)) domain)) (map (const_value spec) e.arguments) ≡ true
    entry_inside e stands =
        let parts = split entries e stands in
        all_inside domain e.arguments (not_false (fits_domain spec domain e.arguments)
        (left_false (not (fits_domain spec domain e.arguments)) (list_any (λ b. same_arguments b.arguments e.arguments) parts.0) (no_wrong parts.0 parts.1 e parts.2)))

    entries_apart : (before after : List Entry) (b e : Entry) → entries ≡ before ++ e ∷ after → Contains before b → is_list (map (const_value spec) b.arguments) (map (const_value spec) e.arguments) ≡ false
    entries_apart before after b e parts among =
        let other = none_of (λ b. same_arguments b.arguments e.arguments) before b
        (right_false (not (fits_domain spec domain e.arguments)) (list_any (λ b. same_arguments b.arguments e.arguments) before) (no_wrong before after e parts)) among in
        let first = subst (λ es. Contains es b) (sym parts) (Contains-append_left before (e ∷ after) b among) in
        let second = subst (λ es. Contains es e) (sym parts) (Contains-append_right before (e ∷ after) e (Contains-first e after)) in
        elim (is_list (map (const_value spec) b.arguments) (map (const_value spec) e.arguments)) as (λ t. is_list (map (const_value spec) b.arguments) (map (const_value spec) e.arguments) ≡ t → t ≡ false) [
          | true ↦ λ same. absurd (false≢true (sym other ∙ same_lists b.arguments e.arguments (const_known b first) (const_known e second) same))
          | false ↦ λ _. refl
        ] refl

    abbrev entry_given : Entry → List Value × Value
    entry_given = entry_by (texts_of (elements_of spec))

    entries_fit : AreEntriesIn (domain_in (values_of spec good) (domain_by (texts_of (universes_of spec)) domain)) (map entry_given entries)
    entries_fit = record {
      in_domain = All-map (λ (entry : List Value × Value). IsTrue (is_in (domain_in (values_of spec good) (domain_by (texts_of (universes_of spec)) domain)) entry.0)) entry_given entries
          (All-from_contained (λ e. IsTrue (is_in (domain_in (values_of spec good) (domain_by (texts_of (universes_of spec)) domain)) (map (const_value spec) e.arguments))) entries entry_inside);
      apart = AllPairs-map (λ b e. is_list (map (const_value spec) b.arguments) (map (const_value spec) e.arguments) ≡ false) (λ (entry later : List Value × Value). is_list entry.0 later.0 ≡ false)
          entry_given (λ b e h. h) entries (pairs_from (λ b e. is_list (map (const_value spec) b.arguments) (map (const_value spec) e.arguments) ≡ false) entries entries_apart);
    }

  pub table_fits : (x : Name) (how : FunctionKind) (domain : List Name) (codomain : Option Name) (table : Option Given)
      → Contains spec.items (source.Function x how domain codomain table) → IsTableOf (domain_in (values_of spec good) (domain_by (texts_of (universes_of spec)) domain)) (table_by (texts_of (elements_of spec)) table)
  table_fits x how domain codomain None it = tt
  table_fits x how domain codomain (Some (source.Each c)) it = tt
  table_fits x how domain codomain (Some (source.Entries entries)) it = entries_fit x how domain codomain entries it
