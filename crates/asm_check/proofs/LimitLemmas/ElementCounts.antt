-- Free. How many elements each enumeration has in the table.
use Rattle.std.proofs.Common.{◌≡◌, ◌≢◌, ◌⊎◌, ℕ, suc, ◌+◌, ◌<◌, ◌≤◌, true, false, cond, List, [], ◌∷◌, ◌++◌, map, length, take, get_or, set, refl, sym, ap, ◌∙◌, inl, inr, arith}
use Rattle.std.specs.Prelude.{nat_eq, count_by}
use Rattle.std.proofs.lemmas.Bool.{cases_eq, cases_lt, eq-eqb, ne_eqb}
use Rattle.std.proofs.lemmas.List.{take_all, get_or-set_same, get_or-set_other, length-set, length-take-le, get_or_past}
use Rattle.std.proofs.lemmas.List.Sums.{sum_by_push, sum_by-append, sum_by-cons, count_by-le-length}
use Rattle.asm_syntax.specs.SourceTree as source
use Rattle.asm_syntax.specs.SourceTree.{Name, Item, Spec}
use Rattle.asm_state.specs.declared.function.FunctionKind.TheVariants as kind
use Rattle.asm_check.specs.declared.names.declared_as.Declaration.{Declaration as CodeDeclaration}
use Rattle.asm_check.specs.declared.names.declared_as.DeclaredAs as code
use Rattle.asm_check.specs.declared.names.declared_as.DeclaredAs.TheVariants as variants
use Rattle.asm_check.specs.Names.{Text, Declaration, Meaning, Predeclared, Range, Enumeration, Element, Controlled, Static, Derived, NamedRule, declares, is_among, predeclared, declarations_of, declarations_from, declarations, first_of_each, first_declarations}
use Rattle.asm_check.specs.Limits.{is_element_of, size_of}
use Rattle.asm_check.specs.code.names.Tables.{declared_as_view}
use Rattle.asm_check.specs.code.limits.CountedSizes.{AreElementCounts, size_with}
use Rattle.asm_check.proofs.NameLemmas.TableSteps.{Stands}

abbrev pub elements_in : ℕ → List Declaration → ℕ
elements_in k ds = count_by (λ d. is_element_of k d.meaning) ds

pub size_with_is : (spec : Spec) (counts : List ℕ) → AreElementCounts spec counts → (m : Meaning) → size_with counts m ≡ size_of spec m
size_with_is spec counts h Predeclared = refl
size_with_is spec counts h (Range first last) = refl
size_with_is spec counts h (Enumeration k) = h k
size_with_is spec counts h (Element k) = refl
size_with_is spec counts h (Controlled domain) = refl
size_with_is spec counts h (Static domain) = refl
size_with_is spec counts h (Derived xs t) = refl
size_with_is spec counts h (NamedRule xs P) = refl

-- ---- an element belongs to an item that there is

one_more : (k : ℕ) (d : Declaration) (ds : List Declaration) → elements_in k (d ∷ ds) ≡ cond (is_element_of k d.meaning) 1 0 + elements_in k ds
one_more k d ds = sum_by-cons (λ c. cond (is_element_of k c.meaning) 1 0) d ds

none_of_others : (k j : ℕ) (xs : List Name) → k ≢ j → elements_in k (map (λ y. declares y (Element j)) xs) ≡ 0
none_of_others k j [] h = refl
none_of_others k j (x ∷ xs) h =
    one_more k (declares x (Element j)) (map (λ y. declares y (Element j)) xs)
    ∙ ap (λ b. cond b 1 0 + elements_in k (map (λ y. declares y (Element j)) xs)) (ne_eqb k j h)
    ∙ ap (λ n. 0 + n) (none_of_others k j xs h)

none_in_item : (k j : ℕ) (item : Item) → k ≢ j → elements_in k (declarations_of j item) ≡ 0
none_in_item k j (source.Uses x) h = refl
none_in_item k j (source.Init x) h = refl
none_in_item k j (source.Enum x xs) h =
    one_more k (declares x (Enumeration j)) (map (λ y. declares y (Element j)) xs) ∙ ap (λ n. 0 + n) (none_of_others k j xs h)
none_in_item k j (source.Universe x first last) h = refl
none_in_item k j (source.Function x kind.Controlled domain codomain table) h = refl
none_in_item k j (source.Function x kind.Static domain codomain table) h = refl
none_in_item k j (source.Derived x xs t) h = refl
none_in_item k j (source.NamedRule x xs P) h = refl

none_in_items : (k j : ℕ) (items : List Item) → j + length items ≤ k → elements_in k (declarations_from j items) ≡ 0
none_in_items k j [] h = refl
none_in_items k j (item ∷ items) h =
    let first : elements_in k (declarations_of j item) ≡ 0 = none_in_item k j item (omega arith) in
    let rest : elements_in k (declarations_from (suc j) items) ≡ 0 = none_in_items k (suc j) items (omega arith) in
    sum_by-append (λ c. cond (is_element_of k c.meaning) 1 0) (declarations_of j item) (declarations_from (suc j) items)
    ∙ ap (λ n. n + elements_in k (declarations_from (suc j) items)) first ∙ ap (λ n. 0 + n) rest

fewer : (k : ℕ) (seen : List Text) (ds : List Declaration) → elements_in k (first_of_each seen ds) ≤ elements_in k ds
fewer k seen [] = omega arith
fewer k seen (d ∷ ds) =
    elim (is_among seen d.name.text) as (λ b. elements_in k (cond b (first_of_each seen ds) (d ∷ first_of_each (d.name.text ∷ seen) ds)) ≤ elements_in k (d ∷ ds)) [
      | true ↦ omega (arith, one_more k d ds, fewer k seen ds)
      | false ↦ omega (arith, one_more k d ds, one_more k d (first_of_each (d.name.text ∷ seen) ds), fewer k (d.name.text ∷ seen) ds)
    ]

none_outside : (spec : Spec) (k : ℕ) → length spec.items ≤ k → elements_in k (first_declarations spec) ≡ 0
unfolding first_declarations declarations
none_outside spec k h =
    let all : elements_in k (predeclared ++ declarations_from 0 spec.items) ≡ 0 =
    sum_by-append (λ c. cond (is_element_of k c.meaning) 1 0) predeclared (declarations_from 0 spec.items)
    ∙ ap (λ n. elements_in k predeclared + n) (none_in_items k 0 spec.items (omega arith)) in
    omega (arith, fewer k [] (predeclared ++ declarations_from 0 spec.items), all)

-- ---- counting

-- the counts of the first declarations
abbrev pub AreCountsOf : List Declaration → List ℕ → Type 0
AreCountsOf ds counts = (k : ℕ) → k < length counts → get_or counts k 0 ≡ elements_in k ds

added : (k : ℕ) (ds : List Declaration) (i : ℕ) (r : CodeDeclaration) (s : Stands ds i r)
    → elements_in k (take (i + 1) ds) ≡ elements_in k (take i ds) + cond (is_element_of k (declared_as_view r.meaning)) 1 0
added k ds i r s =
    ap (elements_in k) s.front ∙ sum_by_push (λ c. cond (is_element_of k c.meaning) 1 0) (take i ds) (declares s.name (declared_as_view r.meaning))

pub other_than_element : (m : code.DeclaredAs) (k : ℕ) → ((j : ℕ) → m ≡ variants.Element j → ⊥) → is_element_of k (declared_as_view m) ≡ false
other_than_element variants.Predeclared k h = refl
other_than_element (variants.Range first last) k h = refl
other_than_element (variants.Enumeration j) k h = refl
other_than_element (variants.Element j) k h = absurd (h j refl)
other_than_element (variants.Controlled domain) k h = refl
other_than_element (variants.Static domain) k h = refl
other_than_element (variants.Derived body) k h = refl
other_than_element (variants.Rule body) k h = refl

-- the next one is no element that is counted
pub counts_same : (ds : List Declaration) (i : ℕ) (r : CodeDeclaration) (counts : List ℕ) → Stands ds i r
    → ((k : ℕ) → k < length counts → is_element_of k (declared_as_view r.meaning) ≡ false) → AreCountsOf (take i ds) counts → AreCountsOf (take (i + 1) ds) counts
counts_same ds i r counts s other h =
    λ k low.
    let more : elements_in k (take (i + 1) ds) ≡ elements_in k (take i ds) + 0 = added k ds i r s ∙ ap (λ b. elements_in k (take i ds) + cond b 1 0) (other k low) in
    omega (arith, h k low, more)

-- one element more
pub counts_more : (ds : List Declaration) (i : ℕ) (r : CodeDeclaration) (counts : List ℕ) (j : ℕ) → Stands ds i r
    → declared_as_view r.meaning ≡ Element j → j < length counts → AreCountsOf (take i ds) counts → AreCountsOf (take (i + 1) ds) (set counts j (get_or counts j 0 + 1))
counts_more ds i r counts j s e inside h = λ k low. at k (omega (arith, length-set counts j (get_or counts j 0 + 1), low)) (cases_eq k j)
  where
    step : (k : ℕ) → elements_in k (take (i + 1) ds) ≡ elements_in k (take i ds) + cond (nat_eq k j) 1 0
    step k = added k ds i r s ∙ ap (λ m. elements_in k (take i ds) + cond (is_element_of k m) 1 0) e

    at : (k : ℕ) → k < length counts → (k ≡ j) ⊎ (k ≢ j) → get_or (set counts j (get_or counts j 0 + 1)) k 0 ≡ elements_in k (take (i + 1) ds)
    at k low (inl same) =
        ap (λ n. get_or (set counts j (get_or counts j 0 + 1)) n 0) same
        ∙ get_or-set_same counts j (get_or counts j 0 + 1) 0 inside
        ∙ ap (λ n. get_or counts n 0 + 1) (sym same) ∙ ap (λ n. n + 1) (h k low)
        ∙ ap (λ b. elements_in k (take i ds) + cond b 1 0) (sym (eq-eqb k j same)) ∙ sym (step k)
    at k low (inr other) =
        let more : elements_in k (take (i + 1) ds) ≡ elements_in k (take i ds) + 0 = step k ∙ ap (λ b. elements_in k (take i ds) + cond b 1 0) (ne_eqb k j other) in
        omega (arith, get_or-set_other counts j k (get_or counts j 0 + 1) 0 other, h k low, more)

-- a count so far is below the number of declarations
pub count_small : (ds : List Declaration) (i : ℕ) (counts : List ℕ) (j : ℕ) → i < length ds → j < length counts → AreCountsOf (take i ds) counts → get_or counts j 0 < length ds
count_small ds i counts j inside low h =
    omega (arith, h j low, count_by-le-length (λ c. is_element_of j c.meaning) (take i ds), length-take-le i ds (omega arith))

pub counts_whole : (spec : Spec) (ds : List Declaration) (i : ℕ) (counts : List ℕ) → ds ≡ first_declarations spec → length counts ≡ length spec.items → length ds ≤ i
    → AreCountsOf (take i ds) counts → AreElementCounts spec counts
counts_whole spec ds i counts table items all h k =
    elim (cases_lt k (length counts)) [
      | inl low ↦ h k low ∙ ap (elements_in k) (take_all i ds all ∙ table)
      | inr above ↦ get_or_past counts k 0 above ∙ sym (none_outside spec k (omega (arith, items, above)))
    ]
