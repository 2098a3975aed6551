-- Free. The declarations of a kind, item by item: where the n-th of them is, and which number it
-- has.
use Rattle.std.proofs.Common.{◌≡◌, ◌⊎◌, ℕ, zero, suc, ◌+◌, ◌<◌, List, [], ◌∷◌, ◌++◌, length, Some, refl, sym, ap, subst, ◌∙◌, arith, inl, inr}
use Rattle.std.specs.Prelude.{Contains, filter_map, slice_get}
use Rattle.std.proofs.lemmas.List.{length-append, length-map}
use Rattle.std.proofs.lemmas.Option.{slice_get_within}
use Rattle.asm_state.proofs.Lists.{Contains-first, Contains-later}
use Rattle.asm_state.specs.Universe.{element, elements}
use Rattle.asm_state.specs.declared.function.FunctionKind.TheVariants as kind
use Rattle.asm_syntax.specs.SourceTree as source
use Rattle.asm_syntax.specs.SourceTree.{Name, Item, Spec}
use Rattle.asm_check.specs.Names.{Declaration, Element, declares, declarations_of, declarations_from}
use Rattle.asm_check.specs.Limits.{is_element_of}
use Rattle.asm_check.specs.Numbers.{is_element, is_table}
use Rattle.asm_check.specs.Shapes.{is_element_before, function_given}
use Rattle.asm_check.specs.code.numbers.ItemLists.{elements_of_item, elements_in}
use Rattle.asm_check.specs.Laws.{IsDeclaredBy}
use Rattle.asm_check.proofs.NameLemmas.ItemLists.{element_declarations, like_next, elements_dropped, count_like, AreNumbered}
use Rattle.asm_check.specs.code.numbers.NumberTables.{declared_like}

-- what is in two lists, one after the other, is in the first or in the second
pub in_either : {X : Type 0} (xs ys : List X) (n : ℕ) (x : X) → slice_get (xs ++ ys) n ≡ Some x → (slice_get xs n ≡ Some x) ⊎ ((m : ℕ) × (n ≡ length xs + m) × (slice_get ys m ≡ Some x))
in_either [] ys n x e = inr (n, omega arith, e)
in_either (y ∷ xs) ys zero x e = inl e
in_either (y ∷ xs) ys (suc n) x e = elim (in_either xs ys n x e) [ inl first ↦ inl first | inr second ↦ inr (second.0, omega (arith, second.1), second.2) ]

-- ---- elements

-- the elements of an enumeration are all of its declarations
pub kept_enumeration : (k : ℕ) (xs : List Name) → declared_like is_element (element_declarations k xs) ≡ element_declarations k xs
kept_enumeration k [] = refl
kept_enumeration k (x ∷ xs) = ap (λ ds. declares x (Element k) ∷ ds) (kept_enumeration k xs)

length_own : (k : ℕ) (item : Item) → length (declared_like is_element (declarations_of k item)) ≡ elements_of_item item
length_own k (source.Uses x) = refl
length_own k (source.Init x) = refl
length_own k (source.Enum x xs) = ap length (kept_enumeration k xs) ∙ length-map xs (λ y. declares y (Element k))
length_own k (source.Universe x first last) = refl
length_own k (source.Function x kind.Controlled domain codomain table) = refl
length_own k (source.Function x kind.Static domain codomain table) = refl
length_own k (source.Derived x xs t) = refl
length_own k (source.NamedRule x xs P) = refl

-- the items have `elements_in items` elements
pub length_elements : (k : ℕ) (items : List Item) → length (declared_like is_element (declarations_from k items)) ≡ elements_in items
length_elements k [] = refl
length_elements k (item ∷ items) =
    let own = length_own k item in
    let rest = length_elements (suc k) items in
    let next = ap length (like_next is_element k item items) in
    let split = length-append (declared_like is_element (declarations_of k item)) (declared_like is_element (declarations_from (suc k) items)) in
    omega (arith, own, rest, next, split)

meaning_in_enumeration : (k : ℕ) (xs : List Name) (n : ℕ) (d : Declaration) → slice_get (element_declarations k xs) n ≡ Some d → d.meaning ≡ Element k
meaning_in_enumeration k [] n d e = cc
meaning_in_enumeration k (x ∷ xs) zero d e = let same : declares x (Element k) ≡ d = cc in ap (λ (c : Declaration). c.meaning) (sym same)
meaning_in_enumeration k (x ∷ xs) (suc n) d e = meaning_in_enumeration k xs n d e

own_meaning : (k : ℕ) (item : Item) (n : ℕ) (d : Declaration) → slice_get (declared_like is_element (declarations_of k item)) n ≡ Some d → d.meaning ≡ Element k
own_meaning k (source.Uses x) n d e = cc
own_meaning k (source.Init x) n d e = cc
own_meaning k (source.Enum x xs) n d e = meaning_in_enumeration k xs n d (ap (λ ds. slice_get ds n) (sym (kept_enumeration k xs)) ∙ e)
own_meaning k (source.Universe x first last) n d e = cc
own_meaning k (source.Function x kind.Controlled domain codomain table) n d e = cc
own_meaning k (source.Function x kind.Static domain codomain table) n d e = cc
own_meaning k (source.Derived x xs t) n d e = cc
own_meaning k (source.NamedRule x xs P) n d e = cc

-- `count` elements in a row have each one of them
pub in_row : (first count n : ℕ) → n < count → Contains (elements first count) (element (first + n))
in_row first zero n h = absurd (omega (arith, h))
in_row first (suc count) zero h = let same : first ≡ first + 0 = omega arith in subst (λ k. Contains (elements first (suc count)) (element k)) same (Contains-first (element first) (elements (first + 1) count))
in_row first (suc count) (suc n) h =
    let same : first + 1 + n ≡ first + suc n = omega arith in
    subst (λ k. Contains (elements first (suc count)) (element k)) same (Contains-later (element first) (elements (first + 1) count) (element (first + 1 + n)) (in_row (first + 1) count n (omega (arith, h))))

-- the n-th element of the items is the one n numbers after the first, and is in the row of its own
-- enumeration
pub element_indexed : (all : List Declaration) (k first : ℕ) (items : List Item) → AreNumbered all k first items → (n j : ℕ) (d : Declaration) → slice_get (declared_like is_element (declarations_from k items)) n ≡ Some d → d.meaning ≡ Element j
    → Contains (elements (count_like (is_element_before j) all) (count_like (is_element_of j) all)) (element (first + n))
element_indexed all k first [] numbered n j d e is = cc
element_indexed all k first (item ∷ items) numbered n j d e is =
    elim (in_either (declared_like is_element (declarations_of k item)) (declared_like is_element (declarations_from (suc k) items)) n d (ap (λ ds. slice_get ds n) (sym (like_next is_element k item items)) ∙ e)) [
      | inl own ↦ here_own own
      | inr rest ↦
          let long = length_own k item in
          let same : first + elements_of_item item + rest.0 ≡ first + n = omega (arith, long, rest.1) in
          subst (λ m. Contains (elements (count_like (is_element_before j) all) (count_like (is_element_of j) all)) (element m)) same
          (element_indexed all (suc k) (first + elements_of_item item) items numbered.2 rest.0 j d rest.2 is)
    ]
  where
    here_own : slice_get (declared_like is_element (declarations_of k item)) n ≡ Some d → Contains (elements (count_like (is_element_before j) all) (count_like (is_element_of j) all)) (element (first + n))
    here_own own =
        let meant = own_meaning k item n d own in
        let same : k ≡ j = cc in
        let within = slice_get_within (declared_like is_element (declarations_of k item)) n d own in
        let long = length_own k item in
        let row : Contains (elements first (elements_of_item item)) (element (first + n)) = in_row first (elements_of_item item) n (omega (arith, within, long)) in
        subst (λ i. Contains (elements (count_like (is_element_before i) all) (count_like (is_element_of i) all)) (element (first + n))) same
        (subst (λ count. Contains (elements (count_like (is_element_before k) all) count) (element (first + n))) (sym numbered.1)
        (subst (λ start. Contains (elements start (elements_of_item item)) (element (first + n))) (sym numbered.0) row))

-- ---- functions

no_tables : (k : ℕ) (x : Name) (xs : List Name) (items : List Item) → declared_like is_table (declarations_from k (source.Enum x xs ∷ items)) ≡ declared_like is_table (declarations_from (suc k) items)
no_tables k x xs items = like_next is_table k (source.Enum x xs) items ∙ ap (λ ds. ds ++ declared_like is_table (declarations_from (suc k) items)) (elements_dropped is_table k xs refl)

-- as many functions as declarations of functions
pub length_functions : (spec : Spec) (k : ℕ) (items : List Item) → length (filter_map (function_given spec) items) ≡ length (declared_like is_table (declarations_from k items))
length_functions spec k [] = refl
length_functions spec k (source.Uses x ∷ items) = length_functions spec (suc k) items
length_functions spec k (source.Init x ∷ items) = length_functions spec (suc k) items
length_functions spec k (source.Enum x xs ∷ items) = length_functions spec (suc k) items ∙ ap length (sym (no_tables k x xs items))
length_functions spec k (source.Universe x first last ∷ items) = length_functions spec (suc k) items
length_functions spec k (source.Function x kind.Controlled domain codomain table ∷ items) = let rest = length_functions spec (suc k) items in omega (arith, rest)
length_functions spec k (source.Function x kind.Static domain codomain table ∷ items) = let rest = length_functions spec (suc k) items in omega (arith, rest)
length_functions spec k (source.Derived x xs t ∷ items) = length_functions spec (suc k) items
length_functions spec k (source.NamedRule x xs P ∷ items) = length_functions spec (suc k) items

module _ (spec : Spec) where
  abbrev AreOfSpec : List Item → Type 0
  AreOfSpec items = (item : Item) → Contains items item → Contains spec.items item

  later : (item : Item) (items : List Item) → AreOfSpec (item ∷ items) → AreOfSpec items
  later item items all other it = all other (Contains-later item items other it)

  -- the function of each declaration of one
  pub function_indexed : (k : ℕ) (items : List Item) → AreOfSpec items → (f : ℕ) (d : Declaration) → slice_get (declared_like is_table (declarations_from k items)) f ≡ Some d
      → IsDeclaredBy spec d (slice_get (filter_map (function_given spec) items) f)
  function_indexed k [] all f d e = cc
  function_indexed k (source.Uses x ∷ items) all f d e = function_indexed (suc k) items (later (source.Uses x) items all) f d e
  function_indexed k (source.Init x ∷ items) all f d e = function_indexed (suc k) items (later (source.Init x) items all) f d e
  function_indexed k (source.Enum x xs ∷ items) all f d e = function_indexed (suc k) items (later (source.Enum x xs) items all) f d (ap (λ ds. slice_get ds f) (sym (no_tables k x xs items)) ∙ e)
  function_indexed k (source.Universe x first last ∷ items) all f d e = function_indexed (suc k) items (later (source.Universe x first last) items all) f d e
  function_indexed k (source.Function x kind.Controlled domain codomain table ∷ items) all zero d e = record {
    name = x;
    kind = kind.Controlled;
    domain = domain;
    codomain = codomain;
    table = table;
    stands = all (source.Function x kind.Controlled domain codomain table) (Contains-first (source.Function x kind.Controlled domain codomain table) items);
    declared_so = cc;
    given_so = refl;
  }
  function_indexed k (source.Function x kind.Controlled domain codomain table ∷ items) all (suc f) d e =
      function_indexed (suc k) items (later (source.Function x kind.Controlled domain codomain table) items all) f d e
  function_indexed k (source.Function x kind.Static domain codomain table ∷ items) all zero d e = record {
    name = x;
    kind = kind.Static;
    domain = domain;
    codomain = codomain;
    table = table;
    stands = all (source.Function x kind.Static domain codomain table) (Contains-first (source.Function x kind.Static domain codomain table) items);
    declared_so = cc;
    given_so = refl;
  }
  function_indexed k (source.Function x kind.Static domain codomain table ∷ items) all (suc f) d e =
      function_indexed (suc k) items (later (source.Function x kind.Static domain codomain table) items all) f d e
  function_indexed k (source.Derived x xs t ∷ items) all f d e = function_indexed (suc k) items (later (source.Derived x xs t) items all) f d e
  function_indexed k (source.NamedRule x xs P ∷ items) all f d e = function_indexed (suc k) items (later (source.NamedRule x xs P) items all) f d e
