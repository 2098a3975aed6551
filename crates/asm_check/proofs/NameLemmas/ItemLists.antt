-- Free. What a list of items declares, item by item.
use Rattle.std.proofs.Common.{◌≡◌, ℕ, suc, ◌+◌, ◌<◌, ◌≤◌, Bool, true, false, cond, List, [], ◌∷◌, ◌++◌, map, length, refl, ap, subst, ◌∙◌, arith, append_assoc, zero-add}
use Rattle.std.specs.Prelude.{count_by, nat_lt, nat_eq}
use Rattle.std.proofs.lemmas.Bool.Decides.{nat_tests}
use Rattle.std.proofs.lemmas.List.{map-append}
use Rattle.std.proofs.lemmas.List.Elements.{filter-append}
use Rattle.std.proofs.lemmas.List.Sums.{sum_by-append, sum_by-cons}
use Rattle.asm_state.specs.declared.value.Value.{Value}
use Rattle.asm_state.specs.Universe.{elements}
use Rattle.asm_state.specs.declared.function.FunctionKind.TheVariants as kind
use Rattle.asm_syntax.specs.SourceTree as source
use Rattle.asm_syntax.specs.SourceTree.{Name, Item, Spec}
use Rattle.asm_check.specs.Names.{Declaration, Meaning, Enumeration, Element, declares, declarations_of, declarations_from, predeclared, first_declarations, text_of}
use Rattle.asm_check.specs.Limits.{is_universe, is_element_of}
use Rattle.asm_check.specs.Shapes.{texts_of, is_element_before, universe_values}
use Rattle.asm_check.specs.code.numbers.ItemLists.{elements_of_item, universe_of_item, universe_lists}
use Rattle.asm_check.specs.code.numbers.NumberTables.{declared_like}

abbrev pub element_declarations : ℕ → List Name → List Declaration
element_declarations k xs = map (λ y. declares y (Element k)) xs

pub elements_dropped : (is_like : Meaning → Bool) (k : ℕ) (xs : List Name) → is_like (Element k) ≡ false → declared_like is_like (element_declarations k xs) ≡ []
elements_dropped is_like k [] out = refl
elements_dropped is_like k (x ∷ xs) out = ap (λ b. cond b (declares x (Element k) ∷ declared_like is_like (element_declarations k xs)) (declared_like is_like (element_declarations k xs))) out ∙ elements_dropped is_like k xs out

pub like_next : (is_like : Meaning → Bool) (k : ℕ) (item : Item) (items : List Item)
    → declared_like is_like (declarations_from k (item ∷ items)) ≡ declared_like is_like (declarations_of k item) ++ declared_like is_like (declarations_from (suc k) items)
like_next is_like k item items = filter-append (λ d. is_like d.meaning) (declarations_of k item) (declarations_from (suc k) items)

pub element_texts_are : (k : ℕ) (xs : List Name) → texts_of (element_declarations k xs) ≡ map text_of xs
element_texts_are k [] = refl
element_texts_are k (x ∷ xs) = ap (λ ts. x.text ∷ ts) (element_texts_are k xs)

-- ---- how many elements

abbrev pub count_like : (Meaning → Bool) → List Declaration → ℕ
count_like is_like ds = count_by (λ d. is_like d.meaning) ds

zero_either : (b : Bool) → ◌≡◌ {A = ℕ} 0 (cond b 0 0)
zero_either true = refl
zero_either false = refl

count_elements : (is_like : Meaning → Bool) (k : ℕ) (xs : List Name) → count_like is_like (element_declarations k xs) ≡ cond (is_like (Element k)) (length xs) 0
count_elements is_like k [] = zero_either (is_like (Element k))
count_elements is_like k (x ∷ xs) =
    sum_by-cons (λ (d : Declaration). cond (is_like d.meaning) 1 0) (declares x (Element k)) (element_declarations k xs)
    ∙ ap (λ n. cond (is_like (Element k)) 1 0 + n) (count_elements is_like k xs)
    ∙ elim (is_like (Element k)) as (λ b. cond b 1 0 + cond b (length xs) 0 ≡ cond b (length (x ∷ xs)) 0) [ true ↦ omega arith | false ↦ refl ]

count_enumeration : (is_like : Meaning → Bool) (k : ℕ) (x : Name) (xs : List Name) → is_like (Enumeration k) ≡ false
    → count_like is_like (declarations_of k (source.Enum x xs)) ≡ cond (is_like (Element k)) (length xs) 0
count_enumeration is_like k x xs out =
    sum_by-cons (λ (d : Declaration). cond (is_like d.meaning) 1 0) (declares x (Enumeration k)) (element_declarations k xs)
    ∙ ap (λ b. cond b 1 0 + count_like is_like (element_declarations k xs)) out
    ∙ zero-add (count_like is_like (element_declarations k xs))
    ∙ count_elements is_like k xs

count_before_of : (j k : ℕ) (item : Item) → count_like (is_element_before j) (declarations_of k item) ≡ cond (nat_lt k j) (elements_of_item item) 0
count_before_of j k (source.Uses x) = zero_either (nat_lt k j)
count_before_of j k (source.Init x) = zero_either (nat_lt k j)
count_before_of j k (source.Enum x xs) = count_enumeration (is_element_before j) k x xs refl
count_before_of j k (source.Universe x first last) = zero_either (nat_lt k j)
count_before_of j k (source.Function x kind.Controlled domain codomain table) = zero_either (nat_lt k j)
count_before_of j k (source.Function x kind.Static domain codomain table) = zero_either (nat_lt k j)
count_before_of j k (source.Derived x xs t) = zero_either (nat_lt k j)
count_before_of j k (source.NamedRule x xs P) = zero_either (nat_lt k j)

count_own_of : (j k : ℕ) (item : Item) → count_like (is_element_of j) (declarations_of k item) ≡ cond (nat_eq j k) (elements_of_item item) 0
count_own_of j k (source.Uses x) = zero_either (nat_eq j k)
count_own_of j k (source.Init x) = zero_either (nat_eq j k)
count_own_of j k (source.Enum x xs) = count_enumeration (is_element_of j) k x xs refl
count_own_of j k (source.Universe x first last) = zero_either (nat_eq j k)
count_own_of j k (source.Function x kind.Controlled domain codomain table) = zero_either (nat_eq j k)
count_own_of j k (source.Function x kind.Static domain codomain table) = zero_either (nat_eq j k)
count_own_of j k (source.Derived x xs t) = zero_either (nat_eq j k)
count_own_of j k (source.NamedRule x xs P) = zero_either (nat_eq j k)

count_more : (is_like : Meaning → Bool) (cs ds : List Declaration) → count_like is_like (cs ++ ds) ≡ count_like is_like cs + count_like is_like ds
count_more is_like cs ds = sum_by-append (λ (d : Declaration). cond (is_like d.meaning) 1 0) cs ds

none_before_from : (j k : ℕ) (items : List Item) → j ≤ k → count_like (is_element_before j) (declarations_from k items) ≡ 0
none_before_from j k [] h = refl
none_before_from j k (item ∷ items) h =
    let later : nat_lt k j ≡ false = grind (arith, nat_tests) in
    let own : count_like (is_element_before j) (declarations_of k item) ≡ 0 = count_before_of j k item ∙ ap (λ b. cond b (elements_of_item item) 0) later in
    let rest = none_before_from j (suc k) items (omega arith) in
    count_more (is_element_before j) (declarations_of k item) (declarations_from (suc k) items) ∙ omega (arith, own, rest)

none_own_from : (j k : ℕ) (items : List Item) → j < k → count_like (is_element_of j) (declarations_from k items) ≡ 0
none_own_from j k [] h = refl
none_own_from j k (item ∷ items) h =
    let later : nat_eq j k ≡ false = grind (arith, nat_tests) in
    let own : count_like (is_element_of j) (declarations_of k item) ≡ 0 = count_own_of j k item ∙ ap (λ b. cond b (elements_of_item item) 0) later in
    let rest = none_own_from j (suc k) items (omega arith) in
    count_more (is_element_of j) (declarations_of k item) (declarations_from (suc k) items) ∙ omega (arith, own, rest)

-- Each item from number k on has `elements_of_item` elements, and before them are `first`.
abbrev pub AreNumbered : List Declaration → (k first : ℕ) → List Item → Type 0
AreNumbered ds k first [] = Unit {0}
AreNumbered ds k first (item ∷ items) =
    (count_like (is_element_before k) ds ≡ first) × (count_like (is_element_of k) ds ≡ elements_of_item item) × AreNumbered ds (suc k) (first + elements_of_item item) items

abbrev IsDone : List Declaration → (k first : ℕ) → Type 0
IsDone done k first = (j : ℕ) → k ≤ j → (count_like (is_element_before j) done ≡ first) × (count_like (is_element_of j) done ≡ 0)

numbered_from : (done : List Declaration) (k first : ℕ) (items : List Item) → IsDone done k first → AreNumbered (done ++ declarations_from k items) k first items
numbered_from done k first [] so_far = tt
numbered_from done k first (item ∷ items) so_far = (
  count_more (is_element_before k) done (declarations_from k (item ∷ items)) ∙ before,
  count_more (is_element_of k) done (declarations_from k (item ∷ items)) ∙ own,
  subst (λ ds. AreNumbered ds (suc k) (first + elements_of_item item) items) (append_assoc done (declarations_of k item) (declarations_from (suc k) items))
      (numbered_from (done ++ declarations_of k item) (suc k) (first + elements_of_item item) items next),
)
  where
    before : count_like (is_element_before k) done + count_like (is_element_before k) (declarations_from k (item ∷ items)) ≡ first
    before = let e = (so_far k (omega arith)).0 in let f = none_before_from k k (item ∷ items) (omega arith) in omega (arith, e, f)

    here_all : count_like (is_element_of k) (declarations_of k item) ≡ elements_of_item item
    here_all = let same : nat_eq k k ≡ true = grind (arith, nat_tests) in count_own_of k k item ∙ ap (λ b. cond b (elements_of_item item) 0) same

    own : count_like (is_element_of k) done + count_like (is_element_of k) (declarations_from k (item ∷ items)) ≡ elements_of_item item
    own =
        let e = (so_far k (omega arith)).1 in
        let f = count_more (is_element_of k) (declarations_of k item) (declarations_from (suc k) items) in
        let g = none_own_from k (suc k) items (omega arith) in
        omega (arith, e, f, g, here_all)

    next : IsDone (done ++ declarations_of k item) (suc k) (first + elements_of_item item)
    next j h =
        let past : nat_lt k j ≡ true = grind (arith, nat_tests) in
        let other : nat_eq j k ≡ false = grind (arith, nat_tests) in
        let e = (so_far j (omega arith)).0 in
        let f = (so_far j (omega arith)).1 in
        let a : count_like (is_element_before j) (declarations_of k item) ≡ elements_of_item item = count_before_of j k item ∙ ap (λ b. cond b (elements_of_item item) 0) past in
        let b : count_like (is_element_of j) (declarations_of k item) ≡ 0 = count_own_of j k item ∙ ap (λ b. cond b (elements_of_item item) 0) other in
        (count_more (is_element_before j) done (declarations_of k item) ∙ omega (arith, e, a), count_more (is_element_of j) done (declarations_of k item) ∙ omega (arith, f, b))

pub numbered : (items : List Item) → AreNumbered (predeclared ++ declarations_from 0 items) 0 0 items
numbered items = numbered_from predeclared 0 0 items (λ j h. (refl, refl))

-- ---- the values of universes

module _ (spec : Spec) where
  abbrev values : Declaration → List Value
  values d = universe_values spec d.meaning

  own_values : (k first : ℕ) (item : Item) → count_like (is_element_before k) (first_declarations spec) ≡ first → count_like (is_element_of k) (first_declarations spec) ≡ elements_of_item item
      → map values (declared_like is_universe (declarations_of k item)) ≡ universe_of_item first item
  own_values k first (source.Uses x) before own = refl
  own_values k first (source.Init x) before own = refl
  own_values k first (source.Enum x xs) before own =
      ap (λ ds. map values (declares x (Enumeration k) ∷ ds)) (elements_dropped is_universe k xs refl)
      ∙ ap (λ n. elements n (count_like (is_element_of k) (first_declarations spec)) ∷ []) before
      ∙ ap (λ n. elements first n ∷ []) own
  own_values k first (source.Universe x low high) before own = refl
  own_values k first (source.Function x kind.Controlled domain codomain table) before own = refl
  own_values k first (source.Function x kind.Static domain codomain table) before own = refl
  own_values k first (source.Derived x xs t) before own = refl
  own_values k first (source.NamedRule x xs P) before own = refl

  pub universe_lists_are : (k first : ℕ) (items : List Item) → AreNumbered (first_declarations spec) k first items
      → map values (declared_like is_universe (declarations_from k items)) ≡ universe_lists first items
  universe_lists_are k first [] n = refl
  universe_lists_are k first (item ∷ items) n =
      ap (map values) (like_next is_universe k item items)
      ∙ map-append values (declared_like is_universe (declarations_of k item)) (declared_like is_universe (declarations_from (suc k) items))
      ∙ ap (λ xs. xs ++ map values (declared_like is_universe (declarations_from (suc k) items))) (own_values k first item n.0 n.1)
      ∙ ap (λ xs. universe_of_item first item ++ xs) (universe_lists_are (suc k) (first + elements_of_item item) items n.2)
