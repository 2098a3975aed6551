-- Free. In a well-formed specification universes are small, and there are no
-- more elements than there can be.
use Rattle.std.proofs.Common.{◌≡◌, ℕ, suc, ◌+◌, ◌*◌, ◌≤◌, Bool, true, false, cond, List, [], ◌∷◌, map, length, refl, sym, ap, subst, ◌∙◌, arith, inl, inr}
use Rattle.std.specs.Prelude.{Contains, filter, sum_by}
use Rattle.std.proofs.lemmas.List.{length-append}
use Rattle.std.proofs.lemmas.List.Elements.{Contains-append_left, Contains-append_right}
use Rattle.std.proofs.lemmas.List.Sums.{sum_by-cons}
use Rattle.asm_state.specs.declared.element.TheConstants.{MAX_ELEMENTS}
use Rattle.asm_state.specs.declared.signature_limits.TheConstants.{MAX_UNIVERSES, MAX_VALUES}
use Rattle.asm_state.proofs.Lists.{Contains-cons_cases, Contains-first, Contains-none}
use Rattle.asm_state.specs.Universe.{count_between}
use Rattle.asm_syntax.specs.SourceTree as source
use Rattle.asm_syntax.specs.SourceTree.{Item, Spec}
use Rattle.asm_check.specs.Names.{Declaration, Meaning, Enumeration, Range, declares, declarations_of, declarations_from, predeclared, first_declarations}
use Rattle.asm_check.specs.Faults.{IsWellFormed}
use Rattle.asm_check.specs.Limits.{is_universe, size_of}
use Rattle.asm_check.specs.code.numbers.ItemLists.{elements_of_item, elements_in}
use Rattle.asm_check.specs.WithinLimits.{total}
use Rattle.asm_check.proofs.NameLemmas.ItemLists.{element_declarations, like_next, elements_dropped, AreNumbered, numbered}
use Rattle.asm_check.proofs.LimitLemmas.Sizes.{limits_hold}
use Rattle.asm_check.proofs.NameLemmas.DeclaredOnce.{all_count}
use Rattle.asm_check.specs.code.numbers.NumberTables.{declared_like}

-- what counts one each is how many there are
pub total_ones : (is_like : Meaning → Bool) (ds : List Declaration) → total is_like (λ m. 1) ds ≡ length (declared_like is_like ds)
total_ones is_like [] = refl
total_ones is_like (d ∷ ds) =
    elim (is_like d.meaning) as (λ b. sum_by (λ m. 1) (cond b (d.meaning ∷ filter is_like (map (λ c. c.meaning) ds)) (filter is_like (map (λ c. c.meaning) ds))) ≡ length (cond b (d ∷ declared_like is_like ds) (declared_like is_like ds))) [
      | true ↦ let rest = total_ones is_like ds in sum_by-cons (λ m. 1) d.meaning (filter is_like (map (λ c. c.meaning) ds)) ∙ omega (arith, rest)
      | false ↦ total_ones is_like ds
    ]

abbrev pub IsSmallItem : Item → Type 0
IsSmallItem (source.Enum x xs) = length xs ≤ MAX_VALUES
IsSmallItem (source.Universe x first last) = count_between first.value last.value ≤ MAX_VALUES
IsSmallItem item = Unit {0}

module _ (spec : Spec) (good : IsWellFormed spec) where
  own_small : (k : ℕ) (item : Item) → size_of spec (Enumeration k) ≡ elements_of_item item → ((d : Declaration) → Contains (declarations_of k item) d → size_of spec d.meaning ≤ MAX_VALUES) → IsSmallItem item
  own_small k (source.Enum x xs) is small = let h = small (declares x (Enumeration k)) (Contains-first (declares x (Enumeration k)) (element_declarations k xs)) in omega (arith, is, h)
  own_small k (source.Universe x first last) is small = small (declares x (Range first.value last.value)) (Contains-first (declares x (Range first.value last.value)) [])
  own_small k (source.Uses x) is small = tt
  own_small k (source.Init x) is small = tt
  own_small k (source.Function x how domain codomain table) is small = tt
  own_small k (source.Derived x xs t) is small = tt
  own_small k (source.NamedRule x xs P) is small = tt

  small_from : (k first : ℕ) (items : List Item) → AreNumbered (first_declarations spec) k first items → ((d : Declaration) → Contains (declarations_from k items) d → size_of spec d.meaning ≤ MAX_VALUES)
      → (item : Item) → Contains items item → IsSmallItem item
  small_from k first [] n small item it = absurd (Contains-none item it)
  small_from k first (head ∷ items) n small item it =
      elim (Contains-cons_cases head items item it) [
        | inl e ↦ subst IsSmallItem e (own_small k head n.1 (λ d among. small d (Contains-append_left (declarations_of k head) (declarations_from (suc k) items) d among)))
        | inr rest ↦ small_from (suc k) (first + elements_of_item head) items n.2 (λ d among. small d (Contains-append_right (declarations_of k head) (declarations_from (suc k) items) d among)) item rest
      ]

  pub all_numbered : AreNumbered (first_declarations spec) 0 0 spec.items
  all_numbered = subst (λ ds. AreNumbered ds 0 0 spec.items) (sym (all_count spec good)) (numbered spec.items)

  pub stands_first : (d : Declaration) → Contains (declarations_from 0 spec.items) d → Contains (first_declarations spec) d
  stands_first d it = subst (λ ds. Contains ds d) (sym (all_count spec good)) (Contains-append_right predeclared (declarations_from 0 spec.items) d it)

  pub all_small : (item : Item) → Contains spec.items item → IsSmallItem item
  all_small = small_from 0 0 spec.items all_numbered (λ d it. (limits_hold spec good).elements d (stands_first d it))

  universes_next : (k : ℕ) (item : Item) (items : List Item) → length (declared_like is_universe (declarations_from k (item ∷ items))) ≡ length (declared_like is_universe (declarations_of k item)) + length (declared_like is_universe (declarations_from (suc k) items))
  universes_next k item items = ap length (like_next is_universe k item items) ∙ length-append (declared_like is_universe (declarations_of k item)) (declared_like is_universe (declarations_from (suc k) items))

  own_few : (k : ℕ) (item : Item) → IsSmallItem item → elements_of_item item ≤ MAX_VALUES * length (declared_like is_universe (declarations_of k item))
  own_few k (source.Enum x xs) small =
      let own : length (declared_like is_universe (declarations_of k (source.Enum x xs))) ≡ 1 = ap (λ ds. length (declares x (Enumeration k) ∷ ds)) (elements_dropped is_universe k xs refl) in
      omega (arith, own, small)
  own_few k (source.Universe x first last) small = omega arith
  own_few k (source.Uses x) small = omega arith
  own_few k (source.Init x) small = omega arith
  own_few k (source.Function x how domain codomain table) small = omega arith
  own_few k (source.Derived x xs t) small = omega arith
  own_few k (source.NamedRule x xs P) small = omega arith

  few_from : (k : ℕ) (items : List Item) → ((item : Item) → Contains items item → IsSmallItem item) → elements_in items ≤ MAX_VALUES * length (declared_like is_universe (declarations_from k items))
  few_from k [] small = omega arith
  few_from k (item ∷ items) small =
      let own = own_few k item (small item (Contains-first item items)) in
      let rest = few_from (suc k) items (λ other it. small other (Contains-append_right (item ∷ []) items other it)) in
      let next = universes_next k item items in
      omega (arith, own, rest, next)

  pub few_universes : length (declared_like is_universe (declarations_from 0 spec.items)) ≤ MAX_UNIVERSES
  few_universes =
      let all : total is_universe (λ m. 1) (first_declarations spec) ≡ length (declared_like is_universe (declarations_from 0 spec.items)) =
      total_ones is_universe (first_declarations spec) ∙ ap (λ ds. length (declared_like is_universe ds)) (all_count spec good) in
      let most = (limits_hold spec good).universes in
      omega (arith, all, most)

  pub few_elements : elements_in spec.items ≤ MAX_ELEMENTS
  few_elements = let few = few_universes in let each = few_from 0 spec.items all_small in omega (arith, few, each)

  -- if the elements from an item on, and those before it, are all there are
  pub room_for : (count n : ℕ) (item : Item) (rest : List Item) → count + elements_in (item ∷ rest) ≡ elements_in spec.items → elements_of_item item ≡ n → count + n ≤ MAX_ELEMENTS
  room_for count n item rest all own = let few = few_elements in omega (arith, all, own, few)
