-- Free. The least and the greatest values that a list of entries has at a location.
use Rattle.std.proofs.Common.{◌≡◌, ℕ, ◌<◌, ◌≤◌, true, eqb, nat_eq, [], ◌∷◌, ◌++◌, All, Option, Some, None, refl, sym, ap, ◌∙◌, subst, inl, inr, arith}
use Rattle.std.proofs.lemmas.Bool.{cases_Bool}
use Rattle.std.proofs.lemmas.Bool.Decides.{nat_tests}
use Rattle.std.proofs.lemmas.List.Elements.{All-head, All-tail, All-from_recursion, recursion_from_All}
use Rattle.std.proofs.lemmas.List.Sorted.{IsPermutation-sym, All-permutation}
use Rattle.std.specs.List.{AllByRecursion, IsDistinct}
use Rattle.std.specs.List.Sorted.{IsPermutation}
use Rattle.std.specs.Map.{keys_of}
use Rattle.asm_state.specs.declared.value.Value.{Value}
use Rattle.asm_state.specs.code.Codes.{code_of}
use Rattle.asm_state.specs.Location.{Location}
use Rattle.asm_state.specs.Signature.{Shape, IsSound, IsLocationOf, count_of, location_at}
use Rattle.asm_state.specs.Updates.{UpdateSet, Names, one, together, Range, widen, range_at}
use Rattle.asm_state.proofs.UpdateLemmas.Members.{member_laws}
use Rattle.asm_state.proofs.LocationLemmas.NumberedLocations.{number_laws}
use Rattle.asm_updates.specs.code.SummaryRanges.{SummaryRanges, NamedRanges, first_range, range, AreRanges}
use Rattle.asm_updates.specs.code.EntryLists.{range_of_entry, range_in, IsSummaryOf, AreInOrder, updates_of, OrderFree, EntryListLaws}
use Rattle.asm_updates.specs.code.Stands.{Stands, MarksFaults}
use Rattle.asm_updates.proofs.RangesFound.{AreEntries-tail, AreEntries-permutation, found-after}
use Rattle.asm_updates.proofs.StandingSummaries.{none_range, union_range, lone_range, bounds_range, bounds_alone}
use Rattle.asm_updates.proofs.WideningLaws.{widen-swap, widen-group, widen-itself}

-- ---- order

append_ranges : (es fs : NamedRanges) (n : ℕ) → range_in (es ++ fs) n ≡ widen (range_in es n) (range_in fs n)
append_ranges [] fs n = refl
append_ranges (e ∷ es) fs n = ap (widen (range_of_entry e n)) (append_ranges es fs n) ∙ sym (widen-group (range_of_entry e n) (range_in es n) (range_in fs n))

-- the range has what the entry has at the location
abbrev Absorbs : ℕ → Option Range → ℕ × (Value × Value) → Type 0
Absorbs n r e = widen (range_of_entry e n) r ≡ r

absorbs_more : (n : ℕ) (r s : Option Range) (es : NamedRanges) → AllByRecursion (Absorbs n s) es → AllByRecursion (Absorbs n (widen r s)) es
absorbs_more n r s [] all = all
absorbs_more n r s (e ∷ es) all =
    let o = range_of_entry e n in (
      sym (widen-group o r s) ∙ ap (λ x. widen x s) (widen-swap o r) ∙ widen-group r o s ∙ ap (widen r) all.0,
      absorbs_more n r s es all.1,
    )

absorbs_own : (n : ℕ) (es : NamedRanges) → AllByRecursion (Absorbs n (range_in es n)) es
absorbs_own n [] = tt
absorbs_own n (e ∷ es) =
    let o = range_of_entry e n in (
      sym (widen-group o o (range_in es n)) ∙ ap (λ x. widen x (range_in es n)) (widen-itself o),
      absorbs_more n o (range_in es n) es (absorbs_own n es),
    )

absorbs_all : (n : ℕ) (r : Option Range) (es : NamedRanges) → AllByRecursion (Absorbs n r) es → widen (range_in es n) r ≡ r
absorbs_all n r [] all = refl
absorbs_all n r (e ∷ es) all = widen-group (range_of_entry e n) (range_in es n) r ∙ ap (widen (range_of_entry e n)) (absorbs_all n r es all.1) ∙ all.0

absorbs_moved : (n : ℕ) (es fs : NamedRanges) → IsPermutation es fs → widen (range_in es n) (range_in fs n) ≡ range_in fs n
absorbs_moved n es fs same =
    let inside = Absorbs n (range_in fs n) in
    absorbs_all n (range_in fs n) es
    (recursion_from_All inside es (All-permutation inside fs es (IsPermutation-sym es fs same) (All-from_recursion inside fs (absorbs_own n fs))))

pub order_free : OrderFree
order_free es fs same n =
    sym (absorbs_moved n fs es (IsPermutation-sym es fs same)) ∙ widen-swap (range_in fs n) (range_in es n) ∙ absorbs_moved n es fs same

-- ---- the entries of a summary

alone : (count : ℕ) (es : NamedRanges) → AreRanges count es → (n : ℕ) → first_range es n ≡ range_in es n
alone count [] are n = refl
alone count (e ∷ es) are n = elim (cases_Bool (eqb n e.0)) [
  | inl here ↦ rw here (sym (ap (widen (Some (range e.1))) (sym (alone count es (AreEntries-tail count e es are) n) ∙ none_else here)))
  | inr other ↦ rw other (alone count es (AreEntries-tail count e es are) n)
]
  where
    none_else : eqb n e.0 ≡ true → first_range es n ≡ None
    none_else here = let is : n ≡ e.0 = grind (arith, nat_tests) in ap (first_range es) is ∙ found-after e es are.unique

-- entries in another order are found alike
pub found-permuted : (count : ℕ) (es fs : NamedRanges) → IsPermutation es fs → IsDistinct nat_eq (keys_of fs) → AreRanges count es → (n : ℕ) → first_range fs n ≡ first_range es n
found-permuted count es fs moves unique are n =
    alone count fs (AreEntries-permutation count es fs moves unique are) n ∙ sym (order_free es fs moves n) ∙ sym (alone count es are n)

-- ---- what the summary of a list stands for

ranges_stand : (shape : Shape) (count : ℕ) (es : NamedRanges) → IsSound shape → count ≡ count_of shape → AreInOrder count es → (n : ℕ) → n < count_of shape
    → range_in es n ≡ range_at (updates_of shape es) (location_at shape n)
ranges_stand shape count [] sound is are n h = sym (none_range (location_at shape n))
ranges_stand shape count (e ∷ es) sound is are n h =
    let l : Location = location_at shape e.0 in
    let bounds : UpdateSet = together (one l e.1.0) (one l e.1.1) in
    let below : e.0 < count_of shape = subst (λ x. e.0 < x) is (All-head (λ e. e.0 < count) e es are.in_range) in
    let rest : AreInOrder count es = record { in_range = All-tail (λ e. e.0 < count) e es are.in_range; ordered = All-tail (λ e. code_of e.1.0 ≤ code_of e.1.1) e es are.ordered } in
    widen-swap (range_of_entry e n) (range_in es n)
    ∙ ap (λ r. widen r (range_of_entry e n)) (ranges_stand shape count es sound is rest n h)
    ∙ ap (widen (range_at (updates_of shape es) (location_at shape n)))
    (lone_range shape bounds e.0 (range e.1) sound below (bounds_range l e.1.0 e.1.1 (All-head (λ e. code_of e.1.0 ≤ code_of e.1.1) e es are.ordered)) (bounds_alone l e.1.0 e.1.1) n h)
    ∙ union_range (updates_of shape es) bounds (location_at shape n)

names_within : (shape : Shape) (es : NamedRanges) → AllByRecursion (λ e. e.0 < count_of shape) es → (l : Location) → Names (updates_of shape es) l → IsLocationOf shape l
names_within shape [] all l (v, m) = absurd (member_laws.of_none l v m)
names_within shape (e ∷ es) all l (v, m) =
    let at : Location = location_at shape e.0 in
    let bounds : UpdateSet = together (one at e.1.0) (one at e.1.1) in
    elim ((member_laws.of_union (updates_of shape es) bounds l v).0 m) [
      | inl x ↦ names_within shape es all.1 l (v, x)
      | inr y ↦ subst (IsLocationOf shape) (sym (bounds_alone at e.1.0 e.1.1 l (v, y))) (number_laws.is_location shape e.0 all.0)
    ]

summary_stands : (shape : Shape) (s : SummaryRanges) (es : NamedRanges) → IsSound shape → s.count ≡ count_of shape → AreInOrder s.count es → IsSummaryOf es s → MarksFaults shape s → Stands shape s (updates_of shape es)
summary_stands shape s es sound is are summary marks = record {
  is_sound = sound;
  has_count = is;
  has_ranges = λ n h. summary n ∙ ranges_stand shape s.count es sound is are n h;
  names_within = names_within shape es (recursion_from_All (λ e. e.0 < count_of shape) es (subst (λ c. All (λ e. e.0 < c) es) is are.in_range));
  marks_faults = marks;
}

pub entry_list_laws : EntryListLaws
entry_list_laws = record {
  of_append = append_ranges;
  of_summary = λ s are. alone s.count s.ranges are;
  stands = summary_stands;
}
