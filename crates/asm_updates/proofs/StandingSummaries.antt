-- Free. Summaries of sets are made from the summaries of their parts.
use Rattle.std.proofs.Common.{◌≡◌, ℕ, ◌<◌, ◌≤◌, true, false, eqb, cond, Option, Some, None, refl, sym, ap, subst, ◌∙◌, inl, inr, ◌⊎◌, arith, ⊎_elim}
use Rattle.std.proofs.lemmas.Bool.Decides.{nat_tests}
use Rattle.std.proofs.lemmas.Bool.{cases_eq, cases_lt}
use Rattle.std.specs.Cmp.{tied_itself}
use Rattle.std.specs.declared.cmp.Ordering.TheVariants.{Less, Equal}
use Rattle.asm_state.specs.declared.value.Value.{Value}
use Rattle.asm_state.specs.code.Codes.{code_of}
use Rattle.asm_state.specs.Location.{Location, location_cmp, location_cmp-total}
use Rattle.asm_state.specs.Signature.{Shape, IsSound, count_of, location_at, number_at, IsLocationOf}
use Rattle.asm_state.specs.Updates.{UpdateSet, Has, Names, none, one, together, merge, Range, widen, later_range, range_at, IsAtMost, IsRange, IsRangeOf}
use Rattle.asm_state.proofs.UpdateLemmas.Members.{member_laws}
use Rattle.asm_state.proofs.UpdateLemmas.Summaries.{summary_laws}
use Rattle.asm_state.proofs.LocationLemmas.NumberedLocations.{number_laws}
use Rattle.asm_updates.specs.code.SummaryRanges.{SummaryRanges, summary_range, range, AreRanges}
use Rattle.asm_updates.specs.code.Stands.{Stands, MarksFaults}
use Rattle.asm_updates.proofs.RangesFound.{found-above}
use Rattle.asm_updates.proofs.Marks.{settled-absent}
use Rattle.asm_updates.proofs.CodeOrder.{at_most, at_most_itself}
use Rattle.asm_updates.proofs.RangesOfTwo.{widen-none}

-- ---- ranges in sets

pub none_range : (l : Location) → range_at none l ≡ None
none_range l = (summary_laws.emptiness none (range_at none) (summary_laws.exists none)).0 refl l

pub union_range : (U V : UpdateSet) (l : Location) → widen (range_at U l) (range_at V l) ≡ range_at (together U V) l
union_range U V l =
    summary_laws.one_range (together U V) l (widen (range_at U l) (range_at V l)) (range_at (together U V) l)
    (summary_laws.of_union U V (range_at U) (range_at V) (summary_laws.exists U) (summary_laws.exists V) l)
    (summary_laws.exists (together U V) l)

merge_range : (U V : UpdateSet) (l : Location) → later_range (range_at U l) (range_at V l) ≡ range_at (merge U V) l
merge_range U V l =
    summary_laws.one_range (merge U V) l (later_range (range_at U l) (range_at V l)) (range_at (merge U V) l)
    (summary_laws.of_merge U V (range_at U) (range_at V) (summary_laws.exists U) (summary_laws.exists V) l)
    (summary_laws.exists (merge U V) l)

-- ---- the empty set

pub stands_for_none : (shape : Shape) (s : SummaryRanges) → IsSound shape → s.count ≡ count_of shape → ((n : ℕ) → summary_range s n ≡ None) → Stands shape s none
stands_for_none shape s sound count all = record {
  is_sound = sound;
  has_count = count;
  has_ranges = λ n h. all n ∙ sym (none_range (location_at shape n));
  names_within = λ l (v, m). absurd (member_laws.of_none l v m);
  marks_faults = λ off n h. settled-absent (location_at shape n) (summary_range s n) (all n);
}

-- ---- the union and the merge

pub stands_for_union : (shape : Shape) (a b c : SummaryRanges) (U V : UpdateSet) → c.count ≡ a.count → ((n : ℕ) → summary_range c n ≡ widen (summary_range a n) (summary_range b n)) → MarksFaults shape c → Stands shape a U → Stands shape b V → Stands shape c (together U V)
stands_for_union shape a b c U V count each marks first second = record {
  is_sound = first.is_sound;
  has_count = count ∙ first.has_count;
  has_ranges = λ n h.
      each n
      ∙ ap (λ r. widen r (summary_range b n)) (first.has_ranges n h)
      ∙ ap (widen (range_at U (location_at shape n))) (second.has_ranges n h)
      ∙ union_range U V (location_at shape n);
  names_within = λ l (v, m). elim ((member_laws.of_union U V l v).0 m) [ inl x ↦ first.names_within l (v, x) | inr y ↦ second.names_within l (v, y) ];
  marks_faults = marks;
}

pub stands_for_merge : (shape : Shape) (a b c : SummaryRanges) (U V : UpdateSet) → c.count ≡ a.count → ((n : ℕ) → summary_range c n ≡ later_range (summary_range a n) (summary_range b n)) → MarksFaults shape c → Stands shape a U → Stands shape b V → Stands shape c (merge U V)
stands_for_merge shape a b c U V count each marks first second = record {
  is_sound = first.is_sound;
  has_count = count ∙ first.has_count;
  has_ranges = λ n h.
      each n
      ∙ ap (λ r. later_range r (summary_range b n)) (first.has_ranges n h)
      ∙ ap (later_range (range_at U (location_at shape n))) (second.has_ranges n h)
      ∙ merge_range U V (location_at shape n);
  names_within = λ l (v, m). elim ((member_laws.of_merge U V l v).0 m) [ inl x ↦ first.names_within l (v, x.0) | inr y ↦ second.names_within l (v, y) ];
  marks_faults = marks;
}

-- ---- a location more

-- locations with different numbers differ
pub apart : (shape : Shape) (m n : ℕ) → IsSound shape → m < count_of shape → n < count_of shape → (m ≡ n → ⊥) → location_at shape m ≡ location_at shape n → ⊥
apart shape m n sound h k other same =
    ⊎_elim
    (λ (below : m < n). differ (location_at shape m) (location_at shape n) (number_laws.rise shape m n sound below k) same)
    (λ (above : n ≤ m). let more : n < m = omega (arith, other) in differ (location_at shape n) (location_at shape m) (number_laws.rise shape n m sound more h) (sym same))
    (cases_lt m n)
  where
    differ : (k l : Location) → location_cmp k l ≡ Less → k ≡ l → ⊥
    differ k l less same =
        let tied : location_cmp k l ≡ Equal = subst (λ x. location_cmp k x ≡ Equal) same (tied_itself location_cmp-total k) in
        let never : Less ≡ Equal = sym less ∙ tied in
        cc

-- the range at each location of a set that names one location alone
pub lone_range : (shape : Shape) (W : UpdateSet) (n : ℕ) (r : Range) → IsSound shape → n < count_of shape → IsRange (Has W (location_at shape n)) r → ((l : Location) → Names W l → l ≡ location_at shape n) →
    (k : ℕ) → k < count_of shape → cond (eqb k n) (Some r) None ≡ range_at W (location_at shape k)
lone_range shape W n r sound h is alone k below =
    ⊎_elim
    (λ (same : k ≡ n).
    let yes : eqb k n ≡ true = grind (arith, nat_tests) in
    rw yes (subst (λ m. Some r ≡ range_at W (location_at shape m)) (sym same)
    (summary_laws.one_range W (location_at shape n) (Some r) (range_at W (location_at shape n)) is (summary_laws.exists W (location_at shape n)))))
    (λ (other : k ≡ n → ⊥).
    let skip : eqb k n ≡ false = grind (arith, nat_tests) in
    rw skip (summary_laws.one_range W (location_at shape k) None (range_at W (location_at shape k))
    (λ v m. apart shape k n sound below h other (alone (location_at shape k) (v, m)))
    (summary_laws.exists W (location_at shape k))))
    (cases_eq k n)

-- an entry more
widened : (f : ℕ → Option Range) (n k : ℕ) (r : Range) → cond (eqb k n) (widen (f n) (Some r)) (f k) ≡ widen (f k) (cond (eqb k n) (Some r) None)
widened f n k r =
    ⊎_elim
    (λ (same : k ≡ n). let yes : eqb k n ≡ true = grind (arith, nat_tests) in rw yes (ap (λ m. widen (f m) (Some r)) (sym same)))
    (λ (other : k ≡ n → ⊥). let skip : eqb k n ≡ false = grind (arith, nat_tests) in rw skip (sym (widen-none (f k))))
    (cases_eq k n)

pub stands_with : (shape : Shape) (a c : SummaryRanges) (U W : UpdateSet) (n : ℕ) (r : Range) → n < a.count → c.count ≡ a.count →
    ((k : ℕ) → summary_range c k ≡ cond (eqb k n) (widen (summary_range a n) (Some r)) (summary_range a k)) →
    MarksFaults shape c → Stands shape a U → IsRange (Has W (location_at shape n)) r → ((l : Location) → Names W l → l ≡ location_at shape n) →
    Stands shape c (together U W)
stands_with shape a c U W n r lt count each marks first is alone =
    let h : n < count_of shape = subst (λ x. n < x) first.has_count lt in
    record {
      is_sound = first.is_sound;
      has_count = count ∙ first.has_count;
      has_ranges = λ k below.
          each k
          ∙ widened (summary_range a) n k r
          ∙ ap (λ x. widen x (cond (eqb k n) (Some r) None)) (first.has_ranges k below)
          ∙ ap (widen (range_at U (location_at shape k))) (lone_range shape W n r first.is_sound h is alone k below)
          ∙ union_range U W (location_at shape k);
      names_within = λ l (v, m). elim ((member_laws.of_union U W l v).0 m) [
        | inl x ↦ first.names_within l (v, x)
        | inr y ↦ subst (IsLocationOf shape) (sym (alone l (v, y))) (number_laws.is_location shape n h)
      ];
      marks_faults = marks;
    }

-- an entry that is later than what was there
later_entry : (f : ℕ → Option Range) (n k : ℕ) (r : Range) → cond (eqb k n) (Some r) (f k) ≡ later_range (f k) (cond (eqb k n) (Some r) None)
later_entry f n k r =
    ⊎_elim
    (λ (same : k ≡ n). let yes : eqb k n ≡ true = grind (arith, nat_tests) in rw yes refl)
    (λ (other : k ≡ n → ⊥). let skip : eqb k n ≡ false = grind (arith, nat_tests) in rw skip refl)
    (cases_eq k n)

pub stands_behind : (shape : Shape) (a c : SummaryRanges) (U W : UpdateSet) (n : ℕ) (r : Range) → n < a.count → c.count ≡ a.count →
    ((k : ℕ) → summary_range c k ≡ cond (eqb k n) (Some r) (summary_range a k)) →
    MarksFaults shape c → Stands shape a U → IsRange (Has W (location_at shape n)) r → ((l : Location) → Names W l → l ≡ location_at shape n) →
    Stands shape c (merge U W)
stands_behind shape a c U W n r lt count each marks first is alone =
    let h : n < count_of shape = subst (λ x. n < x) first.has_count lt in
    record {
      is_sound = first.is_sound;
      has_count = count ∙ first.has_count;
      has_ranges = λ k below.
          each k
          ∙ later_entry (summary_range a) n k r
          ∙ ap (λ x. later_range x (cond (eqb k n) (Some r) None)) (first.has_ranges k below)
          ∙ ap (later_range (range_at U (location_at shape k))) (lone_range shape W n r first.is_sound h is alone k below)
          ∙ merge_range U W (location_at shape k);
      names_within = λ l (v, m). elim ((member_laws.of_merge U W l v).0 m) [
        | inl x ↦ first.names_within l (v, x.0)
        | inr y ↦ subst (IsLocationOf shape) (sym (alone l (v, y))) (number_laws.is_location shape n h)
      ];
      marks_faults = marks;
    }

one_is : (l : Location) (v : Value) → Has (one l v) l v
one_is l v = (member_laws.of_one l l v v).1 (refl, refl)

-- both bounds of a range at one location
pub bounds_range : (l : Location) (low high : Value) → code_of low ≤ code_of high → IsRange (Has (together (one l low) (one l high)) l) (range (low, high))
bounds_range l low high le = record {
  has_least = (member_laws.of_union (one l low) (one l high) l low).1 (inl (one_is l low));
  has_greatest = (member_laws.of_union (one l low) (one l high) l high).1 (inr (one_is l high));
  between = λ v m. elim ((member_laws.of_union (one l low) (one l high) l v).0 m) [
    | inl x ↦ between_at v low ((member_laws.of_one l l low v).0 x).1 (at_most_itself low, at_most low high le)
    | inr y ↦ between_at v high ((member_laws.of_one l l high v).0 y).1 (at_most low high le, at_most_itself high)
  ];
}
  where
    between_at : (v w : Value) → v ≡ w → IsAtMost low w × IsAtMost w high → IsAtMost low v × IsAtMost v high
    between_at v w e h = subst (λ x. IsAtMost low x × IsAtMost x high) (sym e) h

pub bounds_alone : (l : Location) (low high : Value) → (m : Location) → Names (together (one l low) (one l high)) m → m ≡ l
bounds_alone l low high m (v, has) = elim ((member_laws.of_union (one l low) (one l high) m v).0 has) [
  | inl x ↦ ((member_laws.of_one l m low v).0 x).0
  | inr y ↦ ((member_laws.of_one l m high v).0 y).0
]

pub value_range : (l : Location) (low high : Value) → low ≡ high → IsRange (Has (one l low) l) (range (low, high))
value_range l low high same = subst (λ x. IsRange (Has (one l low) l) (range (low, x))) same
    (record {
      has_least = one_is l low;
      has_greatest = one_is l low;
      between = λ v m. subst (λ x. IsAtMost low x × IsAtMost x low) (sym ((member_laws.of_one l l low v).0 m).1) (at_most_itself low, at_most_itself low);
    })

pub value_alone : (l : Location) (low : Value) → (m : Location) → Names (one l low) m → m ≡ l
value_alone l low m (v, has) = ((member_laws.of_one l m low v).0 has).0

-- ---- what a summary tells of its sets

-- a location without a number has no value
pub range_cases : (shape : Shape) (s : SummaryRanges) (U : UpdateSet) (l : Location) → Stands shape s U → (range_at U l ≡ None) ⊎ (IsLocationOf shape l × (range_at U l ≡ summary_range s (number_at shape l)))
range_cases shape s U l stands = by_range (range_at U l) refl
  where
    by_range : (r : Option Range) → range_at U l ≡ r → (range_at U l ≡ None) ⊎ (IsLocationOf shape l × (range_at U l ≡ summary_range s (number_at shape l)))
    by_range None e = inl e
    by_range (Some r) e =
        let is : IsRange (Has U l) r = subst (IsRangeOf (Has U l)) e (summary_laws.exists U l) in
        let here : IsLocationOf shape l = stands.names_within l (r.least, is.has_least) in
        inr (
          here,
          ap (range_at U) (sym (number_laws.location shape l here))
              ∙ sym (stands.has_ranges (number_at shape l) (number_laws.in_range shape l here)),
        )

pub empty_set : (shape : Shape) (s : SummaryRanges) (U : UpdateSet) → Stands shape s U → ((n : ℕ) → summary_range s n ≡ None) → U ≡ none
empty_set shape s U stands all =
    (summary_laws.emptiness U (range_at U) (summary_laws.exists U)).1
    (λ l. elim (range_cases shape s U l stands) [
      | inl absent ↦ absent
      | inr here ↦ here.1 ∙ all (number_at shape l)
    ])

pub empty_entries : (shape : Shape) (s : SummaryRanges) (U : UpdateSet) → AreRanges s.count s.ranges → Stands shape s U → U ≡ none → (n : ℕ) → summary_range s n ≡ None
empty_entries shape s U sound stands empty n =
    ⊎_elim
    (λ (below : n < count_of shape). stands.has_ranges n below ∙ ap (λ V. range_at V (location_at shape n)) empty ∙ none_range (location_at shape n))
    (λ (above : count_of shape ≤ n). found-above s.count s.ranges n sound.in_range (omega (arith, stands.has_count)))
    (cases_lt n (count_of shape))

-- at each location the entry of its number is the range in the set
pub entry_at_location : (shape : Shape) (s : SummaryRanges) (U : UpdateSet) (l : Location) → AreRanges s.count s.ranges → Stands shape s U → summary_range s (number_at shape l) ≡ range_at U l
entry_at_location shape s U l sound stands =
    elim (cases_lt (number_at shape l) (count_of shape)) [
      | inl below ↦ stands.has_ranges (number_at shape l) below ∙ ap (range_at U) (number_laws.below shape l below)
      | inr past ↦ found-above s.count s.ranges (number_at shape l) sound.in_range (omega (arith, stands.has_count, past)) ∙ sym (unnumbered past)
    ]
  where
    unnumbered : count_of shape ≤ number_at shape l → range_at U l ≡ None
    unnumbered past =
        elim (range_cases shape s U l stands) [
          | inl absent ↦ absent
          | inr here ↦ let below = number_laws.in_range shape l here.0 in absurd (omega arith)
        ]
