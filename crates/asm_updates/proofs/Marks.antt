-- Free. Marks of summaries that may have a fault.
use Rattle.std.proofs.Common.{◌≡◌, ℕ, ◌<◌, Bool, true, false, eqb, cond, [], ◌∷◌, length, Option, Some, None, IsTrue, refl, sym, ap, subst, ◌∙◌, inl, inr, ◌⊎◌, arith, ⊎_elim}
use Rattle.std.proofs.lemmas.Bool.{cases_eq}
use Rattle.std.proofs.lemmas.Bool.Decides.{nat_tests}
use Rattle.asm_state.specs.declared.value.Value.{Value}
use Rattle.asm_state.specs.Location.{Location, Proper, Stray}
use Rattle.asm_state.specs.Signature.{Shape, count_of, location_at}
use Rattle.asm_state.specs.UpdateLaws.{LeavesNoFault}
use Rattle.asm_state.specs.Updates.{Range, widen, later_range, is_proper}
use Rattle.asm_updates.specs.code.SummaryRanges.{SummaryRanges, NamedRanges, summary_range, first_range, range, marked}
use Rattle.asm_updates.specs.code.IndexedRanges.{HasOneValue, put}
use Rattle.asm_updates.specs.code.Stands.{MarksFaults}
use Rattle.asm_updates.proofs.RangesFound.{found-put}

-- ---- settled locations

settled-none : (l : Location) → LeavesNoFault l None
settled-none (Proper f vs) = tt
settled-none (Stray f) = tt

pub settled-absent : (l : Location) (r : Option Range) → r ≡ None → LeavesNoFault l r
settled-absent l r gone = subst (LeavesNoFault l) (sym gone) (settled-none l)

-- a proper location with one value is settled
settled-proper : (l : Location) (r : Option Range) → IsTrue (is_proper l) → HasOneValue r → LeavesNoFault l r
settled-proper (Proper f vs) None proper one = tt
settled-proper (Proper f vs) (Some r) proper one = one
settled-proper (Stray f) r proper one = cc

-- a settled location has at most one value, and none if it is a stray one
one_value : (l : Location) (r : Option Range) → LeavesNoFault l r → HasOneValue r
one_value (Proper f vs) None is = tt
one_value (Proper f vs) (Some r) is = is
one_value (Stray f) None is = tt
one_value (Stray f) (Some r) is = absurd is

-- a settled location that is widened is settled if it still has one value
settled-widened : (l : Location) (r s t : Option Range) → t ≡ widen r s → LeavesNoFault l r → LeavesNoFault l s → (HasOneValue r → HasOneValue t) → LeavesNoFault l t
settled-widened l None s t is first second one = subst (LeavesNoFault l) (sym is) second
settled-widened (Proper f vs) (Some r) s t is first second one = settled-proper (Proper f vs) t refl (one first)
settled-widened (Stray f) (Some r) s t is first second one = absurd first

settled-later : (l : Location) (r s t : Option Range) → t ≡ later_range r s → LeavesNoFault l r → LeavesNoFault l s → LeavesNoFault l t
settled-later l r None t is first second = subst (LeavesNoFault l) (sym is) first
settled-later l r (Some s) t is first second = subst (LeavesNoFault l) (sym is) second

-- ---- bounds that are put

pub one_value_put : (es fs : NamedRanges) (n : ℕ) (b : Value × Value) → fs ≡ put es n b → b.0 ≡ b.1 → HasOneValue (first_range fs n)
one_value_put es fs n b is same =
    let yes : eqb n n ≡ true = grind (arith, nat_tests) in
    let here : first_range fs n ≡ Some (range b) = ap (λ gs. first_range gs n) is ∙ found-put es n b n ∙ rw yes refl in
    subst HasOneValue (sym here) same

pub one_value_more : (f g : ℕ → Option Range) (n : ℕ) (r : Option Range) → ((k : ℕ) → g k ≡ cond (eqb k n) r (f k)) → HasOneValue (g n) → (k : ℕ) → HasOneValue (f k) → HasOneValue (g k)
one_value_more f g n r turn one k was =
    ⊎_elim
    (λ (same : k ≡ n). subst (λ m. HasOneValue (g m)) (sym same) one)
    (λ (other : k ≡ n → ⊥).
    let skip : eqb k n ≡ false = grind (arith, nat_tests) in
    let as_it_was : g k ≡ f k = turn k ∙ rw skip refl in
    subst HasOneValue (sym as_it_was) was)
    (cases_eq k n)

-- ---- marks

-- entries that aren't marked are none, or came without a mark
none_or : (mark : Bool) (es : NamedRanges) → marked mark es ≡ false → ((n : ℕ) → first_range es n ≡ None) ⊎ (mark ≡ false)
none_or mark [] off = inl (λ n. refl)
none_or mark (e ∷ es) off = inr off

pub unmarked : (mark : Bool) (es : NamedRanges) → mark ≡ false → marked mark es ≡ false
unmarked mark [] off = refl
unmarked mark (e ∷ es) off = off

-- how many entries there are says whether a mark says anything
pub same_mark : (mark : Bool) (es fs : NamedRanges) → length fs ≡ length es → marked mark fs ≡ marked mark es
same_mark mark [] [] same = refl
same_mark mark [] (f ∷ fs) same = absurd (omega (arith, same))
same_mark mark (e ∷ es) [] same = absurd (omega (arith, same))
same_mark mark (e ∷ es) (f ∷ fs) same = refl

pub no_mark : (mark : Bool) (es : NamedRanges) → length es ≡ 0 → marked mark es ≡ false
no_mark mark es empty = same_mark mark [] es empty

-- what `MarksFaults` says, of a mark and of entries
abbrev Marks : Shape → Bool → NamedRanges → Type 0
Marks shape mark es = mark ≡ false → (n : ℕ) → n < count_of shape → LeavesNoFault (location_at shape n) (first_range es n)

-- what is marked may name any location
pub marks_any : (shape : Shape) (es : NamedRanges) → Marks shape (marked true es) es
marks_any shape es off n h = elim (none_or true es off) [
  | inl none ↦ settled-absent (location_at shape n) (first_range es n) (none n)
  | inr never ↦ cc
]

-- a union has a mark if one of the two sets has one, or a location got two values
pub marks_union : (shape : Shape) (a b : SummaryRanges) (es : NamedRanges) (mark : Bool) → (mark ≡ false → (a.may_fault ≡ false) × (b.may_fault ≡ false)) → (mark ≡ false → (k : ℕ) → HasOneValue (summary_range a k) → HasOneValue (first_range es k))
    → ((n : ℕ) → first_range es n ≡ widen (summary_range a n) (summary_range b n)) → MarksFaults shape a → MarksFaults shape b → Marks shape (marked mark es) es
marks_union shape a b es mark known one each first second off n h = elim (none_or mark es off) [
  | inl none ↦ settled-absent (location_at shape n) (first_range es n) (none n)
  | inr without ↦ settled-widened (location_at shape n) (summary_range a n) (summary_range b n) (first_range es n) (each n) (first (known without).0 n h) (second (known without).1 n h) (one without n)
]

pub marks_merge : (shape : Shape) (a b : SummaryRanges) (es : NamedRanges) (mark : Bool) → (mark ≡ false → (a.may_fault ≡ false) × (b.may_fault ≡ false))
    → ((n : ℕ) → first_range es n ≡ later_range (summary_range a n) (summary_range b n)) → MarksFaults shape a → MarksFaults shape b → Marks shape (marked mark es) es
marks_merge shape a b es mark known each first second off n h = elim (none_or mark es off) [
  | inl none ↦ settled-absent (location_at shape n) (first_range es n) (none n)
  | inr without ↦ settled-later (location_at shape n) (summary_range a n) (summary_range b n) (first_range es n) (each n) (first (known without).0 n h) (second (known without).1 n h)
]

-- a proper location more needs a mark only if it has two values
pub marks_with : (shape : Shape) (a : SummaryRanges) (es : NamedRanges) (n : ℕ) (r : Range) (mark : Bool) → (mark ≡ false → a.may_fault ≡ false) → (mark ≡ false → HasOneValue (first_range es n)) →
    ((k : ℕ) → first_range es k ≡ cond (eqb k n) (widen (summary_range a n) (Some r)) (summary_range a k)) → IsTrue (is_proper (location_at shape n)) → MarksFaults shape a → Marks shape (marked mark es) es
marks_with shape a es n r mark known one each proper first off k h = elim (none_or mark es off) [
  | inl none ↦ settled-absent (location_at shape k) (first_range es k) (none k)
  | inr without ↦
      ⊎_elim
      (λ (same : k ≡ n). subst (λ m. LeavesNoFault (location_at shape m) (first_range es m)) (sym same) (settled-proper (location_at shape n) (first_range es n) proper (one without)))
      (λ (other : k ≡ n → ⊥).
      let skip : eqb k n ≡ false = grind (arith, nat_tests) in
      let as_it_was : first_range es k ≡ summary_range a k = each k ∙ rw skip refl in
      subst (LeavesNoFault (location_at shape k)) (sym as_it_was) (first (known without) k h))
      (cases_eq k n)
]

-- a proper location gets one value, and no other location changes
pub marks_behind : (shape : Shape) (a : SummaryRanges) (es : NamedRanges) (n : ℕ) (v : Value) (mark : Bool) → (mark ≡ false → a.may_fault ≡ false) →
    ((k : ℕ) → first_range es k ≡ cond (eqb k n) (Some (range (v, v))) (summary_range a k)) → IsTrue (is_proper (location_at shape n)) → MarksFaults shape a → Marks shape (marked mark es) es
marks_behind shape a es n v mark known each proper first off k h = elim (none_or mark es off) [
  | inl none ↦ settled-absent (location_at shape k) (first_range es k) (none k)
  | inr without ↦
      ⊎_elim
      (λ (same : k ≡ n).
      let yes : eqb n n ≡ true = grind (arith, nat_tests) in
      let here : first_range es n ≡ Some (range (v, v)) = each n ∙ rw yes refl in
      subst (λ m. LeavesNoFault (location_at shape m) (first_range es m)) (sym same) (settled-proper (location_at shape n) (first_range es n) proper (subst HasOneValue (sym here) refl)))
      (λ (other : k ≡ n → ⊥).
      let skip : eqb k n ≡ false = grind (arith, nat_tests) in
      let as_it_was : first_range es k ≡ summary_range a k = each k ∙ rw skip refl in
      subst (LeavesNoFault (location_at shape k)) (sym as_it_was) (first (known without) k h))
      (cases_eq k n)
]
