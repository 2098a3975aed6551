-- Free. Faults of update sets.
use Rattle.std.proofs.Common.{◌≡◌, ◌≢◌, true, false, List, [], ◌∷◌, Option, Some, None, refl, sym, ap, subst, ◌∙◌, ◌⊎◌, inl, inr, ◌↔◌}
use Rattle.std.specs.Cmp.{tied_itself, upto}
use Rattle.std.specs.FinSet as set
use Rattle.std.specs.Ordering.{eq_by_cmp, is_gt, ordering_reverse}
use Rattle.std.specs.declared.cmp.Ordering.{Ordering}
use Rattle.std.specs.declared.cmp.Ordering.TheVariants.{Less, Equal, Greater}
use Rattle.std.proofs.lemmas.Bool.{false≢true}
use Rattle.asm_state.specs.declared.value.Value.{Value}
use Rattle.asm_state.specs.Value.{value_cmp}
use Rattle.asm_state.specs.Location.{Location, Proper, Stray, location_cmp, location_cmp-total, location_cmp-antisymmetric}
use Rattle.asm_state.specs.Updates.{Update, UpdateSet, update, Has, IsConsistent, is_at, Range, range_at, IsRange, IsRangeOf, IsSummary, IsFaulty, Fault, Clash, Outside, IsFirstFaulty, IsFirstFault}
use Rattle.asm_state.specs.UpdateLaws.{Summary, LeavesNoFault, FaultLaws}
use Rattle.asm_state.proofs.Lists.{equal-from_neither}
use Rattle.asm_state.proofs.UpdateLemmas.Updates.{same_location, same_value, value_itself}
use Rattle.asm_state.proofs.UpdateLemmas.Ranges.{range_unique, range_at_is, Listed, listed_elsewhere}
use Rattle.asm_state.proofs.UpdateLemmas.Summaries.{one_value}

not_faulty : (U : UpdateSet) → IsConsistent U → (l : Location) → ¬ (IsFaulty U l)
not_faulty U c (Proper f vs) (v, w, m, n, apart) = apart (c.one_value (Proper f vs) v w m n)
not_faulty U c (Stray f) (v, m) = c.no_stray f v m

same_unless_apart : (v w : Value) → ¬ (v ≢ w) → v ≡ w
same_unless_apart v w h =
    elim (eq_by_cmp value_cmp v w) as (λ b. eq_by_cmp value_cmp v w ≡ b → v ≡ w) [
      | true ↦ λ e. same_value v w e
      | false ↦ λ e. absurd (h (λ is. false≢true (sym e ∙ subst (λ u. eq_by_cmp value_cmp v u ≡ true) is (value_itself v))))
    ] refl

from_no_fault : (U : UpdateSet) → ((l : Location) → ¬ (IsFaulty U l)) → IsConsistent U
from_no_fault U free = record { one_value = one_value; no_stray = λ f v m. free (Stray f) (v, m) }
  where
    one_value : (l : Location) (v w : Value) → Has U l v → Has U l w → v ≡ w
    one_value (Proper f vs) v w m n = same_unless_apart v w (λ apart. free (Proper f vs) (v, w, m, n, apart))
    one_value (Stray f) v w m n = absurd (free (Stray f) (v, m))

one_first_faulty : (U : UpdateSet) (l m : Location) → IsFirstFaulty U l → IsFirstFaulty U m → l ≡ m
one_first_faulty U l m h k =
    location_cmp-antisymmetric l m
    (equal-from_neither (location_cmp l m) (h.is_first m k.is_faulty) (ap is_gt (sym (location_cmp-total.antisymm m l)) ∙ k.is_first l h.is_faulty))

one_range : (U : UpdateSet) (l m : Location) (r s : Range) → l ≡ m → IsRange (Has U l) r → IsRange (Has U m) s → Clash l r ≡ Clash m s
one_range U l m r s e h k = λ i. Clash (e i) (unwrap (range_unique (Has U m) (Some r) (Some s) (subst (λ l. IsRange (Has U l) r) e h) k) i)
  where
    unwrap : Some r ≡ Some s → r ≡ s
    unwrap p = cc

one_first : (U : UpdateSet) (f g : Fault) → IsFirstFault U f → IsFirstFault U g → f ≡ g
one_first U (Clash (Proper f vs) r) (Clash (Proper g ws) s) h k = one_range U (Proper f vs) (Proper g ws) r s (one_first_faulty U _ _ h.0 k.0) h.1 k.1
one_first U (Clash (Proper f vs) r) (Clash (Stray g) s) h k = absurd k
one_first U (Clash (Proper f vs) r) (Outside g) h k = absurd (apart (one_first_faulty U _ _ h.0 k))
  where
    apart : Proper f vs ≡ Stray g → ⊥
    apart e = cc
one_first U (Clash (Stray f) r) g h k = absurd h
one_first U (Outside f) (Clash (Proper g ws) s) h k = absurd (apart (one_first_faulty U _ _ h k.0))
  where
    apart : Stray f ≡ Proper g ws → ⊥
    apart e = cc
one_first U (Outside f) (Clash (Stray g) s) h k = absurd k
one_first U (Outside f) (Outside g) h k = ap Outside (function (one_first_faulty U _ _ h k))
  where
    function : Stray f ≡ Stray g → f ≡ g
    function e = cc

-- ---- faults by the summary

unsettled : (U : UpdateSet) (l : Location) (r : Option Range) → IsRangeOf (Has U l) r → IsFaulty U l → ¬ (LeavesNoFault l r)
unsettled U (Proper f vs) r h (v, w, m, n, apart) settled = apart (one_value U (Proper f vs) r settled h v m w n)
unsettled U (Stray f) None h (v, m) settled = h v m
unsettled U (Stray f) (Some r) h (v, m) settled = settled

faulty : (U : UpdateSet) (l : Location) (r : Option Range) → IsRangeOf (Has U l) r → ¬ (LeavesNoFault l r) → IsFaulty U l
faulty U l None h loose = absurd (loose tt)
faulty U (Proper f vs) (Some r) h loose = (r.least, r.greatest, h.has_least, h.has_greatest, loose)
faulty U (Stray f) (Some r) h loose = (r.least, h.has_least)

by_summary : (U : UpdateSet) (s : Summary) → IsSummary U s → (l : Location) → IsFaulty U l ↔ (¬ (LeavesNoFault l (s l)))
by_summary U s h l = (unsettled U l (s l) (h l), faulty U l (s l) (h l))

-- a range is settled or isn't
settled_or_not : (l : Location) (r : Option Range) → LeavesNoFault l r ⊎ (¬ (LeavesNoFault l r))
settled_or_not l None = inl tt
settled_or_not (Proper f vs) (Some r) =
    elim (eq_by_cmp value_cmp r.least r.greatest) as (λ b. eq_by_cmp value_cmp r.least r.greatest ≡ b → (r.least ≡ r.greatest) ⊎ (r.least ≢ r.greatest)) [
      | true ↦ λ e. inl (same_value r.least r.greatest e)
      | false ↦ λ e. inr (λ is. false≢true (sym e ∙ subst (λ v. eq_by_cmp value_cmp r.least v ≡ true) is (value_itself r.least)))
    ] refl
settled_or_not (Stray f) (Some r) = inr (λ never. never)

-- ---- the first fault

at_head : (m : Location) (u : Update) (us : List Update) (v : Value) → Listed m (u ∷ us) v → (m ≡ u.location) ⊎ Listed m us v
at_head m u us v h =
    elim (is_at m u) as (λ b. is_at m u ≡ b → (m ≡ u.location) ⊎ Listed m us v) [
      | true ↦ λ e. inl (same_location m u.location e)
      | false ↦ λ e. inr (listed_elsewhere m u us v e h)
    ] refl

not_above_itself : (l : Location) → is_gt (location_cmp l l) ≡ false
not_above_itself l = ap is_gt (tied_itself location_cmp-total l)

below_from_above : (l m : Location) → is_gt (location_cmp l m) ≡ true → is_gt (location_cmp m l) ≡ false
below_from_above l m e = ap is_gt (location_cmp-total.antisymm m l) ∙ turned (location_cmp l m) e
  where
    turned : (r : Ordering) → is_gt r ≡ true → is_gt (ordering_reverse r) ≡ false
    turned Less e = absurd (false≢true e)
    turned Equal e = refl
    turned Greater e = refl

module _ (U : UpdateSet) where
  -- the least faulty location of some updates
  record IsLeastOf (us : List Update) (l : Location) : Type 0 where
    is_faulty : IsFaulty U l
    is_least : (m : Location) (v : Value) → Listed m us v → IsFaulty U m → is_gt (location_cmp l m) ≡ false

  abbrev IsFree : List Update → Type 0
  IsFree us = (m : Location) (v : Value) → Listed m us v → ¬ (IsFaulty U m)

  -- the head isn't faulty, the head alone is, or the least of the others is at hand
  skip_free : (u : Update) (us : List Update) → ¬ (IsFaulty U u.location) → IsFree us → IsFree (u ∷ us)
  skip_free u us good free m v h f = elim (at_head m u us v h) [ inl e ↦ good (subst (IsFaulty U) e f) | inr n ↦ free m v n f ]

  skip : (u : Update) (us : List Update) (l : Location) → ¬ (IsFaulty U u.location) → IsLeastOf us l → IsLeastOf (u ∷ us) l
  skip u us l good least = record {
    is_faulty = least.is_faulty;
    is_least = λ m v h f. elim (at_head m u us v h) [ inl e ↦ absurd (good (subst (IsFaulty U) e f)) | inr n ↦ least.is_least m v n f ];
  }

  head_alone : (u : Update) (us : List Update) → IsFaulty U u.location → IsFree us → IsLeastOf (u ∷ us) u.location
  head_alone u us bad free = record {
    is_faulty = bad;
    is_least = λ m v h f. elim (at_head m u us v h) [
      | inl e ↦ subst (λ k. is_gt (location_cmp u.location k) ≡ false) (sym e) (not_above_itself u.location)
      | inr n ↦ absurd (free m v n f)
    ];
  }

  head_before : (u : Update) (us : List Update) (l : Location) → IsFaulty U u.location → is_gt (location_cmp u.location l) ≡ false → IsLeastOf us l → IsLeastOf (u ∷ us) u.location
  head_before u us l bad before least = record {
    is_faulty = bad;
    is_least = λ m v h f. elim (at_head m u us v h) [
      | inl e ↦ subst (λ k. is_gt (location_cmp u.location k) ≡ false) (sym e) (not_above_itself u.location)
      | inr n ↦ upto location_cmp-total u.location l m before (least.is_least m v n f)
    ];
  }

  head_after : (u : Update) (us : List Update) (l : Location) → is_gt (location_cmp l u.location) ≡ false → IsLeastOf us l → IsLeastOf (u ∷ us) l
  head_after u us l after least = record {
    is_faulty = least.is_faulty;
    is_least = λ m v h f. elim (at_head m u us v h) [
      | inl e ↦ subst (λ k. is_gt (location_cmp l k) ≡ false) (sym e) after
      | inr n ↦ least.is_least m v n f
    ];
  }

  abbrev Found : List Update → Type 0
  Found us = IsFree us ⊎ ((l : Location) × IsLeastOf us l)

  with_head : (u : Update) (us : List Update) → LeavesNoFault u.location (range_at U u.location) ⊎ (¬ (LeavesNoFault u.location (range_at U u.location))) → Found us → Found (u ∷ us)
  with_head u us (inl good) (inl free) = inl (skip_free u us (λ f. unsettled U u.location (range_at U u.location) (range_at_is U u.location) f good) free)
  with_head u us (inl good) (inr (l, least)) = inr (l, skip u us l (λ f. unsettled U u.location (range_at U u.location) (range_at_is U u.location) f good) least)
  with_head u us (inr bad) (inl free) = inr (u.location, head_alone u us (faulty U u.location (range_at U u.location) (range_at_is U u.location) bad) free)
  with_head u us (inr bad) (inr (l, least)) =
      elim (is_gt (location_cmp l u.location)) as (λ b. is_gt (location_cmp l u.location) ≡ b → Found (u ∷ us)) [
        | true ↦ λ e. inr (u.location, head_before u us l (faulty U u.location (range_at U u.location) (range_at_is U u.location) bad) (below_from_above l u.location e) least)
        | false ↦ λ e. inr (l, head_after u us l e least)
      ] refl

  find_least : (us : List Update) → Found us
  find_least [] = inl (λ m v h. absurd (false≢true h))
  find_least (u ∷ us) = with_head u us (settled_or_not u.location (range_at U u.location)) (find_least us)

  listed : (l : Location) (v : Value) → Has U l v → Listed l (set.items U) v
  listed l v h = sym (set.contains-items U (update l v)) ∙ h

  -- a faulty location has some update
  faulty_has : (l : Location) → IsFaulty U l → (v : Value) × Has U l v
  faulty_has (Proper f vs) (v, w, m, n, apart) = (v, m)
  faulty_has (Stray f) (v, m) = (v, m)

  first_from : (l : Location) → IsLeastOf (set.items U) l → IsFirstFaulty U l
  first_from l least = record {
    is_faulty = least.is_faulty;
    is_first = λ m f. let has : (v : Value) × Has U m v = faulty_has m f in least.is_least m has.0 (listed m has.0 has.1) f;
  }

  -- the fault at a faulty location with this range
  fault_at : (l : Location) (r : Option Range) → IsRangeOf (Has U l) r → IsFirstFaulty U l → (fault : Fault) × IsFirstFault U fault
  fault_at (Proper f vs) None h first = absurd (h (faulty_has (Proper f vs) first.is_faulty).0 (faulty_has (Proper f vs) first.is_faulty).1)
  fault_at (Proper f vs) (Some r) h first = (Clash (Proper f vs) r, (first, h))
  fault_at (Stray f) r h first = (Outside f, first)

  found_fault : ¬ (IsConsistent U) → Found (set.items U) → (fault : Fault) × IsFirstFault U fault
  found_fault inconsistent (inl free) = absurd (inconsistent (from_no_fault U (λ l f. free l (faulty_has l f).0 (listed l (faulty_has l f).0 (faulty_has l f).1) f)))
  found_fault inconsistent (inr (l, least)) = fault_at l (range_at U l) (range_at_is U l) (first_from l least)

has_first : (U : UpdateSet) → ¬ (IsConsistent U) → (fault : Fault) × IsFirstFault U fault
has_first U inconsistent = found_fault U inconsistent (find_least U (set.items U))

pub fault_laws : FaultLaws
fault_laws = record {
  by_summary = by_summary;
  no_fault = λ U. (not_faulty U, from_no_fault U);
  has_first = has_first;
  one_first = one_first;
}
