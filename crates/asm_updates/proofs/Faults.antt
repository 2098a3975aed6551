-- Free. The first fault of the sets that a summary stands for.
use Rattle.std.proofs.Common.{◌≡◌, ◌≢◌, ℕ, ◌<◌, ◌≤◌, true, false, eqb, [], ◌∷◌, Option, Some, None, IfNone, IfSome, MatchOption, IsTrue, refl, sym, ap, subst, ◌∙◌, inl, inr, arith, ⊎_elim}
use Rattle.std.proofs.lemmas.Bool.{cases_lt, cases_eq}
use Rattle.std.proofs.lemmas.Bool.Decides.{nat_tests}
use Rattle.std.proofs.lemmas.Option.{none-some}
use Rattle.std.specs.Cmp.{tied_itself}
use Rattle.std.specs.Ordering.{is_gt}
use Rattle.std.specs.declared.cmp.Ordering.TheVariants.{Less, Equal}
use Rattle.asm_state.specs.declared.value.Value.{Value}
use Rattle.asm_state.specs.code.Codes.{code_of}
use Rattle.asm_state.specs.Location.{Location, Proper, Stray, location_cmp, location_cmp-total}
use Rattle.asm_state.specs.Signature.{Shape, count_of, location_at, number_at, IsLocationOf}
use Rattle.asm_state.specs.UpdateLaws.{LeavesNoFault}
use Rattle.asm_state.specs.Updates.{UpdateSet, Has, Names, IsConsistent, Range, range_at, IsRange, IsRangeOf, IsFaulty, Clash, IsFirstFaulty, IsFirstFault, is_proper}
use Rattle.asm_state.proofs.Codes.{codes_apart}
use Rattle.asm_state.proofs.UpdateLemmas.Faults.{fault_laws}
use Rattle.asm_state.proofs.LocationLemmas.NumberedLocations.{number_laws}
use Rattle.asm_state.proofs.UpdateLemmas.Summaries.{summary_laws}
use Rattle.asm_updates.specs.declared.fault.Fault.{Fault as NumberedFault}
use Rattle.asm_updates.specs.declared.fault.Fault.TheVariants as numbered
use Rattle.asm_updates.specs.code.SummaryRanges.{NamedRanges, SummaryRanges, summary_range, first_range, range, AreRanges}
use Rattle.asm_updates.specs.code.Faults.{fault_of, IsFaultAt}
use Rattle.asm_updates.specs.code.Stands.{Stands}
use Rattle.asm_updates.proofs.RangesFound.{AreEntries-head, AreEntries-tail, found-after}
use Rattle.asm_updates.proofs.StandingSummaries.{range_cases}

-- equal bounds at a proper location leave no fault
pub settled_by_codes : (l : Location) (low high : Value) → IsTrue (is_proper l) → code_of low ≡ code_of high → LeavesNoFault l (Some (range (low, high)))
settled_by_codes (Proper f vs) low high proper same = codes_apart low high same
settled_by_codes (Stray f) low high proper same = cc

-- a faulty location has a value
named : (U : UpdateSet) (l : Location) → IsFaulty U l → Names U l
named U (Proper f vs) (v, w, m, n, apart) = (v, m)
named U (Stray f) has = has

pub settled-none : (l : Location) → LeavesNoFault l None
settled-none (Proper f vs) = tt
settled-none (Stray f) = tt

-- ---- if all is settled

pub consistent : (shape : Shape) (s : SummaryRanges) (U : UpdateSet) → Stands shape s U → ((n : ℕ) → n < count_of shape → LeavesNoFault (location_at shape n) (summary_range s n)) → IsConsistent U
consistent shape s U stands all =
    (summary_laws.consistency U (range_at U) (summary_laws.exists U)).1
    (λ l. elim (range_cases shape s U l stands) [
      | inl absent ↦ subst (LeavesNoFault l) (sym absent) (settled-none l)
      | inr here ↦ subst (LeavesNoFault l) (sym here.1) (subst (λ m. LeavesNoFault m (summary_range s (number_at shape l))) (number_laws.location shape l here.0) (all (number_at shape l) (number_laws.in_range shape l here.0)))
    ])

-- ---- where the first fault is

pub first_faulty : (shape : Shape) (s : SummaryRanges) (U : UpdateSet) (n : ℕ) → Stands shape s U → n < count_of shape → ((m : ℕ) → m < n → LeavesNoFault (location_at shape m) (summary_range s m)) →
    IsFaulty U (location_at shape n) → IsFirstFaulty U (location_at shape n)
first_faulty shape s U n stands below settled faulty = record {
  is_faulty = faulty;
  is_first = λ m other. in_order m other (number_at shape m) (stands.names_within m (named U m other)) refl;
}
  where
    in_order : (m : Location) → IsFaulty U m → (k : ℕ) → IsLocationOf shape m → k ≡ number_at shape m → is_gt (location_cmp (location_at shape n) m) ≡ false
    in_order m other k here e =
        let lies : location_at shape k ≡ m = ap (location_at shape) e ∙ number_laws.location shape m here in
        let in_range : k < count_of shape = subst (λ j. j < count_of shape) (sym e) (number_laws.in_range shape m here) in
        ⊎_elim
        (λ (before : k < n).
        let is : LeavesNoFault (location_at shape k) (range_at U (location_at shape k)) = subst (LeavesNoFault (location_at shape k)) (stands.has_ranges k in_range) (settled k before) in
        absurd ((fault_laws.by_summary U (range_at U) (summary_laws.exists U) (location_at shape k)).0 (subst (IsFaulty U) (sym lies) other) is))
        (λ (from : n ≤ k).
        ⊎_elim
        (λ (same : n ≡ k). ap is_gt (subst (λ l. location_cmp (location_at shape n) l ≡ Equal) (ap (location_at shape) same ∙ lies) (tied_itself location_cmp-total (location_at shape n))))
        (λ (apart : n ≡ k → ⊥).
        let less : n < k = omega (arith, apart) in
        ap is_gt (subst (λ l. location_cmp (location_at shape n) l ≡ Less) lies (number_laws.rise shape n k stands.is_sound less in_range)))
        (cases_eq n k))
        (cases_lt k n)

faulty_range : (U : UpdateSet) (l : Location) (r : Range) → IsTrue (is_proper l) → r.least ≢ r.greatest → IsRange (Has U l) r → IsFaulty U l
faulty_range U (Proper f vs) r proper apart is = (r.least, r.greatest, is.has_least, is.has_greatest, apart)
faulty_range U (Stray f) r proper apart is = cc

faulty_stray : (U : UpdateSet) (f : ℕ) (r : Range) → IsRange (Has U (Stray f)) r → IsFaulty U (Stray f)
faulty_stray U f r is = (r.least, is.has_least)

first_clash : (U : UpdateSet) (l : Location) (r : Range) → IsTrue (is_proper l) → IsFirstFaulty U l → IsRange (Has U l) r → IsFirstFault U (Clash l r)
first_clash U (Proper f vs) r proper first is = (first, is)
first_clash U (Stray f) r proper first is = cc

pub first_fault_is : (shape : Shape) (s : SummaryRanges) (U : UpdateSet) (n : ℕ) (low high : Value) (fault : NumberedFault) → Stands shape s U → n < count_of shape →
    ((m : ℕ) → m < n → LeavesNoFault (location_at shape m) (summary_range s m)) → summary_range s n ≡ Some (range (low, high)) → IsFaultAt shape n low high fault → IsFirstFault U (fault_of shape fault)
first_fault_is shape s U n low high (numbered.Clash m least greatest) stands below settled here (same, is_least, is_greatest, apart, proper) =
    let is : IsRange (Has U (location_at shape n)) (range (low, high)) = subst (IsRangeOf (Has U (location_at shape n))) (sym (stands.has_ranges n below) ∙ here) (summary_laws.exists U (location_at shape n)) in
    let first : IsFirstFault U (Clash (location_at shape n) (range (low, high))) =
    first_clash U (location_at shape n) (range (low, high)) proper
    (first_faulty shape s U n stands below settled (faulty_range U (location_at shape n) (range (low, high)) proper apart is))
    is in
    subst (λ k. IsFirstFault U (Clash (location_at shape k) (range (least, greatest)))) (sym same)
    (subst (λ v. IsFirstFault U (Clash (location_at shape n) (range (v, greatest)))) (sym is_least)
    (subst (λ v. IsFirstFault U (Clash (location_at shape n) (range (low, v)))) (sym is_greatest) first))
first_fault_is shape s U n low high (numbered.Outside f) stands below settled here stray =
    let is : IsRange (Has U (location_at shape n)) (range (low, high)) = subst (IsRangeOf (Has U (location_at shape n))) (sym (stands.has_ranges n below) ∙ here) (summary_laws.exists U (location_at shape n)) in
    let faulty : IsFaulty U (location_at shape n) = subst (IsFaulty U) (sym stray) (faulty_stray U f (range (low, high)) (subst (λ l. IsRange (Has U l) (range (low, high))) stray is)) in
    subst (IsFirstFaulty U) stray (first_faulty shape s U n stands below settled faulty)

-- the fault of a location that is named
pub record IsFaultOf (shape : Shape) (s : SummaryRanges) (n : ℕ) (fault : NumberedFault) : Type 0 where
  pub low : Value
  pub high : Value
  pub in_range : n < s.count
  pub here : summary_range s n ≡ Some (range (low, high))
  pub is_fault : IsFaultAt shape n low high fault

-- ---- a look at each entry

-- what is known once the entries up to some are looked at: no location below the end has a fault
-- there, and the first fault is at the end
pub record IsSoFar (shape : Shape) (s : SummaryRanges) (rest : NamedRanges) (end : ℕ) (first : Option NumberedFault) : Type 0 where
  pub sound : AreRanges s.count rest
  pub left : (m : ℕ) (r : Range) → first_range rest m ≡ Some r → summary_range s m ≡ Some r
  pub settled : (m : ℕ) → m < end → first_range rest m ≡ None → LeavesNoFault (location_at shape m) (summary_range s m)
  pub fault : MatchOption first (end ≡ s.count) (IsFaultOf shape s end)

pub nothing_so_far : (shape : Shape) (s : SummaryRanges) → AreRanges s.count s.ranges → IsSoFar shape s s.ranges s.count None
nothing_so_far shape s sound = record {
  sound = sound;
  left = λ m r e. e;
  settled = λ m less none. subst (LeavesNoFault (location_at shape m)) (sym none) (settled-none (location_at shape m));
  fault = refl;
}

module _ (shape : Shape) (s : SummaryRanges) (n : ℕ) (b : Value × Value) (left : NamedRanges) (end : ℕ) (first : Option NumberedFault) (so_far : IsSoFar shape s ((n, b) ∷ left) end first) where
  here : summary_range s n ≡ Some (range b)
  here = let yes : eqb n n ≡ true = grind (arith, nat_tests) in so_far.left n (range b) (rw yes refl)

  elsewhere : (m : ℕ) → (m ≡ n → ⊥) → first_range ((n, b) ∷ left) m ≡ first_range left m
  elsewhere m other = let skip : eqb m n ≡ false = grind (arith, nat_tests) in rw skip refl

  still_left : (m : ℕ) (r : Range) → first_range left m ≡ Some r → summary_range s m ≡ Some r
  still_left m r e =
      ⊎_elim
      (λ (same : m ≡ n).
      let none : first_range left m ≡ None = subst (λ k. first_range left k ≡ None) (sym same) (found-after (n, b) left so_far.sound.unique) in
      absurd (none-some r (sym none ∙ e)))
      (λ (other : m ≡ n → ⊥). so_far.left m r (elsewhere m other ∙ e))
      (cases_eq m n)

  pub fault_so_far : (fault : NumberedFault) → n < end → IsFaultAt shape n b.0 b.1 fault → IsSoFar shape s left n (Some fault)
  fault_so_far fault less is = record {
    sound = AreEntries-tail s.count (n, b) left so_far.sound;
    left = still_left;
    settled = λ m below none. so_far.settled m (omega arith) (elsewhere m (λ same. omega arith) ∙ none);
    fault = record {
      low = b.0;
      high = b.1;
      in_range = (AreEntries-head s.count (n, b) left so_far.sound).in_range;
      here = here;
      is_fault = is;
    };
  }

  pub settled_so_far : (n < end → LeavesNoFault (location_at shape n) (Some (range b))) → IsSoFar shape s left end first
  settled_so_far is = record {
    sound = AreEntries-tail s.count (n, b) left so_far.sound;
    left = still_left;
    settled = λ m below none.
        ⊎_elim
        (λ (same : m ≡ n).
        subst (λ k. LeavesNoFault (location_at shape k) (summary_range s k)) (sym same)
        (subst (LeavesNoFault (location_at shape n)) (sym here) (is (omega arith))))
        (λ (other : m ≡ n → ⊥). so_far.settled m below (elsewhere m other ∙ none))
        (cases_eq m n);
    fault = so_far.fault;
  }

pub all_consistent : (shape : Shape) (s : SummaryRanges) (end : ℕ) (first : Option NumberedFault) → s.count ≡ count_of shape → IsSoFar shape s [] end first → IfNone first ((U : UpdateSet) → Stands shape s U → IsConsistent U)
all_consistent shape s end None count so_far = λ U stands. consistent shape s U stands (λ n h. so_far.settled n (omega (arith, so_far.fault)) refl)
all_consistent shape s end (Some fault) count so_far = tt

pub all_first : (shape : Shape) (s : SummaryRanges) (end : ℕ) (first : Option NumberedFault) → s.count ≡ count_of shape → IsSoFar shape s [] end first → IfSome first (λ fault. (U : UpdateSet) → Stands shape s U → IsFirstFault U (fault_of shape fault))
all_first shape s end None count so_far = tt
all_first shape s end (Some fault) count so_far = λ U stands.
    let at = so_far.fault in
    first_fault_is shape s U end at.low at.high fault stands (subst (λ k. end < k) count at.in_range) (λ m less. so_far.settled m less refl) at.here at.is_fault
