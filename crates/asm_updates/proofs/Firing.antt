-- Free. What comes of a state when each named location gets its value.
use Rattle.std.proofs.Common.{◌≡◌, ℕ, ◌<◌, true, false, eqb, cond, List, length, get_or, set, Option, Some, None, IsTrue, refl, sym, ap, subst, ◌∙◌, inl, inr, ⊎_elim, arith, get_or-set_same, get_or-set_other}
use Rattle.std.proofs.lemmas.Bool.Decides.{nat_tests}
use Rattle.std.proofs.lemmas.Bool.{false≢true, cases_eq}
use Rattle.asm_state.specs.declared.value.Value.{Value}
use Rattle.asm_state.specs.declared.value.Value.TheVariants.{Undef}
use Rattle.asm_state.specs.code.Codes.{code_of}
use Rattle.asm_state.specs.code.Contents.{IsStateOf}
use Rattle.asm_state.specs.Location.{Location, Proper, Stray}
use Rattle.asm_state.specs.Signature.{Shape, count_of, number_at, IsLocationOf, state_of}
use Rattle.asm_state.specs.Updates.{UpdateSet, Has, IsConsistent, Range, range_at, IsRangeOf, overwritten, fire, is_proper}
use Rattle.asm_state.proofs.LocationLemmas.NumberedLocations.{number_laws}
use Rattle.asm_state.proofs.StatesByNumbers.{state_laws}
use Rattle.asm_state.proofs.UpdateLemmas.Summaries.{summary_laws}
use Rattle.asm_state.proofs.Codes.{codes_apart}
use Rattle.asm_updates.specs.code.SummaryRanges.{SummaryRanges, summary_range}
use Rattle.asm_updates.specs.code.Stands.{Stands}
use Rattle.asm_updates.proofs.StandingSummaries.{range_cases}

-- values are equal if they can't differ
same_unless : (v w : Value) → ((v ≡ w → ⊥) → ⊥) → v ≡ w
same_unless v w never = ⊎_elim
    (λ same. codes_apart v w same)
    (λ differ. absurd (never (λ same. differ (ap code_of same))))
    (cases_eq (code_of v) (code_of w))

-- a consistent set has no range at a stray location
no_stray_range : (U : UpdateSet) (f : ℕ) → IsConsistent U → range_at U (Stray f) ≡ None
no_stray_range U f consistent = absent (range_at U (Stray f)) (summary_laws.exists U (Stray f))
  where
    absent : (r : Option Range) → IsRangeOf (Has U (Stray f)) r → r ≡ None
    absent None is = refl
    absent (Some r) is = absurd (consistent.no_stray f r.least is.has_least)

module _ (shape : Shape) (s : SummaryRanges) (U : UpdateSet) (old new : List Value) (stands : Stands shape s U) (old_len : length old ≡ count_of shape) (new_len : length new ≡ count_of shape) (each : (n : ℕ) → get_or new n Undef ≡ overwritten (summary_range s n) (get_or old n Undef)) where
  in_place : (l : Location) → IsLocationOf shape l → IsTrue (is_proper l) → state_of shape new l ≡ overwritten (range_at U l) (state_of shape old l)
  in_place l here proper =
      let ranges : summary_range s (number_at shape l) ≡ range_at U l =
      stands.has_ranges (number_at shape l) (number_laws.in_range shape l here) ∙ ap (range_at U) (number_laws.location shape l here) in
      state_laws.content shape new l proper
      ∙ each (number_at shape l)
      ∙ ap (λ r. overwritten r (get_or old (number_at shape l) Undef)) ranges
      ∙ ap (overwritten (range_at U l)) (sym (state_laws.content shape old l proper))

  unchanged : (l : Location) → IsTrue (is_proper l) → range_at U l ≡ None → state_of shape new l ≡ state_of shape old l
  unchanged l proper absent =
      same_unless (state_of shape new l) (state_of shape old l)
      (λ differ.
      let elsewhere : ¬ (IsLocationOf shape l) = λ here. differ (subst (λ r. state_of shape new l ≡ overwritten r (state_of shape old l)) absent (in_place l here proper)) in
      differ (state_laws.outside shape new l new_len elsewhere ∙ sym (state_laws.outside shape old l old_len elsewhere)))

  fired_at : IsConsistent U → (l : Location) → state_of shape new l ≡ overwritten (range_at U l) (state_of shape old l)
  fired_at consistent (Proper f vs) =
      elim (range_cases shape s U (Proper f vs) stands) [
        | inl absent ↦ subst (λ r. state_of shape new (Proper f vs) ≡ overwritten r (state_of shape old (Proper f vs))) (sym absent) (unchanged (Proper f vs) refl absent)
        | inr here ↦ in_place (Proper f vs) here.0 refl
      ]
  fired_at consistent (Stray f) =
      subst (λ r. state_of shape new (Stray f) ≡ overwritten r (state_of shape old (Stray f))) (sym (no_stray_range U f consistent))
      (state_laws.stray shape new (Stray f) false≢true ∙ sym (state_laws.stray shape old (Stray f) false≢true))

  pub fired_state : IsConsistent U → state_of shape new ≡ fire (state_of shape old) U
  unfolding fire
  fired_state consistent = λ i l. fired_at consistent l i

  -- a stray location has no content after it if it had none before
  pub fired_is_state : IsConsistent U → IsStateOf shape old → IsStateOf shape new
  fired_is_state consistent before = record {
    sound = before.sound;
    whole = new_len;
    no_stray = λ n f below e.
        let unnamed : summary_range s n ≡ None = stands.has_ranges n below ∙ ap (range_at U) e ∙ no_stray_range U f consistent in
        each n ∙ ap (λ r. overwritten r (get_or old n Undef)) unnamed ∙ before.no_stray n f below e;
  }

-- one content more
pub changed_content : (xs ys : List Value) (n : ℕ) (v : Value) → n < length xs → ys ≡ set xs n v → (k : ℕ) → get_or ys k Undef ≡ cond (eqb k n) v (get_or xs k Undef)
changed_content xs ys n v h e k =
    ⊎_elim
    (λ (same : k ≡ n).
    let yes : eqb k n ≡ true = grind (arith, nat_tests) in
    rw yes (ap (λ zs. get_or zs k Undef) e ∙ ap (λ j. get_or (set xs n v) j Undef) same ∙ get_or-set_same xs n v Undef h))
    (λ (other : k ≡ n → ⊥).
    let skip : eqb k n ≡ false = grind (arith, nat_tests) in
    rw skip (ap (λ zs. get_or zs k Undef) e ∙ get_or-set_other xs n k v Undef other))
    (cases_eq k n)
