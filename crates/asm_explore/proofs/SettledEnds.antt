-- Free. The ends of searches whose last states were looked at for deadlocks.
--     last_settles     what is known of these states comes first
--     else_settles     what else has ended the search does
use Rattle.std.proofs.Common.{◌≡◌, ℕ, true, false, [], ◌⊎◌, inl, inr, refl, sym, ap, subst, ◌∙◌}
use Rattle.std.proofs.lemmas.Bool.{false≢true}
use Rattle.asm_explore.specs.declared.fault.Fault.TheVariants as fault
use Rattle.asm_explore.specs.declared.outcomes.outcomes_error.RuleOverLimit.{RuleOverLimit}
use Rattle.asm_explore.specs.declared.search_result.BadStep.{BadStep}
use Rattle.asm_explore.specs.declared.search_result.SearchEnd.{SearchEnd}
use Rattle.asm_explore.specs.declared.search_result.SearchEnd.TheVariants as ended
use Rattle.asm_explore.specs.declared.settled.Settled.{Settled}
use Rattle.asm_explore.specs.declared.states.deadlocks.Deadlocks.{Deadlocks}
use Rattle.asm_explore.specs.declared.states.deadlocks.Deadlocks.TheVariants as found
use Rattle.asm_explore.specs.code.Deadlocks.{AreTold, safe_of}
use Rattle.asm_explore.specs.code.SearchEnds.{IfBad, IfOverLimit}
use Rattle.asm_explore.specs.code.SettledEnds.{IsLastEnd, IsSettled, comes_first, outranks_fault}

abbrev CrowdedSo : SearchEnd → Deadlocks → RuleOverLimit → Type 0
CrowdedSo was d crowd = (was ≡ ended.TooManyOutcomes crowd) ⊎ ((number : ℕ) × (d ≡ found.Unknown number crowd))

abbrev BadSo : SearchEnd → Deadlocks → BadStep → Type 0
BadSo was d bad = ((was ≡ ended.BadStep bad) × AreTold d) ⊎ ((d ≡ found.At bad.from) × (bad.choices.items ≡ []) × (bad.fault ≡ fault.Deadlock))

limit_first : (was : SearchEnd) → comes_first was ended.AtLimit ≡ true → was ≡ ended.AtLimit
limit_first ended.Closed first = absurd (false≢true first)
limit_first ended.AtLimit first = refl
limit_first (ended.BadStep bad) first = absurd (false≢true first)
limit_first ended.TooManyStates first = absurd (false≢true first)
limit_first (ended.TooManyOutcomes crowd) first = absurd (false≢true first)
limit_first ended.Memory first = absurd (false≢true first)

own_crowd : (was : SearchEnd) (d : Deadlocks) → IfOverLimit was (CrowdedSo was d)
own_crowd ended.Closed d = tt
own_crowd ended.AtLimit d = tt
own_crowd (ended.BadStep bad) d = tt
own_crowd ended.TooManyStates d = tt
own_crowd (ended.TooManyOutcomes crowd) d = inl refl
own_crowd ended.Memory d = tt

-- a fault that nothing comes before
are_told : (last : SearchEnd) (d : Deadlocks) → IsLastEnd d last → outranks_fault last ≡ false → AreTold d
are_told last found.None is later = tt
are_told last (found.At number) is later = absurd (false≢true (sym later ∙ ap outranks_fault is.1))
are_told last (found.Unknown number crowd) is later = tt
are_told last found.NoMemory is later = absurd (false≢true (sym later ∙ ap outranks_fault is))

own_fault : (was last : SearchEnd) (d : Deadlocks) → IsLastEnd d last → comes_first was last ≡ false → IfBad was (BadSo was d)
own_fault ended.Closed last d is later = tt
own_fault ended.AtLimit last d is later = tt
own_fault (ended.BadStep bad) last d is later = inl (refl, are_told last d is later)
own_fault ended.TooManyStates last d is later = tt
own_fault (ended.TooManyOutcomes crowd) last d is later = tt
own_fault ended.Memory last d is later = tt

module _ (was last : SearchEnd) (whole : ℕ) (s : Settled) where
  pub last_settles : (d : Deadlocks) → IsLastEnd d last → comes_first was last ≡ true → s.ended ≡ last → s.safe ≡ safe_of whole d → IsSettled was d whole s
  last_settles found.None is first so safe =
      let at : s.ended ≡ ended.AtLimit = so ∙ is in
      record {
        closed = λ other. cc (at, other);
        at_limit = λ other. (limit_first was (subst (λ e. comes_first was e ≡ true) is first), refl);
        full = λ other. cc (at, other);
        crowded = subst (λ e. IfOverLimit e (CrowdedSo was found.None)) (sym at) tt;
        bad = subst (λ e. IfBad e (BadSo was found.None)) (sym at) tt;
        safe = safe;
      }
  last_settles (found.At number) is first so safe =
      let at : s.ended ≡ ended.BadStep is.0 = so ∙ is.1 in
      record {
        closed = λ other. cc (at, other);
        at_limit = λ other. cc (at, other);
        full = λ other. cc (at, other);
        crowded = subst (λ e. IfOverLimit e (CrowdedSo was (found.At number))) (sym at) tt;
        bad = subst (λ e. IfBad e (BadSo was (found.At number))) (sym at) (inr (ap found.At (sym is.2), is.3, is.4));
        safe = safe;
      }
  last_settles (found.Unknown number crowd) is first so safe =
      let at : s.ended ≡ ended.TooManyOutcomes crowd = so ∙ is in
      record {
        closed = λ other. cc (at, other);
        at_limit = λ other. cc (at, other);
        full = λ other. cc (at, other);
        crowded = subst (λ e. IfOverLimit e (CrowdedSo was (found.Unknown number crowd))) (sym at) (inr (number, refl));
        bad = subst (λ e. IfBad e (BadSo was (found.Unknown number crowd))) (sym at) tt;
        safe = safe;
      }
  last_settles found.NoMemory is first so safe =
      let at : s.ended ≡ ended.Memory = so ∙ is in
      record {
        closed = λ other. cc (at, other);
        at_limit = λ other. cc (at, other);
        full = λ other. cc (at, other);
        crowded = subst (λ e. IfOverLimit e (CrowdedSo was found.NoMemory)) (sym at) tt;
        bad = subst (λ e. IfBad e (BadSo was found.NoMemory)) (sym at) tt;
        safe = safe;
      }

  pub else_settles : (d : Deadlocks) → IsLastEnd d last → comes_first was last ≡ false → s.ended ≡ was → s.safe ≡ safe_of whole d → IsSettled was d whole s
  else_settles d is later so safe = record {
    closed = λ other. sym so ∙ other;
    at_limit = λ other. absurd (false≢true (sym later ∙ ap (λ e. comes_first e last) (sym so ∙ other)));
    full = λ other. sym so ∙ other;
    crowded = subst (λ e. IfOverLimit e (CrowdedSo was d)) (sym so) (own_crowd was d);
    bad = subst (λ e. IfBad e (BadSo was d)) (sym so) (own_fault was last d is later);
    safe = safe;
  }
