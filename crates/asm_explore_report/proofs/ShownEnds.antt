-- Free. A run that shows a fault, as the code has its end, ends by this fault.
--     shown_ends     by the fault, and by the end that is returned
use Rattle.std.proofs.Common.{◌≡◌, ℕ, true, sym, ◌∙◌}
use Rattle.std.proofs.lemmas.Bool.{eqb-true}
use Rattle.asm_meaning.specs.Run.{AtExhausted, AtFault, AtLimit, End}
use Rattle.asm_explore.specs.declared.fault.Fault.{Fault}
use Rattle.asm_explore.specs.declared.fault.Fault.TheVariants as fault
use Rattle.asm_run.specs.Headline.{IsReturned}
use Rattle.asm_run.specs.declared.end.End as returned
use Rattle.asm_run.specs.declared.end.End.TheVariants.{Limit, Clash, Outside, Exhausted}
use Rattle.asm_explore_report.specs.FaultWords.{EndsBy}
use Rattle.asm_explore_report.specs.code.ShownFaults.{shows_fault}

module _ (step : ℕ) where
  exhausted_ends : (e : End) (end : returned.End) → IsReturned e end → shows_fault fault.Exhausted step end ≡ true → EndsBy fault.Exhausted step e
  exhausted_ends e Limit is shown = cc
  exhausted_ends e (Clash j f vs least greatest) is shown = cc
  exhausted_ends e (Outside j f) is shown = cc
  exhausted_ends AtLimit (Exhausted j q) is shown = cc
  exhausted_ends (AtExhausted i p) (Exhausted j q) is shown = let same : i ≡ j = cc in same ∙ eqb-true j step shown
  exhausted_ends (AtFault i U) (Exhausted j q) is shown = absurd is

  faulty_ends : (e : End) (end : returned.End) → IsReturned e end → shows_fault fault.Inconsistent step end ≡ true → EndsBy fault.Inconsistent step e
  faulty_ends e Limit is shown = cc
  faulty_ends e (Exhausted j q) is shown = cc
  faulty_ends AtLimit (Clash j f vs least greatest) is shown = cc
  faulty_ends AtLimit (Outside j f) is shown = cc
  faulty_ends (AtExhausted i p) (Clash j f vs least greatest) is shown = cc
  faulty_ends (AtExhausted i p) (Outside j f) is shown = cc
  faulty_ends (AtFault i U) (Clash j f vs least greatest) is shown = sym is.0 ∙ eqb-true j step shown
  faulty_ends (AtFault i U) (Outside j f) is shown = sym is.0 ∙ eqb-true j step shown

  wrong_ends : (e : End) (end : returned.End) → IsReturned e end → shows_fault fault.Wrong step end ≡ true → EndsBy fault.Wrong step e × EndsBy fault.Deadlock step e
  wrong_ends e (Clash j f vs least greatest) is shown = cc
  wrong_ends e (Outside j f) is shown = cc
  wrong_ends e (Exhausted j q) is shown = cc
  wrong_ends AtLimit Limit is shown = (tt, tt)
  wrong_ends (AtExhausted i p) Limit is shown = cc
  wrong_ends (AtFault i U) Limit is shown = absurd is

  pub shown_ends : (it : Fault) (e : End) (end : returned.End) → IsReturned e end → shows_fault it step end ≡ true → EndsBy it step e
  shown_ends fault.Exhausted e end is shown = exhausted_ends e end is shown
  shown_ends fault.Inconsistent e end is shown = faulty_ends e end is shown
  shown_ends fault.Wrong e end is shown = (wrong_ends e end is shown).0
  shown_ends fault.Deadlock e Limit is shown = (wrong_ends e Limit is shown).1
  shown_ends fault.Deadlock e (Clash j f vs least greatest) is shown = cc
  shown_ends fault.Deadlock e (Outside j f) is shown = cc
  shown_ends fault.Deadlock e (Exhausted j q) is shown = cc
