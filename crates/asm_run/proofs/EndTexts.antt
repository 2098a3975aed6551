-- Free. The end of a run, as it is returned, in words and as a line.
use Rattle.std.proofs.Common.{ℕ, refl, ap}
use Rattle.asm_state.specs.Location.{Proper, Stray}
use Rattle.asm_state.specs.Updates.{UpdateSet, Fault, Clash, Outside, IsFirstFault}
use Rattle.asm_meaning.specs.Run.{AtLimit, AtExhausted, AtFault}
use Rattle.asm_run.specs.declared.end.End.{End}
use Rattle.asm_run.specs.declared.end.End.TheVariants as end
use Rattle.asm_run.specs.Ends.{end_words_with}
use Rattle.asm_run.specs.Headline.{IsReturned}
use Rattle.asm_run.specs.Trace.{at_step, end_line, fault_words}
use Rattle.asm_run.specs.code.Traces.{LineOfEnd}

-- the line of what is returned is that of the end
pub line_of_end : LineOfEnd
line_of_end names AtLimit e is = ap (λ (x : End). end_line (end_words_with names at_step x)) is
line_of_end names (AtExhausted i p) e is = ap (λ (x : End). end_line (end_words_with names at_step x)) is
line_of_end names (AtFault i U) end.Limit is = absurd is
line_of_end names (AtFault i U) (end.Exhausted j p) is = absurd is
line_of_end names (AtFault i U) (end.Clash j f vs least greatest) is =
    let fault : Fault = Clash (Proper f vs) (record { least = least; greatest = greatest }) in
    (fault, is.1, ap (λ (k : ℕ). end_line (fault_words names (at_step k) fault)) is.0)
line_of_end names (AtFault i U) (end.Outside j f) is = (Outside f, is.1, ap (λ (k : ℕ). end_line (fault_words names (at_step k) (Outside f))) is.0)

-- each first fault is returned
pub fault_returned : (U : UpdateSet) (i : ℕ) (f : Fault) → IsFirstFault U f → (answer : End) × IsReturned (AtFault i U) answer
fault_returned U i (Clash (Proper f vs) r) first = (end.Clash i f vs r.least r.greatest, (refl, first))
fault_returned U i (Clash (Stray f) r) first = absurd first
fault_returned U i (Outside f) first = (end.Outside i f, (refl, first))
