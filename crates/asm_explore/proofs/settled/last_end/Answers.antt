use Rattle.std.proofs.Common.{refl, sym, subst}
use Rattle.asm_explore.specs.declared.fault.Fault.TheVariants as fault
use Rattle.asm_explore.specs.declared.search_result.BadStep.{BadStep}
use Rattle.asm_explore.specs.declared.search_result.SearchEnd.TheVariants as ended
use Rattle.asm_explore.specs.code.SettledEnds.{IsLastEnd}
use Rattle.asm_explore.proofs.settled.last_end.Goals as goal

pub returns-in-At : goal.returns-in-At
returns-in-At c =
    let bad : BadStep = record { from = c.in-At.from; choices = c.new.result; fault = fault.Deadlock } in
    subst (λ d. IsLastEnd d (ended.BadStep bad)) (sym c.in-At.is) (bad, refl, refl, c.new.ensures.items, refl)
