use Rattle.std.proofs.Common.{ap, inr, refl}
use Rattle.asm_explore_texts.specs.Comments.{lines_of}
use Rattle.asm_explore_run.proofs.asked_end.of_whole_run.Goals as goal

pub returns : goal.returns
returns g c = λ terms script spelled held.
    let told = c.in_ok-told.ensures script spelled in
    inr (record { held = held; tells = told.1; none = ap lines_of c.new.ensures.items }, refl, c.ends_by_fault-is_fault.ensures _ told.0)
