use Rattle.std.proofs.Common.{Option, subst}
use Rattle.asm_syntax.specs.code.Views.{spec_of}
use Rattle.asm_explore_report.specs.declared.broken_run.BrokenState.{BrokenState}
use Rattle.asm_explore_run.specs.code.AskedEnds.{IsFoundOf}
use Rattle.asm_explore_run.proofs.shown_end.shown_end.Goals as goal

pub returns-in_ok-end-in-Some : goal.returns-in_ok-end-in-Some
returns-in_ok-end-in-Some g c asked terms found =
    let s = spec_of c.args.checked.now.spec in
    let settings = c.args.settings.now in
    let script = c.args.script.now in
    let at = subst (λ (broken : Option BrokenState). IsFoundOf s asked settings.turns script settings.steps terms broken) c.in-Some.is found in
    c.in_ok-end-in-Some.ensures c.args.text.now s terms settings.turns script settings.steps at.0 at.1
