use Rattle.asm_syntax.specs.code.Views.{spec_of}
use Rattle.asm_run.specs.code.RunSoFar.{GoesOnFrom}
use Rattle.asm_run.specs.code.WrittenEntries.{AreTextsOf}
use Rattle.asm_run.proofs.steps.run_steps.Given as goal

abbrev pub invariant-loop-done : goal.invariant-loop-done
invariant-loop-done g l =
    GoesOnFrom (spec_of l.resolved.checked.now.spec) l.resolved.turns (g.P.Picks.script l.script) l.steps l.done l.state l.forming.set.count (g.S.Sink.bytes l.initial.out) (g.S.Sink.bytes l.out) (g.S.Sink.has_failed l.out)
    × AreTextsOf (spec_of l.resolved.checked.now.spec) l.texts
