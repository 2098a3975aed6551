use Rattle.std.proofs.Common.{◌≡◌, ◌+◌, ◌-◌, ◌++◌, length, map}
use Rattle.asm_state.specs.Signature.{count_of, state_of}
use Rattle.asm_syntax.specs.code.Views.{spec_of}
use Rattle.asm_check.specs.Shapes.{shape_of}
use Rattle.asm_meaning.specs.Declarations.{specification_of}
use Rattle.asm_explore.specs.code.AskedPieces.{all_said}
use Rattle.asm_explore.specs.RunChoices.{asked_from, from_step, of_run}
use Rattle.asm_explore.proofs.choices.run_choices.asked_by_run.Given as goal

-- what was asked so far, and what is left of the run
abbrev pub invariant-loop-done : goal.invariant-loop-done
invariant-loop-done g l =
    let s = spec_of l.checked.spec in
    let its = asked_from (specification_of s) l.turns in
    let script = g.P.Picks.script l.script in
    record {
      whole : length l.state ≡ count_of (shape_of s);
      asked : map (λ asked. all_said asked.items) l.all.items ++ from_step (specification_of s) l.turns its script (l.steps - l.done) (l.done + 1) (state_of (shape_of s) l.state)
          ≡ of_run (specification_of s) l.turns its script l.steps;
    }
