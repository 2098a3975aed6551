use Rattle.asm_state.specs.Signature.{state_of}
use Rattle.asm_reader.specs.ExactLines.{exactly}
use Rattle.asm_random.specs.code.DraftSteps.{AddsStep}
use Rattle.asm_random.specs.code.Drafts.{draft_lines}
use Rattle.asm_random.specs.code.ResolvedRuns.{shape_in, specification_in}
use Rattle.asm_random.proofs.SettledRounds.{HasRound}
use Rattle.asm_random.proofs.drawn_step.draw_step.Given as goal

abbrev pub invariant-loop-round : goal.invariant-loop-round
invariant-loop-round l =
    let m = l.specified in
    let s = l.fn.source in
    record {
      adds : AddsStep l.fn.draft l.draft;
      has : HasRound (specification_in m) m.turns s.seed s.run l.step (state_of (shape_in m) l.state) (exactly (draft_lines l.draft)) l._round;
    }
