use Rattle.std.proofs.Common.{take}
use Rattle.asm_explore.specs.code.AskedPieces.{all_said}
use Rattle.asm_random.specs.DrawnTexts.{AreDrawn}
use Rattle.asm_random.proofs.drawn_step.are_drawn.Given as goal

abbrev pub invariant-loop-k : goal.invariant-loop-k
invariant-loop-k l = AreDrawn l.fn.source.seed l.fn.source.run l.fn.step (all_said (take l.k l.fn.asked))
