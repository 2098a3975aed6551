use Rattle.std.proofs.Common.{◌≡◌, take}
use Rattle.asm_syntax.specs.code.Views.{spec_of}
use Rattle.asm_explore.specs.code.AskedPieces.{all_said}
use Rattle.asm_graph.specs.Arrows.{label_text}
use Rattle.asm_graph.proofs.arrows.label_of.Given as goal

-- the choices so far are written
abbrev pub invariant-loop-k : goal.invariant-loop-k
invariant-loop-k l = l.label.items ≡ label_text (spec_of l.checked.spec) (all_said (take l.k l.asked))
