use Rattle.std.proofs.Common.{take}
use Rattle.asm_syntax.specs.code.Views.{spec_of}
use Rattle.asm_check.specs.Shapes.{shape_of}
use Rattle.asm_meaning.specs.Declarations.{specification_of}
use Rattle.asm_explore.specs.code.StepsAhead.{AreAhead}
use Rattle.asm_explore.proofs.specification.ResolvedQuestionMachine.ahead.Given as goal

-- nothing is known of the states so far
abbrev pub invariant-loop-state : goal.invariant-loop-state
invariant-loop-state l = let s = spec_of l.self.checked.now.spec in AreAhead (shape_of s) (specification_of s) l.self.turns l._nodes (take l._state l.states) l.all.items
