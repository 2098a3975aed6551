use Rattle.std.proofs.Common.{take}
use Rattle.asm_syntax.specs.code.Views.{spec_of}
use Rattle.asm_explore_texts.specs.Conditions.{texts_of}
use Rattle.asm_explore_texts.specs.code.CodedConditions.{AreConditionsOf}
use Rattle.asm_explore_texts.proofs.conditions.links.Given as goal

abbrev pub invariant-loop-k : goal.invariant-loop-k
invariant-loop-k l = AreConditionsOf (spec_of l.checked.spec) (texts_of (take l.k l.conditions)) l.links.items
