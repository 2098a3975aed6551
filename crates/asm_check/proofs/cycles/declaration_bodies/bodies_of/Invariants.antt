use Rattle.std.proofs.Common.{◌≡◌, map, take, drop}
use Rattle.asm_syntax.specs.code.Views.{spec_of}
use Rattle.asm_check.specs.code.uses.RulesWithResult.{is_with_result}
use Rattle.asm_check.specs.code.cycles.Graph.{step_lists}
use Rattle.asm_check.proofs.CycleLemmas.StepsCollected.{AreEntrySteps}
use Rattle.asm_check.proofs.cycles.declaration_bodies.bodies_of.Given as goal

-- the steps so far, and then those of the entries that are left, are those of all entries
abbrev pub invariant-loop-i : goal.invariant-loop-i
invariant-loop-i l = record {
  steps : AreEntrySteps (spec_of l.spec) l.names (drop l.i l.names) (step_lists l.steps.items);
  answering : l.with_result.items ≡ map is_with_result (take l.i l.names);
}
