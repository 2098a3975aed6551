-- Bridge to the code. The faults of steps: cycles, and ranks above the limit.
use Rattle.std.specs.Prelude.{◌≡◌, ℕ, suc, Contains}
use Rattle.asm_syntax.specs.SourceTree.{Spec}
use Rattle.asm_check.specs.declared.cycles.step_faults.TheConstants.{MAX_RANK}
use Rattle.asm_check.specs.Names.{Declaration, first_declarations}
use Rattle.asm_check.specs.CallGraph.{called, used, ReachesCycle, BeginsPath}
use Rattle.asm_check.specs.Faults.{IsCyclic}

pub data IsTooHigh (spec : Spec) (d : Declaration) : Type 0 where
  rule_rank : BeginsPath (called spec) (suc MAX_RANK) d.name.text → ¬ (ReachesCycle (called spec) d.name.text) → IsTooHigh spec d
  derived_rank : BeginsPath (used spec) (suc MAX_RANK) d.name.text → ¬ (ReachesCycle (used spec) d.name.text) → IsTooHigh spec d

pub data IsStepFault (spec : Spec) (at : ℕ) : ℕ → Type 0 where
  cyclic_rule : IsCyclic spec (called spec) at → IsStepFault spec at 12
  cyclic_derived : IsCyclic spec (used spec) at → IsStepFault spec at 13
  too_high : (d : Declaration) → Contains (first_declarations spec) d → IsTooHigh spec d → d.name.at ≡ at → IsStepFault spec at 15
