-- Free. Threads may share the job of a batch.
use denote.Ref.{NamedLft}
use denote.Param.Send.{IsSync, shr_sync, shr_slice_sync, sendable}
use denote.Param.SendFields.{declared_sync}
use Rattle.std.proofs.Crossing.{crosses}
use Rattle.asm_state.specs.contracts.state.State as State
use Rattle.asm_check.specs.contracts.checked.Checked as Checked
use Rattle.asm_code.specs.contracts.rule_code.RuleCode as RuleCode
use Rattle.asm_explore.specs.contracts.states.index.Index as Index
use Rattle.asm_explore.specs.contracts.states.nodes.Nodes as Nodes
use Rattle.asm_explore_workers.specs.contracts.job.StepsJob as StepsJob

module _ (a s : NamedLft) where
  pub job_shared : IsSync Checked.the_row → IsSync RuleCode.the_row → IsSync State.the_row → IsSync Nodes.the_row → IsSync Index.the_row → IsSync (StepsJob.the_row a s)
  job_shared c r t n i =
      declared_sync (StepsJob.the_type a s) (search (sendable, crosses) depth 20, (shr_sync _ _ Checked.the_row c, (shr_sync _ _ RuleCode.the_row r, (search sendable depth 20, (search sendable depth 20, (shr_slice_sync _ _ State.the_row t, (shr_sync _ _ Nodes.the_row n, (shr_sync _ _ Index.the_row i, (search sendable depth 20, tt)))))))))
