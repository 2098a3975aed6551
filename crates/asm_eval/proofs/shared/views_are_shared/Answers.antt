use denote.Param.Send.{IsSync}
use Rattle.asm_state.specs.contracts.signature.Signature as Signature
use Rattle.asm_state.specs.contracts.state.State as State
use Rattle.asm_updates.specs.contracts.summary.Summary as Summary
use Rattle.asm_eval.proofs.SharedViews.{view_shared}
use Rattle.asm_eval.proofs.shared.views_are_shared.Goals as goal

pub returns : goal.returns
returns c =
    let signature : IsSync Signature.the_row = record { shared = c.is_shared.ensures.shared } in
    let state : IsSync State.the_row = record { shared = c.is_shared-2.ensures.shared } in
    let summary : IsSync Summary.the_row = record { shared = c.is_shared-3.ensures.shared } in
    λ a. view_shared a signature state summary
