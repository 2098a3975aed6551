-- Free. Threads may share views, since they may share their parts.
use denote.Ref.{NamedLft}
use denote.Param.Send.{IsSync, shr_sync}
use denote.Param.SendFields.{as_row_sync, declared_sync}
use Rattle.asm_state.specs.contracts.signature.Signature as Signature
use Rattle.asm_state.specs.contracts.state.State as State
use Rattle.asm_updates.specs.contracts.summary.Summary as Summary
use Rattle.asm_eval.specs.contracts.below.Below as Below
use Rattle.asm_eval.specs.contracts.view.View as View
use Rattle.asm_eval.proofs.below.Below.TheLaws.TheKnot as below

module _ (a : NamedLft) where
  below_shared : IsSync Summary.the_row → IsSync (Below.the_row a)
  below_shared u = as_row_sync (Below.the_field a) (below.sync-Below a (shr_sync _ _ Summary.the_row u) (λ h s. shr_sync _ _ h s))

  pub view_shared : IsSync Signature.the_row → IsSync State.the_row → IsSync Summary.the_row → IsSync (View.the_row a)
  view_shared g s u = declared_sync (View.the_type a) (shr_sync _ _ Signature.the_row g, (shr_sync _ _ State.the_row s, (below_shared u, (shr_sync _ _ Summary.the_row u, tt))))
