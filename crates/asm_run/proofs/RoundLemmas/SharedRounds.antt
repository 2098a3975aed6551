-- Free. Threads may share a round's job, and hand its results over.
use denote.Ref.{NamedLft}
use denote.RattleType.{RattleType}
use denote.Param.Send.{IsSync, IsSend, shr_sync, shr_slice_sync, sendable}
use denote.Param.SendFields.{declared_sync, variants_send}
use Rattle.std.proofs.Crossing.{Vec-send, crosses}
use Rattle.asm_reader.specs.declared.picks.Picks.{Ghosts}
use Rattle.asm_eval.specs.contracts.choices.Choices as Choices
use Rattle.asm_eval.specs.contracts.path.Path as Path
use Rattle.asm_eval.specs.contracts.view.View as View
use Rattle.asm_eval.specs.contracts.piece.Piece as Piece
use Rattle.asm_eval.specs.contracts.evaluation.Evaluation as Evaluation
use Rattle.asm_striped.specs.contracts.striped.Striped as Striped
use Rattle.asm_run.specs.contracts.job.RegionJob as RegionJob
use Rattle.asm_run.specs.contracts.job.RegionOut as RegionOut

path : IsSend Path.the_row
path = search (sendable, Vec-send) depth 20

module _ (a : NamedLft) where
  pub out_sent : IsSend (Piece.the_row a) → IsSend (RegionOut.the_row a)
  out_sent p = variants_send (RegionOut.enum a) ((Vec-send (Piece.the_row a) p, (search sendable, tt)), ((search sendable, tt), ((path, tt), tt)))

module _ (a : NamedLft) (P : RattleType) (g : Ghosts P.Denot) where
  pub job_shared : IsSync (View.the_row a) → IsSync (Piece.the_row a) → IsSync Striped.the_row → IsSync P → IsSync (RegionJob.the_row a P g)
  job_shared v i t p =
      let choices : IsSync (Choices.the_row a P) = declared_sync (Choices.the_type a P) (shr_sync _ _ P p, (search sendable, tt)) in
      let evaluation : IsSync (Evaluation.the_row a a P g) = declared_sync (Evaluation.the_type a a P g) (shr_sync _ _ (View.the_row a) v, (shr_sync _ _ (Choices.the_row a P) choices, (search sendable, tt))) in
      declared_sync (RegionJob.the_type a P g) (search (sendable, crosses) depth 20, (shr_sync _ _ (Evaluation.the_row a a P g) evaluation, (shr_slice_sync _ _ (Piece.the_row a) i, (search sendable depth 20, (search sendable, (shr_sync _ _ Striped.the_row t, tt))))))
