-- Free. Threads may share frames and pieces, and hand pieces over, since they may share their
-- parts.
use denote.Builtin.{usize}
use denote.Ref.{NamedLft}
use denote.Param.Send.{IsSync, IsSend, shr_sync, shr_send, shr_slice_sync, shr_slice_send, sendable}
use denote.Param.SendFields.{as_row_sync, as_row_send, declared_sync, declared_send}
use Rattle.std.specs.contracts.option.Option as Option
use Rattle.asm_state.specs.contracts.value_code.ValueCode as ValueCode
use Rattle.asm_state.specs.contracts.word.Word as Word
use Rattle.asm_eval.specs.contracts.part.Part as Part
use Rattle.asm_eval.specs.contracts.path.Path as Path
use Rattle.asm_code.specs.contracts.code.Code as Code
use Rattle.asm_code.specs.contracts.rule_code.RuleCode as RuleCode
use Rattle.asm_code.proofs.SharedCodes.{sharing_laws-codes as code_shared, sharing_laws-rules as rule_shared}
use Rattle.asm_eval.specs.contracts.frame.Frame as Frame
use Rattle.asm_eval.specs.contracts.piece.Piece as Piece
use Rattle.asm_eval.proofs.frame.Frame.TheLaws.TheKnot as frame

word : IsSync Word.the_row
word = search sendable depth 20

kept_field : IsSync ValueCode.the_field.row
kept_field = search sendable depth 20

kept_field_sent : IsSend ValueCode.the_field.row
kept_field_sent = search sendable depth 20

number_field : IsSync (Option.the_field usize).row
number_field = search sendable depth 20

number_field_sent : IsSend (Option.the_field usize).row
number_field_sent = search sendable depth 20

module _ (a : NamedLft) where
  pub frame_shared : IsSync (Frame.the_row a)
  frame_shared = as_row_sync (Frame.the_field a) (frame.sync-Frame a kept_field (λ h s. shr_sync _ _ h s) (shr_slice_sync _ _ Word.the_row word) number_field (shr_slice_sync _ _ Code.the_row code_shared))

  frame_sent : IsSend (Frame.the_row a)
  frame_sent = as_row_send (Frame.the_field a) (frame.both_send-Frame a kept_field_sent kept_field (λ h s y. shr_send _ _ h y) (λ h s y. shr_sync _ _ h y)
      (shr_slice_send _ _ Word.the_row word) (shr_slice_sync _ _ Word.the_row word) number_field_sent number_field (shr_slice_send _ _ Code.the_row code_shared) (shr_slice_sync _ _ Code.the_row code_shared))

  pub piece_shared : IsSync Path.the_row → IsSync Part.the_row → IsSync (Piece.the_row a)
  piece_shared path part = declared_sync (Piece.the_type a) (shr_sync _ _ RuleCode.the_row rule_shared, (frame_shared, (path, (part, tt))))

  pub piece_sent : IsSend Path.the_row → IsSend Part.the_row → IsSend (Piece.the_row a)
  piece_sent path part = declared_send (Piece.the_type a) (shr_send _ _ RuleCode.the_row rule_shared, (frame_sent, (path, (part, tt))))
