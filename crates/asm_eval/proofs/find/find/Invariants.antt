use Rattle.std.proofs.Common.{◌≡◌, ◌≤◌}
use Rattle.asm_state.specs.Signature.{Shape}
use Rattle.asm_code.specs.code.Readings.{at_position}
use Rattle.asm_eval.specs.code.Frames.{IsSoundFrame, frame_size, readings_of}
use Rattle.asm_eval.proofs.find.find.Given as goal

abbrev pub invariant-loop-rest : goal.invariant-loop-rest
invariant-loop-rest l = record {
  reading : (shape : Shape) → at_position (readings_of shape l.rest) l.left ≡ at_position (readings_of shape l.frame) l.position;
  sound : (shape : Shape) → IsSoundFrame shape l.frame → IsSoundFrame shape l.rest;
  load : frame_size l.rest ≤ frame_size l.frame;
}
