use Rattle.asm_eval.proofs.part.Part.TheSendSync as part
use Rattle.asm_eval.proofs.path.Path.TheSendSync as path
use Rattle.asm_eval.proofs.shared.paths_and_parts_cross.Goals as goal

pub returns : goal.returns
returns c = record { paths = path.the_sync; paths_sent = path.the_send; parts = part.the_sync; parts_sent = part.the_send }
