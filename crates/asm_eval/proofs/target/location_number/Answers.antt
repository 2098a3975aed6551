use Rattle.std.proofs.Common.{arith}
use Rattle.asm_eval.proofs.Members.{sound_within}
use Rattle.asm_eval.proofs.target.location_number.Goals as goal

pub value-requires-in-loop-argument-clause-sound : goal.value-requires-in-loop-argument-clause-sound
value-requires-in-loop-argument-clause-sound c =
    let a = c.args in
    sound_within a.view.now.signature.now a.arguments.now c.loop-argument.argument-index c.argument-item.result (omega arith) c.argument-item.is c.requires.sound
