use Rattle.std.proofs.Common.{arith}
use Rattle.asm_eval.proofs.Members.{size_within, sound_within}
use Rattle.asm_eval.proofs.find.named_at.Goals as goal

pub returns-in-Some-clause-sound : goal.returns-in-Some-clause-sound
returns-in-Some-clause-sound c = λ shape sound framed.
    let here = c.in-Some.ensures.lookup in
    (sound_within shape c.args.codes.now c.args.position c.in-Some.code.now here.3.0 here.1 sound, framed)

pub returns-in-Some-clause-load : goal.returns-in-Some-clause-load
returns-in-Some-clause-load c =
    let here = c.in-Some.ensures.lookup in
    let small = size_within c.args.codes.now c.args.position c.in-Some.code.now here.3.0 here.1 in
    omega (arith, small)
