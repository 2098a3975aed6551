use Rattle.std.proofs.Common.{arith}
use Rattle.std.proofs.lemmas.Int.{ints}
use Rattle.std.proofs.lemmas.Nat.{pow_pos}
use Rattle.asm_eval.proofs.Powers.{digits_are}
use Rattle.asm_eval.proofs.applied.last_digits.Goals as goal

pub returns : goal.returns
returns c =
    let v = c.args.number in
    let n = c.args.right.number in
    let e = c.args.right.exponent in
    let is = c.args.right.power c.requires in
    digits_are v.value n.value e _ _ is.0 is.1 (omega (arith, ints, v.low, v.high)) (omega (arith, ints, n.low, n.high, is.1, pow_pos e)) (omega (arith, ints, n.low, n.high))
