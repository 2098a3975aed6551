use Rattle.std.proofs.Common.{refl, arith}
use Rattle.asm_resolve.proofs.FunctionReads.{listed_read, many_read}
use Rattle.asm_resolve.proofs.functions.make_function.Goals as goal

pub returns-then-len-le-MAX_ARGUMENTS : goal.returns-then-len-le-MAX_ARGUMENTS
returns-then-len-le-MAX_ARGUMENTS c = listed_read c.args.signature.now c.args.f c.args.arguments c.args.arguments.items c.requires.known (omega (arith, c.if-len-le-MAX_ARGUMENTS.true, c.len.ensures)) refl

pub returns : goal.returns
returns c = many_read c.args.signature.now c.args.f c.requires.fits c.args.arguments.items c.undef.result (omega (arith, c.if-len-le-MAX_ARGUMENTS.false, c.len.ensures)) c.undef.ensures
