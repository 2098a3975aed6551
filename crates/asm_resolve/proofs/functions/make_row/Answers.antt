use Rattle.std.proofs.Common.{arith}
use Rattle.asm_resolve.proofs.FunctionReads.{row_read, listed_read}
use Rattle.asm_resolve.proofs.functions.make_row.Goals as goal

pub returns-in-Some : goal.returns-in-Some
returns-in-Some c =
    let is = c.in-Some.ensures in
    row_read c.args.signature.now c.args.f c.requires.fits is.universe is.domain is.values is.at
    c.in-Some.first is.begins c.in-Some.over is.span c.in_ok-new.field-0 c.args.argument c.in_ok-new.ensures.ok

pub returns : goal.returns
returns c = listed_read c.args.signature.now c.args.f c.in_ok-vec.field-0 _ c.requires.known (omega arith) c.in_ok-vec.ensures.items
