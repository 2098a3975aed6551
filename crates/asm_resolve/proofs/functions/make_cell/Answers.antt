use Rattle.std.proofs.Common.{arith}
use Rattle.asm_resolve.proofs.FunctionReads.{cell_read, listed_read}
use Rattle.asm_resolve.proofs.functions.make_cell.Goals as goal

pub returns-then-is_single : goal.returns-then-is_single
returns-then-is_single c = cell_read c.args.signature.now c.args.f c.requires.fits (c.is_single.ensures c.if-is_single.true) c.first.result c.first.ensures

pub returns : goal.returns
returns c = listed_read c.args.signature.now c.args.f c.new.result _ c.requires.known (omega arith) c.new.ensures.items
