use Rattle.std.proofs.Common.{arith}
use Rattle.asm_resolve.proofs.FunctionReads.{grid_read, listed_read}
use Rattle.asm_resolve.proofs.functions.make_grid.Goals as goal

pub returns-in-Some : goal.returns-in-Some
returns-in-Some c =
    let is = c.in-Some.ensures in
    let at = c.in-Some.place in
    let in_boxes = c.in_ok-row in
    grid_read c.args.signature.now c.args.f c.requires.fits is.rows is.columns is.domain is.down is.across is.at_rows is.at_columns at.first is.begins
    at.rows at.columns is.row_span is.column_span in_boxes.row in_boxes.column c.args.row c.args.column in_boxes.ensures.row in_boxes.ensures.column

pub returns : goal.returns
returns c = listed_read c.args.signature.now c.args.f c.in_ok-vec.field-0 _ c.requires.known (omega arith) c.in_ok-vec.ensures.items
