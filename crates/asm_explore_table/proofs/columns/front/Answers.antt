use Rattle.std.proofs.Common.{arith, sym}
use Rattle.std.proofs.lemmas.List.{length-take-le, take_all}
use Rattle.asm_explore_table.proofs.columns.front.Goals as goal

pub slice_bounds-result-end : goal.slice_bounds-result-end
slice_bounds-result-end c = sym (length-take-le 200 c.args.columns.now (omega (arith, c.if-columns-le-MAX_COLUMNS.false)))

pub returns-then-columns-le-MAX_COLUMNS : goal.returns-then-columns-le-MAX_COLUMNS
returns-then-columns-le-MAX_COLUMNS c = sym (take_all 200 c.args.columns.now c.if-columns-le-MAX_COLUMNS.true)
