use Rattle.std.proofs.Common.{◌<◌, ◌++◌, [], length, arith}
use Rattle.asm_syntax.specs.code.Views.{spec_of}
use Rattle.asm_run.specs.Written.{names_in}
use Rattle.asm_explore_run.specs.ClashText.{bound_text}
use Rattle.asm_explore_run.specs.code.NameOffsets.{offsets}
use Rattle.asm_explore_run.proofs.BoundNames.{all_bound, next_bound}
use Rattle.asm_explore_run.proofs.assignment_line.push_bound.Goals as goal

pub loop-i-preserved : goal.loop-i-preserved
loop-i-preserved c =
    let shown = names_in (spec_of c.args.checked.now.spec) in
    let text = c.args.text.now in
    let names = c.args.names.now in
    let values = c.args.values.now in
    let i = c.loop-i.i in
    let name = c.index-names-i.result in
    let value = c.index-values-i.result in
    let line = c.loop-i.line.items in
    let low : i < length names = omega (arith, c.loop-i-test.true, c.min-i-end.ensures) in
    let lower : i < length values = omega (arith, c.loop-i-test.true, c.min-i-end.ensures) in
    let whole = c.args.line.now.items ++ bound_text text shown [] (offsets names) values in
    next_bound text shown names values i name value line c.push_unless_hidden.new.line.items whole low lower c.index-names-i.is c.index-values-i.is c.loop-i.invariant c.in_ok-push_unless_hidden.ensures

pub returns : goal.returns
returns c =
    let shown = names_in (spec_of c.args.checked.now.spec) in
    let text = c.args.text.now in
    let names = c.args.names.now in
    let values = c.args.values.now in
    all_bound text shown names values c.loop-i.i c.loop-i.line.items (c.args.line.now.items ++ bound_text text shown [] (offsets names) values)
    (omega (arith, c.loop-i-test.false, c.min-i-end.ensures)) c.loop-i.invariant
