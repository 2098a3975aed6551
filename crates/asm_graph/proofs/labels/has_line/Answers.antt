use Rattle.std.proofs.Common.{◌∙◌, arith, false, sym}
use Rattle.asm_state.specs.Signature.{location_at, state_of}
use Rattle.asm_syntax.specs.code.Views.{spec_of}
use Rattle.asm_check.specs.Shapes.{shape_of}
use Rattle.asm_explore_table.specs.code.StepsMade.{names_said}
use Rattle.asm_graph.proofs.ShownMarks.{line_of, mark_at, marks_count, no_line}
use Rattle.asm_graph.proofs.labels.has_line.Goals as goal

pub bounds-texts-n : goal.bounds-texts-n
bounds-texts-n c =
    let texts = c.args.texts.now in
    let count = marks_count (spec_of texts.checked.now.spec) (names_said texts.names.now) texts.shown.now c.requires.of_names in
    omega (arith, count, c.requires.in_range, c.requires.whole)

pub returns-then-texts-n-clause-shown : goal.returns-then-texts-n-clause-shown
returns-then-texts-n-clause-shown c = λ yes.
    let texts = c.args.texts.now in
    let s = spec_of texts.checked.now.spec in
    let names = names_said texts.names.now in
    let mark = mark_at s names texts.shown.now c.args.n false c.requires.of_names (omega (arith, c.requires.in_range, c.requires.whole)) in
    line_of s names (state_of (shape_of s) c.args.state.now) (location_at (shape_of s) c.args.n) _ (sym mark ∙ c.if-texts-n.true) (c.is_content.ensures.shown yes)

pub returns-else-texts-n-clause-hidden : goal.returns-else-texts-n-clause-hidden
returns-else-texts-n-clause-hidden c = λ no.
    let texts = c.args.texts.now in
    let s = spec_of texts.checked.now.spec in
    let names = names_said texts.names.now in
    let mark = mark_at s names texts.shown.now c.args.n false c.requires.of_names (omega (arith, c.requires.in_range, c.requires.whole)) in
    no_line s names (state_of (shape_of s) c.args.state.now) (location_at (shape_of s) c.args.n) (sym mark ∙ no)
