use Rattle.std.proofs.Common.{◌≡◌, ◌++◌, ◌<◌, ◌∙◌, length, take, ap, sym, arith}
use Rattle.std.specs.List.{flat_map}
use Rattle.std.specs.Prelude.{codes}
use Rattle.asm_state.specs.Location.{Stray}
use Rattle.asm_state.specs.Signature.{count_of, locations, state_of}
use Rattle.asm_syntax.specs.code.Views.{spec_of}
use Rattle.asm_check.specs.Shapes.{shape_of}
use Rattle.asm_explore_table.specs.code.StepsMade.{names_said}
use Rattle.asm_graph.specs.Labels.{shortened, shown_lines, state_lines}
use Rattle.asm_graph.proofs.Texts.{cut_short, cut_text, pushed}
use Rattle.asm_graph.proofs.labels.add_state.Goals as goal

pub returns-then-lines-ge-MAX_LOCATIONS_SHOWN : goal.returns-then-lines-ge-MAX_LOCATIONS_SHOWN
returns-then-lines-ge-MAX_LOCATIONS_SHOWN c =
    let s = spec_of c.args.texts.now.checked.now.spec in
    let shape = shape_of s in
    let names = names_said c.args.texts.now.names.now in
    let A = state_of shape c.args.state.now in
    let l = c.loop-n in
    let start = c.args.label.now.items in
    let last = c.extend_from_slice-then-lines-ge-MAX_LOCATIONS_SHOWN in
    let lines = flat_map (shown_lines s names A) (take l.n (locations shape)) in
    let low : l.n < length (locations shape) = omega (arith, c.loop-n-test.true, c.count-n-end.ensures.count, ap count_of c.signature.ensures) in
    let full : length lines ≡ 12 = omega (arith, l.invariant.count, l.invariant.few, c.if-lines-ge-MAX_LOCATIONS_SHOWN.true) in
    let cut = cut_short (shown_lines s names A) (locations shape) l.n (Stray 0) _ low full (c.has_line.ensures.shown c.if-has_line.true) in
    pushed last.result last.new.self.items c.extend_from_slice.new.self.items (codes "..") (start ++ flat_map (λ line. codes "\n" ++ line) (shortened (state_lines s names A))) last.ensures.items
    (ap (λ t. t ++ codes "..") (c.in_ok-extend_from_slice.ensures.items ∙ ap (λ t. t ++ codes "\n") l.invariant.so_far)
    ∙ cut_text start lines ∙ ap (λ ls. start ++ flat_map (λ line. codes "\n" ++ line) ls) (sym cut))
