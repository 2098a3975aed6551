use Rattle.std.specs.Prelude.{codes}
use Rattle.asm_syntax.specs.code.Views.{spec_of}
use Rattle.asm_graph.specs.Labels.{value_text}
use Rattle.asm_graph.proofs.Texts.{joined_next, mark_next, one_more}
use Rattle.asm_graph.proofs.location_text.push_arguments.Goals as goal

pub loop-argument-preserved : goal.loop-argument-preserved
loop-argument-preserved c =
    let l = c.loop-argument in
    let arguments = c.args.arguments.now in
    let text = value_text (spec_of c.args.checked.now.spec) in
    let one = c.argument-item.result in
    let more = one_more arguments l.argument-index one c.loop-argument-test.true c.argument-item.is in
    record {
      so_far = joined_next text (codes ", ") arguments l.argument-index one more c.extend_from_slice.new.self.items l.label.items c.extend_from_slice-in-loop-argument.new.self.items c.push_value.new.label.items l.before.now
          l.invariant.so_far l.invariant.next c.in_ok-extend_from_slice-2.ensures.items c.in_ok-push_value.ensures;
      next = mark_next text (codes ", ") arguments l.argument-index one more;
    }
