use Rattle.std.proofs.Common.{◌∙◌, sym}
use Rattle.std.proofs.lemmas.Result.{on_ok_weaker}
use Rattle.asm_syntax.specs.code.Views.{spec_of}
use Rattle.asm_run.specs.Written.{names_in}
use Rattle.asm_explore_run.proofs.BoundNames.{hidden_value, shown_value}
use Rattle.asm_explore_run.proofs.assignment_line.push_unless_hidden.Goals as goal

pub returns-then-is_among : goal.returns-then-is_among
returns-then-is_among c =
    hidden_value c.args.text.now (names_in (spec_of c.args.checked.now.spec)) c.args.inner.now c.args.name.now.at c.args.value.now c.args.line.now.items
    (sym c.is_among.ensures ∙ c.if-is_among.true)

pub returns : goal.returns
returns c =
    on_ok_weaker c.push_value.result (shown_value c.args.text.now (names_in (spec_of c.args.checked.now.spec)) c.args.inner.now c.args.name.now.at c.args.value.now c.args.line.now.items _ _ _ _
    (sym c.is_among.ensures ∙ c.if-is_among.false) c.in_ok-extend_from_slice.ensures.items c.in_ok-push_name.ensures c.in_ok-extend_from_slice-2.ensures.items) c.push_value.ensures
