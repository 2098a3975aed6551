use Rattle.std.proofs.Common.{◌∙◌}
use Rattle.asm_explore_run.proofs.UnmetTexts.{written}
use Rattle.asm_explore_run.proofs.unmet_lines.unmet_line.Goals as goal

pub returns : goal.returns
returns c =
    written c.args.number c.args.line.now _ _ _ _ _ _ c.new-said.ensures.items c.in_ok-extend_from_slice.ensures.items (c.as_bytes.ensures.value ∙ c.in_ok-format.ensures.ok)
    c.in_ok-extend_from_slice-2.ensures.items c.in_ok-extend_from_slice-3.ensures.items c.in_ok-extend_from_slice-4.ensures.items
