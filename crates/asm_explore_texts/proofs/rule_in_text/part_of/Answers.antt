use Rattle.std.proofs.Common.{◌∙◌, ap, refl, sym, length, arith}
use Rattle.std.specs.Prelude.{option_map}
use Rattle.std.proofs.lemmas.Option.{slice_get_past, slice_get_read}
use Rattle.asm_syntax.specs.code.Views.{rule_of}
use Rattle.asm_explore_texts.proofs.RuleNumbers.{numbered_in}
use Rattle.asm_explore_texts.proofs.rule_in_text.part_of.Goals as goal

pub returns-then-at-parts : goal.returns-then-at-parts
returns-then-at-parts c =
    let parts = c.args.parts.now in
    ap (option_map rule_of) (sym (slice_get_read parts (length parts) c.args.number c.index-parts-at.result refl (omega (arith, c.if-at-parts.true)) c.index-parts-at.is)) ∙ numbered_in rule_of parts c.args.number

pub returns-else-at-parts : goal.returns-else-at-parts
returns-else-at-parts c =
    let parts = c.args.parts.now in
    ap (option_map rule_of) (sym (slice_get_past parts c.args.number (omega (arith, c.if-at-parts.false)))) ∙ numbered_in rule_of parts c.args.number
