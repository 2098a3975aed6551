use Rattle.std.proofs.Common.{sym, arith}
use Rattle.std.proofs.lemmas.List.{length-take-le, take_all}
use Rattle.asm_explore_report.proofs.facts.front.Goals as goal

pub slice_bounds-result-end : goal.slice_bounds-result-end
slice_bounds-result-end c = sym (length-take-le 200 c.args.text.now (omega (arith, c.if-text-gt-MAX_CONDITION_BYTES.true)))

pub returns-else-text-gt-MAX_CONDITION_BYTES : goal.returns-else-text-gt-MAX_CONDITION_BYTES
returns-else-text-gt-MAX_CONDITION_BYTES c = sym (take_all 200 c.args.text.now c.if-text-gt-MAX_CONDITION_BYTES.false)
