use Rattle.std.proofs.Common.{unwrap_or, sym, ap, ◌∙◌}
use Rattle.asm_random.proofs.DraftLines.{picked_in}
use Rattle.asm_random.proofs.draft.number_at.Goals as goal

pub returns-in-Some : goal.returns-in-Some
returns-in-Some c step = ap (λ o. unwrap_or o 0) (c.in-Some.ensures.value ∙ sym (picked_in step c.args.path.now c.args.numbers.now.entries))

pub returns-in-None : goal.returns-in-None
returns-in-None c step = ap (λ o. unwrap_or o 0) (c.in-None.ensures.value ∙ sym (picked_in step c.args.path.now c.args.numbers.now.entries))
