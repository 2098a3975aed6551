use Rattle.std.proofs.Common.{◌∙◌, ◌++◌, ◌/◌, length}
use Rattle.asm_explore.proofs.OutcomeLemmas.Chains.{halves_joined}
use Rattle.asm_explore.proofs.outcomes.choice_list.+in_halves.Goals as goal

pub returns : goal.returns
returns t c =
    c.in_ok-both.ensures ∙ (λ i. c.in_ok-first.ensures i ++ c.in_ok-last.ensures i) ∙ halves_joined c.args.chains.now (length c.args.chains.now / 2)
