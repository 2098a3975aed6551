use Rattle.std.proofs.Common.{◌≡◌, take}
use Rattle.asm_explore.specs.RunChoices.{choices_made}
use Rattle.asm_explore.proofs.choices.made_choices.without_candidates.Given as goal

-- the first choices
abbrev pub invariant-loop-k : goal.invariant-loop-k
invariant-loop-k l = choices_made l.made.items ≡ choices_made (take l.k l.asked)
