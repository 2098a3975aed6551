use Rattle.std.proofs.Common.{◌≡◌, take}
use Rattle.asm_explore.specs.RunChoices.{choices_made}
use Rattle.asm_graph.proofs.made_choices.choices_in.Given as goal

-- the choices so far
abbrev pub invariant-loop-k : goal.invariant-loop-k
invariant-loop-k l = l.choices.items ≡ choices_made (take l.k l.asked)
