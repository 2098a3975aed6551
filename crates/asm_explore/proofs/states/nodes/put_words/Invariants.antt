use Rattle.std.proofs.Common.{◌≡◌, ◌++◌, ◌-◌, take, drop}
use Rattle.asm_explore.proofs.states.nodes.put_words.Given as goal

abbrev pub invariant-loop-n : goal.invariant-loop-n
invariant-loop-n l = l.words.items ≡ l.fn.words.items ++ take (l.n - l.first) (drop l.first l.state)
