use Rattle.std.proofs.Common.{ap, subst, ◌∙◌, rules}
use Rattle.std.specs.List.Sorted.{IsStrictlyIncreasing}
use Rattle.std.specs.Map.{keys_of}
use Rattle.asm_updates.specs.code.IndexedRanges.{IndexedRanges}
use Rattle.asm_updates.proofs.ranges.Ranges.sort.Goals as goal

pub returns-then-are_rising-clause-rising : goal.returns-then-are_rising-clause-rising
returns-then-are_rising-clause-rising c =
    subst (λ es. IsStrictlyIncreasing (keys_of es)) (c.deref.ensures.value ∙ ap (λ (l : IndexedRanges). l.entries) c.self.view_is) (c.are_rising.ensures (search rules))
