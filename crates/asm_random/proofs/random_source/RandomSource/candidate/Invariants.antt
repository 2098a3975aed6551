use Rattle.std.proofs.Common.{◌∷◌, take}
use Rattle.sha2.specs.Hashers.{Holds256}
use Rattle.asm_random.specs.DrawnNumbers.{drawn_bytes}
use Rattle.asm_random.proofs.random_source.RandomSource.candidate.Given as goal

abbrev pub invariant-loop-number : goal.invariant-loop-number
invariant-loop-number l = Holds256 l.digest (drawn_bytes (l.fn.self.seed ∷ l.fn.self.run ∷ l.step ∷ take l.number-index l.path))
