use Rattle.std.proofs.Common.{◌≡◌, drop}
use Rattle.asm_explore_because.specs.Parts.{are_decisive}
use Rattle.asm_explore_because.specs.code.CodedTerms.{links_in}
use Rattle.asm_explore_because.proofs.chains.are_decisive.Given as goal

abbrev pub invariant-loop-i : goal.invariant-loop-i
invariant-loop-i l = are_decisive l.wanted (links_in (drop l.i l.rest)) ≡ are_decisive l.wanted (links_in l.rest)
