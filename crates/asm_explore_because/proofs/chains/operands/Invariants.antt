use Rattle.std.proofs.Common.{◌≡◌, ◌++◌, ◌∷◌, drop}
use Rattle.asm_syntax.specs.code.Views.{term_of}
use Rattle.asm_explore_because.specs.Parts.{operands}
use Rattle.asm_explore_because.specs.code.CodedParts.{terms_at}
use Rattle.asm_explore_because.specs.code.CodedTerms.{links_in}
use Rattle.asm_explore_because.proofs.chains.operands.Given as goal

abbrev pub invariant-loop-i : goal.invariant-loop-i
invariant-loop-i l = terms_at l.terms.items ++ operands (links_in (drop l.i l.rest)) ≡ term_of l.first ∷ operands (links_in l.rest)
