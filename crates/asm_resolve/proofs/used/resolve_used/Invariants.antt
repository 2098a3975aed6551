use Rattle.asm_syntax.specs.code.Views.{spec_of}
use Rattle.asm_resolve.specs.code.RuleScopes.{AreKnown}
use Rattle.asm_resolve.proofs.used.resolve_used.Given as goal

abbrev pub invariant-loop-turn : goal.invariant-loop-turn
invariant-loop-turn l = AreKnown (spec_of l.checked.spec) l.known
