use Rattle.std.proofs.Common.{◌≡◌}
use Rattle.asm_resolve.specs.code.Scopes.{slots_of}
use Rattle.asm_resolve.specs.code.Slots.{found_from}
use Rattle.asm_resolve.proofs.scope.find.Given as goal

-- what is left suffices for the whole
abbrev pub invariant-loop-rest : goal.invariant-loop-rest
invariant-loop-rest l = found_from l.before (slots_of l.rest) l.name.text ≡ found_from 0 (slots_of l.scope) l.name.text
