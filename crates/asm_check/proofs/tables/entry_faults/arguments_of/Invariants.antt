use Rattle.std.proofs.Common.{◌≡◌, map, take}
use Rattle.asm_syntax.specs.code.Views.{const_of}
use Rattle.asm_check.specs.code.tables.EntryArguments.{key, key_of}
use Rattle.asm_check.proofs.tables.entry_faults.arguments_of.Given as goal

abbrev pub invariant-loop-constant : goal.invariant-loop-constant
invariant-loop-constant l = map key_of l.arguments.items ≡ map key (map const_of (take l.constant-index l.constants))
