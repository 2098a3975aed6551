use Rattle.std.proofs.Common.{◌≡◌, ◌++◌, drop, map}
use Rattle.asm_syntax.specs.code.Views.{name_of}
use Rattle.asm_check.specs.Names.{text_of}
use Rattle.asm_explore_because.specs.Parts.{parameters}
use Rattle.asm_explore_because.specs.code.CodedParts.{bound_of}
use Rattle.asm_explore_because.proofs.next.parameters.Given as goal

abbrev pub invariant-loop-i : goal.invariant-loop-i
invariant-loop-i l =
    bound_of l.bound.items ++ parameters (map text_of (map name_of (drop l.i l.names))) (drop l.i l.values) ≡ parameters (map text_of (map name_of l.names)) l.values
