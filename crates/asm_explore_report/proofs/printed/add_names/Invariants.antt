use Rattle.std.proofs.Common.{◌≡◌, ◌++◌, take, codes}
use Rattle.std.specs.List.{flat_map}
use Rattle.asm_explore_report.specs.Printed.{names_of}
use Rattle.asm_explore_report.proofs.printed.add_names.Given as goal

abbrev pub invariant-loop-part : goal.invariant-loop-part
invariant-loop-part l = l.line.items ≡ l.initial.line.items ++ flat_map (λ other. codes ", " ++ other) (names_of (take l.part-index l.parts))
