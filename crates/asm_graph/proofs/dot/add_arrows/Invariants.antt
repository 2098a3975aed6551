use Rattle.std.proofs.Common.{◌≡◌, ◌++◌, take}
use Rattle.std.specs.List.{flat_map}
use Rattle.std.specs.String.{string_bytes}
use Rattle.asm_graph.specs.code.DrawnArrows.{drawn_line}
use Rattle.asm_graph.proofs.dot.add_arrows.Given as goal

-- the lines of the first edges are written
abbrev pub invariant-loop-arrow : goal.invariant-loop-arrow
invariant-loop-arrow l = string_bytes l.dot ≡ string_bytes l.initial.dot ++ flat_map drawn_line (take l.arrow-index l.arrows)
