use Rattle.std.proofs.Common.{take, map}
use Rattle.asm_syntax.specs.code.Views.{name_of}
use Rattle.asm_check.specs.Errors.{found_of}
use Rattle.asm_check.specs.code.names.Gathering.{Gathers}
use Rattle.asm_check.specs.Names.{declares, Element}
use Rattle.asm_check.proofs.names.first_names.declare_elements.Given as goal

abbrev pub invariant-loop-element : goal.invariant-loop-element
invariant-loop-element l =
    Gathers (map (λ y. declares y (Element l.k)) (map name_of (take l.element-index l.elements))) l.fn.names (found_of l.fn.least.found) l.names (found_of l.least.found)
