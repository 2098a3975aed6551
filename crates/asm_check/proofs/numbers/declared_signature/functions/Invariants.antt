use Rattle.std.proofs.Common.{◌≡◌, ◌++◌, map, drop}
use Rattle.std.specs.Prelude.{filter_map}
use Rattle.asm_syntax.specs.code.Views.{item_of, spec_of}
use Rattle.asm_check.specs.Shapes.{function_given}
use Rattle.asm_check.proofs.numbers.declared_signature.functions.Given as goal

abbrev pub invariant-loop-item : goal.invariant-loop-item
invariant-loop-item l =
    l.functions.items ++ filter_map (function_given (spec_of l.numbered.spec.now)) (map item_of (drop l.item-index l.numbered.spec.now.items.items)) ≡ filter_map (function_given (spec_of l.numbered.spec.now)) (map item_of l.numbered.spec.now.items.items)
