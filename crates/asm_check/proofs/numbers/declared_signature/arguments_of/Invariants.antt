use Rattle.std.proofs.Common.{◌≡◌, ◌++◌, map, drop}
use Rattle.asm_syntax.specs.code.Views.{spec_of, const_of}
use Rattle.asm_check.specs.Numbers.{elements_of}
use Rattle.asm_check.specs.Shapes.{texts_of, const_by}
use Rattle.asm_check.proofs.numbers.declared_signature.arguments_of.Given as goal

abbrev pub invariant-loop-constant : goal.invariant-loop-constant
invariant-loop-constant l =
    l.values.items ++ map (const_by (texts_of (elements_of (spec_of l.numbered.spec.now)))) (map const_of (drop l.constant-index l.constants)) ≡ map (const_by (texts_of (elements_of (spec_of l.numbered.spec.now)))) (map const_of l.constants)
