use Rattle.std.proofs.Common.{◌≡◌, ◌++◌, map, drop}
use Rattle.asm_syntax.specs.code.Views.{spec_of, name_of}
use Rattle.asm_check.specs.Numbers.{universes_of}
use Rattle.asm_check.specs.Shapes.{texts_of, domain_by}
use Rattle.asm_check.proofs.numbers.declared_signature.domain_of.Given as goal

abbrev pub invariant-loop-name : goal.invariant-loop-name
invariant-loop-name l =
    l.numbers.items ++ domain_by (texts_of (universes_of (spec_of l.numbered.spec.now))) (map name_of (drop l.name-index l.domain)) ≡ domain_by (texts_of (universes_of (spec_of l.numbered.spec.now))) (map name_of l.domain)
