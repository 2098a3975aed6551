use Rattle.std.proofs.Common.{map, take}
use Rattle.asm_syntax.specs.code.Views.{name_of}
use Rattle.asm_check.specs.Names.{text_of}
use Rattle.asm_check.specs.code.uses.UseCollector.{IsSameScope}
use Rattle.asm_check.proofs.uses.collector.Collector.with_parameters.Given as goal

abbrev pub invariant-loop-parameter : goal.invariant-loop-parameter
invariant-loop-parameter l = IsSameScope (map (λ p. p.now) l.texts.keys) (map text_of (map name_of (take l.parameter-index l.parameters)))
