use Rattle.std.proofs.Common.{◌≡◌, ◌++◌, map, drop}
use Rattle.asm_check.specs.code.uses.UseViews.{use_of}
use Rattle.asm_check.specs.code.uses.UseCollector.{binders_of, parameters_of}
use Rattle.asm_syntax.specs.code.Views.{name_of}
use Rattle.asm_check.specs.Names.{plain_use, AsUniverse}
use Rattle.asm_check.proofs.uses.collector.Collector.domain.Given as goal

abbrev pub invariant-loop-name : goal.invariant-loop-name
invariant-loop-name l = record {
  found : map use_of l.self.found.items ++ map (plain_use AsUniverse) (map name_of (drop l.name-index l.domain)) ≡ map use_of l.fn.self.found.items ++ map (plain_use AsUniverse) (map name_of l.fn.domain);
  binders : binders_of l.self ≡ binders_of l.fn.self;
  parameters : parameters_of l.self ≡ parameters_of l.fn.self;
}
