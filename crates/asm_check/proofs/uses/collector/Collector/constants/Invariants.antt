use Rattle.std.proofs.Common.{◌≡◌, ◌++◌, map, drop}
use Rattle.asm_check.specs.code.uses.UseViews.{use_of}
use Rattle.asm_check.specs.code.uses.UseCollector.{binders_of, parameters_of}
use Rattle.std.proofs.Common.{flat_map}
use Rattle.asm_syntax.specs.code.Views.{const_of}
use Rattle.asm_check.specs.Names.{uses_of_const}
use Rattle.asm_check.proofs.uses.collector.Collector.constants.Given as goal

abbrev pub invariant-loop-constant : goal.invariant-loop-constant
invariant-loop-constant l = record {
  found : map use_of l.self.found.items ++ flat_map uses_of_const (map const_of (drop l.constant-index l.constants)) ≡ map use_of l.fn.self.found.items ++ flat_map uses_of_const (map const_of l.fn.constants);
  binders : binders_of l.self ≡ binders_of l.fn.self;
  parameters : parameters_of l.self ≡ parameters_of l.fn.self;
}
