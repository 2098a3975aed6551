use Rattle.std.proofs.Common.{◌≡◌, ◌++◌, map, drop}
use Rattle.asm_check.specs.code.uses.UseViews.{use_of}
use Rattle.asm_check.specs.code.uses.UseCollector.{binders_of, parameters_of}
use Rattle.std.proofs.Common.{flat_map}
use Rattle.asm_syntax.specs.code.Views.{entry_of}
use Rattle.asm_check.specs.Names.{uses_of_entry}
use Rattle.asm_check.proofs.uses.collector.Collector.entries.Given as goal

abbrev pub invariant-loop-entry : goal.invariant-loop-entry
invariant-loop-entry l = record {
  found : map use_of l.self.found.items ++ flat_map uses_of_entry (map entry_of (drop l.entry-index l.entries)) ≡ map use_of l.fn.self.found.items ++ flat_map uses_of_entry (map entry_of l.fn.entries);
  binders : binders_of l.self ≡ binders_of l.fn.self;
  parameters : parameters_of l.self ≡ parameters_of l.fn.self;
}
