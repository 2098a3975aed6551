use Rattle.std.proofs.Common.{◌≡◌, ◌++◌, drop, map}
use Rattle.asm_syntax.specs.SourceTree.{terms_of}
use Rattle.asm_syntax.specs.code.Views.{term_of}
use Rattle.asm_resolve.specs.code.Scopes.{AreResolvedBodies}
use Rattle.asm_explore_because.specs.Parts.{values_under}
use Rattle.asm_explore_because.specs.code.CodedParts.{bound_of, spec_in, state_in}
use Rattle.asm_explore_because.proofs.value_under.values_under.Given as goal

abbrev pub invariant-loop-i : goal.invariant-loop-i
invariant-loop-i l = record {
  values : l.values.items ++ values_under (spec_in l.scene) (state_in l.scene) (bound_of l.bound) (terms_of (map term_of (drop l.i l.terms)))
      ≡ values_under (spec_in l.scene) (state_in l.scene) (bound_of l.bound) (terms_of (map term_of l.terms));
  known : AreResolvedBodies (spec_in l.scene) l.known.terms.items;
}
