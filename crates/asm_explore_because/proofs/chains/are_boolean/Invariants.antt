use Rattle.std.proofs.Common.{◌≡◌, drop}
use Rattle.std.specs.List.{list_all}
use Rattle.asm_resolve.specs.code.Scopes.{AreResolvedBodies}
use Rattle.asm_explore_because.specs.Parts.{is_boolean, value_under}
use Rattle.asm_explore_because.specs.code.CodedParts.{bound_of, spec_in, state_in, terms_at}
use Rattle.asm_explore_because.proofs.chains.are_boolean.Given as goal

abbrev pub invariant-loop-i : goal.invariant-loop-i
invariant-loop-i l = record {
  all : list_all (λ t. is_boolean (value_under (spec_in l.scene) (state_in l.scene) (bound_of l.part.bound.items) t)) (terms_at (drop l.i l.terms))
      ≡ list_all (λ t. is_boolean (value_under (spec_in l.scene) (state_in l.scene) (bound_of l.part.bound.items) t)) (terms_at l.terms);
  known : AreResolvedBodies (spec_in l.scene) l.known.terms.items;
}
