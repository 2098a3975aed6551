use Rattle.std.proofs.Common.{◌≡◌, drop}
use Rattle.std.specs.Prelude.{find}
use Rattle.asm_resolve.specs.code.Scopes.{AreResolvedBodies}
use Rattle.asm_explore_because.specs.Parts.{decides_under}
use Rattle.asm_explore_because.specs.code.CodedParts.{bound_of, part_of, spec_in, state_in, terms_at}
use Rattle.asm_explore_because.proofs.chains.first_deciding.Given as goal

abbrev pub invariant-loop-i : goal.invariant-loop-i
invariant-loop-i l = record {
  first : find (decides_under (spec_in l.scene) (state_in l.scene) (part_of l.part) (bound_of l.part.bound.items)) (terms_at (drop l.i l.terms))
      ≡ find (decides_under (spec_in l.scene) (state_in l.scene) (part_of l.part) (bound_of l.part.bound.items)) (terms_at l.terms);
  known : AreResolvedBodies (spec_in l.scene) l.known.terms.items;
}
