use Rattle.std.proofs.Common.{◌≡◌, ◌∷◌, drop}
use Rattle.std.specs.Prelude.{find}
use Rattle.asm_syntax.specs.code.Views.{term_of}
use Rattle.asm_resolve.specs.code.Scopes.{AreResolvedBodies}
use Rattle.asm_explore_because.specs.Parts.{decides_under}
use Rattle.asm_explore_because.specs.code.CodedParts.{bound_of, part_of, spec_in, state_in}
use Rattle.asm_explore_because.proofs.elements.element_part.Given as goal

abbrev pub invariant-loop-i : goal.invariant-loop-i
invariant-loop-i l = record {
  first : find (λ v. decides_under (spec_in l.scene) (state_in l.scene) (part_of l.part) ((l.name.text, v) ∷ bound_of l.part.bound.items) (term_of l.test)) (drop l.i l.universe)
      ≡ find (λ v. decides_under (spec_in l.scene) (state_in l.scene) (part_of l.part) ((l.name.text, v) ∷ bound_of l.part.bound.items) (term_of l.test)) l.universe;
  known : AreResolvedBodies (spec_in l.scene) l.known.terms.items;
}
