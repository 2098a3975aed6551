use Rattle.std.proofs.Common.{length, sym, ap, subst, ◌∙◌}
use Rattle.asm_state.specs.Universe.{IsUniverse}
use Rattle.asm_state.proofs.UniverseValues.{length-values_from, values_in_turn, in_turn_rise}
use Rattle.asm_state.proofs.universe.Universe.size.Goals as goal

pub returns-clause-size : goal.returns-clause-size
returns-clause-size c = sym (length-values_from c.self.inside.first c.self.inside.count) ∙ ap length c.self.view_is

pub returns-clause-sound : goal.returns-clause-sound
returns-clause-sound c = subst IsUniverse c.self.view_is (in_turn_rise _ _ (values_in_turn c.self.inside.first c.self.inside.count c.self.invariant))
