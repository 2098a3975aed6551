use Rattle.std.proofs.Common.{sym, subst}
use Rattle.asm_state.specs.code.ConsecutiveCodes.{AreConsecutive}
use Rattle.asm_state.specs.code.UniverseView.{values_from}
use Rattle.asm_state.proofs.UniverseValues.{values_in_turn}
use Rattle.asm_state.proofs.universe.Universe.first_code.Goals as goal

pub returns : goal.returns
returns c =
    subst (AreConsecutive c.code.result) c.self.view_is
    (subst (λ low. AreConsecutive low (values_from c.self.inside.first c.self.inside.count)) (sym c.code.ensures) (values_in_turn c.self.inside.first c.self.inside.count c.self.invariant))
