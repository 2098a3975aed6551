use Rattle.std.proofs.Common.{sym, ◌∙◌}
use Rattle.asm_state.specs.Signature.{location_at}
use Rattle.asm_state.proofs.LocationLemmas.NumberedLocations.{number_laws}
use Rattle.asm_eval.proofs.ViewedLocations.{shown_at}
use Rattle.asm_eval.proofs.view.View.content.Goals as goal

pub returns-clause-shown : goal.returns-clause-shown
returns-clause-shown c = λ proper.
    let view = c.args.self.now in
    let shape = view.signature.now in
    c.content_at.ensures
    ∙ shown_at shape view.state.now view.below view.over.now (location_at shape c.args.n) c.args.n (sym (number_laws.number shape c.args.n view.sound c.requires)) proper
