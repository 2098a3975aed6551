use Rattle.std.proofs.Common.{[], ◌∷◌}
use Rattle.asm_graph.specs.Graphs.{along}
use Rattle.asm_graph.proofs.laws.along_law.Goals as goal

pub returns : goal.returns
returns c = λ shape specification turns nodes A e is.
    let cs = e.choices.items in
    is.goes (along cs) (c.script_law.ensures.makes (cs ∷ []) (is.apart, tt)).0
