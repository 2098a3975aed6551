use Rattle.std.proofs.Common.{◌≡◌, List, ap, arith, length, sym, subst}
use Rattle.std.specs.Prelude.{slice_get, Some}
use Rattle.asm_explore.specs.code.PackedNodes.{Node}
use Rattle.asm_explore.proofs.states.indexed_nodes.IndexedNodes.depth.Goals as goal

pub depth-requires : goal.depth-requires
depth-requires c = omega (arith, c.requires, ap length c.self.view_is)

pub returns : goal.returns
returns c = λ n there. c.depth.ensures n (subst (λ (ns : List Node). slice_get ns c.args.number ≡ Some n) (sym c.self.view_is) there)
