use Rattle.std.proofs.Common.{◌≡◌, suc, ◌-◌, arith, sym, ap, ◌∙◌}
use Rattle.asm_explore.specs.code.PackedNodes.{begin_of}
use Rattle.asm_explore.proofs.StateLemmas.PackedNodes.{begin_next}
use Rattle.asm_explore.proofs.states.nodes.begin.Goals as goal

pub returns : goal.returns
returns c =
    let links = c.args.links.now in
    let next : c.args.number ≡ suc (c.args.number - 1) = omega arith in
    sym (ap (begin_of 0 0 links) next ∙ begin_next 0 0 links (c.args.number - 1) _ (omega arith))
