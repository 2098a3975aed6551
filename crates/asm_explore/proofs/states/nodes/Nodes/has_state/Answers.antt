use Rattle.std.proofs.Common.{length, sym, ap, ◌∙◌}
use Rattle.asm_explore.proofs.StateLemmas.PackedNodes.{contents_count, some_at}
use Rattle.asm_explore.proofs.states.nodes.Nodes.has_state.Goals as goal

pub are_contents-requires : goal.are_contents-requires
are_contents-requires c =
    let there = some_at c.args.self.now c.args.number c.requires.number in
    sym (contents_count c.contents.result.0.now c.contents.result.1.now) ∙ ap length (c.contents.ensures there.0 there.1) ∙ c.requires.whole there.0 there.1

pub returns-clause-other : goal.returns-clause-other
returns-clause-other c = λ no n there same. c.are_contents.ensures.other no (c.contents.ensures n there ∙ same)
