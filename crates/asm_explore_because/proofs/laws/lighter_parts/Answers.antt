use Rattle.asm_explore_because.proofs.Deciding.{step, valued_of}
use Rattle.asm_explore_because.proofs.laws.lighter_parts.Goals as goal

pub returns : goal.returns
returns c s A p q good is =
    (step s A (valued_of c.specifications_are_ranked.ensures c.valued_by_cases.ensures c.term_weights_fall.ensures c.program_declares.ensures s A good) p q is).lighter
