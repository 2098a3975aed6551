use Rattle.std.proofs.Common.{◌∙◌, List, sym, ap}
use Rattle.asm_state.specs.declared.operation.Op.{Op}
use Rattle.asm_syntax.specs.code.ViewCases.{term_of-Chain}
use Rattle.asm_syntax.specs.code.Views.{term_of}
use Rattle.asm_syntax.specs.declared.term.Term.{Term}
use Rattle.asm_explore_because.specs.PrintedTerms.{chain_strength, strength}
use Rattle.asm_explore_because.specs.code.CodedTerms.{links_in}
use Rattle.asm_explore_because.proofs.term_text.strength.Goals as goal

pub returns-in-Chain : goal.returns-in-Chain
returns-in-Chain c =
    c.chain_strength.ensures.strength ∙ ap (λ (ls : List (Op × Term)). chain_strength (links_in ls)) c.as_slice.ensures.value
    ∙ sym (ap strength (ap term_of c.in-Chain.is ∙ term_of-Chain c.in-Chain.first c.in-Chain.rest))
