use Rattle.std.proofs.Common.{◌≡◌, ◌∙◌, List, sym, ap, subst, IfOk}
use Rattle.asm_state.specs.declared.operation.Op.{Op}
use Rattle.asm_syntax.specs.SourceTree as source
use Rattle.asm_syntax.specs.code.ViewCases.{term_of-Chain}
use Rattle.asm_syntax.specs.code.Views.{term_of}
use Rattle.asm_syntax.specs.declared.term.Term.{Term}
use Rattle.asm_explore_because.specs.Parts.{next_in}
use Rattle.asm_explore_because.specs.code.CodedParts.{part_of, part_of_some, spec_in, state_in}
use Rattle.asm_explore_because.specs.code.CodedTerms.{links_in}
use Rattle.asm_explore_because.proofs.next.next.Goals as goal

pub returns-in-Chain-clause-next : goal.returns-in-Chain-clause-next
returns-in-Chain-clause-next c =
    let is : term_of c.args.part.now.term.now ≡ source.Chain (term_of c.deref.result.now) (links_in c.as_slice-in-Chain.result.now) =
    ap term_of c.in-Chain.is ∙ term_of-Chain c.in-Chain.first c.in-Chain.rest
    ∙ ap (λ (u : Term). source.Chain (term_of u) (links_in c.in-Chain.rest.items)) (sym c.deref.ensures)
    ∙ ap (λ (ls : List (Op × Term)). source.Chain (term_of c.deref.result.now) (links_in ls)) (sym c.as_slice-in-Chain.ensures.value) in
    subst (λ u. IfOk c.chain_part.result (λ it. part_of_some it ≡ next_in (spec_in c.args.scene.now) (state_in c.args.scene.now) (part_of c.args.part.now) u)) (sym is) c.chain_part.ensures.next
