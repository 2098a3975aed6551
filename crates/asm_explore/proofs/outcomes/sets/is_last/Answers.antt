use Rattle.std.proofs.Common.{◌∙◌, ◌&&◌, ap, sym}
use Rattle.std.proofs.lemmas.Bool.Decides.{same_from_decides}
use Rattle.asm_state.specs.Updates.{is_none}
use Rattle.asm_state.proofs.UpdateLemmas.Updates.{test_laws}
use Rattle.asm_explore.proofs.OutcomeLemmas.SequenceOutcomes.{told_faulty, told_good, no_fault_found, fault_found}
use Rattle.asm_explore.proofs.outcomes.sets.is_last.Goals as goal

pub returns-then-is_some : goal.returns-then-is_some
returns-then-is_some c = λ V stands.
    told_faulty c.args.turns V (fault_found c.args.signature.now c.args.updates.now.set V c.first_fault.result (sym c.if-is_some.ensures) c.first_fault.ensures.first stands)

pub returns-then-turns : goal.returns-then-turns
returns-then-turns c = λ V stands.
    let empty = c.is_empty-empty.result in
    ap (λ t. t && empty) (sym c.if-turns.true)
    ∙ told_good c.args.turns V empty (same_from_decides empty (is_none V) (c.is_empty-empty.ensures.empty c.args.signature.now V stands) (test_laws.emptiness V))
    (no_fault_found c.args.signature.now c.args.updates.now.set V c.first_fault.result (sym c.if-is_some.ensures) c.first_fault.ensures.consistent stands)

pub returns-else-turns : goal.returns-else-turns
returns-else-turns c = λ V stands.
    let empty = c.is_empty-empty.result in
    c.if-turns.false ∙ ap (λ t. t && empty) (sym c.if-turns.false)
    ∙ told_good c.args.turns V empty (same_from_decides empty (is_none V) (c.is_empty-empty.ensures.empty c.args.signature.now V stands) (test_laws.emptiness V))
    (no_fault_found c.args.signature.now c.args.updates.now.set V c.first_fault.result (sym c.if-is_some.ensures) c.first_fault.ensures.consistent stands)
