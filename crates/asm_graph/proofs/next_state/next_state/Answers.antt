use Rattle.asm_updates.specs.code.Faults.{fault_of}
use Rattle.asm_graph.proofs.Outcomes.{path_fails, set_fails, set_leads}
use Rattle.asm_graph.proofs.next_state.next_state.Goals as goal

pub returns-in-Exhausted-clause-fault : goal.returns-in-Exhausted-clause-fault
returns-in-Exhausted-clause-fault c = path_fails c.args.signature.now _ c.args.one.now c.in-Exhausted.is

pub returns-in-Some-clause-fault : goal.returns-in-Some-clause-fault
returns-in-Some-clause-fault c =
    let signature = c.args.signature.now in
    set_fails signature c.in-Set.updates c.args.one.now c.kind_of.result (fault_of signature c.in-Some.fault) c.in-Set.is
    (λ U stands. c.in-Some.ensures.first U stands) (c.kind_of.ensures signature)

pub returns-in_ok-next-in-None-clause-leads : goal.returns-in_ok-next-in-None-clause-leads
returns-in_ok-next-in-None-clause-leads c =
    let a = c.args in
    set_leads a.signature.now c.in-Set.updates a.one.now a.from.now c.in_ok-next-in-None.next c.in-Set.is
    (λ U stands. c.in-None.ensures.consistent U stands) (λ U stands fine. c.in_ok-next-in-None.ensures.fired U stands fine)
    (λ U stands fine whole. c.in_ok-next-in-None.ensures.state U stands fine whole) c.requires.from
