use Rattle.std.proofs.Common.{◌≡◌, ◌↔◌, ◌∙◌, ap, sym, subst}
use Rattle.std.specs.Prelude.{IsTrue}
use Rattle.std.specs.List.{list_all}
use Rattle.asm_graph.specs.declared.graph.Edge.{Edge}
use Rattle.asm_graph.specs.Dot.{is_node, is_quiet}
use Rattle.asm_graph.specs.Graphs.{LeadBack}
use Rattle.asm_graph.proofs.QuietTest.{quiet_is_back}
use Rattle.asm_graph.proofs.quiet.is_quiet.Goals as goal

pub returns-in-Edges-clause-back : goal.returns-in-Edges-clause-back
returns-in-Edges-clause-back c =
    let i = c.args.number in
    let step = c.args.step.now in
    let same : c.all_lead_to.result ≡ is_quiet i step =
    c.all_lead_to.ensures ∙ ap (list_all (λ (e : Edge). is_node i e.to)) c.as_slice.ensures.value ∙ ap (is_quiet i) (sym c.in-Edges.is) in
    subst (λ b. IsTrue b ↔ LeadBack i step) (sym same) (quiet_is_back i step)
