use Rattle.std.proofs.Common.{◌≡◌, ◌∙◌, ◌+◌, ap, arith, refl, subst, suc, sym}
use Rattle.std.proofs.lemmas.Bool.{false≢true}
use Rattle.std.specs.Prelude.{IfOk}
use Rattle.asm_state.specs.Signature.{state_of}
use Rattle.asm_state.specs.code.Contents.{IsStateOf}
use Rattle.asm_syntax.specs.code.Views.{spec_of}
use Rattle.asm_check.specs.Shapes.{shape_of}
use Rattle.asm_meaning.specs.Declarations.{specification_of}
use Rattle.asm_explore.specs.Search.{LeadsOn}
use Rattle.asm_explore.specs.TakenChoices.{steps_from}
use Rattle.asm_explore.specs.code.StepLeads.{situation_of}
use Rattle.asm_graph.specs.declared.graph.EdgeEnd.TheVariants.{Node}
use Rattle.asm_graph.proofs.MoreNodes.{same_contents}
use Rattle.asm_graph.proofs.WayLemmas.{leads_back}
use Rattle.asm_graph.proofs.path_graph.end_of.Goals as goal

pub returns-then-is_same_state : goal.returns-then-is_same_state
returns-then-is_same_state g c =
    let m = c.args.specified.now in
    let s = spec_of m.checked.now.spec in
    let A = state_of (shape_of s) c.args.state.now in
    let r = steps_from (specification_of s) m.turns A (situation_of g.P.Picks.script c.args.choices.now) in
    let leads = subst (λ led. IfOk led (λ next. LeadsOn r A (λ B. B ≡ state_of (shape_of s) next))) c.in-Ok.is c.in_ok-next.ensures.leads in
    (refl, leads_back r A _ leads (ap (state_of (shape_of s)) (sym (c.is_same_state.ensures.0 c.if-is_same_state.true))))

pub returns-else-is_same_state : goal.returns-else-is_same_state
returns-else-is_same_state g c =
    let m = c.args.specified.now in
    let s = spec_of m.checked.now.spec in
    let shape = shape_of s in
    let A = state_of shape c.args.state.now in
    let next = c.in-Ok.next in
    let r = steps_from (specification_of s) m.turns A (situation_of g.P.Picks.script c.args.choices.now) in
    let leads = subst (λ led. IfOk led (λ n. LeadsOn r A (λ B. B ≡ state_of shape n))) c.in-Ok.is c.in_ok-next.ensures.leads in
    let state = subst (λ led. IfOk led (IsStateOf shape)) c.in-Ok.is c.in_ok-next.ensures.state in
    let up : c.args.number + 1 ≡ suc c.args.number = omega arith in (
      state,
      ap Node up,
      leads,
      λ same. false≢true (sym c.if-is_same_state.false ∙ c.is_same_state.ensures.1 (same_contents shape c.args.state.now next c.requires.state state (sym same))),
    )
