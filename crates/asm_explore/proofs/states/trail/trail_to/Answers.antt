use Rattle.std.proofs.Common.{◌≡◌, ℕ, ◌+◌, ◌∷◌, [], ◌∙◌, map, length, ap, sym, subst, arith, append-nil}
use Rattle.std.specs.Prelude.{slice_get, Some, IfNone, IfSome}
use Rattle.std.proofs.lemmas.List.{length-append}
use Rattle.std.proofs.lemmas.Option.{slice_get_within}
use Rattle.asm_state.specs.code.Contents.{IsStateOf}
use Rattle.asm_state.specs.Signature.{state_of}
use Rattle.asm_explore.specs.code.PackedNodes.{Node}
use Rattle.asm_explore.specs.declared.outcomes.outcomes_error.RuleOverLimit.{RuleOverLimit}
use Rattle.asm_explore.specs.code.SearchEnds.{HaltsSo}
use Rattle.asm_explore.specs.code.StepOutcomes.{IsOverLimitOf}
use Rattle.asm_explore.proofs.SearchEnds.{errs_weaker, full_on}
use Rattle.asm_explore.specs.code.ReachedStates.{AtNode, IsGood, LeadBetween, LeadTo, MayLead, state_at}
use Rattle.asm_explore.proofs.StateLemmas.Batches.{same_node}
use Rattle.asm_explore.proofs.StateLemmas.MoreNodes.{each_got, some_at}
use Rattle.asm_explore.proofs.OutcomeLemmas.LeadingOutcomes.{comes, is_first, leads_back}
use Rattle.asm_explore.proofs.states.trail.trail_to.Goals as goal

pub state-requires-in-loop-step-clause-number : goal.state-requires-in-loop-step-clause-number
state-requires-in-loop-step-clause-number g c =
    let a = c.args in
    let shape = g.M.Machine.shape a.machine.now in
    let specification = g.M.Machine.specification a.machine.now in
    let turns = g.M.Machine.turns a.machine.now in
    let within = g.M.Machine.within a.machine.now in
    let nodes = a.nodes.now in
    let l = c.loop-step in
    let m = some_at nodes l.at l.invariant.there in
    let n = some_at nodes a.last c.requires.last in
    let end = c.depth-step-end.ensures n.0 n.1 in
    let deep = l.invariant.deep m.0 n.0 m.1 n.1 in
    let from = comes shape specification turns nodes c.requires.linked l.at m.0 m.1 (omega (arith, end, deep, c.loop-step-test.true)) in
    let e = from.earlier in
    let at : slice_get nodes c.from-from.result ≡ Some e = ap (slice_get nodes) (c.from-from.ensures m.0 m.1) ∙ from.there in
    slice_get_within nodes c.from-from.result e at

pub state-requires-in-loop-step-clause-whole : goal.state-requires-in-loop-step-clause-whole
state-requires-in-loop-step-clause-whole g c = λ k there.
    let a = c.args in
    let good = each_got (IsGood (g.M.Machine.shape a.machine.now) (g.M.Machine.right a.machine.now)) a.nodes.now c.from-from.result k c.requires.nodes there in
    good.kept.whole ∙ sym c.requires.like

pub choices_between-requires-clause-from : goal.choices_between-requires-clause-from
choices_between-requires-clause-from g c =
    let a = c.args in
    let shape = g.M.Machine.shape a.machine.now in
    let specification = g.M.Machine.specification a.machine.now in
    let turns = g.M.Machine.turns a.machine.now in
    let within = g.M.Machine.within a.machine.now in
    let nodes = a.nodes.now in
    let l = c.loop-step in
    let m = some_at nodes l.at l.invariant.there in
    let n = some_at nodes a.last c.requires.last in
    let end = c.depth-step-end.ensures n.0 n.1 in
    let deep = l.invariant.deep m.0 n.0 m.1 n.1 in
    let from = comes shape specification turns nodes c.requires.linked l.at m.0 m.1 (omega (arith, end, deep, c.loop-step-test.true)) in
    let e = from.earlier in
    let at : slice_get nodes c.from-from.result ≡ Some e = ap (slice_get nodes) (c.from-from.ensures m.0 m.1) ∙ from.there in
    let good = each_got (IsGood shape (g.M.Machine.right a.machine.now)) nodes c.from-from.result e c.requires.nodes at in
    subst (IsStateOf shape) (sym (c.in_ok-earlier.ensures e at)) good.kept

pub choices_between-requires-clause-to : goal.choices_between-requires-clause-to
choices_between-requires-clause-to g c =
    let a = c.args in
    let shape = g.M.Machine.shape a.machine.now in
    let specification = g.M.Machine.specification a.machine.now in
    let turns = g.M.Machine.turns a.machine.now in
    let within = g.M.Machine.within a.machine.now in
    let nodes = a.nodes.now in
    let l = c.loop-step in
    let m = some_at nodes l.at l.invariant.there in
    let n = some_at nodes a.last c.requires.last in
    let end = c.depth-step-end.ensures n.0 n.1 in
    let deep = l.invariant.deep m.0 n.0 m.1 n.1 in
    let good = each_got (IsGood shape (g.M.Machine.right a.machine.now)) nodes l.at m.0 c.requires.nodes m.1 in
    subst (IsStateOf shape) (sym (c.in_ok-to.ensures m.0 m.1)) good.kept

pub unreachable-requires : goal.unreachable-requires
unreachable-requires g c =
    let a = c.args in
    let shape = g.M.Machine.shape a.machine.now in
    let specification = g.M.Machine.specification a.machine.now in
    let turns = g.M.Machine.turns a.machine.now in
    let within = g.M.Machine.within a.machine.now in
    let nodes = a.nodes.now in
    let l = c.loop-step in
    let m = some_at nodes l.at l.invariant.there in
    let n = some_at nodes a.last c.requires.last in
    let end = c.depth-step-end.ensures n.0 n.1 in
    let deep = l.invariant.deep m.0 n.0 m.1 n.1 in
    let from = comes shape specification turns nodes c.requires.linked l.at m.0 m.1 (omega (arith, end, deep, c.loop-step-test.true)) in
    let e = from.earlier in
    let at : slice_get nodes c.from-from.result ≡ Some e = ap (slice_get nodes) (c.from-from.ensures m.0 m.1) ∙ from.there in
    let none : MayLead shape specification turns (state_of shape c.in_ok-earlier.earlier) (state_of shape c.in_ok-to.to) → ⊥ =
    subst (λ o. IfNone o (MayLead shape specification turns (state_of shape c.in_ok-earlier.earlier) (state_of shape c.in_ok-to.to) → ⊥)) c.in_default.is c.in_ok-choices.ensures.none in
    none (subst (λ xs. MayLead shape specification turns (state_of shape xs) (state_of shape c.in_ok-to.to)) (sym (c.in_ok-earlier.ensures e at))
    (subst (λ xs. MayLead shape specification turns (state_at shape e) (state_of shape xs)) (sym (c.in_ok-to.ensures m.0 m.1)) from.leads))

pub loop-step-preserved : goal.loop-step-preserved
loop-step-preserved g c =
    let a = c.args in
    let shape = g.M.Machine.shape a.machine.now in
    let specification = g.M.Machine.specification a.machine.now in
    let turns = g.M.Machine.turns a.machine.now in
    let within = g.M.Machine.within a.machine.now in
    let nodes = a.nodes.now in
    let l = c.loop-step in
    let m = some_at nodes l.at l.invariant.there in
    let n = some_at nodes a.last c.requires.last in
    let end = c.depth-step-end.ensures n.0 n.1 in
    let deep = l.invariant.deep m.0 n.0 m.1 n.1 in
    let from = comes shape specification turns nodes c.requires.linked l.at m.0 m.1 (omega (arith, end, deep, c.loop-step-test.true)) in
    let e = from.earlier in
    let at : slice_get nodes c.from-from.result ≡ Some e = ap (slice_get nodes) (c.from-from.ensures m.0 m.1) ∙ from.there in
    let some : LeadBetween specification turns (state_of shape c.in_ok-earlier.earlier) (state_of shape c.in_ok-to.to) c.in-Some.choices.items =
    subst (λ o. IfSome o (λ cs. LeadBetween specification turns (state_of shape c.in_ok-earlier.earlier) (state_of shape c.in_ok-to.to) cs.items)) c.in-Some.is c.in_ok-choices.ensures.some in
    let between : LeadBetween specification turns (state_at shape e) (state_at shape m.0) c.in-Some.choices.items =
    subst (λ xs. LeadBetween specification turns (state_of shape xs) (state_at shape m.0) c.in-Some.choices.items) (c.in_ok-earlier.ensures e at)
    (subst (λ xs. LeadBetween specification turns (state_of shape c.in_ok-earlier.earlier) (state_of shape xs) c.in-Some.choices.items) (c.in_ok-to.ensures m.0 m.1) some) in
    record {
      there = slice_get_within nodes c.from-from.result e at;
      leads = λ back k p here last to.
          subst (LeadTo specification turns within (state_at shape p)) (leads_back l.trail.items c.push.new.self.items c.in-Some.choices back c.in_ok-push.ensures.items)
          (l.invariant.leads (c.in-Some.choices.items ∷ back) m.0 p m.1 last
          (state_at shape e, subst (λ (x : Node). LeadTo specification turns within (state_at shape x) back) (same_node nodes c.from-from.result k e here at) to, c.requires.inside l.at m.0 e m.1 (omega (arith, from.deeper)) from.there, between));
      count = ap length c.in_ok-push.ensures.items ∙ length-append l.trail.items (c.in-Some.choices ∷ []) ∙ ap (λ i. i + 1) l.invariant.count;
      deep = λ k p here last.
          omega (arith, l.invariant.deep m.0 p m.1 last, from.deeper, ap (λ (x : Node). x.depth) (same_node nodes c.from-from.result k e here at));
    }

pub returns-clause-leads : goal.returns-clause-leads
returns-clause-leads g c = λ p last.
    let a = c.args in
    let shape = g.M.Machine.shape a.machine.now in
    let specification = g.M.Machine.specification a.machine.now in
    let turns = g.M.Machine.turns a.machine.now in
    let within = g.M.Machine.within a.machine.now in
    let nodes = a.nodes.now in
    let l = c.loop-step in
    let m = some_at nodes l.at l.invariant.there in
    let n = some_at nodes a.last c.requires.last in
    let end = c.depth-step-end.ensures n.0 n.1 in
    let deep = l.invariant.deep m.0 n.0 m.1 n.1 in
    let first = is_first shape specification turns nodes c.requires.linked l.at m.0 m.1 (omega (arith, end, deep, c.loop-step-test.false)) in
    subst (LeadTo specification turns within (state_at shape p)) (append-nil (map (λ cs. cs.items) l.trail.items)) (l.invariant.leads [] m.0 p m.1 last first)

pub returns-in_err-choices-clause-crowded : goal.returns-in_err-choices-clause-crowded
returns-in_err-choices-clause-crowded g c =
    let a = c.args in
    let shape = g.M.Machine.shape a.machine.now in
    let specification = g.M.Machine.specification a.machine.now in
    let turns = g.M.Machine.turns a.machine.now in
    let within = g.M.Machine.within a.machine.now in
    let nodes = a.nodes.now in
    let l = c.loop-step in
    let m = some_at nodes l.at l.invariant.there in
    let n = some_at nodes a.last c.requires.last in
    let end = c.depth-step-end.ensures n.0 n.1 in
    let deep = l.invariant.deep m.0 n.0 m.1 n.1 in
    let from = comes shape specification turns nodes c.requires.linked l.at m.0 m.1 (omega (arith, end, deep, c.loop-step-test.true)) in
    let e = from.earlier in
    let at : slice_get nodes c.from-from.result ≡ Some e = ap (slice_get nodes) (c.from-from.ensures m.0 m.1) ∙ from.there in
    let crowds = IsOverLimitOf (g.M.Machine.made a.machine.now) (g.M.Machine.limit a.machine.now) in
    let said : RuleOverLimit → Type 0 = λ crowd. (n : Node) → slice_get nodes a.last ≡ Some n → (number : ℕ) × AtNode shape crowds nodes number n.depth crowd in
    full_on (HaltsSo ⊥ said) c.choices_between.result c.from_residual-in_err-choices.result c.in_err-choices.field-0.0 c.in_err-choices.was c.from_residual-in_err-choices.ensures.1
    (errs_weaker ⊥ ⊥ (crowds (state_of shape c.in_ok-earlier.earlier)) said c.choices_between.result (λ none. none)
    (λ crowd so k last. (
      c.from-from.result,
      (
        e,
        at,
        omega (arith, end, deep, from.deeper, c.loop-step-test.true, ap (λ (n : Node). n.depth) (same_node nodes a.last n.0 k n.1 last)),
        subst (λ xs. crowds (state_of shape xs) crowd) (c.in_ok-earlier.ensures e at) so,
      ),
    )) c.choices_between.ensures.crowded)
