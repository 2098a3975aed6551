use Rattle.std.proofs.Common.{◌≡◌, ◌+◌, ◌∙◌, ◌++◌, ◌∷◌, [], take, ap, sym, subst, arith}
use Rattle.std.specs.Prelude.{Some}
use Rattle.std.proofs.lemmas.List.{take_all, take_more}
use Rattle.std.proofs.lemmas.Option.{slice_get-get_or}
use Rattle.asm_state.specs.Signature.{state_of}
use Rattle.asm_explore.specs.RunChoices.{chosen_from}
use Rattle.asm_explore.specs.code.OutcomeLists.{AnyOf}
use Rattle.asm_graph.specs.declared.graph.Edge.{Edge}
use Rattle.asm_graph.specs.declared.graph.EdgeEnd.TheVariants as target
use Rattle.asm_graph.specs.Graphs.{Pairs, along}
use Rattle.asm_graph.specs.code.GraphSoFar.{AreNew, IsFollowed}
use Rattle.asm_graph.specs.code.ResolvedMachines.{rests_in, right_in, shape_in, specification_in, within_in}
use Rattle.asm_graph.proofs.MoreNodes.{followed_more, grown_shallow, grows_both, grows_none, new_both, none_new}
use Rattle.asm_graph.proofs.Outcomes.{edges_are, edges_near, outcome_at}
use Rattle.asm_graph.proofs.Paired.{any_first, any_last, pairs_push, pairs_weaker}
use Rattle.asm_graph.proofs.build_graph.Walk.edges_from.Goals as goal

pub loop-k-init : goal.loop-k-init
loop-k-init c =
    let a = c.args in
    let shape = shape_in a.self.now.machine.now in
    let specification = specification_in a.self.now.machine.now in
    let turns = a.self.now.machine.now.turns in
    let within = within_in a.self.now.machine.now in
    let right = right_in a.self.now.machine.now in
    let rests = rests_in a.self.now.machine.now in
    record {
      grows = grows_none shape specification turns within right rests a.self.now.steps a.self.now.most (a.depth + 1) a.nodes.now.items c.requires.nodes;
      follow = subst (Pairs (IsFollowed shape specification turns a.nodes.now.items (state_of shape a.from.now) (a.depth + 1)) []) (sym c.new-edges.ensures.items) tt;
      new = none_new a.nodes.now.items (λ i. AnyOf (λ (e : Edge). e.to ≡ target.Node i) c.new-edges.result.items);
    }

pub follow-requires-clause-one : goal.follow-requires-clause-one
follow-requires-clause-one c =
    let a = c.args in
    let shape = shape_in a.self.now.machine.now in
    let specification = specification_in a.self.now.machine.now in
    let turns = a.self.now.machine.now.turns in
    let within = within_in a.self.now.machine.now in
    let right = right_in a.self.now.machine.now in
    let rests = rests_in a.self.now.machine.now in
    let k = c.loop-k.k in
    let one = c.index-outcomes-k.result in
    outcome_at shape specification turns (state_of shape a.from.now) a.outcomes.now c.requires.step k one
    (slice_get-get_or a.outcomes.now k one c.loop-k-test.true ∙ ap Some (sym c.index-outcomes-k.is))

pub loop-k-preserved : goal.loop-k-preserved
loop-k-preserved c =
    let a = c.args in
    let shape = shape_in a.self.now.machine.now in
    let specification = specification_in a.self.now.machine.now in
    let turns = a.self.now.machine.now.turns in
    let within = within_in a.self.now.machine.now in
    let right = right_in a.self.now.machine.now in
    let rests = rests_in a.self.now.machine.now in
    let l = c.loop-k in
    let A = state_of shape a.from.now in
    let one = c.index-outcomes-k.result in
    let edge : Edge = record { choices = c.in_ok-made.made; to = c.in_ok-to.to } in
    let grows = c.in_ok-to.ensures.grows in
    let new = c.follow.new.nodes.items in
    let P = IsFollowed shape specification turns new A (a.depth + 1) in
    let first : take (l.k + 1) a.outcomes.now ≡ take l.k a.outcomes.now ++ one ∷ [] =
    take_more a.outcomes.now l.k one c.loop-k-test.true ∙ ap (λ x. take l.k a.outcomes.now ++ x ∷ []) (sym c.index-outcomes-k.is) in
    record {
      grows = grows_both shape specification turns within right rests a.self.now.steps a.self.now.most (a.depth + 1) a.nodes.now.items l.nodes.items new l.invariant.grows grows;
      follow = subst (λ xs. Pairs P xs c.push.new.self.items) (sym first)
          (subst (Pairs P (take l.k a.outcomes.now ++ one ∷ [])) (sym c.in_ok-push.ensures.items)
          (pairs_push P (take l.k a.outcomes.now) l.edges.items one edge
          (pairs_weaker (IsFollowed shape specification turns l.nodes.items A (a.depth + 1)) P (λ f e. followed_more l.nodes.items grows.more new grows.is shape specification turns A (a.depth + 1) f e) (take l.k a.outcomes.now) l.edges.items l.invariant.follow)
          (record { choices = c.in_ok-made.ensures ∙ ap (λ cs. chosen_from specification turns A (along cs)) (c.as_slice.ensures.value ∙ c.in_ok-choices.ensures); goes = c.in_ok-to.ensures.goes; near = c.in_ok-to.ensures.near })));
      new = subst (λ es. AreNew a.nodes.now.items new (λ i. AnyOf (λ (e : Edge). e.to ≡ target.Node i) es)) (sym c.in_ok-push.ensures.items)
          (new_both a.nodes.now.items l.nodes.items new (λ i. AnyOf (λ (e : Edge). e.to ≡ target.Node i) (l.edges.items ++ edge ∷ []))
          (λ i past low. any_first (λ (e : Edge). e.to ≡ target.Node i) l.edges.items (edge ∷ []) (l.invariant.new i past low))
          (λ i past low. any_last (λ (e : Edge). e.to ≡ target.Node i) l.edges.items edge (c.in_ok-to.ensures.new i past low)));
    }

pub returns-clause-edges : goal.returns-clause-edges
returns-clause-edges c =
    let a = c.args in
    let shape = shape_in a.self.now.machine.now in
    let specification = specification_in a.self.now.machine.now in
    let turns = a.self.now.machine.now.turns in
    let within = within_in a.self.now.machine.now in
    let right = right_in a.self.now.machine.now in
    let rests = rests_in a.self.now.machine.now in
    let l = c.loop-k in
    let A = state_of shape a.from.now in
    edges_are shape specification turns A a.outcomes.now c.requires.step l.nodes.items (a.depth + 1) l.edges.items
    (subst (λ xs. Pairs (IsFollowed shape specification turns l.nodes.items A (a.depth + 1)) xs l.edges.items) (take_all l.k a.outcomes.now (omega arith)) l.invariant.follow)
    c.script_law.ensures.makes c.making_laws.ensures c.told_outcomes.ensures

pub returns-clause-near : goal.returns-clause-near
returns-clause-near c =
    let a = c.args in
    let shape = shape_in a.self.now.machine.now in
    let specification = specification_in a.self.now.machine.now in
    let turns = a.self.now.machine.now.turns in
    let within = within_in a.self.now.machine.now in
    let right = right_in a.self.now.machine.now in
    let rests = rests_in a.self.now.machine.now in
    let l = c.loop-k in
    let A = state_of shape a.from.now in
    edges_near shape specification turns A a.outcomes.now c.requires.step l.nodes.items (a.depth + 1) l.edges.items
    (subst (λ xs. Pairs (IsFollowed shape specification turns l.nodes.items A (a.depth + 1)) xs l.edges.items) (take_all l.k a.outcomes.now (omega arith)) l.invariant.follow)

pub follow-requires-clause-near : goal.follow-requires-clause-near
follow-requires-clause-near c =
    let a = c.args in
    let shape = shape_in a.self.now.machine.now in
    let specification = specification_in a.self.now.machine.now in
    let turns = a.self.now.machine.now.turns in
    let within = within_in a.self.now.machine.now in
    let right = right_in a.self.now.machine.now in
    let rests = rests_in a.self.now.machine.now in
    grown_shallow shape specification turns within right rests a.self.now.steps a.self.now.most (a.depth + 1) a.nodes.now.items c.loop-k.nodes.items c.loop-k.invariant.grows c.requires.near
