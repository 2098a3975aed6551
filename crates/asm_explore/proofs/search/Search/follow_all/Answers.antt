use Rattle.std.proofs.Common.{◌≡◌, ◌∙◌, ap, sym, subst, arith}
use Rattle.std.specs.Prelude.{Some, IfNone, IfSome, slice_get}
use Rattle.std.proofs.lemmas.Option.{slice_get-get_or}
use Rattle.asm_meaning.specs.Yields.{Result}
use Rattle.asm_explore.specs.code.PackedNodes.{Node}
use Rattle.asm_explore.specs.code.OutcomeLists.{Shows}
use Rattle.asm_explore.specs.code.ChoicePaths.{HaveOwnPaths}
use Rattle.asm_explore.specs.code.ReachedStates.{IsOutcome, IsBadStep, Known, state_at}
use Rattle.asm_explore.specs.Search.{LeadsOn}
use Rattle.asm_explore.proofs.OutcomeLemmas.ListLemmas.{each_at}
use Rattle.asm_explore.proofs.StateLemmas.AddedNodes.{can_more, more_added, added_ok, added_on}
use Rattle.asm_explore.proofs.StateLemmas.MoreNodes.{begun_none, begun_both, extends_none, extends_both, outcome_more, bad_step_less, follows_none, follows_more, follows_all}
use Rattle.asm_explore.proofs.search.Search.follow_all.Goals as goal

pub loop-k-init : goal.loop-k-init
loop-k-init g c =
    let a = c.args in
    let shape = g.M.Machine.shape a.self.now.machine.now in
    let specification = g.M.Machine.specification a.self.now.machine.now in
    let turns = g.M.Machine.turns a.self.now.machine.now in
    let right = g.M.Machine.right a.self.now.machine.now in
    record {
      begun = begun_none a.from a.reached.now.nodes;
      room = c.requires.ready.room;
      extends = extends_none shape specification turns right a.below a.reached.now.nodes;
      follows = follows_none shape specification turns right a.reached.now.nodes a.from a.below a.outcomes.now a.reached.now.nodes;
    }

pub follow-requires-clause-outcome : goal.follow-requires-clause-outcome
follow-requires-clause-outcome g c =
    let a = c.args in
    let l = c.loop-k in
    let shape = g.M.Machine.shape a.self.now.machine.now in
    let specification = g.M.Machine.specification a.self.now.machine.now in
    let turns = g.M.Machine.turns a.self.now.machine.now in
    let right = g.M.Machine.right a.self.now.machine.now in
    let f = c.index-outcomes-k.result in
    outcome_more shape specification turns right a.below a.reached.now.nodes l.reached.nodes l.invariant.extends a.from f c.requires.ready.from
    (each_at (IsOutcome shape specification turns a.reached.now.nodes a.from a.below) a.outcomes.now l.k f c.loop-k-test.true c.index-outcomes-k.is c.requires.sound)

pub loop-k-preserved : goal.loop-k-preserved
loop-k-preserved g c =
    let a = c.args in
    let l = c.loop-k in
    let shape = g.M.Machine.shape a.self.now.machine.now in
    let specification = g.M.Machine.specification a.self.now.machine.now in
    let turns = g.M.Machine.turns a.self.now.machine.now in
    let right = g.M.Machine.right a.self.now.machine.now in
    let f = c.index-outcomes-k.result in
    record {
      begun = begun_both shape specification turns right a.below a.from a.reached.now.nodes l.reached.nodes c.follow.new.reached.nodes c.in_ok-fault.ensures.adds.extends l.invariant.begun c.in_ok-fault.ensures.adds.begun;
      room = c.in_ok-fault.ensures.adds.room;
      extends = extends_both shape specification turns right a.below a.reached.now.nodes l.reached.nodes c.follow.new.reached.nodes l.invariant.extends c.in_ok-fault.ensures.adds.extends;
      follows = follows_more shape specification turns right a.reached.now.nodes a.from a.below a.outcomes.now l.k f l.reached.nodes c.follow.new.reached.nodes
          c.loop-k-test.true c.index-outcomes-k.is l.invariant.extends c.in_ok-fault.ensures.adds.extends
          (subst (λ o. IfNone o ((n : Node) (r : Result) → slice_get l.reached.nodes a.from ≡ Some n → Shows shape f.answer r → LeadsOn r (state_at shape n) (Known shape c.follow.new.reached.nodes a.below))) c.in_default.is
          c.in_ok-fault.ensures.leads) l.invariant.follows;
    }

pub returns-in-Some-clause-adds : goal.returns-in-Some-clause-adds
returns-in-Some-clause-adds g c =
    let a = c.args in
    let l = c.loop-k in
    let shape = g.M.Machine.shape a.self.now.machine.now in
    let specification = g.M.Machine.specification a.self.now.machine.now in
    let turns = g.M.Machine.turns a.self.now.machine.now in
    let right = g.M.Machine.right a.self.now.machine.now in
    added_ok shape specification turns right a.from a.self.now.limit a.below a.reached.now.nodes c.follow.new.reached.nodes c.follow.result
    (more_added shape specification turns right a.from a.self.now.limit a.below a.reached.now.nodes l.reached.nodes c.follow.new.reached.nodes c.follow.result l.invariant.extends l.invariant.begun c.follow.ensures.adds) _

pub returns-in_err-fault-clause-adds : goal.returns-in_err-fault-clause-adds
returns-in_err-fault-clause-adds g c =
    let a = c.args in
    let l = c.loop-k in
    let shape = g.M.Machine.shape a.self.now.machine.now in
    let specification = g.M.Machine.specification a.self.now.machine.now in
    let turns = g.M.Machine.turns a.self.now.machine.now in
    let right = g.M.Machine.right a.self.now.machine.now in
    added_on shape specification turns right a.from a.self.now.limit a.below a.reached.now.nodes c.follow.new.reached.nodes c.follow.result
    (more_added shape specification turns right a.from a.self.now.limit a.below a.reached.now.nodes l.reached.nodes c.follow.new.reached.nodes c.follow.result l.invariant.extends l.invariant.begun c.follow.ensures.adds)
    c.from_residual.result c.in_err-fault.field-0.0 c.in_err-fault.was c.from_residual.ensures.1

pub returns-in-Some-clause-wrong : goal.returns-in-Some-clause-wrong
returns-in-Some-clause-wrong g c =
    let a = c.args in
    let l = c.loop-k in
    let f = c.index-outcomes-k.result in (
      f,
      slice_get-get_or a.outcomes.now l.k f c.loop-k-test.true ∙ ap Some (sym c.index-outcomes-k.is),
      bad_step_less (g.M.Machine.shape a.self.now.machine.now) (g.M.Machine.specification a.self.now.machine.now) (g.M.Machine.turns a.self.now.machine.now) (g.M.Machine.right a.self.now.machine.now) a.below
          a.reached.now.nodes l.reached.nodes l.invariant.extends (g.M.Machine.rests a.self.now.machine.now) a.from f.choices c.in-Some.fault c.requires.ready.from
          (subst (λ o. IfSome o (IsBadStep (g.M.Machine.shape a.self.now.machine.now) (g.M.Machine.specification a.self.now.machine.now) (g.M.Machine.turns a.self.now.machine.now) (g.M.Machine.right a.self.now.machine.now) (g.M.Machine.rests a.self.now.machine.now) l.reached.nodes a.from f.choices)) c.in-Some.is c.in_ok-fault.ensures.wrong),
    )

pub returns-clause-adds : goal.returns-clause-adds
returns-clause-adds g c =
    let l = c.loop-k in
    record { extends = l.invariant.extends; begun = l.invariant.begun; room = l.invariant.room; full = tt }

pub returns-clause-leads : goal.returns-clause-leads
returns-clause-leads g c =
    let a = c.args in
    let l = c.loop-k in
    follows_all (g.M.Machine.shape a.self.now.machine.now) (g.M.Machine.specification a.self.now.machine.now) (g.M.Machine.turns a.self.now.machine.now) (g.M.Machine.right a.self.now.machine.now)
    a.reached.now.nodes a.from a.below a.outcomes.now l.k l.reached.nodes (omega arith) l.invariant.follows

pub follow-requires-clause-ready : goal.follow-requires-clause-ready
follow-requires-clause-ready g c =
    let a = c.args in
    let l = c.loop-k in
    can_more (g.M.Machine.shape a.self.now.machine.now) (g.M.Machine.specification a.self.now.machine.now) (g.M.Machine.turns a.self.now.machine.now) (g.M.Machine.right a.self.now.machine.now) a.from a.self.now.limit a.below a.reached.now.nodes l.reached.nodes l.invariant.extends l.invariant.room c.requires.ready

pub follow-requires-clause-apart : goal.follow-requires-clause-apart
follow-requires-clause-apart g c =
    each_at (λ f. HaveOwnPaths f.choices) c.args.outcomes.now c.loop-k.k c.index-outcomes-k.result c.loop-k-test.true c.index-outcomes-k.is c.requires.apart
