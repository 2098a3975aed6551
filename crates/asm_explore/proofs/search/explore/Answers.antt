use Rattle.std.proofs.Common.{◌+◌, ◌≤◌, ◌≡◌, sym, subst, ap, ◌∙◌, arith}
use Rattle.std.specs.Prelude.{Some}
use Rattle.asm_state.specs.code.Contents.{IsStateOf}
use Rattle.asm_explore.specs.ExplorationResults.{beyond, known_to}
use Rattle.asm_explore.specs.code.Deadlocks.{safe_of}
use Rattle.asm_explore.specs.ListElements.{Each}
use Rattle.asm_explore.specs.code.PackedNodes.{Node}
use Rattle.asm_explore.specs.code.ReachedStates.{IsGood}
use Rattle.asm_explore.specs.declared.search_result.SearchEnd.TheVariants as ended
use Rattle.asm_explore.specs.code.StepOutcomes.{IsOverLimitOf}
use Rattle.asm_explore.specs.Search.{IsDeadlock}
use Rattle.asm_explore.proofs.OutcomeLemmas.ListLemmas.{each_weaker}
use Rattle.asm_explore.proofs.SearchEnds.{at_limit_done, closed_done}
use Rattle.asm_explore.proofs.StateLemmas.Batches.{same_node}
use Rattle.asm_explore.proofs.StateLemmas.LastStates.{beyond_told, ends_crowded, ends_deep, ends_outranked, ends_safe, ends_wrong}
use Rattle.asm_explore.proofs.StateLemmas.MoreNodes.{looked_whole, looked_done, search_covers, closure_covers, holds_before, holds_always}
use Rattle.asm_explore.proofs.StateLemmas.QuietNodes.{alive_whole, alive_all, first_quiet}
use Rattle.asm_explore.proofs.StateLemmas.LookedStates.{known_told, looks_through}
use Rattle.asm_explore.proofs.search.explore.Goals as goal

pub deadlocks_at-deadlocks-requires-clause-nodes : goal.deadlocks_at-deadlocks-requires-clause-nodes
deadlocks_at-deadlocks-requires-clause-nodes g c =
    let shape = g.M.Machine.shape c.args.machine.now in
    each_weaker (IsGood shape (g.M.Machine.right c.args.machine.now)) (λ n. IsStateOf shape n.state) (λ n good. good.kept) c.look-nodes.result.nodes c.look-nodes.ensures.stopped.so_far.good

pub returns-clause-safe : goal.returns-clause-safe
returns-clause-safe g c =
    let a = c.args in
    let shape = g.M.Machine.shape a.machine.now in
    let specification = g.M.Machine.specification a.machine.now in
    let turns = g.M.Machine.turns a.machine.now in
    let right = g.M.Machine.right a.machine.now in
    let rests = g.M.Machine.rests a.machine.now in
    let within = g.M.Machine.within a.machine.now in
    let nodes = c.look-nodes.result.nodes in
    let i = c.look-nodes.result.so_far.expanded in
    let whole = c.whole_depth-whole.result in
    search_covers shape specification turns right within whole nodes
    (looked_whole shape specification turns right within a.steps i whole nodes c.whole_depth-whole.ensures.low c.whole_depth-whole.ensures.least c.look-nodes.ensures.stopped.so_far)

pub returns-clause-closed : goal.returns-clause-closed
returns-clause-closed g c = λ shut.
    let a = c.args in
    let closed = c.settle-end.ensures.closed shut in
    let shape = g.M.Machine.shape a.machine.now in
    let specification = g.M.Machine.specification a.machine.now in
    let turns = g.M.Machine.turns a.machine.now in
    let right = g.M.Machine.right a.machine.now in
    let rests = g.M.Machine.rests a.machine.now in
    let within = g.M.Machine.within a.machine.now in
    let looked = c.look-nodes.ensures.stopped in
    let nodes = c.look-nodes.result.nodes in
    let i = c.look-nodes.result.so_far.expanded in
    let all = looked.all (closed_done c.look-nodes.result.so_far.ended closed) in
    closure_covers shape specification turns right within a.steps nodes
    (looked_done shape specification turns right within a.steps i nodes (omega (arith, all)) looked.so_far) (looked.closed closed)

pub returns-clause-alive : goal.returns-clause-alive
returns-clause-alive g c =
    let a = c.args in
    let shape = g.M.Machine.shape a.machine.now in
    let specification = g.M.Machine.specification a.machine.now in
    let turns = g.M.Machine.turns a.machine.now in
    let right = g.M.Machine.right a.machine.now in
    let rests = g.M.Machine.rests a.machine.now in
    let within = g.M.Machine.within a.machine.now in
    let looked = c.look-nodes.ensures.stopped in
    let rested = c.look-nodes.ensures.rests in
    let nodes = c.look-nodes.result.nodes in
    let quiet = c.look-nodes.new.quiet.items in
    let i = c.look-nodes.result.so_far.expanded in
    let whole = c.whole_depth-whole.result in
    let ends = c.whole_depth-whole.ensures in
    holds_before shape specification turns right within whole nodes (looked_whole shape specification turns right within a.steps i whole nodes ends.low ends.least looked.so_far)
    (λ A. ¬ (IsDeadlock specification turns rests A)) (alive_whole shape specification turns rests within a.steps i whole nodes quiet ends.low ends.least rested)

pub returns-clause-always_alive : goal.returns-clause-always_alive
returns-clause-always_alive g c = λ shut.
    let a = c.args in
    let closed = c.settle-end.ensures.closed shut in
    let shape = g.M.Machine.shape a.machine.now in
    let specification = g.M.Machine.specification a.machine.now in
    let turns = g.M.Machine.turns a.machine.now in
    let right = g.M.Machine.right a.machine.now in
    let rests = g.M.Machine.rests a.machine.now in
    let within = g.M.Machine.within a.machine.now in
    let looked = c.look-nodes.ensures.stopped in
    let rested = c.look-nodes.ensures.rests in
    let nodes = c.look-nodes.result.nodes in
    let quiet = c.look-nodes.new.quiet.items in
    let i = c.look-nodes.result.so_far.expanded in
    let all = looked.all (closed_done c.look-nodes.result.so_far.ended closed) in
    holds_always shape specification turns right within a.steps nodes (looked_done shape specification turns right within a.steps i nodes (omega (arith, all)) looked.so_far) (looked.closed closed)
    (λ A. ¬ (IsDeadlock specification turns rests A)) (alive_all shape specification turns rests within a.steps i nodes quiet (omega (arith, all)) rested)

pub returns-clause-through : goal.returns-clause-through
returns-clause-through g c =
    let a = c.args in
    let shape = g.M.Machine.shape a.machine.now in
    let specification = g.M.Machine.specification a.machine.now in
    let turns = g.M.Machine.turns a.machine.now in
    let rests = g.M.Machine.rests a.machine.now in
    let within = g.M.Machine.within a.machine.now in
    let looked = c.look-nodes.ensures.stopped in
    let ends = c.whole_depth-whole.ensures in
    looks_through shape specification turns rests within a.steps (g.M.Machine.right a.machine.now) c.look-nodes.result.so_far.expanded c.whole_depth-whole.result c.look-nodes.result.nodes
    c.look-nodes.new.quiet.items (c.settle-end.result.ended ≡ ended.Closed) ends.low ends.least looked.so_far c.look-nodes.ensures.rests
    (λ shut.
    let closed = c.settle-end.ensures.closed shut in
    (omega (arith, looked.all (closed_done c.look-nodes.result.so_far.ended closed)), looked.closed closed))

pub returns-clause-known : goal.returns-clause-known
returns-clause-known g c = subst (λ safe. known_to safe ≤ c.whole_depth-whole.result) (sym c.settle-end.ensures.safe) (known_told c.whole_depth-whole.result c.deadlocks_at-deadlocks.result)

pub returns-clause-near : goal.returns-clause-near
returns-clause-near g c = λ full.
    let at = c.look-nodes.ensures.stopped.near (c.settle-end.ensures.full full) in
    subst (λ d. Each (λ (m : Node). m.depth ≤ d + 1) c.look-nodes.result.nodes) (sym (c.whole_depth-whole.ensures.next at.0 at.1 at.2)) at.3

pub returns-clause-first_quiet : goal.returns-clause-first_quiet
returns-clause-first_quiet g c =
    let a = c.args in
    let shape = g.M.Machine.shape a.machine.now in
    let specification = g.M.Machine.specification a.machine.now in
    let turns = g.M.Machine.turns a.machine.now in
    let right = g.M.Machine.right a.machine.now in
    let rests = g.M.Machine.rests a.machine.now in
    let within = g.M.Machine.within a.machine.now in
    let looked = c.look-nodes.ensures.stopped in
    let rested = c.look-nodes.ensures.rests in
    let nodes = c.look-nodes.result.nodes in
    let quiet = c.look-nodes.new.quiet.items in
    let i = c.look-nodes.result.so_far.expanded in
    first_quiet shape specification turns rests within a.steps right i nodes quiet looked.so_far rested

pub returns-clause-at_limit : goal.returns-clause-at_limit
returns-clause-at_limit g c = λ is.
    let at = c.settle-end.ensures.at_limit is in
    let all = c.look-nodes.ensures.stopped.all (at_limit_done c.look-nodes.result.so_far.ended at.0) in
    let most = c.whole_depth-whole.ensures.none (omega (arith, all)) in
    (most, c.settle-end.ensures.safe ∙ ap (safe_of c.whole_depth-whole.result) at.1 ∙ ap (λ n. Some n) most)

pub returns-clause-settled : goal.returns-clause-settled
returns-clause-settled g c =
    let a = c.args in
    let shape = g.M.Machine.shape a.machine.now in
    let specification = g.M.Machine.specification a.machine.now in
    let turns = g.M.Machine.turns a.machine.now in
    let crowds = IsOverLimitOf (g.M.Machine.made a.machine.now) (g.M.Machine.limit a.machine.now) in
    let right = g.M.Machine.right a.machine.now in
    let rests = g.M.Machine.rests a.machine.now in
    let within = g.M.Machine.within a.machine.now in
    let looked = c.look-nodes.ensures.stopped in
    let nodes = c.look-nodes.result.nodes in
    let i = c.look-nodes.result.so_far.expanded in
    let whole = c.whole_depth-whole.result in
    let ends = c.whole_depth-whole.ensures in
    let left = c.first_left-first in
    ends_safe specification turns crowds a.steps a.limit right rests within shape nodes left.result i whole c.look-nodes.new.quiet.items ends.low
    (left.ensures.less, left.ensures.most) ends.least looked.so_far c.look-nodes.ensures.rests c.deadlocks_at-deadlocks.result c.deadlocks_at-deadlocks.ensures
    c.look-nodes.result.so_far.ended c.settle-end.result c.settle-end.ensures

pub returns-clause-beyond : goal.returns-clause-beyond
returns-clause-beyond g c = subst (λ safe. c.whole_depth-whole.result ≤ beyond safe) (sym c.settle-end.ensures.safe) (beyond_told c.whole_depth-whole.result c.deadlocks_at-deadlocks.result)

pub returns-clause-outranked : goal.returns-clause-outranked
returns-clause-outranked g c =
    let a = c.args in
    let shape = g.M.Machine.shape a.machine.now in
    let specification = g.M.Machine.specification a.machine.now in
    let turns = g.M.Machine.turns a.machine.now in
    let crowds = IsOverLimitOf (g.M.Machine.made a.machine.now) (g.M.Machine.limit a.machine.now) in
    let right = g.M.Machine.right a.machine.now in
    let rests = g.M.Machine.rests a.machine.now in
    let within = g.M.Machine.within a.machine.now in
    let looked = c.look-nodes.ensures.stopped in
    let nodes = c.look-nodes.result.nodes in
    let i = c.look-nodes.result.so_far.expanded in
    let whole = c.whole_depth-whole.result in
    let ends = c.whole_depth-whole.ensures in
    let left = c.first_left-first in
    ends_outranked specification turns crowds a.steps a.limit right rests within shape nodes left.result i whole c.look-nodes.new.quiet.items ends.low
    (left.ensures.less, left.ensures.most) ends.least looked.so_far c.look-nodes.ensures.rests c.deadlocks_at-deadlocks.result c.deadlocks_at-deadlocks.ensures
    c.look-nodes.result.so_far.ended c.settle-end.result c.settle-end.ensures

pub returns-clause-wrong : goal.returns-clause-wrong
returns-clause-wrong g c =
    let a = c.args in
    let shape = g.M.Machine.shape a.machine.now in
    let specification = g.M.Machine.specification a.machine.now in
    let turns = g.M.Machine.turns a.machine.now in
    let crowds = IsOverLimitOf (g.M.Machine.made a.machine.now) (g.M.Machine.limit a.machine.now) in
    let right = g.M.Machine.right a.machine.now in
    let rests = g.M.Machine.rests a.machine.now in
    let within = g.M.Machine.within a.machine.now in
    let looked = c.look-nodes.ensures.stopped in
    let nodes = c.look-nodes.result.nodes in
    let i = c.look-nodes.result.so_far.expanded in
    let whole = c.whole_depth-whole.result in
    let ends = c.whole_depth-whole.ensures in
    let left = c.first_left-first in
    ends_wrong specification turns crowds a.steps a.limit right rests within shape nodes left.result i whole c.look-nodes.new.quiet.items ends.low
    (left.ensures.less, left.ensures.most) ends.least looked.so_far c.look-nodes.ensures.rests c.deadlocks_at-deadlocks.result c.deadlocks_at-deadlocks.ensures
    c.look-nodes.result.so_far.ended c.settle-end.result c.settle-end.ensures looked.wrong

pub returns-clause-deep : goal.returns-clause-deep
returns-clause-deep g c =
    let a = c.args in
    let shape = g.M.Machine.shape a.machine.now in
    let specification = g.M.Machine.specification a.machine.now in
    let turns = g.M.Machine.turns a.machine.now in
    let crowds = IsOverLimitOf (g.M.Machine.made a.machine.now) (g.M.Machine.limit a.machine.now) in
    let right = g.M.Machine.right a.machine.now in
    let rests = g.M.Machine.rests a.machine.now in
    let within = g.M.Machine.within a.machine.now in
    let looked = c.look-nodes.ensures.stopped in
    let nodes = c.look-nodes.result.nodes in
    let i = c.look-nodes.result.so_far.expanded in
    let whole = c.whole_depth-whole.result in
    let ends = c.whole_depth-whole.ensures in
    let left = c.first_left-first in
    ends_deep specification turns crowds a.steps a.limit right rests within shape nodes left.result i whole c.look-nodes.new.quiet.items ends.low
    (left.ensures.less, left.ensures.most) ends.least looked.so_far c.look-nodes.ensures.rests c.deadlocks_at-deadlocks.result c.deadlocks_at-deadlocks.ensures
    c.look-nodes.result.so_far.ended c.settle-end.result c.settle-end.ensures ends.next looked.wrong

pub returns-clause-crowded : goal.returns-clause-crowded
returns-clause-crowded g c =
    let a = c.args in
    let shape = g.M.Machine.shape a.machine.now in
    let specification = g.M.Machine.specification a.machine.now in
    let turns = g.M.Machine.turns a.machine.now in
    let crowds = IsOverLimitOf (g.M.Machine.made a.machine.now) (g.M.Machine.limit a.machine.now) in
    let right = g.M.Machine.right a.machine.now in
    let rests = g.M.Machine.rests a.machine.now in
    let within = g.M.Machine.within a.machine.now in
    let looked = c.look-nodes.ensures.stopped in
    let nodes = c.look-nodes.result.nodes in
    let i = c.look-nodes.result.so_far.expanded in
    let whole = c.whole_depth-whole.result in
    let ends = c.whole_depth-whole.ensures in
    let left = c.first_left-first in
    ends_crowded specification turns crowds a.steps a.limit right rests within shape nodes left.result i whole c.look-nodes.new.quiet.items ends.low
    (left.ensures.less, left.ensures.most) ends.least looked.so_far c.look-nodes.ensures.rests c.deadlocks_at-deadlocks.result c.deadlocks_at-deadlocks.ensures
    c.look-nodes.result.so_far.ended c.settle-end.result c.settle-end.ensures ends.next looked.crowded

pub returns-clause-full : goal.returns-clause-full
returns-clause-full g c = λ is.
    let stopped = c.look-nodes.ensures.stopped in
    let told = c.settle-end.ensures.full is in
    let full = stopped.full told in
    let at = stopped.near told in
    let deep = c.whole_depth-whole.ensures.next at.0 at.1 at.2 in
    record {
      from = c.look-nodes.result.so_far.expanded;
      full = record {
        many = omega (arith, full.0.many);
        more = full.0.more;
        new = full.0.new;
        good = full.0.good;
        begun = full.0.begun;
        linked = full.0.linked;
      };
      shallow = λ n there.
          let same = same_node c.look-nodes.result.nodes c.look-nodes.result.so_far.expanded at.0 n at.1 there in
          (omega (arith, deep, ap (λ (x : Node). x.depth) same), full.1 n there);
    }
