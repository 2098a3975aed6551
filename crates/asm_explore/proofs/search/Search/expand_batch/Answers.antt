use Rattle.std.proofs.Common.{◌≡◌, ◌+◌, ◌<◌, ◌∙◌, length, true, refl, ap, sym, subst, arith}
use Rattle.std.specs.Prelude.{Some, IfNone, IfSome, slice_get}
use Rattle.std.proofs.lemmas.Option.{slice_get_within}
use Rattle.asm_state.specs.Signature.{state_of}
use Rattle.asm_explore.specs.declared.search_result.BadStep.{BadStep}
use Rattle.asm_explore.specs.code.PackedNodes.{Node}
use Rattle.asm_explore.specs.code.ChoicePaths.{HaveOwnPaths}
use Rattle.asm_explore.specs.code.QuietStates.{IsRested, RestsSo}
use Rattle.asm_explore.specs.code.ReachedStates.{Expanded, IsBad, IsBadStep, IsFull, IsLooked, IsNear, state_at}
use Rattle.asm_explore.specs.code.StepOutcomes.{IsOverLimitOf}
use Rattle.asm_explore.proofs.StateLemmas.Batches.{batch_at, shallow_at, same_node}
use Rattle.asm_explore.proofs.SearchEnds.{refused_done, refused_closed, refused_bad, halts_full, ends_crowded}
use Rattle.asm_explore.proofs.LookedAhead.{ahead_at, ahead_count, ahead_more}
use Rattle.asm_explore.proofs.StateLemmas.MoreNodes.{looked_more, looked_same, long_more, at_more, shallow_more, some_at}
use Rattle.asm_explore.proofs.StateLemmas.QuietNodes.{rested_more, rested_same}
use Rattle.asm_explore.proofs.search.Search.expand_batch.Goals as goal

pub bounds-ahead-k : goal.bounds-ahead-k
bounds-ahead-k g c =
    let a = c.args in
    let count = ahead_count (g.M.Machine.shape a.self.now.machine.now) (g.M.Machine.specification a.self.now.machine.now) (g.M.Machine.turns a.self.now.machine.now) a.reached.now.nodes a.states.now a.ahead.now c.requires.ahead in
    omega (arith, count, c.loop-k-test.true)

pub expand_step-requires-clause-ready : goal.expand_step-requires-clause-ready
expand_step-requires-clause-ready g c =
    let a = c.args in
    let l = c.loop-k in
    let i = a.first + l.k in
    let n = some_at a.reached.now.nodes i (omega (arith, c.requires.first, c.loop-k-test.true)) in
    let there = l.invariant.same i n.0 n.1 in
    let deep = shallow_at (λ (n : Node). n.depth < a.self.now.steps) a.reached.now.nodes a.first (length a.states.now) l.k n.0 c.requires.shallow c.loop-k-test.true n.1 in
    record {
      from = slice_get_within l.reached.nodes i n.0 there;
      shallow = λ m here. omega (arith, deep, a.self.now.in_range.0, ap (λ (n : Node). n.depth) (same_node l.reached.nodes i n.0 m there here));
      here = λ m here.
          ap (λ (n : Node). n.state) (sym (same_node l.reached.nodes i n.0 m there here))
          ∙ sym (batch_at a.reached.now.nodes a.first l.k a.states.now n.0 c.index-states-k.result c.requires.states c.loop-k-test.true n.1) ∙ sym c.index-states-k.is;
      room = l.invariant.room;
      nodes = l.invariant.looked.good;
      near = l.invariant.near;
    }

pub expand_step-requires-clause-ahead : goal.expand_step-requires-clause-ahead
expand_step-requires-clause-ahead g c =
    let a = c.args in
    let l = c.loop-k in
    let shape = g.M.Machine.shape a.self.now.machine.now in
    let specification = g.M.Machine.specification a.self.now.machine.now in
    let turns = g.M.Machine.turns a.self.now.machine.now in
    ahead_more shape specification turns a.reached.now.nodes l.reached.nodes (state_of shape c.index-states-k.result) c.index-ahead-k.result l.invariant.same
    (ahead_at shape specification turns a.reached.now.nodes a.states.now a.ahead.now l.k c.index-states-k.result c.index-ahead-k.result
    c.requires.ahead c.loop-k-test.true c.index-states-k.is c.index-ahead-k.is)

pub returns-in-Ok-Some-clause-more : goal.returns-in-Ok-Some-clause-more
returns-in-Ok-Some-clause-more g c =
    let a = c.args in
    let l = c.loop-k in
    let shape = g.M.Machine.shape a.self.now.machine.now in
    let specification = g.M.Machine.specification a.self.now.machine.now in
    let turns = g.M.Machine.turns a.self.now.machine.now in
    let right = g.M.Machine.right a.self.now.machine.now in
    let rests = g.M.Machine.rests a.self.now.machine.now in
    let within = g.M.Machine.within a.self.now.machine.now in
    let i = a.first + l.k in
    let n = some_at a.reached.now.nodes i (omega (arith, c.requires.first, c.loop-k-test.true)) in
    let there = l.invariant.same i n.0 n.1 in
    let longer = long_more shape specification turns right (n.0.depth + 1) l.reached.nodes c.expand_step.new.reached.nodes (c.in-Ok-Some.ensures.expands.extends n.0 there) in
    omega (arith, longer, l.invariant.more)

pub returns-in-Err-clause-more : goal.returns-in-Err-clause-more
returns-in-Err-clause-more g c =
    let a = c.args in
    let l = c.loop-k in
    let shape = g.M.Machine.shape a.self.now.machine.now in
    let specification = g.M.Machine.specification a.self.now.machine.now in
    let turns = g.M.Machine.turns a.self.now.machine.now in
    let right = g.M.Machine.right a.self.now.machine.now in
    let rests = g.M.Machine.rests a.self.now.machine.now in
    let within = g.M.Machine.within a.self.now.machine.now in
    let i = a.first + l.k in
    let n = some_at a.reached.now.nodes i (omega (arith, c.requires.first, c.loop-k-test.true)) in
    let there = l.invariant.same i n.0 n.1 in
    let longer = long_more shape specification turns right (n.0.depth + 1) l.reached.nodes c.expand_step.new.reached.nodes (c.in-Err.ensures.expands.extends n.0 there) in
    omega (arith, longer, l.invariant.more)

pub returns-in-Ok-Some-clause-stopped : goal.returns-in-Ok-Some-clause-stopped
returns-in-Ok-Some-clause-stopped g c =
    let a = c.args in
    let l = c.loop-k in
    let shape = g.M.Machine.shape a.self.now.machine.now in
    let specification = g.M.Machine.specification a.self.now.machine.now in
    let turns = g.M.Machine.turns a.self.now.machine.now in
    let right = g.M.Machine.right a.self.now.machine.now in
    let rests = g.M.Machine.rests a.self.now.machine.now in
    let within = g.M.Machine.within a.self.now.machine.now in
    let i = a.first + l.k in
    let n = some_at a.reached.now.nodes i (omega (arith, c.requires.first, c.loop-k-test.true)) in
    let there = l.invariant.same i n.0 n.1 in
    let inside = shallow_at (λ (n : Node). within (state_at shape n) ≡ true) a.reached.now.nodes a.first (length a.states.now) l.k n.0 c.requires.inside c.loop-k-test.true n.1 in
    let extends = c.in-Ok-Some.ensures.expands.extends n.0 there in
    let longer = long_more shape specification turns right (n.0.depth + 1) l.reached.nodes c.expand_step.new.reached.nodes extends in
    let wrong : (c.in-Ok-Some.bad.from ≡ i) × IsBadStep shape specification turns right rests l.reached.nodes i c.in-Ok-Some.bad.choices.items c.in-Ok-Some.bad.fault =
    subst (λ o. IfSome o (λ (b : BadStep). (b.from ≡ i) × IsBadStep shape specification turns right rests l.reached.nodes i b.choices.items b.fault)) c.in-Ok-Some.field-0-is c.in-Ok-Some.ensures.expands.wrong in
    let at : slice_get c.expand_step.new.reached.nodes c.in-Ok-Some.bad.from ≡ Some n.0 =
    ap (slice_get c.expand_step.new.reached.nodes) wrong.0 ∙ at_more shape specification turns right (n.0.depth + 1) l.reached.nodes c.expand_step.new.reached.nodes extends i n.0 there in
    let deep = shallow_at (λ (n : Node). n.depth < a.self.now.steps) a.reached.now.nodes a.first (length a.states.now) l.k n.0 c.requires.shallow c.loop-k-test.true n.1 in
    let bad : IsBad shape specification turns right rests c.expand_step.new.reached.nodes c.in-Ok-Some.bad = record {
      from = n.0;
      there = at;
      apart = subst (λ o. IfSome o (λ (b : BadStep). HaveOwnPaths b.choices.items)) c.in-Ok-Some.field-0-is c.in-Ok-Some.ensures.expands.apart;
      wrong = wrong.1 n.0 there;
    } in
    record {
      some = omega (arith, longer, l.invariant.more, c.requires.first, c.loop-k-test.true);
      so_far = looked_same shape specification turns right within a.self.now.steps i n.0 (n.0.depth + 1) l.reached.nodes c.expand_step.new.reached.nodes there refl extends (λ j k past here. (c.in-Ok-Some.ensures.expands.begun j k past here, inside)) l.invariant.near l.invariant.looked;
      all = λ done. absurd done;
      closed = λ closed. cc;
      wrong = (
        bad,
        wrong.0,
        λ m here.
            let same = same_node c.expand_step.new.reached.nodes c.in-Ok-Some.bad.from n.0 m at here in
            (omega (arith, deep, ap (λ (n : Node). n.depth) same), subst (λ (x : Node). within (state_at shape x) ≡ true) same inside),
      );
      full = λ full. cc;
      near = λ full. cc;
      crowded = tt;
    }

pub returns-in-Err-clause-stopped : goal.returns-in-Err-clause-stopped
returns-in-Err-clause-stopped g c =
    let a = c.args in
    let l = c.loop-k in
    let shape = g.M.Machine.shape a.self.now.machine.now in
    let specification = g.M.Machine.specification a.self.now.machine.now in
    let turns = g.M.Machine.turns a.self.now.machine.now in
    let right = g.M.Machine.right a.self.now.machine.now in
    let rests = g.M.Machine.rests a.self.now.machine.now in
    let within = g.M.Machine.within a.self.now.machine.now in
    let i = a.first + l.k in
    let n = some_at a.reached.now.nodes i (omega (arith, c.requires.first, c.loop-k-test.true)) in
    let there = l.invariant.same i n.0 n.1 in
    let inside = shallow_at (λ (n : Node). within (state_at shape n) ≡ true) a.reached.now.nodes a.first (length a.states.now) l.k n.0 c.requires.inside c.loop-k-test.true n.1 in
    let extends = c.in-Err.ensures.expands.extends n.0 there in
    let longer = long_more shape specification turns right (n.0.depth + 1) l.reached.nodes c.expand_step.new.reached.nodes extends in
    let refused = c.cut_off.ensures.refused in
    let makes = g.M.Machine.made a.self.now.machine.now in
    let limit = g.M.Machine.limit a.self.now.machine.now in
    let A = state_of shape c.index-states-k.result in
    let deep = shallow_at (λ (n : Node). n.depth < a.self.now.steps) a.reached.now.nodes a.first (length a.states.now) l.k n.0 c.requires.shallow c.loop-k-test.true n.1 in
    let here : n.0.state ≡ c.index-states-k.result =
    sym (batch_at a.reached.now.nodes a.first l.k a.states.now n.0 c.index-states-k.result c.requires.states c.loop-k-test.true n.1) ∙ sym c.index-states-k.is in
    record {
      some = omega (arith, longer, l.invariant.more, c.requires.first, c.loop-k-test.true);
      so_far = looked_same shape specification turns right within a.self.now.steps i n.0 (n.0.depth + 1) l.reached.nodes c.expand_step.new.reached.nodes there refl extends (λ j k past here. (c.in-Err.ensures.expands.begun j k past here, inside)) l.invariant.near l.invariant.looked;
      all = λ done. absurd (refused_done c.cut_off.result refused done);
      closed = λ closed. absurd (refused_closed c.cut_off.result refused closed);
      wrong = refused_bad _ c.cut_off.result refused;
      full = λ full. (
        halts_full (IsFull shape specification turns right a.self.now.limit i c.expand_step.new.reached.nodes) (IsOverLimitOf makes limit A) c.in-Err.halt (c.cut_off.ensures.states full) c.in-Err.ensures.expands.full,
        λ m here. subst (λ (x : Node). within (state_at shape x) ≡ true) (same_node c.expand_step.new.reached.nodes i n.0 m (at_more shape specification turns right (n.0.depth + 1) l.reached.nodes c.expand_step.new.reached.nodes extends i n.0 there) here) inside,
      );
      near = λ full. (
        n.0,
        at_more shape specification turns right (n.0.depth + 1) l.reached.nodes c.expand_step.new.reached.nodes extends i n.0 there,
        deep,
        shallow_more shape specification turns right (n.0.depth + 1) l.reached.nodes c.expand_step.new.reached.nodes extends (l.invariant.near n.0 there),
      );
      crowded = ends_crowded (IsFull shape specification turns right a.self.now.limit i c.expand_step.new.reached.nodes) (IsOverLimitOf makes limit A) (λ crowd. (m : Node) × (slice_get c.expand_step.new.reached.nodes i ≡ Some m) × (m.depth < a.self.now.steps) × IsOverLimitOf makes limit (state_at shape m) crowd)
          c.cut_off.result c.in-Err.halt c.cut_off.ensures.crowd
          (λ crowd so. (
            n.0,
            at_more shape specification turns right (n.0.depth + 1) l.reached.nodes c.expand_step.new.reached.nodes extends i n.0 there,
            deep,
            subst (λ xs. IsOverLimitOf makes limit (state_of shape xs) crowd) (sym here) so,
          )) c.in-Err.ensures.expands.full;
    }

pub loop-k-preserved : goal.loop-k-preserved
loop-k-preserved g c =
    let a = c.args in
    let l = c.loop-k in
    let shape = g.M.Machine.shape a.self.now.machine.now in
    let specification = g.M.Machine.specification a.self.now.machine.now in
    let turns = g.M.Machine.turns a.self.now.machine.now in
    let right = g.M.Machine.right a.self.now.machine.now in
    let rests = g.M.Machine.rests a.self.now.machine.now in
    let within = g.M.Machine.within a.self.now.machine.now in
    let i = a.first + l.k in
    let n = some_at a.reached.now.nodes i (omega (arith, c.requires.first, c.loop-k-test.true)) in
    let there = l.invariant.same i n.0 n.1 in
    let inside = shallow_at (λ (n : Node). within (state_at shape n) ≡ true) a.reached.now.nodes a.first (length a.states.now) l.k n.0 c.requires.inside c.loop-k-test.true n.1 in
    let extends = c.in-Ok-None.ensures.expands.extends n.0 there in
    let longer = long_more shape specification turns right (n.0.depth + 1) l.reached.nodes c.expand_step.new.reached.nodes extends in
    let expanded : Expanded shape specification turns c.expand_step.new.reached.nodes n.0 =
    subst (λ o. IfNone o ((n : Node) → slice_get l.reached.nodes i ≡ Some n → Expanded shape specification turns c.expand_step.new.reached.nodes n)) c.in-Ok-None.field-0-is c.in-Ok-None.ensures.expands.expanded n.0 there in
    let next : i + 1 ≡ a.first + (l.k + 1) = omega arith in
    let deep = shallow_at (λ (n : Node). n.depth < a.self.now.steps) a.reached.now.nodes a.first (length a.states.now) l.k n.0 c.requires.shallow c.loop-k-test.true n.1 in
    let here : n.0.state ≡ c.index-states-k.result =
    sym (batch_at a.reached.now.nodes a.first l.k a.states.now n.0 c.index-states-k.result c.requires.states c.loop-k-test.true n.1) ∙ sym c.index-states-k.is in
    let so : RestsSo specification turns rests (state_at shape n.0) i l.quiet.items c.expand_step.new.quiet.items =
    subst (λ xs. RestsSo specification turns rests (state_of shape xs) i l.quiet.items c.expand_step.new.quiet.items) (sym here)
    (subst (λ o. IfNone o (RestsSo specification turns rests (state_of shape c.index-states-k.result) i l.quiet.items c.expand_step.new.quiet.items)) c.in-Ok-None.field-0-is c.in-Ok-None.ensures.quiet.rests) in
    let both = looked_more shape specification turns right within a.self.now.steps i n.0 (n.0.depth + 1) l.reached.nodes c.expand_step.new.reached.nodes there refl extends (λ low there. expanded) (λ j k past here. (c.in-Ok-None.ensures.expands.begun j k past here, inside)) l.invariant.near l.invariant.looked in
    record {
      room = c.in-Ok-None.ensures.expands.room;
      more = omega (arith, longer, l.invariant.more);
      same = λ j m here. at_more shape specification turns right (n.0.depth + 1) l.reached.nodes c.expand_step.new.reached.nodes extends j m (l.invariant.same j m here);
      looked = subst (λ j. IsLooked shape specification turns right within a.self.now.steps j c.expand_step.new.reached.nodes) next both.0;
      near = subst (λ j. IsNear c.expand_step.new.reached.nodes j) next both.1;
      rested = subst (λ j. IsRested shape specification turns rests within a.self.now.steps j c.expand_step.new.reached.nodes c.expand_step.new.quiet.items) next
          (rested_more shape specification turns rests within a.self.now.steps i n.0 l.reached.nodes c.expand_step.new.reached.nodes extends.more l.quiet.items c.expand_step.new.quiet.items there extends.is (deep, inside) so l.invariant.rested);
    }

pub returns-in-Ok-Some-clause-rests : goal.returns-in-Ok-Some-clause-rests
returns-in-Ok-Some-clause-rests g c =
    let a = c.args in
    let l = c.loop-k in
    let shape = g.M.Machine.shape a.self.now.machine.now in
    let specification = g.M.Machine.specification a.self.now.machine.now in
    let turns = g.M.Machine.turns a.self.now.machine.now in
    let rests = g.M.Machine.rests a.self.now.machine.now in
    let within = g.M.Machine.within a.self.now.machine.now in
    let i = a.first + l.k in
    let n = some_at a.reached.now.nodes i (omega (arith, c.requires.first, c.loop-k-test.true)) in
    let there = l.invariant.same i n.0 n.1 in
    let extends = c.in-Ok-Some.ensures.expands.extends n.0 there in
    rested_same shape specification turns rests within a.self.now.steps i l.reached.nodes c.expand_step.new.reached.nodes extends.more l.quiet.items c.expand_step.new.quiet.items
    (omega (arith, slice_get_within l.reached.nodes i n.0 there)) extends.is
    (subst (λ o. IfSome o (λ (_ : BadStep). c.expand_step.new.quiet.items ≡ l.quiet.items)) c.in-Ok-Some.field-0-is c.in-Ok-Some.ensures.quiet.listed) l.invariant.rested

pub returns-in-Err-clause-rests : goal.returns-in-Err-clause-rests
returns-in-Err-clause-rests g c =
    let a = c.args in
    let l = c.loop-k in
    let shape = g.M.Machine.shape a.self.now.machine.now in
    let specification = g.M.Machine.specification a.self.now.machine.now in
    let turns = g.M.Machine.turns a.self.now.machine.now in
    let rests = g.M.Machine.rests a.self.now.machine.now in
    let within = g.M.Machine.within a.self.now.machine.now in
    let i = a.first + l.k in
    let n = some_at a.reached.now.nodes i (omega (arith, c.requires.first, c.loop-k-test.true)) in
    let there = l.invariant.same i n.0 n.1 in
    let extends = c.in-Err.ensures.expands.extends n.0 there in
    rested_same shape specification turns rests within a.self.now.steps i l.reached.nodes c.expand_step.new.reached.nodes extends.more l.quiet.items c.expand_step.new.quiet.items
    (omega (arith, slice_get_within l.reached.nodes i n.0 there)) extends.is c.in-Err.ensures.quiet.unlisted l.invariant.rested
