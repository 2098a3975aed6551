use Rattle.std.proofs.Common.{◌≡◌, ◌≤◌, ◌+◌, ◌∙◌, ℕ, suc, [], ◌∷◌, refl, map, max, take, length, true, ap, sym, subst, arith, Vec, Global}
use Rattle.std.specs.Prelude.{◌<◌, IfSome, None, Option, Some}
use Rattle.std.proofs.lemmas.List.{length-map}
use Rattle.asm_state.specs.code.Contents.{IsStateOf}
use Rattle.asm_explore.specs.ExplorationResults.{Claims, IsLookedThrough, IsQuietRun, IsSafeIf, beyond, known_to}
use Rattle.asm_explore.specs.Search.{IsQuiet}
use Rattle.asm_explore.specs.StateLists.{Counts, IsAmongFirst}
use Rattle.asm_explore.specs.code.PackedNodes.{Node}
use Rattle.asm_explore.specs.code.SearchEnds.{IfOverLimit}
use Rattle.asm_explore.specs.code.ReachedStates.{AtNode, IsGood, state_at}
use Rattle.asm_explore.specs.code.StepOutcomes.{IsOverLimitOf}
use Rattle.asm_explore.proofs.OutcomeLemmas.ListLemmas.{each_weaker}
use Rattle.asm_explore.proofs.StateLemmas.LookedStates.{holds_less}
use Rattle.asm_explore.proofs.StateLemmas.MoreNodes.{each_got}
use Rattle.asm_explore.proofs.StateLemmas.OwnStates.{own_first, states_different}
use Rattle.asm_explore.proofs.StateLemmas.RunsToNodes.{more_reached, node_reached, nodes_reached, reached_more}
use Rattle.asm_explore.proofs.explore_machine.explore_machine.Goals as goal
use Rattle.asm_explore.proofs.explore_machine.explore_machine.Goals.{in-Closed, in-AtLimit, in-BadStep+in_ok-finding-in-BadStep, in-TooManyStates, in-TooManyOutcomes, in-Memory}

pub returns-then-not-is_right : goal.returns-then-not-is_right
returns-then-not-is_right g c = record {
  reached = [];
  different = λ i j less low. absurd (omega (arith, less, low));
  count = refl;
  room = omega arith;
  reach = tt;
  found = ap (g.M.Machine.right c.args.machine.now) (sym c.requires.initial) ∙ (sym c.is_right.ensures ∙ c.if-not-is_right.true);
  looked = 0;
  quiet = refl;
  through = tt;
  rest = tt;
}

if_some_both : {X : Type 0} (P Q : X → Type 0) (o : Option X) → IfSome o P → IfSome o Q → IfSome o (λ x. P x × Q x)
if_some_both P Q None p q = tt
if_some_both P Q (Some x) p q = (p, q)

pub returns : goal.returns
returns g c =
    let a = c.args in
    let explored = c.in_ok-nodes.ensures in
    let result = c.in_ok-nodes.field-0 in
    let crowds = IsOverLimitOf (g.M.Machine.made a.machine.now) (g.M.Machine.limit a.machine.now) in
    let shape = g.M.Machine.shape a.machine.now in
    let specification = g.M.Machine.specification a.machine.now in
    let turns = g.M.Machine.turns a.machine.now in
    let right = g.M.Machine.right a.machine.now in
    let rests = g.M.Machine.rests a.machine.now in
    let within = g.M.Machine.within a.machine.now in
    let nodes = result.nodes in
    let states = map (state_at shape) nodes in
    let looked = IsAmongFirst explored.through.looked states in
    let claims = Claims specification turns crowds a.steps a.limit right rests within states in
    let through = IsLookedThrough specification turns within looked in
    let kept = each_weaker (IsGood shape right) (λ (n : Node). IsStateOf shape n.state) (λ n good. good.kept) nodes explored.nodes.0 in
    let safe_if = IsSafeIf specification turns crowds a.steps a.limit right rests within in
    let known = holds_less specification turns within looked (known_to result.safe) result.whole explored.known explored.through.before in
    let quiet : c.len-2.result ≡ length result.quiet.items =
    omega (arith, c.len-2.ensures, result.quiet.ok.0, c.in_ok-nodes.quiet.ok.0, ap (λ (q : Vec ℕ Global). length q.items) c.in_ok-nodes.quiet-is) in
    let found : c.len-2.result ≡ length c.as_slice.result.now = quiet ∙ sym (ap length c.as_slice.ensures.value) in
    record {
      reached = states;
      different = states_different shape nodes kept explored.own;
      count = length-map nodes (state_at shape) ∙ sym c.len.ensures;
      room = subst (λ n. n ≤ max a.limit 1) (sym c.len.ensures) explored.room;
      reach = nodes_reached shape specification turns within nodes explored.nodes.1 explored.inside c.greatest_depth.result
          (λ i n there. each_got (λ n. n.depth ≤ c.greatest_depth.result) nodes i n c.greatest_depth.ensures there);
      found = elim c.match-ended.branch [
        | in-Closed w ↦ subst claims (sym w.finding-is) (explored.closed w.in-Closed.is, explored.always_alive w.in-Closed.is)
        | in-AtLimit w ↦
            let at = explored.at_limit w.in-AtLimit.is in
            subst claims (sym w.finding-is) (at.0, subst safe_if (at.1 ∙ ap (λ n. Some n) (sym at.0)) explored.settled)
        | in-BadStep+in_ok-finding-in-BadStep w ↦ subst claims (sym w.finding-is) (w.in_ok-finding-in-BadStep.ensures.claims a.limit states)
        | in-TooManyStates w ↦
            let over = explored.full w.in-TooManyStates.is in
            let more = over.full.more in
            let many = subst (λ n. a.limit ≤ n) (sym (length-map nodes (state_at shape))) over.full.many in
            let one = reached_more specification turns within (suc result.whole) (suc (beyond result.safe)) (state_at shape more) (omega (arith, explored.beyond))
            (more_reached shape specification turns within nodes explored.nodes.1 explored.inside right a.limit result.whole over) in
            let near = nodes_reached shape specification turns within nodes explored.nodes.1 explored.inside (suc (beyond result.safe))
            (λ i n there. omega (arith, each_got (λ n. n.depth ≤ result.whole + 1) nodes i n (explored.near w.in-TooManyStates.is) there, explored.beyond)) in
            subst claims (sym w.finding-is) (
              many,
              explored.settled,
              (state_at shape more, states_different shape (more ∷ nodes) (over.full.good.kept, kept) (own_first nodes more explored.own over.full.new), (one, near)),
            )
        | in-TooManyOutcomes w ↦ subst claims (sym w.finding-is) (
          explored.settled,
          let at = subst (λ e. IfOverLimit e (λ crowd. (number : ℕ) × AtNode shape crowds nodes number result.whole crowd)) w.in-TooManyOutcomes.is explored.crowded in
              let n = at.1.0 in
              let shallow : n.depth ≤ beyond result.safe = omega (arith, at.1.2, explored.beyond) in
              (state_at shape n, node_reached shape specification turns within nodes explored.nodes.1 explored.inside (beyond result.safe) at.0 n at.1.1 shallow, at.1.3),
        )
        | in-Memory w ↦ subst claims (sym w.finding-is) explored.settled
      ];
      looked = explored.through.looked;
      quiet = subst (Counts (λ A. (within A ≡ true) × IsQuiet specification turns A) (take explored.through.looked states)) (sym quiet) explored.through.quiet;
      through = elim c.match-ended.branch [
        | in-Closed w ↦ subst through (sym w.finding-is) (explored.through.always w.in-Closed.is)
        | in-AtLimit w ↦ subst through (sym w.finding-is) explored.through.before
        | in-BadStep+in_ok-finding-in-BadStep w ↦ subst through (sym w.finding-is) (w.in_ok-finding-in-BadStep.ensures.through explored.through.looked states explored.through.before)
        | in-TooManyStates w ↦ subst through (sym w.finding-is) known
        | in-TooManyOutcomes w ↦ subst through (sym w.finding-is) known
        | in-Memory w ↦ subst through (sym w.finding-is) known
      ];
      rest = if_some_both (λ run. 0 < c.len-2.result) (IsQuietRun specification turns within) c.quiet_run-first_quiet.result
          (subst (λ n. IfSome c.quiet_run-first_quiet.result (λ run. 0 < n)) (sym found) c.quiet_run-first_quiet.ensures.some) c.quiet_run-first_quiet.ensures.run;
    }
