use Rattle.std.proofs.Common.{◌≡◌, ◌+◌, ◌<◌, length, sym, subst, arith}
use Rattle.asm_explore.specs.code.Deadlocks.{AreJudged, IsJudged}
use Rattle.asm_explore.specs.code.ReachedStates.{state_at}
use Rattle.asm_explore.specs.code.StepOutcomes.{IsOverLimitOf}
use Rattle.asm_explore.proofs.StateLemmas.LastStates.{judged_alive, judged_crowded}
use Rattle.asm_explore.proofs.StateLemmas.MoreNodes.{some_at}
use Rattle.asm_explore.proofs.states.deadlocks.look_through.Goals.{then-depth+in_ok-judge_node+in-Alive, then-depth+in_ok-judge_node+in-Crowded, else-depth}
use Rattle.asm_explore.proofs.states.deadlocks.look_through.Goals as goal

pub loop-number-preserved : goal.loop-number-preserved
loop-number-preserved g c =
    let a = c.args in
    let m = a.machine.now in
    let specification = g.M.Machine.specification m in
    let turns = g.M.Machine.turns m in
    let crowds = IsOverLimitOf (g.M.Machine.made m) (g.M.Machine.limit m) in
    let rests = g.M.Machine.rests m in
    let within = g.M.Machine.within m in
    let shape = g.M.Machine.shape m in
    let nodes = a.nodes.now in
    let l = c.loop-number in
    let low : l.number < length nodes = omega (arith, c.loop-number-test.true, c.len-number-end.ensures) in
    let so_far = AreJudged specification turns crowds rests within shape nodes a.first (l.number + 1) a.depth in
    elim c.if-depth.branch [
      | then-depth+in_ok-judge_node+in-Alive w ↦
          subst so_far (sym w.known-is)
          (judged_alive specification turns crowds rests within shape nodes a.first l.number a.depth l.known
          (λ n there deep. subst (IsJudged specification turns crowds rests within (state_at shape n)) w.in-Alive.is (w.in_ok-judge_node.ensures n there))
          l.invariant)
      | then-depth+in_ok-judge_node+in-Crowded w ↦
          let n = some_at nodes l.number low in
          let deep : n.0.depth ≡ a.depth = omega (arith, c.depth.ensures n.0 n.1) in
          subst so_far (sym w.known-is)
          (judged_crowded specification turns crowds rests within shape nodes a.first l.number a.depth l.known w.in-Crowded.crowd
          (n.0, n.1, deep, subst (IsJudged specification turns crowds rests within (state_at shape n.0)) w.in-Crowded.is (w.in_ok-judge_node.ensures n.0 n.1))
          l.invariant)
      | else-depth w ↦
          subst so_far (sym w.known-is)
          (judged_alive specification turns crowds rests within shape nodes a.first l.number a.depth l.known
          (λ n there deep. absurd (omega (arith, c.depth.ensures n there, deep)))
          l.invariant)
    ]
