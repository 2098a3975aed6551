use Rattle.std.proofs.Common.{◌∙◌, sym, subst}
use Rattle.asm_state.specs.code.Contents.{IsStateOf}
use Rattle.asm_state.specs.Signature.{state_of}
use Rattle.asm_explore.specs.code.Deadlocks.{IsJudged}
use Rattle.asm_explore.specs.code.PackedNodes.{Node}
use Rattle.asm_explore.specs.code.StepOutcomes.{IsOverLimitOf}
use Rattle.asm_explore.proofs.StateLemmas.MoreNodes.{each_got, some_at}
use Rattle.asm_explore.proofs.states.deadlocks.judge_node.Goals as goal

pub state-requires-clause-whole : goal.state-requires-clause-whole
state-requires-clause-whole g c = λ n there.
    let a = c.args in
    (each_got (λ (m : Node). IsStateOf (g.M.Machine.shape a.machine.now) m.state) a.nodes.now a.number n c.requires.nodes there).whole ∙ sym c.requires.like

pub judge-requires-clause-state : goal.judge-requires-clause-state
judge-requires-clause-state g c =
    let a = c.args in
    let shape = g.M.Machine.shape a.machine.now in
    let n = some_at a.nodes.now a.number c.requires.number in
    subst (IsStateOf shape) (sym (c.in_ok-state.ensures n.0 n.1)) (each_got (λ (m : Node). IsStateOf shape m.state) a.nodes.now a.number n.0 c.requires.nodes n.1)

pub returns : goal.returns
returns g c = λ n there.
    let a = c.args in
    let m = a.machine.now in
    subst (λ xs. IsJudged (g.M.Machine.specification m) (g.M.Machine.turns m) (IsOverLimitOf (g.M.Machine.made m) (g.M.Machine.limit m)) (g.M.Machine.rests m) (g.M.Machine.within m)
    (state_of (g.M.Machine.shape m) xs) c.in_ok-judged.judged) (c.in_ok-state.ensures n there) c.in_ok-judged.ensures
