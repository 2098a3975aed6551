use Rattle.std.proofs.Common.{◌+◌, ◌∙◌, refl, sym, arith}
use Rattle.std.proofs.lemmas.Bool.{false≢true}
use Rattle.std.proofs.lemmas.Option.{slice_get_within}
use Rattle.asm_state.specs.code.Contents.{IsStateOf}
use Rattle.asm_explore.specs.code.PackedNodes.{Node}
use Rattle.asm_explore.specs.code.ReachedStates.{IsGood}
use Rattle.asm_explore.proofs.StateLemmas.Batches.{no_items}
use Rattle.asm_explore.proofs.OutcomeLemmas.ListLemmas.{each_weaker}
use Rattle.asm_explore.proofs.StateLemmas.MoreNodes.{looked_more, extends_none, some_at}
use Rattle.asm_explore.proofs.StateLemmas.QuietNodes.{rested_past}
use Rattle.asm_explore.proofs.search.Search.expand_next.Goals as goal

pub next_batch-requires-clause-nodes : goal.next_batch-requires-clause-nodes
next_batch-requires-clause-nodes g c =
    let a = c.args in
    let shape = g.M.Machine.shape a.self.now.machine.now in
    each_weaker (IsGood shape (g.M.Machine.right a.self.now.machine.now)) (λ (n : Node). IsStateOf shape n.state) (λ n good. good.kept) a.reached.now.nodes c.requires.looked.good

pub returns-then-states-eq0-clause-looked : goal.returns-then-states-eq0-clause-looked
returns-then-states-eq0-clause-looked g c =
    let a = c.args in
    let shape = g.M.Machine.shape a.self.now.machine.now in
    let specification = g.M.Machine.specification a.self.now.machine.now in
    let turns = g.M.Machine.turns a.self.now.machine.now in
    let right = g.M.Machine.right a.self.now.machine.now in
    let within = g.M.Machine.within a.self.now.machine.now in
    let n = some_at a.reached.now.nodes a.expanded c.requires.expanded in
    let empty = no_items c.as_slice-states.result.now c.in-Ok.batch.states.items c.as_slice-states.ensures.value c.if-states-eq0.true in
    let both = looked_more shape specification turns right within a.self.now.steps a.expanded n.0 (n.0.depth + 1) a.reached.now.nodes a.reached.now.nodes n.1 refl
    (extends_none shape specification turns right (n.0.depth + 1) a.reached.now.nodes)
    (λ low inside. absurd (false≢true (sym (c.in-Ok.ensures.none empty n.0 n.1 low) ∙ inside)))
    (λ j k past here. absurd (omega (arith, past, slice_get_within a.reached.now.nodes j k here))) c.requires.near c.requires.looked in
    both.0

pub returns-then-states-eq0-clause-near : goal.returns-then-states-eq0-clause-near
returns-then-states-eq0-clause-near g c =
    let a = c.args in
    let shape = g.M.Machine.shape a.self.now.machine.now in
    let specification = g.M.Machine.specification a.self.now.machine.now in
    let turns = g.M.Machine.turns a.self.now.machine.now in
    let right = g.M.Machine.right a.self.now.machine.now in
    let within = g.M.Machine.within a.self.now.machine.now in
    let n = some_at a.reached.now.nodes a.expanded c.requires.expanded in
    let empty = no_items c.as_slice-states.result.now c.in-Ok.batch.states.items c.as_slice-states.ensures.value c.if-states-eq0.true in
    let both = looked_more shape specification turns right within a.self.now.steps a.expanded n.0 (n.0.depth + 1) a.reached.now.nodes a.reached.now.nodes n.1 refl
    (extends_none shape specification turns right (n.0.depth + 1) a.reached.now.nodes)
    (λ low inside. absurd (false≢true (sym (c.in-Ok.ensures.none empty n.0 n.1 low) ∙ inside)))
    (λ j k past here. absurd (omega (arith, past, slice_get_within a.reached.now.nodes j k here))) c.requires.near c.requires.looked in
    both.1

pub returns-then-states-eq0-clause-rested : goal.returns-then-states-eq0-clause-rested
returns-then-states-eq0-clause-rested g c =
    let a = c.args in
    let n = some_at a.reached.now.nodes a.expanded c.requires.expanded in
    let empty = no_items c.as_slice-states.result.now c.in-Ok.batch.states.items c.as_slice-states.ensures.value c.if-states-eq0.true in
    rested_past (g.M.Machine.shape a.self.now.machine.now) (g.M.Machine.specification a.self.now.machine.now) (g.M.Machine.turns a.self.now.machine.now) (g.M.Machine.rests a.self.now.machine.now) (g.M.Machine.within a.self.now.machine.now) a.self.now.steps
    a.expanded n.0 a.reached.now.nodes a.quiet.now.items n.1 (λ at. absurd (false≢true (sym (c.in-Ok.ensures.none empty n.0 n.1 at.0) ∙ at.1))) c.requires.rested
