use Rattle.std.proofs.Common.{◌≡◌, ◌+◌, [], ◌∷◌, ◌∙◌, length, refl, rules, ap, inr, sym, subst, arith}
use Rattle.std.proofs.lemmas.List.{length-append}
use Rattle.asm_explore.specs.code.AddedNodes.{AddsNodes}
use Rattle.asm_explore.specs.code.PackedNodes.{Node}
use Rattle.asm_explore.proofs.StateLemmas.AddedNodes.{none_added}
use Rattle.asm_explore.proofs.StateLemmas.MoreNodes.{begun_none, begun_one, extends_none, found_known, pushed_known, extends_one, comes_from}
use Rattle.asm_explore.proofs.search.Search.reach.Goals as goal

pub returns-then-has-clause-adds : goal.returns-then-has-clause-adds
returns-then-has-clause-adds g c =
    let a = c.args in
    none_added (g.M.Machine.shape a.self.now.machine.now) (g.M.Machine.specification a.self.now.machine.now) (g.M.Machine.turns a.self.now.machine.now) (g.M.Machine.right a.self.now.machine.now) a.from a.self.now.limit a.below a.reached.now.nodes _ c.requires.ready.room

pub returns-then-has-clause-known : goal.returns-then-has-clause-known
returns-then-has-clause-known g c = λ yes.
    let a = c.args in
    found_known (g.M.Machine.shape a.self.now.machine.now) a.reached.now.nodes a.state.now a.below c.requires.ready.near (c.has.ensures.found c.if-has.true)

pub returns-then-not-is_right-clause-adds : goal.returns-then-not-is_right-clause-adds
returns-then-not-is_right-clause-adds g c =
    let a = c.args in
    none_added (g.M.Machine.shape a.self.now.machine.now) (g.M.Machine.specification a.self.now.machine.now) (g.M.Machine.turns a.self.now.machine.now) (g.M.Machine.right a.self.now.machine.now) a.from a.self.now.limit a.below a.reached.now.nodes _ c.requires.ready.room

-- the state is one more than there may be
pub returns-then-len-self-clause-adds : goal.returns-then-len-self-clause-adds
returns-then-len-self-clause-adds g c =
    let a = c.args in
    let shape = g.M.Machine.shape a.self.now.machine.now in
    let specification = g.M.Machine.specification a.self.now.machine.now in
    let turns = g.M.Machine.turns a.self.now.machine.now in
    let right = g.M.Machine.right a.self.now.machine.now in
    let node : Node = record { state = a.state.now; from = a.from; depth = a.below } in
    record {
      extends = extends_none shape specification turns right a.below a.reached.now.nodes;
      begun = begun_none a.from a.reached.now.nodes;
      room = c.requires.ready.room;
      full = record {
        many = omega (arith, c.if-len-self.true, c.len.ensures);
        more = node;
        new = c.has.ensures.new c.if-has.false;
        good = record { kept = c.requires.state; is_right = sym c.is_right.ensures ∙ c.if-not-is_right.false };
        begun = refl;
        linked = comes_from shape specification turns right a.below a.reached.now.nodes a.from node c.requires.ready.from refl refl c.requires.leads;
      };
    }

pub returns-in_err-add-clause-adds : goal.returns-in_err-add-clause-adds
returns-in_err-add-clause-adds g c =
    let a = c.args in
    let shape = g.M.Machine.shape a.self.now.machine.now in
    let specification = g.M.Machine.specification a.self.now.machine.now in
    let turns = g.M.Machine.turns a.self.now.machine.now in
    let right = g.M.Machine.right a.self.now.machine.now in
    subst (λ ns. AddsNodes shape specification turns right a.from a.below a.self.now.limit a.reached.now.nodes ns c.from_residual.result) (sym c.in_err-add.ensures.err) (record {
      extends = extends_none shape specification turns right a.below a.reached.now.nodes;
      begun = begun_none a.from a.reached.now.nodes;
      room = c.requires.ready.room;
      full = search rules;
    })

pub returns-clause-adds : goal.returns-clause-adds
returns-clause-adds g c =
    let a = c.args in
    let shape = g.M.Machine.shape a.self.now.machine.now in
    let specification = g.M.Machine.specification a.self.now.machine.now in
    let turns = g.M.Machine.turns a.self.now.machine.now in
    let right = g.M.Machine.right a.self.now.machine.now in
    let node : Node = record { state = a.state.now; from = a.from; depth = a.below } in
    let nodes = c.add.new.self in
    let longer : length nodes ≡ length a.reached.now.nodes + 1 = ap length c.in_ok-add.ensures.ok ∙ length-append a.reached.now.nodes (node ∷ []) in
    record {
      extends = extends_one shape specification turns right a.below a.reached.now.nodes nodes node c.in_ok-add.ensures.ok
          (record { kept = c.requires.state; is_right = sym c.is_right.ensures ∙ c.if-not-is_right.false })
          (inr (comes_from shape specification turns right a.below a.reached.now.nodes a.from node c.requires.ready.from refl refl c.requires.leads)) refl;
      begun = begun_one a.from a.reached.now.nodes nodes node c.in_ok-add.ensures.ok refl;
      room = omega (arith, longer, c.if-len-self.false, c.len.ensures);
      full = tt;
    }

pub returns-clause-known : goal.returns-clause-known
returns-clause-known g c = λ yes.
    let a = c.args in
    let node : Node = record { state = a.state.now; from = a.from; depth = a.below } in
    pushed_known (g.M.Machine.shape a.self.now.machine.now) a.reached.now.nodes c.add.new.self node a.below c.in_ok-add.ensures.ok (omega arith)
