use Rattle.std.proofs.Common.{◌≡◌, ℕ, ◌+◌, Bool, List, refl, rules, ap, sym, subst, arith}
use Rattle.std.specs.Prelude.{Some, IfNone, IfSome, slice_get}
use Rattle.std.proofs.lemmas.Option.{slice_get_within}
use Rattle.asm_state.specs.Location.{State}
use Rattle.asm_state.specs.Signature.{Shape, state_of}
use Rattle.asm_meaning.specs.Run.{Specification}
use Rattle.asm_explore.specs.declared.outcomes.listed_outcome.ListedOutcome.{ListedOutcome}
use Rattle.asm_explore.specs.declared.search.BadOutcome.{BadOutcome}
use Rattle.asm_explore.specs.code.PackedNodes.{Node}
use Rattle.asm_explore.specs.code.OutcomeLists.{Shown, IsSound}
use Rattle.asm_explore.specs.code.ChoicePaths.{HaveOwnPaths}
use Rattle.asm_explore.specs.code.ReachedStates.{FollowsStep, IsOutcome, IsBadStep, steps_from, state_at}
use Rattle.asm_explore.proofs.OutcomeLemmas.ListLemmas.{each_weaker}
use Rattle.asm_explore.proofs.StateLemmas.AddedNodes.{can_add, deeper_extends, kept_state, stopped_expands}
use Rattle.asm_explore.proofs.StateLemmas.MoreNodes.{each_got, some_at}
use Rattle.asm_explore.proofs.search.Search.expand.Goals as goal

abbrev IsWrongAt : {M : Type 0} (shape : M → Shape) (specification : M → Specification) (turns : M → ℕ) (right rests : M → State → Bool) (m : M)
    → List Node → (from : ℕ) → List ListedOutcome → BadOutcome → Type 0
IsWrongAt shape specification turns right rests m nodes from outcomes b =
    (f : ListedOutcome) × (slice_get outcomes b.number ≡ Some f) × IsBadStep (shape m) (specification m) (turns m) (right m) (rests m) nodes from f.choices b.fault

pub overflow_add-below : goal.overflow_add-below
overflow_add-below g c =
    let n = some_at c.args.reached.now.nodes c.args.from c.requires.ready.from in
    omega (arith, c.requires.ready.shallow n.0 n.1, c.depth-below.ensures n.0 n.1)

pub follow_all-requires-clause-state : goal.follow_all-requires-clause-state
follow_all-requires-clause-state g c =
    let a = c.args in
    kept_state (g.M.Machine.shape a.self.now.machine.now) (g.M.Machine.right a.self.now.machine.now) a.from a.self.now.limit a.state.now a.reached.now.nodes c.requires.ready

pub follow_all-requires-clause-ready : goal.follow_all-requires-clause-ready
follow_all-requires-clause-ready g c =
    let a = c.args in
    can_add (g.M.Machine.shape a.self.now.machine.now) (g.M.Machine.right a.self.now.machine.now) a.from a.self.now.limit a.state.now a.reached.now.nodes c.requires.ready c.depth-below.result c.depth-below.ensures

pub follow_all-requires-clause-sound : goal.follow_all-requires-clause-sound
follow_all-requires-clause-sound g c =
    let a = c.args in
    let shape = g.M.Machine.shape a.self.now.machine.now in
    let specification = g.M.Machine.specification a.self.now.machine.now in
    let turns = g.M.Machine.turns a.self.now.machine.now in
    each_weaker (IsSound shape (steps_from specification turns (state_of shape a.state.now))) (IsOutcome shape specification turns a.reached.now.nodes a.from (c.depth-below.result + 1))
    (λ f sound n there.
    (ap (λ d. d + 1) (c.depth-below.ensures n there), subst (λ xs. IsSound shape (steps_from specification turns (state_of shape xs)) f) (sym (c.requires.ready.here n there)) sound))
    a.outcomes.now c.requires.step.lists.sound

pub choices_of-requires : goal.choices_of-requires
choices_of-requires g c =
    let a = c.args in
    let wrong : IsWrongAt g.M.Machine.shape g.M.Machine.specification g.M.Machine.turns g.M.Machine.right g.M.Machine.rests a.self.now.machine.now a.reached.now.nodes a.from a.outcomes.now c.in-Some.bad =
    subst (λ o. IfSome o (IsWrongAt g.M.Machine.shape g.M.Machine.specification g.M.Machine.turns g.M.Machine.right g.M.Machine.rests a.self.now.machine.now a.reached.now.nodes a.from a.outcomes.now)) c.in-Some.is c.in_ok-follow_all.ensures.wrong in
    slice_get_within a.outcomes.now c.in-Some.bad.number wrong.0 wrong.1

pub returns-in_err-follow_all : goal.returns-in_err-follow_all
returns-in_err-follow_all g c =
    let a = c.args in
    let shape = g.M.Machine.shape a.self.now.machine.now in
    let specification = g.M.Machine.specification a.self.now.machine.now in
    let turns = g.M.Machine.turns a.self.now.machine.now in
    let right = g.M.Machine.right a.self.now.machine.now in
    stopped_expands shape specification turns right a.from a.self.now.limit c.depth-below.result a.reached.now.nodes c.follow_all.new.reached.nodes c.depth-below.ensures (g.M.Machine.rests a.self.now.machine.now) _ c.follow_all.result c.follow_all.ensures.adds
    c.from_residual.result c.in_err-follow_all.field-0.0 c.in_err-follow_all.was c.from_residual.ensures.1

pub returns-in-None : goal.returns-in-None
returns-in-None g c =
    let a = c.args in
    let shape = g.M.Machine.shape a.self.now.machine.now in
    let specification = g.M.Machine.specification a.self.now.machine.now in
    let turns = g.M.Machine.turns a.self.now.machine.now in
    let right = g.M.Machine.right a.self.now.machine.now in
    record {
      extends = deeper_extends shape specification turns right a.from a.self.now.limit c.depth-below.result a.reached.now.nodes c.follow_all.new.reached.nodes c.depth-below.ensures c.in_ok-follow_all.ensures.adds.extends;
      begun = c.in_ok-follow_all.ensures.adds.begun;
      room = c.in_ok-follow_all.ensures.adds.room;
      expanded = λ n there s.
          let steps = steps_from (g.M.Machine.specification a.self.now.machine.now) (g.M.Machine.turns a.self.now.machine.now) in
          let deep = c.depth-below.ensures n there in
          let follows : FollowsStep shape a.reached.now.nodes c.follow_all.new.reached.nodes a.from (c.depth-below.result + 1) a.outcomes.now =
          subst (λ o. IfNone o (FollowsStep shape a.reached.now.nodes c.follow_all.new.reached.nodes a.from (c.depth-below.result + 1) a.outcomes.now)) c.in-None.is c.in_ok-follow_all.ensures.leads in
          let shallow : FollowsStep shape a.reached.now.nodes c.follow_all.new.reached.nodes a.from (n.depth + 1) a.outcomes.now =
          subst (λ d. FollowsStep shape a.reached.now.nodes c.follow_all.new.reached.nodes a.from (d + 1) a.outcomes.now) deep follows in
          shallow n (steps (state_at shape n) s) there
          (subst (λ xs. Shown shape a.outcomes.now (steps (state_of shape xs) s)) (sym (c.requires.ready.here n there)) (c.requires.step.lists.complete s));
      wrong = tt;
      apart = tt;
      full = tt;
    }

pub returns-in_err-choices-in-Some : goal.returns-in_err-choices-in-Some
returns-in_err-choices-in-Some g c =
    let a = c.args in
    let shape = g.M.Machine.shape a.self.now.machine.now in
    let specification = g.M.Machine.specification a.self.now.machine.now in
    let turns = g.M.Machine.turns a.self.now.machine.now in
    let right = g.M.Machine.right a.self.now.machine.now in
    record {
      extends = deeper_extends shape specification turns right a.from a.self.now.limit c.depth-below.result a.reached.now.nodes c.follow_all.new.reached.nodes c.depth-below.ensures c.in_ok-follow_all.ensures.adds.extends;
      begun = c.in_ok-follow_all.ensures.adds.begun;
      room = c.in_ok-follow_all.ensures.adds.room;
      expanded = search rules;
      wrong = search rules;
      apart = search rules;
      full = search rules;
    }

pub returns-in_ok-choices-in-Some : goal.returns-in_ok-choices-in-Some
returns-in_ok-choices-in-Some g c =
    let a = c.args in
    let shape = g.M.Machine.shape a.self.now.machine.now in
    let specification = g.M.Machine.specification a.self.now.machine.now in
    let turns = g.M.Machine.turns a.self.now.machine.now in
    let right = g.M.Machine.right a.self.now.machine.now in
    let wrong : IsWrongAt g.M.Machine.shape g.M.Machine.specification g.M.Machine.turns g.M.Machine.right g.M.Machine.rests a.self.now.machine.now a.reached.now.nodes a.from a.outcomes.now c.in-Some.bad =
    subst (λ o. IfSome o (IsWrongAt g.M.Machine.shape g.M.Machine.specification g.M.Machine.turns g.M.Machine.right g.M.Machine.rests a.self.now.machine.now a.reached.now.nodes a.from a.outcomes.now)) c.in-Some.is c.in_ok-follow_all.ensures.wrong in
    let same = sym (c.in_ok-choices-in-Some.ensures wrong.0 wrong.1) in
    record {
      extends = deeper_extends shape specification turns right a.from a.self.now.limit c.depth-below.result a.reached.now.nodes c.follow_all.new.reached.nodes c.depth-below.ensures c.in_ok-follow_all.ensures.adds.extends;
      begun = c.in_ok-follow_all.ensures.adds.begun;
      room = c.in_ok-follow_all.ensures.adds.room;
      expanded = tt;
      wrong = (refl, subst (λ cs. IsBadStep shape specification turns right (g.M.Machine.rests a.self.now.machine.now) a.reached.now.nodes a.from cs c.in-Some.bad.fault) same wrong.2);
      apart = subst HaveOwnPaths same (each_got (λ f. HaveOwnPaths f.choices) a.outcomes.now c.in-Some.bad.number wrong.0 c.requires.step.apart wrong.1);
      full = tt;
    }
