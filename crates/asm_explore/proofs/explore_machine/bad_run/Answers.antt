use Rattle.std.proofs.Common.{◌-◌, ◌≡◌, ◌≤◌, ℕ, suc, ◌+◌, ◌∷◌, map, length, sym, ap, subst, ◌∙◌, arith, None, Option, Some, String, Vec, Global}
use Rattle.std.specs.Prelude.{slice_get, IfNone, IfSome}
use Rattle.std.specs.String.{string_bytes}
use Rattle.std.proofs.lemmas.List.{length-map}
use Rattle.asm_reader.specs.ExactLines.{exactly}
use Rattle.asm_explore.specs.declared.outcomes.listed_outcome.Choice.{Choice}
use Rattle.asm_explore.specs.declared.outcomes.outcomes_error.RuleOverLimit.{RuleOverLimit}
use Rattle.asm_explore.specs.ChosenLines.{AreTooLong, IsChosenText, chosen_lines}
use Rattle.asm_explore.specs.ExplorationResults.{IsSafeIf, beyond, known_to}
use Rattle.asm_explore.specs.StateLists.{IsAmongFirst}
use Rattle.asm_explore.specs.code.Deadlocks.{before}
use Rattle.asm_explore.specs.code.SearchEnds.{HaltsSo}
use Rattle.asm_explore.specs.code.PackedNodes.{Node}
use Rattle.asm_explore.specs.code.ReachedStates.{AtNode, MakesAll, state_at}
use Rattle.asm_explore.specs.code.StepOutcomes.{IsOverLimitOf}
use Rattle.asm_explore.specs.ChoiceLines.{lines_of}
use Rattle.asm_explore.specs.Search.{GoesWrongIn, HoldsBefore, StaysWithin, steps_to}
use Rattle.asm_explore.proofs.StateLemmas.LastStates.{beyond_before, limited_to, safe_before}
use Rattle.asm_explore.proofs.StateLemmas.LookedStates.{holds_less, known_before}
use Rattle.asm_explore.proofs.StateLemmas.RunsToNodes.{node_reached}
use Rattle.asm_explore.proofs.StateLemmas.SameRuns.{stays_alike, wrong_alike}
use Rattle.asm_explore.proofs.ScriptLemmas.ScriptToState.{lines_make}
use Rattle.asm_explore.proofs.OutcomeLemmas.LeadingOutcomes.{leads_apart}
use Rattle.asm_explore.proofs.explore_machine.bad_run.Goals as goal

some : {X : Type 0} (o : Option X) (x : X) (P : X → Type 0) → o ≡ Some x → IfSome o P → P x
some o x P is h = subst (λ it. IfSome it P) is h

nothing : {X : Type 0} (o : Option X) (P : Type 0) → o ≡ None → IfNone o P → P
nothing o P is h = subst (λ it. IfNone it P) is h

pub steps_to-requires : goal.steps_to-requires
steps_to-requires g c other =
    let n = c.requires.wrong.from in
    omega (arith, (c.requires.deep n c.requires.wrong.there).0, (c.requires.deep n c.requires.wrong.there).1 other)

pub returns-in-Some-clause-claims : goal.returns-in-Some-clause-claims
returns-in-Some-clause-claims g c = λ limit states.
    let a = c.args in
    let specification = g.M.Machine.specification a.machine.now in
    let turns = g.M.Machine.turns a.machine.now in
    let right = g.M.Machine.right a.machine.now in
    let rests = g.M.Machine.rests a.machine.now in
    let within = g.M.Machine.within a.machine.now in
    let fault = a.bad.fault in
    let step = c.from.result + 1 in
    let n = c.requires.wrong.from in
    let trail = map (λ (cs : Vec Choice Global). cs.items) c.in-Ok.trail.items in
    let leads = c.in-Ok.ensures.leads n c.requires.wrong.there in
    let back = a.bad.choices.items ∷ trail in
    let said = map (λ (cs : Vec Choice Global). cs.items) c.as_slice.result.now in
    let same : said ≡ back = ap (map (λ (cs : Vec Choice Global). cs.items)) (c.as_slice.ensures.value ∙ c.in_ok-back.ensures) in
    let script = exactly (lines_of said) in
    let makes : MakesAll script back = subst (λ b. MakesAll (exactly (lines_of b)) back) (sym same)
    (lines_make back (c.requires.wrong.apart, leads_apart specification turns within trail (state_at (g.M.Machine.shape a.machine.now) n) leads)) in
    let both = c.requires.wrong.wrong trail leads script makes in
    let count : suc (length trail) ≡ step =
    omega (arith, length-map c.in-Ok.trail.items (λ (cs : Vec Choice Global). cs.items), c.in-Ok.ensures.deep n c.requires.wrong.there, (c.requires.deep n c.requires.wrong.there).0, c.from.ensures) in
    let wrong = subst (GoesWrongIn specification turns right rests script fault) count both.0 in
    let stays = subst (StaysWithin specification turns within script) count both.1 in
    let steps : c.steps_to.result ≡ steps_to fault step = c.steps_to.ensures ∙ ap (λ k. steps_to fault (k + 1)) (sym c.from.ensures) in
    let limited = limited_to fault step a.steps (omega (arith, c.from.ensures, c.requires.low))
    (λ other. omega (arith, c.from.ensures, (c.requires.deep n c.requires.wrong.there).0, (c.requires.deep n c.requires.wrong.there).1 other)) in
    let bytes = string_bytes c.in-Some.script in
    let found = some c.in_ok-script.field-0 c.in-Some.script (λ (text : String Global). IsChosenText specification turns script c.steps_to.result (string_bytes text)) c.in-Some.is c.in_ok-script.ensures.some in
    let chosen = subst (λ k. IsChosenText specification turns script k bytes) steps found in
    record {
      lines = chosen.lines;
      text = chosen.is;
      spelled = chosen.spelled;
      chosen = chosen.chosen;
      wrong = wrong_alike specification turns right rests (exactly chosen.lines) script fault step chosen.again wrong;
      stays = stays_alike specification turns within (exactly chosen.lines) script fault step chosen.again stays;
      earliest = record {
        limited = limited;
        before = a.whole;
        next = omega (arith, c.from.ensures);
        fine = c.requires.safe;
        alive = c.requires.alive;
        outranked = c.requires.outranked;
      };
    }

pub returns-clause-claims : goal.returns-clause-claims
returns-clause-claims g c = λ limit states.
    let a = c.args in
    let specification = g.M.Machine.specification a.machine.now in
    let turns = g.M.Machine.turns a.machine.now in
    let right = g.M.Machine.right a.machine.now in
    let rests = g.M.Machine.rests a.machine.now in
    let within = g.M.Machine.within a.machine.now in
    let fault = a.bad.fault in
    let step = c.from.result + 1 in
    let n = c.requires.wrong.from in
    let trail = map (λ (cs : Vec Choice Global). cs.items) c.in-Ok.trail.items in
    let leads = c.in-Ok.ensures.leads n c.requires.wrong.there in
    let back = a.bad.choices.items ∷ trail in
    let said = map (λ (cs : Vec Choice Global). cs.items) c.as_slice.result.now in
    let same : said ≡ back = ap (map (λ (cs : Vec Choice Global). cs.items)) (c.as_slice.ensures.value ∙ c.in_ok-back.ensures) in
    let script = exactly (lines_of said) in
    let makes : MakesAll script back = subst (λ b. MakesAll (exactly (lines_of b)) back) (sym same)
    (lines_make back (c.requires.wrong.apart, leads_apart specification turns within trail (state_at (g.M.Machine.shape a.machine.now) n) leads)) in
    let both = c.requires.wrong.wrong trail leads script makes in
    let count : suc (length trail) ≡ step =
    omega (arith, length-map c.in-Ok.trail.items (λ (cs : Vec Choice Global). cs.items), c.in-Ok.ensures.deep n c.requires.wrong.there, (c.requires.deep n c.requires.wrong.there).0, c.from.ensures) in
    let wrong = subst (GoesWrongIn specification turns right rests script fault) count both.0 in
    let stays = subst (StaysWithin specification turns within script) count both.1 in
    let steps : c.steps_to.result ≡ steps_to fault step = c.steps_to.ensures ∙ ap (λ k. steps_to fault (k + 1)) (sym c.from.ensures) in
    let limited = limited_to fault step a.steps (omega (arith, c.from.ensures, c.requires.low))
    (λ other. omega (arith, c.from.ensures, (c.requires.deep n c.requires.wrong.there).0, (c.requires.deep n c.requires.wrong.there).1 other)) in
    record {
      script = script;
      wrong = wrong;
      stays = stays;
      long = subst (λ k. AreTooLong (chosen_lines specification turns script k)) steps
          (nothing c.in_ok-script.field-0 (AreTooLong (chosen_lines specification turns script c.steps_to.result)) c.in-None.is c.in_ok-script.ensures.none);
      earliest = record {
        limited = limited;
        before = a.whole;
        next = omega (arith, c.from.ensures);
        fine = c.requires.safe;
        alive = c.requires.alive;
        outranked = c.requires.outranked;
      };
    }

pub returns-in-Err-Outcomes-clause-claims : goal.returns-in-Err-Outcomes-clause-claims
returns-in-Err-Outcomes-clause-claims g c = λ limit states.
    let a = c.args in
    let shape = g.M.Machine.shape a.machine.now in
    let specification = g.M.Machine.specification a.machine.now in
    let turns = g.M.Machine.turns a.machine.now in
    let within = g.M.Machine.within a.machine.now in
    let wrong = c.requires.wrong in
    let crowds = IsOverLimitOf (g.M.Machine.made a.machine.now) (g.M.Machine.limit a.machine.now) in
    let said = subst (HaltsSo ⊥ (λ (crowd : RuleOverLimit). (n : Node) → slice_get a.nodes.now a.bad.from ≡ Some n → (number : ℕ) × AtNode shape crowds a.nodes.now number n.depth crowd))
    c.in-Err-Outcomes.field-0-is c.in-Err-Outcomes.ensures.crowded wrong.from wrong.there in
    let n = said.1.0 in
    let fine = safe_before specification turns crowds a.steps limit (g.M.Machine.right a.machine.now) (g.M.Machine.rests a.machine.now) within shape a.nodes.now a.whole c.requires.safe c.requires.alive in
    let safe = c.before-in-Err-Outcomes.result in
    let same : before a.whole ≡ safe = sym c.before-in-Err-Outcomes.ensures in
    let shallow : n.depth ≤ beyond (before a.whole) = omega (arith, said.1.2, (c.requires.deep wrong.from wrong.there).0, beyond_before a.whole) in (
      subst (IsSafeIf specification turns crowds a.steps limit (g.M.Machine.right a.machine.now) (g.M.Machine.rests a.machine.now) within) same fine,
      (
        state_at shape n,
        node_reached shape specification turns within a.nodes.now c.requires.linked c.requires.inside (beyond safe) said.0 n said.1.1 (subst (λ s. n.depth ≤ beyond s) same shallow),
        subst (crowds (state_at shape n)) (sym c.in-Err-Outcomes.crowd-is) said.1.3,
      ),
    )

pub returns-in-Some-clause-through : goal.returns-in-Some-clause-through
returns-in-Some-clause-through g c = λ number states holds.
    let looked = IsAmongFirst number states in
    holds_less (g.M.Machine.specification c.args.machine.now) (g.M.Machine.turns c.args.machine.now) (g.M.Machine.within c.args.machine.now) looked
    (c.from.result + 1 - 1) c.args.whole (omega (arith, c.from.ensures)) holds

pub returns-clause-through : goal.returns-clause-through
returns-clause-through g c = λ number states holds.
    let looked = IsAmongFirst number states in
    holds_less (g.M.Machine.specification c.args.machine.now) (g.M.Machine.turns c.args.machine.now) (g.M.Machine.within c.args.machine.now) looked
    (c.from.result + 1 - 1) c.args.whole (omega (arith, c.from.ensures)) holds

pub returns-in-Err-Outcomes-clause-through : goal.returns-in-Err-Outcomes-clause-through
returns-in-Err-Outcomes-clause-through g c = λ number states holds.
    let looked = IsAmongFirst number states in
    let specification = g.M.Machine.specification c.args.machine.now in
    let turns = g.M.Machine.turns c.args.machine.now in
    let within = g.M.Machine.within c.args.machine.now in
    let same : c.before-in-Err-Outcomes.result ≡ before c.args.whole = c.before-in-Err-Outcomes.ensures in
    subst (λ safe. HoldsBefore specification turns within looked (known_to safe)) (sym same)
    (holds_less specification turns within looked (known_to (before c.args.whole)) c.args.whole (known_before c.args.whole) holds)
