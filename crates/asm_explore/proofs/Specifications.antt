-- Free. A resolved specification's step.
--     step_is             what the code of the main rule yields is the step of the specification
--     agrees_nothing      with no name bound
--     refused_listed      a refusal of the main rule's outcomes is one of the step's
--     same_rule_result    what a result says of some conditions it says of others that are the
--                         same, and what it says of too many outcomes is said otherwise
use Rattle.std.proofs.Common.{◌≡◌, ℕ, Bool, List, [], inl, inr, refl, ap, subst, ◌∙◌, Vec, Global, sym}
use Rattle.asm_state.specs.Location.{State}
use Rattle.asm_state.specs.Signature.{Shape, state_of}
use Rattle.asm_state.specs.Updates.{UpdateSet, IsConsistent, none, fire}
use Rattle.asm_state.specs.declared.value.Value.{Value}
use Rattle.asm_state.proofs.UpdateLemmas.Summaries.{fire_laws}
use Rattle.asm_updates.specs.code.SummaryRanges.{SummaryRanges}
use Rattle.asm_updates.specs.code.Stands.{Stands}
use Rattle.asm_meaning.specs.Program.{Program, nothing_bound}
use Rattle.asm_meaning.specs.Run.{Specification, run}
use Rattle.asm_meaning.specs.Value.{Reading}
use Rattle.asm_resolve.specs.code.ResolvedTerms.{Agrees}
use Rattle.asm_explore.specs.Search.{IsAliveOrCrowded}
use Rattle.asm_explore.specs.ExplorationResults.{Claims, IsEarliest, IsExplorationResult, IsSafeIf}
use Rattle.asm_explore.specs.declared.fault.Fault.{Fault}
use Rattle.asm_explore.specs.declared.exploration_result.ExplorationResult.{ExplorationResult}
use Rattle.asm_explore.specs.declared.exploration_result.Finding.{Finding}
use Rattle.asm_explore.specs.declared.exploration_result.Finding.TheVariants as finding
use Rattle.asm_explore.specs.declared.outcomes.outcomes_error.RuleOverLimit.{RuleOverLimit}
use Rattle.asm_explore.proofs.OutcomeLemmas.SequenceOutcomes.{none_consistent}
use Rattle.std.specs.Prelude.{Option, Some, None, Result as Returned, Ok, Err}
use Rattle.std.specs.Result.{IsErrAnd}
use Rattle.asm_explore.specs.declared.outcomes.listed_outcome.Choice.{Choice}
use Rattle.asm_explore.specs.declared.outcomes.listed_outcome.ListedOutcome.{ListedOutcome}
use Rattle.asm_explore.specs.declared.outcomes.outcomes_error.OutcomesError.{OutcomesError}
use Rattle.asm_explore.specs.code.OverLimit.{Refuses}
use Rattle.asm_explore.specs.code.OutcomeLists.{Situation}
use Rattle.asm_explore.specs.code.ChoicesMade.{AreMade, IsWay}
use Rattle.asm_explore.specs.code.ChoicePaths.{HaveOwnPaths}
use Rattle.asm_explore.specs.code.StepOutcomes.{IsListed}
use Rattle.asm_explore.proofs.ChoiceLemmas.MadeChoices.{made_same}
use Rattle.asm_explore.proofs.OutcomeLemmas.RefusedParts.{refuses_weaker}

pub agrees_nothing : (program : Program) (rs : List Reading) → Agrees program [] nothing_bound rs
agrees_nothing program rs = record { bound = λ x i is. cc; free = λ x is. refl }

-- a refusal to list the outcomes of a rule at the top is one to list those of a step
pub refused_listed : (shape : Shape) (specification : Specification) (turns : ℕ) (makes : State → Situation → List Choice) (limit : ℕ) (A : State)
    (returned : Returned (Vec ListedOutcome Global) OutcomesError) (e : OutcomesError) → IsErrAnd returned (λ again. again ≡ e) → (m : Situation → List Choice) → ((s : Situation) → m s ≡ makes A s)
    → Refuses limit (λ p. IsWay [] m) e → IsListed shape specification turns makes limit A returned
refused_listed shape specification turns makes limit A (Ok fs) e same m is refuses = absurd same
refused_listed shape specification turns makes limit A (Err again) e same m is refuses = record {
  step = tt;
  refuses = subst (Refuses limit (λ p cs. HaveOwnPaths cs × AreMade (makes A) cs)) (sym same)
      (refuses_weaker limit (IsWay [] m) (λ cs. HaveOwnPaths cs × AreMade (makes A) cs) (λ cs h. (h.placed.apart, made_same m (makes A) is cs h.made)) e refuses);
}

module _ (specification : Specification) (turns : ℕ) (crowds throngs : State → RuleOverLimit → Type 0) (f : (A : State) (crowd : RuleOverLimit) → crowds A crowd → throngs A crowd) (steps limit : ℕ) where
  safe_more : (right rests within : State → Bool) (safe : Option ℕ) → IsSafeIf specification turns crowds steps limit right rests within safe → IsSafeIf specification turns throngs steps limit right rests within safe
  safe_more right rests within None h = h
  safe_more right rests within (Some depth) h = h

  earliest_more : (right rests within : State → Bool) (kind : Fault) (step : ℕ) → IsEarliest specification turns crowds steps limit right rests within kind step → IsEarliest specification turns throngs steps limit right rests within kind step
  earliest_more right rests within kind step h = record {
    limited = h.limited;
    before = h.before;
    next = h.next;
    fine = h.fine;
    alive = h.alive;
    outranked = λ other script k less stays. by_alive right rests within (run specification turns script k).last (h.outranked other script k less stays);
  }
    where
      by_alive : (right rests within : State → Bool) (A : State) → IsAliveOrCrowded specification turns crowds rests A → IsAliveOrCrowded specification turns throngs rests A
      by_alive right rests within A (inl alive) = inl alive
      by_alive right rests within A (inr crowded) = inr (crowded.0, f A crowded.0 crowded.1)

  claims_more : (right rests within : State → Bool) (states : List State) (finding : Finding)
      → Claims specification turns crowds steps limit right rests within states finding → Claims specification turns throngs steps limit right rests within states finding
  claims_more right rests within states finding.Closed h = h
  claims_more right rests within states (finding.SafeTo depth) h = h
  claims_more right rests within states (finding.BadStep bad) h = record {
    lines = h.lines;
    text = h.text;
    spelled = h.spelled;
    chosen = h.chosen;
    wrong = h.wrong;
    stays = h.stays;
    earliest = earliest_more right rests within bad.fault bad.step h.earliest;
  }
  claims_more right rests within states finding.WrongFirst h = h
  claims_more right rests within states (finding.TooManyStates safe) h = (h.0, safe_more right rests within safe h.1, h.2)
  claims_more right rests within states (finding.TooManyOutcomes safe crowd) h = (safe_more right rests within safe h.0, (h.1.0, h.1.1, f h.1.0 crowd h.1.2))
  claims_more right rests within states (finding.NoMemory safe) h = safe_more right rests within safe h
  claims_more right rests within states (finding.Unwritten unwritten) h = record {
    script = h.script;
    wrong = h.wrong;
    stays = h.stays;
    long = h.long;
    earliest = earliest_more right rests within unwritten.fault unwritten.step h.earliest;
  }

  pub same_rule_result : (right rests within also rested inside : State → Bool) (answer : ExplorationResult)
      → ((A : State) → right A ≡ also A) → ((A : State) → rests A ≡ rested A) → ((A : State) → within A ≡ inside A)
      → IsExplorationResult specification turns crowds steps limit right rests within answer → IsExplorationResult specification turns throngs steps limit also rested inside answer
  same_rule_result right rests within also rested inside answer same alike equal h =
      subst (λ (all : (State → Bool) × (State → Bool) × (State → Bool)). IsExplorationResult specification turns throngs steps limit all.0 all.1 all.2 answer)
      (λ i. ((λ A. same A i), (λ A. alike A i), (λ A. equal A i)))
      (record {
        found = claims_more right rests within h.reached answer.finding h.found;
        reached = h.reached;
        different = h.different;
        count = h.count;
        room = h.room;
        reach = h.reach;
        looked = h.looked;
        quiet = h.quiet;
        through = h.through;
        rest = h.rest;
      })
