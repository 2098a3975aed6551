-- Free. The outcomes of a step, and what they lead to.
--     set_leads, set_fails, path_fails      what an outcome leads to, or its fault
--     leads_on                              the same of a signature that is the shape
--     some_situation                        a situation takes the choices of an outcome
--     goes_known, near_known, led_on        the state that it leads to is in a node, which is near,
--                                           and choices lead to it
--     outcome_at, edges_are, edges_near     the outcomes of a step, and edges that follow them
use Rattle.std.proofs.Common.{◌≡◌, ℕ, ◌+◌, ◌≤◌, Bool, true, List, [], ◌∷◌, refl, sym, ap, subst, ◌∙◌, arith}
use Rattle.std.specs.Prelude.{slice_get, Some}
use Rattle.asm_state.specs.declared.value.Value.{Value}
use Rattle.asm_state.specs.code.Contents.{IsStateOf}
use Rattle.asm_state.specs.Location.{State}
use Rattle.asm_state.specs.Signature.{Shape, count_of, state_of}
use Rattle.asm_state.specs.Updates.{UpdateSet, Fault, IsConsistent, IsFirstFault, fire}
use Rattle.asm_updates.specs.code.Stands.{Stands}
use Rattle.asm_reader.specs.ExactLines.{exactly}
use Rattle.asm_meaning.specs.Run.{Specification}
use Rattle.asm_meaning.specs.StoryLaws.{AreToldOutcomes}
use Rattle.asm_meaning.specs.Yields.{Path, Result, Gives, Exhausted}
use Rattle.asm_explore.specs.declared.outcomes.listed_outcome.RuleResult.TheVariants as answer
use Rattle.asm_explore.specs.declared.outcomes.listed_outcome.Choice.{Choice}
use Rattle.asm_explore.specs.declared.outcomes.listed_outcome.ListedOutcome.{ListedOutcome}
use Rattle.asm_explore.specs.declared.updates.Updates.{Updates}
use Rattle.asm_explore.specs.code.OutcomeLists.{Situation, AreTaken, Each, IsCounted, IsSound, Shows}
use Rattle.asm_explore.specs.code.ChoicePaths.{HaveOwnPaths}
use Rattle.asm_explore.specs.code.ReachedStates.{LeadBetween, MakesAll, steps_from}
use Rattle.asm_explore.specs.ChoiceLines.{lines_of}
use Rattle.asm_explore.specs.RunChoices.{chosen_from}
use Rattle.asm_explore.specs.Search.{LeadsOn}
use Rattle.asm_explore.specs.code.StepOutcomes.{IsStep}
use Rattle.asm_graph.specs.declared.graph.Edge.{Edge}
use Rattle.asm_graph.specs.declared.graph.EdgeEnd.TheVariants as target
use Rattle.asm_graph.specs.declared.graph.Node.{Node}
use Rattle.asm_graph.specs.declared.graph.StepFault.{StepFault}
use Rattle.asm_graph.specs.declared.graph.StepFault.TheVariants as kind
use Rattle.asm_graph.specs.Graphs.{AreEdges, GoesTo, HasFault, IsEdge, IsKind, Pairs, StandsAt, along}
use Rattle.asm_graph.specs.code.GraphSoFar.{AreShallow, FailsSo, HasContents, IsFollowed, IsLed, IsNear, IsOutcome, Leads}
use Rattle.asm_graph.proofs.OwnChoices.{AreMakingLaws, IsScriptLaw, chosen_along, chosen_apart, taken_along, yields_again}
use Rattle.asm_graph.proofs.Paired.{each_got, pairs_any, pairs_each}

-- ---- one outcome

pub set_leads : (shape : Shape) (set : Updates) (one : ListedOutcome) (from next : List Value) → one.answer ≡ answer.Set set
    → ((U : UpdateSet) → Stands shape set.set U → IsConsistent U)
    → ((U : UpdateSet) → Stands shape set.set U → IsConsistent U → state_of shape next ≡ fire (state_of shape from) U)
    → ((U : UpdateSet) → Stands shape set.set U → IsConsistent U → IsStateOf shape from → IsStateOf shape next)
    → IsStateOf shape from → Leads shape (state_of shape from) one next
set_leads shape set one from next is consistent fired kept whole = record {
  kept = λ r shows. by_kept r (subst (λ a. Shows shape a r) is shows);
  leads = λ r shows. by_led r (subst (λ a. Shows shape a r) is shows);
}
  where
    by_kept : (r : Result) → Shows shape (answer.Set set) r → IsStateOf shape next
    by_kept (Gives U) stands = kept U stands (consistent U stands) whole
    by_kept (Exhausted q) stands = absurd stands

    by_led : (r : Result) → Shows shape (answer.Set set) r → LeadsOn r (state_of shape from) (λ B. B ≡ state_of shape next)
    by_led (Gives U) stands = record {
      set = U;
      gives = refl;
      consistent = consistent U stands;
      leads = sym (fired U stands (consistent U stands));
    }
    by_led (Exhausted q) stands = absurd stands

pub set_fails : (shape : Shape) (set : Updates) (one : ListedOutcome) (f : StepFault) (fault : Fault) → one.answer ≡ answer.Set set
    → ((U : UpdateSet) → Stands shape set.set U → IsFirstFault U fault) → IsKind f fault → FailsSo shape one f
set_fails shape set one f fault is first same = λ r shows. by_result r (subst (λ a. Shows shape a r) is shows)
  where
    by_result : (r : Result) → Shows shape (answer.Set set) r → HasFault f r
    by_result (Gives U) stands = (fault, first U stands, same)
    by_result (Exhausted q) stands = absurd stands

pub path_fails : (shape : Shape) (p : Path) (one : ListedOutcome) → one.answer ≡ answer.Exhausted p → FailsSo shape one kind.Exhausted
path_fails shape p one is = λ r shows. by_result r (subst (λ a. Shows shape a r) is shows)
  where
    by_result : (r : Result) → Shows shape (answer.Exhausted p) r → HasFault kind.Exhausted r
    by_result (Gives U) h = absurd h
    by_result (Exhausted q) h = refl

pub leads_on : (signature shape : Shape) (from next : List Value) (one : ListedOutcome) → signature ≡ shape → Leads signature (state_of signature from) one next → Leads shape (state_of shape from) one next
leads_on signature shape from next one is h = subst (λ sh. Leads sh (state_of sh from) one next) is h

-- ---- an outcome of a step

-- a situation takes the choices of an outcome
pub some_situation : ((back : List (List Choice)) → Each HaveOwnPaths back → MakesAll (exactly (lines_of back)) back) → (cs : List Choice) → HaveOwnPaths cs → (s : Situation) × AreTaken s cs
some_situation makes cs apart = (record { script = exactly (lines_of (cs ∷ [])); step = 1 }, (makes (cs ∷ []) (apart, tt)).0)

module _ (shape : Shape) (specification : Specification) (turns : ℕ) (A : State) (one : ListedOutcome) (next : List Value)
    (outcome : IsOutcome shape specification turns A one) (leads : Leads shape A one next) where
  pub between : LeadBetween specification turns A (state_of shape next) one.choices
  between = record { apart = outcome.apart; leads = λ s taken. leads.leads (steps_from specification turns A s) (outcome.sound s taken) }

  pub led_on : (within : State → Bool) (depth : ℕ) → within A ≡ true → IsLed specification turns within depth A → IsLed specification turns within (depth + 1) (state_of shape next)
  led_on within depth inside led = (one.choices ∷ led.0, omega (arith, led.1), (A, led.2, inside, between))

  pub whole_next : ((back : List (List Choice)) → Each HaveOwnPaths back → MakesAll (exactly (lines_of back)) back) → IsStateOf shape next
  whole_next makes =
      let s = some_situation makes one.choices outcome.apart in
      leads.kept (steps_from specification turns A s.0) (outcome.sound s.0 s.1)

-- the state that it leads to is in a node
pub goes_known : (shape : Shape) (A : State) (one : ListedOutcome) (next : List Value) (nodes : List Node) (k : ℕ) → Leads shape A one next → HasContents nodes k next
    → (r : Result) → Shows shape one.answer r → LeadsOn r A (StandsAt shape nodes k)
goes_known shape A one next nodes k leads there r shows =
    let so = leads.leads r shows in
    record { set = so.set; gives = so.gives; consistent = so.consistent; leads = (there.0, there.1, ap (state_of shape) there.2 ∙ sym so.leads) }

pub near_known : (depth : ℕ) (next : List Value) (nodes : List Node) (k : ℕ) → HasContents nodes k next → AreShallow depth nodes → IsNear nodes depth (target.Node k)
near_known depth next nodes k there shallow = (there.0, there.1, each_got (λ (n : Node). n.depth ≤ depth) nodes k there.0 shallow there.1)

-- ---- the outcomes of a step

module _ (shape : Shape) (specification : Specification) (turns : ℕ) (A : State) (outcomes : List ListedOutcome) (step : IsStep shape specification turns A outcomes) where
  pub outcome_at : (k : ℕ) (one : ListedOutcome) → slice_get outcomes k ≡ Some one → IsOutcome shape specification turns A one
  outcome_at k one there = record {
    counted = each_got (λ (f : ListedOutcome). IsCounted (count_of shape) f.answer) outcomes k one step.lists.counted there;
    sound = each_got (IsSound shape (steps_from specification turns A)) outcomes k one step.lists.sound there;
    apart = each_got (λ (f : ListedOutcome). HaveOwnPaths f.choices) outcomes k one step.apart there;
  }

  module _ (nodes : List Node) (depth : ℕ) (edges : List Edge) (follow : Pairs (IsFollowed shape specification turns nodes A depth) outcomes edges) where
    abbrev Follows : ListedOutcome → Edge → Type 0
    Follows f e = IsFollowed shape specification turns nodes A depth f e

    abbrev Fine : ListedOutcome → Type 0
    Fine f = HaveOwnPaths f.choices × IsSound shape (steps_from specification turns A) f

    -- the step along an outcome has its result, and so has each that takes the choices which it makes
    edge_is : IsScriptLaw → AreMakingLaws → AreToldOutcomes → (f : ListedOutcome) (e : Edge) → Follows f e → Fine f → IsEdge shape specification turns nodes A e
    edge_is makes making told f e followed fine =
        let s = along f.choices in
        let shows = fine.1 s (taken_along makes f.choices fine.0) in
        record {
          apart = subst HaveOwnPaths (sym followed.choices) (chosen_apart making specification turns A s);
          own = followed.choices ∙ sym (chosen_along making specification turns A makes s) ∙ ap (λ cs. chosen_from specification turns A (along cs)) (sym followed.choices);
          goes = λ t taken.
              let again = yields_again making specification turns A s t (subst (AreTaken t) followed.choices taken) told in
              followed.goes (steps_from specification turns A t) (subst (Shows shape f.answer) (sym again) shows);
        }

    pub edges_are : IsScriptLaw → AreMakingLaws → AreToldOutcomes → AreEdges shape specification turns nodes A edges
    edges_are makes making told = record {
      each = pairs_each Follows Fine (IsEdge shape specification turns nodes A) (edge_is makes making told) outcomes edges follow (both outcomes step.apart step.lists.sound);
      all = λ s.
          let r = steps_from specification turns A s in
          pairs_any Follows (λ (f : ListedOutcome). Shows shape f.answer r) (λ (e : Edge). GoesTo shape nodes A r e.to) (λ f e followed shows. followed.goes r shows) outcomes edges follow (step.lists.complete s);
    }
      where
        both : (fs : List ListedOutcome) → Each (λ (f : ListedOutcome). HaveOwnPaths f.choices) fs → Each (IsSound shape (steps_from specification turns A)) fs → Each Fine fs
        both [] h g = tt
        both (f ∷ fs) h g = ((h.0, g.0), both fs h.1 g.1)

    pub edges_near : Each (λ (e : Edge). IsNear nodes depth e.to) edges
    edges_near = pairs_each Follows (λ (f : ListedOutcome). HaveOwnPaths f.choices) (λ (e : Edge). IsNear nodes depth e.to) (λ f e followed fine. followed.near) outcomes edges follow step.apart
