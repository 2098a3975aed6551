-- Free. A graph, by conditions that are the same.
--     kept_graph        nodes that choices lead to are nodes of a graph
--     same_graph        what is said of a graph by some conditions is said of it by others that are
--                       the same, and of too many outcomes otherwise
--     same_refusal      so it is of why there is none
use Rattle.std.proofs.Common.{◌≡◌, ℕ, Bool, List, Result, Ok, Err, length, ap, sym, subst, ◌∙◌}
use Rattle.std.specs.Prelude.{IfErr, IsErrAnd}
use Rattle.asm_reader.specs.ExactLines.{exactly}
use Rattle.asm_state.specs.Location.{State}
use Rattle.asm_state.specs.Signature.{Shape, count_of}
use Rattle.asm_meaning.specs.Run.{Specification}
use Rattle.asm_explore.specs.declared.outcomes.listed_outcome.Choice.{Choice}
use Rattle.asm_explore.specs.declared.outcomes.outcomes_error.RuleOverLimit.{RuleOverLimit}
use Rattle.asm_explore.specs.code.OutcomeLists.{Each}
use Rattle.asm_explore.specs.code.ChoicePaths.{HaveOwnPaths}
use Rattle.asm_explore.specs.code.ReachedStates.{MakesAll}
use Rattle.asm_explore.specs.ChoiceLines.{lines_of}
use Rattle.asm_graph.specs.declared.graph_error.GraphError.{GraphError}
use Rattle.asm_graph.specs.declared.graph.Graph.{Graph}
use Rattle.asm_graph.specs.declared.graph.Node.{Node}
use Rattle.asm_graph.specs.declared.graph.Step.{Step}
use Rattle.asm_graph.specs.declared.graph.Step.TheVariants as step
use Rattle.asm_graph.specs.Graphs.{AreFound, IsGraph, IsNode, IsRefusal, IsShown, Pairs, StandsAt, state_at}
use Rattle.asm_graph.specs.code.GraphSoFar.{AreNear, AreNodesRight, IsNodeRight}
use Rattle.asm_graph.proofs.LeastDepths.{are_least, is_complete}
use Rattle.asm_graph.proofs.RunsAlongChoices.{led_reached}
use Rattle.asm_graph.proofs.Paired.{each_weaker, got_same, pairs_length, pairs_weaker}

module _ (shape : Shape) (specification : Specification) (turns : ℕ) (within : State → Bool) where
  -- nodes that choices lead to, with their steps
  pub kept_graph : ((back : List (List Choice)) → Each HaveOwnPaths back → MakesAll (exactly (lines_of back)) back)
      → (crowds : State → RuleOverLimit → Type 0) (steps most : ℕ) (right rests : State → Bool) (graph : Graph)
      → (begins : StandsAt shape graph.nodes.items 0 specification.initial) → begins.0.depth ≡ 0 → AreNodesRight shape specification turns within right rests steps most graph.nodes.items
      → Pairs (IsShown shape specification turns within crowds steps graph.nodes.items) graph.nodes.items graph.steps.items
      → Pairs (AreNear graph.nodes.items) graph.nodes.items graph.steps.items → AreFound graph.nodes.items graph.steps.items
      → IsGraph shape specification turns within crowds steps most right rests graph
  kept_graph makes crowds steps most right rests graph begins shallow kept shown near found = record {
    begins = begins;
    at_first = λ n there. ap (λ (m : Node). m.depth) (got_same graph.nodes.items 0 n begins.0 there begins.1) ∙ shallow;
    each = each_weaker (IsNodeRight shape specification turns within right rests) (IsNode shape specification turns within right rests)
        (λ n h. record { reached = led_reached makes specification turns within n.depth (state_at shape n) h.led; is_right = h.is_right; is_rest = h.is_rest }) graph.nodes.items kept.each;
    onward = shown;
    found = found;
    complete = is_complete specification turns shape within crowds steps graph.nodes.items graph.steps.items shown near begins shallow;
    least = are_least specification turns shape within crowds steps graph.nodes.items graph.steps.items shown near begins shallow kept.apart kept.shallow;
    apart = kept.apart;
    rise = kept.rise;
    few = kept.few;
    whole = each_weaker (IsNodeRight shape specification turns within right rests) (λ (n : Node). length n.state ≡ count_of shape) (λ n h. h.kept.whole) graph.nodes.items kept.each;
    paired = pairs_length (IsShown shape specification turns within crowds steps graph.nodes.items) graph.nodes.items graph.steps.items shown;
  }

  module _ (crowds throngs : State → RuleOverLimit → Type 0) (f : (A : State) (crowd : RuleOverLimit) → crowds A crowd → throngs A crowd) (steps : ℕ) (nodes : List Node) where
    shown_otherwise : (n : Node) (s : Step) → IsShown shape specification turns within crowds steps nodes n s → IsShown shape specification turns within throngs steps nodes n s
    shown_otherwise n step.Cut h = h
    shown_otherwise n step.Crowded h = (h.0, h.1, (h.2.0, f (state_at shape n) h.2.0 h.2.1))
    shown_otherwise n (step.Edges es) h = h

  pub crowded_otherwise : (crowds throngs : State → RuleOverLimit → Type 0) → ((A : State) (crowd : RuleOverLimit) → crowds A crowd → throngs A crowd)
      → (steps most : ℕ) (right rests : State → Bool) (graph : Graph)
      → IsGraph shape specification turns within crowds steps most right rests graph → IsGraph shape specification turns within throngs steps most right rests graph
  crowded_otherwise crowds throngs f steps most right rests graph h = record {
    begins = h.begins;
    at_first = h.at_first;
    each = h.each;
    onward = pairs_weaker (IsShown shape specification turns within crowds steps graph.nodes.items) (IsShown shape specification turns within throngs steps graph.nodes.items)
        (shown_otherwise crowds throngs f steps graph.nodes.items) graph.nodes.items graph.steps.items h.onward;
    found = h.found;
    complete = h.complete;
    least = h.least;
    apart = h.apart;
    rise = h.rise;
    few = h.few;
    whole = h.whole;
    paired = h.paired;
  }

pub same_graph : (shape : Shape) (specification : Specification) (turns : ℕ) (crowds : State → RuleOverLimit → Type 0) (steps most : ℕ)
    (within right rests inside also rested : State → Bool) (graph : Graph)
    → ((A : State) → within A ≡ inside A) → ((A : State) → right A ≡ also A) → ((A : State) → rests A ≡ rested A)
    → IsGraph shape specification turns within crowds steps most right rests graph → IsGraph shape specification turns inside crowds steps most also rested graph
same_graph shape specification turns crowds steps most within right rests inside also rested graph same alike equal h =
    subst (λ (all : (State → Bool) × (State → Bool) × (State → Bool)). IsGraph shape specification turns all.0 crowds steps most all.1 all.2 graph)
    (λ i. ((λ A. same A i), (λ A. alike A i), (λ A. equal A i))) h

pub same_refusal : (specification : Specification) (turns steps most : ℕ) (within inside : State → Bool) (r : Result Graph GraphError) (e : GraphError)
    → IsErrAnd r (λ f. f ≡ e) → ((A : State) → within A ≡ inside A) → IsRefusal specification turns within steps most e → IfErr r (IsRefusal specification turns inside steps most)
same_refusal specification turns steps most within inside (Ok graph) e is same h = tt
same_refusal specification turns steps most within inside (Err f) e is same h =
    subst (λ (both : (State → Bool) × GraphError). IsRefusal specification turns both.0 steps most both.1) (λ i. ((λ A. same A i), sym is i)) h
