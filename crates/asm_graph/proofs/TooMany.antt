-- Free. More states than are shown.
--     too_many          a state that no node has, beside those of as many nodes as there may be
--     first_too_many    the initial state, where there may be none
use Rattle.std.proofs.Common.{◌≡◌, ◌≢◌, ℕ, suc, ◌≤◌, Bool, List, [], ◌∷◌, ◌++◌, length, map, refl, sym, ap, arith}
use Rattle.std.proofs.lemmas.List.{length-map, length_push}
use Rattle.asm_state.specs.Location.{State}
use Rattle.asm_state.specs.Signature.{Shape, state_of}
use Rattle.asm_state.specs.code.Contents.{IsStateOf}
use Rattle.asm_state.specs.declared.value.Value.{Value}
use Rattle.asm_reader.specs.ExactLines.{exactly}
use Rattle.asm_meaning.specs.Run.{Specification}
use Rattle.asm_explore.specs.declared.outcomes.listed_outcome.Choice.{Choice}
use Rattle.asm_explore.specs.ExplorationResults.{IsReachedBy}
use Rattle.asm_explore.specs.code.OutcomeLists.{Each}
use Rattle.asm_explore.specs.code.ChoicePaths.{HaveOwnPaths}
use Rattle.asm_explore.specs.code.ReachedStates.{MakesAll}
use Rattle.asm_explore.specs.ChoiceLines.{lines_of}
use Rattle.asm_graph.specs.declared.graph.Node.{Node}
use Rattle.asm_graph.specs.Graphs.{AreTooMany, state_at}
use Rattle.asm_graph.specs.code.GraphSoFar.{AreNodesRight, AreShallow, IsLed, IsNodeRight}
use Rattle.asm_graph.proofs.MoreNodes.{differ}
use Rattle.asm_graph.proofs.Paired.{apart_push, each_append, each_weaker}
use Rattle.asm_graph.proofs.RunsAlongChoices.{led_reached}

module _ (makes : (back : List (List Choice)) → Each HaveOwnPaths back → MakesAll (exactly (lines_of back)) back)
    (shape : Shape) (specification : Specification) (turns : ℕ) (within : State → Bool) (steps : ℕ) where
  led_within : (depth : ℕ) (A : State) → depth ≤ steps → IsLed specification turns within depth A → IsReachedBy specification turns within steps A
  led_within depth A low led = let r = led_reached makes specification turns within depth A led in (r.0, r.1, omega (arith, r.2, low), r.3, r.4, r.5)

  all_within : (right rests : State → Bool) (nodes : List Node) → Each (IsNodeRight shape specification turns within right rests) nodes → AreShallow steps nodes
      → Each (IsReachedBy specification turns within steps) (map (state_at shape) nodes)
  all_within right rests [] kept shallow = tt
  all_within right rests (n ∷ nodes) kept shallow = (led_within n.depth (state_at shape n) shallow.0 kept.0.led, all_within right rests nodes kept.1 shallow.1)

  pub too_many : (right rests : State → Bool) (most depth : ℕ) (nodes : List Node) (next : List Value) → AreNodesRight shape specification turns within right rests steps most nodes
      → length nodes ≡ most → IsStateOf shape next → IsLed specification turns within depth (state_of shape next) → depth ≤ steps → Each (λ (m : Node). m.state ≢ next) nodes
      → AreTooMany specification turns within steps most
  too_many right rests most depth nodes next kept full whole led low fresh =
      let before = map (state_at shape) nodes in
      let next_state = state_of shape next in
      record {
        states = before ++ next_state ∷ [];
        count = omega (arith, length_push before next_state, length-map nodes (state_at shape), full);
        apart = apart_push before next_state kept.apart
            (differ shape nodes next (each_weaker (IsNodeRight shape specification turns within right rests) (λ (m : Node). IsStateOf shape m.state) (λ m h. h.kept) nodes kept.each) whole fresh);
        each = each_append (IsReachedBy specification turns within steps) before (next_state ∷ []) (all_within right rests nodes kept.each kept.shallow) (led_within depth next_state low led, tt);
      }

  pub first_too_many : (most : ℕ) → most ≡ 0 → AreTooMany specification turns within steps most
  first_too_many most none = record {
    states = specification.initial ∷ [];
    count = ap suc (sym none);
    apart = (tt, tt);
    each = (led_within 0 specification.initial (omega arith) ([], refl, refl), tt);
  }
