-- Free. The edges that a run takes are those of the run.
--     none_found              what isn't found in a list isn't there
--     takes_taken, taken_takes    who takes the choices of an edge
--     edge_made               an edge that is taken has the choices that the step makes
--     way_law                 they are those of the run
use Rattle.std.proofs.Common.{◌≡◌, ◌∙◌, ◌≤◌, ◌+◌, ℕ, zero, suc, Bool, true, false, cond, not, List, [], ◌∷◌, length, Option, None, Some, get_or, refl, sym, ap, subst, arith}
use Rattle.std.specs.Prelude.{◌&&◌, ◌==◌, nat_lt, slice_get}
use Rattle.std.specs.List.{list_all, position, position_or_len}
use Rattle.std.proofs.lemmas.Bool.{ltb-false}
use Rattle.std.proofs.lemmas.List.Quantifiers.{position-Some}
use Rattle.std.proofs.lemmas.Option.{slice_get-get_or}
use Rattle.asm_state.specs.Location.{State}
use Rattle.asm_state.specs.Signature.{Shape}
use Rattle.asm_state.specs.Updates.{fire}
use Rattle.asm_reader.specs.ScriptLines.{Script}
use Rattle.asm_meaning.specs.Run.{Specification}
use Rattle.asm_meaning.specs.Yields.{Result}
use Rattle.asm_explore.specs.declared.outcomes.listed_outcome.Choice.{Choice}
use Rattle.asm_explore.specs.declared.outcomes.outcomes_error.RuleOverLimit.{RuleOverLimit}
use Rattle.asm_explore.specs.ListElements.{Each}
use Rattle.asm_explore.specs.RunChoices.{chosen_from}
use Rattle.asm_explore.specs.TakenChoices.{AreTaken, Situation, picked, steps_from}
use Rattle.asm_explore.specs.TooManyOutcomes.{IsCrowded}
use Rattle.asm_graph.specs.declared.graph.Edge.{Edge}
use Rattle.asm_graph.specs.declared.graph.EdgeEnd.{EdgeEnd}
use Rattle.asm_graph.specs.declared.graph.EdgeEnd.TheVariants as target
use Rattle.asm_graph.specs.declared.graph.Node.{Node}
use Rattle.asm_graph.specs.declared.graph.Step.{Step}
use Rattle.asm_graph.specs.declared.graph.Step.TheVariants as step
use Rattle.asm_graph.specs.Graphs.{AreEdges, GoesTo, IsEdge, IsShown, Pairs, StandsAt, along, state_at}
use Rattle.asm_graph.specs.Paths.{edges_at, edges_shown, node_then, taken_edge, takes, walk}
use Rattle.asm_graph.specs.WayLaw.{GoesOnTo, IsMissed, IsWayFrom, WayLaw}
use Rattle.asm_graph.proofs.OwnChoices.{AreMakingLaws, chosen_again}
use Rattle.asm_graph.proofs.Paired.{each_got, each_weaker, pairs_at}
use Rattle.asm_graph.proofs.WalkLemmas.{walk_ends, walk_takes}

-- ---- what is found in a list

module _ {X : Type 0} (p : X → Bool) where
  past_all : (xs : List X) → length xs ≤ position_or_len p xs → Each (λ x. p x ≡ false) xs
  past_all [] past = tt
  past_all (x ∷ xs) past = by_test (p x) refl past (past_all xs)
    where
      by_test : (b : Bool) → p x ≡ b → suc (length xs) ≤ cond (not b) (1 + position_or_len p xs) 0 → (length xs ≤ position_or_len p xs → Each (λ x. p x ≡ false) xs)
          → (p x ≡ false) × Each (λ x. p x ≡ false) xs
      by_test true is past others = absurd (omega (arith, past))
      by_test false is past others = (is, others (omega (arith, past)))

  pub none_found : (xs : List X) → position p xs ≡ None → Each (λ x. p x ≡ false) xs
  none_found xs none = by_test (nat_lt (position_or_len p xs) (length xs)) refl none
    where
      by_test : (b : Bool) → nat_lt (position_or_len p xs) (length xs) ≡ b → cond b (Some (position_or_len p xs)) None ≡ None → Each (λ x. p x ≡ false) xs
      by_test true is same = cc
      by_test false is same = past_all xs (omega (arith, ltb-false (position_or_len p xs) (length xs) is))

  pub found_at : (xs : List X) (k : ℕ) → position p xs ≡ Some k → (x : X) × (slice_get xs k ≡ Some x) × (p x ≡ true)
  found_at [] k found = cc
  found_at (x ∷ xs) k found =
      let found_so = position-Some p (x ∷ xs) k x found in
      (get_or (x ∷ xs) k x, slice_get-get_or (x ∷ xs) k x found_so.0, found_so.1)

-- ---- choices that are taken

both : (a b : Bool) → (a && b) ≡ true → (a ≡ true) × (b ≡ true)
both true b h = (refl, h)
both false b h = cc

equal_from : (m n : ℕ) → (m == n) ≡ true → m ≡ n
equal_from m n h = grind (arith, h)

test_from : (m n : ℕ) → m ≡ n → (m == n) ≡ true
test_from m n h = grind (arith, h)

module _ (s : Situation) where
  each_taken : (cs : List Choice) → list_all (λ c. picked s c.path == c.number) cs ≡ true → AreTaken s cs
  each_taken [] h = tt
  each_taken (c ∷ cs) h =
      let so = both (picked s c.path == c.number) (list_all (λ c. picked s c.path == c.number) cs) h in
      (equal_from (picked s c.path) c.number so.0, each_taken cs so.1)

  all_taken : (cs : List Choice) → AreTaken s cs → list_all (λ c. picked s c.path == c.number) cs ≡ true
  all_taken [] h = refl
  all_taken (c ∷ cs) h = ap (λ b. b && list_all (λ c. picked s c.path == c.number) cs) (test_from (picked s c.path) c.number h.0) ∙ all_taken cs h.1

  not_taken : (e : Edge) → takes s e ≡ false → ¬ (AreTaken s e.choices.items)
  not_taken e untaken taken = let all : takes s e ≡ true = all_taken e.choices.items taken in cc

-- ---- edges that are taken

module _ (making : AreMakingLaws) (shape : Shape) (specification : Specification) (turns : ℕ) (nodes : List Node) (steps : List Step) (script : Script) where
  edge_made : (A : State) (s : Situation) (e : Edge) → IsEdge shape specification turns nodes A e → AreTaken s e.choices.items → e.choices.items ≡ chosen_from specification turns A s
  edge_made A s e is taken = is.own ∙ sym (chosen_again making specification turns A (along e.choices.items) s (subst (AreTaken s) is.own taken))

  abbrev situation : ℕ → Situation
  situation number = record { script = script; step = number }

  -- from a node whose step is shown so
  module _ (left number i : ℕ) (A : State) (behind : (j : ℕ) (B : State) → StandsAt shape nodes j B → IsWayFrom shape specification turns nodes steps script left (suc number) j B (walk steps script left (suc number) j)) where
    abbrev IsWay : List (ℕ × ℕ) → Type 0
    IsWay path = IsWayFrom shape specification turns nodes steps script (suc left) number i A path

    goes_on : (r : Result) (t : EdgeEnd) → GoesTo shape nodes A r t
        → GoesOnTo shape specification turns nodes steps script A r t (IsWayFrom shape specification turns nodes steps script left (suc number)) (node_then t (λ j. walk steps script left (suc number) j))
    goes_on r (target.Node j) h = record { set = h.set; gives = h.gives; consistent = h.consistent; leads = (h.leads, behind j (fire A h.set) h.leads) }
    goes_on r (target.Fault f) h = (h, refl)

    missed : (onward : Step) → slice_get steps i ≡ Some onward → taken_edge steps (situation number) i ≡ None → IsMissed shape specification turns nodes steps script A (situation number) onward
        → IsWay (walk steps script (suc left) number i)
    missed onward there none is = subst IsWay (sym (walk_ends steps script left number i none)) (onward, there, is)

    by_found : (es : List Edge) (onward : Step) → slice_get steps i ≡ Some onward → edges_at steps i ≡ es → AreEdges shape specification turns nodes A es
        → (Each (λ (e : Edge). ¬ (AreTaken (situation number) e.choices.items)) es → IsMissed shape specification turns nodes steps script A (situation number) onward)
        → (o : Option ℕ) → position (takes (situation number)) es ≡ o → IsWay (walk steps script (suc left) number i)
    by_found es onward there are edges miss None found =
        missed onward there (ap (position (takes (situation number))) are ∙ found)
        (miss (each_weaker (λ (e : Edge). takes (situation number) e ≡ false) (λ (e : Edge). ¬ (AreTaken (situation number) e.choices.items)) (not_taken (situation number)) es (none_found (takes (situation number)) es found)))
    by_found es onward there are edges miss (Some k) found =
        let s = situation number in
        let at = found_at (takes s) es k found in
        let e = at.0 in
        let here : slice_get (edges_at steps i) k ≡ Some e = ap (λ xs. slice_get xs k) are ∙ at.1 in
        let taken = each_taken s e.choices.items at.2 in
        let is = each_got (IsEdge shape specification turns nodes A) es k e edges.each at.1 in
        subst IsWay (sym (walk_takes steps script left number i k e (ap (position (takes s)) are ∙ found) here))
        (record {
          from = refl;
          edge = e;
          there = here;
          choices = edge_made A s e is taken;
          goes = goes_on (steps_from specification turns A s) e.to (is.goes s taken);
        })

  module _ (within : State → Bool) (crowds : State → RuleOverLimit → Type 0) (most : ℕ) (onwards : Pairs (IsShown shape specification turns within crowds most nodes) nodes steps) where
    by_step : (left number i : ℕ) (A : State) (n : Node) → state_at shape n ≡ A
        → ((j : ℕ) (B : State) → StandsAt shape nodes j B → IsWayFrom shape specification turns nodes steps script left (suc number) j B (walk steps script left (suc number) j))
        → (onward : Step) → slice_get steps i ≡ Some onward → IsShown shape specification turns within crowds most nodes n onward
        → IsWayFrom shape specification turns nodes steps script (suc left) number i A (walk steps script (suc left) number i)
    by_step left number i A n same behind step.Cut there shown =
        missed left number i A behind step.Cut there (ap (λ o. position (takes (situation number)) (edges_shown o)) there) tt
    by_step left number i A n same behind step.Crowded there shown =
        missed left number i A behind step.Crowded there (ap (λ o. position (takes (situation number)) (edges_shown o)) there) tt
    by_step left number i A n same behind (step.Edges es) there shown =
        let edges = subst (λ B. AreEdges shape specification turns nodes B es.items) same shown.2 in
        by_found left number i A behind es.items (step.Edges es) there (ap edges_shown there) edges (λ none. (none, edges.all (situation number)))
        (position (takes (situation number)) es.items) refl

    way : (left number i : ℕ) (A : State) → StandsAt shape nodes i A → IsWayFrom shape specification turns nodes steps script left number i A (walk steps script left number i)
    way zero number i A stands = refl
    way (suc left) number i A stands =
        let at = pairs_at (IsShown shape specification turns within crowds most nodes) nodes steps i stands.0 onwards stands.1 in
        by_step left number i A stands.0 stands.2 (λ j B. way left (suc number) j B) at.0 at.1 at.2

pub way_law : AreMakingLaws → WayLaw
way_law making shape specification turns within right rests outcomes steps most graph is script limit =
    way making shape specification turns graph.nodes.items graph.steps.items script within (IsCrowded specification turns outcomes) steps is.onward limit 1 0 specification.initial is.begins
