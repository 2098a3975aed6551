-- Free. The graph of a run, step by step.
--     choices_said            choices without their candidates
--     goes_ended, goes_on     where the edge of a step leads, if nothing comes after it, or something
--     leads_back              a step that changes nothing
--     way_on, way_behind      what comes after a node of the run
--     way_begins, way_longer, way_ended    the nodes so far, and one more
--     whole_more, paired_more     what is said of them all
--     same_way                marks by other conditions that are true in the same states
use Rattle.std.proofs.Common.{◌≡◌, ◌≢◌, ◌∙◌, ◌-◌, ◌<◌, ℕ, zero, suc, ◌+◌, Bool, List, [], ◌∷◌, ◌++◌, length, Option, None, Some, append_assoc, inl, inr, refl, sym, ap, subst, arith}
use Rattle.std.proofs.lemmas.List.{length-append}
use Rattle.asm_state.specs.Location.{State}
use Rattle.asm_state.specs.Signature.{Shape, count_of, state_of}
use Rattle.asm_state.specs.declared.value.Value.{Value}
use Rattle.asm_reader.specs.ScriptLines.{Script}
use Rattle.asm_meaning.specs.Run.{Specification}
use Rattle.asm_meaning.specs.Yields.{Result}
use Rattle.asm_explore.specs.ChoicePoints.{choices_of}
use Rattle.asm_explore.specs.ListElements.{Each}
use Rattle.asm_explore.specs.RunChoices.{choices_made, chosen_from}
use Rattle.asm_explore.specs.code.AskedPieces.{all_said}
use Rattle.asm_explore.specs.declared.choices.choice_point.ChoicePoint.{ChoicePoint}
use Rattle.asm_explore.specs.Search.{LeadsOn}
use Rattle.asm_explore.specs.TakenChoices.{steps_from}
use Rattle.asm_graph.specs.PathGraphs.{GoesAlong, IsEdgesOf, IsPathFrom, IsPathNode, step_behind}
use Rattle.asm_graph.specs.code.WaySoFar.{EndsAt, GoesOn, HasNodeMore, IsEndOf}
use Rattle.asm_graph.specs.declared.graph.Edge.{Edge}
use Rattle.asm_graph.specs.declared.graph.EdgeEnd.{EdgeEnd}
use Rattle.asm_graph.specs.declared.graph.EdgeEnd.TheVariants as target
use Rattle.asm_graph.specs.declared.graph.Graph.{Graph}
use Rattle.asm_graph.specs.declared.graph.Node.{Node}
use Rattle.asm_graph.specs.declared.graph.Step.{Step}
use Rattle.asm_graph.proofs.Paired.{each_append}

pub choices_said : (asked : List ChoicePoint) → choices_made asked ≡ choices_of (all_said asked)
choices_said [] = refl
choices_said (a ∷ asked) = ap (λ cs. a.choice ∷ cs) (choices_said asked)

goes_ended : (i : ℕ) (A : State) (r : Result) (to : EdgeEnd) (After : State → List Node → List Step → Type 0) → EndsAt i A r to → GoesAlong i A r to After [] []
goes_ended i A r (target.Fault f) After h = (h, (refl, refl))
goes_ended i A r (target.Node j) After h = record {
  set = h.1.set;
  gives = h.1.gives;
  consistent = h.1.consistent;
  leads = inl (h.0, h.1.leads, (refl, refl));
}

goes_next : (i : ℕ) (A B : State) (r : Result) (After : State → List Node → List Step → Type 0) (nodes : List Node) (steps : List Step) → LeadsOn r A (λ C. C ≡ B) → B ≢ A
    → After B nodes steps → GoesAlong i A r (target.Node (suc i)) After nodes steps
goes_next i A B r After nodes steps h other after = record {
  set = h.set;
  gives = h.gives;
  consistent = h.consistent;
  leads = inr (refl, (λ same. other (sym h.leads ∙ same)), subst (λ C. After C nodes steps) (sym h.leads) after);
}

goes_on : (i : ℕ) (A B : State) (r : Result) (to : EdgeEnd) (After : State → List Node → List Step → Type 0) (nodes : List Node) (steps : List Step) → to ≡ target.Node (suc i)
    → LeadsOn r A (λ C. C ≡ B) → B ≢ A → After B nodes steps → GoesAlong i A r to After nodes steps
goes_on i A B r to After nodes steps is h other after = subst (λ t. GoesAlong i A r t After nodes steps) (sym is) (goes_next i A B r After nodes steps h other after)

pub leads_back : (r : Result) (A B : State) → LeadsOn r A (λ C. C ≡ B) → B ≡ A → LeadsOn r A (λ C. C ≡ A)
leads_back r A B h same = record { set = h.set; gives = h.gives; consistent = h.consistent; leads = h.leads ∙ same }

module _ (shape : Shape) (right rests : State → Bool) (specification : Specification) (turns : ℕ) (script : Script) where
  module _ (i : ℕ) (A : State) (n : Node) (e : Edge) (step : Step) (is_node : IsPathNode shape right rests A n) (alone : IsEdgesOf (e ∷ []) step)
      (choices : e.choices.items ≡ chosen_from specification turns A (step_behind script i)) where
    pub way_on : (next : Option (List Value)) → IsEndOf shape i A (steps_from specification turns A (step_behind script i)) e.to next
        → GoesOn shape right rests specification turns script i A n step next
    way_on None h = λ left. (
      is_node,
      record {
        edge = e;
        alone = alone;
        choices = choices;
        goes = goes_ended i A _ e.to (IsPathFrom shape right rests specification turns script left (suc i)) h;
      },
    )
    way_on (Some next) h = (
      h.0,
      λ left nodes steps after. (
        is_node,
        record {
          edge = e;
          alone = alone;
          choices = choices;
          goes = goes_on i A (state_of shape next) _ e.to (IsPathFrom shape right rests specification turns script left (suc i)) nodes steps h.1 h.2 h.3 after;
        },
      ),
    )

  -- the same in the step that counts from one more
  pub way_behind : (i : ℕ) (A : State) (n : Node) (e : Edge) (step : Step) → IsPathNode shape right rests A n → IsEdgesOf (e ∷ []) step
      → e.choices.items ≡ chosen_from specification turns A (record { script = script; step = i + 1 }) → (next : Option (List Value))
      → IsEndOf shape i A (steps_from specification turns A (record { script = script; step = i + 1 })) e.to next → GoesOn shape right rests specification turns script i A n step next
  way_behind i A n e step is_node alone choices next end =
      let up : i + 1 ≡ suc i = omega arith in
      way_on i A n e step is_node alone (choices ∙ ap (λ k. chosen_from specification turns A (record { script = script; step = k })) up) next
      (subst (λ k. IsEndOf shape i A (steps_from specification turns A (record { script = script; step = k })) e.to next) up end)

  -- what a run of at most `limit` steps adds to these nodes, from a state after `done` steps on
  abbrev pub SoFar : (limit done : ℕ) (A : State) (nodes : List Node) (steps : List Step) → Type 0
  SoFar limit done A nodes steps = (ns : List Node) (ss : List Step) → IsPathFrom shape right rests specification turns script (limit - done) done A ns ss
      → IsPathFrom shape right rests specification turns script limit 0 specification.initial (nodes ++ ns) (steps ++ ss)

  pub way_begins : (limit : ℕ) (A : State) (nodes : List Node) (steps : List Step) → nodes ≡ [] → steps ≡ [] → A ≡ specification.initial → SoFar limit 0 A nodes steps
  way_begins limit A nodes steps no_nodes no_steps begins ns ss h =
      let all : limit - 0 ≡ limit = omega arith in
      subst (λ ms. IsPathFrom shape right rests specification turns script limit 0 specification.initial (ms ++ ns) (steps ++ ss)) (sym no_nodes)
      (subst (λ ts. IsPathFrom shape right rests specification turns script limit 0 specification.initial ns (ts ++ ss)) (sym no_steps)
      (subst (λ B. IsPathFrom shape right rests specification turns script limit 0 B ns ss) begins
      (subst (λ k. IsPathFrom shape right rests specification turns script k 0 A ns ss) all h)))

  pub way_longer : (limit done : ℕ) (A : State) (next : List Value) (nodes new_nodes : List Node) (steps new_steps : List Step) (n : Node) (step : Step) → done < limit
      → new_nodes ≡ nodes ++ n ∷ [] → new_steps ≡ steps ++ step ∷ [] → GoesOn shape right rests specification turns script done A n step (Some next) → SoFar limit done A nodes steps
      → SoFar limit (done + 1) (state_of shape next) new_nodes new_steps
  way_longer limit done A next nodes new_nodes steps new_steps n step low are_nodes are_steps goes so_far ns ss after =
      let path : List Node → List Step → Type 0 = λ ms ts. IsPathFrom shape right rests specification turns script limit 0 specification.initial ms ts in
      let left : limit - done ≡ suc (limit - (done + 1)) = omega (arith, low) in
      let up : done + 1 ≡ suc done = omega arith in
      let here = goes.1 (limit - (done + 1)) ns ss (subst (λ k. IsPathFrom shape right rests specification turns script (limit - (done + 1)) k (state_of shape next) ns ss) up after) in
      let whole = so_far (n ∷ ns) (step ∷ ss) (subst (λ k. IsPathFrom shape right rests specification turns script k done A (n ∷ ns) (step ∷ ss)) (sym left) here) in
      subst (λ ms. path ms (new_steps ++ ss)) (sym (ap (λ ms. ms ++ ns) are_nodes ∙ append_assoc nodes (n ∷ []) ns))
      (subst (path (nodes ++ n ∷ ns)) (sym (ap (λ ts. ts ++ ss) are_steps ∙ append_assoc steps (step ∷ []) ss)) whole)

  pub way_ended : (limit done : ℕ) (A : State) (nodes new_nodes : List Node) (steps new_steps : List Step) (n : Node) (step : Step) → new_nodes ≡ nodes ++ n ∷ [] → new_steps ≡ steps ++ step ∷ []
      → IsPathFrom shape right rests specification turns script (limit - done) done A (n ∷ []) (step ∷ []) → SoFar limit done A nodes steps
      → IsPathFrom shape right rests specification turns script limit 0 specification.initial new_nodes new_steps
  way_ended limit done A nodes new_nodes steps new_steps n step are_nodes are_steps here so_far =
      let path : List Node → List Step → Type 0 = λ ms ts. IsPathFrom shape right rests specification turns script limit 0 specification.initial ms ts in
      subst (λ ms. path ms new_steps) (sym are_nodes) (subst (path (nodes ++ n ∷ [])) (sym are_steps) (so_far (n ∷ []) (step ∷ []) here))

-- ---- nodes with their steps

module _ (shape : Shape) (right rests : State → Bool) (A : State) (step : Step) (old new : Graph) (more : HasNodeMore shape right rests A step old new) where
  pub whole_more : Each (λ (n : Node). length n.state ≡ count_of shape) old.nodes.items → Each (λ (n : Node). length n.state ≡ count_of shape) new.nodes.items
  whole_more whole = subst (Each (λ (n : Node). length n.state ≡ count_of shape)) (sym more.nodes)
      (each_append (λ (n : Node). length n.state ≡ count_of shape) old.nodes.items (more.node ∷ []) whole (more.whole, tt))

  pub paired_more : length old.steps.items ≡ length old.nodes.items → length new.steps.items ≡ length new.nodes.items
  paired_more paired =
      let nodes : length new.nodes.items ≡ length (old.nodes.items ++ more.node ∷ []) = ap length more.nodes in
      let steps : length new.steps.items ≡ length (old.steps.items ++ step ∷ []) = ap length more.steps in
      omega (arith, nodes, steps, length-append old.nodes.items (more.node ∷ []), length-append old.steps.items (step ∷ []), paired)

-- ---- other conditions

goes_weaker : (i : ℕ) (A : State) (r : Result) (to : EdgeEnd) (P Q : State → List Node → List Step → Type 0) (nodes : List Node) (steps : List Step)
    → ((B : State) → P B nodes steps → Q B nodes steps) → GoesAlong i A r to P nodes steps → GoesAlong i A r to Q nodes steps
goes_weaker i A r (target.Fault f) P Q nodes steps weaker h = h
goes_weaker i A r (target.Node j) P Q nodes steps weaker h = record {
  set = h.set;
  gives = h.gives;
  consistent = h.consistent;
  leads = elim h.leads [ inl back ↦ inl back | inr on ↦ inr (on.0, on.1, weaker _ on.2) ];
}

module _ (shape : Shape) (right rests also rested : State → Bool) (alike : (A : State) → right A ≡ also A) (resting : (A : State) → rests A ≡ rested A) where
  same_node : (A : State) (n : Node) → IsPathNode shape right rests A n → IsPathNode shape also rested A n
  same_node A n h = record { state = h.state; is_right = h.is_right ∙ alike A; is_rest = h.is_rest ∙ resting A }

  module _ (specification : Specification) (turns : ℕ) (script : Script) where
    pub same_way : (left i : ℕ) (A : State) (nodes : List Node) (steps : List Step) → IsPathFrom shape right rests specification turns script left i A nodes steps
        → IsPathFrom shape also rested specification turns script left i A nodes steps
    same_way left i A [] steps h = absurd h
    same_way left i A (n ∷ nodes) [] h = absurd h
    same_way zero i A (n ∷ nodes) (s ∷ steps) h = (same_node A n h.0, h.1, h.2)
    same_way (suc left) i A (n ∷ nodes) (s ∷ steps) h = (
      same_node A n h.0,
      record {
        edge = h.1.edge;
        alone = h.1.alone;
        choices = h.1.choices;
        goes = goes_weaker i A _ h.1.edge.to (IsPathFrom shape right rests specification turns script left (suc i)) (IsPathFrom shape also rested specification turns script left (suc i)) nodes steps
            (λ B. same_way left (suc i) B nodes steps) h.1.goes;
      },
    )
