-- Free. How many steps lead to the states of a graph.
--     known_or_crowded    a run comes to the state of a node that is as deep as the run has steps,
--                         or less, unless it passes a crowded one
--     is_complete         so all states that runs come to are those of nodes, unless they do
--     are_least           and no run of fewer steps comes to the state of a node, unless it does
use Rattle.std.proofs.Common.{◌≡◌, ℕ, zero, suc, ◌+◌, ◌≤◌, ◌<◌, ◌⊎◌, Bool, true, false, cond, List, [], ◌∷◌, map, inl, inr, refl, sym, ap, subst, ◌∙◌, arith}
use Rattle.std.proofs.lemmas.Bool.{false≢true}
use Rattle.std.specs.Prelude.{slice_get, Some}
use Rattle.asm_state.proofs.UpdateLemmas.Faults.{fault_laws}
use Rattle.asm_state.proofs.UpdateLemmas.Updates.{test_laws}
use Rattle.asm_state.specs.Location.{Location, Proper, Stray, State}
use Rattle.asm_state.specs.Signature.{Shape}
use Rattle.asm_state.specs.Updates.{Clash, Fault, IsConsistent, IsFaulty, IsFirstFault, Outside, UpdateSet, fire, is_consistent}
use Rattle.asm_reader.specs.ScriptLines.{Script}
use Rattle.asm_meaning.specs.Does.{Outcome, does}
use Rattle.asm_meaning.specs.Program.{nothing_bound}
use Rattle.asm_meaning.specs.Run.{AtFault, AtLimit, Run, Specification, ended, fired, run_from, step_and}
use Rattle.asm_meaning.specs.Yields.{Exhausted, Gives, Result}
use Rattle.asm_explore.specs.declared.outcomes.outcomes_error.RuleOverLimit.{RuleOverLimit}
use Rattle.asm_explore.specs.code.OutcomeLists.{AnyOf, Each, Situation}
use Rattle.asm_explore.specs.code.ReachedStates.{steps_from}
use Rattle.asm_explore.specs.Search.{LeadsOn}
use Rattle.asm_graph.specs.declared.graph.Edge.{Edge}
use Rattle.asm_graph.specs.declared.graph.EdgeEnd.{EdgeEnd}
use Rattle.asm_graph.specs.declared.graph.EdgeEnd.TheVariants as target
use Rattle.asm_graph.specs.declared.graph.Node.{Node}
use Rattle.asm_graph.specs.declared.graph.Step.{Step}
use Rattle.asm_graph.specs.declared.graph.Step.TheVariants as step
use Rattle.asm_graph.specs.declared.graph.StepFault.{StepFault}
use Rattle.asm_graph.specs.Graphs.{AreApart, ComesTo, GoesTo, HasFault, IsComplete, IsCrowded, IsLeast, IsShown, Pairs, PassesCrowd, StandsAt, state_at}
use Rattle.asm_graph.specs.code.GraphSoFar.{AreNear, AreShallow, IsNear}
use Rattle.asm_graph.proofs.Paired.{apart_same, got_mapped, got_same, pairs_at}

-- ---- a step that goes wrong

faulty : (U : UpdateSet) (fault : Fault) → IsFirstFault U fault → (l : Location) × IsFaulty U l
faulty U (Clash (Proper f vs) r) h = (Proper f vs, h.0.is_faulty)
faulty U (Clash (Stray f) r) h = absurd h
faulty U (Outside f) h = (Stray f, h.is_faulty)

module _ (specification : Specification) (turns : ℕ) where
  module _ (m i : ℕ) (A : State) (rest : UpdateSet → Run) where
    abbrev after : Result → Run
    after r = step_and specification.program turns specification.main r m i A rest

    faulty_ends : (U : UpdateSet) (fault : Fault) → IsFirstFault U fault → (b : Bool) → is_consistent U ≡ b → (cond b (fired U m (rest U)) (ended (AtFault i U) A)).end ≡ AtLimit → ⊥
    faulty_ends U fault first true is ends = let l = faulty U fault first in (fault_laws.no_fault U).0 ((test_laws.consistency U).0 is) l.0 l.1
    faulty_ends U fault first false is ends = cc

    wrong_ends : (f : StepFault) (r : Result) → HasFault f r → (after r).end ≡ AtLimit → ⊥
    wrong_ends f (Gives U) h ends = faulty_ends U h.0 h.1 (is_consistent U) refl ends
    wrong_ends f (Exhausted q) h ends = cc

    -- with a consistent set it goes on
    on_end : (r : Result) (U : UpdateSet) → r ≡ Gives U → IsConsistent U → (after r).end ≡ (rest U).end
    on_end r U is consistent = ap (λ x. (after x).end) is ∙ ap (λ b. (cond b (fired U m (rest U)) (ended (AtFault i U) A)).end) ((test_laws.consistency U).1 consistent)

    on_last : (r : Result) (U : UpdateSet) → r ≡ Gives U → IsConsistent U → (after r).last ≡ (rest U).last
    on_last r U is consistent = ap (λ x. (after x).last) is ∙ ap (λ b. (cond b (fired U m (rest U)) (ended (AtFault i U) A)).last) ((test_laws.consistency U).1 consistent)

  -- ---- runs through the nodes of a graph

  module _ (shape : Shape) (within : State → Bool) (crowds : State → RuleOverLimit → Type 0) (steps : ℕ) (nodes : List Node) (made : List Step)
      (shown : Pairs (IsShown shape specification turns within crowds steps nodes) nodes made) (near : Pairs (AreNear nodes) nodes made) where
    abbrev Known : ℕ → State → Type 0
    Known d A = (i : ℕ) × (n : Node) × (slice_get nodes i ≡ Some n) × (n.depth ≤ d) × (state_at shape n ≡ A)

    abbrev Onward : ℕ → State → Result → Type 0
    Onward d A r = LeadsOn r A (Known d) ⊎ ((f : StepFault) × HasFault f r)

    by_end : (d : ℕ) (A : State) (r : Result) (to : EdgeEnd) → GoesTo shape nodes A r to → IsNear nodes d to → Onward d A r
    by_end d A r (target.Node i) goes there =
        inl (record {
          set = goes.set;
          gives = goes.gives;
          consistent = goes.consistent;
          leads = (i, there.0, there.1, there.2, ap (state_at shape) (got_same nodes i there.0 goes.leads.0 there.1 goes.leads.1) ∙ goes.leads.2);
        })
    by_end d A r (target.Fault f) goes there = inr (f, goes)

    by_edges : (d : ℕ) (A : State) (r : Result) (es : List Edge) → AnyOf (λ (e : Edge). GoesTo shape nodes A r e.to) es → Each (λ (e : Edge). IsNear nodes d e.to) es → Onward d A r
    by_edges d A r [] goes there = absurd goes
    by_edges d A r (e ∷ es) (inl goes) there = by_end d A r e.to goes there.0
    by_edges d A r (e ∷ es) (inr goes) there = by_edges d A r es goes there.1

    module _ (script : Script) where
      abbrev runs : ℕ → ℕ → State → Run
      runs n i A = run_from specification.program turns specification.main script n i A

      abbrev Comes : (n i d : ℕ) → State → Type 0
      Comes n i d A = Known (d + n) (runs n i A).last ⊎ ((j : ℕ) × (j < n) × IsCrowded shape nodes made (runs j i A).last)

      abbrev Stays : (n i : ℕ) → State → Type 0
      Stays n i A = (k : ℕ) → k < n → within (runs k i A).last ≡ true

      -- what a step leads to, and a run after it
      step_on : (n i d : ℕ) (A : State) (U : UpdateSet) → let s : Situation = record { script = script; step = i } in steps_from specification turns A s ≡ Gives U → IsConsistent U
          → Stays (suc n) i A → (runs (suc n) i A).end ≡ AtLimit
          → (Stays n (suc i) (fire A U) → (runs n (suc i) (fire A U)).end ≡ AtLimit → Comes n (suc i) (suc d) (fire A U)) → Comes (suc n) i d A
      step_on n i d A U gives consistent stays ends next =
          let o : Outcome = does specification.program turns script i A nothing_bound [] specification.main in
          let last : (k : ℕ) → (runs (suc k) i A).last ≡ (runs k (suc i) (fire A U)).last =
          λ k. on_last o.instances i A (λ V. runs k (suc i) (fire A V)) o.result U gives consistent in
          let end = on_end o.instances i A (λ V. runs n (suc i) (fire A V)) o.result U gives consistent in
          elim (next (λ k less. ap within (sym (last k)) ∙ stays (suc k) (omega (arith, less))) (sym end ∙ ends)) [
            | inl known ↦ inl (known.0, known.1, known.2, omega (arith, known.3), known.4 ∙ sym (last n))
            | inr crowd ↦ inr (suc crowd.0, omega (arith, crowd.1), subst (IsCrowded shape nodes made) (sym (last crowd.0)) crowd.2)
          ]

      by_step : (n i d : ℕ) (A : State) → suc d + n ≤ steps → (k : ℕ) (m : Node) → slice_get nodes k ≡ Some m → m.depth ≤ d → state_at shape m ≡ A
          → Stays (suc n) i A → (runs (suc n) i A).end ≡ AtLimit
          → ((B : State) → Known (suc d) B → Stays n (suc i) B → (runs n (suc i) B).end ≡ AtLimit → Comes n (suc i) (suc d) B)
          → (s : Step) → slice_get made k ≡ Some s → IsShown shape specification turns within crowds steps nodes m s → AreNear nodes m s → Comes (suc n) i d A
      by_step n i d A low k m there shallow is stays ends next step.Cut here (inl deep) close = absurd (omega (arith, low, shallow, deep))
      by_step n i d A low k m there shallow is stays ends next step.Cut here (inr out) close = absurd (false≢true (sym out ∙ ap within is ∙ stays 0 (omega arith)))
      by_step n i d A low k m there shallow is stays ends next step.Crowded here crowd close = inr (0, omega arith, (k, (m, there, is), here))
      by_step n i d A low k m there shallow is stays ends next (step.Edges es) here edges close =
          let o : Outcome = does specification.program turns script i A nothing_bound [] specification.main in
          let s : Situation = record { script = script; step = i } in
          let goes = subst (λ B. AnyOf (λ (e : Edge). GoesTo shape nodes B (steps_from specification turns B s) e.to) es.items) is (edges.2.all s) in
          elim (by_edges (m.depth + 1) A o.result es.items goes close) [
            | inl on ↦ step_on n i d A on.set on.gives on.consistent stays ends
                (next (fire A on.set) (on.leads.0, on.leads.1, on.leads.2, omega (arith, on.leads.3, shallow), on.leads.4))
            | inr wrong ↦ absurd (wrong_ends o.instances i A (λ U. runs n (suc i) (fire A U)) wrong.0 o.result wrong.1 ends)
          ]

      known_or_crowded : (n i d : ℕ) (A : State) → d + n ≤ steps → Known d A → Stays n i A → (runs n i A).end ≡ AtLimit → Comes n i d A
      known_or_crowded zero i d A low known stays ends = inl (known.0, known.1, known.2, omega (arith, known.3), known.4)
      known_or_crowded (suc n) i d A low known stays ends =
          let here = pairs_at (IsShown shape specification turns within crowds steps nodes) nodes made known.0 known.1 shown known.2 in
          let close = pairs_at (AreNear nodes) nodes made known.0 known.1 near known.2 in
          by_step n i d A (omega (arith, low)) known.0 known.1 known.2 known.3 known.4 stays ends
          (λ B there inside fine. known_or_crowded n (suc i) (suc d) B (omega (arith, low)) there inside fine)
          here.0 here.1 here.2 (subst (AreNear nodes known.1) (got_same made known.0 close.0 here.0 close.1 here.1) close.2)

    module _ (begins : StandsAt shape nodes 0 specification.initial) (at_first : begins.0.depth ≡ 0) where
      known_after : (script : Script) (k : ℕ) (A : State) → k ≤ steps → ComesTo shape specification turns within script k A → Known k A ⊎ PassesCrowd shape specification turns within nodes made script k
      known_after script k A low comes =
          elim (known_or_crowded script k 1 0 specification.initial (omega (arith, low)) (0, begins.0, begins.1, omega (arith, at_first), begins.2) comes.stays comes.end) [
            | inl known ↦ inl (known.0, known.1, known.2, omega (arith, known.3), known.4 ∙ comes.last)
            | inr crowd ↦ inr crowd
          ]

      pub is_complete : IsComplete shape specification turns within nodes made steps
      is_complete script k A low comes =
          elim (known_after script k A low comes) [
            | inl known ↦ inl (known.0, (known.1, known.2, known.4))
            | inr crowd ↦ inr crowd
          ]

      module _ (apart : AreApart (map (state_at shape) nodes)) where
        least : (i : ℕ) (n : Node) → slice_get nodes i ≡ Some n → n.depth ≤ steps → IsLeast shape specification turns within nodes made n
        least i n there shallow script k less comes =
            elim (known_after script k (state_at shape n) (omega (arith, less, shallow)) comes) [
              | inl known ↦
                  let here = got_mapped (state_at shape) nodes known.0 known.1 known.2 in
                  let same = apart_same (map (state_at shape) nodes) known.0 i (state_at shape n) apart (subst (λ A. slice_get (map (state_at shape) nodes) known.0 ≡ Some A) known.4 here)
                  (got_mapped (state_at shape) nodes i n there) in
                  let one = got_same nodes i known.1 n (subst (λ j. slice_get nodes j ≡ Some known.1) same known.2) there in
                  absurd (omega (arith, less, known.3, ap (λ (m : Node). m.depth) one))
              | inr crowd ↦ crowd
            ]

        each_least : (ns : List Node) → ((i : ℕ) (n : Node) → slice_get ns i ≡ Some n → (j : ℕ) × (slice_get nodes j ≡ Some n)) → AreShallow steps ns
            → Each (IsLeast shape specification turns within nodes made) ns
        each_least [] among shallow = tt
        each_least (n ∷ ns) among shallow = (least (among 0 n refl).0 n (among 0 n refl).1 shallow.0, each_least ns (λ i m there. among (suc i) m there) shallow.1)

        pub are_least : AreShallow steps nodes → Each (IsLeast shape specification turns within nodes made) nodes
        are_least shallow = each_least nodes (λ i n there. (i, there)) shallow
