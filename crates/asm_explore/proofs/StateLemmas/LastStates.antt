-- Free. Deadlocks among the states that a search ends at.
--     judged_more          of one more node it is told whether it is a deadlock
--     all_live             what holds of the nodes of one depth, and of those that were looked at
--     none_dead, told      what is known of them holds of each state that runs come to
--     dead_is_bad          a deadlock is a bad step
--     safe_told            up to how many steps it is safe
--     ends_*               what is said of a search that has ended, once they have been looked for
--     limited_to           how many steps lead to a fault
use Rattle.std.proofs.Common.{◌≡◌, ◌≢◌, ℕ, zero, suc, ◌+◌, ◌<◌, ◌≤◌, Bool, true, List, [], length, drop, ◌⊎◌, inl, inr, refl, sym, ap, subst, ◌∙◌, arith}
use Rattle.std.specs.Prelude.{Option, Some, slice_get}
use Rattle.std.proofs.lemmas.Bool.{cases_lt}
use Rattle.std.proofs.lemmas.Option.{slice_get_within}
use Rattle.asm_state.specs.Location.{State}
use Rattle.asm_state.specs.Signature.{Shape}
use Rattle.asm_meaning.specs.Run.{Specification}
use Rattle.asm_explore.specs.ExplorationResults.{IsSafeIf, beyond}
use Rattle.asm_explore.specs.declared.fault.Fault.{Fault}
use Rattle.asm_explore.specs.declared.fault.Fault.TheVariants as fault
use Rattle.asm_explore.specs.declared.outcomes.outcomes_error.RuleOverLimit.{RuleOverLimit}
use Rattle.asm_explore.specs.declared.search_result.BadStep.{BadStep}
use Rattle.asm_explore.specs.declared.search_result.SearchEnd.{SearchEnd}
use Rattle.asm_explore.specs.declared.search_result.SearchEnd.TheVariants as ended
use Rattle.asm_explore.specs.declared.settled.Settled.{Settled}
use Rattle.asm_explore.specs.declared.states.deadlocks.Deadlocks.{Deadlocks}
use Rattle.asm_explore.specs.declared.states.deadlocks.Deadlocks.TheVariants as found
use Rattle.asm_explore.specs.code.ChoicePaths.{HaveOwnPaths}
use Rattle.asm_explore.specs.code.Deadlocks.{AreJudged, AreKnown, AreTold, HoldsBetween, IsThere, LivesInside, MayLiveInside, before, safe_of}
use Rattle.asm_explore.specs.ListElements.{Each}
use Rattle.asm_explore.specs.code.PackedNodes.{Node}
use Rattle.asm_explore.specs.code.QuietStates.{IsRested}
use Rattle.asm_explore.specs.code.ReachedStates.{AtNode, GoesWrong, GoesWrongSo, IsBad, IsLooked, IsSearched, state_at, steps_from}
use Rattle.asm_explore.specs.code.SearchEnds.{IfBad, IfOverLimit}
use Rattle.asm_explore.specs.code.SettledEnds.{IsSettled}
use Rattle.asm_explore.specs.Search.{IsAliveOrCrowded, HoldsBefore, IsDeadlock, IsSafeUpTo, steps_to}
use Rattle.asm_explore.proofs.StateLemmas.Batches.{same_node, shallow_at}
use Rattle.asm_explore.proofs.StateLemmas.MoreNodes.{each_got, holds_before, holds_with, looked_whole, search_covers}
use Rattle.asm_explore.proofs.StateLemmas.QuietNodes.{alive_whole, each_got_of}
use Rattle.asm_explore.proofs.StateLemmas.RunsAlongChoices.{bad_runs}
use Rattle.asm_explore.proofs.SearchEnds.{crowd_weaker, if_bad_weaker}

-- ---- one node after the other

module _ (specification : Specification) (turns : ℕ) (crowds : State → RuleOverLimit → Type 0) (rests within : State → Bool) (shape : Shape) (nodes : List Node) where
  abbrev Holds : (first last depth : ℕ) → (State → Type 0) → Type 0
  Holds = HoldsBetween specification turns crowds rests within shape nodes

  abbrev Lives : State → Type 0
  Lives = LivesInside specification turns crowds rests within

  abbrev MayLive : State → Type 0
  MayLive = MayLiveInside specification turns crowds rests within

  pub holds_more : (first last depth : ℕ) (D : State → Type 0) → Holds first last depth D
      → ((n : Node) → slice_get nodes last ≡ Some n → n.depth ≡ depth → D (state_at shape n)) → Holds first (last + 1) depth D
  holds_more first last depth D h here number n past less there deep = elim (cases_lt number last) [
    | inl earlier ↦ h number n past earlier there deep
    | inr later ↦
        let same : number ≡ last = omega (arith, less, later) in
        here n (subst (λ k. slice_get nodes k ≡ Some n) same there) deep
  ]

  pub holds_weaker : (first last depth : ℕ) (D E : State → Type 0) → ((A : State) → D A → E A) → Holds first last depth D → Holds first last depth E
  holds_weaker first last depth D E f h number n past less there deep = f (state_at shape n) (h number n past less there deep)

  -- one more node isn't a deadlock, or not of this depth
  pub judged_alive : (first last depth : ℕ) (d : Deadlocks) → ((n : Node) → slice_get nodes last ≡ Some n → n.depth ≡ depth → Lives (state_at shape n))
      → AreJudged specification turns crowds rests within shape nodes first last depth d → AreJudged specification turns crowds rests within shape nodes first (last + 1) depth d
  judged_alive first last depth found.None here h = holds_more first last depth Lives h here
  judged_alive first last depth (found.At number) here h = absurd h
  judged_alive first last depth (found.Unknown number crowd) here h = (holds_more first last depth MayLive h.0 (λ n there deep. inl (here n there deep)), h.1)
  judged_alive first last depth found.NoMemory here h = absurd h

  -- of one more it isn't known
  pub judged_crowded : (first last depth : ℕ) (d : Deadlocks) (crowd : RuleOverLimit) → IsThere specification turns crowds rests within shape nodes last depth (λ A. crowds A crowd)
      → AreJudged specification turns crowds rests within shape nodes first last depth d → AreJudged specification turns crowds rests within shape nodes first (last + 1) depth (found.Unknown last crowd)
  judged_crowded first last depth d crowd at h = (holds_more first last depth MayLive (so_far d h) (λ n there deep. inr (crowd, subst (λ (m : Node). crowds (state_at shape m) crowd) (same_node nodes last at.0 n at.1 there) at.3)), at)
    where
      so_far : (d : Deadlocks) → AreJudged specification turns crowds rests within shape nodes first last depth d → Holds first last depth MayLive
      so_far found.None h = holds_weaker first last depth Lives MayLive (λ A lives. inl lives) h
      so_far (found.At number) h = absurd h
      so_far (found.Unknown number crowd) h = h.0
      so_far found.NoMemory h = absurd h

  pub judged_none : (first depth : ℕ) → AreJudged specification turns crowds rests within shape nodes first first depth found.None
  judged_none first depth number n past less = absurd (omega (arith, past, less))

  pub judged_all : (first last depth : ℕ) (d : Deadlocks) → length nodes ≤ last → AreJudged specification turns crowds rests within shape nodes first last depth d
      → AreKnown specification turns crowds rests within shape nodes first depth d
  judged_all first last depth found.None past h = λ number n after less there deep. h number n after (omega (arith, past, less)) there deep
  judged_all first last depth (found.At number) past h = absurd h
  judged_all first last depth (found.Unknown number crowd) past h = ((λ j n after less there deep. h.0 j n after (omega (arith, past, less)) there deep), h.1)
  judged_all first last depth found.NoMemory past h = absurd h

-- ---- all nodes

-- why a bad step is what has ended a search
abbrev IsSettledSo : SearchEnd → Deadlocks → BadStep → Type 0
IsSettledSo was d bad = ((was ≡ ended.BadStep bad) × AreTold d) ⊎ ((d ≡ found.At bad.from) × (bad.choices.items ≡ []) × (bad.fault ≡ fault.Deadlock))

module _ (specification : Specification) (turns : ℕ) (crowds : State → RuleOverLimit → Type 0) (steps limit : ℕ) (right rests within : State → Bool) (shape : Shape) (nodes : List Node) where
  abbrev IsAlive : State → Type 0
  IsAlive A = ¬ (IsDeadlock specification turns rests A)

  abbrev MayBeAlive : State → Type 0
  MayBeAlive = IsAliveOrCrowded specification turns crowds rests

  -- from where the nodes are looked through
  abbrev pub BeginsAt : (first i whole : ℕ) → Type 0
  BeginsAt first i whole = (whole < steps → first ≡ i) × (steps ≤ whole → first ≡ 0)

  pub all_live : (D : State → Type 0) → ((A : State) → IsAlive A → D A) → (first i whole : ℕ) (quiet : List ℕ) → whole ≤ steps → BeginsAt first i whole → Each (λ n. whole ≤ n.depth) (drop i nodes)
      → IsRested shape specification turns rests within steps i nodes quiet
      → ((number : ℕ) (n : Node) → first ≤ number → slice_get nodes number ≡ Some n → n.depth ≡ whole → within (state_at shape n) ≡ true → D (state_at shape n))
      → Each (λ n. n.depth ≤ whole → within (state_at shape n) ≡ true → D (state_at shape n)) nodes
  all_live D alive first i whole quiet low begins rest rested last = each_got_of shape specification turns rests within steps (λ n. n.depth ≤ whole → within (state_at shape n) ≡ true → D (state_at shape n)) nodes
      (λ number n there shallow inside. elim (cases_lt n.depth whole) [
        | inl less ↦ alive (state_at shape n)
            (each_got (λ (m : Node). m.depth < whole → within (state_at shape m) ≡ true → ¬ (IsDeadlock specification turns rests (state_at shape m))) nodes number n
            (alive_whole shape specification turns rests within steps i whole nodes quiet low rest rested) there less inside)
        | inr deep ↦
            let same : n.depth ≡ whole = omega (arith, shallow, deep) in
            at_last number n there same inside
      ])
    where
      plain : (k : ℕ) → k ≡ 0 + k
      plain k = omega arith

      at_last : (number : ℕ) (n : Node) → slice_get nodes number ≡ Some n → n.depth ≡ whole → within (state_at shape n) ≡ true → D (state_at shape n)
      at_last number n there same inside = elim (cases_lt whole steps) [
        | inl more ↦ elim (cases_lt number i) [
          | inl earlier ↦ alive (state_at shape n)
              (shallow_at (λ (m : Node). ((m.depth < steps) × (within (state_at shape m) ≡ true)) → ¬ (IsDeadlock specification turns rests (state_at shape m))) nodes 0 i number n rested.alive earlier
              (subst (λ k. slice_get nodes k ≡ Some n) (plain number) there) (omega (arith, same, more), inside))
          | inr later ↦ last number n (omega (arith, later, begins.0 more)) there same inside
        ]
        | inr most ↦ last number n (omega (arith, begins.1 most)) there same inside
      ]

  pub told : (first i whole : ℕ) (quiet : List ℕ) (d : Deadlocks) → whole ≤ steps → BeginsAt first i whole → Each (λ n. whole ≤ n.depth) (drop i nodes)
      → IsRested shape specification turns rests within steps i nodes quiet → IsSearched shape specification turns right within whole nodes
      → AreKnown specification turns crowds rests within shape nodes first whole d → AreTold d → HoldsBefore specification turns within MayBeAlive (suc whole)
  told first i whole quiet found.None low begins rest rested searched known so =
      holds_with shape specification turns right within whole nodes searched MayBeAlive
      (all_live MayBeAlive (λ A alive. inl alive) first i whole quiet low begins rest rested
      (λ number n after there deep inside. inl (known number n after (slice_get_within nodes number n there) there deep inside)))
  told first i whole quiet (found.At number) low begins rest rested searched known so = absurd so
  told first i whole quiet (found.Unknown number crowd) low begins rest rested searched known so =
      holds_with shape specification turns right within whole nodes searched MayBeAlive
      (all_live MayBeAlive (λ A alive. inl alive) first i whole quiet low begins rest rested
      (λ number n after there deep inside. by_inside (state_at shape n) inside (known.0 number n after (slice_get_within nodes number n there) there deep)))
    where
      by_inside : (A : State) → within A ≡ true → MayLiveInside specification turns crowds rests within A → MayBeAlive A
      by_inside A inside (inl lives) = inl (lives inside)
      by_inside A inside (inr crowded) = inr crowded
  told first i whole quiet found.NoMemory low begins rest rested searched known so = absurd so

  pub none_dead : (first i whole : ℕ) (quiet : List ℕ) → whole ≤ steps → BeginsAt first i whole → Each (λ n. whole ≤ n.depth) (drop i nodes)
      → IsRested shape specification turns rests within steps i nodes quiet → IsSearched shape specification turns right within whole nodes
      → AreKnown specification turns crowds rests within shape nodes first whole found.None → HoldsBefore specification turns within IsAlive (suc whole)
  none_dead first i whole quiet low begins rest rested searched known =
      holds_with shape specification turns right within whole nodes searched IsAlive
      (all_live IsAlive (λ A alive. alive) first i whole quiet low begins rest rested
      (λ number n after there deep inside. known number n after (slice_get_within nodes number n there) there deep inside))

  -- a deadlock that was found
  pub dead_is_bad : (first whole : ℕ) (d : Deadlocks) (bad : BadStep) → d ≡ found.At bad.from → bad.choices.items ≡ [] → bad.fault ≡ fault.Deadlock
      → AreKnown specification turns crowds rests within shape nodes first whole d
      → GoesWrongSo specification turns right rests within shape nodes bad × ((n : Node) → slice_get nodes bad.from ≡ Some n → n.depth ≡ whole)
  dead_is_bad first whole d bad is none kind known =
      let at = subst (AreKnown specification turns crowds rests within shape nodes first whole) is known in
      let bad_at : IsBad shape specification turns right rests nodes bad = record {
        from = at.0;
        there = at.1;
        apart = subst HaveOwnPaths (sym none) tt;
        wrong = λ s taken. subst (λ k. GoesWrong right (IsDeadlock specification turns rests) k (steps_from specification turns (state_at shape at.0) s) (state_at shape at.0)) (sym kind) at.3.1;
      } in (
        bad_runs specification turns right rests within shape nodes bad bad_at (λ n there. subst (λ (m : Node). within (state_at shape m) ≡ true) (same_node nodes bad.from at.0 n at.1 there) at.3.0),
        λ n there. ap (λ (m : Node). m.depth) (sym (same_node nodes bad.from at.0 n at.1 there)) ∙ at.2,
      )

  -- ---- up to how many steps it is safe

  abbrev Fine : ℕ → Type 0
  Fine depth = IsSafeUpTo specification turns within (λ A. right A ≡ true) depth

  abbrev Safe : Option ℕ → Type 0
  Safe = IsSafeIf specification turns crowds steps limit right rests within

  pub safe_before : (whole : ℕ) → Fine whole → HoldsBefore specification turns within IsAlive whole → Safe (before whole)
  safe_before zero fine alive = fine
  safe_before (suc whole) fine alive = ((λ script k low stays. fine script k (omega (arith, low)) stays), alive)

  pub safe_told : (whole : ℕ) (d : Deadlocks) → Fine whole → HoldsBefore specification turns within IsAlive whole
      → (d ≡ found.None → HoldsBefore specification turns within IsAlive (suc whole)) → Safe (safe_of whole d)
  safe_told whole found.None fine alive none = (fine, none refl)
  safe_told whole (found.At number) fine alive none = safe_before whole fine alive
  safe_told whole (found.Unknown number crowd) fine alive none = safe_before whole fine alive
  safe_told whole found.NoMemory fine alive none = safe_before whole fine alive

  -- ---- a search that has ended

  module _ (first i whole : ℕ) (quiet : List ℕ) (low : whole ≤ steps) (begins : BeginsAt first i whole) (rest : Each (λ n. whole ≤ n.depth) (drop i nodes))
      (so_far : IsLooked shape specification turns right within steps i nodes) (rested : IsRested shape specification turns rests within steps i nodes quiet)
      (d : Deadlocks) (known : AreKnown specification turns crowds rests within shape nodes first whole d) (was : SearchEnd) (end : Settled) (settled : IsSettled was d whole end) where
    searched : IsSearched shape specification turns right within whole nodes
    searched = looked_whole shape specification turns right within steps i whole nodes low rest so_far

    alive_before : HoldsBefore specification turns within IsAlive whole
    alive_before = holds_before shape specification turns right within whole nodes searched IsAlive (alive_whole shape specification turns rests within steps i whole nodes quiet low rest rested)

    pub ends_safe : IsSafeIf specification turns crowds steps limit right rests within end.safe
    ends_safe = subst Safe (sym settled.safe)
        (safe_told whole d (search_covers shape specification turns right within whole nodes searched) alive_before
        (λ none. none_dead first i whole quiet low begins rest rested searched (subst (AreKnown specification turns crowds rests within shape nodes first whole) none known)))

    pub ends_outranked : IfBad end.ended (λ bad. bad.fault ≢ fault.Deadlock → HoldsBefore specification turns within (IsAliveOrCrowded specification turns crowds rests) (suc whole))
    ends_outranked = if_bad_weaker (IsSettledSo was d) (λ bad. bad.fault ≢ fault.Deadlock → HoldsBefore specification turns within MayBeAlive (suc whole)) end.ended by_end settled.bad
      where
        by_end : (bad : BadStep) → IsSettledSo was d bad → bad.fault ≢ fault.Deadlock → HoldsBefore specification turns within MayBeAlive (suc whole)
        by_end bad (inl h) other = told first i whole quiet d low begins rest rested searched known h.1
        by_end bad (inr h) other = absurd (other h.2)

    -- a bad step that the search ended at
    abbrev IsBadThere : BadStep → Type 0
    IsBadThere bad =
        IsBad shape specification turns right rests nodes bad × (bad.from ≡ i) × ((n : Node) → slice_get nodes bad.from ≡ Some n → (n.depth < steps) × (within (state_at shape n) ≡ true))

    pub ends_wrong : IfBad was (λ bad. IsBad shape specification turns right rests nodes bad × (bad.from ≡ i) × ((n : Node) → slice_get nodes bad.from ≡ Some n → (n.depth < steps) × (within (state_at shape n) ≡ true)))
        → IfBad end.ended (GoesWrongSo specification turns right rests within shape nodes)
    ends_wrong wrong = if_bad_weaker (IsSettledSo was d) (GoesWrongSo specification turns right rests within shape nodes) end.ended by_end settled.bad
      where
        by_end : (bad : BadStep) → IsSettledSo was d bad → GoesWrongSo specification turns right rests within shape nodes bad
        by_end bad (inl h) =
            let is : IsBadThere bad = subst (λ e. IfBad e IsBadThere) h.0 wrong in
            bad_runs specification turns right rests within shape nodes bad is.0 (λ n there. (is.2 n there).1)
        by_end bad (inr h) = (dead_is_bad first whole d bad h.0 h.1 h.2 known).0

    module _ (next : (n : Node) → slice_get nodes i ≡ Some n → n.depth < steps → whole ≡ n.depth) where
      abbrev IsDeep : BadStep → Type 0
      IsDeep bad = (n : Node) → slice_get nodes bad.from ≡ Some n → (n.depth ≡ whole) × (bad.fault ≢ fault.Deadlock → n.depth < steps)

      pub ends_deep : IfBad was (λ bad. IsBad shape specification turns right rests nodes bad × (bad.from ≡ i) × ((n : Node) → slice_get nodes bad.from ≡ Some n → (n.depth < steps) × (within (state_at shape n) ≡ true)))
          → IfBad end.ended (λ bad. (n : Node) → slice_get nodes bad.from ≡ Some n → (n.depth ≡ whole) × (bad.fault ≢ fault.Deadlock → n.depth < steps))
      ends_deep wrong = if_bad_weaker (IsSettledSo was d) IsDeep end.ended by_end settled.bad
        where
          by_end : (bad : BadStep) → IsSettledSo was d bad → (n : Node) → slice_get nodes bad.from ≡ Some n → (n.depth ≡ whole) × (bad.fault ≢ fault.Deadlock → n.depth < steps)
          by_end bad (inl h) n there =
              let is : IsBadThere bad = subst (λ e. IfBad e IsBadThere) h.0 wrong in
              (sym (next n (subst (λ k. slice_get nodes k ≡ Some n) is.1 there) (is.2 n there).0), λ other. (is.2 n there).0)
          by_end bad (inr h) n there = ((dead_is_bad first whole d bad h.0 h.1 h.2 known).1 n there, λ other. absurd (other h.2))

      -- a step with too many outcomes that the search ended at
      abbrev IsCrowdThere : RuleOverLimit → Type 0
      IsCrowdThere crowd = (n : Node) × (slice_get nodes i ≡ Some n) × (n.depth < steps) × crowds (state_at shape n) crowd

      abbrev IsAtNode : RuleOverLimit → Type 0
      IsAtNode crowd = (number : ℕ) × AtNode shape crowds nodes number whole crowd

      pub ends_crowded : IfOverLimit was (λ crowd. (n : Node) × (slice_get nodes i ≡ Some n) × (n.depth < steps) × crowds (state_at shape n) crowd)
          → IfOverLimit end.ended (λ crowd. (number : ℕ) × AtNode shape crowds nodes number whole crowd)
      ends_crowded crowded = crowd_weaker (λ crowd. (was ≡ ended.TooManyOutcomes crowd) ⊎ ((number : ℕ) × (d ≡ found.Unknown number crowd))) IsAtNode end.ended by_end settled.crowded
        where
          by_end : (crowd : RuleOverLimit) → (was ≡ ended.TooManyOutcomes crowd) ⊎ ((number : ℕ) × (d ≡ found.Unknown number crowd)) → (number : ℕ) × AtNode shape crowds nodes number whole crowd
          by_end crowd (inl is) =
              let at : IsCrowdThere crowd = subst (λ e. IfOverLimit e IsCrowdThere) is crowded in
              (i, (at.0, at.1, omega (arith, next at.0 at.1 at.2), at.3))
          by_end crowd (inr h) =
              let at = (subst (AreKnown specification turns crowds rests within shape nodes first whole) h.1 known).1 in
              (h.0, (at.0, at.1, omega (arith, at.2), at.3))

pub beyond_before : (whole : ℕ) → whole ≤ beyond (before whole)
beyond_before zero = omega arith
beyond_before (suc whole) = omega arith

pub beyond_told : (whole : ℕ) (d : Deadlocks) → whole ≤ beyond (safe_of whole d)
beyond_told whole found.None = omega arith
beyond_told whole (found.At number) = beyond_before whole
beyond_told whole (found.Unknown number crowd) = beyond_before whole
beyond_told whole found.NoMemory = beyond_before whole

pub limited_to : (kind : Fault) (step steps : ℕ) → step ≤ suc steps → (kind ≢ fault.Deadlock → step ≤ steps) → steps_to kind step ≤ steps
limited_to fault.Exhausted step steps low less = less (λ is. cc)
limited_to fault.Inconsistent step steps low less = less (λ is. cc)
limited_to fault.Wrong step steps low less = less (λ is. cc)
limited_to fault.Deadlock step steps low less = omega (arith, low)
