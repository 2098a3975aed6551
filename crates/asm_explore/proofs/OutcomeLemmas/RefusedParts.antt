-- Free. A refusal of a part is one of the whole.
--     way_of_part, way_wider     a way through a part that is reached is one through the whole
--     refuses_*, handed_on       if a part is refused, and if a call hands it on
--     way_beside, way_chosen     a part beside others; a candidate
--     chosen_refuses, then_refuses     if what is after other choices is refused
--     have_ways_*, both_ways_made      ways of lists
--     err_*, exit_*                    what a call hands on, and what is refused at the exit of a
--                                      `?`
--     *_refused                        if a list of the whole has too many
use Rattle.std.proofs.Common.{◌≡◌, ℕ, ◌+◌, ◌<◌, ◌≤◌, inl, inr, List, [], ◌∷◌, ◌++◌, length, map, sym, subst, ◌∙◌}
use Rattle.std.specs.Prelude.{Result as Returned, Ok, Err, IfErr}
use Rattle.std.specs.Result.{IsErrAnd}
use Rattle.std.proofs.lemmas.List.{length-map}
use Rattle.asm_meaning.specs.Yields.{Path, at}
use Rattle.asm_explore.specs.declared.outcomes.listed_outcome.Choice.{Choice}
use Rattle.asm_explore.specs.declared.outcomes.listed_outcome.ListedOutcome.{ListedOutcome}
use Rattle.asm_explore.specs.declared.outcomes.outcomes_error.RuleOverLimit.{RuleOverLimit}
use Rattle.asm_explore.specs.declared.outcomes.outcomes_error.OutcomesError.{OutcomesError}
use Rattle.asm_explore.specs.declared.outcomes.outcomes_error.OutcomesError.TheVariants as refusal
use Rattle.asm_explore.specs.declared.outcomes.sequence_outcomes.SequenceOutcomes.{SequenceOutcomes}
use Rattle.asm_explore.specs.code.OverLimit.{NamesRule, IsOverLimit, IsAmong, Differ, AreDifferent, TakesBefore, AreBeside, Counts, AreMany, Refuses}
use Rattle.asm_explore.specs.code.OutcomeLists.{Situation, picked, HaveChoices}
use Rattle.asm_explore.specs.code.ChoicesMade.{AreMade, IsWay}
use Rattle.asm_explore.specs.code.ChoicePaths.{LieBelow, IsPlacedFrom}
use Rattle.asm_explore.specs.code.Sequences.{BothHave, both_ways, AllDiffer}
use Rattle.asm_explore.specs.code.ChoiceLists.{choice_lists, all_joined, with_choice}
use Rattle.asm_explore.proofs.OutcomeLemmas.OverLimit.{refuses_on, joined_refuses, picked_refuses, closed_refuses}
use Rattle.asm_explore.proofs.ChoiceLemmas.DifferentChoices.{differ_before, differ_behind, different_mapped, different_from, different_from_mapped}
use Rattle.asm_explore.proofs.Elements.{any_first, any_last}
use Rattle.asm_explore.proofs.ChoiceLemmas.MadeChoices.{made_wider, made_beside, made_chosen}
use Rattle.asm_explore.proofs.ChoiceLemmas.ChoicePaths.{placed_part, placed_in, placed_chosen, from_part}
use Rattle.asm_explore.proofs.OutcomeLemmas.ChoiceLists.{each_mapped, have_ways}

-- ---- ways

pub way_of_part : (p : Path) (k : ℕ) (m n : Situation → List Choice) → ((s : Situation) (c : Choice) → IsAmong c (m s) → IsAmong c (n s)) → (cs : List Choice) → IsWay (at p k) m cs → IsWay p n cs
way_of_part p k m n wider cs h = record { placed = placed_part p k cs h.placed; made = made_wider m n wider cs h.made }

pub way_wider : (p : Path) (m n : Situation → List Choice) → ((s : Situation) (c : Choice) → IsAmong c (m s) → IsAmong c (n s)) → (cs : List Choice) → IsWay p m cs → IsWay p n cs
way_wider p m n wider cs h = record { placed = h.placed; made = made_wider m n wider cs h.made }

-- a candidate that is taken, and a way through the body
pub way_chosen : (p : Path) (k : ℕ) (m n : Situation → List Choice) → ((s : Situation) → picked s p ≡ k → record { path = p; number = k } ∷ m s ≡ n s)
    → (cs : List Choice) → IsWay (at p 0) m cs → IsWay p n (cs ++ record { path = p; number = k } ∷ [])
way_chosen p k m n is cs h = record { placed = placed_chosen p k cs h.placed; made = made_chosen m n p k is cs h.made }

-- a way through a part, and one through those beside it
pub record IsWayFrom (p : Path) (k : ℕ) (makes : Situation → List Choice) (cs : List Choice) : Type 0 where
  pub placed : IsPlacedFrom p k cs
  pub made : AreMade makes cs

pub way_beside : (p : Path) (k : ℕ) (m n : Situation → List Choice) (cs ds : List Choice) → IsWay (at p k) m cs → IsWayFrom p (k + 1) n ds → IsWayFrom p k (λ s. m s ++ n s) (cs ++ ds)
way_beside p k m n cs ds h g = record { placed = from_part p k cs ds h.placed g.placed; made = made_beside m n cs ds h.made g.made }

-- ---- refusals

module _ (limit : ℕ) (P Q : List Choice → Type 0) where
  module _ (g : List Choice → List Choice) (differ : (p : Path) (cs ds : List Choice) → Differ p cs ds → Differ p (g cs) (g ds)) (f : (cs : List Choice) → P cs → Q (g cs)) where
    beside_mapped : (p : Path) (first others : ℕ) → AreBeside p first others P → AreBeside p first others Q
    beside_mapped p first others h = record {
      number = h.number;
      part = map g h.part;
      part_count = length-map h.part g ∙ h.part_count;
      part_different = different_mapped (at p h.number) g (differ (at p h.number)) h.part h.part_different;
      part_each = each_mapped P Q g f h.part h.part_each;
      after = map g h.after;
      after_count = length-map h.after g ∙ h.after_count;
      after_different = different_from_mapped p g differ (h.number + 1) h.after h.after_different;
      after_each = each_mapped P Q g f h.after h.after_each;
    }

    counts_mapped : (p : Path) (first others n : ℕ) → Counts p first others P n → Counts p first others Q n
    counts_mapped p first others n (inl is) = inl is
    counts_mapped p first others n (inr h) = inr (h.0, beside_mapped p first others h.1)

    many_mapped : (crowd : RuleOverLimit) → AreMany limit crowd P → AreMany limit crowd Q
    many_mapped crowd many = record {
      ways = map g many.ways;
      more = subst (λ n. limit < n) (sym (length-map many.ways g)) many.more;
      counts = subst (Counts crowd.path crowd.first crowd.others Q) (sym (length-map many.ways g))
          (counts_mapped crowd.path crowd.first crowd.others (length many.ways) many.counts);
      different = different_mapped crowd.path g (differ crowd.path) many.ways many.different;
      each = each_mapped P Q g f many.ways many.each;
    }

  pub refuses_mapped : (g : List Choice → List Choice) → ((p : Path) (cs ds : List Choice) → Differ p cs ds → Differ p (g cs) (g ds)) → ((cs : List Choice) → P cs → Q (g cs))
      → (r : OutcomesError) → Refuses limit (λ p. P) r → Refuses limit (λ p. Q) r
  refuses_mapped g differ f refusal.Memory h = tt
  refuses_mapped g differ f (refusal.TooMany crowd) h = many_mapped g differ f crowd h

  pub refuses_weaker : ((cs : List Choice) → P cs → Q cs) → (r : OutcomesError) → Refuses limit (λ p. P) r → Refuses limit (λ p. Q) r
  refuses_weaker = refuses_mapped (λ cs. cs) (λ p cs ds h. h)

  -- with others before them
  pub then_refuses : (choices : List Choice) → ((ds : List Choice) → P ds → Q (choices ++ ds)) → (r : OutcomesError) → Refuses limit (λ p. P) r → Refuses limit (λ p. Q) r
  then_refuses choices = refuses_mapped (λ ds. choices ++ ds) (λ p ds es. differ_behind p ds es choices)

  -- and with one after them
  pub chosen_refuses : (own : Choice) → ((cs : List Choice) → P cs → Q (cs ++ own ∷ [])) → (r : OutcomesError) → Refuses limit (λ p. P) r → Refuses limit (λ p. Q) r
  chosen_refuses own = refuses_mapped (λ cs. cs ++ own ∷ []) (λ p cs ds. differ_before p cs ds (own ∷ []) (own ∷ []))

  -- what a call hands on
  pub handed_on : {T : Type 0} (returned : Returned T OutcomesError) → ((r : OutcomesError) → Refuses limit (λ p. P) r → Refuses limit (λ p. Q) r)
      → IfErr returned (Refuses limit (λ p. P)) → IfErr returned (Refuses limit (λ p. Q))
  handed_on (Ok x) f h = tt
  handed_on (Err r) f h = f r h

-- ---- of lists

pub have_ways_made : (p : Path) (m : Situation → List Choice) (fs : List ListedOutcome) → HaveChoices (LieBelow p) fs → HaveChoices (AreMade m) fs → HaveChoices (IsWay p m) fs
have_ways_made p m [] h g = tt
have_ways_made p m (f ∷ fs) h g = (record { placed = h.0; made = g.0 }, have_ways_made p m fs h.1 g.1)

pub have_ways_from : (p : Path) (k : ℕ) (m : Situation → List Choice) (fs : List ListedOutcome) → HaveChoices (IsPlacedFrom p k) fs → HaveChoices (AreMade m) fs → HaveChoices (IsWayFrom p k m) fs
have_ways_from p k m [] h g = tt
have_ways_from p k m (f ∷ fs) h g = (record { placed = h.0; made = g.0 }, have_ways_from p k m fs h.1 g.1)

pub way_from : (p : Path) (k : ℕ) (m : Situation → List Choice) (cs : List Choice) → IsWayFrom p k m cs → IsWay p m cs
way_from p k m cs h = record { placed = placed_in p (λ i. k ≤ i) cs h.placed; made = h.made }

pub both_ways_made : (p : Path) (m : Situation → List Choice) (sorted : SequenceOutcomes) → BothHave (LieBelow p) sorted → HaveChoices (AreMade m) sorted.done.items → HaveChoices (AreMade m) sorted.more.items
    → BothHave (IsWay p m) sorted
both_ways_made p m sorted h g k = (have_ways_made p m sorted.done.items h.0 g, have_ways_made p m sorted.more.items h.1 k)

-- ---- if a call hands a refusal on, and at the exit of a `?`

module _ (limit : ℕ) (p : Path) (m n : Situation → List Choice) where
  pub err_made : {T : Type 0} (r : Returned T OutcomesError) → ((s : Situation) → m s ≡ n s) → IfErr r (Refuses limit (λ q. IsWay p m)) → IfErr r (Refuses limit (λ q. IsWay p n))
  err_made r same = handed_on limit (IsWay p m) (IsWay p n) r (refuses_weaker limit (IsWay p m) (IsWay p n) (way_wider p m n (λ s c. subst (IsAmong c) (same s))))

  -- of a part that is reached
  pub err_part : {T : Type 0} (k : ℕ) (r : Returned T OutcomesError) → ((s : Situation) → m s ≡ n s) → IfErr r (Refuses limit (λ q. IsWay (at p k) m)) → IfErr r (Refuses limit (λ q. IsWay p n))
  err_part k r same =
      handed_on limit (IsWay (at p k) m) (IsWay p n) r (refuses_weaker limit (IsWay (at p k) m) (IsWay p n) (way_of_part p k m n (λ s c. subst (IsAmong c) (same s))))

  pub exit_part : {T : Type 0} (k : ℕ) → ((s : Situation) (c : Choice) → IsAmong c (m s) → IsAmong c (n s)) → (returned : Returned T OutcomesError) (e : OutcomesError) → IsErrAnd returned (λ again. again ≡ e)
      → Refuses limit (λ q. IsWay (at p k) m) e → IfErr returned (Refuses limit (λ q. IsWay p n))
  exit_part k wider returned e same h =
      refuses_on limit (λ q. IsWay p n) returned e same (refuses_weaker limit (IsWay (at p k) m) (IsWay p n) (way_of_part p k m n wider) e h)

  pub exit_wider : {T : Type 0} → ((s : Situation) (c : Choice) → IsAmong c (m s) → IsAmong c (n s)) → (returned : Returned T OutcomesError) (e : OutcomesError) → IsErrAnd returned (λ again. again ≡ e)
      → Refuses limit (λ q. IsWay p m) e → IfErr returned (Refuses limit (λ q. IsWay p n))
  exit_wider wider returned e same h = refuses_on limit (λ q. IsWay p n) returned e same (refuses_weaker limit (IsWay p m) (IsWay p n) (way_wider p m n wider) e h)

  module _ (k : ℕ) (is : (s : Situation) → picked s p ≡ k → record { path = p; number = k } ∷ m s ≡ n s) where
    -- of a candidate that is taken
    pub exit_chosen : {T : Type 0} (returned : Returned T OutcomesError) (e : OutcomesError) → IsErrAnd returned (λ again. again ≡ e)
        → Refuses limit (λ q. IsWay (at p 0) m) e → IfErr returned (Refuses limit (λ q. IsWay p n))
    exit_chosen returned e same h =
        refuses_on limit (λ q. IsWay p n) returned e same
        (chosen_refuses limit (IsWay (at p 0) m) (IsWay p n) (record { path = p; number = k }) (way_chosen p k m n is) e h)

    pub picked_refused : (part old : List ListedOutcome) → AreDifferent p (choice_lists old) → HaveChoices (TakesBefore p k) old → AreDifferent (at p 0) (choice_lists part)
        → HaveChoices (LieBelow (at p 0)) part → HaveChoices (AreMade m) part → HaveChoices (LieBelow p) old → HaveChoices (AreMade n) old
        → (r : OutcomesError) → NamesRule p (length part) (length old) r → IsOverLimit limit (choice_lists old ++ with_choice p k (choice_lists part)) r → Refuses limit (λ q. IsWay p n) r
    picked_refused part old differ before part_differs placed made old_placed old_made =
        picked_refuses limit (λ q. IsWay p n) (IsWay (at p 0) m) p k (way_chosen p k m n is) part old differ before part_differs
        (have_ways_made (at p 0) m part placed made) (have_ways_made p n old old_placed old_made)

-- parts beside each other
pub beside_refused : (limit : ℕ) (p : Path) (k : ℕ) (m n whole : Situation → List Choice) → ((s : Situation) (c : Choice) → IsAmong c (m s ++ n s) → IsAmong c (whole s)) → (left right : List ListedOutcome)
    → AreDifferent (at p k) (choice_lists left) → AreDifferent p (choice_lists right)
    → HaveChoices (LieBelow (at p k)) left → HaveChoices (AreMade m) left → HaveChoices (IsPlacedFrom p (k + 1)) right → HaveChoices (AreMade n) right
    → (r : OutcomesError) → NamesRule p (length left) (length right) r → IsOverLimit limit (all_joined (choice_lists left) (choice_lists right)) r → Refuses limit (λ q. IsWay p whole) r
beside_refused limit p k m n whole wider left right differ others_differ placed made right_placed right_made =
    joined_refuses limit (λ q. IsWay p whole) (IsWay (at p k) m) (IsWayFrom p (k + 1) n) p k
    (λ cs ds h g. way_wider p (λ s. m s ++ n s) whole wider (cs ++ ds) (way_from p k (λ s. m s ++ n s) (cs ++ ds) (way_beside p k m n cs ds h g)))
    (way_of_part p k m whole (λ s c there. wider s c (any_first (λ d. d ≡ c) (m s) (n s) there)))
    (λ ds h. way_wider p n whole (λ s c there. wider s c (any_last (λ d. d ≡ c) (m s) (n s) there)) ds (way_from p (k + 1) n ds h))
    left right differ others_differ (different_from p (k + 1) (choice_lists right) (have_ways (IsPlacedFrom p (k + 1)) right right_placed) others_differ)
    (have_ways_made (at p k) m left placed made) (have_ways_from p (k + 1) n right right_placed right_made)

-- the end of a sequence
pub closed_refused : (limit : ℕ) (p : Path) (total : Situation → List Choice) (sorted : SequenceOutcomes) → AllDiffer p [] sorted → BothHave (LieBelow p) sorted
    → HaveChoices (AreMade total) sorted.done.items → HaveChoices (AreMade total) sorted.more.items
    → (r : OutcomesError) → NamesRule p (length sorted.done.items) (length sorted.more.items) r → IsOverLimit limit (both_ways sorted) r → Refuses limit (λ q. IsWay p total) r
closed_refused limit p total sorted differ placed done_made more_made =
    closed_refuses limit (λ q. IsWay p total) p sorted differ (both_ways_made p total sorted placed done_made more_made)
