-- Free. What is so of the choices of lists is so of those that come of them.
--     have_some        of some of them
--     have_joined      of those of parts beside each other
--     have_picked      of those of a candidate that is taken, and others
--     have_sorted, have_next      of those of the next part, upon a set so far
--     have_added       of those that are done, and those that go on
use Rattle.std.proofs.Common.{ℕ, List, [], ◌∷◌, ◌++◌}
use Rattle.asm_meaning.specs.Yields.{Path}
use Rattle.asm_explore.specs.declared.outcomes.listed_outcome.Choice.{Choice}
use Rattle.asm_explore.specs.declared.outcomes.listed_outcome.ListedOutcome.{ListedOutcome}
use Rattle.asm_explore.specs.declared.outcomes.sequence_outcomes.SequenceOutcomes.{SequenceOutcomes}
use Rattle.asm_explore.specs.code.OutcomeLists.{Each, HaveChoices}
use Rattle.asm_explore.specs.code.Sequences.{BothHave, both_ways}
use Rattle.asm_explore.specs.code.ChoiceLists.{choice_lists, AreSomeOf, behind, all_joined, with_choice}
use Rattle.asm_explore.proofs.Elements.{each_append, each_first, each_last}
use Rattle.asm_explore.proofs.OutcomeLemmas.ChoiceLists.{some_each, each_mapped, have_ways, ways_have, joined_each}

pub have_some : (P : List Choice → Type 0) (fs : List ListedOutcome) (ways : List (List Choice)) → AreSomeOf (choice_lists fs) ways → Each P ways → HaveChoices P fs
have_some P fs ways some each = ways_have P fs (some_each P (choice_lists fs) ways some each)

pub have_joined : (P Q R : List Choice → Type 0) → ((cs ds : List Choice) → P cs → Q ds → R (cs ++ ds)) → (left right found : List ListedOutcome)
    → AreSomeOf (choice_lists found) (all_joined (choice_lists left) (choice_lists right)) → HaveChoices P left → HaveChoices Q right → HaveChoices R found
have_joined P Q R both left right found some h g =
    have_some R found (all_joined (choice_lists left) (choice_lists right)) some (joined_each P Q R both (choice_lists left) (choice_lists right) (have_ways P left h) (have_ways Q right g))

-- ---- a candidate

pub each_picked : (P R : List Choice → Type 0) (p : Path) (k : ℕ) → ((cs : List Choice) → P cs → R (cs ++ record { path = p; number = k } ∷ []))
    → (part old : List ListedOutcome) → HaveChoices P part → HaveChoices R old → Each R (choice_lists old ++ with_choice p k (choice_lists part))
each_picked P R p k own part old h g =
    each_append R (choice_lists old) (with_choice p k (choice_lists part)) (have_ways R old g)
    (each_mapped P R (λ cs. cs ++ record { path = p; number = k } ∷ []) own (choice_lists part) (have_ways P part h))

pub have_picked : (P R : List Choice → Type 0) (p : Path) (k : ℕ) → ((cs : List Choice) → P cs → R (cs ++ record { path = p; number = k } ∷ []))
    → (part old new : List ListedOutcome) → AreSomeOf (choice_lists new) (choice_lists old ++ with_choice p k (choice_lists part)) → HaveChoices P part → HaveChoices R old → HaveChoices R new
have_picked P R p k own part old new some h g =
    have_some R new (choice_lists old ++ with_choice p k (choice_lists part)) some (each_picked P R p k own part old h g)

-- ---- the next part

pub each_both : (R : List Choice → Type 0) (sorted : SequenceOutcomes) → BothHave R sorted → Each R (both_ways sorted)
each_both R sorted both =
    each_append R (choice_lists sorted.done.items) (choice_lists sorted.more.items) (have_ways R sorted.done.items both.0) (have_ways R sorted.more.items both.1)

pub both_each : (R : List Choice → Type 0) (sorted : SequenceOutcomes) → Each R (both_ways sorted) → BothHave R sorted
both_each R sorted each = (
  ways_have R sorted.done.items (each_first R (choice_lists sorted.done.items) (choice_lists sorted.more.items) each),
  ways_have R sorted.more.items (each_last R (choice_lists sorted.done.items) (choice_lists sorted.more.items) each),
)

module _ (P R : List Choice → Type 0) (choices : List Choice) (own : (ds : List Choice) → P ds → R (choices ++ ds)) (part : List ListedOutcome) (h : HaveChoices P part) where
  each_behind : Each R (behind choices (choice_lists part))
  each_behind = each_mapped P R (λ ds. choices ++ ds) own (choice_lists part) (have_ways P part h)

  pub each_sorted : (old : SequenceOutcomes) → BothHave R old → Each R (both_ways old ++ behind choices (choice_lists part))
  each_sorted old both = each_append R (both_ways old) (behind choices (choice_lists part)) (each_both R old both) each_behind

  pub have_sorted : (old new : SequenceOutcomes) → AreSomeOf (both_ways new) (both_ways old ++ behind choices (choice_lists part)) → BothHave R old → BothHave R new
  have_sorted old new some both =
      both_each R new (some_each R (both_ways new) (both_ways old ++ behind choices (choice_lists part)) some (each_sorted old both))

  -- of those that are done alone, or of those that go on
  pub have_next : (old new : List ListedOutcome) → AreSomeOf (choice_lists new) (choice_lists old ++ behind choices (choice_lists part)) → HaveChoices R old → HaveChoices R new
  have_next old new some g =
      have_some R new (choice_lists old ++ behind choices (choice_lists part)) some
      (each_append R (choice_lists old) (behind choices (choice_lists part)) (have_ways R old g) each_behind)

-- ---- the end

pub have_added : (R : List Choice → Type 0) (sorted : SequenceOutcomes) (found : List ListedOutcome) → AreSomeOf (choice_lists found) (both_ways sorted) → BothHave R sorted → HaveChoices R found
have_added R sorted found some both = have_some R found (both_ways sorted) some (each_both R sorted both)
