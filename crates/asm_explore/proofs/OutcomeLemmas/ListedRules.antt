-- Free. What a call promises that lists the outcomes of a rule, by what another call promises.
--     listed_same      of a rule that yields the same, and makes the same choices
--     listed_tree      of the same rule
--     listed_part      of a part that is reached
--     exit_list        at the exit of a `?`
--     refused_list     if there are too many
use Rattle.std.proofs.Common.{Vec, Global, ◌≡◌, ℕ, List, subst}
use Rattle.std.specs.Prelude.{Result as Returned, Ok, Err, IfErr}
use Rattle.std.specs.Result.{IsErrAnd}
use Rattle.asm_meaning.specs.Yields.{Path, Result, at}
use Rattle.asm_code.specs.code.RuleTree as tree
use Rattle.asm_eval.specs.declared.frame.Frame.{Frame}
use Rattle.asm_explore.specs.declared.exploration.Exploration.{Exploration}
use Rattle.asm_explore.specs.declared.outcomes.listed_outcome.Choice.{Choice}
use Rattle.asm_explore.specs.declared.outcomes.listed_outcome.ListedOutcome.{ListedOutcome}
use Rattle.asm_explore.specs.declared.outcomes.outcomes_error.OutcomesError.{OutcomesError}
use Rattle.asm_explore.specs.code.ChoicePaths.{LieBelow}
use Rattle.asm_explore.specs.code.ChoicesMade.{IsWay}
use Rattle.asm_explore.specs.code.ExploredRules.{exploration_shape, yields_on, makes_on}
use Rattle.asm_explore.specs.code.ListedRules.{ListsOutcomes}
use Rattle.asm_explore.specs.code.OutcomeLists.{Situation}
use Rattle.asm_explore.specs.code.OverLimit.{Refuses}
use Rattle.asm_explore.proofs.ChoiceLemmas.ChoicePaths.{placed_part, ok_have}
use Rattle.asm_explore.proofs.ChoiceLemmas.MadeChoices.{ok_made}
use Rattle.asm_explore.proofs.OutcomeLemmas.OverLimit.{ok_differs, refuses_on}
use Rattle.asm_explore.proofs.OutcomeLemmas.RefusedParts.{err_made, err_part}
use Rattle.asm_explore.proofs.OutcomeLemmas.RuleOutcomes.{ok_same}

module _ (on : Exploration) (p : Path) where
  pub listed_tree : (f : Frame) (R S : tree.RuleCode) (r : Returned (Vec ListedOutcome Global) OutcomesError) → R ≡ S
      → ListsOutcomes on p (yields_on on f p R) (makes_on on f p R) r → ListsOutcomes on p (yields_on on f p S) (makes_on on f p S) r
  listed_tree f R S r = subst (λ T. ListsOutcomes on p (yields_on on f p T) (makes_on on f p T) r)

  module _ (o q : Situation → Result) (m n : Situation → List Choice) where
    pub listed_same : (r : Returned (Vec ListedOutcome Global) OutcomesError) → ((s : Situation) → o s ≡ q s) → ((s : Situation) → m s ≡ n s)
        → ListsOutcomes on p o m r → ListsOutcomes on p q n r
    listed_same r alike same h = record {
      lists = ok_same (exploration_shape on) o q r alike h.lists;
      placed = h.placed;
      differ = h.differ;
      made = ok_made m n r same h.made;
      crowded = err_made on.limit p m n r same h.crowded;
    }

    pub listed_part : (k : ℕ) (r : Returned (Vec ListedOutcome Global) OutcomesError) → ((s : Situation) → o s ≡ q s) → ((s : Situation) → m s ≡ n s)
        → ListsOutcomes on (at p k) o m r → ListsOutcomes on p q n r
    listed_part k r alike same h = record {
      lists = ok_same (exploration_shape on) o q r alike h.lists;
      placed = ok_have (LieBelow (at p k)) (LieBelow p) r (placed_part p k) h.placed;
      differ = ok_differs p k r h.differ;
      made = ok_made m n r same h.made;
      crowded = err_part on.limit p m n k r same h.crowded;
    }

  -- ---- at the exit of a `?`

  module _ (o : Situation → Result) (m : Situation → List Choice) where
    pub exit_list : (r : Returned (Vec ListedOutcome Global) OutcomesError) (e : OutcomesError) → IsErrAnd r (λ again. again ≡ e)
        → IfErr r (Refuses on.limit (λ q. IsWay p m)) → ListsOutcomes on p o m r
    exit_list (Ok fs) e same h = absurd same
    exit_list (Err again) e same h = record { lists = tt; placed = tt; differ = tt; made = tt; crowded = h }

    pub refused_list : (r : Returned (Vec ListedOutcome Global) OutcomesError) (e : OutcomesError) → IsErrAnd r (λ again. again ≡ e)
        → Refuses on.limit (λ q. IsWay p m) e → ListsOutcomes on p o m r
    refused_list r e same h = exit_list r e same (refuses_on on.limit (λ q. IsWay p m) r e same h)
