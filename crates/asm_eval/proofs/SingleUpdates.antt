-- Free. A sequence goes on with a rule that has one update at most.
--     single_upon      what such a rule yields in the state in which a set has been fired
--     goes_by_none     it has no update
--     goes_by_one      it has one
use Rattle.std.proofs.Common.{◌≡◌, ℕ, ◌≤◌, refl, sym, subst}
use Rattle.std.specs.Prelude.{Result as Returned, Ok, Err, IfOk, OnOk}
use Rattle.asm_state.specs.Signature.{Shape}
use Rattle.asm_state.specs.Updates.{UpdateSet, none, merge, fire}
use Rattle.asm_state.proofs.UpdateLemmas.UnionsAndMerges.{merge_laws}
use Rattle.asm_updates.specs.code.SummaryRanges.{SummaryRanges}
use Rattle.asm_updates.specs.code.Stands.{Stands}
use Rattle.asm_meaning.specs.Does.{Outcome, nothing}
use Rattle.asm_eval.specs.code.FormedOutcomes.{IsMergedPart, greatest_count}
use Rattle.asm_eval.specs.code.PartSets.{IsPartSet}
use Rattle.asm_eval.specs.code.ShownViews.{shown}
use Rattle.asm_meaning.specs.Yields.{Path, Gives}
use Rattle.asm_eval.specs.declared.part_set.PartSet.{PartSet}
use Rattle.asm_eval.specs.declared.part_set.PartSet.TheVariants.{Empty}
use Rattle.asm_eval.specs.declared.stopped.Stopped.{Stopped}
use Rattle.asm_eval.specs.declared.view.View.{View}
use Rattle.asm_eval.proofs.SequenceLaws.{sequence_laws-goes_by as goes_by}
use Rattle.asm_reader.specs.declared.picks.Picks.{Ghosts}
use Rattle.asm_code.specs.code.RuleMeaning.{meaning}
use Rattle.asm_code.specs.code.RuleTree.{RuleCode}
use Rattle.asm_eval.specs.code.Frames.{readings_of}
use Rattle.asm_eval.specs.code.Evaluation.{evaluation_shape, evaluation_state, evaluation_choices, frame_locations, rule_in, rule_upon}
use Rattle.asm_eval.specs.code.OneUpdate.{IsOneUpdate, YieldsOneUpdate}
use Rattle.asm_eval.specs.declared.frame.Frame.{Frame}
use Rattle.asm_eval.specs.declared.evaluation.Evaluation.{Evaluation}
use Rattle.asm_eval.specs.declared.one_update.OneUpdate.{OneUpdate}

module _ {P : Type 0} {picks : Ghosts P} (r : Evaluation P picks) (v : View) (f : Frame) (R : RuleCode) (q : Path) (same : v.signature.now ≡ evaluation_shape r) where
  pub single_shown : (is it : OneUpdate) → is ≡ it → YieldsOneUpdate v f R is → IsOneUpdate (evaluation_shape r) it (rule_in r f q R (shown v))
  single_shown is it which single =
      subst (λ s. IsOneUpdate s it (meaning s r.turns (evaluation_choices r) R (readings_of s f) (frame_locations s f) (shown v) q)) same
      (subst (λ x. IsOneUpdate v.signature.now x (meaning v.signature.now r.turns (evaluation_choices r) R (readings_of v.signature.now f) (frame_locations v.signature.now f) (shown v) q)) which
      (single r.turns (evaluation_choices r) q))

  pub single_upon : (is it : OneUpdate) (U : UpdateSet) → is ≡ it → shown v ≡ fire (evaluation_state r) U → YieldsOneUpdate v f R is → IsOneUpdate (evaluation_shape r) it (rule_upon r U f q R)
  single_upon is it U which fired single = subst (λ A. IsOneUpdate (evaluation_shape r) it (rule_in r f q R A)) fired (single_shown is it which single)

pub goes_by_none : (shape : Shape) (o : Outcome) (U : UpdateSet) (so_far : SummaryRanges) (n : ℕ) → o ≡ nothing → n ≤ greatest_count → Stands shape so_far U
    → IsMergedPart shape o U so_far Empty n n
goes_by_none shape o U so_far n is small stands =
    goes_by shape o U none so_far Empty n is small refl (subst (Stands shape so_far) (sym (merge_laws.last_unit U)) stands)

pub goes_by_one : (shape : Shape) (o : Outcome) (U V : UpdateSet) (joined : SummaryRanges) (n m : ℕ) (returned : Returned PartSet Stopped) → o ≡ record { result = Gives V; instances = 0 }
    → n ≤ greatest_count → m ≡ n → IfOk returned (λ part. IsPartSet V part) → OnOk returned (Stands shape joined (merge U V))
    → IfOk returned (λ part. IsMergedPart shape o U joined part n m)
goes_by_one shape o U V joined n m (Ok part) outcome small same is stands =
    subst (λ k. IsMergedPart shape o U joined part n k) (sym same) (goes_by shape o U V joined part n outcome small is stands)
goes_by_one shape o U V joined n m (Err stop) outcome small same is stands = tt
