-- Free. The next part of a sequence, in a view with the set so far laid over the view of the whole.
--     next_set      what comes of a part that gives a set
use Rattle.std.proofs.Common.{◌≡◌, ℕ, List, Some, sym, subst, ◌∙◌}
use Rattle.asm_state.specs.declared.value.Value.{Value}
use Rattle.asm_state.specs.Location.{State}
use Rattle.asm_state.specs.Signature.{Shape, location_at}
use Rattle.asm_state.specs.Updates.{UpdateSet, merge}
use Rattle.asm_updates.specs.code.SummaryRanges.{SummaryRanges}
use Rattle.asm_updates.specs.code.Stands.{Stands}
use Rattle.asm_meaning.specs.Does.{Outcome}
use Rattle.asm_eval.specs.code.FormedOutcomes.{IsSet}
use Rattle.asm_eval.specs.code.PartSets.{IsPartSet}
use Rattle.asm_meaning.specs.Yields.{Path}
use Rattle.asm_eval.specs.declared.part_set.PartSet.{PartSet}
use Rattle.asm_code.specs.code.RuleMeaning.{meaning}
use Rattle.asm_code.specs.code.RuleStories.{telling}
use Rattle.asm_code.specs.code.RuleTree.{RuleCode}
use Rattle.asm_eval.specs.code.Frames.{readings_of}
use Rattle.asm_eval.specs.code.Evaluation.{frame_locations}
use Rattle.asm_eval.specs.declared.frame.Frame.{Frame}
use Rattle.asm_clash.specs.Standing.{Assigned, later, stands}
use Rattle.asm_clash.specs.code.FirstFound.{IsFound}
use Rattle.asm_clash.specs.code.StandingRules.{IsNext}
use Rattle.asm_clash.specs.declared.found.Found.{Found}

module _ (turns : ℕ) (chosen : Path → ℕ) (R : RuleCode) (f : Frame) (n : ℕ) (gs : List Value) (shape upper : Shape) (same : upper ≡ shape) (A B : State) (shows : B ≡ A) (p q : Path) (at : q ≡ p) where
  abbrev yields : Shape → State → Path → Outcome
  yields sh C x = meaning sh turns chosen R (readings_of sh f) (frame_locations sh f) C x

  abbrev own : Shape → State → Path → List Assigned
  own sh C x = stands (location_at sh n) (telling sh turns chosen R (readings_of sh f) (frame_locations sh f) gs C x)

  same_yields : (yields upper B q).result ≡ (yields shape A p).result
  same_yields i = (yields (same i) (shows i) (at i)).result

  same_own : own upper B q ≡ own shape A p
  same_own i = own (same i) (shows i) (at i)

  module _ (U : UpdateSet) (most : ℕ) (before : List Assigned) (found : Found) (joined : SummaryRanges) where
    pub next_set : IsFound most (later before (own upper B q)) found → (part : PartSet) (set : SummaryRanges) (instances : ℕ) → IsSet upper (yields upper B q) set instances
        → ((V : UpdateSet) → Stands shape set V → IsPartSet V part) → ((V : UpdateSet) → Stands shape set V → Stands shape joined (merge U V))
        → IsFound most (later before (own shape A p)) found × IsNext shape U (yields shape A p).result joined (Some part)
    next_set put part set instances formed is merged =
        let V = formed.set in
        let there : Stands shape set V = subst (λ sh. Stands sh set V) same formed.stands in
        (subst (λ xs. IsFound most (later before xs) found) same_own put, (V, sym same_yields ∙ formed.gives, is V there, merged V there))
