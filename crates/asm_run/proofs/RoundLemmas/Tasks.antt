-- Free. What a task leaves that works its piece whole.
use Rattle.std.proofs.Common.{ℕ, None, refl, sym, ap, subst, ◌∙◌, arith}
use Rattle.asm_state.specs.Signature.{Shape}
use Rattle.asm_state.specs.Updates.{none}
use Rattle.asm_state.proofs.UpdateLemmas.UnionsAndMerges.{union_laws}
use Rattle.asm_updates.specs.code.SummaryRanges.{SummaryRanges, AreRanges}
use Rattle.asm_updates.specs.code.Stands.{Stands}
use Rattle.asm_striped.specs.code.Seats.{SeatState}
use Rattle.asm_reader.specs.declared.picks.Picks.{Ghosts}
use Rattle.asm_meaning.specs.Does.{Outcome}
use Rattle.asm_eval.specs.code.FormedOutcomes.{Forms}
use Rattle.asm_meaning.specs.Yields.{Gives}
use Rattle.asm_eval.specs.declared.evaluation.Evaluation.{Evaluation}
use Rattle.asm_run.specs.declared.job.RegionOut.TheVariants as region
use Rattle.asm_run.specs.code.Hands.{LogGrows, puts}
use Rattle.asm_run.specs.code.Rounds.{IsTaskRun, set_of}

module _ {P : Type 0} {picks : Ghosts P} (evaluation : Evaluation P picks) (shape : Shape) where
  -- a set that was formed from nothing, and was put
  pub set_worked : (n : ℕ) (o : Outcome) (before after : SeatState) (empty set : SummaryRanges) (instances : ℕ) → Stands shape empty none → Forms shape o empty set 0 instances
      → AreRanges set.count set.ranges → LogGrows before (puts n set.ranges) after → IsTaskRun evaluation shape None n o before (region.Done instances) after
  set_worked n o before after empty set instances nothing forms sound grows = record {
    tells = (forms.gives ∙ ap Gives (sym (ap set_of forms.gives)), omega (arith, forms.counts));
    left = tt;
    more = puts n set.ranges;
    puts = record {
      summary = set;
      sound = sound;
      stands = subst (Stands shape set) (union_laws.unit forms.set ∙ sym (ap set_of forms.gives)) (forms.adds none nothing);
      entries = refl;
    };
    grows = grows;
  }
