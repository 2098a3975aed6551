-- Bridge to the code. What a rule yields that has one update at most, whatever is chosen.
--     IsOneUpdate shape update o       the outcome is as `update` says: empty, or with this update
--     YieldsOneUpdate view f R update  what the rule yields in what a view shows is so
use Rattle.std.specs.Prelude.{◌≡◌, ℕ, ◌<◌}
use Rattle.asm_state.specs.Location.{Location}
use Rattle.asm_state.specs.Signature.{Shape, count_of, location_at}
use Rattle.asm_state.specs.Updates.{one}
use Rattle.asm_state.specs.declared.value.Value.{Value}
use Rattle.asm_meaning.specs.Does.{Outcome, nothing}
use Rattle.asm_eval.specs.code.ShownViews.{shown}
use Rattle.asm_meaning.specs.Yields.{Path, Gives}
use Rattle.asm_eval.specs.declared.view.View.{View}
use Rattle.asm_code.specs.code.RuleMeaning.{meaning}
use Rattle.asm_code.specs.code.RuleTree.{RuleCode}
use Rattle.asm_eval.specs.code.Frames.{readings_of}
use Rattle.asm_eval.specs.code.Evaluation.{frame_locations}
use Rattle.asm_eval.specs.declared.frame.Frame.{Frame}
use Rattle.asm_eval.specs.declared.one_update.OneUpdate.{OneUpdate}
use Rattle.asm_eval.specs.declared.one_update.OneUpdate.TheVariants as single

abbrev pub updating : Location → Value → Outcome
updating l v = record { result = Gives (one l v); instances = 0 }

-- nothing is said of other rules
abbrev pub IsOneUpdate : Shape → OneUpdate → Outcome → Type 0
IsOneUpdate shape single.Nothing o = o ≡ nothing
IsOneUpdate shape (single.Update n v) o = (n < count_of shape) × (o ≡ updating (location_at shape n) v)
IsOneUpdate shape single.Unknown o = Unit {0}

abbrev pub YieldsOneUpdate : View → Frame → RuleCode → OneUpdate → Type 0
YieldsOneUpdate view f R is =
    let shape = view.signature.now in
    (turns : ℕ) (chosen : Path → ℕ) (p : Path) → IsOneUpdate shape is (meaning shape turns chosen R (readings_of shape f) (frame_locations shape f) (shown view) p)
