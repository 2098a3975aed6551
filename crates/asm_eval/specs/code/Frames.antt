-- Bridge to the code. What frames stand for.
--     readings_of shape f       what the positions of a frame stand for
--     frame_size f              the greatest size of a code in a frame, with that of the frame that
--                               it belongs to
--     IsSoundFrame shape f      the codes in a frame are sound
use Rattle.std.specs.Prelude.{◌<◌, ◌+◌, ◌++◌, ℕ, List, [], ◌∷◌, map, Option, Some, None}
use Rattle.asm_state.specs.Signature.{Shape, count_of}
use Rattle.asm_meaning.specs.Value.{Reading}
use Rattle.asm_eval.specs.code.ShownViews.{shown}
use Rattle.asm_eval.specs.declared.view.View.{View}
use Rattle.asm_state.specs.declared.value.Value.{Value}
use Rattle.asm_state.specs.Words.{value_of_code}
use Rattle.asm_code.specs.code.CodeTree as tree
use Rattle.asm_code.specs.code.CodeViews.{code_of, codes_of}
use Rattle.asm_code.specs.code.Readings.{always, at_position, content, reading}
use Rattle.asm_code.specs.code.Sizes.{sizes}
use Rattle.asm_code.specs.code.SoundCodes.{AreSound}
use Rattle.asm_code.specs.declared.code.Code.{Code}
use Rattle.asm_eval.specs.declared.frame.Frame.{Frame}
use Rattle.asm_eval.specs.declared.frame.Frame.TheVariants as frame

abbrev pub result_contents : Shape → Option ℕ → List Reading
result_contents shape None = []
result_contents shape (Some n) = (λ A. content shape A n) ∷ []

abbrev pub IsOptionalLocation : Shape → Option ℕ → Type 0
IsOptionalLocation shape None = Unit {0}
IsOptionalLocation shape (Some n) = n < count_of shape

abbrev pub AllSound : Shape → List Code → Type 0
AllSound shape ts = AreSound shape (codes_of (map code_of ts))

-- the values of codes that belong to a frame
abbrev pub by_name : Shape → List Reading → List Code → List Reading
by_name shape rs ts = map (λ (t : Code). reading shape (code_of t) rs) ts

abbrev pub readings_of : Shape → Frame → List Reading
readings_of shape frame.Empty = []
readings_of shape (frame.One' v p outer) = always (value_of_code v.value) ∷ readings_of shape outer
readings_of shape (frame.Values' vs p outer) = map always vs.now ++ readings_of shape outer
readings_of shape (frame.Terms' answer codes p caller) = result_contents shape answer ++ by_name shape (readings_of shape caller) codes.now

abbrev pub terms_readings : Shape → Option ℕ → List Code → (caller : Frame) → List Reading
terms_readings shape answer ts caller = result_contents shape answer ++ by_name shape (readings_of shape caller) ts

abbrev pub frame_size : Frame → ℕ
frame_size frame.Empty = 0
frame_size (frame.One' v p outer) = frame_size outer
frame_size (frame.Values' vs p outer) = frame_size outer
frame_size (frame.Terms' answer codes p caller) = sizes (codes_of (map code_of codes.now)) + frame_size caller

abbrev pub terms_load : List Code → (caller : Frame) → ℕ
terms_load ts caller = sizes (codes_of (map code_of ts)) + frame_size caller

abbrev pub IsSoundFrame : Shape → Frame → Type 0
IsSoundFrame shape frame.Empty = Unit {0}
IsSoundFrame shape (frame.One' v p outer) = IsSoundFrame shape outer
IsSoundFrame shape (frame.Values' vs p outer) = IsSoundFrame shape outer
IsSoundFrame shape (frame.Terms' answer codes p caller) = IsOptionalLocation shape answer × AllSound shape codes.now × IsSoundFrame shape caller

-- the value of a code in what a view shows
abbrev pub code_value : View → Frame → Code → Value
code_value view f t = reading view.signature.now (code_of t) (readings_of view.signature.now f) (shown view)

-- the value of what a position stands for
abbrev pub position_value : View → Frame → ℕ → Value
position_value view f i = at_position (readings_of view.signature.now f) i (shown view)

abbrev pub tree_value : View → Frame → tree.Code → Value
tree_value view f t = reading view.signature.now t (readings_of view.signature.now f) (shown view)

-- the value of a body under the values of arguments, and after them what is bound
abbrev pub bound_value : View → Frame → (bound : Frame) → (body : Code) → List Code → Value
bound_value view f bound body ts =
    reading view.signature.now (code_of body) (map (λ (t : Code). always (code_value view f t)) ts ++ readings_of view.signature.now bound) (shown view)
