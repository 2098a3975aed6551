-- Bridge to the code. What was found at a position of a frame.
use Rattle.std.specs.Prelude.{◌<◌, ◌+◌, ℕ}
use Rattle.asm_state.specs.declared.value.Value.TheVariants.{Undef}
use Rattle.asm_state.specs.Signature.{Shape, count_of}
use Rattle.asm_meaning.specs.Value.{Reading}
use Rattle.asm_code.specs.code.CodeViews.{code_of}
use Rattle.asm_code.specs.code.Readings.{always, content, reading}
use Rattle.asm_code.specs.code.Sizes.{size}
use Rattle.asm_code.specs.code.SoundCodes.{IsSound}
use Rattle.asm_eval.specs.code.Frames.{IsSoundFrame, frame_size, readings_of}
use Rattle.asm_eval.specs.declared.find.FrameBinding.{FrameBinding}
use Rattle.asm_eval.specs.declared.find.FrameBinding.TheVariants as found

abbrev pub binding_reading : Shape → FrameBinding → Reading
binding_reading shape found.Nothing = always Undef
binding_reading shape (found.Known v) = always v
binding_reading shape (found.Located n) = λ A. content shape A n
binding_reading shape (found.ByName t caller) = reading shape (code_of t.now) (readings_of shape caller.now)

abbrev pub binding_load : FrameBinding → ℕ
binding_load found.Nothing = 0
binding_load (found.Known v) = 0
binding_load (found.Located n) = 0
binding_load (found.ByName t caller) = size (code_of t.now) + frame_size caller.now

abbrev pub IsSoundBinding : Shape → FrameBinding → Type 0
IsSoundBinding shape found.Nothing = Unit {0}
IsSoundBinding shape (found.Known v) = Unit {0}
IsSoundBinding shape (found.Located n) = n < count_of shape
IsSoundBinding shape (found.ByName t caller) = IsSound shape (code_of t.now) × IsSoundFrame shape caller.now
