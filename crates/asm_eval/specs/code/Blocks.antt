-- Bridge to the code. Terms under each of some values, which stand at position 0 in turn.
--     value_for shape f A t v       the value of a term in the state A, with v before what the
--                                   frame has
--     holds_for                     whether it is the truth value true
--     AreValuesFor                  the values of a term for the first of some values
use Rattle.std.specs.Prelude.{◌≡◌, ◌<◌, ℕ, Bool, List, ◌∷◌, slice_index_or}
use Rattle.asm_state.specs.declared.value.Value.{Value}
use Rattle.asm_state.specs.declared.value.Value.TheVariants.{Undef}
use Rattle.asm_meaning.specs.Value.{is_true}
use Rattle.asm_eval.specs.code.ShownViews.{shown}
use Rattle.asm_eval.specs.declared.view.View.{View}
use Rattle.asm_code.specs.code.CodeTree.{Code}
use Rattle.asm_code.specs.code.Readings.{always, reading}
use Rattle.asm_eval.specs.code.Frames.{readings_of}
use Rattle.asm_eval.specs.declared.frame.Frame.{Frame}

abbrev pub value_for : View → Frame → Code → Value → Value
value_for view f t v = reading view.signature.now t (always v ∷ readings_of view.signature.now f) (shown view)

abbrev pub holds_for : View → Frame → Code → Value → Bool
holds_for view f t v = is_true (value_for view f t v)

-- the value at a position of a block
abbrev pub at : List Value → ℕ → Value
at vs k = slice_index_or vs k Undef

abbrev pub AreValuesFor : View → Frame → Code → (count : ℕ) → (elements values : List Value) → Type 0
AreValuesFor view f t count vs ws = (k : ℕ) → k < count → at ws k ≡ value_for view f t (at vs k)
