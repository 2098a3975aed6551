-- Bridge to the code. The state that a view shows.
--     shown view     the state of its contents, with its sets fired one after the other
use Rattle.asm_state.specs.Location.{State}
use Rattle.asm_eval.specs.code.ShownStates.{shown_over}
use Rattle.asm_eval.specs.declared.view.View.{View}

abbrev pub shown : View → State
shown view = shown_over view.signature.now view.state.now view.below view.over.now
