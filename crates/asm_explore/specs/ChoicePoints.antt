-- Definition. Which choices are made in a story, each with its candidates.
--     Asking                  a choice that is made, and its candidates
--     choices_of asked        the choices
--     asked story             what is asked in a story, in its order
--     after_set r rest        what comes after something that yields this, if it goes on
use Rattle.std.specs.Prelude.{◌++◌, cond, List, [], ◌∷◌, map}
use Rattle.asm_state.specs.Updates.{UpdateSet, is_consistent}
use Rattle.asm_state.specs.declared.value.Value.{Value}
use Rattle.asm_meaning.specs.Story.{Story, Silent, Assigns, Chooses, Instance, Beside, Then, Exhausts}
use Rattle.asm_meaning.specs.Yields.{Result, Gives, Exhausted}
use Rattle.asm_explore.specs.declared.outcomes.listed_outcome.Choice.{Choice}

pub record Asking : Type 0 where
  pub choice : Choice
  pub candidates : List Value

abbrev pub choices_of : List Asking → List Choice
choices_of asked = map (λ a. a.choice) asked

abbrev pub asked : Story → List Asking
asked Silent = []
asked (Assigns p l v ws bs) = []
asked (Chooses p k vs s) = record { choice = record { path = p; number = k }; candidates = vs } ∷ asked s
asked (Instance s) = asked s
asked (Beside s t) = asked s ++ asked t
asked (Then s t) = asked s ++ asked t
asked (Exhausts p) = []

-- what comes after a step, if the run goes on
abbrev pub after_set : {X : Type 0} → Result → (UpdateSet → List X) → List X
after_set (Exhausted q) rest = []
after_set (Gives U) rest = cond (is_consistent U) (rest U) []
