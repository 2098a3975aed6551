-- Bridge to the code. Sequences through all scripts: the choices that the parts make.
--     made_after turns r rest     what is made after a part that yields this, if the sequence goes
--                                 on
--     MakesTo                     what is left makes what the next part makes, and what is left
--                                 after it
--     MakesOfAll                  what is left after a set makes choices of the whole
--     MadeSoFar                   what stays true from part to part: the choices so far are made by
--                                 the whole, and what is left makes others of it
use Rattle.std.specs.Prelude.{◌≡◌, Bool, cond, List, [], ◌++◌}
use Rattle.asm_state.specs.Location.{State}
use Rattle.asm_state.specs.Signature.{Shape}
use Rattle.asm_state.specs.Updates.{UpdateSet, IsConsistent, fire}
use Rattle.asm_meaning.specs.Yields.{Result, Gives, Exhausted}
use Rattle.asm_explore.specs.declared.outcomes.listed_outcome.Choice.{Choice}
use Rattle.asm_explore.specs.declared.outcomes.listed_outcome.ListedOutcome.{ListedOutcome}
use Rattle.asm_explore.specs.code.OverLimit.{IsAmong}
use Rattle.asm_explore.specs.code.OutcomeLists.{Situation, Each, HaveChoices}
use Rattle.asm_explore.specs.code.ChoicesMade.{AreMade}
use Rattle.asm_explore.specs.code.Sequences.{ends, HasSet}

abbrev pub made_after : (turns : Bool) → Result → (UpdateSet → List Choice) → List Choice
made_after turns (Exhausted q) rest = []
made_after turns (Gives V) rest = cond (ends turns V) [] (rest V)

abbrev pub MakesTo : (turns : Bool) → (here : Situation → State → Result) → (makes left left_then : Situation → State → List Choice) → Type 0
MakesTo turns here makes left left_then = (s : Situation) (B : State) → left s B ≡ makes s B ++ made_after turns (here s B) (λ V. left_then s (fire B V))

pub record MakesOfAll (A : State) (total : Situation → List Choice) (left : Situation → State → List Choice) (s : Situation) (U : UpdateSet) : Type 0 where
  pub consistent : IsConsistent U
  pub within : (c : Choice) → IsAmong c (left s (fire A U)) → IsAmong c (total s)

pub record MadeSoFar (shape : Shape) (A : State) (total : Situation → List Choice) (left : Situation → State → List Choice) (done front : List ListedOutcome) : Type 0 where
  pub done_made : HaveChoices (AreMade total) done
  pub front_made : HaveChoices (AreMade total) front
  pub front_on : Each (HasSet shape (MakesOfAll A total left)) front
