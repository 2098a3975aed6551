-- Law. What is said of the choices that a rule makes.
--     Takes chosen cs     at the path of each choice its number is chosen
--     MakingLaws          each is made at a path of its own, and who takes the same there has the
--                         rule tell the same story
use Rattle.std.specs.Prelude.{◌≡◌, ℕ, List}
use Rattle.asm_state.specs.Location.{State}
use Rattle.asm_syntax.specs.Tree.{Rule}
use Rattle.asm_reader.specs.ScriptLines.{Script, pick}
use Rattle.asm_meaning.specs.Program.{Program, Environment}
use Rattle.asm_meaning.specs.Story.{tells}
use Rattle.asm_meaning.specs.Yields.{Path}
use Rattle.asm_explore.specs.declared.outcomes.listed_outcome.Choice.{Choice}
use Rattle.asm_explore.specs.ChoicePoints.{asked, choices_of}
use Rattle.asm_explore.specs.ListElements.{Each}
use Rattle.asm_explore.specs.code.ChoicePaths.{LieBelow}

abbrev pub Takes : (Path → ℕ) → List Choice → Type 0
Takes chosen cs = Each (λ c. chosen c.path ≡ c.number) cs

pub record MakingLaws (program : Program) (turns : ℕ) (script : Script) (step : ℕ) (A : State) (e : Environment) (p : Path) (R : Rule) : Type 0 where
  pub placed : LieBelow p (choices_of (asked (tells program turns script step A e p R)))
  pub alike : (other : Script) (later : ℕ) → Takes (pick other later) (choices_of (asked (tells program turns script step A e p R)))
      → tells program turns other later A e p R ≡ tells program turns script step A e p R
