-- Law. The law of choice: scripts take nothing away from what a rule may yield, and add nothing to
-- it.
use Rattle.std.specs.Prelude.{◌≡◌, ℕ}
use Rattle.asm_state.specs.Location.{State}
use Rattle.asm_syntax.specs.Tree.{Name, Rule}
use Rattle.asm_meaning.specs.Program.{Program, Environment}
use Rattle.asm_meaning.specs.Value.{nesting}
use Rattle.asm_meaning.specs.Yields.{Path, Result, Yields}
use Rattle.asm_reader.specs.ScriptLines.{Script}
use Rattle.asm_meaning.specs.Does.{does}
use Rattle.asm_meaning.specs.Scripts.{IsUnrepeated}
use Rattle.asm_meaning.specs.Ranks.{CallsBelow, IsRanked}

-- what a rule does under a script is what it may yield
abbrev pub ScriptedIsFree : Type 0
ScriptedIsFree =
    (program : Program) (rank : Name → ℕ) (turns : ℕ) (script : Script) (step : ℕ) (A : State) (e : Environment) (p : Path) (R : Rule)
    → IsRanked program rank → CallsBelow program rank nesting R
    → Yields program turns A e p R (does program turns script step A e p R).result

-- whatever a rule may yield, it does so under some script without two lines of one step and path
abbrev pub FreeHasScript : Type 0
FreeHasScript =
    (program : Program) (rank : Name → ℕ) (turns step : ℕ) (A : State) (e : Environment) (p : Path) (R : Rule) (r : Result)
    → IsRanked program rank → CallsBelow program rank nesting R → Yields program turns A e p R r
    → (script : Script) × IsUnrepeated script × ((does program turns script step A e p R).result ≡ r)
