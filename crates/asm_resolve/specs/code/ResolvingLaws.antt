-- Bridge to the code. What a rule means that is resolved when no name is bound.
--     ResolvingLaws     its code tells what the rule does, and so yields what it does, in each
--                       state, at each path and under each script
use Rattle.std.specs.Prelude.{◌≡◌, ℕ, []}
use Rattle.asm_state.specs.Location.{State}
use Rattle.asm_syntax.specs.SourceTree.{Spec}
use Rattle.asm_syntax.specs.Tree.{Rule}
use Rattle.asm_check.specs.Shapes.{shape_of}
use Rattle.asm_reader.specs.ScriptLines.{Script, pick}
use Rattle.asm_meaning.specs.Declarations.{program_of}
use Rattle.asm_meaning.specs.Does.{does}
use Rattle.asm_meaning.specs.Program.{nothing_bound}
use Rattle.asm_meaning.specs.Story.{tells}
use Rattle.asm_meaning.specs.Yields.{Path}
use Rattle.asm_code.specs.code.RuleMeaning.{meaning}
use Rattle.asm_code.specs.code.RuleStories.{telling}
use Rattle.asm_code.specs.code.RuleTree.{RuleCode}
use Rattle.asm_resolve.specs.code.RuleScopes.{resolved_rule_in}

pub record ResolvingLaws : Type 0 where
  pub means : (s : Spec) (P : Rule) (c : RuleCode) (turns : ℕ) (script : Script) (step : ℕ) (A : State) (p : Path) → resolved_rule_in s [] P c
      → meaning (shape_of s) turns (pick script step) c [] [] A p ≡ does (program_of s) turns script step A nothing_bound p P
  pub tells : (s : Spec) (P : Rule) (c : RuleCode) (turns : ℕ) (script : Script) (step : ℕ) (A : State) (p : Path) → resolved_rule_in s [] P c
      → telling (shape_of s) turns (pick script step) c [] [] [] A p ≡ tells (program_of s) turns script step A nothing_bound p P
