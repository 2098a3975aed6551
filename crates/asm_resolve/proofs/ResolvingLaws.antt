-- Free. A rule that is resolved when no name is bound tells what the rule does, and yields it.
use Rattle.std.proofs.Common.{◌≡◌, ℕ, [], sym, ap, ◌∙◌}
use Rattle.asm_state.specs.Location.{State}
use Rattle.asm_syntax.specs.SourceTree.{Spec}
use Rattle.asm_syntax.specs.Tree.{Rule}
use Rattle.asm_check.specs.Shapes.{shape_of}
use Rattle.asm_reader.specs.ScriptLines.{Script, pick}
use Rattle.asm_meaning.specs.Declarations.{program_of}
use Rattle.asm_meaning.specs.Program.{nothing_bound}
use Rattle.asm_meaning.specs.Story.{outcome_of, tells}
use Rattle.asm_meaning.specs.Yields.{Path}
use Rattle.asm_meaning.proofs.Stories.{told_outcomes}
use Rattle.asm_code.specs.code.RuleStories.{telling}
use Rattle.asm_code.specs.code.RuleTree.{RuleCode}
use Rattle.asm_code.proofs.RuleStories.{code_outcomes}
use Rattle.asm_resolve.specs.code.RuleScopes.{resolved_rule_in}
use Rattle.asm_resolve.specs.code.ResolvingLaws.{ResolvingLaws}
use Rattle.asm_resolve.proofs.StandingPositions.{stands_nothing}

told_here : (s : Spec) (P : Rule) (c : RuleCode) (turns : ℕ) (script : Script) (step : ℕ) (A : State) (p : Path) → resolved_rule_in s [] P c
    → telling (shape_of s) turns (pick script step) c [] [] [] A p ≡ tells (program_of s) turns script step A nothing_bound p P
told_here s P c turns script step A p it = it.tells turns script step nothing_bound [] [] [] A p (stands_nothing (program_of s))

pub resolving_laws : ResolvingLaws
resolving_laws = record {
  means = λ s P c turns script step A p it.
      sym (code_outcomes (shape_of s) turns (pick script step) c [] [] [] A p) ∙ ap outcome_of (told_here s P c turns script step A p it) ∙ told_outcomes (program_of s) turns script step A nothing_bound p P;
  tells = told_here;
}
