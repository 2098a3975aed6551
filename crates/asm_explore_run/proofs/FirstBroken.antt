-- Free. The first state in which a condition isn't true.
--     found_of        what is found of it, as an option
use Rattle.std.proofs.Common.{◌+◌, ◌≤◌, ℕ, List, Option, None, Some}
use Rattle.std.specs.Prelude.{IfNone, IfSome}
use Rattle.asm_syntax.specs.SourceTree.{Spec, Term}
use Rattle.asm_reader.specs.ScriptLines.{Script}
use Rattle.asm_explore_texts.specs.Comments.{lines_of}
use Rattle.asm_explore_report.specs.BrokenRuns.{HoldBefore, IsFirstBroken}
use Rattle.asm_explore_report.specs.declared.broken_run.BrokenState.{BrokenState}
use Rattle.asm_explore_run.specs.code.AskedEnds.{IsFoundOf}

pub found_of : (s : Spec) (asked : List (List ℕ)) (turns : ℕ) (script : Script) (steps : ℕ) (terms : List Term) (found : Option BrokenState)
    → IfSome found (λ broken. (broken.steps ≤ steps) × IsFirstBroken s terms turns script broken.steps broken.told.words.items (lines_of broken.told.because.items))
    → IfNone found (HoldBefore s terms turns script (steps + 1)) → IsFoundOf s asked turns script steps terms found
found_of s asked turns script steps terms None some none = none
found_of s asked turns script steps terms (Some broken) some none = some
