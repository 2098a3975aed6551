use Rattle.std.proofs.Common.{◌≡◌, ◌++◌, List, take}
use Rattle.asm_syntax.specs.code.Views.{spec_of}
use Rattle.asm_run.specs.Written.{names_in}
use Rattle.asm_explore.specs.ChoicePoints.{Asking}
use Rattle.asm_explore.specs.RunChoices.{choices_made}
use Rattle.asm_explore.specs.code.AskedPieces.{all_said}
use Rattle.asm_explore.specs.ChoiceLines.{lines_for}
use Rattle.asm_explore_report.specs.Commented.{said_by}
use Rattle.asm_explore_run.specs.ChoicesText.{AreEntriesOf}
use Rattle.asm_explore_run.proofs.choice_entries.add_entries.Given as goal

-- the entries of the choices so far
abbrev pub invariant-loop-i : goal.invariant-loop-i
invariant-loop-i l = record {
  lines : said_by l.entries.items ≡ said_by l.fn.entries.items ++ lines_for l.step (choices_made (take l.i l.asked));
  comments : (before : List Asking) → AreEntriesOf l.text (names_in (spec_of l.checked.spec)) before l.fn.entries.items
      → AreEntriesOf l.text (names_in (spec_of l.checked.spec)) (before ++ all_said (take l.i l.asked)) l.entries.items;
}
