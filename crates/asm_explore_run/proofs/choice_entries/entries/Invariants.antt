use Rattle.std.proofs.Common.{◌≡◌, take}
use Rattle.asm_syntax.specs.code.Views.{spec_of}
use Rattle.asm_run.specs.Written.{names_in}
use Rattle.asm_explore.specs.RunChoices.{lines_forward}
use Rattle.asm_explore_report.specs.Commented.{said_by}
use Rattle.asm_explore_run.specs.ChoicesText.{AreEntriesOf}
use Rattle.asm_explore_run.proofs.ChoiceEntries.{steps_asked, steps_made}
use Rattle.asm_explore_run.proofs.choice_entries.entries.Given as goal

-- the entries of the steps so far
abbrev pub invariant-loop-k : goal.invariant-loop-k
invariant-loop-k l = record {
  lines : said_by l.entries.items ≡ lines_forward (steps_made (take l.k l.steps));
  comments : AreEntriesOf l.text (names_in (spec_of l.checked.spec)) (steps_asked (take l.k l.steps)) l.entries.items;
}
