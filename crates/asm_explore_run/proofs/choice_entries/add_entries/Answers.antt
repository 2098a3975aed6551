use Rattle.std.proofs.Common.{◌++◌, ◌∷◌, ◌∙◌, [], List, ap, subst, sym, take}
use Rattle.std.proofs.lemmas.List.{map-append}
use Rattle.asm_syntax.specs.code.Views.{spec_of}
use Rattle.asm_run.specs.Written.{names_in}
use Rattle.asm_explore.specs.RunChoices.{asked_said}
use Rattle.asm_explore.specs.code.AskedPieces.{all_said}
use Rattle.asm_explore.specs.WrittenScripts.{line_said}
use Rattle.asm_explore_report.specs.Commented.{said_by}
use Rattle.asm_explore_report.specs.declared.commented.Entry.{Entry}
use Rattle.asm_explore_run.specs.ChoicesText.{AreEntriesOf}
use Rattle.asm_explore_run.proofs.ChoiceEntries.{asked_more, entries_more, lines_more}
use Rattle.asm_explore_run.proofs.choice_entries.add_entries.Goals as goal

pub loop-i-preserved : goal.loop-i-preserved
loop-i-preserved c =
    let names = names_in (spec_of c.args.checked.now.spec) in
    let asked = c.args.asked.now in
    let i = c.loop-i.i in
    let low = c.loop-i-test.true in
    let a = c.index-asked-i.result in
    let entry = c.in_ok-entry.field-0 in
    let old = c.loop-i.entries.items in
    let new = c.push.new.self.items in
    let pushed = c.in_ok-push.ensures.items in
    record {
      lines = lines_more c.args.step asked i a (said_by c.args.entries.now.items) (said_by new) low c.index-asked-i.is
          (ap said_by pushed ∙ (map-append (λ e. line_said e.line) old (entry ∷ []) ∙ (λ j. c.loop-i.invariant.lines j ++ c.in_ok-entry.ensures.line j)));
      comments = λ before are.
          subst (λ xs. AreEntriesOf c.args.text.now names xs new) (asked_more before asked i a low c.index-asked-i.is)
          (subst (λ es. AreEntriesOf c.args.text.now names ((before ++ all_said (take i asked)) ++ asked_said a ∷ []) es) (sym {A = List Entry} pushed)
          (entries_more c.args.text.now names (before ++ all_said (take i asked)) old (asked_said a) entry (c.loop-i.invariant.comments before are) c.in_ok-entry.ensures.comment));
    }
