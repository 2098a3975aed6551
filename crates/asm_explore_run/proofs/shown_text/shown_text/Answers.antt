use Rattle.std.proofs.Common.{IfOk, ◌≡◌, subst, sym}
use Rattle.asm_syntax.specs.code.Views.{spec_of}
use Rattle.asm_meaning.specs.Declarations.{specification_of}
use Rattle.asm_explore_texts.specs.Comments.{lines_of}
use Rattle.asm_explore_table.specs.Pages.{page_text}
use Rattle.asm_explore_table.specs.Rows.{rows_of}
use Rattle.asm_explore_table.specs.code.StepsMade.{names_said}
use Rattle.asm_explore_run.specs.ShowReport.{IsShownText, names_shown, words_of}
use Rattle.asm_explore_run.specs.code.ShownEnds.{end_said}
use Rattle.asm_explore_run.proofs.shown_text.shown_text.Goals as goal

pub returns-in-Page : goal.returns-in-Page
returns-in-Page c =
    let s = spec_of c.args.checked.now.spec in
    let run = c.args.run.now in
    let settings = c.args.settings.now in
    let script = c.args.script.now in
    let end = end_said c.args.end.now in
    let unmet = lines_of c.args.unmet.now in
    let words = words_of run.turns run.spec.now end unmet in
    let rows = rows_of s run.turns script end.steps in
    subst (λ form. IfOk c.page.result (λ text. IsShownText s run.turns script form run.spec.now (names_shown settings) settings.width end unmet text.items)) (sym c.in-Page.is)
    (subst (λ ns. IfOk c.page.result (λ text. text.items ≡ page_text s (names_said ns) words (specification_of s).initial rows)) c.as_slice-names.ensures.value c.page.ensures)
