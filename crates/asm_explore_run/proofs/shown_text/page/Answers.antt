use Rattle.std.proofs.Common.{◌∙◌, ◌++◌, ap}
use Rattle.asm_syntax.specs.code.Views.{spec_of}
use Rattle.asm_meaning.specs.Declarations.{specification_of}
use Rattle.asm_explore_report.specs.Commands.{command}
use Rattle.asm_explore_table.specs.Pages.{page_text}
use Rattle.asm_explore_table.specs.Rows.{rows_of}
use Rattle.asm_explore_table.specs.code.RunsSaid.{words_said}
use Rattle.asm_explore_table.specs.code.StepsMade.{names_said}
use Rattle.asm_explore_run.proofs.shown_text.page.Goals as goal

pub returns : goal.returns
returns c =
    let run = c.args.run.now in
    let s = spec_of run.checked.now.spec in
    let names = names_said c.args.names.now in
    let first = (specification_of s).initial in
    let rows = rows_of s run.turns run.script.now run.steps in
    let call = c.as_slice.ensures.value ∙ (c.in_ok-call.ensures ∙ ap (λ n. command n run.turns c.args.name.now) c.from.ensures) in
    c.in_ok-add_page.ensures
    ∙ (ap (λ t. t ++ page_text s names (words_said c.words_of-words.result) first rows) c.new-text.ensures.items
    ∙ ap (λ w. page_text s names w first rows) (c.words_of-words.ensures run.turns call))
