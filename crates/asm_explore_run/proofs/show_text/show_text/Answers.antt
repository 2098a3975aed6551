use Rattle.std.proofs.Common.{◌∙◌, ◌∷◌, ◌++◌, Bor, List, ℕ, ap, map, subst}
use Rattle.asm_syntax.specs.code.Views.{spec_of}
use Rattle.asm_meaning.specs.Declarations.{specification_of}
use Rattle.asm_explore_texts.specs.Comments.{comment, comments, lines_of}
use Rattle.asm_explore_report.specs.Commands.{command}
use Rattle.asm_explore_table.specs.Rows.{rows_of}
use Rattle.asm_explore_table.specs.Tables.{IsTable}
use Rattle.asm_explore_run.proofs.ShownRuns.{shown_says, shown_text}
use Rattle.asm_explore_run.proofs.show_text.show_text.Goals as goal

pub returns : goal.returns
returns c =
    let s = spec_of c.args.checked.now.spec in
    let run = c.args.run.now in
    let settings = c.args.settings.now in
    let end = c.args.end.now in
    let table = c.in_ok-add_table.ensures in
    let script = c.in_ok-add_script.ensures in
    let because = lines_of end.because.items in
    let call = command end.steps run.turns run.spec.now in
    let assignments = lines_of end.assignments.items in
    let unmet = lines_of c.args.unmet.now in
    let is = shown_text end.first.items because call table.0 assignments unmet script.0
    _ _ _ _ _ _
    (c.in_ok-text.ensures ∙ (λ j. comments (c.as_slice.ensures.value j ∷ lines_of (c.as_slice-2.ensures.value j))))
    (c.in_ok-add_comment.ensures
    ∙ ap (λ l. c.in_ok-text.text.items ++ comment l) (c.as_slice-3.ensures.value ∙ c.in_ok-call.ensures ∙ ap (λ n. command n run.turns run.spec.now) c.from.ensures))
    table.1
    (c.in_ok-add_comments.ensures ∙ ap (λ ls. c.add_table.new.out.items ++ comments (lines_of ls)) c.as_slice-5.ensures.value)
    c.in_ok-add_comments-2.ensures
    script.2 in
    record {
      table = table.0;
      is_table = subst (λ (ns : List (Bor (List ℕ))). IsTable s (map (λ n. n.now) ns) settings.width (specification_of s).initial (rows_of s run.turns c.args.script.now end.steps) table.0)
          c.as_slice-4.ensures.value table.2;
      part = script.0;
      is_part = script.1;
      is = is;
      says = shown_says c.comments_law.ensures (end.first.items ∷ (because ++ (call ∷ (table.0 ++ (assignments ++ unmet))))) script.0 _ is;
    }
