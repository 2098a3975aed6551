use Rattle.std.proofs.Common.{◌≡◌, ◌∙◌, ◌++◌, [], List, ℕ, ap, refl, subst, sym}
use Rattle.std.proofs.lemmas.Grind.{flat_map-append}
use Rattle.asm_syntax.specs.code.Views.{spec_of}
use Rattle.asm_meaning.specs.Declarations.{specification_of}
use Rattle.asm_meaning.specs.Run.{run}
use Rattle.asm_explore_texts.specs.Comments.{comment, comments, lines_of}
use Rattle.asm_explore_table.specs.Rows.{rows_of}
use Rattle.asm_explore_table.specs.Tables.{IsTable}
use Rattle.asm_explore_run.specs.PrintedRun.{table_width}
use Rattle.asm_explore_run.specs.ShownRun.{AreShownAssignments}
use Rattle.asm_explore_run.proofs.printed_run.table_of.Goals as goal

pub returns : goal.returns
returns g c =
    let s = spec_of c.args.found.checked.now.spec in
    let turns = c.args.found.turns in
    let script = c.in_ok-script.script in
    let same = c.in_ok-steps.ensures in
    let added = c.in_ok-add_run_table.ensures in
    let below = lines_of c.in_ok-assignments.assignments.items in
    let table : c.add_run_table.new.out.items ≡ comments added.0 = added.1 ∙ ap (λ (t : List ℕ). t ++ comments added.0) c.new-table.ensures.items in
    let all : c.add_comments.new.text.items ≡ comments (added.0 ++ below) =
    c.in_ok-add_comments.ensures ∙ (ap (λ ls. c.add_run_table.new.out.items ++ comments (lines_of ls)) c.as_slice.ensures.value
    ∙ (ap (λ (t : List ℕ). t ++ comments below) table ∙ sym (flat_map-append comment added.0 below))) in (
      added.0 ++ below,
      record {
        script = script;
        spelled = c.in_ok-script.ensures;
        table = added.0;
        is_table = subst (λ (n : ℕ). IsTable s [] table_width (specification_of s).initial (rows_of s turns script n) added.0) same added.2;
        assignments = below;
        are_assignments = subst (λ (n : ℕ). AreShownAssignments c.args.found.text.now s turns script (run (specification_of s) turns script n) below) same c.in_ok-assignments.ensures;
        are = refl;
      },
      all,
    )
