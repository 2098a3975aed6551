use Rattle.std.proofs.Common.{◌≡◌, ◌∙◌, ◌-◌, ◌<◌, ap, arith, length, subst, sym}
use Rattle.std.specs.Prelude.{All}
use Rattle.asm_state.specs.Signature.{count_of}
use Rattle.asm_syntax.specs.code.Views.{spec_of}
use Rattle.asm_check.specs.Shapes.{shape_of}
use Rattle.asm_meaning.specs.Declarations.{specification_of}
use Rattle.asm_explore_table.specs.Rows.{rows_of}
use Rattle.asm_explore_table.specs.Tables.{columns, shown_columns}
use Rattle.asm_explore_table.specs.code.JsonParts.{locations_in}
use Rattle.asm_explore_table.specs.code.RunsSaid.{words_said}
use Rattle.asm_explore_table.specs.code.StepsMade.{names_said}
use Rattle.asm_explore_table.proofs.JsonRuns.{json_run}
use Rattle.asm_explore_table.proofs.MadeTables.{all_shown, columns_known, fewer_shown}
use Rattle.asm_explore_table.proofs.TableLines.{ok_then}
use Rattle.asm_explore_table.proofs.json.add_run.Goals as goal

pub json_columns-requires : goal.json_columns-requires
json_columns-requires g c =
    let names = names_said c.args.names.now in
    let s = spec_of c.args.resolved.now.checked.now.spec in
    subst (λ ns. All (λ n. n < count_of (shape_of s)) ns) (sym (c.shown-shown.ensures ∙ ap (shown_columns names) c.as_slice.ensures.value))
    (all_shown (λ n. n < count_of (shape_of s)) names c.in_ok-all.all.items c.in_ok-all.ensures.within)

pub overflow_sub-len : goal.overflow_sub-len
overflow_sub-len g c =
    let names = names_said c.args.names.now in
    let fewer = fewer_shown names c.in_ok-all.all.items in
    let shown : length c.shown-shown.result.now ≡ length (shown_columns names c.in_ok-all.all.items) = ap length (c.shown-shown.ensures ∙ ap (shown_columns names) c.as_slice.ensures.value) in
    let many : length c.in_ok-all.all.items ≡ c.len.result = ap length (sym c.as_slice.ensures.value) ∙ c.as_slice.ensures.len ∙ sym c.len.ensures in
    omega (arith, fewer, shown, many)

pub returns : goal.returns
returns g c =
    let m = c.args.resolved.now in
    let s = spec_of m.checked.now.spec in
    let names = names_said c.args.names.now in
    let first = (specification_of s).initial in
    let rows = rows_of s m.turns (g.P.Picks.script c.args.run.now.script.now) c.args.run.now.steps in
    let are : c.in_ok-all.all.items ≡ columns s names rows = c.in_ok-all.ensures.are ∙ columns_known s first rows names c.in_ok-extent.extent c.in_ok-extent.ensures.found in
    let shown = c.shown-shown.ensures ∙ ap (shown_columns names) (c.as_slice.ensures.value ∙ are) in
    let many : length c.in_ok-all.all.items ≡ c.len.result = ap length (sym c.as_slice.ensures.value) ∙ c.as_slice.ensures.len ∙ sym c.len.ensures in
    let left : c.len.result - length c.shown-shown.result.now ≡ length (columns s names rows) - length (shown_columns names (columns s names rows)) = λ j. (sym many ∙ ap length are) j - (ap length shown) j in
    let located = ap locations_in c.as_slice-2.ensures.value ∙ c.in_ok-columns.ensures.locations ∙ shown in
    ok_then c.add_end.result _ _
    (json_run s names (words_said c.args.words.now) first rows (locations_in c.as_slice-2.result.now) (c.len.result - length c.shown-shown.result.now) c.args.out.now.items _ _ located left c.in_ok-add_rows.ensures)
    c.add_end.ensures
