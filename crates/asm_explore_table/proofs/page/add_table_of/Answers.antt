use Rattle.std.proofs.Common.{◌≡◌, ◌∙◌, ◌-◌, ◌<◌, ap, arith, length, subst, sym}
use Rattle.std.specs.Prelude.{All}
use Rattle.asm_state.specs.Signature.{count_of}
use Rattle.asm_syntax.specs.code.Views.{spec_of}
use Rattle.asm_check.specs.Shapes.{shape_of}
use Rattle.asm_meaning.specs.Declarations.{specification_of}
use Rattle.asm_explore_table.specs.Rows.{rows_of}
use Rattle.asm_explore_table.specs.Tables.{shown_columns}
use Rattle.asm_explore_table.specs.code.StepsMade.{names_said}
use Rattle.asm_explore_table.specs.declared.page_columns.PageColumn.{PageColumn}
use Rattle.asm_explore_table.proofs.MadeTables.{all_shown, columns_known, fewer_shown}
use Rattle.asm_explore_table.proofs.PageTables.{table_shown}
use Rattle.asm_explore_table.proofs.TableLines.{ok_then}
use Rattle.asm_explore_table.proofs.page.add_table_of.Goals as goal

pub page_columns-requires : goal.page_columns-requires
page_columns-requires g c =
    let names = names_said c.args.names.now in
    let s = spec_of c.args.run.now.resolved.checked.now.spec in
    subst (λ ns. All (λ n. n < count_of (shape_of s)) ns) (sym (c.shown-shown.ensures ∙ ap (shown_columns names) c.as_slice.ensures.value))
    (all_shown (λ n. n < count_of (shape_of s)) names c.in_ok-all.all.items c.in_ok-all.ensures.within)

pub add_page_table-requires-clause-within : goal.add_page_table-requires-clause-within
add_page_table-requires-clause-within g c =
    let s = spec_of c.args.run.now.resolved.checked.now.spec in
    subst (λ cs. All (λ (one : PageColumn). one.location < count_of (shape_of s)) cs) (sym c.as_slice-2.ensures.value) c.in_ok-columns.ensures.within

pub overflow_sub-len : goal.overflow_sub-len
overflow_sub-len g c =
    let names = names_said c.args.names.now in
    let fewer = fewer_shown names c.in_ok-all.all.items in
    let shown : length c.shown-shown.result.now ≡ length (shown_columns names c.in_ok-all.all.items) = ap length (c.shown-shown.ensures ∙ ap (shown_columns names) c.as_slice.ensures.value) in
    let many : length c.in_ok-all.all.items ≡ c.len.result = ap length (sym c.as_slice.ensures.value) ∙ c.as_slice.ensures.len ∙ sym c.len.ensures in
    omega (arith, fewer, shown, many)

pub returns : goal.returns
returns g c =
    let m = c.args.run.now.resolved in
    let s = spec_of m.checked.now.spec in
    let names = names_said c.args.names.now in
    let first = (specification_of s).initial in
    let rows = rows_of s m.turns (g.P.Picks.script c.args.run.now.script.now) c.args.run.now.steps in
    let extent = c.args.extent.now in
    let all = c.in_ok-all.all.items in
    let every = c.in_ok-all.ensures.are ∙ columns_known s first rows names extent c.requires.found in
    let front = c.shown-shown.ensures ∙ ap (shown_columns names) c.as_slice.ensures.value in
    let many : length all ≡ c.len.result = ap length (sym c.as_slice.ensures.value) ∙ c.as_slice.ensures.len ∙ sym c.len.ensures in
    let left : c.len.result - length c.shown-shown.result.now ≡ length all - length c.shown-shown.result.now = λ j. sym many j - length c.shown-shown.result.now in
    ok_then c.push_more.result _ _ (λ followed. table_shown s names c.args.run.now.is_fault first rows c.args.out.now.items c.add_page_table.new.out.items c.push_more.new.out.items
    extent.chooses c.as_slice-2.result.now all c.shown-shown.result.now _
    c.requires.found.chooses every front (c.as_slice-2.ensures.value ∙ c.in_ok-columns.ensures.are) left c.in_ok-add_page_table.ensures followed) c.push_more.ensures
