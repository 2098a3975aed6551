use Rattle.std.proofs.Common.{◌≡◌, ◌∙◌, ◌-◌, ◌<◌, ◌++◌, List, ap, arith, length, subst, sym}
use Rattle.std.specs.Prelude.{All}
use Rattle.asm_state.specs.Signature.{count_of}
use Rattle.asm_syntax.specs.code.Views.{spec_of}
use Rattle.asm_check.specs.Shapes.{shape_of}
use Rattle.asm_meaning.specs.Declarations.{specification_of}
use Rattle.asm_explore_texts.specs.Comments.{comments}
use Rattle.asm_explore_table.specs.Rows.{rows_of}
use Rattle.asm_explore_table.specs.Tables.{columns, more_columns, shown_columns}
use Rattle.asm_explore_table.specs.declared.block.Block.{Block}
use Rattle.asm_explore_table.specs.code.StepsMade.{AreWithin, names_said}
use Rattle.asm_explore_table.proofs.MadeTables.{all_shown, blocks_within, columns_known, fewer_shown, table_made}
use Rattle.asm_explore_table.proofs.TableLines.{ok_then}
use Rattle.asm_explore_table.proofs.table.add_table_of.Goals as goal

pub blocks-requires-clause-within : goal.blocks-requires-clause-within
blocks-requires-clause-within g c =
    let names = names_said c.args.settings.names.now in
    let s = spec_of c.args.run.now.resolved.checked.now.spec in
    subst (λ ns. All (λ n. n < count_of (shape_of s)) ns) (sym (c.shown-shown.ensures ∙ ap (shown_columns names) c.as_slice.ensures.value))
    (all_shown (λ n. n < count_of (shape_of s)) names c.in_ok-all.all.items c.in_ok-all.ensures.within)

pub add_blocks-requires-clause-within : goal.add_blocks-requires-clause-within
add_blocks-requires-clause-within g c =
    let names = names_said c.args.settings.names.now in
    let s = spec_of c.args.run.now.resolved.checked.now.spec in
    let count = count_of (shape_of s) in
    let shown = c.in_ok-blocks.ensures.all ∙ c.shown-shown.ensures ∙ ap (shown_columns names) c.as_slice.ensures.value in
    subst (λ (bs : List Block). AreWithin count bs) (sym c.as_slice-2.ensures.value)
    (blocks_within count c.in_ok-blocks.blocks.items
    (subst (λ ns. All (λ n. n < count) ns) (sym shown) (all_shown (λ n. n < count) names c.in_ok-all.all.items c.in_ok-all.ensures.within)))

pub overflow_sub-len : goal.overflow_sub-len
overflow_sub-len g c =
    let names = names_said c.args.settings.names.now in
    let fewer = fewer_shown names c.in_ok-all.all.items in
    let shown : length c.shown-shown.result.now ≡ length (shown_columns names c.in_ok-all.all.items) = ap length (c.shown-shown.ensures ∙ ap (shown_columns names) c.as_slice.ensures.value) in
    let many : length c.in_ok-all.all.items ≡ c.len.result = ap length (sym c.as_slice.ensures.value) ∙ c.as_slice.ensures.len ∙ sym c.len.ensures in
    omega (arith, fewer, shown, many)

pub returns : goal.returns
returns g c =
    let m = c.args.run.now.resolved in
    let s = spec_of m.checked.now.spec in
    let names = names_said c.args.settings.names.now in
    let count = count_of (shape_of s) in
    let first = (specification_of s).initial in
    let rows = rows_of s m.turns (g.P.Picks.script c.args.run.now.script.now) c.args.run.now.steps in
    let extent = c.args.extent.now in
    let blocks = c.in_ok-blocks.blocks.items in
    let are : c.in_ok-all.all.items ≡ columns s names rows = c.in_ok-all.ensures.are ∙ columns_known s first rows names extent c.requires.found in
    let shown = c.shown-shown.ensures ∙ ap (shown_columns names) (c.as_slice.ensures.value ∙ are) in
    let many : length c.in_ok-all.all.items ≡ c.len.result = ap length (sym c.as_slice.ensures.value) ∙ c.as_slice.ensures.len ∙ sym c.len.ensures in
    let left : c.len.result - length c.shown-shown.result.now ≡ length (columns s names rows) - length (shown_columns names (columns s names rows)) = λ j. (sym many ∙ ap length are) j - (ap length shown) j in
    let within = blocks_within count blocks (subst (λ ns. All (λ n. n < count) ns) (sym c.in_ok-blocks.ensures.all) (subst (λ ns. All (λ n. n < count) ns) (sym (c.shown-shown.ensures ∙ ap (shown_columns names) c.as_slice.ensures.value)) (all_shown (λ n. n < count) names c.in_ok-all.all.items c.in_ok-all.ensures.within))) in
    ok_then c.add_more.result _ _ (λ added. table_made s names c.args.settings.width first rows extent c.requires.found c.in_ok-width.width c.in_ok-width.ensures
    c.args.out.now.items c.add_blocks.new.out.items c.add_more.new.out.items
    blocks c.in_ok-blocks.ensures.chosen c.in_ok-blocks.ensures.filled c.in_ok-blocks.ensures.laid within (c.in_ok-blocks.ensures.all ∙ shown)
    (λ head others is. c.in_ok-add_blocks.ensures head others (c.as_slice-2.ensures.value ∙ is))
    (added ∙ ap (λ n. c.add_blocks.new.out.items ++ comments (more_columns n)) left)) c.add_more.ensures
