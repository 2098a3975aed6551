use Rattle.std.proofs.Common.{◌≡◌, ◌∙◌, ◌<◌, ◌++◌, [], None, ap, append-nil, drop, subst, sym}
use Rattle.std.specs.Prelude.{All}
use Rattle.std.proofs.lemmas.List.{drop_all}
use Rattle.asm_state.specs.Signature.{count_of}
use Rattle.asm_syntax.specs.code.Views.{spec_of}
use Rattle.asm_check.specs.Shapes.{shape_of}
use Rattle.asm_explore_table.specs.Pages.{marked_from, page_columns}
use Rattle.asm_explore_table.specs.declared.page_columns.PageColumn.{PageColumn}
use Rattle.asm_explore_table.proofs.PageTables.{all_marked}
use Rattle.asm_explore_table.proofs.page_columns.page_columns.Goals as goal

pub returns-clause-within : goal.returns-clause-within
returns-clause-within c =
    let s = spec_of c.args.checked.now.spec in
    let ns = c.args.numbers.now in
    let l = c.loop-k in
    let rest : drop l.k ns ≡ [] = drop_all l.k ns c.loop-k-test.false in
    let are : l.columns.items ≡ page_columns s ns = sym (append-nil l.columns.items) ∙ ap (λ ms. l.columns.items ++ marked_from s l.before l.spanned ms) (sym rest) ∙ l.invariant in
    subst (λ cs. All (λ (one : PageColumn). one.location < count_of (shape_of s)) cs) (sym are) (all_marked (λ n. n < count_of (shape_of s)) s None 0 ns c.requires)
