use Rattle.std.proofs.Common.{◌≡◌, ◌∙◌, ◌++◌, [], List, ℕ, ap, codes, refl, subst}
use Rattle.std.specs.Prelude.{IfOk}
use Rattle.asm_explore_texts.specs.Comments.{lines_of}
use Rattle.asm_explore_report.specs.Printed.{behind_first, left_out, named, names_of, no_table}
use Rattle.asm_explore_report.proofs.PrintedScripts.{named_comments}
use Rattle.asm_explore_report.proofs.printed.without_table.Goals as goal

pub returns : goal.returns
returns c lines is =
    let first = c.args.first.now in
    let facts = lines_of c.args.facts.now in
    let trace = lines_of c.args.trace.now in
    let script = c.args.script.now in
    let same : named (codes "the table") c.args.table.now ≡ named (codes "the table") lines = ap (named (codes "the table")) is ∙ named_comments (codes "the table") lines in
    let names : names_of c.as_slice.result.now ≡ no_table first facts lines trace script =
    ap names_of c.as_slice.ensures.value ∙ (c.in_ok-parts.ensures ∙ ap (λ ns. named (codes "the trace") trace ++ ns) same) in
    let left : lines_of c.as_slice-2.result.now ≡ left_out (no_table first facts lines trace script) = ap lines_of c.as_slice-2.ensures.value ∙ (c.in_ok-line.ensures ∙ ap left_out names) in
    subst (λ (ls : List (List ℕ)). IfOk c.with_table.result (λ text. text.items ≡ behind_first first (facts ++ ls) script)) left (c.with_table.ensures [] refl)
