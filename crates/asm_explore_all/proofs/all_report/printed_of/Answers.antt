use Rattle.std.proofs.Common.{◌≡◌, ◌∙◌, ◌++◌, List, ℕ, Option, ap, subst}
use Rattle.asm_syntax.specs.code.Views.{spec_of}
use Rattle.asm_explore_texts.specs.Comments.{lines_of}
use Rattle.asm_explore_report.specs.ShownRuns.{Shown}
use Rattle.asm_explore_run.specs.PrintedRun.{IsPrintedRun}
use Rattle.asm_explore_all.specs.AllFacts.{shown_in}
use Rattle.asm_explore_all.specs.FindingLine.{first_line}
use Rattle.asm_explore_all.proofs.all_report.printed_of.Goals as goal

pub returns : goal.returns
returns g c links joined =
    let finding = c.args.answered.now.finding in
    let turns = c.args.asked.now.question.turns in
    let told = c.in_ok-words.field-0 in
    let words = told.words.items in
    let because = lines_of told.because.items in
    let settings = c.args.settings.now in
    let spec = spec_of c.args.asked.now.checked.spec in
    let whole = c.in_ok-whole.whole.items in
    let facts = lines_of c.in_ok-facts.facts.items in
    let Prints = IsPrintedRun c.args.text.now spec turns settings.table settings.trace in
    let first : c.as_slice-2.result.now ≡ first_line finding words = c.as_slice-2.ensures.value ∙ (c.in_ok-first.ensures ∙ ap (first_line finding) c.as_slice.ensures.value) in
    let others : lines_of c.as_slice-3.result.now ≡ because ++ facts = ap lines_of c.as_slice-3.ensures.value ∙ c.in_ok-lines.ensures in
    let by_run = subst (λ (run : Option Shown). Prints c.as_slice-2.result.now (lines_of c.as_slice-3.result.now) run whole) c.shown_run.ensures c.in_ok-whole.ensures in
    let by_first = subst (λ (l : List ℕ). Prints l (lines_of c.as_slice-3.result.now) (shown_in finding) whole) first by_run in
    record {
      words = words;
      because = because;
      tell = c.in_ok-words.ensures links joined c.requires.accepted;
      facts = facts;
      are_facts = c.in_ok-facts.ensures;
      are_printed = subst (λ (ls : List (List ℕ)). Prints (first_line finding words) ls (shown_in finding) whole) others by_first;
    }
