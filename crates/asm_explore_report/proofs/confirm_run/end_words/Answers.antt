use Rattle.std.proofs.Common.{◌≡◌, List, ℕ, sym, ap, subst, ◌∙◌}
use Rattle.std.specs.String.{string_bytes}
use Rattle.asm_syntax.specs.SourceTree.{Spec}
use Rattle.asm_syntax.specs.code.Views.{spec_of}
use Rattle.asm_reader.specs.ScriptLines.{Script}
use Rattle.asm_reader.specs.ScriptText.{IsScript}
use Rattle.asm_explore.specs.Search.{steps_to}
use Rattle.asm_run.specs.Headline.{IsReturned, book_run}
use Rattle.asm_explore_report.proofs.ShownEnds.{shown_ends}
use Rattle.asm_explore_report.proofs.confirm_run.end_words.Goals as goal

pub returns : goal.returns
returns g c accepted script spelled =
    let s = spec_of c.args.checked.now.spec in
    let bad = c.args.bad.now in
    let turns = c.args.turns in
    let end = c.in_ok-ended.ended.end in
    let ends = c.in_ok-ended.ensures.end in
    let run = c.run_of.result in
    let text : run.script.now ≡ string_bytes bad.script = ap (λ x. x.0) c.run_of.ensures in
    let steps : run.steps ≡ steps_to bad.fault bad.step = ap (λ x. x.1) c.run_of.ensures in
    let same_tree : ends.tree ≡ s = c.one_tree.ensures c.args.text.now _ _ ends.accepted.spelled accepted.spelled in
    let same_script : ends.script ≡ script = c.one_script.ensures run.script.now _ _ ends.spelled (subst (λ (t : List ℕ). IsScript t script) (sym text) spelled) in
    let answered : IsReturned (book_run s turns script (steps_to bad.fault bad.step)).end end =
    subst (λ (n : ℕ). IsReturned (book_run s turns script n).end end) steps
    (subst (λ (x : Script). IsReturned (book_run s turns x run.steps).end end) same_script
    (subst (λ (t : Spec). IsReturned (book_run t turns ends.script run.steps).end end) same_tree ends.answered)) in
    let e = (book_run s turns script (steps_to bad.fault bad.step)).end in
    let ends_by = shown_ends bad.step bad.fault e end answered (sym c.shows.ensures ∙ c.if-not-shows.false) in
    (ends_by, c.in_ok-words.ensures e answered)
