use Rattle.std.proofs.Common.{◌≡◌, subst}
use Rattle.asm_reader.specs.ScriptLines.{Script}
use Rattle.asm_syntax.specs.SourceTree.{Spec}
use Rattle.asm_syntax.specs.code.Views.{spec_of}
use Rattle.asm_run.specs.Headline.{IsReturned, book_run}
use Rattle.asm_explore_run.proofs.run_end.told_end.Goals as goal

pub returns : goal.returns
returns g c = λ script spelled.
    let tree = spec_of c.args.checked.now.spec in
    let settings = c.args.settings.now in
    let ends = c.in_ok-ended.ensures in
    let same_tree : ends.tree ≡ tree = c.one_tree.ensures c.args.text.now _ _ ends.accepted.spelled c.requires.spelled in
    let same_script : ends.script ≡ script = c.one_script.ensures c.args.script_text.now _ _ ends.spelled spelled in
    let answered : IsReturned (book_run tree settings.turns script settings.steps).end c.in_ok-ended.ended.end =
    subst (λ (s : Script). IsReturned (book_run tree settings.turns s settings.steps).end c.in_ok-ended.ended.end) same_script
    (subst (λ (t : Spec). IsReturned (book_run t settings.turns ends.script settings.steps).end c.in_ok-ended.ended.end) same_tree ends.answered) in
    (answered, c.in_ok-line.ensures _ answered)
