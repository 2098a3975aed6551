use Rattle.std.proofs.Common.{◌≡◌, subst}
use Rattle.asm_reader.specs.ScriptLines.{Script}
use Rattle.asm_syntax.specs.SourceTree.{Spec}
use Rattle.asm_syntax.specs.code.Views.{spec_of}
use Rattle.asm_run.specs.Headline.{IsReturned, book_run}
use Rattle.asm_explore_run.proofs.printed_run.assignments_of.Goals as goal

pub assignments_shown-requires : goal.assignments_shown-requires
assignments_shown-requires g c =
    let found = c.args.found in
    let tree = spec_of found.checked.now.spec in
    let turns = found.turns in
    let steps = c.args.steps in
    let ends = c.in_ok-ended.ensures in
    let same_tree : ends.tree ≡ tree = c.one_tree.ensures found.text.now _ _ ends.accepted.spelled c.requires.accepted.spelled in
    let same_script : ends.script ≡ c.args.script.now = c.one_script.ensures c.args.script_text.now _ _ ends.spelled c.requires.spelled in
    subst (λ (s : Script). IsReturned (book_run tree turns s steps).end c.in_ok-ended.ended.end) same_script
    (subst (λ (t : Spec). IsReturned (book_run t turns ends.script steps).end c.in_ok-ended.ended.end) same_tree ends.answered)
