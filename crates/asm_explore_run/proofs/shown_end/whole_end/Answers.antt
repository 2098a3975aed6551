use Rattle.std.proofs.Common.{◌≡◌, ap, inr, subst}
use Rattle.asm_syntax.specs.SourceTree.{Spec}
use Rattle.asm_syntax.specs.code.Views.{spec_of}
use Rattle.asm_reader.specs.ScriptLines.{Script}
use Rattle.asm_run.specs.Headline.{IsReturned, book_run}
use Rattle.asm_explore_texts.specs.Comments.{lines_of}
use Rattle.asm_explore_run.proofs.shown_end.whole_end.Goals as goal

pub assignments_shown-requires : goal.assignments_shown-requires
assignments_shown-requires g c =
    let tree = spec_of c.args.checked.now.spec in
    let settings = c.args.settings.now in
    let ends = c.in_ok-ended.ensures in
    let same_tree : ends.tree ≡ tree = c.one_tree.ensures c.args.text.now _ _ ends.accepted.spelled c.requires.accepted.spelled in
    let same_script : ends.script ≡ c.args.script.now = c.one_script.ensures c.args.script_text.now _ _ ends.spelled c.requires.spelled in
    subst (λ (s : Script). IsReturned (book_run tree settings.turns s settings.steps).end c.in_ok-ended.ended.end) same_script
    (subst (λ (t : Spec). IsReturned (book_run t settings.turns ends.script settings.steps).end c.in_ok-ended.ended.end) same_tree ends.answered)

pub returns : goal.returns
returns g c terms held =
    let tree = spec_of c.args.checked.now.spec in
    let settings = c.args.settings.now in
    let ends = c.in_ok-ended.ensures in
    let same_tree : ends.tree ≡ tree = c.one_tree.ensures c.args.text.now _ _ ends.accepted.spelled c.requires.accepted.spelled in
    let same_script : ends.script ≡ c.args.script.now = c.one_script.ensures c.args.script_text.now _ _ ends.spelled c.requires.spelled in
    let r = book_run tree settings.turns c.args.script.now settings.steps in
    let answered : IsReturned r.end c.in_ok-ended.ended.end =
    subst (λ (s : Script). IsReturned (book_run tree settings.turns s settings.steps).end c.in_ok-ended.ended.end) same_script
    (subst (λ (t : Spec). IsReturned (book_run t settings.turns ends.script settings.steps).end c.in_ok-ended.ended.end) same_tree ends.answered) in
    inr (record {
      whole = record { held = held; tells = c.in_ok-first.ensures r.end answered; none = ap lines_of c.new.ensures.items };
      made = c.in_ok-steps.ensures r.end answered;
      assignments = c.in_ok-assignments.ensures;
      is_fault = c.ends_by_fault.ensures r.end answered;
    })
