use Rattle.std.proofs.Common.{◌∙◌, ℕ, List, sym, subst}
use Rattle.std.specs.String.{string_bytes}
use Rattle.std.proofs.lemmas.Result.{IfOk-weaker}
use Rattle.asm_state.specs.Signature.{state_of}
use Rattle.asm_syntax.specs.code.Views.{spec_of}
use Rattle.asm_check.specs.Shapes.{shape_of}
use Rattle.asm_explore_texts.specs.code.CodedConditions.{terms_in}
use Rattle.asm_explore_texts.specs.Comments.{lines_of}
use Rattle.asm_explore_report.proofs.WordsOfRuns.{Ends, deadlock_tells, end_tells, wrong_tells}
use Rattle.asm_explore_report.proofs.fault_words.bad_words.Goals as goal

pub returns-in-Exhausted : goal.returns-in-Exhausted
returns-in-Exhausted g c links joined accepted =
    let bad = c.args.bad.now in
    let s = spec_of c.args.subject.now.checked.now.spec in
    let told = c.alone.result in
    let text = string_bytes bad.script in
    end_tells s (terms_in links) c.args.subject.now.turns text bad.step bad.fault told.words.items (lines_of told.because.items) c.in-Exhausted.is c.alone.ensures.1
    (subst (λ (words : List ℕ). Ends s (terms_in links) c.args.subject.now.turns text bad.step bad.fault words) (sym c.alone.ensures.0) (c.in_ok-end.ensures accepted))

pub returns-in_ok-last-in-Wrong : goal.returns-in_ok-last-in-Wrong
returns-in_ok-last-in-Wrong g c links joined accepted =
    let checked = c.args.subject.now.checked.now in
    let bad = c.args.bad.now in
    IfOk-weaker c.words_in.result _ _
    (λ told broken. wrong_tells (spec_of checked.spec) (terms_in links) c.args.subject.now.turns (string_bytes bad.script) bad.step bad.fault
    (state_of (shape_of (spec_of checked.spec)) c.in_ok-last-in-Wrong.last) c.in_ok-end.end.items told.words.items (lines_of told.because.items) c.in-Wrong.is (c.in_ok-end.ensures accepted) c.in_ok-last-in-Wrong.ensures.after broken)
    (c.words_in.ensures links joined)

pub returns-in_ok-words-in-Deadlock : goal.returns-in_ok-words-in-Deadlock
returns-in_ok-words-in-Deadlock g c links joined accepted =
    let bad = c.args.bad.now in
    let told = c.alone-in-Deadlock.result in
    deadlock_tells (spec_of c.args.subject.now.checked.now.spec) (terms_in links) c.args.subject.now.turns (string_bytes bad.script) bad.step bad.fault
    c.in_ok-end.end.items told.words.items (lines_of told.because.items) c.in-Deadlock.is (c.in_ok-end.ensures accepted) (c.alone-in-Deadlock.ensures.0 ∙ c.in_ok-words-in-Deadlock.ensures.items)
    c.alone-in-Deadlock.ensures.1
