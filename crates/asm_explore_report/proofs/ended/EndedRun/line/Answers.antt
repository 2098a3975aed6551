use Rattle.std.proofs.Common.{rules, ◌≡◌, ◌∙◌, ◌++◌, codes, decimal, sym, ap, append_assoc}
use Rattle.asm_syntax.specs.code.Views.{spec_of}
use Rattle.asm_run.specs.Ends.{end_words}
use Rattle.asm_run.specs.Written.{names_in}
use Rattle.asm_explore_report.specs.EndWords.{limit_line, step_line}
use Rattle.asm_explore_report.proofs.ToldEnds.{limit_told, step_told}
use Rattle.asm_explore_report.proofs.ended.EndedRun.line.Goals as goal

pub returns-in_ok-format-in-None : goal.returns-in_ok-format-in-None
returns-in_ok-format-in-None c e is =
    let names = names_in (spec_of c.args.checked.now.spec) in
    let line : c.into_bytes.result.items ≡ limit_line c.args.steps = search rules in
    limit_told names c.args.steps e c.args.self.now.end c.into_bytes.result.items (sym c.step.ensures ∙ c.in-None.is) is line

pub returns-in_ok-push_end_words-in-Some : goal.returns-in_ok-push_end_words-in-Some
returns-in_ok-push_end_words-in-Some c e is =
    let names = names_in (spec_of c.args.checked.now.spec) in
    let end = c.args.self.now.end in
    let step = c.in-Some.step in
    let front : c.into_bytes-line.result.items ≡ codes "fault in step " ++ (decimal step ++ codes ": ") = search rules in
    let line : c.push_end_words.new.out.items ≡ step_line step (end_words names end) =
    c.in_ok-push_end_words-in-Some.ensures ∙ (ap (λ t. t ++ end_words names end) front
    ∙ (append_assoc (codes "fault in step ") (decimal step ++ codes ": ") (end_words names end)
    ∙ ap (λ t. codes "fault in step " ++ t) (append_assoc (decimal step) (codes ": ") (end_words names end)))) in
    step_told names c.args.steps step e end c.push_end_words.new.out.items (sym c.step.ensures ∙ c.in-Some.is) is line
