use Rattle.std.proofs.Common.{◌≡◌, ◌∙◌, ◌++◌, sym, ap, subst}
use Rattle.asm_syntax.specs.code.Views.{spec_of}
use Rattle.asm_run.specs.Ends.{end_words}
use Rattle.asm_run.specs.Written.{names_in}
use Rattle.asm_explore_report.specs.EndWords.{IsEndWords}
use Rattle.asm_explore_report.proofs.ToldEnds.{words_told}
use Rattle.asm_explore_report.proofs.ended.EndedRun.words.Goals as goal

pub returns : goal.returns
returns c e is =
    let names = names_in (spec_of c.args.checked.now.spec) in
    let end = c.args.self.now.end in
    let words : c.push_end_words.new.out.items ≡ end_words names end =
    c.in_ok-push_end_words.ensures ∙ ap (λ t. t ++ end_words names end) c.new-words.ensures.items in
    subst (IsEndWords names e) (sym words) (words_told names e end is)
