use Rattle.std.proofs.Common.{sym, subst}
use Rattle.std.specs.Prelude.{IfOk}
use Rattle.asm_syntax.specs.code.Views.{spec_of}
use Rattle.asm_explore_texts.specs.code.CodedConditions.{terms_in}
use Rattle.asm_random.specs.declared.random_result.RandomFinding.{RandomFinding}
use Rattle.asm_explore_texts.specs.Comments.{lines_of}
use Rattle.asm_explore_random.specs.RandomReport.{RandomTells}
use Rattle.asm_explore_random.proofs.random_report.words_of.Goals as goal

pub returns-in-Bad : goal.returns-in-Bad
returns-in-Bad g c links joined accepted =
    subst (λ (finding : RandomFinding). IfOk c.bad_words.result (λ told. RandomTells (spec_of c.args.subject.now.checked.now.spec) (terms_in links) c.args.subject.now.turns finding told.words.items (lines_of told.because.items)))
    (sym c.in-Bad.is) (c.bad_words.ensures links joined accepted)
