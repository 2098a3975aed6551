use Rattle.std.proofs.Common.{ap, ◌∙◌}
use Rattle.asm_syntax.specs.code.Views.{spec_of}
use Rattle.asm_check.specs.code.uses.TermFaultLists.{universe_by}
use Rattle.asm_check.proofs.UseLemmas.NumbersInTerms.{universe_is}
use Rattle.asm_check.proofs.uses.term_faults.is_universe.Goals as goal

pub returns : goal.returns
returns c = c.is_universe_number.ensures ∙ ap universe_by c.named_text.ensures.named ∙ universe_is (spec_of c.args.checked.now.spec) c.args.name.now
