use Rattle.asm_syntax.specs.code.Views.{spec_of}
use Rattle.asm_run.specs.Written.{names_in}
use Rattle.asm_explore_run.proofs.ChoiceEntries.{candidates_told}
use Rattle.asm_explore_run.proofs.choose_line.push_candidates.Goals as goal

pub returns : goal.returns
returns c =
    candidates_told (names_in (spec_of c.args.checked.now.spec)) c.args.taken c.args.candidates.now c.min-shown.result c.taken_behind-behind.result c.args.line.now.items
    c.push_listed.new.line.items c.push_others.new.line.items c.min-shown.ensures c.taken_behind-behind.ensures c.in_ok-push_listed.ensures c.in_ok-push_others.ensures
