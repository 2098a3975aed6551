-- From each call of the search to the next.
use Rattle.std.proofs.Common.{None, refl}
use Rattle.asm_syntax.specs.code.Views.{spec_of}
use Rattle.asm_check.proofs.LeastOfSearch.{search_ends}
use Rattle.asm_check.proofs.checking.least_fault.Goals as goal

pub returns : goal.returns
returns c =
    search_ends (spec_of c.args.spec.now) None _ _ _ _ _ _ _ refl c.requires.twice c.note_inits.ensures c.note_main_rules_with_result.ensures
    (c.note_uses.ensures (spec_of c.args.spec.now) c.requires.table c.requires.uses)
    c.in_ok-note_limits.ensures c.in_ok-note_entries.ensures c.in_ok-note_steps.ensures
