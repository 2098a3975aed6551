use Rattle.std.proofs.Common.{refl}
use Rattle.asm_check.proofs.NameLemmas.DeclarationsGathered.{gathers_again, gathers_new}
use Rattle.asm_check.proofs.names.first_names.declare.Goals as goal

pub returns-then-not-branch : goal.returns-then-not-branch
returns-then-not-branch c = gathers_again _ _ _ _ c.args.text c.args.declared _ c.in_ok-put.ensures.added c.in_ok-put.ensures.entries c.if-not-branch.true c.note.ensures

pub returns-else-not-branch : goal.returns-else-not-branch
returns-else-not-branch c = gathers_new _ _ _ _ c.args.text c.args.declared _ c.in_ok-put.ensures.added c.in_ok-put.ensures.entries c.if-not-branch.false refl
