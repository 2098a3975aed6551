use Rattle.std.proofs.Common.{subst, ◌∙◌}
use Rattle.asm_explore.specs.code.OutcomeLists.{AnyOf, IsShownBy}
use Rattle.asm_explore.proofs.OutcomeLemmas.ListLemmas.{known, pushed}
use Rattle.asm_explore.proofs.outcomes.add_outcome.add_outcome.Goals as goal

pub returns-then-is_known-clause-grows : goal.returns-then-is_known-clause-grows
returns-then-is_known-clause-grows c =
    known c.args.found.now.items c.args.one (subst (AnyOf (λ f. IsShownBy c.args.one.answer f.answer)) c.as_slice.ensures.value (c.is_known.ensures c.if-is_known.true))

pub returns-clause-grows : goal.returns-clause-grows
returns-clause-grows c = pushed c.args.found.now.items c.link_last.new.found.items c.args.one (c.link_last.ensures ∙ c.in_ok-push.ensures.items)
