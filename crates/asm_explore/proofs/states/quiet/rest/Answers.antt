use Rattle.std.proofs.Common.{◌∙◌, inl, refl, sym}
use Rattle.std.proofs.lemmas.Bool.{false≢true}
use Rattle.asm_explore.proofs.states.quiet.rest.Goals as goal

pub returns-then-not-may_rest-clause-wrong : goal.returns-then-not-may_rest-clause-wrong
returns-then-not-may_rest-clause-wrong g c =
    (refl, c.new.ensures.items, refl, (c.requires.quiet.0 c.if-not-is_quiet.false, sym c.may_rest.ensures ∙ c.if-not-may_rest.true))

pub returns-clause-quiet : goal.returns-clause-quiet
returns-clause-quiet g c = record {
  rests = (
    λ dead. absurd (false≢true (sym dead.1 ∙ sym c.may_rest.ensures ∙ c.if-not-may_rest.false)),
    inl (c.requires.quiet.0 c.if-not-is_quiet.false, c.in_ok-push.ensures.items),
  );
  listed = tt;
  unlisted = tt;
}
