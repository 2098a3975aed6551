use Rattle.std.proofs.Common.{◌≡◌, [], length, All, Vec, Global, ap, sym, subst, arith}
use Rattle.std.proofs.lemmas.List.Elements.{All-nil}
use Rattle.asm_syntax.specs.code.Views.{spec_of}
use Rattle.asm_resolve.specs.declared.bodies.RuleBody.{RuleBody}
use Rattle.asm_resolve.proofs.KeptBodies.{no_bodies, no_rule_bodies}
use Rattle.asm_resolve.proofs.bodies.Bodies.new.Goals as goal

pub loop-r-init : goal.loop-r-init
loop-r-init c = record {
  terms = no_bodies (spec_of c.args.checked.now.spec) c.loop-d.terms.items (omega (arith, c.loop-d.invariant.many, c.loop-d-test.false, c.loop-d.auto._d-end, c.derived_functions-d-end.ensures)) c.loop-d.invariant.none;
  many = ap length c.new-rules.ensures.items;
  none = subst (λ rs. All (λ (those : Vec RuleBody Global). those.items ≡ []) rs) (sym c.new-rules.ensures.items) (All-nil (λ (those : Vec RuleBody Global). those.items ≡ []));
}

pub returns : goal.returns
returns c = (c.loop-r.invariant.terms, no_rule_bodies (spec_of c.args.checked.now.spec) c.loop-r.rules.items (omega (arith, c.loop-r.invariant.many, c.loop-r-test.false, c.loop-r.auto._r-end, c.rules-r-end.ensures)) c.loop-r.invariant.none)
