use Rattle.std.proofs.Common.{◌≡◌, [], length, Option, None, All, Vec, Global}
use Rattle.std.specs.declared.sync.Arc.{Arc}
use Rattle.asm_syntax.specs.code.Views.{spec_of}
use Rattle.asm_code.specs.declared.code.Code.{Code}
use Rattle.asm_resolve.specs.code.Scopes.{AreResolvedBodies}
use Rattle.asm_resolve.specs.declared.bodies.RuleBody.{RuleBody}
use Rattle.asm_resolve.proofs.bodies.Bodies.new.Given as goal

abbrev pub invariant-loop-d : goal.invariant-loop-d
invariant-loop-d l = record {
  many : length l.terms.items ≡ l._d;
  none : All (λ (o : Option (Arc Code Global)). o ≡ None) l.terms.items;
}

abbrev pub invariant-loop-r : goal.invariant-loop-r
invariant-loop-r l = record {
  terms : AreResolvedBodies (spec_of l.checked.spec) l.terms.items;
  many : length l.rules.items ≡ l._r;
  none : All (λ (those : Vec RuleBody Global). those.items ≡ []) l.rules.items;
}
