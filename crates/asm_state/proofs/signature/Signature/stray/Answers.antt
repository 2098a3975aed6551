use Rattle.std.proofs.Common.{rules, ap, sym, ◌∙◌}
use Rattle.asm_state.specs.Signature.{location_at}
use Rattle.asm_state.specs.Updates.{is_proper}
use Rattle.asm_state.proofs.LocationLemmas.FunctionOfLocation.{known_extent}
use Rattle.asm_state.proofs.SignatureInside.{shape_of, owned, index}
use Rattle.asm_state.proofs.signature.Signature.stray.Goals as goal

pub index-extent-requires : goal.index-extent-requires
index-extent-requires c =
    let it = owned c.self.inside c.self.invariant c.args.self.now c.self.view_is c.args.n c.index-function.result.now c.requires c.index-function.ensures in
    let known = known_extent (shape_of c.self.inside) c.self.inside.layout c.self.invariant c.index-function.result.now it.function it.holds in
    search (rules, known)

pub overflow_sub-n : goal.overflow_sub-n
overflow_sub-n c = (index c.self.inside c.self.invariant c.args.self.now c.self.view_is c.args.n c.index-function.result.now c.requires c.index-function.ensures c.index-extent.result.now c.index-extent.ensures).begins

pub returns-then-n-extent-clause-stray : goal.returns-then-n-extent-clause-stray
returns-then-n-extent-clause-stray c =
    ap (λ s. location_at s c.args.n) (sym c.self.view_is)
    ∙ (index c.self.inside c.self.invariant c.args.self.now c.self.view_is c.args.n c.index-function.result.now c.requires c.index-function.ensures c.index-extent.result.now c.index-extent.ensures).stray c.if-n-extent.true

pub returns-else-n-extent-clause-proper : goal.returns-else-n-extent-clause-proper
returns-else-n-extent-clause-proper c =
    ap (λ s. is_proper (location_at s c.args.n)) (sym c.self.view_is)
    ∙ ap is_proper ((index c.self.inside c.self.invariant c.args.self.now c.self.view_is c.args.n c.index-function.result.now c.requires c.index-function.ensures c.index-extent.result.now c.index-extent.ensures).proper c.if-n-extent.false)
