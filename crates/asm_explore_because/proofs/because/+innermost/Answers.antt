use Rattle.std.proofs.Common.{◌≡◌, ◌∙◌, Some, sym, ap, arith}
use Rattle.asm_explore_because.specs.Parts.{Decides, by_way_of, itself, next}
use Rattle.asm_explore_because.specs.code.CodedParts.{part_of, part_of_some, spec_in, state_in}
use Rattle.asm_explore_because.proofs.Lists.{if_ok}
use Rattle.asm_explore_because.proofs.because.+innermost.Goals as goal

pub innermost-requires : goal.innermost-requires
innermost-requires t c =
    let s = spec_in c.args.scene.now in
    let A = state_in c.args.scene.now in
    let is : next s A (part_of c.args.part) ≡ Some (part_of c.in-Some.inner) = sym c.in_ok-inner.ensures.next ∙ ap part_of_some c.in-Some.is in
    let less = c.lighter_parts.ensures s A (part_of c.args.part) (part_of c.in-Some.inner) c.args.scene.now.checked.now.well_formed is in
    (omega (arith, c.decreases, less), c.in_ok-inner.ensures.known)

pub returns-in-Some-clause-decides : goal.returns-in-Some-clause-decides
returns-in-Some-clause-decides t c =
    let s = spec_in c.args.scene.now in
    let A = state_in c.args.scene.now in
    let is : next s A (part_of c.args.part) ≡ Some (part_of c.in-Some.inner) = sym c.in_ok-inner.ensures.next ∙ ap part_of_some c.in-Some.is in
    if_ok c.innermost.result (λ it. Decides s A (part_of c.in-Some.inner) (part_of it)) (λ it. Decides s A (part_of c.args.part) (part_of it))
    (λ it decides. by_way_of (part_of c.in-Some.inner) is decides) c.innermost.ensures.decides

pub returns-clause-decides : goal.returns-clause-decides
returns-clause-decides t c = itself (sym c.in_ok-inner.ensures.next ∙ ap part_of_some c.in-None.is)
