use Rattle.std.proofs.Common.{◌≡◌, ◌∙◌, ◌∷◌, Bool, not, List, Some, sym, ap}
use Rattle.std.specs.Prelude.{find}
use Rattle.asm_state.specs.declared.value.Value.{Value}
use Rattle.asm_state.specs.Location.{State}
use Rattle.asm_syntax.specs.SourceTree.{Spec, Term}
use Rattle.asm_syntax.specs.Tree.{Name}
use Rattle.asm_syntax.specs.code.Views.{term_of}
use Rattle.asm_explore_because.specs.Parts.{Bound, Part, decides_under, decides_with, element_part, value_under}
use Rattle.asm_explore_because.specs.code.CodedParts.{bound_of, part_of, spec_in, state_in}
use Rattle.asm_explore_because.specs.declared.bound_name.BoundName.{BoundName}
use Rattle.asm_explore_because.proofs.Lists.{found_here, found_later}
use Rattle.asm_explore_because.proofs.elements.element_part.Goals as goal

-- the value of the term decides as it does under the element
decided : (s : Spec) (A : State) (p : Part) (x : Name) (t : Term) (v value : Value) (inner : Bound) (decides b : Bool) → inner ≡ (x, v) ∷ p.bound → value ≡ value_under s A inner t
    → decides ≡ decides_with p.wanted value → decides ≡ b → decides_under s A p ((x, v) ∷ p.bound) t ≡ b
decided s A p x t v value inner decides b names is same at =
    sym (ap (decides_with p.wanted) (is ∙ ap (λ e. value_under s A e t) names)) ∙ sym same ∙ at

pub returns-then-decides-clause-element : goal.returns-then-decides-clause-element
returns-then-decides-clause-element c =
    let s = spec_in c.args.scene.now in
    let A = state_in c.args.scene.now in
    let p = part_of c.args.part.now in
    let q = c.args.quantified.now in
    let x = q.name.now.text in
    let t = term_of q.test.now in
    let v = c.element.result in
    let own : bound_of c.in_ok-bound.bound.items ≡ (x, v) ∷ p.bound =
    c.in_ok-bound.ensures ∙ ap (λ (bs : List BoundName). (x, v) ∷ bound_of bs) c.as_slice.ensures.value in
    let names : bound_of c.as_slice-in-loop-i.result.now ≡ (x, v) ∷ p.bound = ap bound_of c.as_slice-in-loop-i.ensures.value ∙ own in
    let passes = decided s A p x t v c.in_ok-value.value (bound_of c.as_slice-in-loop-i.result.now) c.decides.result _ names c.in_ok-value.ensures.value c.decides.ensures c.if-decides.true in
    let found = found_here (λ w. decides_under s A p ((x, w) ∷ p.bound) t) c.in-Some.universe.now c.loop-i.i v c.element.ensures passes c.loop-i.invariant.first in
    let same = ap (find (λ w. decides_under s A p ((x, w) ∷ p.bound) t)) c.in-Some.ensures.some ∙ found in
    ap (λ (b : Bound). Some (record { term = t; bound = b; wanted = p.wanted; strictly = not p.wanted })) own ∙ sym (ap (element_part p x t) same)

pub loop-i-preserved : goal.loop-i-preserved
loop-i-preserved c =
    let s = spec_in c.args.scene.now in
    let A = state_in c.args.scene.now in
    let p = part_of c.args.part.now in
    let q = c.args.quantified.now in
    let x = q.name.now.text in
    let t = term_of q.test.now in
    let v = c.element.result in
    let own : bound_of c.in_ok-bound.bound.items ≡ (x, v) ∷ p.bound =
    c.in_ok-bound.ensures ∙ ap (λ (bs : List BoundName). (x, v) ∷ bound_of bs) c.as_slice.ensures.value in
    let names : bound_of c.as_slice-in-loop-i.result.now ≡ (x, v) ∷ p.bound = ap bound_of c.as_slice-in-loop-i.ensures.value ∙ own in
    let fails = decided s A p x t v c.in_ok-value.value (bound_of c.as_slice-in-loop-i.result.now) c.decides.result _ names c.in_ok-value.ensures.value c.decides.ensures c.if-decides.false in
    record {
      first = found_later (λ w. decides_under s A p ((x, w) ∷ p.bound) t) c.in-Some.universe.now c.loop-i.i v c.element.ensures fails c.loop-i.invariant.first;
      known = c.in_ok-value.ensures.known;
    }
