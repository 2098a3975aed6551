use Rattle.std.proofs.Common.{◌≡◌, ◌∙◌, List, [], true, false, not, sym, ap, subst}
use Rattle.asm_state.specs.Signature.{state_of}
use Rattle.asm_syntax.specs.code.Views.{spec_of, term_of}
use Rattle.asm_check.specs.Shapes.{shape_of}
use Rattle.asm_meaning.specs.Value.{is_true}
use Rattle.asm_explore_because.specs.Parts.{Decides, value_under, whole}
use Rattle.asm_explore_because.specs.code.CodedParts.{bound_of, part_of}
use Rattle.asm_explore_because.specs.declared.bound_name.BoundName.{BoundName}
use Rattle.asm_explore_because.proofs.because.because.Goals as goal

pub returns-clause-found : goal.returns-clause-found
returns-clause-found c =
    let s = spec_of c.args.checked.now.spec in
    let A = state_of (shape_of s) c.args.state.now in
    let t = term_of c.args.condition.now in
    let decides : Decides s A (whole t) (part_of c.in_ok-part.part) =
    subst (λ (bs : List BoundName). Decides s A (record { term = t; bound = bound_of bs; wanted = true; strictly = false }) (part_of c.in_ok-part.part)) c.new-2.ensures.items c.in_ok-part.ensures.decides in
    let untrue : is_true (value_under s A [] t) ≡ false = sym (ap is_true c.in_ok-value.ensures.value) ∙ sym c.is_true.ensures ∙ c.if-is_true.false in
    record {
      part = part_of c.in_ok-part.part;
      decides = decides;
      wrong = c.deciding_laws.ensures.in_part s A (whole t) (part_of c.in_ok-part.part) c.args.checked.now.well_formed decides (ap not untrue);
      is = c.in_ok-line.ensures;
    }
