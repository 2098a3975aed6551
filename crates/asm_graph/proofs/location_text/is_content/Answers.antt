use Rattle.std.proofs.Common.{◌∙◌, sym, subst, arith}
use Rattle.std.specs.Prelude.{IsTrue, slice_index_or}
use Rattle.std.proofs.lemmas.Bool.{false≢true, not-false, not-true}
use Rattle.asm_state.specs.Signature.{location_at, state_of}
use Rattle.asm_state.specs.Updates.{is_proper}
use Rattle.asm_state.specs.declared.value.Value.TheVariants.{Undef}
use Rattle.asm_syntax.specs.code.Views.{spec_of}
use Rattle.asm_check.specs.Shapes.{shape_of}
use Rattle.asm_check.proofs.NumberLemmas.SoundShapes.{shape_is_sound}
use Rattle.asm_graph.proofs.ShownContents.{content_at, lines_hidden, lines_shown, of_none}
use Rattle.asm_graph.proofs.location_text.is_content.Goals as goal

pub returns-then-is_none-clause-shown : goal.returns-then-is_none-clause-shown
returns-then-is_none-clause-shown c = λ yes.
    let s = spec_of c.args.checked.now.spec in
    let shape = shape_of s in
    let n = c.args.n in
    let contents = c.args.state.now in
    let proper = subst (λ sh. IsTrue (is_proper (location_at sh n))) c.signature.ensures
    (of_none c.stray.result (IsTrue (is_proper (location_at c.signature.result.now n))) c.if-is_none.ensures c.stray.ensures.proper) in
    let same = content_at shape contents n (shape_is_sound s c.args.checked.now.well_formed) (omega (arith, c.requires.in_range, c.requires.whole)) proper in
    lines_shown s (location_at shape n) (state_of shape contents (location_at shape n)) (slice_index_or contents n Undef) same
    (λ none. false≢true (sym (not-true c.is_undef.result yes) ∙ c.is_undef.ensures.1 (c.content.ensures.content ∙ none)))

pub returns-then-is_none-clause-hidden : goal.returns-then-is_none-clause-hidden
returns-then-is_none-clause-hidden c = λ no.
    let s = spec_of c.args.checked.now.spec in
    let shape = shape_of s in
    let n = c.args.n in
    let contents = c.args.state.now in
    let proper = subst (λ sh. IsTrue (is_proper (location_at sh n))) c.signature.ensures
    (of_none c.stray.result (IsTrue (is_proper (location_at c.signature.result.now n))) c.if-is_none.ensures c.stray.ensures.proper) in
    let same = content_at shape contents n (shape_is_sound s c.args.checked.now.well_formed) (omega (arith, c.requires.in_range, c.requires.whole)) proper in
    lines_hidden s (location_at shape n) (state_of shape contents (location_at shape n)) (slice_index_or contents n Undef) same
    (sym c.content.ensures.content ∙ c.is_undef.ensures.0 (not-false c.is_undef.result no))
