-- Free. The contents of a state, as they are shown.
--     of_none                  what holds of no value
--     content_at               the content of a proper location has its number
--     lines_shown, lines_hidden    a location that isn't undef has a line, and one that is has none
use Rattle.std.proofs.Common.{◌≡◌, ◌≢◌, ℕ, ◌<◌, false, Option, Some, None, List, [], ◌∷◌, ◌++◌, refl, ap, sym, ◌∙◌}
use Rattle.std.proofs.lemmas.Bool.{false≢true}
use Rattle.std.specs.Prelude.{codes, is_some, slice_index_or, IfNone, IsTrue}
use Rattle.asm_state.proofs.StatesByNumbers.{state_laws}
use Rattle.asm_state.proofs.LocationLemmas.NumberedLocations.{number_laws}
use Rattle.asm_state.specs.Location.{Location}
use Rattle.asm_state.specs.Signature.{Shape, IsSound, count_of, location_at, state_of}
use Rattle.asm_state.specs.Updates.{is_proper}
use Rattle.asm_state.specs.declared.value.Value.{Value}
use Rattle.asm_state.specs.declared.value.Value.TheVariants.{Undef, Truth, Number, Element}
use Rattle.asm_syntax.specs.SourceTree.{Spec}
use Rattle.asm_graph.specs.Labels.{content_lines, location_text, value_text}

pub of_none : {X : Type 0} (o : Option X) (P : Type 0) → is_some o ≡ false → IfNone o P → P
of_none None P is h = h
of_none (Some x) P is h = absurd (false≢true (sym is))

pub content_at : (shape : Shape) (contents : List Value) (n : ℕ) → IsSound shape → n < count_of shape → IsTrue (is_proper (location_at shape n))
    → state_of shape contents (location_at shape n) ≡ slice_index_or contents n Undef
content_at shape contents n sound low proper = state_laws.content shape contents (location_at shape n) proper ∙ ap (λ k. slice_index_or contents k Undef) (number_laws.number shape n sound low)

shown_of : (s : Spec) (l : Location) (v : Value) → v ≢ Undef → content_lines s l v ≡ (location_text s l ++ (codes " = " ++ value_text s v)) ∷ []
shown_of s l Undef there = absurd (there refl)
shown_of s l (Truth b) there = refl
shown_of s l (Number n) there = refl
shown_of s l (Element e) there = refl

pub lines_shown : (s : Spec) (l : Location) (v w : Value) → v ≡ w → w ≢ Undef → content_lines s l v ≡ (location_text s l ++ (codes " = " ++ value_text s w)) ∷ []
lines_shown s l v w same there = ap (content_lines s l) same ∙ shown_of s l w there

pub lines_hidden : (s : Spec) (l : Location) (v w : Value) → v ≡ w → w ≡ Undef → content_lines s l v ≡ []
lines_hidden s l v w same none = ap (content_lines s l) (same ∙ none)
