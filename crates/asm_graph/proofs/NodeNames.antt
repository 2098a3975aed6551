-- Free. What a node writes of a location is a name of it.
--     same_value, same_values, same_location    texts in nodes are those of traces
--     named_law      so a location is named by its text in a node
use Rattle.std.proofs.Common.{◌≡◌, ◌∙◌, true, false, List, [], ◌∷◌, ◌++◌, refl, ap, append_assoc, append-nil}
use Rattle.std.specs.Prelude.{codes}
use Rattle.std.specs.List.{flat_map, join_by, list_any}
use Rattle.std.specs.Str.{bytes_eq}
use Rattle.std.proofs.lemmas.Bool.{or_left, or_right}
use Rattle.std.proofs.lemmas.Slice.Eq.{bytes_eq-Decides}
use Rattle.asm_state.specs.Location.{Location, Proper, Stray, function_of}
use Rattle.asm_state.specs.declared.value.Value.{Value}
use Rattle.asm_state.specs.declared.value.Value.TheVariants.{Undef, Truth, Number, Element}
use Rattle.asm_syntax.specs.SourceTree.{Spec}
use Rattle.asm_run.specs.Trace as trace
use Rattle.asm_run.specs.Written.{names_in}
use Rattle.asm_graph.specs.Labels.{NamedLaw, function_text, location_text, value_text}

module _ (s : Spec) where
  same_value : (v : Value) → value_text s v ≡ trace.value_text (names_in s).elements v
  same_value Undef = refl
  same_value (Truth false) = refl
  same_value (Truth true) = refl
  same_value (Number n) = refl
  same_value (Element e) = refl

  same_values : (v : Value) (vs : List Value) → join_by (value_text s) (codes ", ") (v ∷ vs) ≡ trace.values_text (names_in s).elements v vs
  same_values v [] = append-nil (value_text s v) ∙ same_value v
  same_values v (w ∷ vs) =
      let rest = flat_map (λ y. codes ", " ++ value_text s y) vs in
      ap (λ t. value_text s v ++ t) (append_assoc (codes ", ") (value_text s w) rest ∙ ap (λ t. codes ", " ++ t) (same_values w vs))
      ∙ ap (λ t. t ++ (codes ", " ++ trace.values_text (names_in s).elements w vs)) (same_value v)

  same_location : (l : Location) → location_text s l ≡ trace.location_text (names_in s) l
  same_location (Proper f []) = append-nil (function_text s f)
  same_location (Proper f (v ∷ vs)) = ap (λ t. function_text s f ++ (codes "(" ++ (t ++ codes ")"))) (same_values v vs)
  same_location (Stray f) = refl

pub named_law : NamedLaw
named_law s l =
    let name = location_text s l in
    let same = (bytes_eq-Decides name (trace.location_text (names_in s) l)).1 (same_location s l) in
    let any = or_left (bytes_eq name (trace.location_text (names_in s) l)) false same in
    or_right (list_any (λ n. bytes_eq n (trace.function_text (names_in s) (function_of l))) (name ∷ [])) (list_any (λ n. bytes_eq n (trace.location_text (names_in s) l)) (name ∷ [])) any
