-- Free. The states that lists of contents are.
use Rattle.std.proofs.Common.{◌≡◌, ◌≢◌, ℕ, ◌<◌, ◌≤◌, Bool, true, false, cond, List, map, length, get_or, set, slice_get, Option, Some, None, IsTrue, inl, inr, refl, sym, ap, subst, ◌∙◌, arith}
use Rattle.std.proofs.lemmas.Bool.{cases_lt, false_from_ne_true, false≢true}
use Rattle.std.proofs.lemmas.List.{get_or_past, get_or-map, length-map, length-set, get_or-set_same, get_or-set_other}
use Rattle.asm_state.specs.declared.function.Function.{Function}
use Rattle.asm_state.specs.declared.function.FunctionKind.{FunctionKind}
use Rattle.asm_state.specs.declared.function.FunctionKind.TheVariants.{Controlled, Static}
use Rattle.asm_state.specs.declared.value.Value.{Value}
use Rattle.asm_state.specs.declared.value.Value.TheVariants.{Undef}
use Rattle.asm_state.specs.code.Contents.{IsStateOf}
use Rattle.asm_state.specs.Location.{Location, Proper, Stray, changed}
use Rattle.asm_state.specs.Tables.{is_in}
use Rattle.asm_state.specs.Updates.{is_proper}
use Rattle.asm_state.specs.Signature.{Shape, IsSound, domain_in, domain_by, locations, count_of, location_at, is_location, number_at, IsLocationOf, state_of, initial_value, initial_state}
use Rattle.asm_state.specs.code.SignatureLaws.{StateLaws}
use Rattle.asm_state.proofs.UpdateLemmas.Updates.{same_location, location_itself}
use Rattle.asm_state.proofs.LocationLemmas.NumberedLocations.{has_held, is_location_at, number, in_range, location_below}

content : (shape : Shape) (contents : List Value) (l : Location) → IsTrue (is_proper l) → state_of shape contents l ≡ get_or contents (number_at shape l) Undef
content shape contents l h = ap (λ b. cond b (get_or contents (number_at shape l) Undef) Undef) h

stray : (shape : Shape) (contents : List Value) (l : Location) → ¬ (IsTrue (is_proper l)) → state_of shape contents l ≡ Undef
stray shape contents l h = ap (λ b. cond b (get_or contents (number_at shape l) Undef) Undef) (false_from_ne_true (is_proper l) h)

-- what isn't a location of the signature has no number
past_count : (shape : Shape) (l : Location) → ¬ (IsLocationOf shape l) → count_of shape ≤ number_at shape l
past_count shape l h =
    elim (cases_lt (number_at shape l) (count_of shape)) [
      | inl inside ↦ absurd (h (subst (IsLocationOf shape) (location_below shape l inside) (is_location_at shape (number_at shape l) inside)))
      | inr past ↦ past
    ]

undef_anyway : (b : Bool) (v : Value) → v ≡ Undef → cond b v Undef ≡ Undef
undef_anyway true v e = e
undef_anyway false v e = refl

outside : (shape : Shape) (contents : List Value) (l : Location) → length contents ≡ count_of shape → ¬ (IsLocationOf shape l) → state_of shape contents l ≡ Undef
outside shape contents l whole h =
    let past = past_count shape l h in
    undef_anyway (is_proper l) (get_or contents (number_at shape l) Undef) (get_or_past contents (number_at shape l) Undef (omega arith))

-- a function has no initial value outside its domain, and a static one has none at all
initial_outside : (universes : List (List Value)) (function : Function) (vs : List Value) (kind : FunctionKind) → function.kind ≡ kind → (kind ≡ Controlled → is_in (domain_in universes function.domain) vs ≡ false) → initial_value universes (Some function) vs ≡ Undef
initial_outside universes function vs Controlled e h = rw (e, h refl) refl
initial_outside universes function vs Static e h = rw e refl

no_initial_value : (shape : Shape) (f : ℕ) (vs : List Value) (found : Option Function) → slice_get shape.functions f ≡ found → ¬ (IsLocationOf shape (Proper f vs)) → initial_value shape.universes found vs ≡ Undef
no_initial_value shape f vs None there h = refl
no_initial_value shape f vs (Some function) there h =
    initial_outside shape.universes function vs function.kind refl (λ controlled. false_from_ne_true (is_in (domain_in shape.universes function.domain) vs) (λ inside.
    h (has_held shape (Proper f vs) ((function, there, controlled), subst (λ found. IsTrue (is_in (domain_by shape.universes found) vs)) (sym there) inside))))

initial_at : (shape : Shape) (l : Location) → state_of shape (map (initial_state shape) (locations shape)) l ≡ initial_state shape l
initial_at shape (Stray f) = refl
initial_at shape (Proper f vs) =
    let l : Location = Proper f vs in
    elim (cases_lt (number_at shape l) (count_of shape)) [
      | inl inside ↦ get_or-map (initial_state shape) (locations shape) (number_at shape l) (Stray 0) Undef inside ∙ ap (initial_state shape) (location_below shape l inside)
      | inr past ↦
          let long = length-map (locations shape) (initial_state shape) in
          get_or_past (map (initial_state shape) (locations shape)) (number_at shape l) Undef (omega arith)
          ∙ sym (no_initial_value shape f vs (slice_get shape.functions f) refl (λ h. let below = in_range shape l h in omega arith))
    ]

module _ (shape : Shape) (contents : List Value) (n : ℕ) (v : Value) (sound : IsSound shape) (whole : length contents ≡ count_of shape) (inside : n < count_of shape) (proper : IsTrue (is_proper (location_at shape n))) where
  -- at the location itself
  set_here : state_of shape (set contents n v) (location_at shape n) ≡ v
  set_here =
      content shape (set contents n v) (location_at shape n) proper
      ∙ ap (λ k. get_or (set contents n v) k Undef) (number shape n sound inside)
      ∙ get_or-set_same contents n v Undef (omega arith)

  -- another location has another number
  number_differs : (l : Location) → is_location (location_at shape n) l ≡ false → number_at shape l ≢ n
  number_differs l apart e =
      let below : number_at shape l < count_of shape = omega arith in
      let same = ap (location_at shape) (sym e) ∙ location_below shape l below in
      false≢true (sym apart ∙ subst (λ l. is_location (location_at shape n) l ≡ true) same (location_itself (location_at shape n)))

  set_elsewhere : (l : Location) → is_location (location_at shape n) l ≡ false → state_of shape (set contents n v) l ≡ state_of shape contents l
  set_elsewhere l apart = ap (λ w. cond (is_proper l) w Undef) (get_or-set_other contents n (number_at shape l) v Undef (number_differs l apart))

  set_at : (l : Location) → state_of shape (set contents n v) l ≡ changed (state_of shape contents) (location_at shape n) v l
  set_at l =
      elim (is_location (location_at shape n) l) as (λ b. is_location (location_at shape n) l ≡ b → state_of shape (set contents n v) l ≡ cond b v (state_of shape contents l)) [
        | true ↦ λ e. subst (λ l. state_of shape (set contents n v) l ≡ v) (same_location (location_at shape n) l e) set_here
        | false ↦ λ e. set_elsewhere l e
      ] refl

-- in a state of the signature the content by a number is that of its location
content_at : (shape : Shape) (contents : List Value) (n : ℕ) → IsStateOf shape contents → n < count_of shape → get_or contents n Undef ≡ state_of shape contents (location_at shape n)
content_at shape contents n state inside = by_location (location_at shape n) refl
  where
    by_location : (l : Location) → location_at shape n ≡ l → get_or contents n Undef ≡ state_of shape contents l
    by_location (Proper f vs) e = ap (λ k. get_or contents k Undef) (sym (number shape n state.sound inside) ∙ ap (number_at shape) e)
    by_location (Stray f) e = state.no_stray n f inside e

initial_is_state : (shape : Shape) → IsSound shape → IsStateOf shape (map (initial_state shape) (locations shape))
initial_is_state shape sound = record {
  sound = sound;
  whole = length-map (locations shape) (initial_state shape);
  no_stray = λ n f inside e. get_or-map (initial_state shape) (locations shape) n (Stray 0) Undef inside ∙ ap (initial_state shape) e;
}

set_is_state : (shape : Shape) (contents : List Value) (n : ℕ) (v : Value) → IsStateOf shape contents → n < count_of shape → IsTrue (is_proper (location_at shape n)) → IsStateOf shape (set contents n v)
set_is_state shape contents n v state inside proper = record {
  sound = state.sound;
  whole = length-set contents n v ∙ state.whole;
  no_stray = λ k f below e.
      let other : k ≢ n = λ same. false≢true (ap is_proper (sym e ∙ ap (location_at shape) same) ∙ proper) in
      get_or-set_other contents n k v Undef other ∙ state.no_stray k f below e;
}

pub state_laws : StateLaws
state_laws = record {
  content_at = content_at;
  initial_is_state = initial_is_state;
  set_is_state = set_is_state;
  content = content;
  stray = stray;
  outside = outside;
  initial = λ shape i l. initial_at shape l i;
  set = λ shape contents n v sound whole inside proper i l. set_at shape contents n v sound whole inside proper l i;
}
