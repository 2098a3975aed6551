-- Free. Where the values of static functions are.
use Rattle.std.proofs.Common.{◌≡◌, ℕ, ◌+◌, ◌<◌, ◌≤◌, true, false, cond, List, [], map, length, get_or, refl, sym, ap, subst, ◌∙◌, arith, Some}
use Rattle.std.specs.Prelude.{slice_get, sum_by}
use Rattle.std.specs.List.{flat_map}
use Rattle.std.proofs.lemmas.List.{length-map, get_or-map}
use Rattle.std.proofs.lemmas.List.Concat.{get_or-flat_map, length-flat_map}
use Rattle.std.proofs.lemmas.List.Folds.{length-flat_map-take}
use Rattle.std.proofs.lemmas.Option.{slice_get_within}
use Rattle.asm_state.specs.declared.signature_limits.TheConstants.{MAX_STATIC_LISTS}
use Rattle.asm_state.specs.declared.function.Function.{Function}
use Rattle.asm_state.specs.declared.function.FunctionKind.{FunctionKind}
use Rattle.asm_state.specs.declared.function.FunctionKind.TheVariants.{Controlled, Static}
use Rattle.asm_state.specs.declared.layout.Stretch.{Stretch}
use Rattle.asm_state.specs.declared.layout.Layout.{Layout}
use Rattle.asm_state.specs.declared.value.Value.{Value}
use Rattle.asm_state.specs.declared.value.Value.TheVariants.{Undef}
use Rattle.asm_state.specs.SignatureLimits.{static_lists, static_lists_by, static_count}
use Rattle.asm_state.specs.code.Layout.{IsLayoutOf, static_values, static_values_by, start_by}
use Rattle.asm_state.specs.Signature.{Shape, HasKind, domain_in, held_value, held_by}
use Rattle.asm_state.specs.Tables.{argument_lists, is_in, table_value}
use Rattle.asm_state.proofs.LayoutsSoFar.{given_before, listed_in}
use Rattle.asm_state.proofs.LocationLemmas.LocationIndices.{lists_of}
use Rattle.asm_state.proofs.LocationLemmas.FunctionOfLocation.{same_function, any_extent}

pub static_length : (universes : List (List Value)) (function : Function) → length (static_values universes function) ≡ static_lists universes function
static_length universes function = by_kind function.kind
  where
    by_kind : (kind : FunctionKind) → length (static_values_by kind (map (table_value function.table) (argument_lists (domain_in universes function.domain)))) ≡ static_lists_by kind (length (argument_lists (domain_in universes function.domain)))
    by_kind Controlled = refl
    by_kind Static = length-map (argument_lists (domain_in universes function.domain)) (table_value function.table)

-- as many values are kept as static functions have argument lists
sums_alike : (f g : Function → ℕ) → ((x : Function) → f x ≡ g x) → (xs : List Function) → sum_by f xs ≡ sum_by g xs
sums_alike f g h xs = ap (λ k. sum_by k xs) (λ i x. h x i)

pub given_count : (shape : Shape) → length (flat_map (static_values shape.universes) shape.functions) ≡ static_count shape
given_count shape =
    length-flat_map (static_values shape.universes) shape.functions
    ∙ sums_alike (λ f. length (static_values shape.universes f)) (static_lists shape.universes) (static_length shape.universes) shape.functions

pub record IsGiven (shape : Shape) (layout : Layout) (f n : ℕ) (arguments : List Value) : Type 0 where
  pub in_range : n < length layout.given.items
  pub few : length layout.given.items ≤ MAX_STATIC_LISTS
  pub value : (d : Value) → get_or layout.given.items n d ≡ held_value shape f arguments

-- the value of a static function for a list in its domain
pub given_here : (shape : Shape) (layout : Layout) → IsLayoutOf shape layout → (f : ℕ) (function : Function) (extent : Stretch) (arguments : List Value) (k : ℕ) → HasKind Static shape f
    → function ≡ get_or shape.functions f function → extent ≡ get_or layout.extents.items f extent
    → k < length (lists_of shape function) → get_or (lists_of shape function) k [] ≡ arguments → IsGiven shape layout f (extent.start + k) arguments
given_here shape layout laid_out f function extent arguments k has is of h at = record {
  in_range = subst (λ vs. extent.start + k < length vs) (sym laid_out.given) below;
  few = subst (λ n. n ≤ MAX_STATIC_LISTS) (sym (ap length laid_out.given ∙ given_count shape)) laid_out.fits.few_static_lists;
  value = λ d.
      ap (λ vs. get_or vs (extent.start + k) d) laid_out.given
      ∙ ap (λ n. get_or (flat_map (static_values shape.universes) shape.functions) (n + k) d) start
      ∙ get_or-flat_map (static_values shape.universes) shape.functions f k function d known here
      ∙ ap (λ g. get_or (static_values shape.universes g) k d) (sym is)
      ∙ ap (λ vs. get_or vs k d) its_values
      ∙ get_or-map (table_value function.table) (lists_of shape function) k [] d h
      ∙ ap (table_value function.table) at
      ∙ ap (λ b. cond b (table_value function.table arguments) Undef) (sym inside)
      ∙ ap (λ o. held_by shape.universes o arguments) (sym same.0);
}
  where
    same : (slice_get shape.functions f ≡ Some function) × (function.kind ≡ Static)
    same = same_function shape Static f function has is

    known : f < length shape.functions
    known = slice_get_within shape.functions f function same.0

    its_values : static_values shape.universes function ≡ map (table_value function.table) (lists_of shape function)
    its_values = ap (λ kind. static_values_by kind (map (table_value function.table) (lists_of shape function))) same.1

    here : k < length (static_values shape.universes (get_or shape.functions f function))
    here = subst (λ g. k < length (static_values shape.universes g)) is (subst (λ vs. k < length vs) (sym its_values) (subst (λ n. k < n) (sym (length-map (lists_of shape function) (table_value function.table))) h))

    start : extent.start ≡ length (given_before shape f)
    start = (any_extent shape layout laid_out f function extent same.0 of).start ∙ ap (λ kind. start_by kind shape f) same.1

    inside : is_in (domain_in shape.universes function.domain) arguments ≡ true
    inside = subst (λ vs. is_in (domain_in shape.universes function.domain) vs ≡ true) at (listed_in (domain_in shape.universes function.domain) k h)

    below : extent.start + k < length (flat_map (static_values shape.universes) shape.functions)
    below = let room = length-flat_map-take (static_values shape.universes) shape.functions f function known in omega (arith, room, here, start)

pub given_outside : (shape : Shape) (f : ℕ) (function : Function) (arguments : List Value) → HasKind Static shape f → function ≡ get_or shape.functions f function
    → is_in (domain_in shape.universes function.domain) arguments ≡ false → Undef ≡ held_value shape f arguments
given_outside shape f function arguments has is out =
    ap (λ b. cond b (table_value function.table arguments) Undef) (sym out)
    ∙ ap (λ o. held_by shape.universes o arguments) (sym (same_function shape Static f function has is).0)
