-- Free. The layout of the first functions of a signature, and where its locations are in it.
use Rattle.std.proofs.Common.{◌≡◌, ℕ, suc, ◌+◌, ◌<◌, ◌≤◌, true, false, cond, nat_eq, List, [], ◌∷◌, ◌++◌, map, take, length, get_or, refl, sym, ap, subst, ◌∙◌, arith, Some}
use Rattle.std.specs.Prelude.{slice_get}
use Rattle.std.specs.List.{flat_map, enumerate_from}
use Rattle.std.proofs.Math.Seq.{take-suc, get_or-append_seam}
use Rattle.std.proofs.Math.ListN.{get_or-append}
use Rattle.std.proofs.lemmas.Bool.Decides.{nat_tests}
use Rattle.std.proofs.lemmas.Grind.{flat_map-append}
use Rattle.std.proofs.lemmas.List.{append-nil, map-append, take_all, length-map, length-append, get_or_default}
use Rattle.std.proofs.lemmas.List.FromFn.{length-enumerate_from, get_or-enumerate_from}
use Rattle.std.proofs.lemmas.Option.{slice_get-get_or}
use Rattle.asm_state.specs.declared.function.Function.{Function}
use Rattle.asm_state.specs.declared.function.FunctionKind.{FunctionKind}
use Rattle.asm_state.specs.declared.function.FunctionKind.TheVariants.{Controlled, Static}
use Rattle.asm_state.specs.declared.layout.Stretch.{Stretch}
use Rattle.asm_state.specs.declared.layout.Layout.{Layout}
use Rattle.asm_state.specs.declared.value.Value.{Value}
use Rattle.asm_state.specs.declared.value.Value.TheVariants.{Undef}
use Rattle.asm_state.specs.SignatureLimits.{Fits}
use Rattle.asm_state.specs.code.Layout.{IsNext, IsLayoutOf, IsStretchOf, initial_values, initial_values_by, next_start, static_values, start_by}
use Rattle.asm_state.specs.Location.{Location, Proper, Stray, function_of}
use Rattle.asm_state.specs.Signature.{Shape, IsSound, domain_in, locations_by, function_locations, locations, initial_state, initial_value}
use Rattle.asm_state.specs.Tables.{Domain, argument_lists, is_in, table_value, value_in}
use Rattle.asm_state.proofs.ListsInDomain.{in_contains}

-- ---- what is before a function

abbrev pub locations_before : Shape → ℕ → List Location
locations_before shape f = flat_map (function_locations shape.universes) (take f (enumerate_from 0 shape.functions))

abbrev pub given_before : Shape → ℕ → List Value
given_before shape f = flat_map (static_values shape.universes) (take f shape.functions)

pub locations_up : (shape : Shape) (f : ℕ) (function : Function) → f < length shape.functions → function ≡ get_or shape.functions f function
    → locations_before shape (f + 1) ≡ locations_before shape f ++ function_locations shape.universes (f, function)
locations_up shape f function h is =
    let after : f + 1 ≡ suc f = omega arith in
    let inside : f < length (enumerate_from 0 shape.functions) = subst (λ n. f < n) (sym (length-enumerate_from 0 shape.functions)) h in
    let here : get_or (enumerate_from 0 shape.functions) f (0, function) ≡ (f, function) =
    get_or-enumerate_from 0 shape.functions f (0, function) h ∙ (λ i. (zero_plus i, sym is i)) in
    ap (λ n. flat_map (function_locations shape.universes) (take n (enumerate_from 0 shape.functions))) after
    ∙ ap (flat_map (function_locations shape.universes)) (take-suc (enumerate_from 0 shape.functions) f (0, function) inside)
    ∙ flat_map-append (function_locations shape.universes) (take f (enumerate_from 0 shape.functions)) (get_or (enumerate_from 0 shape.functions) f (0, function) ∷ [])
    ∙ ap (λ it. locations_before shape f ++ (function_locations shape.universes it ++ [])) here
    ∙ ap (λ ls. locations_before shape f ++ ls) (append-nil (function_locations shape.universes (f, function)))
  where
    zero_plus : 0 + f ≡ f
    zero_plus = omega arith

pub given_up : (shape : Shape) (f : ℕ) (function : Function) → f < length shape.functions → function ≡ get_or shape.functions f function
    → given_before shape (f + 1) ≡ given_before shape f ++ static_values shape.universes function
given_up shape f function h is =
    let after : f + 1 ≡ suc f = omega arith in
    ap (λ n. given_before shape n) after
    ∙ ap (flat_map (static_values shape.universes)) (take-suc shape.functions f function h)
    ∙ flat_map-append (static_values shape.universes) (take f shape.functions) (get_or shape.functions f function ∷ [])
    ∙ ap (λ it. given_before shape f ++ (static_values shape.universes it ++ [])) (sym is)
    ∙ ap (λ vs. given_before shape f ++ vs) (append-nil (static_values shape.universes function))

pub all_locations : (shape : Shape) → locations_before shape (length shape.functions) ≡ locations shape
all_locations shape =
    let short : length (enumerate_from 0 shape.functions) ≤ length shape.functions = omega (arith, length-enumerate_from 0 shape.functions) in
    ap (flat_map (function_locations shape.universes)) (take_all (length shape.functions) (enumerate_from 0 shape.functions) short)

pub all_given : (shape : Shape) → given_before shape (length shape.functions) ≡ flat_map (static_values shape.universes) shape.functions
all_given shape =
    let short : length shape.functions ≤ length shape.functions = omega arith in
    ap (flat_map (static_values shape.universes)) (take_all (length shape.functions) shape.functions short)

-- ---- the initial contents of a function's locations

pub listed_in : (domain : Domain) (k : ℕ) → k < length (argument_lists domain) → is_in domain (get_or (argument_lists domain) k []) ≡ true
listed_in domain k h = in_contains domain (get_or (argument_lists domain) k []) (k, h, get_or_default (argument_lists domain) k (get_or (argument_lists domain) k []) [] h)

controlled_contents : (shape : Shape) (f : ℕ) (function : Function) → slice_get shape.functions f ≡ Some function → function.kind ≡ Controlled
    → (lists : List (List Value)) → ((k : ℕ) → k < length lists → is_in (domain_in shape.universes function.domain) (get_or lists k []) ≡ true)
    → map (initial_state shape) (map (Proper f) lists ++ Stray f ∷ []) ≡ map (table_value function.table) lists ++ Undef ∷ []
controlled_contents shape f function at kind [] inside = refl
controlled_contents shape f function at kind (vs ∷ lists) inside =
    λ i. first i ∷ controlled_contents shape f function at kind lists (λ k h. inside (suc k) (omega (arith, h))) i
  where
    first : initial_state shape (Proper f vs) ≡ table_value function.table vs
    first =
        ap (λ o. initial_value shape.universes o vs) at
        ∙ ap (λ k. elim k as (λ x. Value) [ Controlled ↦ value_in (domain_in shape.universes function.domain) function.table vs | Static ↦ Undef ]) kind
        ∙ ap (λ b. cond b (table_value function.table vs) Undef) (inside 0 (omega arith))

initial_contents : (shape : Shape) (f : ℕ) (function : Function) → slice_get shape.functions f ≡ Some function
    → map (initial_state shape) (function_locations shape.universes (f, function)) ≡ initial_values shape.universes function
initial_contents shape f function at = by_kind function.kind refl
  where
    domain : Domain
    domain = domain_in shape.universes function.domain

    by_kind : (kind : FunctionKind) → function.kind ≡ kind → map (initial_state shape) (locations_by kind f (domain_in shape.universes function.domain)) ≡ initial_values_by kind (map (table_value function.table) (argument_lists (domain_in shape.universes function.domain)))
    by_kind Controlled e = controlled_contents shape f function at e (argument_lists (domain_in shape.universes function.domain)) (listed_in (domain_in shape.universes function.domain))
    by_kind Static e = refl

-- ---- the layout of the first functions

pub record UpTo (shape : Shape) (f : ℕ) (layout : Layout) : Type 0 where
  pub beside : length layout.extents.items ≡ f
  pub extents : (k : ℕ) (function : Function) (d : Stretch) → k < f → IsStretchOf shape k (get_or shape.functions k function) (get_or layout.extents.items k d)
  pub owners : layout.owners.items ≡ map function_of (locations_before shape f)
  pub initial : layout.initial.items ≡ map (initial_state shape) (locations_before shape f)
  pub given : layout.given.items ≡ given_before shape f

start_is : (kind : FunctionKind) (shape : Shape) (f : ℕ) (layout : Layout) → UpTo shape f layout → next_start kind layout ≡ start_by kind shape f
start_is Controlled shape f layout so_far = ap length so_far.initial ∙ length-map (locations_before shape f) (initial_state shape)
start_is Static shape f layout so_far = ap length so_far.given

pub step_up : (shape : Shape) (f : ℕ) (function : Function) (old new : Layout) → UpTo shape f old → f < length shape.functions → function ≡ get_or shape.functions f function
    → IsNext shape.universes f function old new → UpTo shape (f + 1) new
step_up shape f function old new so_far h is next =
    let up : locations_before shape (f + 1) ≡ locations_before shape f ++ function_locations shape.universes (f, function) = locations_up shape f function h is in
    let at : slice_get shape.functions f ≡ Some function = slice_get-get_or shape.functions f function h ∙ ap Some (sym is) in
    record {
      beside = ap length next.extents ∙ length-append old.extents.items _ ∙ ap (λ n. n + 1) so_far.beside;
      extents = each;
      owners = next.owners ∙ ap (λ fs. fs ++ map function_of (function_locations shape.universes (f, function))) so_far.owners
          ∙ sym (map-append function_of (locations_before shape f) (function_locations shape.universes (f, function))) ∙ ap (map function_of) (sym up);
      initial = next.initial ∙ (λ i. so_far.initial i ++ sym (initial_contents shape f function at) i)
          ∙ sym (map-append (initial_state shape) (locations_before shape f) (function_locations shape.universes (f, function))) ∙ ap (map (initial_state shape)) (sym up);
      given = next.given ∙ ap (λ vs. vs ++ static_values shape.universes function) so_far.given ∙ sym (given_up shape f function h is);
    }
  where
    last : Stretch
    last = record { start = next_start function.kind old; lists = length (argument_lists (domain_in shape.universes function.domain)) }

    each : (k : ℕ) (other : Function) (d : Stretch) → k < f + 1 → IsStretchOf shape k (get_or shape.functions k other) (get_or new.extents.items k d)
    each k other d below =
        elim (nat_eq k f) as (λ b. nat_eq k f ≡ b → IsStretchOf shape k (get_or shape.functions k other) (get_or new.extents.items k d)) [
          | true ↦ λ e.
              let same : k ≡ f = grind (arith, nat_tests) in
              subst (λ k. IsStretchOf shape k (get_or shape.functions k other) (get_or new.extents.items k d)) (sym same) here
          | false ↦ λ e.
              let before : k < f = grind (arith, nat_tests) in
              let stands : k < length old.extents.items = subst (λ n. k < n) (sym so_far.beside) before in
              subst (IsStretchOf shape k (get_or shape.functions k other)) (sym (ap (λ es. get_or es k d) next.extents ∙ get_or-append old.extents.items (last ∷ []) d k stands)) (so_far.extents k other d before)
        ] refl
      where
        last_is : get_or new.extents.items f d ≡ last
        last_is = ap (λ es. get_or es f d) next.extents ∙ ap (λ n. get_or (old.extents.items ++ last ∷ []) n d) (sym so_far.beside) ∙ get_or-append_seam old.extents.items last [] d

        function_is : get_or shape.functions f other ≡ function
        function_is = get_or_default shape.functions f other function h ∙ sym is

        here : IsStretchOf shape f (get_or shape.functions f other) (get_or new.extents.items f d)
        here =
            subst (λ g. IsStretchOf shape f g (get_or new.extents.items f d)) (sym function_is)
            (subst (IsStretchOf shape f function) (sym last_is) (record { start = start_is function.kind shape f old so_far; lists = refl }))

pub none_so_far : (shape : Shape) (layout : Layout) → layout.extents.items ≡ [] → layout.owners.items ≡ [] → layout.initial.items ≡ [] → layout.given.items ≡ [] → UpTo shape 0 layout
none_so_far shape layout extents owners initial given = record {
  beside = ap length extents;
  extents = λ k function d h. absurd (nothing k h);
  owners = owners;
  initial = initial;
  given = given;
}
  where
    nothing : (k : ℕ) → k < 0 → ⊥
    nothing k h = omega (arith, h)

pub whole_layout : (shape : Shape) (f : ℕ) (layout : Layout) → IsSound shape → Fits shape → f ≡ length shape.functions → UpTo shape f layout → IsLayoutOf shape layout
whole_layout shape f layout sound fits all so_far =
    let up_to : UpTo shape (length shape.functions) layout = subst (λ f. UpTo shape f layout) all so_far in
    record {
      sound = sound;
      fits = fits;
      beside = up_to.beside;
      extents = λ f function d h. up_to.extents f function d h;
      owners = up_to.owners ∙ ap (map function_of) (all_locations shape);
      initial = up_to.initial ∙ ap (map (initial_state shape)) (all_locations shape);
      given = up_to.given ∙ all_given shape;
    }
