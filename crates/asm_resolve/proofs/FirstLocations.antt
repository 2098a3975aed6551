-- Free. The locations of a controlled function, by positions: the code that reads them has the
-- function's value, and the target code names its location.
use Rattle.std.proofs.Common.{◌≡◌, ℕ, Option, ◌+◌, ◌≤◌, ◌<◌, List, [], length, get_or, Some, None, sym, ap, subst, ◌∙◌, arith}
use Rattle.std.specs.Prelude.{slice_get, IsTrue}
use Rattle.std.proofs.lemmas.Option.{slice_get-get_or}
use Rattle.asm_state.specs.declared.signature_limits.TheConstants.{MAX_LOCATIONS}
use Rattle.asm_state.specs.declared.function.FunctionKind.TheVariants.{Controlled}
use Rattle.asm_state.specs.declared.value.Value.{Value}
use Rattle.asm_state.specs.declared.value.Value.TheVariants.{Undef}
use Rattle.asm_state.specs.code.FirstLocations.{argument_position, first_of}
use Rattle.asm_state.specs.Location.{Proper, State}
use Rattle.asm_state.specs.Signature.{Shape, HasKind, domain_in, domain_by, domain_of, count_of, location_at}
use Rattle.asm_state.specs.Tables.{Domain, argument_lists, location_in}
use Rattle.asm_state.specs.Updates.{is_proper}
use Rattle.asm_state.proofs.LocationLemmas.FirstLocations.{first_location_laws}
use Rattle.asm_meaning.specs.Declarations.{function_at, held_as}
use Rattle.asm_meaning.specs.Value.{read}
use Rattle.asm_meaning.specs.code.TermValues.{held}
use Rattle.asm_code.specs.code.Readings.{content}
use Rattle.asm_code.specs.code.RuleMeaning.{number_from}
use Rattle.asm_code.specs.code.SoundCodes.{IsCell, IsLocationNumber}
use Rattle.asm_resolve.specs.code.FunctionCodes.{HasDomain}

is_proper_list : (f : ℕ) (vs : List Value) → IsTrue (is_proper (Proper f vs))
is_proper_list f vs = cc

module _ (shape : Shape) (f : ℕ) (ns : List ℕ) (has : HasDomain shape f ns) where
  abbrev pub domain : Domain
  domain = domain_in shape.universes ns

  pub has_kind : HasKind Controlled shape f
  has_kind = (has.function, has.at, has.kind)

  domain_is : domain_of shape f ≡ domain
  domain_is = ap (λ o. domain_by shape.universes o) has.at ∙ ap (domain_in shape.universes) has.domain

  held_is : (vs : List Value) (A : State) → held (function_at shape f (slice_get shape.functions f)) vs A ≡ read A (location_in f domain vs)
  held_is vs A =
      ap (λ o. held (function_at shape f o) vs A) has.at
      ∙ ap (λ k. held (Some (held_as shape f has.function k)) vs A) has.kind
      ∙ ap (λ ms. read A (location_in f (domain_in shape.universes ms) vs)) has.domain

  -- a list of the domain
  abbrev IsListed : ℕ → List Value → Type 0
  IsListed k vs = slice_get (argument_lists domain) k ≡ Some vs

  located : (k : ℕ) (vs : List Value) → IsListed k vs → location_at shape (first_of shape f + k) ≡ Proper f vs
  located k vs at = first_location_laws.proper shape f k vs has_kind (subst (λ d. slice_get (argument_lists d) k ≡ Some vs) (sym domain_is) at)

  -- the number of the first location, and those after it
  pub cell_at : (n k : ℕ) → count_of shape ≤ MAX_LOCATIONS → n ≡ first_of shape f → k < length (argument_lists domain) → IsCell shape (n + k)
  cell_at n k few begin below =
      let vs = get_or (argument_lists domain) k [] in
      let at = located k vs (slice_get-get_or (argument_lists domain) k [] below) in
      let in_range = first_location_laws.in_range shape f k has_kind (omega (arith, below, ap (λ d. length (argument_lists d)) domain_is)) in
      let same : n + k ≡ first_of shape f + k = omega (arith, begin) in
      subst (IsCell shape) (sym same) (record { in_range = in_range; few = omega (arith, in_range, few); proper = subst (λ l. IsTrue (is_proper l)) (sym at) (is_proper_list f vs) })

  pub content_at : (n k : ℕ) (vs : List Value) (A : State) → n ≡ first_of shape f → argument_position domain vs ≡ Some k
      → content shape A (n + k) ≡ held (function_at shape f (slice_get shape.functions f)) vs A
  content_at n k vs A begin at =
      let same : n + k ≡ first_of shape f + k = omega (arith, begin) in
      ap (λ m. read A (location_at shape m)) same ∙ ap (read A) (located k vs (first_location_laws.list domain vs k at) ∙ sym (first_location_laws.inside f domain vs k at)) ∙ sym (held_is vs A)

  pub outside : (vs : List Value) (A : State) → argument_position domain vs ≡ None → Undef ≡ held (function_at shape f (slice_get shape.functions f)) vs A
  outside vs A out = ap (read A) (sym (first_location_laws.outside f domain vs out)) ∙ sym (held_is vs A)

  -- after `many` of them comes the stray location

  module _ (n many : ℕ) (begin : n ≡ first_of shape f) (all : many ≡ length (argument_lists domain)) where
    last_is : n + many ≡ first_of shape f + length (argument_lists (domain_of shape f))
    last_is = omega (arith, begin, all, ap (λ d. length (argument_lists d)) domain_is)

    pub last_number : count_of shape ≤ MAX_LOCATIONS → IsLocationNumber shape (n + many)
    last_number few =
        let in_range = first_location_laws.in_range shape f (length (argument_lists (domain_of shape f))) has_kind (omega arith) in
        let same = last_is in record { in_range = omega (arith, in_range, same); few = omega (arith, in_range, same, few) }

    pub located_at : (vs : List Value) (o : Option ℕ) → argument_position domain vs ≡ o → location_at shape (number_from n many o) ≡ location_in f (domain_of shape f) vs
    located_at vs None at =
        ap (location_at shape) last_is ∙ first_location_laws.stray shape f has_kind ∙ sym (first_location_laws.outside f domain vs at) ∙ ap (λ d. location_in f d vs) (sym domain_is)
    located_at vs (Some k) at =
        ap (λ m. location_at shape (m + k)) begin ∙ located k vs (first_location_laws.list domain vs k at) ∙ sym (first_location_laws.inside f domain vs k at) ∙ ap (λ d. location_in f d vs) (sym domain_is)
