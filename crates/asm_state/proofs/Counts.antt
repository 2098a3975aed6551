-- Free. How many locations, and how many argument lists of static functions, there are so far.
use Rattle.std.proofs.Common.{◌≡◌, ℕ, ◌+◌, ◌*◌, ◌^◌, ◌<◌, ◌≤◌, ◌↔◌, nat_le, IsTrue, All, List, length, get_or, refl, sym, ap, subst, ◌∙◌, arith}
use Rattle.std.proofs.lemmas.Bool.Decides.{nat_tests}
use Rattle.std.proofs.lemmas.List.{length-append}
use Rattle.asm_state.specs.declared.signature_limits.TheConstants.{MAX_LOCATIONS, MAX_STATIC_LISTS}
use Rattle.asm_state.specs.declared.function.Function.{Function}
use Rattle.asm_state.specs.declared.function.FunctionKind.TheVariants.{Controlled, Static}
use Rattle.asm_state.specs.SignatureLimits.{IsDomainOf, static_lists, static_lists_by, static_count}
use Rattle.asm_state.specs.code.Layout.{static_values}
use Rattle.asm_state.specs.Signature.{Shape, domain_in, function_locations, locations_by, count_of}
use Rattle.asm_state.specs.Tables.{argument_lists}
use Rattle.asm_state.proofs.GivenValues.{static_length, given_count}
use Rattle.asm_state.proofs.LayoutsSoFar.{locations_before, given_before, locations_up, given_up, all_locations, all_given}
use Rattle.asm_state.proofs.ListPositions.{few_lists}
use Rattle.asm_state.proofs.LocationLemmas.NumberedLocations.{how_many}

pub record CountsTo (shape : Shape) (f locations static_lists : ℕ) : Type 0 where
  pub locations_are : locations ≡ length (locations_before shape f)
  pub static_lists_are : static_lists ≡ length (given_before shape f)
  -- a function has at most 4,096^4 argument lists
  pub locations_small : locations ≤ f * 281_474_976_710_657
  pub static_lists_small : static_lists ≤ f * 281_474_976_710_657

pub count_controlled : (shape : Shape) (f : ℕ) (function : Function) (locations static_lists lists : ℕ) → CountsTo shape f locations static_lists → f < length shape.functions → function ≡ get_or shape.functions f function
    → function.kind ≡ Controlled → lists ≡ length (argument_lists (domain_in shape.universes function.domain)) → lists ≤ 281_474_976_710_656
    → CountsTo shape (f + 1) (locations + (lists + 1)) static_lists
count_controlled shape f function locations static_lists lists so_far h is kind are small =
    let up = ap length (locations_up shape f function h is) ∙ length-append (locations_before shape f) (function_locations shape.universes (f, function)) in
    let its : length (function_locations shape.universes (f, function)) ≡ lists + 1 =
    ap (λ k. length (locations_by k f (domain_in shape.universes function.domain))) kind ∙ how_many f (domain_in shape.universes function.domain) ∙ ap (λ n. n + 1) (sym are) in
    let given = ap length (given_up shape f function h is) ∙ length-append (given_before shape f) (static_values shape.universes function) in
    let none : length (static_values shape.universes function) ≡ 0 =
    static_length shape.universes function ∙ ap (λ k. static_lists_by k (length (argument_lists (domain_in shape.universes function.domain)))) kind in
    record {
      locations_are = omega (arith, up, its, so_far.locations_are);
      static_lists_are = omega (arith, given, none, so_far.static_lists_are);
      locations_small = omega (arith, so_far.locations_small, small);
      static_lists_small = omega (arith, so_far.static_lists_small);
    }

pub count_static : (shape : Shape) (f : ℕ) (function : Function) (locations static_lists lists : ℕ) → CountsTo shape f locations static_lists → f < length shape.functions → function ≡ get_or shape.functions f function
    → function.kind ≡ Static → lists ≡ length (argument_lists (domain_in shape.universes function.domain)) → lists ≤ 281_474_976_710_656
    → CountsTo shape (f + 1) locations (static_lists + lists)
count_static shape f function locations static_lists lists so_far h is kind are small =
    let up = ap length (locations_up shape f function h is) ∙ length-append (locations_before shape f) (function_locations shape.universes (f, function)) in
    let its : length (function_locations shape.universes (f, function)) ≡ 0 = ap (λ k. length (locations_by k f (domain_in shape.universes function.domain))) kind in
    let given = ap length (given_up shape f function h is) ∙ length-append (given_before shape f) (static_values shape.universes function) in
    let all : length (static_values shape.universes function) ≡ lists =
    static_length shape.universes function ∙ ap (λ k. static_lists_by k (length (argument_lists (domain_in shape.universes function.domain)))) kind ∙ sym are in
    record {
      locations_are = omega (arith, up, its, so_far.locations_are);
      static_lists_are = omega (arith, given, all, so_far.static_lists_are);
      locations_small = omega (arith, so_far.locations_small);
      static_lists_small = omega (arith, so_far.static_lists_small, small);
    }

pub none_counted : (shape : Shape) → CountsTo shape 0 0 0
none_counted shape = record { locations_are = refl; static_lists_are = refl; locations_small = omega arith; static_lists_small = omega arith }

pub all_counted : (shape : Shape) (f locations static_lists : ℕ) → f ≡ length shape.functions → CountsTo shape f locations static_lists → (locations ≡ count_of shape) × (static_lists ≡ static_count shape)
all_counted shape f locations static_lists all so_far = (
  so_far.locations_are ∙ ap (λ n. length (locations_before shape n)) all ∙ ap length (all_locations shape),
  so_far.static_lists_are ∙ ap (λ n. length (given_before shape n)) all ∙ ap length (all_given shape) ∙ given_count shape,
)

pub known_lists : (shape : Shape) (f : ℕ) (function : Function) (domain : List ℕ) (lists : ℕ) → All (λ (f : Function). IsDomainOf shape.universes f.domain) shape.functions
    → f < length shape.functions → function ≡ get_or shape.functions f function → domain ≡ function.domain
    → lists ≡ length (argument_lists (domain_in shape.universes domain)) → lists ≤ 4096 ^ length domain
    → (lists ≡ length (argument_lists (domain_in shape.universes function.domain))) × (lists ≤ 281_474_976_710_656)
known_lists shape f function domain lists domains h is same are bound =
    let fits : IsDomainOf shape.universes function.domain = subst (λ (g : Function). IsDomainOf shape.universes g.domain) (sym is) (domains f function h) in (
      are ∙ ap (λ ns. length (argument_lists (domain_in shape.universes ns))) same,
      few_lists lists (length domain) bound (subst (λ ns. length ns ≤ 4) (sym same) fits.few),
    )

-- two bounds by the tests of two numbers
pub both_within : (a b m n : ℕ) → a ≡ m → b ≡ n → a ≤ MAX_LOCATIONS → IsTrue (nat_le b MAX_STATIC_LISTS) ↔ ((m ≤ MAX_LOCATIONS) × (n ≤ MAX_STATIC_LISTS))
both_within a b m n e f h = (
  λ t. let low : b ≤ MAX_STATIC_LISTS = grind (arith, nat_tests) in (omega (arith, e, h), omega (arith, f, low)),
  λ both. let low : b ≤ MAX_STATIC_LISTS = omega (arith, f, both.1) in grind (arith, nat_tests),
)

pub first_past : (a m n : ℕ) → a ≡ m → MAX_LOCATIONS < a → IsTrue (nat_le a MAX_LOCATIONS) ↔ ((m ≤ MAX_LOCATIONS) × (n ≤ MAX_STATIC_LISTS))
first_past a m n e h = (
  λ t. let low : a ≤ MAX_LOCATIONS = grind (arith, nat_tests) in absurd (omega (arith, low, h)),
  λ both. absurd (omega (arith, e, both.0, h)),
)
