-- Free. The bounds that the constants give.
use Rattle.std.proofs.Common.{◌<◌, ◌≤ℤ◌, refl, subst}
use Rattle.asm_state.specs.declared.element.TheConstants.{MAX_ELEMENTS}
use Rattle.asm_state.specs.Bounds.{least_number, greatest_number}
use Rattle.asm_state.specs.BoundLaws.{IsWithinBounds, BoundLaws}
use Rattle.asm_state.specs.SignatureLimits.{Fits}
use Rattle.asm_state.specs.Signature.{Shape}

bounds_from : (shape : Shape) → Fits shape → IsWithinBounds shape
bounds_from shape fits = record {
  universes = fits.few_universes;
  values = fits.few_values;
  functions = fits.few_functions;
  domains = λ k f below. (fits.domains k f below).few;
  known = λ k f below. (fits.domains k f below).known;
  locations = fits.few_locations;
  static_lists = fits.few_static_lists;
  tables = fits.tables;
}

fits_from : (shape : Shape) → IsWithinBounds shape → Fits shape
fits_from shape bounds = record {
  few_universes = bounds.universes;
  few_values = bounds.values;
  few_functions = bounds.functions;
  domains = λ k f below. record { few = bounds.domains k f below; known = bounds.known k f below };
  few_locations = bounds.locations;
  few_static_lists = bounds.static_lists;
  tables = bounds.tables;
}

pub bound_laws : BoundLaws
bound_laws = record {
  greatest = refl;
  elements = refl;
  values = refl;
  universes = refl;
  functions = refl;
  domain = refl;
  locations = refl;
  static_lists = refl;
  signatures = λ shape. (bounds_from shape, fits_from shape);
  numbers = λ z. (
    λ (n, same). (subst (λ y. least_number ≤ℤ y) same n.low, subst (λ y. y ≤ℤ greatest_number) same n.high),
    λ (low, high). (record { value = z; low = low; high = high }, refl),
  );
  indices = λ k. (
    λ (e, same). subst (λ n. n < MAX_ELEMENTS) same e.in_range,
    λ below. (record { index = k; in_range = below }, refl),
  );
}
