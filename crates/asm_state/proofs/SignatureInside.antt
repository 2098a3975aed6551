-- Free. What a signature of the code has inside.
use Rattle.std.proofs.Common.{◌≡◌, ◌≢◌, ℕ, ◌-◌, ◌<◌, List, [], length, get_or, ap, subst, sym, ◌∙◌}
use Rattle.std.proofs.lemmas.Option.{get_or_from_slice_get, slice_get_within}
use Rattle.asm_state.specs.declared.function.Function.{Function}
use Rattle.asm_state.specs.declared.value.Value.{Value}
use Rattle.asm_state.specs.SignatureLimits.{IsDomainOf}
use Rattle.asm_state.specs.Location.{Proper}
use Rattle.asm_state.specs.Tables.{argument_lists}
use Rattle.asm_state.specs.declared.signature.Signature.TheInside.{Inside}
use Rattle.asm_state.specs.code.Layout.{IsLayoutOf}
use Rattle.asm_state.specs.Signature.{Shape, count_of, domain_in, location_at}
use Rattle.asm_state.specs.declared.layout.Stretch.{Stretch}
use Rattle.asm_state.proofs.LocationLemmas.FunctionOfLocation.{Owned, IsAt, owner_here, index_here}

abbrev pub shape_of : Inside → Shape
shape_of s = record { universes = s.universes.items; functions = s.functions.items }

-- the number of a location, seen from outside
module _ (inside : Inside) (laid_out : IsLayoutOf (shape_of inside) inside.layout) (shape : Shape) (view : shape_of inside ≡ shape) (n f : ℕ) (below : n < count_of shape) (is : f ≡ get_or inside.layout.owners.items n f) where
  pub below_inside : n < count_of (shape_of inside)
  below_inside = subst (λ s. n < count_of s) (sym view) below

  pub owned : Owned (shape_of inside) n f
  owned = owner_here (shape_of inside) inside.layout laid_out n f below_inside is

  pub index : (extent : Stretch) → extent ≡ get_or inside.layout.extents.items f extent → IsAt (shape_of inside) n f extent.start extent.lists
  index extent of = index_here (shape_of inside) inside.layout laid_out n f extent below_inside is of

-- the location with a number, by the universes and the domain that the code reads
pub record Listed (shape : Shape) (universes : List (List Value)) (domain : List ℕ) (n f k : ℕ) : Type 0 where
  pub domain_fits : IsDomainOf universes domain
  pub in_range : k < length (argument_lists (domain_in universes domain))
  pub location : location_at shape n ≡ Proper f (get_or (argument_lists (domain_in universes domain)) k [])

pub known_domain : (inside : Inside) → IsLayoutOf (shape_of inside) inside.layout → (f : ℕ) (function : Function) → f < length inside.functions.items → function ≡ get_or inside.functions.items f function
    → IsDomainOf inside.universes.items function.domain
known_domain inside laid_out f function known is = subst (λ g. IsDomainOf inside.universes.items g.domain) (sym is) (laid_out.fits.domains f function known)

pub listed : (inside : Inside) → IsLayoutOf (shape_of inside) inside.layout → (shape : Shape) → shape_of inside ≡ shape
    → (n f start lists : ℕ) → IsAt (shape_of inside) n f start lists → n - start ≢ lists
    → (function : Function) → function ≡ get_or inside.functions.items f function
    → (universes : List (List Value)) (domain : List ℕ) → universes ≡ inside.universes.items → domain ≡ function.domain
    → Listed shape universes domain n f (n - start)
listed inside laid_out shape view n f start lists at other function is universes domain same_universes same_domain =
    subst (λ us. Listed shape us domain n f (n - start)) (sym same_universes)
    (subst (λ ns. Listed shape inside.universes.items ns n f (n - start)) (sym same_domain) here)
  where
    same : at.function ≡ function
    same = sym (get_or_from_slice_get inside.functions.items f at.function function at.holds.at) ∙ sym is

    here : Listed shape inside.universes.items function.domain n f (n - start)
    here = record {
      domain_fits = known_domain inside laid_out f function (slice_get_within inside.functions.items f at.function at.holds.at) is;
      in_range = subst (λ g. n - start < length (argument_lists (domain_in inside.universes.items g.domain))) same (at.inside other);
      location = ap (λ s. location_at s n) (sym view) ∙ at.proper other ∙ ap (λ (g : Function). Proper f (get_or (argument_lists (domain_in inside.universes.items g.domain)) (n - start) [])) same;
    }
