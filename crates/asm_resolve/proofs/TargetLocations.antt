-- Free. The target codes of functions name the functions' locations.
use Rattle.std.proofs.Common.{◌≡◌, ℕ, ◌+◌, ◌*◌, List, [], ◌∷◌, length, Some, refl, sym, ap, subst, ◌∙◌, arith, Box, Vec, Global}
use Rattle.std.specs.Prelude.{map}
use Rattle.std.proofs.lemmas.Option.{get_or_from_slice_get}
use Rattle.asm_state.specs.declared.function.FunctionKind.TheVariants.{Controlled}
use Rattle.asm_state.specs.SignatureLimits.{Fits}
use Rattle.asm_state.specs.code.FirstLocations.{first_of, position_in_grid}
use Rattle.asm_state.specs.Signature.{Shape, HasKind, location_at}
use Rattle.asm_state.specs.Tables.{argument_lists}
use Rattle.asm_state.proofs.Domains.{domain_laws}
use Rattle.asm_state.proofs.LocationLemmas.FirstLocations.{first_location_laws}
use Rattle.asm_code.specs.code.CodeTree as tree
use Rattle.asm_code.specs.code.CodeViews.{code_of, codes_of}
use Rattle.asm_code.specs.code.Readings.{reading, position_in, universe_at}
use Rattle.asm_code.specs.code.RuleMeaning.{number_from}
use Rattle.asm_code.specs.code.RuleViews.{target_code_of}
use Rattle.asm_code.specs.declared.code.Code.{Code}
use Rattle.asm_code.specs.declared.code.Grid.{Grid as GridPlace}
use Rattle.asm_code.specs.declared.code.CodeRange.{CodeRange}
use Rattle.asm_code.specs.declared.rule_code.TargetCode.TheVariants as place
use Rattle.asm_resolve.specs.code.FunctionCodes.{HasDomain, IsGridOf, IsLocated, IsRowOf}
use Rattle.asm_resolve.proofs.FirstLocations.{last_number, located_at}
use Rattle.asm_resolve.proofs.FunctionReads.{at_position_of, one_each, placed, two_each}

pub held_located : (shape : Shape) (f : ℕ) → HasKind Controlled shape f → (ts : Vec Code Global) (us : List Code) → ts.items ≡ us → IsLocated shape f (codes_of (map code_of us)) (target_code_of (place.FunctionAt f ts))
held_located shape f kind ts us are = subst (λ ks. IsLocated shape f (codes_of (map code_of ks)) (target_code_of (place.FunctionAt f ts))) are (record {
  keeps = λ rs gs A. refl;
  sound = λ sound. (kind, sound);
  locates = λ rs ls A. refl;
})

module _ (shape : Shape) (f : ℕ) (fits : Fits shape) where
  pub cell_located : HasDomain shape f [] → (n : ℕ) → n ≡ first_of shape f → IsLocated shape f tree.no_codes (target_code_of (place.Cell n))
  unfolding reading
  cell_located has n first =
      let none : 1 ≡ length (argument_lists []) = sym domain_laws.count_of_none in
      let last = last_number shape f [] has n 1 first none fits.few_locations in
      let same : n ≡ n + 0 = omega arith in record {
        keeps = λ rs gs A. refl;
        sound = λ ts_sound. record { in_range = omega (arith, last.in_range); few = omega (arith, last.few) };
        locates = λ rs ls A. ap Some (ap (location_at shape) same ∙ located_at shape f [] has n 1 first none [] (Some 0) refl);
      }

  pub row_located : (n : ℕ) (span : CodeRange) → IsRowOf shape f n span → (t : Box Code Global) → IsLocated shape f (tree.code_then (code_of t.value) tree.no_codes) (target_code_of (place.Row n span t))
  unfolding reading
  row_located n span is t =
      let over = is.universe in
      let there : universe_at shape over ≡ is.values = get_or_from_slice_get shape.universes over is.values [] is.at in
      let all : span.count ≡ length (argument_lists (universe_at shape over ∷ [])) = is.span.count ∙ ap length (sym there) ∙ sym (one_each (universe_at shape over)) in record {
        keeps = λ rs gs A. refl;
        sound = λ ts_sound. (last_number shape f (over ∷ []) is.domain n span.count is.begins all fits.few_locations, ts_sound.0);
        locates = λ rs ls A. let v = reading shape (code_of t.value) rs A in
            ap (λ o. Some (location_at shape (number_from n span.count o))) (placed shape f fits over is.values there span is.span v)
            ∙ ap Some (located_at shape f (over ∷ []) is.domain n span.count is.begins all (v ∷ []) (position_in shape over v) (first_location_laws.of_one (universe_at shape over) v));
      }

  pub grid_located : (at : GridPlace) → IsGridOf shape f at → (s t : Box Code Global) → IsLocated shape f (tree.code_then (code_of s.value) (tree.code_then (code_of t.value) tree.no_codes)) (target_code_of (place.Grid at s t))
  unfolding reading
  grid_located at is s t =
      let there : universe_at shape is.rows ≡ is.down = get_or_from_slice_get shape.universes is.rows is.down [] is.at_rows in
      let there' : universe_at shape is.columns ≡ is.across = get_or_from_slice_get shape.universes is.columns is.across [] is.at_columns in
      let many : at.rows.count ≡ length (universe_at shape is.rows) = is.row_span.count ∙ ap length (sym there) in
      let many' : at.columns.count ≡ length (universe_at shape is.columns) = is.column_span.count ∙ ap length (sym there') in
      let all : at.rows.count * at.columns.count ≡ length (argument_lists (universe_at shape is.rows ∷ universe_at shape is.columns ∷ [])) =
      (λ i. many i * many' i) ∙ sym (two_each (universe_at shape is.rows) (universe_at shape is.columns)) in record {
        keeps = λ rs gs A. refl;
        sound = λ ts_sound. (last_number shape f (is.rows ∷ is.columns ∷ []) is.domain at.first (at.rows.count * at.columns.count) is.begins all fits.few_locations, ts_sound.0, ts_sound.1.0);
        locates = λ rs ls A. let v = reading shape (code_of s.value) rs A in let w = reading shape (code_of t.value) rs A in
            (λ i. Some (location_at shape (number_from at.first (at.rows.count * at.columns.count)
            (position_in_grid (placed shape f fits is.rows is.down there at.rows is.row_span v i) (many' i) (placed shape f fits is.columns is.across there' at.columns is.column_span w i)))))
            ∙ ap Some (located_at shape f (is.rows ∷ is.columns ∷ []) is.domain at.first (at.rows.count * at.columns.count) is.begins all (v ∷ w ∷ [])
            (position_in_grid (position_in shape is.rows v) (length (universe_at shape is.columns)) (position_in shape is.columns w))
            (at_position_of shape f fits is.rows is.columns is.domain at.first is.begins v w));
      }
