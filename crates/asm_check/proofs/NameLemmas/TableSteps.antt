-- Free. One entry of the table after another.
use Rattle.std.proofs.Common.{◌≡◌, ℕ, ◌+◌, ◌<◌, List, [], ◌∷◌, ◌++◌, map, length, take, drop, get_or, Option, Some, None, refl, ap, ◌∙◌, arith}
use Rattle.std.specs.Prelude.{slice_get, option_map}
use Rattle.std.proofs.lemmas.List.{length-map, get_or-map, take_more, drop_more}
use Rattle.std.proofs.lemmas.Option.{slice_get_within, get_or_from_slice_get}
use Rattle.asm_syntax.specs.SourceTree.{Name}
use Rattle.asm_check.specs.declared.names.declared_as.Declaration.{Declaration as CodeDeclaration}
use Rattle.asm_check.specs.Names.{Declaration, declares}
use Rattle.asm_check.specs.code.names.Tables.{Entry, declaration_of, declared_as_view}
use Rattle.asm_check.specs.code.limits.CountedSizes.{value_of_entry}

-- the declaration at a position, with what is before and after it
pub record Stands (ds : List Declaration) (i : ℕ) (r : CodeDeclaration) : Type 0 where
  pub name : Name
  pub at : name.at ≡ r.at
  pub inside : i < length ds
  pub rest : drop i ds ≡ declares name (declared_as_view r.meaning) ∷ drop (i + 1) ds
  pub front : take (i + 1) ds ≡ take i ds ++ declares name (declared_as_view r.meaning) ∷ []

entry_stands : (entries : List Entry) (i : ℕ) (r : CodeDeclaration) (o : Option Entry) → slice_get entries i ≡ o → option_map value_of_entry o ≡ Some r → Stands (map declaration_of entries) i r
entry_stands entries i r None s h = cc
entry_stands entries i r (Some e) s h =
    let low : i < length entries = slice_get_within entries i e s in
    let inside : i < length (map declaration_of entries) = omega (arith, length-map entries declaration_of) in
    let same : e.1 ≡ r = cc in
    let value : get_or (map declaration_of entries) i (declaration_of e) ≡ declares (record { at = r.at; text = e.0.now }) (declared_as_view r.meaning) =
    get_or-map declaration_of entries i e (declaration_of e) low
    ∙ ap declaration_of (get_or_from_slice_get entries i e e s)
    ∙ ap (λ (v : CodeDeclaration). declares (record { at = v.at; text = e.0.now }) (declared_as_view v.meaning)) same in
    record {
      name = record { at = r.at; text = e.0.now };
      at = refl;
      inside = inside;
      rest = drop_more (map declaration_of entries) i (declaration_of e) inside ∙ ap (λ d. d ∷ drop (i + 1) (map declaration_of entries)) value;
      front = take_more (map declaration_of entries) i (declaration_of e) inside ∙ ap (λ d. take i (map declaration_of entries) ++ d ∷ []) value;
    }

pub stands : (entries : List Entry) (i : ℕ) (r : CodeDeclaration) → option_map value_of_entry (slice_get entries i) ≡ Some r → Stands (map declaration_of entries) i r
stands entries i r h = entry_stands entries i r (slice_get entries i) refl h
