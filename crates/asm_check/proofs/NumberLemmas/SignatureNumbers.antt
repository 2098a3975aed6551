-- Free. Universes, functions and elements have the numbers in the signature that
-- they have among the declarations.
use Rattle.std.proofs.Common.{◌≡◌, ℕ, ◌+◌, ◌≤◌, length, Some, refl, sym, ap, subst, ◌∙◌, arith}
use Rattle.std.specs.Prelude.{Contains, slice_get, option_map}
use Rattle.std.proofs.lemmas.List.{length-map}
use Rattle.std.proofs.lemmas.Option.{slice_get-map}
use Rattle.asm_state.specs.declared.element.TheConstants.{MAX_ELEMENTS}
use Rattle.asm_state.specs.Universe.{element}
use Rattle.asm_syntax.specs.SourceTree.{Spec}
use Rattle.asm_check.specs.Names.{Declaration, Enumeration, Element, declarations_from, first_declarations}
use Rattle.asm_check.specs.Faults.{IsWellFormed}
use Rattle.asm_check.specs.Numbers.{is_element, is_table, universes_of, elements_of, functions_of}
use Rattle.asm_check.specs.Shapes.{universe_values, shape_of}
use Rattle.asm_check.specs.Laws.{SignatureNumbers}
use Rattle.asm_check.proofs.NameLemmas.ListedDeclarations.{length_elements, element_indexed, length_functions, function_indexed}
use Rattle.asm_check.proofs.LimitLemmas.SmallUniverses.{all_numbered, few_elements}
use Rattle.asm_check.proofs.NameLemmas.DeclaredOnce.{all_like}
use Rattle.asm_check.specs.code.numbers.NumberTables.{declared_like}

module _ (spec : Spec) (good : IsWellFormed spec) where
  elements_all : elements_of spec ≡ declared_like is_element (declarations_from 0 spec.items)
  elements_all = all_like spec good is_element refl

  functions_all : functions_of spec ≡ declared_like is_table (declarations_from 0 spec.items)
  functions_all = all_like spec good is_table refl

  element_stands : (n k : ℕ) (d : Declaration) → slice_get (elements_of spec) n ≡ Some d → d.meaning ≡ Element k → Contains (universe_values spec (Enumeration k)) (element n)
  element_stands n k d e is =
      let same : 0 + n ≡ n = omega arith in
      subst (λ m. Contains (universe_values spec (Enumeration k)) (element m)) same
      (element_indexed (first_declarations spec) 0 0 spec.items (all_numbered spec good) n k d (ap (λ ds. slice_get ds n) (sym elements_all) ∙ e) is)

  elements_few : length (elements_of spec) ≤ MAX_ELEMENTS
  elements_few =
      let same = ap length elements_all ∙ length_elements 0 spec.items in
      let few = few_elements spec good in
      omega (arith, same, few)

pub signature_numbers : SignatureNumbers
unfolding shape_of
signature_numbers spec good = record {
  count_of_universes = length-map (universes_of spec) (λ d. universe_values spec d.meaning);
  universes = λ n d e. slice_get-map (λ (d : Declaration). universe_values spec d.meaning) (universes_of spec) n ∙ ap (option_map (λ (d : Declaration). universe_values spec d.meaning)) e;
  count_of_functions = length_functions spec 0 spec.items ∙ ap length (sym (functions_all spec good));
  functions = λ f d e. function_indexed spec 0 spec.items (λ item it. it) f d (ap (λ ds. slice_get ds f) (sym (functions_all spec good)) ∙ e);
  elements = element_stands spec good;
  few_elements = elements_few spec good;
}
