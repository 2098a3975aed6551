-- Free. What a well-formed specification declares fits into a signature.
use Rattle.std.proofs.Common.{◌≡◌, ℕ, suc, ◌+◌, ◌≤◌, List, [], ◌∷◌, map, length, All, refl, ap, ◌∙◌, arith}
use Rattle.std.specs.Prelude.{filter_map}
use Rattle.std.proofs.lemmas.List.{length-map, length-append}
use Rattle.std.proofs.lemmas.List.Elements.{All-map, All-filter}
use Rattle.asm_state.specs.declared.signature_limits.TheConstants.{MAX_UNIVERSES, MAX_VALUES, MAX_FUNCTIONS}
use Rattle.asm_state.specs.declared.value.Value.{Value}
use Rattle.asm_state.specs.SignatureLimits.{IsDomainOf}
use Rattle.asm_state.specs.Signature.{domain_in}
use Rattle.asm_state.specs.Tables.{IsTableOf}
use Rattle.asm_state.proofs.Lists.{All-from_contained}
use Rattle.asm_state.specs.declared.function.FunctionKind.TheVariants as kind
use Rattle.asm_syntax.specs.SourceTree as source
use Rattle.asm_syntax.specs.SourceTree.{Item, Spec}
use Rattle.asm_check.specs.Names.{Declaration, declarations_of, declarations_from, first_declarations}
use Rattle.asm_check.specs.Faults.{IsWellFormed}
use Rattle.asm_check.specs.Limits.{is_universe, is_function}
use Rattle.asm_check.specs.Numbers.{universes_of}
use Rattle.asm_check.specs.WithinLimits.{total}
use Rattle.asm_check.specs.Laws.{SignatureFits}
use Rattle.asm_check.specs.Shapes.{universe_values, function_given, shape_of}
use Rattle.asm_check.proofs.NameLemmas.ItemLists.{like_next}
use Rattle.asm_check.proofs.LimitLemmas.Sizes.{limits_hold}
use Rattle.asm_check.proofs.LimitLemmas.SmallUniverses.{total_ones, few_universes}
use Rattle.asm_check.proofs.LimitLemmas.UniverseSizes.{length_values}
use Rattle.asm_check.proofs.NumberLemmas.Domains.{each_function, domain_fits}
use Rattle.asm_check.proofs.TableLemmas.TableValues.{table_fits}
use Rattle.asm_check.proofs.LimitLemmas.Totals.{locations_few, statics_few}
use Rattle.asm_check.proofs.NameLemmas.DeclaredOnce.{all_like}
use Rattle.asm_check.specs.code.numbers.NumberTables.{declared_like}

module _ (spec : Spec) (good : IsWellFormed spec) where
  abbrev values : Declaration → List Value
  values d = universe_values spec d.meaning

  universes_few : length (map values (universes_of spec)) ≤ MAX_UNIVERSES
  universes_few =
      let few = few_universes spec good in
      let same : length (universes_of spec) ≡ length (declared_like is_universe (declarations_from 0 spec.items)) = ap length (all_like spec good is_universe refl) in
      let long = length-map (universes_of spec) values in
      omega (arith, few, same, long)

  values_few : All (λ (vs : List Value). length vs ≤ MAX_VALUES) (map values (universes_of spec))
  values_few =
      All-map (λ (vs : List Value). length vs ≤ MAX_VALUES) values (universes_of spec)
      (All-filter (λ d. is_universe d.meaning) (λ d. length (values d) ≤ MAX_VALUES) (first_declarations spec)
      (All-from_contained (λ d. length (values d) ≤ MAX_VALUES) (first_declarations spec)
      (λ d it. let small = (limits_hold spec good).elements d it in let long = length_values spec d.meaning in omega (arith, small, long))))

  functions_next : (k : ℕ) (item : Item) (items : List Item) → length (declared_like is_function (declarations_from k (item ∷ items))) ≡ length (declared_like is_function (declarations_of k item)) + length (declared_like is_function (declarations_from (suc k) items))
  functions_next k item items = ap length (like_next is_function k item items) ∙ length-append (declared_like is_function (declarations_of k item)) (declared_like is_function (declarations_from (suc k) items))

  fewer_functions : (k : ℕ) (items : List Item) → length (filter_map (function_given spec) items) ≤ length (declared_like is_function (declarations_from k items))
  fewer_functions k [] = omega arith
  fewer_functions k (source.Uses x ∷ items) = fewer_functions (suc k) items
  fewer_functions k (source.Init x ∷ items) = fewer_functions (suc k) items
  fewer_functions k (source.Enum x xs ∷ items) = let next = functions_next k (source.Enum x xs) items in let rest = fewer_functions (suc k) items in omega (arith, next, rest)
  fewer_functions k (source.Universe x first last ∷ items) = fewer_functions (suc k) items
  fewer_functions k (source.Function x kind.Controlled domain codomain table ∷ items) = let rest = fewer_functions (suc k) items in omega (arith, rest)
  fewer_functions k (source.Function x kind.Static domain codomain table ∷ items) = let rest = fewer_functions (suc k) items in omega (arith, rest)
  fewer_functions k (source.Derived x xs t ∷ items) = let rest = fewer_functions (suc k) items in omega (arith, rest)
  fewer_functions k (source.NamedRule x xs P ∷ items) = fewer_functions (suc k) items

  functions_few : length (filter_map (function_given spec) spec.items) ≤ MAX_FUNCTIONS
  functions_few =
      let all : total is_function (λ m. 1) (first_declarations spec) ≡ length (declared_like is_function (declarations_from 0 spec.items)) =
      total_ones is_function (first_declarations spec) ∙ ap length (all_like spec good is_function refl) in
      let most = (limits_hold spec good).functions in
      let fewer = fewer_functions 0 spec.items in
      omega (arith, all, most, fewer)

pub signature_fits : SignatureFits
unfolding shape_of
signature_fits spec good = record {
  few_universes = universes_few spec good;
  few_values = values_few spec good;
  few_functions = functions_few spec good;
  domains = each_function spec (λ f. IsDomainOf (map (λ d. universe_values spec d.meaning) (universes_of spec)) f.domain) (domain_fits spec good);
  few_locations = locations_few spec good;
  few_static_lists = statics_few spec good;
  tables = each_function spec (λ f. IsTableOf (domain_in (map (λ d. universe_values spec d.meaning) (universes_of spec)) f.domain) f.table) (table_fits spec good);
}
