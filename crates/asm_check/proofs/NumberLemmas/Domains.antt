-- Free. The domains of functions in the signature.
use Rattle.std.proofs.Common.{◌≡◌, ℕ, zero, suc, ◌<◌, ◌≤◌, Bool, true, false, cond, List, [], ◌∷◌, ◌++◌, map, length, take, slice_index_or, All, Option, Some, None, refl, sym, ap, subst, ◌∙◌, arith, inl, inr}
use Rattle.std.specs.Prelude.{Contains, filter, filter_map, find, nat_le}
use Rattle.std.specs.List.{cons_option}
use Rattle.std.specs.Option.{option_map_or}
use Rattle.std.proofs.lemmas.Bool.Decides.{nat_tests}
use Rattle.std.proofs.lemmas.List.{length-map}
use Rattle.std.proofs.lemmas.List.Elements.{All-nil, All-cons, Contains-append_left, Contains-append_right}
use Rattle.asm_state.specs.declared.signature_limits.TheConstants.{MAX_UNIVERSES, MAX_VALUES, MAX_ARGUMENTS}
use Rattle.asm_state.proofs.Lists.{Contains-cons_cases, Contains-first, Contains-later, Contains-map, Contains-none}
use Rattle.asm_state.specs.declared.function.Function as state
use Rattle.asm_state.specs.declared.value.Value.{Value}
use Rattle.asm_state.specs.SignatureLimits.{IsDomainOf}
use Rattle.asm_state.specs.Signature.{domain_in}
use Rattle.asm_state.specs.Tables.{argument_lists}
use Rattle.asm_state.specs.declared.function.FunctionKind.{FunctionKind}
use Rattle.asm_state.specs.declared.function.FunctionKind.TheVariants as kind
use Rattle.asm_syntax.specs.SourceTree as source
use Rattle.asm_syntax.specs.SourceTree.{Name, Given, Item, Spec}
use Rattle.asm_check.specs.Names.{Declaration, AsUniverse, declares, function_of, declarations_of, declarations_from, first_declarations, plain_use, uses_of, uses_of_codomain, uses_of_table}
use Rattle.asm_check.specs.Faults.{IsWellFormed}
use Rattle.asm_check.specs.Limits.{is_universe, size_of, domain_of, allowed_universes, counted_size, lists_of, product}
use Rattle.asm_check.specs.Numbers.{universes_of, elements_of}
use Rattle.asm_check.specs.Shapes.{table_by, index_among, texts_of, domain_by, universe_values, function_given}
use Rattle.asm_check.proofs.NumberLemmas.UniversePositions.{is_named, index_is, at_index, index_inside, all_known, universe_named, length-lists}
use Rattle.asm_check.proofs.LimitLemmas.SmallUniverses.{few_universes, stands_first}
use Rattle.asm_check.proofs.LimitLemmas.Sizes.{limits_hold}
use Rattle.asm_check.proofs.NameLemmas.DeclaredOnce.{all_like}
use Rattle.asm_check.proofs.LimitLemmas.UniverseSizes.{length_values}

-- what holds of the function of each item holds of all functions
pub all_functions : (spec : Spec) (P : state.Function → Type 0) (items : List Item)
    → ((item : Item) (f : state.Function) → Contains items item → function_given spec item ≡ Some f → P f) → All P (filter_map (function_given spec) items)
all_functions spec P [] each = All-nil P
all_functions spec P (item ∷ items) each = go (function_given spec item) refl (all_functions spec P items (λ other f it. each other f (Contains-later item items other it)))
  where
    go : (o : Option state.Function) → function_given spec item ≡ o → All P (filter_map (function_given spec) items) → All P (cons_option o (filter_map (function_given spec) items))
    go None e rest = rest
    go (Some f) e rest = All-cons P f (filter_map (function_given spec) items) (each item f (Contains-first item items) e) rest

function_stands : (k : ℕ) (items : List Item) (x : Name) (how : FunctionKind) (domain : List Name) (codomain : Option Name) (table : Option Given)
    → Contains items (source.Function x how domain codomain table) → Contains (declarations_from k items) (declares x (function_of how domain))
function_stands k [] x how domain codomain table it = absurd (Contains-none (source.Function x how domain codomain table) it)
function_stands k (head ∷ items) x how domain codomain table it =
    elim (Contains-cons_cases head items (source.Function x how domain codomain table) it) [
      | inl e ↦ Contains-append_left (declarations_of k head) (declarations_from (suc k) items) (declares x (function_of how domain))
          (subst (λ i. Contains (declarations_of k i) (declares x (function_of how domain))) (sym e) (Contains-first (declares x (function_of how domain)) []))
      | inr rest ↦ Contains-append_right (declarations_of k head) (declarations_from (suc k) items) (declares x (function_of how domain)) (function_stands (suc k) items x how domain codomain table rest)
    ]

domain_kept : (how : FunctionKind) (domain : List Name) → domain_of (function_of how domain) ≡ domain
domain_kept kind.Controlled domain = refl
domain_kept kind.Static domain = refl

take_all : {X : Type 0} (n : ℕ) (xs : List X) → length xs ≤ n → take n xs ≡ xs
take_all zero [] h = refl
take_all zero (x ∷ xs) h = absurd (omega (arith, h))
take_all (suc n) [] h = refl
take_all (suc n) (x ∷ xs) h = ap (λ ys. x ∷ ys) (take_all n xs (omega (arith, h)))

filter_all : {X : Type 0} (p : X → Bool) (xs : List X) → ((x : X) → Contains xs x → p x ≡ true) → filter p xs ≡ xs
filter_all p [] each = refl
filter_all p (x ∷ xs) each = ap (λ b. cond b (x ∷ filter p xs) (filter p xs)) (each x (Contains-first x xs)) ∙ ap (λ ys. x ∷ ys) (filter_all p xs (λ y it. each y (Contains-later x xs y it)))

filter_within : {X : Type 0} (p : X → Bool) (xs : List X) (x : X) → Contains (filter p xs) x → Contains xs x
filter_within p [] x it = absurd (Contains-none x it)
filter_within p (y ∷ xs) x it =
    elim (p y) as (λ b. Contains (cond b (y ∷ filter p xs) (filter p xs)) x → Contains (y ∷ xs) x) [
      | true ↦ λ c. elim (Contains-cons_cases y (filter p xs) x c) [ inl e ↦ subst (λ z. Contains (y ∷ xs) z) e (Contains-first y xs) | inr rest ↦ Contains-later y xs x (filter_within p xs x rest) ]
      | false ↦ λ c. Contains-later y xs x (filter_within p xs x c)
    ] it

module _ (spec : Spec) (good : IsWellFormed spec) where
  pub function_declared : (x : Name) (how : FunctionKind) (domain : List Name) (codomain : Option Name) (table : Option Given)
      → Contains spec.items (source.Function x how domain codomain table) → Contains (first_declarations spec) (declares x (function_of how domain))
  function_declared x how domain codomain table it = stands_first spec good (declares x (function_of how domain)) (function_stands 0 spec.items x how domain codomain table it)

  pub short_domain : (x : Name) (how : FunctionKind) (domain : List Name) (codomain : Option Name) (table : Option Given)
      → Contains spec.items (source.Function x how domain codomain table) → length domain ≤ MAX_ARGUMENTS
  short_domain x how domain codomain table it =
      let short = (limits_hold spec good).domains (declares x (function_of how domain)) (function_declared x how domain codomain table it) in
      let same = ap length (domain_kept how domain) in
      omega (arith, short, same)

  abbrev pub values_of : List (List Value)
  values_of = map (λ d. universe_values spec d.meaning) (universes_of spec)

  numbers_known : (domain : List Name) → ((u : Name) → Contains domain u → index_among (texts_of (universes_of spec)) u.text < length values_of) → All (λ n. n < length values_of) (domain_by (texts_of (universes_of spec)) domain)
  numbers_known [] each = All-nil (λ n. n < length values_of)
  numbers_known (u ∷ domain) each =
      All-cons (λ n. n < length values_of) (index_among (texts_of (universes_of spec)) u.text) (domain_by (texts_of (universes_of spec)) domain) (each u (Contains-first u domain))
      (numbers_known domain (λ v it. each v (Contains-later u domain v it)))

  index_known : (item : Item) (u : Name) → Contains spec.items item → Contains (uses_of item) (plain_use AsUniverse u) → index_among (texts_of (universes_of spec)) u.text < length values_of
  index_known item u it own =
      let named = universe_named spec u (all_known spec good item (plain_use AsUniverse u) it own) in
      let inside = index_inside (is_named u.text) (universes_of spec) named.declaration named.found in
      let same = index_is (universes_of spec) u.text in
      let long = length-map (universes_of spec) (λ d. universe_values spec d.meaning) in
      omega (arith, inside, same, long)

  used_by : (x : Name) (how : FunctionKind) (domain : List Name) (codomain : Option Name) (table : Option Given) (u : Name) → Contains domain u → Contains (uses_of (source.Function x how domain codomain table)) (plain_use AsUniverse u)
  used_by x how domain codomain table u it =
      Contains-append_left (map (plain_use AsUniverse) domain ++ uses_of_codomain codomain) (uses_of_table table) (plain_use AsUniverse u)
      (Contains-append_left (map (plain_use AsUniverse) domain) (uses_of_codomain codomain) (plain_use AsUniverse u) (Contains-map (plain_use AsUniverse) domain u it))

  pub domain_fits : (x : Name) (how : FunctionKind) (domain : List Name) (codomain : Option Name) (table : Option Given)
      → Contains spec.items (source.Function x how domain codomain table) → IsDomainOf values_of (domain_by (texts_of (universes_of spec)) domain)
  domain_fits x how domain codomain table it = record {
    few = let short = short_domain x how domain codomain table it in let long = length-map domain (λ (u : Name). index_among (texts_of (universes_of spec)) u.text) in omega (arith, short, long);
    known = numbers_known domain (λ u among. index_known (source.Function x how domain codomain table) u it (used_by x how domain codomain table u among));
  }

  -- no universe passes a limit
  all_allowed : allowed_universes spec ≡ universes_of spec
  all_allowed =
      let few = few_universes spec good in
      let same = ap length (all_like spec good is_universe refl) in
      ap (filter (λ d. nat_le (size_of spec d.meaning) MAX_VALUES)) (take_all MAX_UNIVERSES (universes_of spec) (omega (arith, few, same)))
      ∙ filter_all (λ d. nat_le (size_of spec d.meaning) MAX_VALUES) (universes_of spec)
      (λ d it. let small = (limits_hold spec good).elements d (filter_within (λ d. is_universe d.meaning) (first_declarations spec) d it) in grind (arith, nat_tests))

  size_or_none : (o : Option Declaration) → length (option_map_or (λ (d : Declaration). universe_values spec d.meaning) o []) ≡ option_map_or (λ (d : Declaration). size_of spec d.meaning) o 0
  size_or_none None = refl
  size_or_none (Some d) = length_values spec d.meaning

  size_at : (u : Name) → length (slice_index_or values_of (index_among (texts_of (universes_of spec)) u.text) []) ≡ counted_size spec u
  size_at u =
      ap (λ n. length (slice_index_or values_of n [])) (index_is (universes_of spec) u.text)
      ∙ ap length (at_index (is_named u.text) (λ d. universe_values spec d.meaning) (universes_of spec) [])
      ∙ size_or_none (find (is_named u.text) (universes_of spec))
      ∙ ap (λ ds. option_map_or (λ (d : Declaration). size_of spec d.meaning) (find (is_named u.text) ds) 0) (sym all_allowed)

  sizes_at : (domain : List Name) → map (λ n. length (slice_index_or values_of n [])) (domain_by (texts_of (universes_of spec)) domain) ≡ map (counted_size spec) domain
  sizes_at [] = refl
  sizes_at (u ∷ domain) = λ i. size_at u i ∷ sizes_at domain i

  -- a domain has as many argument lists as are counted
  pub lists_are : (domain : List Name) → length domain ≤ MAX_ARGUMENTS → length (argument_lists (domain_in values_of (domain_by (texts_of (universes_of spec)) domain))) ≡ lists_of spec domain
  lists_are domain short =
      let few : nat_le (length domain) MAX_ARGUMENTS ≡ true = grind (arith, nat_tests) in
      length-lists values_of (domain_by (texts_of (universes_of spec)) domain)
      ∙ ap product (sizes_at domain)
      ∙ ap (λ b. cond b (product (map (counted_size spec) domain)) 0) (sym few)

abbrev pub given_by : (spec : Spec) → FunctionKind → List Name → Option Given → state.Function
given_by spec how domain table = record { kind = how; domain = domain_by (texts_of (universes_of spec)) domain; table = table_by (texts_of (elements_of spec)) table }

of_item : (spec : Spec) (P : state.Function → Type 0) (items : List Item)
    → ((x : Name) (how : FunctionKind) (domain : List Name) (codomain : Option Name) (table : Option Given) → Contains items (source.Function x how domain codomain table) → P (given_by spec how domain table))
    → (item : Item) (f : state.Function) → Contains items item → function_given spec item ≡ Some f → P f
of_item spec P items each (source.Function x how domain codomain table) f it is = let same : given_by spec how domain table ≡ f = cc in subst P same (each x how domain codomain table it)
of_item spec P items each (source.Uses x) f it is = cc
of_item spec P items each (source.Init x) f it is = cc
of_item spec P items each (source.Enum x xs) f it is = cc
of_item spec P items each (source.Universe x first last) f it is = cc
of_item spec P items each (source.Derived x xs t) f it is = cc
of_item spec P items each (source.NamedRule x xs P') f it is = cc

pub each_function : (spec : Spec) (P : state.Function → Type 0)
    → ((x : Name) (how : FunctionKind) (domain : List Name) (codomain : Option Name) (table : Option Given) → Contains spec.items (source.Function x how domain codomain table) → P (given_by spec how domain table))
    → All P (filter_map (function_given spec) spec.items)
each_function spec P each = all_functions spec P spec.items (of_item spec P spec.items each)
