-- Free. How many locations, and argument lists of static functions, the signature has.
use Rattle.std.proofs.Common.{◌≡◌, ℕ, suc, ◌+◌, ◌≤◌, Bool, false, cond, List, [], ◌∷◌, ◌++◌, map, length, Option, refl, ap, ◌∙◌, arith}
use Rattle.std.specs.Prelude.{Contains, filter, filter_map, sum_by, flat_map}
use Rattle.std.specs.List.{enumerate_from}
use Rattle.std.proofs.lemmas.List.{length-append, map-append}
use Rattle.std.proofs.lemmas.List.Elements.{filter-append}
use Rattle.std.proofs.lemmas.List.Sums.{sum_by-append, sum_by-cons}
use Rattle.asm_state.specs.declared.signature_limits.TheConstants.{MAX_LOCATIONS, MAX_STATIC_LISTS}
use Rattle.asm_state.proofs.Lists.{Contains-first, Contains-later}
use Rattle.asm_state.specs.SignatureLimits.{static_lists}
use Rattle.asm_state.specs.Signature.{domain_in, function_locations}
use Rattle.asm_state.specs.Tables.{argument_lists}
use Rattle.asm_state.proofs.LocationLemmas.NumberedLocations.{number_laws}
use Rattle.asm_state.specs.declared.function.FunctionKind.{FunctionKind}
use Rattle.asm_state.specs.declared.function.FunctionKind.TheVariants as kind
use Rattle.asm_syntax.specs.SourceTree as source
use Rattle.asm_syntax.specs.SourceTree.{Name, Given, Item, Spec}
use Rattle.asm_check.specs.Names.{Declaration, Meaning, Element, declarations_of, declarations_from, first_declarations}
use Rattle.asm_check.specs.Faults.{IsWellFormed}
use Rattle.asm_check.specs.Limits.{is_controlled, is_static, domain_of, lists_of}
use Rattle.asm_check.specs.Numbers.{universes_of}
use Rattle.asm_check.specs.Shapes.{texts_of, domain_by, function_given}
use Rattle.asm_check.specs.WithinLimits.{total}
use Rattle.asm_check.proofs.NumberLemmas.Domains.{given_by, values_of, lists_are, short_domain}
use Rattle.asm_check.proofs.NameLemmas.ItemLists.{element_declarations}
use Rattle.asm_check.proofs.LimitLemmas.Sizes.{limits_hold}
use Rattle.asm_check.proofs.NameLemmas.DeclaredOnce.{all_count}

total_more : (is_counted : Meaning → Bool) (adds : Meaning → ℕ) (cs ds : List Declaration) → total is_counted adds (cs ++ ds) ≡ total is_counted adds cs + total is_counted adds ds
total_more is_counted adds cs ds =
    ap (sum_by adds) (ap (filter is_counted) (map-append (λ c. c.meaning) cs ds) ∙ filter-append is_counted (map (λ c. c.meaning) cs) (map (λ c. c.meaning) ds))
    ∙ sum_by-append adds (filter is_counted (map (λ c. c.meaning) cs)) (filter is_counted (map (λ c. c.meaning) ds))

total_elements : (is_counted : Meaning → Bool) (adds : Meaning → ℕ) (k : ℕ) (xs : List Name) → is_counted (Element k) ≡ false → total is_counted adds (element_declarations k xs) ≡ 0
total_elements is_counted adds k [] out = refl
total_elements is_counted adds k (x ∷ xs) out =
    let rest : List Meaning = filter is_counted (map (λ c. c.meaning) (element_declarations k xs)) in
    ap (λ b. sum_by adds (cond b (Element k ∷ rest) rest)) out ∙ total_elements is_counted adds k xs out

module _ (spec : Spec) (good : IsWellFormed spec) where
  abbrev held : Meaning → ℕ
  held m = lists_of spec (domain_of m) + 1

  abbrev lists : Meaning → ℕ
  lists m = lists_of spec (domain_of m)

  abbrev AreCounted : List Item → Type 0
  AreCounted items = (x : Name) (how : FunctionKind) (domain : List Name) (codomain : Option Name) (table : Option Given) → Contains items (source.Function x how domain codomain table)
      → length (argument_lists (domain_in (values_of spec good) (domain_by (texts_of (universes_of spec)) domain))) ≡ lists_of spec domain

  later : (item : Item) (items : List Item) → AreCounted (item ∷ items) → AreCounted items
  later item items counted x how domain codomain table it = counted x how domain codomain table (Contains-later item items (source.Function x how domain codomain table) it)

  held_next : (k : ℕ) (item : Item) (items : List Item) → total is_controlled held (declarations_from k (item ∷ items)) ≡ total is_controlled held (declarations_of k item) + total is_controlled held (declarations_from (suc k) items)
  held_next k item items = total_more is_controlled held (declarations_of k item) (declarations_from (suc k) items)

  static_next : (k : ℕ) (item : Item) (items : List Item) → total is_static lists (declarations_from k (item ∷ items)) ≡ total is_static lists (declarations_of k item) + total is_static lists (declarations_from (suc k) items)
  static_next k item items = total_more is_static lists (declarations_of k item) (declarations_from (suc k) items)

  abbrev locations_from : ℕ → List Item → ℕ
  locations_from f items = length (flat_map (function_locations (values_of spec good)) (enumerate_from f (filter_map (function_given spec) items)))

  pub count_locations : (f k : ℕ) (items : List Item) → AreCounted items → locations_from f items ≡ total is_controlled held (declarations_from k items)
  count_locations f k [] counted = refl
  count_locations f k (source.Uses x ∷ items) counted = count_locations f (suc k) items (later (source.Uses x) items counted)
  count_locations f k (source.Init x ∷ items) counted = count_locations f (suc k) items (later (source.Init x) items counted)
  count_locations f k (source.Enum x xs ∷ items) counted =
      let rest = count_locations f (suc k) items (later (source.Enum x xs) items counted) in
      let next = held_next k (source.Enum x xs) items in
      let none : total is_controlled held (declarations_of k (source.Enum x xs)) ≡ 0 = total_elements is_controlled held k xs refl in
      omega (arith, rest, next, none)
  count_locations f k (source.Universe x first last ∷ items) counted = count_locations f (suc k) items (later (source.Universe x first last) items counted)
  count_locations f k (source.Function x kind.Controlled domain codomain table ∷ items) counted =
      let item : Item = source.Function x kind.Controlled domain codomain table in
      let it = given_by spec kind.Controlled domain table in
      let rest = count_locations (f + 1) (suc k) items (later item items counted) in
      let next = held_next k item items in
      let own : total is_controlled held (declarations_of k item) ≡ lists_of spec domain + 1 = omega arith in
      let many = number_laws.of_function f (domain_in (values_of spec good) (domain_by (texts_of (universes_of spec)) domain)) in
      let is = counted x kind.Controlled domain codomain table (Contains-first item items) in
      let split = length-append (function_locations (values_of spec good) (f, it)) (flat_map (function_locations (values_of spec good)) (enumerate_from (f + 1) (filter_map (function_given spec) items))) in
      split ∙ omega (arith, rest, next, own, many, is)
  count_locations f k (source.Function x kind.Static domain codomain table ∷ items) counted = count_locations (f + 1) (suc k) items (later (source.Function x kind.Static domain codomain table) items counted)
  count_locations f k (source.Derived x xs t ∷ items) counted = count_locations f (suc k) items (later (source.Derived x xs t) items counted)
  count_locations f k (source.NamedRule x xs P ∷ items) counted = count_locations f (suc k) items (later (source.NamedRule x xs P) items counted)

  abbrev statics_in : List Item → ℕ
  statics_in items = sum_by (static_lists (values_of spec good)) (filter_map (function_given spec) items)

  pub count_statics : (k : ℕ) (items : List Item) → AreCounted items → statics_in items ≡ total is_static lists (declarations_from k items)
  count_statics k [] counted = refl
  count_statics k (source.Uses x ∷ items) counted = count_statics (suc k) items (later (source.Uses x) items counted)
  count_statics k (source.Init x ∷ items) counted = count_statics (suc k) items (later (source.Init x) items counted)
  count_statics k (source.Enum x xs ∷ items) counted =
      let rest = count_statics (suc k) items (later (source.Enum x xs) items counted) in
      let next = static_next k (source.Enum x xs) items in
      let none : total is_static lists (declarations_of k (source.Enum x xs)) ≡ 0 = total_elements is_static lists k xs refl in
      omega (arith, rest, next, none)
  count_statics k (source.Universe x first last ∷ items) counted = count_statics (suc k) items (later (source.Universe x first last) items counted)
  count_statics k (source.Function x kind.Controlled domain codomain table ∷ items) counted =
      let rest = count_statics (suc k) items (later (source.Function x kind.Controlled domain codomain table) items counted) in
      let split = sum_by-cons (static_lists (values_of spec good)) (given_by spec kind.Controlled domain table) (filter_map (function_given spec) items) in
      omega (arith, rest, split)
  count_statics k (source.Function x kind.Static domain codomain table ∷ items) counted =
      let item : Item = source.Function x kind.Static domain codomain table in
      let rest = count_statics (suc k) items (later item items counted) in
      let next = static_next k item items in
      let own : total is_static lists (declarations_of k item) ≡ lists_of spec domain = omega arith in
      let is = counted x kind.Static domain codomain table (Contains-first item items) in
      let split = sum_by-cons (static_lists (values_of spec good)) (given_by spec kind.Static domain table) (filter_map (function_given spec) items) in
      split ∙ omega (arith, rest, next, own, is)
  count_statics k (source.Derived x xs t ∷ items) counted = count_statics (suc k) items (later (source.Derived x xs t) items counted)
  count_statics k (source.NamedRule x xs P ∷ items) counted = count_statics (suc k) items (later (source.NamedRule x xs P) items counted)

  all_counted : AreCounted spec.items
  all_counted x how domain codomain table it = lists_are spec good domain (short_domain spec good x how domain codomain table it)

  pub locations_few : locations_from 0 spec.items ≤ MAX_LOCATIONS
  locations_few =
      let all = count_locations 0 0 spec.items all_counted in
      let same : total is_controlled held (first_declarations spec) ≡ total is_controlled held (declarations_from 0 spec.items) = ap (total is_controlled held) (all_count spec good) in
      let few = (limits_hold spec good).locations in
      omega (arith, all, same, few)

  pub statics_few : statics_in spec.items ≤ MAX_STATIC_LISTS
  statics_few =
      let all = count_statics 0 spec.items all_counted in
      let same : total is_static lists (first_declarations spec) ≡ total is_static lists (declarations_from 0 spec.items) = ap (total is_static lists) (all_count spec good) in
      let few = (limits_hold spec good).static_lists in
      omega (arith, all, same, few)
