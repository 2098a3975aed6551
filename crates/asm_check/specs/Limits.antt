-- Definition. The limits of what a specification declares.
use Rattle.std.specs.Prelude.{◌≡◌, ◌<◌, ℕ, suc, ◌+◌, ◌*◌, ℤ, ◌-ℤ◌, nat_abs, int_le, nat_eq, nat_le, Bool, true, false, cond, List, [], ◌∷◌, ◌++◌, map, length, take, filter, find, count_by, sum_by}
use Rattle.std.specs.Option.{option_map_or}
use Rattle.asm_state.specs.declared.signature_limits.TheConstants.{MAX_UNIVERSES, MAX_VALUES, MAX_FUNCTIONS, MAX_ARGUMENTS, MAX_LOCATIONS, MAX_STATIC_LISTS}
use Rattle.asm_syntax.specs.SourceTree.{Name, Spec}
use Rattle.asm_check.specs.declared.cycles.step_faults.TheConstants.{MAX_RANK}
use Rattle.asm_check.specs.declared.limits.limit_faults.TheConstants.{MAX_RULES}
use Rattle.asm_check.specs.Names.{Declaration, Meaning, Range, Enumeration, Element, Controlled, Static, Derived, NamedRule, first_declarations, is_text}
use Rattle.asm_check.specs.CallGraph.{called, used, ReachesCycle, BeginsPath}

abbrev pub is_universe : Meaning → Bool
is_universe (Range first last) = true
is_universe (Enumeration k) = true
is_universe m = false

abbrev pub is_controlled : Meaning → Bool
is_controlled (Controlled domain) = true
is_controlled m = false

abbrev pub is_static : Meaning → Bool
is_static (Static domain) = true
is_static m = false

abbrev pub is_function : Meaning → Bool
is_function (Controlled domain) = true
is_function (Static domain) = true
is_function (Derived xs t) = true
is_function m = false

abbrev pub is_rule : Meaning → Bool
is_rule (NamedRule xs P) = true
is_rule m = false

abbrev pub is_element_of : ℕ → Meaning → Bool
is_element_of k (Element j) = nat_eq k j
is_element_of k m = false

abbrev pub domain_of : Meaning → List Name
domain_of (Controlled domain) = domain
domain_of (Static domain) = domain
domain_of m = []

abbrev pub range_size : ℤ → ℤ → ℕ
range_size first last = cond (int_le first last) (nat_abs (last -ℤ first) + 1) 0

abbrev pub product : List ℕ → ℕ
product [] = 1
product (n ∷ ns) = n * product ns

module _ (spec : Spec) where
  -- how many elements a universe has. An element that is declared before counts for none.
  abbrev pub size_of : Meaning → ℕ
  size_of (Range first last) = range_size first last
  size_of (Enumeration k) = count_by (λ d. is_element_of k d.meaning) (first_declarations spec)
  size_of m = 0

  -- the universes that pass no limit
  abbrev pub allowed_universes : List Declaration
  allowed_universes = filter (λ d. nat_le (size_of d.meaning) MAX_VALUES) (take MAX_UNIVERSES (filter (λ d. is_universe d.meaning) (first_declarations spec)))

  -- the size that is counted: of all others, none
  abbrev pub counted_size : Name → ℕ
  counted_size x = option_map_or (λ d. size_of d.meaning) (find (λ d. is_text d.name.text x.text) allowed_universes) 0

  -- how many argument lists a domain has
  abbrev pub lists_of : List Name → ℕ
  lists_of domain = cond (nat_le (length domain) MAX_ARGUMENTS) (product (map counted_size domain)) 0

  -- The declaration is counted, and the total up to and with it is above the limit.
  abbrev pub Passes : (most : ℕ) → (is_counted : Meaning → Bool) → (adds : Meaning → ℕ) → (before : List Declaration) → Declaration → Type 0
  Passes most is_counted adds before d = (is_counted d.meaning ≡ true) × (most < sum_by adds (filter is_counted (map (λ c. c.meaning) (before ++ d ∷ []))))

  -- the limit that a declaration after these others passes
  pub data PassesLimit (before : List Declaration) (d : Declaration) : Type 0 where
    universes : Passes MAX_UNIVERSES is_universe (λ m. 1) before d → PassesLimit before d
    elements : MAX_VALUES < size_of d.meaning → PassesLimit before d
    functions : Passes MAX_FUNCTIONS is_function (λ m. 1) before d → PassesLimit before d
    domain : MAX_ARGUMENTS < length (domain_of d.meaning) → PassesLimit before d
    locations : Passes MAX_LOCATIONS is_controlled (λ m. lists_of (domain_of m) + 1) before d → PassesLimit before d
    static_lists : Passes MAX_STATIC_LISTS is_static (λ m. lists_of (domain_of m)) before d → PassesLimit before d
    rules : Passes MAX_RULES is_rule (λ m. 1) before d → PassesLimit before d
    rule_rank : BeginsPath (called spec) (suc MAX_RANK) d.name.text → ¬ (ReachesCycle (called spec) d.name.text) → PassesLimit before d
    derived_rank : BeginsPath (used spec) (suc MAX_RANK) d.name.text → ¬ (ReachesCycle (used spec) d.name.text) → PassesLimit before d
