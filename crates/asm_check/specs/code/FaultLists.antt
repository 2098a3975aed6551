-- Bridge to the code. The faults of a specification as lists, as a search meets them. Each is equal
-- as a set to the faults of its numbers.
--     twice_faults    8;  use_faults    9, 10, 11, and 17 of uses;  init_faults    14;
--     limit_faults    15, except ranks;  entry_faults    16;
--     main_rules_with_result    17 of main rules
use Rattle.std.specs.Prelude.{ℕ, ◌+◌, Bool, true, false, not, cond, ◌&&◌, ◌||◌, nat_eq, nat_lt, List, [], ◌∷◌, ◌++◌, map, flat_map, filter, length, sum_by, Option, Some, None}
use Rattle.std.specs.List.{list_any, list_all}
use Rattle.asm_state.specs.declared.signature_limits.TheConstants.{MAX_UNIVERSES, MAX_VALUES, MAX_FUNCTIONS, MAX_ARGUMENTS, MAX_LOCATIONS, MAX_STATIC_LISTS}
use Rattle.asm_syntax.specs.SourceTree as source
use Rattle.asm_syntax.specs.SourceTree.{Name, Entry, Item, Spec}
use Rattle.asm_check.specs.declared.limits.limit_faults.TheConstants.{MAX_RULES}
use Rattle.asm_check.specs.Names.{Text, Declaration, Meaning, Role, AsTarget, AsRule, Use, declarations, first_declarations, declared, uses, is_among, arguments_of, is_assignable, is_result, has_result_in_body, can_be_main, uses_of_entry}
use Rattle.asm_check.specs.Limits.{is_universe, is_function, is_controlled, is_static, is_rule, size_of, domain_of, lists_of}
use Rattle.asm_check.specs.Faults.{parameters_of, is_known_use, inits, table_of, fits_domain, same_arguments}

-- ---- 8

-- the offsets of names that are in the list before
abbrev pub repeats : (before : List Text) → List Name → List ℕ
repeats before [] = []
repeats before (x ∷ xs) = cond (is_among before x.text) (x.at ∷ repeats before xs) (repeats (x.text ∷ before) xs)

abbrev pub at_with : ℕ → List ℕ → List (ℕ × ℕ)
at_with number offsets = map (λ at. (at, number)) offsets

unfoldable pub twice_faults : Spec → List (ℕ × ℕ)
twice_faults spec = at_with 8 (repeats [] (map (λ d. d.name) (declarations spec))) ++ at_with 8 (flat_map (λ item. repeats [] (parameters_of item)) spec.items)

-- ---- 9, 10, 11

abbrev pub miscounts : Option ℕ → ℕ → Bool
miscounts None n = false
miscounts (Some m) n = not (nat_eq n m)

abbrev pub is_target : Role → Bool
is_target AsTarget = true
is_target role = false

-- of a bound name in a term
abbrev pub faults_of_bound : Use → List (ℕ × ℕ)
faults_of_bound u = cond (miscounts (Some 0) u.count) ((u.name.at, 10) ∷ []) []

abbrev pub faults_of_use : Spec → Use → List (ℕ × ℕ)
faults_of_use spec u =
    cond (is_known_use spec u)
    (cond (miscounts (arguments_of u.role u.is_bound (declared spec u.name.text)) u.count) ((u.name.at, 10) ∷ [])
    (cond (is_target u.role && not (is_assignable u.is_bound (declared spec u.name.text))) ((u.name.at, 11) ∷ []) []))
    ((u.name.at, 9) ∷ [])

-- 17: `result` where it isn't bound, or a plain call of a rule with a result
abbrev pub is_plain_call : Role → Bool
is_plain_call AsRule = true
is_plain_call role = false

abbrev pub is_misused : Spec → Use → Bool
is_misused spec u = (is_result u.role && not u.is_bound) || (is_plain_call u.role && has_result_in_body (declared spec u.name.text))

abbrev pub misuse : Spec → Use → List (ℕ × ℕ)
misuse spec u = cond (is_misused spec u) ((u.name.at, 17) ∷ []) []

abbrev pub all_of_use : Spec → Use → List (ℕ × ℕ)
all_of_use spec u = faults_of_use spec u ++ misuse spec u

unfoldable pub use_faults : Spec → List (ℕ × ℕ)
use_faults spec = flat_map (all_of_use spec) (uses spec)

-- ---- 14

abbrev pub unfit_main_rules : Spec → List Name → List Name
unfit_main_rules spec xs = filter (λ x. not (can_be_main (declared spec x.text))) xs

abbrev pub faults_of_inits : Spec → List Name → List (ℕ × ℕ)
faults_of_inits spec [] = (spec.length, 14) ∷ []
faults_of_inits spec (x ∷ more) = at_with 14 (map (λ y. y.at) (unfit_main_rules spec (x ∷ []))) ++ at_with 14 (map (λ y. y.at) more)

unfoldable pub init_faults : Spec → List (ℕ × ℕ)
init_faults spec = faults_of_inits spec (inits spec)

-- ---- 15, except ranks

-- what the counted ones of these add together
abbrev pub total_of : (is_counted : Meaning → Bool) → (adds : Meaning → ℕ) → List Declaration → ℕ
total_of is_counted adds ds = sum_by adds (filter is_counted (map (λ d. d.meaning) ds))

abbrev pub passes : (most : ℕ) → (is_counted : Meaning → Bool) → (adds : Meaning → ℕ) → (before : List Declaration) → Declaration → Bool
passes most is_counted adds before d = is_counted d.meaning && nat_lt most (total_of is_counted adds (before ++ d ∷ []))

abbrev pub passes_limit : Spec → (before : List Declaration) → Declaration → Bool
passes_limit spec before d =
    passes MAX_UNIVERSES is_universe (λ m. 1) before d
    || nat_lt MAX_VALUES (size_of spec d.meaning)
    || passes MAX_FUNCTIONS is_function (λ m. 1) before d
    || nat_lt MAX_ARGUMENTS (length (domain_of d.meaning))
    || passes MAX_LOCATIONS is_controlled (λ m. lists_of spec (domain_of m) + 1) before d
    || passes MAX_STATIC_LISTS is_static (λ m. lists_of spec (domain_of m)) before d
    || passes MAX_RULES is_rule (λ m. 1) before d

abbrev pub limit_faults_from : Spec → (before : List Declaration) → List Declaration → List (ℕ × ℕ)
limit_faults_from spec before [] = []
limit_faults_from spec before (d ∷ ds) = cond (passes_limit spec before d) ((d.name.at, 15) ∷ []) [] ++ limit_faults_from spec (before ++ d ∷ []) ds

unfoldable pub limit_faults : Spec → List (ℕ × ℕ)
limit_faults spec = limit_faults_from spec [] (first_declarations spec)

-- ---- 16

abbrev pub is_bad_entry : Spec → List Name → (before : List Entry) → Entry → Bool
is_bad_entry spec domain before e =
    list_all (is_known_use spec) (uses_of_entry e)
    && (not (fits_domain spec domain e.arguments) || list_any (λ b. same_arguments b.arguments e.arguments) before)

abbrev pub bad_entries : Spec → List Name → (before : List Entry) → List Entry → List (ℕ × ℕ)
bad_entries spec domain before [] = []
bad_entries spec domain before (e ∷ es) = cond (is_bad_entry spec domain before e) ((e.at, 16) ∷ []) [] ++ bad_entries spec domain (before ++ e ∷ []) es

unfoldable pub entry_faults : Spec → List (ℕ × ℕ)
entry_faults spec = flat_map (λ t. bad_entries spec t.0 [] t.1) (flat_map table_of spec.items)

-- ---- 17 of main rules

-- a rule with a result can't be a main rule
abbrev pub main_rule_with_result : Spec → Item → List (ℕ × ℕ)
main_rule_with_result spec (source.Init x) = cond (has_result_in_body (declared spec x.text)) ((x.at, 17) ∷ []) []
main_rule_with_result spec item = []

unfoldable pub main_rules_with_result : Spec → List (ℕ × ℕ)
main_rules_with_result spec = flat_map (main_rule_with_result spec) spec.items
