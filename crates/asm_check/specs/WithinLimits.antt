-- Definition. What is in bounds in a well-formed specification.
use Rattle.std.specs.Prelude.{ℕ, ◌+◌, ◌≤◌, Bool, List, map, length, filter, sum_by, Contains}
use Rattle.asm_state.specs.declared.signature_limits.TheConstants.{MAX_UNIVERSES, MAX_VALUES, MAX_FUNCTIONS, MAX_ARGUMENTS, MAX_LOCATIONS, MAX_STATIC_LISTS}
use Rattle.asm_syntax.specs.SourceTree.{Spec}
use Rattle.asm_check.specs.declared.limits.limit_faults.TheConstants.{MAX_RULES}
use Rattle.asm_check.specs.Names.{Declaration, Meaning, first_declarations}
use Rattle.asm_check.specs.Limits.{is_universe, is_function, is_controlled, is_static, is_rule, size_of, domain_of, lists_of}

-- what the counted ones add together
abbrev pub total : (is_counted : Meaning → Bool) → (adds : Meaning → ℕ) → List Declaration → ℕ
total is_counted adds ds = sum_by adds (filter is_counted (map (λ c. c.meaning) ds))

pub record IsWithinLimits (spec : Spec) : Type 0 where
  pub universes : total is_universe (λ m. 1) (first_declarations spec) ≤ MAX_UNIVERSES
  pub elements : (d : Declaration) → Contains (first_declarations spec) d → size_of spec d.meaning ≤ MAX_VALUES
  pub functions : total is_function (λ m. 1) (first_declarations spec) ≤ MAX_FUNCTIONS
  pub domains : (d : Declaration) → Contains (first_declarations spec) d → length (domain_of d.meaning) ≤ MAX_ARGUMENTS
  pub locations : total is_controlled (λ m. lists_of spec (domain_of m) + 1) (first_declarations spec) ≤ MAX_LOCATIONS
  pub static_lists : total is_static (λ m. lists_of spec (domain_of m)) (first_declarations spec) ≤ MAX_STATIC_LISTS
  pub rules : total is_rule (λ m. 1) (first_declarations spec) ≤ MAX_RULES
