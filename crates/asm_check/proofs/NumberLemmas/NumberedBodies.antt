-- Free. What a well-formed specification has by numbers.
use Rattle.std.proofs.Common.{◌≡◌, ◌≤◌, ℕ, zero, suc, Bool, List, [], ◌∷◌, map, length, Some, sym, subst}
use Rattle.std.specs.Prelude.{Contains}
use Rattle.asm_state.proofs.Lists.{Contains-first, Contains-later}
use Rattle.asm_state.specs.declared.signature_limits.TheConstants.{MAX_ARGUMENTS}
use Rattle.asm_syntax.specs.SourceTree.{Spec}
use Rattle.asm_check.specs.Faults.{IsWellFormed}
use Rattle.asm_check.specs.Laws.{NumberedBodiesAreFit, NumberedDomainsAreFew}
use Rattle.asm_check.specs.Limits.{is_rule, domain_of}
use Rattle.asm_check.specs.Names.{Declaration, Meaning, NamedRule, Derived, Use, text_of, first_declarations, uses, rule_scope}
use Rattle.asm_check.specs.Numbers.{is_table, is_derived, all_of, declared_with_number}
use Rattle.asm_check.proofs.AllFaults.{from_filter}
use Rattle.asm_check.proofs.NameLemmas.FirstOfName.{uses_of_meaning, uses_stand}
use Rattle.asm_check.proofs.UseLemmas.Fit.{rule_fits, term_fits}
use Rattle.asm_check.proofs.LimitLemmas.Sizes.{limits_hold}
use Rattle.asm_check.proofs.NameLemmas.DeclaredOnce.{all_count}

-- what has this number among its like
member_at : (ds : List Declaration) (n : ℕ) (m : Meaning) → declared_with_number ds n ≡ Some m → (d : Declaration) × Contains ds d × (d.meaning ≡ m)
member_at [] n m is = absurd cc
member_at (d ∷ ds) zero m is = let same : d.meaning ≡ m = cc in (d, Contains-first d ds, same)
member_at (d ∷ ds) (suc n) m is = let rest = member_at ds n m is in (rest.0, Contains-later d ds rest.0 rest.1, rest.2)

-- it is a declaration that counts
counted : (spec : Spec) (is_like : Meaning → Bool) (n : ℕ) (m : Meaning) → declared_with_number (all_of is_like spec) n ≡ Some m → (d : Declaration) × Contains (first_declarations spec) d × (d.meaning ≡ m)
counted spec is_like n m is =
    let it = member_at (all_of is_like spec) n m is in
    (it.0, (from_filter (λ (d : Declaration). is_like d.meaning) (first_declarations spec) it.0 it.1).0, it.2)

-- its uses are among those of the specification
numbered_uses : (spec : Spec) → IsWellFormed spec → (is_like : Meaning → Bool) (n : ℕ) (m : Meaning) → declared_with_number (all_of is_like spec) n ≡ Some m
    → (u : Use) → Contains (uses_of_meaning m) u → Contains (uses spec) u
numbered_uses spec good is_like n m is u c =
    let it = counted spec is_like n m is in
    uses_stand spec it.0 (subst (λ ds. Contains ds it.0) (all_count spec good) it.1) u (subst (λ k. Contains (uses_of_meaning k) u) (sym it.2) c)

pub numbered_bodies_are_fit : NumberedBodiesAreFit
numbered_bodies_are_fit spec good = record {
  rules = λ r xs P is. rule_fits spec good P (rule_scope xs) (numbered_uses spec good is_rule r (NamedRule xs P) is);
  derived = λ d xs t is. term_fits spec good t (map text_of xs) (numbered_uses spec good is_derived d (Derived xs t) is);
}

pub numbered_domains_are_few : NumberedDomainsAreFew
numbered_domains_are_few spec good f m is =
    let it = counted spec is_table f m is in
    subst (λ k. length (domain_of k) ≤ MAX_ARGUMENTS) it.2 ((limits_hold spec good).domains it.0 it.1)
