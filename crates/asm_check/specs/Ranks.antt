-- Definition. Ranks, which fall with each call of a rule, and with each use of a derived function.
--     IsCallable spec rank n f            the rule f is declared and has a rank below n
--     IsUsable spec rank n bound x        x is bound, or is no derived function, or has a rank
--                                         below n
--     HasRanks spec                       the heights of calls and uses are such ranks, and within
--                                         the limit
use Rattle.std.specs.Prelude.{◌≡◌, ℕ, suc, ◌<◌, ◌≤◌, false, List, map, Some}
use Rattle.asm_syntax.specs.SourceTree.{Name, Term, Rule, Spec}
use Rattle.asm_syntax.specs.PlainTree.{plain_term, plain_rule}
use Rattle.asm_syntax.specs.CallsAndUses.{CallsOnly, UsesOnly}
use Rattle.asm_check.specs.declared.cycles.step_faults.TheConstants.{MAX_RANK}
use Rattle.asm_check.specs.Names.{Text, NamedRule, Derived, declared, is_among, text_of}
use Rattle.asm_check.specs.CallGraph.{called, used, height}

module _ (spec : Spec) (rank : Text → ℕ) (n : ℕ) where
  pub record IsCallable (f : Text) : Type 0 where
    pub parameters : List Name
    pub body : Rule
    pub is_declared : declared spec f ≡ Some (NamedRule parameters body)
    pub is_below : rank f < n

  -- a name that isn't bound and is a derived function has a rank below n
  abbrev pub IsUsable : List Text → Text → Type 0
  IsUsable bound x = is_among bound x ≡ false → (xs : List Name) (t : Term) → declared spec x ≡ Some (Derived xs t) → rank x < n

-- each rule calls only rules of lower rank
abbrev pub AreRulesRanked : Spec → (Text → ℕ) → Type 0
AreRulesRanked spec rank =
    (f : Text) (xs : List Name) (P : Rule) → declared spec f ≡ Some (NamedRule xs P) → CallsOnly (IsCallable spec rank (rank f)) (plain_rule P)

-- each derived function uses only those of lower rank
abbrev pub AreDerivedRanked : Spec → (Text → ℕ) → Type 0
AreDerivedRanked spec rank =
    (f : Text) (xs : List Name) (t : Term) → declared spec f ≡ Some (Derived xs t) → UsesOnly (IsUsable spec rank (rank f)) (plain_term t) (map text_of xs)

-- No way is longer than the limit, so the height up to one more is the whole height.
unfoldable pub rule_rank : Spec → Text → ℕ
rule_rank spec = height (called spec) (suc MAX_RANK)

unfoldable pub derived_rank : Spec → Text → ℕ
derived_rank spec = height (used spec) (suc MAX_RANK)

pub record HasRanks (spec : Spec) : Type 0 where
  pub rules : AreRulesRanked spec (rule_rank spec)
  pub rules_low : (f : Text) → rule_rank spec f ≤ MAX_RANK
  pub derived : AreDerivedRanked spec (derived_rank spec)
  pub derived_low : (f : Text) → derived_rank spec f ≤ MAX_RANK
