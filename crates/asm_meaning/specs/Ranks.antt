-- Definition. Ranks, which fall with each call.
--     CallsBelow program rank n R      each rule that R calls is declared, and has a rank below n
--     IsRanked program rank            each rule calls only rules of lower rank
--     UsesBelow program rank n t bound, AreDerivedRanked program rank
--                                      the same of derived functions in terms
use Rattle.std.specs.Prelude.{◌≡◌, ℕ, ◌<◌, Bool, false, List, Some}
use Rattle.std.specs.List.{list_any}
use Rattle.asm_syntax.specs.Tree.{Name, Term, Terms, Links, Rule, Rules}
use Rattle.asm_syntax.specs.CallsAndUses.{CallsOnly, EachCallsOnly, UsesOnly, EachUsesOnly, LinksUseOnly}
use Rattle.asm_meaning.specs.Program.{Program, NamedRule, Derived, declared, is_name}

module _ (program : Program) (rank : Name → ℕ) (n : ℕ) where
  pub record IsCallable (f : Name) : Type 0 where
    pub parameters : List Name
    pub body : Rule
    pub is_declared : declared program f ≡ Some (NamedRule parameters body)
    pub is_below : rank f < n

  abbrev pub CallsBelow : Rule → Type 0
  CallsBelow R = CallsOnly IsCallable R

  abbrev pub EachCallsBelow : Rules → Type 0
  EachCallsBelow Ps = EachCallsOnly IsCallable Ps

abbrev pub IsRanked : Program → (Name → ℕ) → Type 0
IsRanked program rank =
    (f : Name) (xs : List Name) (P : Rule) → declared program f ≡ Some (NamedRule xs P) → CallsBelow program rank (rank f) P

-- ---- derived functions

abbrev pub is_among : List Name → Name → Bool
is_among bound x = list_any (λ y. is_name y x) bound

module _ (program : Program) (rank : Name → ℕ) (n : ℕ) where
  -- a name that isn't bound and is a derived function has a rank below n
  abbrev pub IsUsable : List Name → Name → Type 0
  IsUsable bound x = is_among bound x ≡ false → (xs : List Name) (t : Term) → declared program x ≡ Some (Derived xs t) → rank x < n

  abbrev pub UsesBelow : Term → (bound : List Name) → Type 0
  UsesBelow t bound = UsesOnly IsUsable t bound

  abbrev pub EachUsesBelow : Terms → (bound : List Name) → Type 0
  EachUsesBelow ts bound = EachUsesOnly IsUsable ts bound

  abbrev pub LinksUseBelow : Links → (bound : List Name) → Type 0
  LinksUseBelow links bound = LinksUseOnly IsUsable links bound

-- each derived function uses only those of lower rank
abbrev pub AreDerivedRanked : Program → (Name → ℕ) → Type 0
AreDerivedRanked program rank =
    (f : Name) (xs : List Name) (t : Term) → declared program f ≡ Some (Derived xs t) → UsesBelow program rank (rank f) t xs
