-- Definition. Calls of rules and uses of derived functions, as ways from name to name.
--     called spec f, used spec f     the rules that the body of the rule f calls;  the derived
--                                    functions that the body of f uses
--     LeadsTo next f g               one or more steps lead from f to g
--     IsAcyclic next f               each way from f on ends
--     BeginsPath next n f            there is a way of n steps from f on
--     height next n f                the length of the longest way from f on, up to n
use Rattle.std.specs.Prelude.{◌≡◌, ◌⊎◌, ℕ, zero, suc, max, Bool, true, false, List, [], ◌∷◌, map, filter, Contains, Option, Some}
use Rattle.asm_syntax.specs.SourceTree.{Spec}
use Rattle.asm_check.specs.Names.{Text, Meaning, Derived, NamedRule, Role, InTerm, AsRule, AsAnswering, Use, uses_of_term, uses_of_rule, rule_scope, declared, text_of}

-- a call of a rule
abbrev pub is_call : Role → Option Meaning → Bool
is_call AsRule (Some (NamedRule xs P)) = true
is_call AsAnswering (Some (NamedRule xs P)) = true
is_call role m = false

-- an unbound derived function in a term
abbrev pub is_use : Role → Bool → Option Meaning → Bool
is_use InTerm false (Some (Derived xs t)) = true
is_use role b m = false

module _ (spec : Spec) where
  abbrev pub calls_in : Option Meaning → List Use
  calls_in (Some (NamedRule xs P)) = filter (λ u. is_call u.role (declared spec u.name.text)) (uses_of_rule P (rule_scope xs))
  calls_in m = []

  abbrev pub uses_in : Option Meaning → List Use
  uses_in (Some (Derived xs t)) = filter (λ u. is_use u.role u.is_bound (declared spec u.name.text)) (uses_of_term t (map text_of xs))
  uses_in m = []

  unfoldable pub called : Text → List Text
  called f = map (λ u. u.name.text) (calls_in (declared spec f))

  unfoldable pub used : Text → List Text
  used f = map (λ u. u.name.text) (uses_in (declared spec f))

abbrev pub greatest : List ℕ → ℕ
greatest [] = 0
greatest (n ∷ ns) = max n (greatest ns)

module _ {A : Type 0} (next : A → List A) where
  pub data LeadsTo : A → A → Type 0 where
    at_once : {f g : A} → Contains (next f) g → LeadsTo f g
    by_way_of : {f h : A} → (g : A) → Contains (next f) g → LeadsTo g h → LeadsTo f h

  -- A cycle is reached from f.
  abbrev pub ReachesCycle : A → Type 0
  ReachesCycle f = (g : A) × ((f ≡ g) ⊎ LeadsTo f g) × LeadsTo g g

  pub data IsAcyclic : A → Type 0 where
    settled : {f : A} → ((g : A) → Contains (next f) g → IsAcyclic g) → IsAcyclic f

  abbrev pub BeginsPath : ℕ → A → Type 0
  BeginsPath zero f = Unit {0}
  BeginsPath (suc n) f = (g : A) × Contains (next f) g × BeginsPath n g

  unfoldable pub height : ℕ → A → ℕ
  height zero f = 0
  height (suc n) f = greatest (map (λ g. suc (height n g)) (next f))
