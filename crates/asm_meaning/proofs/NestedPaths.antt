-- Free. An exhausted path lies within the path of its rule.
--     rule_within                      of what a rule does
-- A lemma whose name begins with nested_paths- is a clause of that law.
use Rattle.std.proofs.Common.{ℕ, zero, suc, Bool, not, ◌||◌, List, [], ◌∷◌, Option, Some, None, slice_index_or, ◌%◌, length, sym, ◌∙◌, arith, append_assoc, append-nil}
use Rattle.std.specs.Cmp.Lexicographic.{slice_cmp}
use Rattle.std.specs.Ordering.{nat_cmp, is_lt}
use Rattle.asm_state.specs.declared.value.Value.{Value}
use Rattle.asm_state.specs.Location.{State}
use Rattle.asm_state.specs.Updates.{UpdateSet, is_consistent, is_none, fire}
use Rattle.asm_syntax.specs.Tree.{Name, Terms, Rule, Skip, Assign, Call, Par, Seq, If, Let, Forall, Choose, Iterate, Rules, no_rules, rule_then}
use Rattle.asm_reader.specs.ScriptLines.{Script, pick}
use Rattle.asm_meaning.specs.Cases.{all_run}
use Rattle.asm_meaning.specs.Does.{Outcome, Meaning, parts, in_order, part_and, turns_of, turn_and, each, one_of, called, meaning, meanings, does_within, does}
use Rattle.asm_meaning.specs.code.NestedPaths.{IsBehind, Within, Behind, Nests, AllNest}
use Rattle.asm_meaning.specs.Program.{Program, Declared, Universe, Enumerated, Controlled, Static, Derived, NamedRule, declared, Environment, with_value, bind_terms}
use Rattle.asm_meaning.specs.Targets.{answering}
use Rattle.asm_meaning.specs.Value.{value, holds, candidates, universe, nesting}
use Rattle.asm_meaning.specs.Yields.{Path, at, Result, Gives, Exhausted, beside, after}
use Rattle.asm_meaning.proofs.ChoiceLemmas.ScriptedIsFree.{by_test}

-- ---- paths

pub nested_paths-behind_is_within : (p : Path) (k : ℕ) (r : Result) → Behind p k r → Within p r
nested_paths-behind_is_within p k (Gives U) h = tt
nested_paths-behind_is_within p k (Exhausted q) h = record { rest = h.number ∷ h.rest; is = h.is }

-- what is within a descent is behind its number
descent_is_behind : (p : Path) (k : ℕ) (r : Result) → Within (at p k) r → Behind p k r
descent_is_behind p k (Gives U) h = tt
descent_is_behind p k (Exhausted q) h = record { number = k; rest = h.rest; from = omega arith; is = h.is ∙ append_assoc p (k ∷ []) h.rest }

pub nested_paths-descent_is_within : (p : Path) (k : ℕ) (r : Result) → Within (at p k) r → Within p r
nested_paths-descent_is_within p k r h = nested_paths-behind_is_within p k r (descent_is_behind p k r h)

behind_less : (p : Path) (k : ℕ) (r : Result) → Behind p (suc k) r → Behind p k r
behind_less p k (Gives U) h = tt
behind_less p k (Exhausted q) h = record { number = h.number; rest = h.rest; from = let low = h.from in omega arith; is = h.is }

-- ---- results beside each other, and after each other

behind_beside : (p : Path) (k : ℕ) (r s : Result) → Behind p k r → Behind p k s → Behind p k (beside r s)
behind_beside p k (Gives U) (Gives V) h g = tt
behind_beside p k (Gives U) (Exhausted q) h g = g
behind_beside p k (Exhausted q) (Gives V) h g = h
behind_beside p k (Exhausted q) (Exhausted s) h g = by_test (IsBehind p k) (is_lt (slice_cmp nat_cmp s q)) s q (λ _. g) (λ _. h)

within_after : (p : Path) (U : UpdateSet) (r : Result) → Within p r → Within p (after U r)
within_after p U (Gives V) h = tt
within_after p U (Exhausted q) h = h

module _ (p : Path) where
  part_within : (r : Result) (n : ℕ) (rest : UpdateSet → Outcome) → Within p r → ((U : UpdateSet) → Within p (rest U).result) → Within p (part_and r n rest).result
  part_within (Exhausted q) n rest h g = h
  part_within (Gives U) n rest h g = by_test (λ (o : Outcome). Within p o.result) (is_consistent U) _ _ (λ _. within_after p U (rest U).result (g U)) (λ _. tt)

  turn_within : (r : Result) (n : ℕ) (rest : UpdateSet → Outcome) → Within p r → ((U : UpdateSet) → Within p (rest U).result) → Within p (turn_and r n rest).result
  turn_within (Exhausted q) n rest h g = h
  turn_within (Gives U) n rest h g =
      by_test (λ (o : Outcome). Within p o.result) (is_none U || not (is_consistent U)) _ _ (λ _. tt) (λ _. within_after p U (rest U).result (g U))

-- ---- meanings

pub nested_paths-parts : (ms : List Meaning) → AllNest ms → (k : ℕ) (A : State) (e : Environment) (p : Path) → Behind p k (parts ms k A e p).result
nested_paths-parts [] nest k A e p = tt
nested_paths-parts (m ∷ ms) nest k A e p =
    behind_beside p k (m A e (at p k)).result (parts ms (suc k) A e p).result (descent_is_behind p k (m A e (at p k)).result (nest.0 A e (at p k)))
    (behind_less p k (parts ms (suc k) A e p).result (nested_paths-parts ms nest.1 (suc k) A e p))

pub nested_paths-in_order : (ms : List Meaning) → AllNest ms → (k : ℕ) (A : State) (e : Environment) (p : Path) → Within p (in_order ms k A e p).result
nested_paths-in_order [] nest k A e p = tt
nested_paths-in_order (m ∷ ms) nest k A e p =
    part_within p (m A e (at p k)).result (m A e (at p k)).instances (λ U. in_order ms (suc k) (fire A U) e p)
    (nested_paths-descent_is_within p k (m A e (at p k)).result (nest.0 A e (at p k))) (λ U. nested_paths-in_order ms nest.1 (suc k) (fire A U) e p)

pub nested_paths-turns : (m : Meaning) → Nests m → (left t : ℕ) (A : State) (e : Environment) (p : Path) → Within p (turns_of m left t A e p).result
nested_paths-turns m nest zero t A e p = record { rest = []; is = sym (append-nil p) }
nested_paths-turns m nest (suc left) t A e p =
    turn_within p (m A e (at p t)).result (m A e (at p t)).instances (λ U. turns_of m left (suc t) (fire A U) e p)
    (nested_paths-descent_is_within p t (m A e (at p t)).result (nest A e (at p t))) (λ U. nested_paths-turns m nest left (suc t) (fire A U) e p)

pub nested_paths-elements : (p : Path) (m : Value → ℕ → Outcome) (test : Value → Bool) → ((v : Value) (k : ℕ) → Within (at p k) (m v k).result) → (k : ℕ) (vs : List Value)
    → Behind p k (each m test k vs).result
nested_paths-elements p m test nest k [] = tt
nested_paths-elements p m test nest k (v ∷ vs) =
    let more = behind_less p k (each m test (suc k) vs).result (nested_paths-elements p m test nest (suc k) vs) in
    by_test (λ (o : Outcome). Behind p k o.result) (test v) _ _
    (λ _. behind_beside p k (m v k).result (each m test (suc k) vs).result (descent_is_behind p k (m v k).result (nest v k)) more)
    (λ _. more)

pub nested_paths-one_of : (p : Path) (n : ℕ) (vs : List Value) (m : Value → Outcome) (other : Outcome) → ((v : Value) → Within p (m v).result) → Within p other.result
    → Within p (one_of n vs m other).result
nested_paths-one_of p n [] m other nest none = none
nested_paths-one_of p n (v ∷ vs) m other nest none = nest (slice_index_or (v ∷ vs) (n % length (v ∷ vs)) v)

-- ---- rules

module _ (program : Program) (turns : ℕ) (chosen : Path → ℕ) (body : Rule → Meaning) (nest : (P : Rule) → Nests (body P)) where
  called_within : (d : Option Declared) (to : Option (Name × Terms)) (ts : Terms) → Nests (called program turns chosen body d to ts)
  called_within None to ts A e p = tt
  called_within (Some (Universe vs)) to ts A e p = tt
  called_within (Some (Enumerated v)) to ts A e p = tt
  called_within (Some (Controlled f domain)) to ts A e p = tt
  called_within (Some (Static domain table)) to ts A e p = tt
  called_within (Some (Derived xs t)) to ts A e p = tt
  called_within (Some (NamedRule xs P)) to ts A e p =
      nested_paths-descent_is_within p 0 (body P A (answering program A e to (bind_terms xs ts e)) (at p 0)).result (nest P A (answering program A e to (bind_terms xs ts e)) (at p 0))

  abbrev means : Rule → Meaning
  means = meaning program turns chosen body

  mutual
    unfolding meaning

    rule_nests : (R : Rule) → Nests (means R)
    rule_nests Skip A e p = tt
    rule_nests (Assign f ts t) A e p = tt
    rule_nests (Call to f ts) A e p = called_within (declared program f) to ts A e p
    rule_nests (Par Ps) A e p = nested_paths-behind_is_within p 0 (parts (meanings program turns chosen body Ps) 0 A e p).result (nested_paths-parts (meanings program turns chosen body Ps) (all_nest Ps) 0 A e p)
    rule_nests (Seq Ps) A e p = nested_paths-in_order (meanings program turns chosen body Ps) (all_nest Ps) 0 A e p
    rule_nests (If t P Q) A e p =
        by_test (λ (o : Outcome). Within p o.result) (holds program A e (Some t)) _ _
        (λ _. nested_paths-descent_is_within p 0 (means P A e (at p 0)).result (rule_nests P A e (at p 0)))
        (λ _. nested_paths-descent_is_within p 1 (means Q A e (at p 1)).result (rule_nests Q A e (at p 1)))
    rule_nests (Let x t P) A e p = nested_paths-descent_is_within p 0 _ (rule_nests P A (with_value x (value program A e t) e) (at p 0))
    rule_nests (Forall x u t P) A e p =
        nested_paths-behind_is_within p 0 _ (nested_paths-elements p (λ v k. means P A (with_value x v e) (at p k)) (λ v. holds program A (with_value x v e) t)
        (λ v k. rule_nests P A (with_value x v e) (at p k)) 0 (universe program u))
    rule_nests (Choose x u t P Q) A e p =
        nested_paths-one_of p (chosen p) (candidates program A e x u t) (λ v. means P A (with_value x v e) (at p 0)) (means Q A e (at p 1))
        (λ v. nested_paths-descent_is_within p 0 (means P A (with_value x v e) (at p 0)).result (rule_nests P A (with_value x v e) (at p 0)))
        (nested_paths-descent_is_within p 1 (means Q A e (at p 1)).result (rule_nests Q A e (at p 1)))
    rule_nests (Iterate P) A e p = nested_paths-turns (means P) (rule_nests P) turns 0 A e p

    all_nest : (Ps : Rules) → AllNest (meanings program turns chosen body Ps)
    all_nest no_rules = tt
    all_nest (rule_then P Ps) = (rule_nests P, all_nest Ps)

within_depth : (program : Program) (turns : ℕ) (chosen : Path → ℕ) (n : ℕ) (R : Rule) → Nests (does_within program turns chosen n R)
unfolding does_within
within_depth program turns chosen zero R = rule_nests program turns chosen _ (λ P A e p. tt) R
within_depth program turns chosen (suc n) R = rule_nests program turns chosen (does_within program turns chosen n) (within_depth program turns chosen n) R

module _ (program : Program) (turns : ℕ) (script : Script) (step : ℕ) where
  pub rule_within : (A : State) (e : Environment) (p : Path) (R : Rule) → Within p (does program turns script step A e p R).result
  unfolding does
  rule_within A e p R = within_depth program turns (pick script step) nesting R A e p

  pub all_within : (Ps : Rules) → AllNest (all_run program turns script step Ps)
  all_within no_rules = tt
  all_within (rule_then P Ps) = (λ A e p. rule_within A e p P, all_within Ps)
