-- Free. Every scripted result is one that the rule may yield.
use Rattle.std.proofs.Common.{◌≡◌, ◌≢◌, ℕ, zero, suc, ◌%◌, ◌<◌, Bool, true, false, not, cond, ◌||◌, List, [], ◌∷◌, length, Option, Some, slice_get, refl, sym, ap, subst, ◌∙◌, arith, ◌⊎◌, inl, inr}
use Rattle.std.specs.List.{slice_index_or}
use Rattle.std.proofs.lemmas.Option.{slice_get-get_or}
use Rattle.std.proofs.lemmas.Nat.{mod_below}
use Rattle.std.proofs.lemmas.Bool.Decides.{not_from_Decides}
use Rattle.asm_state.specs.declared.value.Value.{Value}
use Rattle.asm_state.specs.Location.{State}
use Rattle.asm_state.specs.Updates.{UpdateSet, IsConsistent, is_consistent, is_none, none, fire}
use Rattle.asm_state.proofs.UpdateLemmas.Updates.{test_laws}
use Rattle.asm_syntax.specs.Tree.{Name, Term, Rule, Skip, Assign, Call, Par, Seq, If, Let, Forall, Choose, Iterate, Rules, no_rules, rule_then}
use Rattle.asm_meaning.specs.Program.{Program, NamedRule, declared, Environment, with_value, bind_terms}
use Rattle.asm_meaning.specs.Targets.{answering}
use Rattle.asm_meaning.specs.Value.{value, holds, candidates, universe, nesting}
use Rattle.asm_meaning.specs.Yields.{Path, at, Result, Gives, Exhausted, beside, all_beside, Yields, YieldsParts, YieldsInOrder, YieldsEach, YieldsTurns, skip, assign, call, par, seq, if_true, if_false, bind, forall, choose, if_none, iterate, no_part, part_then, end, faulty, exhausted, go_on, no_element, left_out, element_then, turn_limit, last_turn, exhausted_turn, turn_then}
use Rattle.asm_reader.specs.ScriptLines.{pick}
use Rattle.asm_meaning.specs.Does.{does, Outcome, Meaning, meaning, meanings, parts, in_order, part_and, turn_and, each, one_of, turns_of, called, does_within}
use Rattle.asm_meaning.specs.LawOfChoice.{ScriptedIsFree}
use Rattle.asm_meaning.specs.Ranks.{CallsBelow, EachCallsBelow, IsRanked}
use Rattle.asm_meaning.proofs.CallsAndUses.{lower}

-- a turn ends the iteration if its set is empty or inconsistent
ends : (U : UpdateSet) → (is_none U || not (is_consistent U)) ≡ true → (U ≡ none) ⊎ (¬ (IsConsistent U))
ends U h =
    elim (is_none U) as (λ b. is_none U ≡ b → (b || not (is_consistent U)) ≡ true → (U ≡ none) ⊎ (¬ (IsConsistent U))) [
      | true ↦ λ e _. inl ((test_laws.emptiness U).0 e)
      | false ↦ λ _ rest. inr (not_from_Decides (is_consistent U) (test_laws.consistency U) (was_false _ rest))
    ] refl h
  where
    was_false : (b : Bool) → not b ≡ true → b ≡ false
    was_false b e = grind arith

-- and goes on otherwise
goes_on : (U : UpdateSet) → (is_none U || not (is_consistent U)) ≡ false → (U ≢ none) × IsConsistent U
goes_on U h = (
  not_from_Decides (is_none U) (test_laws.emptiness U) (first_false _ _ h),
  (test_laws.consistency U).0 (second_true _ _ h),
)
  where
    first_false : (a b : Bool) → (a || not b) ≡ false → a ≡ false
    first_false a b e = grind arith

    second_true : (a b : Bool) → (a || not b) ≡ false → b ≡ true
    second_true a b e = grind arith

-- what holds of both sides of a test holds of its value
pub by_test : {X : Type 0} (P : X → Type 0) (b : Bool) (x y : X) → (b ≡ true → P x) → (b ≡ false → P y) → P (cond b x y)
by_test P true x y f g = f refl
by_test P false x y f g = g refl

module _ (program : Program) (turns : ℕ) where
  -- one part of a sequence
  part_step : {A : State} {e : Environment} {p : Path} {k : ℕ} {P : Rule} {Ps : Rules} (r : Result) (n : ℕ) (rest : UpdateSet → Outcome)
      → Yields program turns A e (at p k) P r
      → ((U : UpdateSet) → YieldsInOrder program turns (fire A U) e p (suc k) Ps (rest U).result)
      → YieldsInOrder program turns A e p k (rule_then P Ps) (part_and r n rest).result
  part_step (Exhausted q) n rest y ys = exhausted y
  part_step {A} {e} {p} {k} {P} {Ps} (Gives U) n rest y ys =
      by_test (λ (o : Outcome). YieldsInOrder program turns A e p k (rule_then P Ps) o.result) (is_consistent U) _ _
      (λ h. go_on y ((test_laws.consistency U).0 h) (ys U))
      (λ h. faulty y (not_from_Decides (is_consistent U) (test_laws.consistency U) h))

  -- one turn of an iteration
  turn_step : {A : State} {e : Environment} {p : Path} {t left : ℕ} {P : Rule} (r : Result) (n : ℕ) (rest : UpdateSet → Outcome)
      → Yields program turns A e (at p t) P r
      → ((U : UpdateSet) → YieldsTurns program turns (fire A U) e p (suc t) left P (rest U).result)
      → YieldsTurns program turns A e p t (suc left) P (turn_and r n rest).result
  turn_step (Exhausted q) n rest y ys = exhausted_turn y
  turn_step {A} {e} {p} {t} {left} {P} (Gives U) n rest y ys =
      by_test (λ (o : Outcome). YieldsTurns program turns A e p t (suc left) P o.result) (is_none U || not (is_consistent U)) _ _
      (λ h. last_turn y (ends U h))
      (λ h. turn_then y (goes_on U h).0 (goes_on U h).1 (ys U))

  turns_yield : {e : Environment} {p : Path} {P : Rule} (m : Meaning)
      → ((A : State) (t : ℕ) → Yields program turns A e (at p t) P (m A e (at p t)).result)
      → (left t : ℕ) (A : State) → YieldsTurns program turns A e p t left P (turns_of m left t A e p).result
  turns_yield m ys zero t A = turn_limit
  turns_yield m ys (suc left) t A = turn_step _ _ _ (ys A t) (λ U. turns_yield m ys left (suc t) (fire A U))

  -- the elements yield results that come to the outcome
  module _ (A : State) (e : Environment) (p : Path) (x : Name) (c : Option Term) (P : Rule) (m : Value → ℕ → Outcome)
      (ys : (v : Value) (k : ℕ) → Yields program turns A (with_value x v e) (at p k) P (m v k).result) where
    each_yield : (k : ℕ) (vs : List Value)
        → (rs : List Result) × YieldsEach program turns A e p x c P k vs rs
        × (all_beside rs ≡ (each m (λ v. holds program A (with_value x v e) c) k vs).result)
    each_yield k [] = ([], no_element, refl)
    each_yield k (v ∷ vs) =
        let rest = each_yield (suc k) vs in
        by_test (λ (o : Outcome). (rs : List Result) × YieldsEach program turns A e p x c P k (v ∷ vs) rs × (all_beside rs ≡ o.result)) (holds program A (with_value x v e) c) _ _
        (λ h. ((m v k).result ∷ rest.0, element_then h (ys v k) rest.1, ap (beside (m v k).result) rest.2))
        (λ h. (rest.0, left_out h rest.1, rest.2))

  -- the candidate that is taken
  choice_yields : (A : State) (e : Environment) (p : Path) (x u : Name) (c : Option Term) (P Q : Rule) (n : ℕ) (m : Value → Outcome) (other : Outcome)
      → ((v : Value) → Yields program turns A (with_value x v e) (at p 0) P (m v).result) → Yields program turns A e (at p 1) Q other.result
      → (cs : List Value) → candidates program A e x u c ≡ cs → Yields program turns A e p (Choose x u c P Q) (one_of n cs m other).result
  choice_yields A e p x u c P Q n m other ys y [] is = if_none is y
  choice_yields A e p x u c P Q n m other ys y (v ∷ vs) is =
      let k : ℕ = n % length (v ∷ vs) in
      choose k (ap (λ cs. slice_get cs k) is ∙ slice_get-get_or (v ∷ vs) k v (mod_below n (length (v ∷ vs)) (omega arith))) (ys (slice_index_or (v ∷ vs) k v))

  module _ (rank : Name → ℕ) (chosen : Path → ℕ) (body : Rule → Meaning) (n : ℕ)
      (bodies : (f : Name) (xs : List Name) (P : Rule) → declared program f ≡ Some (NamedRule xs P) → rank f < n
      → (A : State) (e : Environment) (p : Path) → Yields program turns A e p P (body P A e p).result) where
    abbrev means : Rule → Meaning
    means = meaning program turns chosen body

    mutual
      unfolding meaning

      yields : (R : Rule) → CallsBelow program rank n R → (A : State) (e : Environment) (p : Path) → Yields program turns A e p R (means R A e p).result
      yields Skip c A e p = skip
      yields (Assign f ts t) c A e p = assign
      yields (Call to f ts) c A e p =
          subst (λ d. Yields program turns A e p (Call to f ts) (called program turns chosen body d to ts A e p).result) (sym c.is_declared)
          (call c.is_declared (bodies f c.parameters c.body c.is_declared c.is_below A (answering program A e to (bind_terms c.parameters ts e)) (at p 0)))
      yields (Par Ps) c A e p =
          let all = part_results Ps c A e p 0 in
          subst (Yields program turns A e p (Par Ps)) all.2 (par all.1)
      yields (Seq Ps) c A e p = seq (in_order_yields Ps c A e p 0)
      yields (If t P Q) c A e p =
          by_test (λ (o : Outcome). Yields program turns A e p (If t P Q) o.result) (holds program A e (Some t)) _ _
          (λ h. if_true h (yields P c.0 A e (at p 0)))
          (λ h. if_false h (yields Q c.1 A e (at p 1)))
      yields (Let x t P) c A e p = bind (yields P c A (with_value x (value program A e t) e) (at p 0))
      yields (Forall x u t P) c A e p =
          let all = each_yield A e p x t P (λ v k. means P A (with_value x v e) (at p k)) (λ v k. yields P c A (with_value x v e) (at p k)) 0 (universe program u) in
          subst (Yields program turns A e p (Forall x u t P)) all.2 (forall all.1)
      yields (Choose x u t P Q) c A e p =
          choice_yields A e p x u t P Q (chosen p) (λ v. means P A (with_value x v e) (at p 0)) (means Q A e (at p 1))
          (λ v. yields P c.0 A (with_value x v e) (at p 0)) (yields Q c.1 A e (at p 1)) (candidates program A e x u t) refl
      yields (Iterate P) c A e p = iterate (turns_yield (means P) (λ A t. yields P c A e (at p t)) turns 0 A)

      part_results : (Ps : Rules) → EachCallsBelow program rank n Ps → (A : State) (e : Environment) (p : Path) (k : ℕ)
          → (rs : List Result) × YieldsParts program turns A e p k Ps rs × (all_beside rs ≡ (parts (meanings program turns chosen body Ps) k A e p).result)
      part_results no_rules c A e p k = ([], no_part, refl)
      part_results (rule_then P Ps) c A e p k =
          let rest = part_results Ps c.1 A e p (suc k) in
          let r : Result = (means P A e (at p k)).result in
          (r ∷ rest.0, part_then (yields P c.0 A e (at p k)) rest.1, ap (beside r) rest.2)

      in_order_yields : (Ps : Rules) → EachCallsBelow program rank n Ps → (A : State) (e : Environment) (p : Path) (k : ℕ)
          → YieldsInOrder program turns A e p k Ps (in_order (meanings program turns chosen body Ps) k A e p).result
      in_order_yields no_rules c A e p k = end
      in_order_yields (rule_then P Ps) c A e p k =
          part_step _ _ _ (yields P c.0 A e (at p k)) (λ U. in_order_yields Ps c.1 (fire A U) e p (suc k))

  module _ (rank : Name → ℕ) (ranked : IsRanked program rank) (chosen : Path → ℕ) where
    pub yields_within : (n : ℕ) (R : Rule) → CallsBelow program rank n R → (A : State) (e : Environment) (p : Path)
        → Yields program turns A e p R (does_within program turns chosen n R A e p).result
    unfolding does_within
    yields_within zero R c A e p =
        yields rank chosen _ zero (λ f xs P d below. absurd (omega arith)) R c A e p
    yields_within (suc n) R c A e p =
        yields rank chosen _ (suc n) (λ f xs P d below A e p. yields_within n P (lower program rank (rank f) n (omega arith) P (ranked f xs P d)) A e p) R c A e p

pub scripted_is_free : ScriptedIsFree
unfolding does
scripted_is_free program rank turns script step A e p R ranked c =
    yields_within program turns rank ranked (pick script step) nesting R c A e p
