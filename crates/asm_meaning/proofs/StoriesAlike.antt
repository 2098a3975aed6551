-- Free. Who picks as the story of a rule says has the rule tell just that story.
--     told_alike          the story under another script is the same
use Rattle.std.proofs.Common.{◌≡◌, ◌<◌, ℕ, zero, suc, ◌%◌, Bool, true, false, cond, not, ◌||◌, List, [], ◌∷◌, length, Option, Some, refl, ap, ◌∙◌, arith}
use Rattle.std.specs.Prelude.{slice_index_or}
use Rattle.std.proofs.Math.Nat.{mod-eq_of_lt, mod-lt}
use Rattle.asm_state.specs.declared.value.Value.{Value}
use Rattle.asm_state.specs.Location.{State}
use Rattle.asm_state.specs.Updates.{UpdateSet, is_consistent, is_none, fire}
use Rattle.asm_syntax.specs.Tree.{Name, Terms, Rule, Skip, Assign, Call, Par, Seq, If, Let, Forall, Choose, Iterate, Rules, no_rules, rule_then}
use Rattle.asm_reader.specs.ScriptLines.{pick}
use Rattle.asm_meaning.specs.Program.{Program, Declared, NamedRule, declared, Environment, with_value, bind_terms}
use Rattle.asm_meaning.specs.Targets.{answering}
use Rattle.asm_meaning.specs.Value.{value, holds, candidates, universe, nesting}
use Rattle.asm_meaning.specs.Yields.{Path, at, Result, Gives, Exhausted}
use Rattle.asm_meaning.specs.Story.{Story, Chooses, Instance, Beside, Then, Telling, outcome_of, part_then, turn_then, parts_tell, order_tells, each_tells, one_tells, turns_tell, called_tells, telling, tellings, tells_within, tells}
use Rattle.asm_meaning.specs.StoryLaws.{PicksAs, AreToldAlike}

module _ (other : Path → ℕ) where
  abbrev Picked : Story → Type 0
  Picked s = PicksAs other s

  abbrev Alike : Story → Story → Type 0
  Alike s t = Picked s → t ≡ s

  either : (b : Bool) (s t x y : Story) → Alike s x → Alike t y → Alike (cond b s t) (cond b x y)
  either true s t x y f g = f
  either false s t x y f g = g

  module _ (s : Story) (x y : UpdateSet → Story) (g : (U : UpdateSet) → Alike (x U) (y U)) where
    goes_on : (U : UpdateSet) (b : Bool) → Picked (cond b (Then s (x U)) s) → Picked s × (cond b (Then s (y U)) s ≡ cond b (Then s (x U)) s)
    goes_on U true h = (h.0, ap (Then s) (g U h.1))
    goes_on U false h = (h, refl)

    ends : (U : UpdateSet) (b : Bool) → Picked (cond b s (Then s (x U))) → Picked s × (cond b s (Then s (y U)) ≡ cond b s (Then s (x U)))
    ends U true h = (h, refl)
    ends U false h = (h.0, ap (Then s) (g U h.1))

    part_by : (r : Result) → Picked (part_then r s x) → Picked s × (part_then r s y ≡ part_then r s x)
    part_by (Exhausted q) h = (h, refl)
    part_by (Gives U) h = goes_on U (is_consistent U) h

    turn_by : (r : Result) → Picked (turn_then r s x) → Picked s × (turn_then r s y ≡ turn_then r s x)
    turn_by (Exhausted q) h = (h, refl)
    turn_by (Gives U) h = ends U (is_none U || not (is_consistent U)) h

    part_alike : (t : Story) → Alike s t → Alike (part_then (outcome_of s).result s x) (part_then (outcome_of t).result t y)
    part_alike t f h = let it = part_by (outcome_of s).result h in ap (λ (z : Story). part_then (outcome_of z).result z y) (f it.0) ∙ it.1

    turn_alike : (t : Story) → Alike s t → Alike (turn_then (outcome_of s).result s x) (turn_then (outcome_of t).result t y)
    turn_alike t f h = let it = turn_by (outcome_of s).result h in ap (λ (z : Story). turn_then (outcome_of z).result z y) (f it.0) ∙ it.1

  each_alike : (m n : Value → ℕ → Story) → ((v : Value) (k : ℕ) → Alike (m v k) (n v k)) → (test : Value → Bool) (k : ℕ) (vs : List Value) → Alike (each_tells m test k vs) (each_tells n test k vs)
  each_alike m n f test k [] h = refl
  each_alike m n f test k (v ∷ vs) h =
      let rest = each_alike m n f test (suc k) vs in
      either (test v) (Beside (Instance (m v k)) (each_tells m test (suc k) vs)) (each_tells m test (suc k) vs) (Beside (Instance (n v k)) (each_tells n test (suc k) vs)) (each_tells n test (suc k) vs)
      (λ both i. Beside (Instance (f v k both.0 i)) (rest both.1 i)) rest h

  below_all : (n : ℕ) (v : Value) (vs : List Value) → n % length (v ∷ vs) < length (v ∷ vs)
  below_all n v vs = mod-lt n (omega arith)

  one_alike : (p : Path) (n : ℕ) (vs : List Value) (f g : Value → Story) (s t : Story) → ((v : Value) → Alike (f v) (g v)) → Alike s t → Alike (one_tells p n vs f s) (one_tells p (other p) vs g t)
  one_alike p n [] f g s t each none h = none h
  one_alike p n (v ∷ vs) f g s t each none h =
      let all = v ∷ vs in
      let k : ℕ = n % length all in
      let same : other p % length all ≡ k = h.0 ∙ mod-eq_of_lt (below_all n v vs) in
      (λ i. let j : ℕ = same i in Chooses p j all (g (slice_index_or all j v))) ∙ ap (Chooses p k all) (each (slice_index_or all k v) h.1)

  turns_alike : (m n : Telling) → ((A : State) (e : Environment) (p : Path) → Alike (m A e p) (n A e p)) → (left t : ℕ) (A : State) (e : Environment) (p : Path) → Alike (turns_tell m left t A e p) (turns_tell n left t A e p)
  turns_alike m n f zero t A e p h = refl
  turns_alike m n f (suc left) t A e p h =
      turn_alike (m A e (at p t)) (λ U. turns_tell m left (suc t) (fire A U) e p) (λ U. turns_tell n left (suc t) (fire A U) e p) (λ U. turns_alike m n f left (suc t) (fire A U) e p)
      (n A e (at p t)) (f A e (at p t)) h

  module _ (program : Program) (turns : ℕ) (chosen : Path → ℕ) (body₁ body₂ : Rule → Telling) (alike : (P : Rule) (A : State) (e : Environment) (p : Path) → Alike (body₁ P A e p) (body₂ P A e p)) where
    call_alike : (it : Option Declared) (to : Option (Name × Terms)) (ts : Terms) (A : State) (e : Environment) (p : Path)
        → Alike (called_tells program turns chosen body₁ it to ts A e p) (called_tells program turns other body₂ it to ts A e p)
    call_alike (Some (NamedRule xs P)) to ts A e p h = alike P A (answering program A e to (bind_terms xs ts e)) (at p 0) h
    call_alike it to ts A e p h = refl

    mutual
      unfolding telling

      rule_alike : (R : Rule) (A : State) (e : Environment) (p : Path) → Alike (telling program turns chosen body₁ R A e p) (telling program turns other body₂ R A e p)
      rule_alike Skip A e p h = refl
      rule_alike (Assign f ts t) A e p h = refl
      rule_alike (Call to f ts) A e p h = call_alike (declared program f) to ts A e p h
      rule_alike (Par Ps) A e p h = parts_alike Ps 0 A e p h
      rule_alike (Seq Ps) A e p h = order_alike Ps 0 A e p h
      rule_alike (If c P Q) A e p h =
          either (holds program A e (Some c)) (telling program turns chosen body₁ P A e (at p 0)) (telling program turns chosen body₁ Q A e (at p 1)) _ _ (rule_alike P A e (at p 0)) (rule_alike Q A e (at p 1)) h
      rule_alike (Let x t P) A e p h = rule_alike P A (with_value x (value program A e t) e) (at p 0) h
      rule_alike (Forall x u c P) A e p h =
          each_alike (λ v k. telling program turns chosen body₁ P A (with_value x v e) (at p k)) (λ v k. telling program turns other body₂ P A (with_value x v e) (at p k))
          (λ v k. rule_alike P A (with_value x v e) (at p k)) (λ v. holds program A (with_value x v e) c) 0 (universe program u) h
      rule_alike (Choose x u c P Q) A e p h =
          one_alike p (chosen p) (candidates program A e x u c) (λ v. telling program turns chosen body₁ P A (with_value x v e) (at p 0)) (λ v. telling program turns other body₂ P A (with_value x v e) (at p 0))
          (telling program turns chosen body₁ Q A e (at p 1)) (telling program turns other body₂ Q A e (at p 1)) (λ v. rule_alike P A (with_value x v e) (at p 0)) (rule_alike Q A e (at p 1)) h
      rule_alike (Iterate P) A e p h = turns_alike (telling program turns chosen body₁ P) (telling program turns other body₂ P) (rule_alike P) turns 0 A e p h

      parts_alike : (Ps : Rules) (k : ℕ) (A : State) (e : Environment) (p : Path) → Alike (parts_tell (tellings program turns chosen body₁ Ps) k A e p) (parts_tell (tellings program turns other body₂ Ps) k A e p)
      parts_alike no_rules k A e p h = refl
      parts_alike (rule_then P Ps) k A e p h = λ i. Beside (rule_alike P A e (at p k) h.0 i) (parts_alike Ps (suc k) A e p h.1 i)

      order_alike : (Ps : Rules) (k : ℕ) (A : State) (e : Environment) (p : Path) → Alike (order_tells (tellings program turns chosen body₁ Ps) k A e p) (order_tells (tellings program turns other body₂ Ps) k A e p)
      order_alike no_rules k A e p h = refl
      order_alike (rule_then P Ps) k A e p h =
          part_alike (telling program turns chosen body₁ P A e (at p k)) (λ U. order_tells (tellings program turns chosen body₁ Ps) (suc k) (fire A U) e p) (λ U. order_tells (tellings program turns other body₂ Ps) (suc k) (fire A U) e p)
          (λ U. order_alike Ps (suc k) (fire A U) e p) (telling program turns other body₂ P A e (at p k)) (rule_alike P A e (at p k)) h

  within_alike : (program : Program) (turns : ℕ) (chosen : Path → ℕ) (n : ℕ) (R : Rule) (A : State) (e : Environment) (p : Path) → Alike (tells_within program turns chosen n R A e p) (tells_within program turns other n R A e p)
  unfolding tells_within
  within_alike program turns chosen zero R = rule_alike program turns chosen _ _ (λ P A e p h. refl) R
  within_alike program turns chosen (suc n) R = rule_alike program turns chosen _ _ (λ P A e p h. within_alike program turns chosen n P A e p h) R

pub told_alike : AreToldAlike
unfolding tells
told_alike program turns script other step later A e p R h = within_alike (pick other later) program turns (pick script step) nesting R A e p h
