-- Free. What stories yield, and the story of a rule by cases.
use Rattle.std.proofs.Common.{◌≡◌, ℕ, zero, suc, ◌+◌, ◌<◌, ◌≤◌, Bool, true, false, cond, not, ◌||◌, List, [], ◌∷◌, map, Option, Some, None, refl, sym, ap, subst, ◌∙◌, arith}
use Rattle.asm_state.specs.declared.value.Value.{Value}
use Rattle.asm_state.specs.Location.{Location, State}
use Rattle.asm_state.specs.Updates.{UpdateSet, is_consistent, is_none, fire}
use Rattle.asm_syntax.specs.Tree.{Name, Terms, Rule, Skip, Assign, Call, Par, Seq, If, Let, Forall, Choose, Iterate, Rules, no_rules, rule_then}
use Rattle.asm_reader.specs.ScriptLines.{Script, pick}
use Rattle.asm_meaning.specs.Program.{Program, Declared, NamedRule, declared, Environment, with_value, bind_terms}
use Rattle.asm_meaning.specs.Targets.{location, arguments, update, answering}
use Rattle.asm_meaning.specs.Value.{value, bound_values, holds, candidates, universe}
use Rattle.asm_meaning.specs.Yields.{Path, at, Result, Gives, Exhausted}
use Rattle.asm_meaning.specs.Does.{Outcome, Meaning, both, counted, following, part_and, turn_and, parts, in_order, each, one_of, turns_of, called, meaning, meanings, does_within, does}
use Rattle.asm_meaning.specs.Ranks.{IsRanked, CallsBelow, EachCallsBelow}
use Rattle.asm_meaning.specs.Story.{Story, Instance, Beside, Then, Telling, outcome_of, and_then, target_tells, part_then, turn_then, parts_tell, order_tells, each_tells, one_tells, turns_tell, called_tells, telling, tellings, tells_within, tells}
use Rattle.asm_meaning.specs.StoryLaws.{AreToldOutcomes, StoryLaws, yields, all_told, ToldByCases}
use Rattle.asm_meaning.proofs.CallsAndUses.{lower}

-- ---- what is told of parts, elements, candidates and turns

module _ (s : Story) (rest : UpdateSet → Story) (other : UpdateSet → Outcome) (same : (U : UpdateSet) → outcome_of (rest U) ≡ other U) where
  module _ (U : UpdateSet) (n : ℕ) (is : outcome_of s ≡ record { result = Gives U; instances = n }) where
    after_it : outcome_of (Then s (rest U)) ≡ following U n (other U)
    after_it = λ i. let o : Outcome = is i in and_then o.result o.instances (same U i)

    if_it_goes_on : (b : Bool) → outcome_of (cond b (Then s (rest U)) s) ≡ cond b (following U n (other U)) (record { result = Gives U; instances = n })
    if_it_goes_on true = after_it
    if_it_goes_on false = is

    unless_it_ends : (b : Bool) → outcome_of (cond b s (Then s (rest U))) ≡ cond b (record { result = Gives U; instances = n }) (following U n (other U))
    unless_it_ends true = is
    unless_it_ends false = after_it

  part_yields : (r : Result) (n : ℕ) → outcome_of s ≡ record { result = r; instances = n } → outcome_of (part_then r s rest) ≡ part_and r n other
  part_yields (Exhausted q) n is = is
  part_yields (Gives U) n is = if_it_goes_on U n is (is_consistent U)

  turn_yields : (r : Result) (n : ℕ) → outcome_of s ≡ record { result = r; instances = n } → outcome_of (turn_then r s rest) ≡ turn_and r n other
  turn_yields (Exhausted q) n is = is
  turn_yields (Gives U) n is = unless_it_ends U n is (is_none U || not (is_consistent U))

target_yields : (p : Path) (l : Option Location) (v : Value) (ws bs : List Value) → outcome_of (target_tells p l v ws bs) ≡ record { result = Gives (update l v); instances = 0 }
target_yields p None v ws bs = refl
target_yields p (Some l) v ws bs = refl

parts_yield : (ms : List Telling) (k : ℕ) (A : State) (e : Environment) (p : Path) → outcome_of (parts_tell ms k A e p) ≡ parts (map yields ms) k A e p
parts_yield [] k A e p = refl
parts_yield (m ∷ ms) k A e p = λ i. both (outcome_of (m A e (at p k))) (parts_yield ms (suc k) A e p i)

order_yields : (ms : List Telling) (k : ℕ) (A : State) (e : Environment) (p : Path) → outcome_of (order_tells ms k A e p) ≡ in_order (map yields ms) k A e p
order_yields [] k A e p = refl
order_yields (m ∷ ms) k A e p =
    let s : Story = m A e (at p k) in
    part_yields s (λ U. order_tells ms (suc k) (fire A U) e p) (λ U. in_order (map yields ms) (suc k) (fire A U) e p) (λ U. order_yields ms (suc k) (fire A U) e p)
    (outcome_of s).result (outcome_of s).instances refl

instance_counted : (o rest : Outcome) → both (counted o) rest ≡ counted (both o rest)
instance_counted o rest = let same : (1 + o.instances) + rest.instances ≡ 1 + (o.instances + rest.instances) = omega arith in
    λ i. record { result = (both o rest).result; instances = same i }

if_it_passes : (b : Bool) (s t : Story) → outcome_of (cond b (Beside (Instance s) t) t) ≡ cond b (counted (both (outcome_of s) (outcome_of t))) (outcome_of t)
if_it_passes true s t = instance_counted (outcome_of s) (outcome_of t)
if_it_passes false s t = refl

each_yields : (m : Value → ℕ → Story) (test : Value → Bool) (k : ℕ) (vs : List Value) → outcome_of (each_tells m test k vs) ≡ each (λ v k. outcome_of (m v k)) test k vs
each_yields m test k [] = refl
each_yields m test k (v ∷ vs) =
    if_it_passes (test v) (m v k) (each_tells m test (suc k) vs)
    ∙ (λ i. cond (test v) (counted (both (outcome_of (m v k)) (each_yields m test (suc k) vs i))) (each_yields m test (suc k) vs i))

one_yields : (p : Path) (n : ℕ) (vs : List Value) (m : Value → Story) (other : Story) → outcome_of (one_tells p n vs m other) ≡ one_of n vs (λ v. outcome_of (m v)) (outcome_of other)
one_yields p n [] m other = refl
one_yields p n (v ∷ vs) m other = refl

turns_yield : (m : Telling) (left t : ℕ) (A : State) (e : Environment) (p : Path) → outcome_of (turns_tell m left t A e p) ≡ turns_of (yields m) left t A e p
turns_yield m zero t A e p = refl
turns_yield m (suc left) t A e p =
    let s : Story = m A e (at p t) in
    turn_yields s (λ U. turns_tell m left (suc t) (fire A U) e p) (λ U. turns_of (yields m) left (suc t) (fire A U) e p) (λ U. turns_yield m left (suc t) (fire A U) e p)
    (outcome_of s).result (outcome_of s).instances refl

pub story_laws : StoryLaws
story_laws = record {
  of_target = target_yields;
  of_parts = parts_yield;
  of_order = order_yields;
  of_each = each_yields;
  of_one = one_yields;
  of_turns = turns_yield;
}

-- ---- the story of a rule yields what the rule does

module _ (program : Program) (turns : ℕ) (chosen : Path → ℕ) (tells_of : Rule → Telling) (does_of : Rule → Meaning) (alike : (P : Rule) → yields (tells_of P) ≡ does_of P) where
  call_yields : (it : Option Declared) (to : Option (Name × Terms)) (ts : Terms) (A : State) (e : Environment) (p : Path)
      → outcome_of (called_tells program turns chosen tells_of it to ts A e p) ≡ called program turns chosen does_of it to ts A e p
  call_yields (Some (NamedRule xs P)) to ts A e p = λ i. alike P i A (answering program A e to (bind_terms xs ts e)) (at p 0)
  call_yields it to ts A e p = refl

  if_yields : (b : Bool) (s t : Story) → outcome_of (cond b s t) ≡ cond b (outcome_of s) (outcome_of t)
  if_yields true s t = refl
  if_yields false s t = refl

  mutual
    unfolding meaning telling

    rule_yields : (R : Rule) → yields (telling program turns chosen tells_of R) ≡ meaning program turns chosen does_of R
    rule_yields Skip = refl
    rule_yields (Assign f ts t) = λ i A e p. target_yields p (location program A e f ts) (value program A e t) (arguments program A e f ts) (bound_values program A e) i
    rule_yields (Call to f ts) = λ i A e p. call_yields (declared program f) to ts A e p i
    rule_yields (Par Ps) = λ i A e p. (parts_yield (tellings program turns chosen tells_of Ps) 0 A e p ∙ ap (λ ms. parts ms 0 A e p) (rules_yield Ps)) i
    rule_yields (Seq Ps) = λ i A e p. (order_yields (tellings program turns chosen tells_of Ps) 0 A e p ∙ ap (λ ms. in_order ms 0 A e p) (rules_yield Ps)) i
    rule_yields (If c P Q) = λ i A e p.
        (if_yields (holds program A e (Some c)) (telling program turns chosen tells_of P A e (at p 0)) (telling program turns chosen tells_of Q A e (at p 1))
        ∙ (λ j. cond (holds program A e (Some c)) (rule_yields P j A e (at p 0)) (rule_yields Q j A e (at p 1)))) i
    rule_yields (Let x t P) = λ i A e p. rule_yields P i A (with_value x (value program A e t) e) (at p 0)
    rule_yields (Forall x u c P) = λ i A e p.
        (each_yields (λ v k. telling program turns chosen tells_of P A (with_value x v e) (at p k)) (λ v. holds program A (with_value x v e) c) 0 (universe program u)
        ∙ (λ j. each (λ v k. rule_yields P j A (with_value x v e) (at p k)) (λ v. holds program A (with_value x v e) c) 0 (universe program u))) i
    rule_yields (Choose x u c P Q) = λ i A e p.
        (one_yields p (chosen p) (candidates program A e x u c) (λ v. telling program turns chosen tells_of P A (with_value x v e) (at p 0)) (telling program turns chosen tells_of Q A e (at p 1))
        ∙ (λ j. one_of (chosen p) (candidates program A e x u c) (λ v. rule_yields P j A (with_value x v e) (at p 0)) (rule_yields Q j A e (at p 1)))) i
    rule_yields (Iterate P) = λ i A e p.
        (turns_yield (telling program turns chosen tells_of P) turns 0 A e p ∙ ap (λ (m : Meaning). turns_of m turns 0 A e p) (rule_yields P)) i

    rules_yield : (Ps : Rules) → map yields (tellings program turns chosen tells_of Ps) ≡ meanings program turns chosen does_of Ps
    rules_yield no_rules = refl
    rules_yield (rule_then P Ps) = λ i. rule_yields P i ∷ rules_yield Ps i

within_yields : (program : Program) (turns : ℕ) (chosen : Path → ℕ) (n : ℕ) (R : Rule) → yields (tells_within program turns chosen n R) ≡ does_within program turns chosen n R
unfolding tells_within does_within
within_yields program turns chosen zero R = rule_yields program turns chosen _ _ (λ P. refl) R
within_yields program turns chosen (suc n) R = rule_yields program turns chosen _ _ (within_yields program turns chosen n) R

pub told_outcomes : AreToldOutcomes
unfolding tells does
told_outcomes program turns script step A e p R = λ i. within_yields program turns (pick script step) 17 R i A e p

-- ---- the story of a rule by cases

module _ (program : Program) (turns : ℕ) (rank : Name → ℕ) (chosen : Path → ℕ) (body₁ body₂ : Rule → Telling) (n : ℕ)
    (alike : (f : Name) (xs : List Name) (P : Rule) → declared program f ≡ Some (NamedRule xs P) → rank f < n → body₁ P ≡ body₂ P) where
  mutual
    unfolding telling

    same : (R : Rule) → CallsBelow program rank n R → telling program turns chosen body₁ R ≡ telling program turns chosen body₂ R
    same Skip c = refl
    same (Assign f ts t) c = refl
    same (Call to f ts) c =
        subst (λ d. ◌≡◌ {A = Telling} (called_tells program turns chosen body₁ d to ts) (called_tells program turns chosen body₂ d to ts)) (sym c.is_declared)
        (λ i A e p. alike f c.parameters c.body c.is_declared c.is_below i A (answering program A e to (bind_terms c.parameters ts e)) (at p 0))
    same (Par Ps) c = λ i A e p. parts_tell (all_same Ps c i) 0 A e p
    same (Seq Ps) c = λ i A e p. order_tells (all_same Ps c i) 0 A e p
    same (If t P Q) c = λ i A e p. cond (holds program A e (Some t)) (same P c.0 i A e (at p 0)) (same Q c.1 i A e (at p 1))
    same (Let x t P) c = λ i A e p. same P c i A (with_value x (value program A e t) e) (at p 0)
    same (Forall x u t P) c = λ i A e p.
        each_tells (λ v k. same P c i A (with_value x v e) (at p k)) (λ v. holds program A (with_value x v e) t) 0 (universe program u)
    same (Choose x u t P Q) c = λ i A e p.
        one_tells p (chosen p) (candidates program A e x u t) (λ v. same P c.0 i A (with_value x v e) (at p 0)) (same Q c.1 i A e (at p 1))
    same (Iterate P) c = λ i A e p. turns_tell (same P c i) turns 0 A e p

    all_same : (Ps : Rules) → EachCallsBelow program rank n Ps → tellings program turns chosen body₁ Ps ≡ tellings program turns chosen body₂ Ps
    all_same no_rules c = refl
    all_same (rule_then P Ps) c = λ i. same P c.0 i ∷ all_same Ps c.1 i

module _ (program : Program) (turns : ℕ) (rank : Name → ℕ) (ranked : IsRanked program rank) (chosen : Path → ℕ) where
  -- to follow calls deeper than their ranks changes nothing
  deep_enough : (n m : ℕ) (R : Rule) → CallsBelow program rank n R → n ≤ m → tells_within program turns chosen n R ≡ tells_within program turns chosen m R
  unfolding tells_within
  deep_enough zero zero R c h = refl
  deep_enough zero (suc m) R c h = same program turns rank chosen _ _ zero (λ f xs P d below. absurd (omega arith)) R c
  deep_enough (suc n) zero R c h = absurd (omega arith)
  deep_enough (suc n) (suc m) R c h =
      same program turns rank chosen _ _ (suc n)
      (λ f xs P d below. deep_enough n m P (lower program rank (rank f) n (omega arith) P (ranked f xs P d)) (omega arith)) R c

module _ (program : Program) (turns : ℕ) (script : Script) (step : ℕ) where
  all_tellings : (Ps : Rules) → tellings program turns (pick script step) (tells_within program turns (pick script step) 16) Ps ≡ all_told program turns script step Ps
  unfolding tells tells_within telling
  all_tellings no_rules = refl
  all_tellings (rule_then P Ps) = λ i. (λ A e p. tells program turns script step A e p P) ∷ all_tellings Ps i

pub told_by_cases : ToldByCases
unfolding tells tells_within telling
told_by_cases program rank turns script step ranked = record {
  of_skip = λ A e p. refl;
  of_assign = λ f ts t A e p. refl;
  of_call = λ to f ts xs P A e p d below.
      ap (λ it. called_tells program turns (pick script step) (tells_within program turns (pick script step) 16) it to ts A e p) d
      ∙ ap (λ (m : Telling). m A (answering program A e to (bind_terms xs ts e)) (at p 0))
      (deep_enough program turns rank ranked (pick script step) 16 17 P (lower program rank (rank f) 16 (omega arith) P (ranked f xs P d)) (omega arith));
  of_par = λ Ps A e p. ap (λ ms. parts_tell ms 0 A e p) (all_tellings program turns script step Ps);
  of_seq = λ Ps A e p. ap (λ ms. order_tells ms 0 A e p) (all_tellings program turns script step Ps);
  of_if = λ c P Q A e p. refl;
  of_let = λ x t P A e p. refl;
  of_forall = λ x u c P A e p. refl;
  of_choose = λ x u c P Q A e p. refl;
  of_iterate = λ P A e p. refl;
}
