-- Free. If ranks fall with each call, the depth to which calls are followed isn't felt.
use Rattle.std.proofs.Common.{◌≡◌, ℕ, zero, suc, ◌<◌, ◌≤◌, cond, List, ◌∷◌, Some, refl, sym, ap, subst, ◌∙◌, arith}
use Rattle.asm_syntax.specs.Tree.{Name, Rule, Skip, Assign, Call, Par, Seq, If, Let, Forall, Choose, Iterate, Rules, no_rules, rule_then}
use Rattle.asm_meaning.specs.Program.{Program, NamedRule, declared, with_value, bind_terms}
use Rattle.asm_meaning.specs.Targets.{answering}
use Rattle.asm_meaning.specs.Value.{value, holds, candidates, universe}
use Rattle.asm_meaning.specs.Yields.{Path, at}
use Rattle.asm_reader.specs.ScriptLines.{Script, pick}
use Rattle.asm_meaning.specs.Does.{Meaning, parts, in_order, each, one_of, turns_of, called, meaning, meanings, does_within, does}
use Rattle.asm_meaning.specs.Ranks.{IsRanked, CallsBelow, EachCallsBelow}
use Rattle.asm_meaning.specs.Cases.{all_run, ScriptedByCases}
use Rattle.asm_meaning.proofs.CallsAndUses.{lower}

module _ (program : Program) (turns : ℕ) (rank : Name → ℕ) (chosen : Path → ℕ) (body₁ body₂ : Rule → Meaning) (n : ℕ)
    (alike : (f : Name) (xs : List Name) (P : Rule) → declared program f ≡ Some (NamedRule xs P) → rank f < n → body₁ P ≡ body₂ P) where
  mutual
    unfolding meaning

    same : (R : Rule) → CallsBelow program rank n R → meaning program turns chosen body₁ R ≡ meaning program turns chosen body₂ R
    same Skip c = refl
    same (Assign f ts t) c = refl
    same (Call to f ts) c =
        subst (λ d. ◌≡◌ {A = Meaning} (called program turns chosen body₁ d to ts) (called program turns chosen body₂ d to ts)) (sym c.is_declared)
        (λ i A e p. alike f c.parameters c.body c.is_declared c.is_below i A (answering program A e to (bind_terms c.parameters ts e)) (at p 0))
    same (Par Ps) c = λ i A e p. parts (all_same Ps c i) 0 A e p
    same (Seq Ps) c = λ i A e p. in_order (all_same Ps c i) 0 A e p
    same (If t P Q) c = λ i A e p. cond (holds program A e (Some t)) (same P c.0 i A e (at p 0)) (same Q c.1 i A e (at p 1))
    same (Let x t P) c = λ i A e p. same P c i A (with_value x (value program A e t) e) (at p 0)
    same (Forall x u t P) c = λ i A e p.
        each (λ v k. same P c i A (with_value x v e) (at p k)) (λ v. holds program A (with_value x v e) t) 0 (universe program u)
    same (Choose x u t P Q) c = λ i A e p.
        one_of (chosen p) (candidates program A e x u t) (λ v. same P c.0 i A (with_value x v e) (at p 0)) (same Q c.1 i A e (at p 1))
    same (Iterate P) c = λ i A e p. turns_of (same P c i) turns 0 A e p

    all_same : (Ps : Rules) → EachCallsBelow program rank n Ps → meanings program turns chosen body₁ Ps ≡ meanings program turns chosen body₂ Ps
    all_same no_rules c = refl
    all_same (rule_then P Ps) c = λ i. same P c.0 i ∷ all_same Ps c.1 i

module _ (program : Program) (turns : ℕ) (rank : Name → ℕ) (ranked : IsRanked program rank) (chosen : Path → ℕ) where
  -- to follow calls deeper than their ranks changes nothing
  pub deep_enough : (n m : ℕ) (R : Rule) → CallsBelow program rank n R → n ≤ m → does_within program turns chosen n R ≡ does_within program turns chosen m R
  unfolding does_within
  deep_enough zero zero R c h = refl
  deep_enough zero (suc m) R c h = same program turns rank chosen _ _ zero (λ f xs P d below. absurd (omega arith)) R c
  deep_enough (suc n) zero R c h = absurd (omega arith)
  deep_enough (suc n) (suc m) R c h =
      same program turns rank chosen _ _ (suc n)
      (λ f xs P d below. deep_enough n m P (lower program rank (rank f) n (omega arith) P (ranked f xs P d)) (omega arith)) R c

module _ (program : Program) (turns : ℕ) (script : Script) (step : ℕ) where
  all_meanings : (Ps : Rules) → meanings program turns (pick script step) (does_within program turns (pick script step) 16) Ps ≡ all_run program turns script step Ps
  unfolding does does_within meaning
  all_meanings no_rules = refl
  all_meanings (rule_then P Ps) = λ i. (λ A e p. does program turns script step A e p P) ∷ all_meanings Ps i

pub scripted_by_cases : ScriptedByCases
unfolding does does_within meaning
scripted_by_cases program rank turns script step ranked = record {
  of_skip = λ A e p. refl;
  of_assign = λ f ts t A e p. refl;
  of_call = λ to f ts xs P A e p d below.
      ap (λ it. called program turns (pick script step) (does_within program turns (pick script step) 16) it to ts A e p) d
      ∙ ap (λ (m : Meaning). m A (answering program A e to (bind_terms xs ts e)) (at p 0))
      (deep_enough program turns rank ranked (pick script step) 16 17 P (lower program rank (rank f) 16 (omega arith) P (ranked f xs P d)) (omega arith));
  of_par = λ Ps A e p. ap (λ ms. parts ms 0 A e p) (all_meanings program turns script step Ps);
  of_seq = λ Ps A e p. ap (λ ms. in_order ms 0 A e p) (all_meanings program turns script step Ps);
  of_if = λ c P Q A e p. refl;
  of_let = λ x t P A e p. refl;
  of_forall = λ x u c P A e p. refl;
  of_choose = λ x u c P Q A e p. refl;
  of_iterate = λ P A e p. refl;
}
