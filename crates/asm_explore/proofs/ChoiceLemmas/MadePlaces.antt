-- Free. A rule makes each of its choices at a path of its own, at or below that of the rule.
--     told_placed        those of its story
use Rattle.std.proofs.Common.{◌++◌, ◌%◌, ◌+◌, ℕ, zero, suc, Bool, true, false, cond, not, ◌||◌, List, [], ◌∷◌, length, Option, Some, refl, sym, ap, subst, add-one, append-nil}
use Rattle.std.specs.Prelude.{slice_index_or}
use Rattle.std.proofs.lemmas.List.{map-append}
use Rattle.asm_state.specs.declared.value.Value.{Value}
use Rattle.asm_state.specs.Location.{State}
use Rattle.asm_state.specs.Updates.{UpdateSet, is_consistent, is_none, fire}
use Rattle.asm_syntax.specs.Tree.{Name, Terms, Rule, Skip, Assign, Call, Par, Seq, If, Let, Forall, Choose, Iterate, Rules, no_rules, rule_then}
use Rattle.asm_reader.specs.ScriptLines.{Script, pick}
use Rattle.asm_meaning.specs.Program.{Program, Declared, NamedRule, declared, Environment, with_value, bind_terms}
use Rattle.asm_meaning.specs.Targets.{answering, arguments, location}
use Rattle.asm_meaning.specs.Value.{value, bound_values, holds, candidates, universe, nesting}
use Rattle.asm_meaning.specs.Yields.{Path, Result, Gives, Exhausted, at}
use Rattle.asm_meaning.specs.Story.{Story, Beside, Instance, Then, Telling, outcome_of, part_then, turn_then, parts_tell, order_tells, each_tells, one_tells, turns_tell, called_tells, telling, tellings, tells_within, tells}
use Rattle.asm_explore.specs.declared.outcomes.listed_outcome.Choice.{Choice}
use Rattle.asm_explore.specs.ChoicePoints.{Asking, asked, choices_of}
use Rattle.asm_explore.specs.ListElements.{Each}
use Rattle.asm_explore.specs.code.ChoicePaths.{LieBelow, IsPlacedFrom}
use Rattle.asm_explore.proofs.ChoiceLemmas.AskedParts.{target_asks}
use Rattle.asm_explore.proofs.ChoiceLemmas.ChoicePaths.{placed_none, placed_part, placed_in, placed_first, from_part, from_later, from_none}

-- the choices of a story lie at a path
abbrev Lies : Path → Story → Type 0
Lies p s = LieBelow p (choices_of (asked s))

-- they lie at its parts, from number k on
abbrev LiesFrom : Path → ℕ → Story → Type 0
LiesFrom p k s = IsPlacedFrom p k (choices_of (asked s))

either : (P : Story → Type 0) (b : Bool) (s t : Story) → P s → P t → P (cond b s t)
either P true s t h g = h
either P false s t h g = g

-- ---- parts, elements and turns

abbrev Places : Telling → Type 0
Places m = (A : State) (e : Environment) (p : Path) → Lies p (m A e p)

module _ (p : Path) where
  later : (k : ℕ) (ds : List Choice) → IsPlacedFrom p (suc k) ds → IsPlacedFrom p (k + 1) ds
  later k ds = subst (λ n. IsPlacedFrom p n ds) (sym (add-one k))

  -- one, and another after it
  from_next : (k : ℕ) (s t : Story) → Lies (at p k) s → LiesFrom p (suc k) t → IsPlacedFrom p k (choices_of (asked s ++ asked t))
  from_next k s t h g =
      subst (IsPlacedFrom p k) (sym (map-append (λ (a : Asking). a.choice) (asked s) (asked t)))
      (from_part p k (choices_of (asked s)) (choices_of (asked t)) h (later k (choices_of (asked t)) g))

  from_last : (k : ℕ) (s : Story) → Lies (at p k) s → LiesFrom p k s
  from_last k s h = subst (IsPlacedFrom p k) (append-nil (choices_of (asked s))) (from_part p k (choices_of (asked s)) [] h (from_none p (k + 1) [] refl))

  parts_placed : (ms : List Telling) → Each Places ms → (k : ℕ) (A : State) (e : Environment) → LiesFrom p k (parts_tell ms k A e p)
  parts_placed [] h k A e = from_none p k [] refl
  parts_placed (m ∷ ms) h k A e = from_next k (m A e (at p k)) (parts_tell ms (suc k) A e p) (h.0 A e (at p k)) (parts_placed ms h.1 (suc k) A e)

  -- a part or a turn that yields this, and what comes after it
  module _ (k : ℕ) (s : Story) (own : Lies (at p k) s) (rest : UpdateSet → Story) (behind : (U : UpdateSet) → LiesFrom p (suc k) (rest U)) where
    part_placed : (r : Result) → LiesFrom p k (part_then r s rest)
    part_placed (Exhausted q) = from_last k s own
    part_placed (Gives U) = either (LiesFrom p k) (is_consistent U) (Then s (rest U)) s (from_next k s (rest U) own (behind U)) (from_last k s own)

    turn_placed : (r : Result) → LiesFrom p k (turn_then r s rest)
    turn_placed (Exhausted q) = from_last k s own
    turn_placed (Gives U) = either (LiesFrom p k) (is_none U || not (is_consistent U)) s (Then s (rest U)) (from_last k s own) (from_next k s (rest U) own (behind U))

  order_placed : (ms : List Telling) → Each Places ms → (k : ℕ) (A : State) (e : Environment) → LiesFrom p k (order_tells ms k A e p)
  order_placed [] h k A e = from_none p k [] refl
  order_placed (m ∷ ms) h k A e =
      let s : Story = m A e (at p k) in
      part_placed k s (h.0 A e (at p k)) (λ U. order_tells ms (suc k) (fire A U) e p) (λ U. order_placed ms h.1 (suc k) (fire A U) e) (outcome_of s).result

  each_placed : (m : Value → ℕ → Story) → ((v : Value) (k : ℕ) → Lies (at p k) (m v k)) → (test : Value → Bool) (k : ℕ) (vs : List Value) → LiesFrom p k (each_tells m test k vs)
  each_placed m h test k [] = from_none p k [] refl
  each_placed m h test k (v ∷ vs) =
      let rest : Story = each_tells m test (suc k) vs in
      let behind = each_placed m h test (suc k) vs in
      either (LiesFrom p k) (test v) (Beside (Instance (m v k)) rest) rest (from_next k (m v k) rest (h v k) behind)
      (from_later p k (choices_of (asked rest)) (later k (choices_of (asked rest)) behind))

  one_placed : (n : ℕ) (vs : List Value) (m : Value → Story) (other : Story) → ((v : Value) → Lies (at p 0) (m v)) → Lies (at p 1) other → Lies p (one_tells p n vs m other)
  one_placed n [] m other h g = placed_part p 1 (choices_of (asked other)) g
  one_placed n (v ∷ vs) m other h g =
      let k = n % length (v ∷ vs) in
      let w = slice_index_or (v ∷ vs) k v in
      placed_first p k (choices_of (asked (m w))) (h w)

  turns_placed : (m : Telling) → Places m → (left t : ℕ) (A : State) (e : Environment) → LiesFrom p t (turns_tell m left t A e p)
  turns_placed m h zero t A e = from_none p t [] refl
  turns_placed m h (suc left) t A e =
      let s : Story = m A e (at p t) in
      turn_placed t s (h A e (at p t)) (λ U. turns_tell m left (suc t) (fire A U) e p) (λ U. turns_placed m h left (suc t) (fire A U) e) (outcome_of s).result

  -- from the first one on
  from_first : (s : Story) → LiesFrom p 0 s → Lies p s
  from_first s = placed_in p _ (choices_of (asked s))

-- ---- rules

module _ (program : Program) (turns : ℕ) (chosen : Path → ℕ) (body : Rule → Telling) (places : (P : Rule) → Places (body P)) where
  call_placed : (it : Option Declared) (to : Option (Name × Terms)) (ts : Terms) → Places (called_tells program turns chosen body it to ts)
  call_placed (Some (NamedRule xs P)) to ts A e p = placed_part p 0 _ (places P A (answering program A e to (bind_terms xs ts e)) (at p 0))
  call_placed it to ts A e p = placed_none p [] refl

  mutual
    unfolding telling tellings

    rule_placed : (R : Rule) → Places (telling program turns chosen body R)
    rule_placed Skip A e p = placed_none p [] refl
    rule_placed (Assign f ts t) A e p = placed_none p _ (ap choices_of (target_asks p (location program A e f ts) (value program A e t) (arguments program A e f ts) (bound_values program A e)))
    rule_placed (Call to f ts) A e p = call_placed (declared program f) to ts A e p
    rule_placed (Par Ps) A e p = from_first p (parts_tell (tellings program turns chosen body Ps) 0 A e p) (parts_placed p (tellings program turns chosen body Ps) (all_placed Ps) 0 A e)
    rule_placed (Seq Ps) A e p = from_first p (order_tells (tellings program turns chosen body Ps) 0 A e p) (order_placed p (tellings program turns chosen body Ps) (all_placed Ps) 0 A e)
    rule_placed (If c P Q) A e p =
        let s : Story = telling program turns chosen body P A e (at p 0) in
        let t : Story = telling program turns chosen body Q A e (at p 1) in
        either (Lies p) (holds program A e (Some c)) s t (placed_part p 0 (choices_of (asked s)) (rule_placed P A e (at p 0))) (placed_part p 1 (choices_of (asked t)) (rule_placed Q A e (at p 1)))
    rule_placed (Let x t P) A e p = placed_part p 0 _ (rule_placed P A (with_value x (value program A e t) e) (at p 0))
    rule_placed (Forall x u c P) A e p =
        from_first p (each_tells (λ v k. telling program turns chosen body P A (with_value x v e) (at p k)) (λ v. holds program A (with_value x v e) c) 0 (universe program u))
        (each_placed p (λ v k. telling program turns chosen body P A (with_value x v e) (at p k)) (λ v k. rule_placed P A (with_value x v e) (at p k))
        (λ v. holds program A (with_value x v e) c) 0 (universe program u))
    rule_placed (Choose x u c P Q) A e p =
        one_placed p (chosen p) (candidates program A e x u c) (λ v. telling program turns chosen body P A (with_value x v e) (at p 0)) (telling program turns chosen body Q A e (at p 1))
        (λ v. rule_placed P A (with_value x v e) (at p 0)) (rule_placed Q A e (at p 1))
    rule_placed (Iterate P) A e p = from_first p (turns_tell (telling program turns chosen body P) turns 0 A e p) (turns_placed p (telling program turns chosen body P) (rule_placed P) turns 0 A e)

    all_placed : (Ps : Rules) → Each Places (tellings program turns chosen body Ps)
    all_placed no_rules = tt
    all_placed (rule_then P Ps) = (rule_placed P, all_placed Ps)

within_placed : (program : Program) (turns : ℕ) (chosen : Path → ℕ) (n : ℕ) (R : Rule) → Places (tells_within program turns chosen n R)
unfolding tells_within
within_placed program turns chosen zero R = rule_placed program turns chosen _ (λ P A e p. placed_none p [] refl) R
within_placed program turns chosen (suc n) R = rule_placed program turns chosen _ (within_placed program turns chosen n) R

pub told_placed : (program : Program) (turns : ℕ) (script : Script) (step : ℕ) (A : State) (e : Environment) (p : Path) (R : Rule) → LieBelow p (choices_of (asked (tells program turns script step A e p R)))
unfolding tells
told_placed program turns script step A e p R = within_placed program turns (pick script step) nesting R A e p
