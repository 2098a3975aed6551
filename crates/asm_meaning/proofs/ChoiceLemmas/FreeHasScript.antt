-- Free. Whatever a rule may yield, some script makes it yield.
use Rattle.std.proofs.Common.{◌≡◌, ◌≢◌, ℕ, zero, suc, ◌%◌, ◌<◌, Bool, true, false, not, cond, ◌&&◌, ◌||◌, List, [], ◌∷◌, ◌++◌, length, Option, Some, slice_get, refl, ap, ◌∙◌, arith, ◌⊎◌, inl, inr}
use Rattle.std.proofs.Math.Nat.{mod-eq_of_lt}
use Rattle.std.specs.Bool.{Decides, nat_eq}
use Rattle.std.specs.List.{slice_index_or}
use Rattle.std.specs.Cmp.Lexicographic.{pointwise}
use Rattle.std.proofs.lemmas.Option.{get_or_from_slice_get}
use Rattle.std.proofs.lemmas.Bool.{false_from_ne_true}
use Rattle.std.proofs.Math.Bool.{or-true}
use Rattle.asm_state.specs.declared.value.Value.{Value}
use Rattle.asm_state.specs.Location.{State}
use Rattle.asm_state.specs.Updates.{UpdateSet, IsConsistent, is_consistent, is_none, none}
use Rattle.asm_state.proofs.UpdateLemmas.Updates.{test_laws}
use Rattle.asm_syntax.specs.Tree.{Name, Term, Rule, Rules}
use Rattle.asm_meaning.specs.Program.{Program, NamedRule, declared, Environment, with_value, bind_terms}
use Rattle.asm_meaning.specs.Targets.{answering}
use Rattle.asm_meaning.specs.Value.{holds, candidates, nesting}
use Rattle.asm_meaning.specs.Yields.{Path, at, Result, Gives, Exhausted, beside, all_beside, after, Yields, YieldsParts, YieldsInOrder, YieldsEach, YieldsTurns, skip, assign, call, par, seq, if_true, if_false, bind, forall, choose, if_none, iterate, no_part, part_then, end, faulty, exhausted, go_on, no_element, left_out, element_then, turn_limit, last_turn, exhausted_turn, turn_then}
use Rattle.asm_reader.specs.ScriptLines.{Line, Script, pick}
use Rattle.asm_meaning.specs.Does.{does, Outcome, Meaning, meaning, meanings, parts, in_order, part_and, turn_and, each, one_of, turns_of, called, nothing, does_within}
use Rattle.asm_meaning.specs.Ranks.{CallsBelow, EachCallsBelow, IsRanked}
use Rattle.asm_meaning.specs.LawOfChoice.{FreeHasScript}
use Rattle.asm_meaning.specs.Scripts.{unrepeated}
use Rattle.asm_reader.specs.ExactLines.{exactly}
use Rattle.asm_reader.proofs.ScriptLemmas.MoreLines.{pick_line}
use Rattle.asm_meaning.proofs.ChoiceLemmas.UnrepeatedScripts.{unrepeated_script}
use Rattle.asm_meaning.proofs.ChoiceLemmas.Scripts.{Scripts, ScriptsFrom, Choices, choice_at, itself, unscripted, join, single, skipped, whole, choosing}
use Rattle.asm_meaning.proofs.CallsAndUses.{lower}

-- a test of what doesn't hold
pub not_true : (b : Bool) {P : Type 0} → Decides b P → ¬ P → b ≡ false
not_true b d h = false_from_ne_true b (λ e. h (d.0 e))

-- the outcome of a test that holds, or doesn't
at_true : (b : Bool) (o other : Outcome) → b ≡ true → (cond b o other).result ≡ o.result
at_true b o other h = ap (λ b. (cond b o other).result) h

at_false : (b : Bool) (o other : Outcome) → b ≡ false → (cond b o other).result ≡ other.result
at_false b o other h = ap (λ b. (cond b o other).result) h

-- a part of a sequence, by what it yields
part_faulty : (r : Result) (n : ℕ) (rest : UpdateSet → Outcome) (U : UpdateSet) → r ≡ Gives U → ¬ (IsConsistent U) → (part_and r n rest).result ≡ Gives U
part_faulty r n rest U e h =
    ap (λ s. (part_and s n rest).result) e
    ∙ at_false (is_consistent U) _ _ (not_true (is_consistent U) (test_laws.consistency U) h)

part_exhausted : (r : Result) (n : ℕ) (rest : UpdateSet → Outcome) (q : Path) → r ≡ Exhausted q → (part_and r n rest).result ≡ Exhausted q
part_exhausted r n rest q e = ap (λ s. (part_and s n rest).result) e

part_goes_on : (r : Result) (n : ℕ) (rest : UpdateSet → Outcome) (U : UpdateSet) (s : Result) → r ≡ Gives U → IsConsistent U → (rest U).result ≡ s
    → (part_and r n rest).result ≡ after U s
part_goes_on r n rest U s e h k =
    ap (λ s. (part_and s n rest).result) e
    ∙ at_true (is_consistent U) _ _ ((test_laws.consistency U).1 h)
    ∙ ap (after U) k

-- a turn, by what it yields
turn_ends : (U : UpdateSet) → (U ≡ none) ⊎ (¬ (IsConsistent U)) → (is_none U || not (is_consistent U)) ≡ true
turn_ends U (inl e) = ap (λ b. b || not (is_consistent U)) ((test_laws.emptiness U).1 e)
turn_ends U (inr h) = ap (λ b. is_none U || not b) (not_true (is_consistent U) (test_laws.consistency U) h) ∙ or-true (is_none U)

turn_last : (r : Result) (n : ℕ) (rest : UpdateSet → Outcome) (U : UpdateSet) → r ≡ Gives U → (U ≡ none) ⊎ (¬ (IsConsistent U)) → (turn_and r n rest).result ≡ Gives U
turn_last r n rest U e h =
    ap (λ s. (turn_and s n rest).result) e
    ∙ at_true (is_none U || not (is_consistent U)) _ _ (turn_ends U h)

turn_exhausted : (r : Result) (n : ℕ) (rest : UpdateSet → Outcome) (q : Path) → r ≡ Exhausted q → (turn_and r n rest).result ≡ Exhausted q
turn_exhausted r n rest q e = ap (λ s. (turn_and s n rest).result) e

turn_goes_on : (r : Result) (n : ℕ) (rest : UpdateSet → Outcome) (U : UpdateSet) (s : Result) → r ≡ Gives U → U ≢ none → IsConsistent U → (rest U).result ≡ s
    → (turn_and r n rest).result ≡ after U s
turn_goes_on r n rest U s e some h k =
    ap (λ s. (turn_and s n rest).result) e
    ∙ at_false (is_none U || not (is_consistent U)) _ _ (or_false _ _ (not_true (is_none U) (test_laws.emptiness U) some) ((test_laws.consistency U).1 h))
    ∙ ap (after U) k
  where
    or_false : (a b : Bool) → a ≡ false → b ≡ true → (a || not b) ≡ false
    or_false a b e f = grind arith

-- the candidate whose number is chosen
below_length : {X : Type 0} (xs : List X) (k : ℕ) (x : X) → slice_get xs k ≡ Some x → k < length xs
below_length [] k x e = cc
below_length (y ∷ ys) zero x e = omega arith
below_length (y ∷ ys) (suc k) x e = let h = below_length ys k x e in omega arith

one_of_taken : (cs : List Value) (n k : ℕ) (v : Value) (m : Value → Outcome) (other : Outcome) → n ≡ k → slice_get cs k ≡ Some v → one_of n cs m other ≡ m v
one_of_taken [] n k v m other e is = cc
one_of_taken (w ∷ ws) n k v m other e is =
    ap m (ap (λ i. slice_index_or (w ∷ ws) i w) (ap (λ i. i % length (w ∷ ws)) e ∙ mod-eq_of_lt (below_length (w ∷ ws) k v is)) ∙ get_or_from_slice_get (w ∷ ws) k v w is)

one_of_none : (cs : List Value) (n : ℕ) (m : Value → Outcome) (other : Outcome) → cs ≡ [] → one_of n cs m other ≡ other
one_of_none cs n m other e = ap (λ cs. one_of n cs m other) e

module _ (program : Program) (turns : ℕ) (rank : Name → ℕ) (body : (Path → ℕ) → Rule → Meaning) (n : ℕ)
    (bodies : (f : Name) (xs : List Name) (P : Rule) → declared program f ≡ Some (NamedRule xs P) → rank f < n
    → (A : State) (e : Environment) (p : Path) (r : Result) → Yields program turns A e p P r → Scripts (λ chosen. (body chosen P A e p).result) p r) where
  abbrev means : (Path → ℕ) → Rule → Meaning
  means chosen = meaning program turns chosen (body chosen)

  abbrev all_mean : (Path → ℕ) → Rules → List Meaning
  all_mean chosen = meanings program turns chosen (body chosen)

  mutual
    unfolding meaning

    scripted : {A : State} {e : Environment} {p : Path} {R : Rule} {r : Result} → Yields program turns A e p R r → CallsBelow program rank n R
        → Scripts (λ chosen. (means chosen R A e p).result) p r
    scripted (skip {p = p}) c = whole (unscripted 0 _ p _ (λ _. refl))
    scripted (assign {p = p}) c = whole (unscripted 0 _ p _ (λ _. refl))
    scripted (call {A = A} {e = e} {p = p} {to = to} {f = f} {ts = ts} {xs = xs} {P = P} {r = r} d y) c =
        whole (single _ r (bodies f xs P d c.is_below A (answering program A e to (bind_terms xs ts e)) (at p 0) r y)
        (λ chosen is. ap (λ it. (called program turns chosen (body chosen) it to ts A e p).result) d ∙ is))
    scripted (par {Ps = Ps} ys) c = whole (scripted_parts ys c)
    scripted (seq {Ps = Ps} y) c = whole (scripted_in_order y c)
    scripted (if_true {r = r} h y) c = whole (single _ r (scripted y c.0) (λ chosen is. at_true _ _ _ h ∙ is))
    scripted (if_false {r = r} h y) c = whole (single _ r (scripted y c.1) (λ chosen is. at_false _ _ _ h ∙ is))
    scripted (bind {r = r} y) c = whole (single _ r (scripted y c) (λ chosen is. is))
    scripted (forall ys) c = whole (scripted_each ys c)
    scripted (choose {A = A} {e = e} {p = p} {x = x} {u = u} {c = t} {v = v} k is y) c =
        choosing _ k (scripted y c.0) (λ chosen taken gives. ap (λ (o : Outcome). o.result) (one_of_taken (candidates program A e x u t) (chosen p) k v _ _ taken is) ∙ gives)
    scripted (if_none {A = A} {e = e} {p = p} {x = x} {u = u} {c = t} {r = r} none y) c =
        whole (single _ r (scripted y c.1) (λ chosen gives. ap (λ (o : Outcome). o.result) (one_of_none (candidates program A e x u t) (chosen p) _ _ none) ∙ gives))
    scripted (iterate y) c = whole (scripted_turns y c)

    scripted_parts : {A : State} {e : Environment} {p : Path} {k : ℕ} {Ps : Rules} {rs : List Result} → YieldsParts program turns A e p k Ps rs → EachCallsBelow program rank n Ps
        → ScriptsFrom k (λ chosen. (parts (all_mean chosen Ps) k A e p).result) p (all_beside rs)
    scripted_parts (no_part {p = p} {k = k}) c = unscripted k _ p _ (λ _. refl)
    scripted_parts (part_then {r = r} {rs = rs} y ys) c =
        join _ _ (scripted y c.0) (scripted_parts ys c.1) (λ chosen is rest i. beside (is i) (rest i))

    scripted_in_order : {A : State} {e : Environment} {p : Path} {k : ℕ} {Ps : Rules} {r : Result} → YieldsInOrder program turns A e p k Ps r → EachCallsBelow program rank n Ps
        → ScriptsFrom k (λ chosen. (in_order (all_mean chosen Ps) k A e p).result) p r
    scripted_in_order (end {p = p} {k = k}) c = unscripted k _ p _ (λ _. refl)
    scripted_in_order (faulty {U = U} y h) c = single _ _ (scripted y c.0) (λ chosen is. part_faulty _ _ _ U is h)
    scripted_in_order (exhausted {q = q} y) c = single _ _ (scripted y c.0) (λ chosen is. part_exhausted _ _ _ q is)
    scripted_in_order (go_on {U = U} {r = r} y h ys) c =
        join _ _ (scripted y c.0) (scripted_in_order ys c.1) (λ chosen is rest. part_goes_on _ _ _ U r is h rest)

    scripted_each : {A : State} {e : Environment} {p : Path} {x : Name} {t : Option Term} {P : Rule} {k : ℕ} {vs : List Value} {rs : List Result}
        → YieldsEach program turns A e p x t P k vs rs → CallsBelow program rank n P
        → ScriptsFrom k (λ chosen. (each (λ v k. means chosen P A (with_value x v e) (at p k)) (λ v. holds program A (with_value x v e) t) k vs).result) p (all_beside rs)
    scripted_each (no_element {p = p} {k = k}) c = unscripted k _ p _ (λ _. refl)
    scripted_each (left_out h ys) c = skipped _ (scripted_each ys c) (λ chosen. at_false _ _ _ h)
    scripted_each (element_then h y ys) c =
        join _ _ (scripted y c) (scripted_each ys c) (λ chosen is rest. at_true _ _ _ h ∙ (λ i. beside (is i) (rest i)))

    scripted_turns : {A : State} {e : Environment} {p : Path} {t left : ℕ} {P : Rule} {r : Result} → YieldsTurns program turns A e p t left P r → CallsBelow program rank n P
        → ScriptsFrom t (λ chosen. (turns_of (means chosen P) left t A e p).result) p r
    scripted_turns (turn_limit {p = p} {t = t}) c = unscripted t _ p _ (λ _. refl)
    scripted_turns (last_turn {U = U} y h) c = single _ _ (scripted y c) (λ chosen is. turn_last _ _ _ U is h)
    scripted_turns (exhausted_turn {q = q} y) c = single _ _ (scripted y c) (λ chosen is. turn_exhausted _ _ _ q is)
    scripted_turns (turn_then {U = U} {r = r} y some h ys) c =
        join _ _ (scripted y c) (scripted_turns ys c) (λ chosen is rest. turn_goes_on _ _ _ U r is some h rest)

module _ (program : Program) (turns : ℕ) (rank : Name → ℕ) (ranked : IsRanked program rank) where
  pub scripted_within : (n : ℕ) (R : Rule) → CallsBelow program rank n R → (A : State) (e : Environment) (p : Path) (r : Result)
      → Yields program turns A e p R r → Scripts (λ chosen. (does_within program turns chosen n R A e p).result) p r
  unfolding does_within
  scripted_within zero R c A e p r y =
      scripted program turns rank (λ chosen P A e p. nothing) zero (λ f xs P d below. absurd (omega arith)) y c
  scripted_within (suc n) R c A e p r y =
      scripted program turns rank (λ chosen. does_within program turns chosen n) (suc n)
      (λ f xs P d below A e p r y. scripted_within n P (lower program rank (rank f) n (omega arith) P (ranked f xs P d)) A e p r y) y c

-- the lines of some choices under p in a step
lines : ℕ → Path → Choices → List Line
lines step p [] = []
lines step p (c ∷ cs) = record { step = step; path = p ++ c.path; choice = c.choice } ∷ lines step p cs

same_front : (p q s : Path) → pointwise nat_eq (p ++ q) (p ++ s) ≡ pointwise nat_eq q s
same_front [] q s = refl
same_front (k ∷ p) q s = ap (λ b. b && pointwise nat_eq (p ++ q) (p ++ s)) (itself k) ∙ same_front p q s

pick-lines : (step : ℕ) (p : Path) (cs : Choices) (q : Path) → pick (exactly (lines step p cs)) step (p ++ q) ≡ choice_at cs q
unfolding lines
pick-lines step p [] q = refl
pick-lines step p (c ∷ cs) q =
    pick_line (record { step = step; path = p ++ c.path; choice = c.choice }) (lines step p cs) step (p ++ q)
    ∙ ap (λ b. cond b c.choice (pick (exactly (lines step p cs)) step (p ++ q))) (ap (λ b. b && pointwise nat_eq (p ++ c.path) (p ++ q)) (itself step) ∙ same_front p c.path q)
    ∙ ap (cond (pointwise nat_eq c.path q) c.choice) (pick-lines step p cs q)

pub has_script : (program : Program) (rank : Name → ℕ) (turns step : ℕ) (A : State) (e : Environment) (p : Path) (R : Rule) (r : Result)
    → IsRanked program rank → CallsBelow program rank nesting R → Yields program turns A e p R r
    → (lines : List Line) × ((does program turns (exactly lines) step A e p R).result ≡ r)
unfolding does
has_script program rank turns step A e p R r ranked c y =
    let s : Scripts (λ chosen. (does_within program turns chosen nesting R A e p).result) p r = scripted_within program turns rank ranked nesting R c A e p r y in
    (lines step p s.choices, s.gives (pick (exactly (lines step p s.choices)) step) (pick-lines step p s.choices))

pub free_has_script : FreeHasScript
free_has_script program rank turns step A e p R r ranked c y =
    let some = has_script program rank turns step A e p R r ranked c y in
    let script : Script = exactly some.0 in
    let one = unrepeated_script script in
    (unrepeated script, one.is_unrepeated, ap (λ (o : Outcome). o.result) (one.does_alike program turns step A e p R) ∙ some.1)
