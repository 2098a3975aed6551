-- Free. Exhausted paths lie within the path of their rule, so that of parts beside each other the
-- first exhausted one has the least.
--     first_part_first        of a part and the parts after it
--     first_element_first     of an element and the elements after it
--     nested_paths-first      of any result and what is after it
use Rattle.std.proofs.Common.{◌≡◌, ℕ, suc, ◌<◌, Bool, false, cond, List, [], ◌∷◌, ◌++◌, refl, sym, ap, ◌∙◌, arith}
use Rattle.std.specs.Cmp.{nat_cmp_is}
use Rattle.std.specs.Cmp.Lexicographic.{slice_cmp}
use Rattle.std.specs.Ordering.{nat_cmp, is_lt, ordering_then}
use Rattle.std.specs.declared.cmp.Ordering.TheVariants.{Equal, Greater}
use Rattle.asm_state.specs.declared.value.Value.{Value}
use Rattle.asm_state.specs.Location.{State}
use Rattle.asm_syntax.specs.Tree.{Name, Rule, Rules}
use Rattle.asm_reader.specs.ScriptLines.{Script}
use Rattle.asm_meaning.specs.Cases.{all_run}
use Rattle.asm_meaning.specs.Does.{does, parts, each}
use Rattle.asm_meaning.specs.Program.{Program, Environment, with_value}
use Rattle.asm_meaning.specs.Yields.{Path, at, first_path, Result, Gives, Exhausted, beside}
use Rattle.asm_meaning.specs.code.NestedPaths.{IsWithin, IsBehind, Within, Behind}
use Rattle.asm_meaning.proofs.NestedPaths.{rule_within, all_within, nested_paths-parts as parts_behind, nested_paths-elements as each_behind}

-- a path in a later descent isn't less
not_less : (p : Path) (k j : ℕ) (s t : Path) → k < j → is_lt (slice_cmp nat_cmp (p ++ (j ∷ t)) (at p k ++ s)) ≡ false
not_less [] k j s t h = ap (λ o. is_lt (ordering_then o (slice_cmp nat_cmp t s))) (sym (nat_cmp_is j k Greater h))
not_less (i ∷ p) k j s t h =
    ap (λ o. is_lt (ordering_then o (slice_cmp nat_cmp (p ++ (j ∷ t)) (at p k ++ s)))) (sym (nat_cmp_is i i Equal refl)) ∙ not_less p k j s t h

first_is_first : (p : Path) (k : ℕ) (q r : Path) → IsWithin (at p k) q → IsBehind p (suc k) r → first_path q r ≡ q
first_is_first p k q r h g =
    let below : k < g.number = let low = g.from in omega arith in
    ap (λ b. cond b r q) (ap (λ x. is_lt (slice_cmp nat_cmp x q)) g.is ∙ ap (λ x. is_lt (slice_cmp nat_cmp (p ++ (g.number ∷ g.rest)) x)) h.is ∙ not_less p k g.number h.rest g.rest below)

-- a result at number k, and those after it
pub nested_paths-first : (p : Path) (k : ℕ) (q : Path) (r s : Result) → Within (at p k) r → Behind p (suc k) s → r ≡ Exhausted q → beside r s ≡ Exhausted q
nested_paths-first p k q (Gives U) s h g e = cc
nested_paths-first p k q (Exhausted r) (Gives V) h g e = e
nested_paths-first p k q (Exhausted r) (Exhausted s) h g e = ap Exhausted (first_is_first p k r s h g) ∙ e

pub first_part_first : (program : Program) (turns : ℕ) (script : Script) (step : ℕ) (A : State) (e : Environment) (p q : Path) (k : ℕ) (R : Rule) (Ps : Rules)
    → (does program turns script step A e (at p k) R).result ≡ Exhausted q
    → beside (does program turns script step A e (at p k) R).result (parts (all_run program turns script step Ps) (suc k) A e p).result ≡ Exhausted q
first_part_first program turns script step A e p q k R Ps is =
    nested_paths-first p k q (does program turns script step A e (at p k) R).result (parts (all_run program turns script step Ps) (suc k) A e p).result
    (rule_within program turns script step A e (at p k) R)
    (parts_behind (all_run program turns script step Ps) (all_within program turns script step Ps) (suc k) A e p) is

-- the rule has a path and an environment of its own for each element
pub first_element_first : (program : Program) (turns : ℕ) (script : Script) (step : ℕ) (A : State) (e : Environment) (p q : Path) (x : Name) (test : Value → Bool) (k : ℕ) (v : Value) (vs : List Value) (R : Rule)
    → (does program turns script step A (with_value x v e) (at p k) R).result ≡ Exhausted q
    → beside (does program turns script step A (with_value x v e) (at p k) R).result
    (each (λ w n. does program turns script step A (with_value x w e) (at p n) R) test (suc k) vs).result ≡ Exhausted q
first_element_first program turns script step A e p q x test k v vs R is =
    let run = λ (w : Value) (n : ℕ). does program turns script step A (with_value x w e) (at p n) R in
    nested_paths-first p k q (run v k).result (each run test (suc k) vs).result
    (rule_within program turns script step A (with_value x v e) (at p k) R)
    (each_behind p run test (λ w n. rule_within program turns script step A (with_value x w e) (at p n) R) (suc k) vs) is
