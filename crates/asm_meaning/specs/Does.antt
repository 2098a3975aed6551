-- Definition. What a rule yields under a script.
--     Outcome               what a rule yields, with the number of instances
--     greatest_count        the greatest number of instances that is shown
--     does program turns script step A e p R      the outcome of R, if a choose with n candidates
--                                                 takes the one whose number is the script's at its
--                                                 path, modulo n
use Rattle.std.specs.Prelude.{ℕ, zero, suc, ◌+◌, ◌%◌, Bool, cond, not, ◌||◌, List, [], ◌∷◌, Option, Some, slice_index_or, length}
use Rattle.asm_state.specs.declared.value.Value.{Value}
use Rattle.asm_state.specs.Location.{State}
use Rattle.asm_state.specs.Updates.{UpdateSet, is_consistent, is_none, none, fire}
use Rattle.asm_syntax.specs.Tree.{Name, Terms, Rule, Skip, Assign, Call, Par, Seq, If, Let, Forall, Choose, Iterate, Rules, no_rules, rule_then}
use Rattle.asm_reader.specs.ScriptLines.{Script, pick}
use Rattle.asm_meaning.specs.Program.{Program, Declared, NamedRule, declared, Environment, with_value, bind_terms}
use Rattle.asm_meaning.specs.Targets.{location, update, answering}
use Rattle.asm_meaning.specs.Value.{value, holds, candidates, universe, nesting}
use Rattle.asm_meaning.specs.Yields.{Path, at, Result, Gives, Exhausted, beside, after}

pub record Outcome : Type 0 where
  pub result : Result
  pub instances : ℕ

-- the number of instances that is shown is cut off if it doesn't fit 64 bits
abbrev pub greatest_count : ℕ
greatest_count = 18_446_744_073_709_551_615

abbrev outcome : Result → ℕ → Outcome
outcome r n = record { result = r; instances = n }

abbrev pub nothing : Outcome
nothing = outcome (Gives none) 0

abbrev pub both : Outcome → Outcome → Outcome
both o rest = outcome (beside o.result rest.result) (o.instances + rest.instances)

-- an element whose condition holds is counted
abbrev pub counted : Outcome → Outcome
counted o = outcome o.result (1 + o.instances)

abbrev pub following : UpdateSet → ℕ → Outcome → Outcome
following U n rest = outcome (after U rest.result) (n + rest.instances)

-- a part of a sequence, and what comes after it
abbrev pub part_and : Result → ℕ → (UpdateSet → Outcome) → Outcome
part_and (Exhausted q) n rest = outcome (Exhausted q) n
part_and (Gives U) n rest = cond (is_consistent U) (following U n (rest U)) (outcome (Gives U) n)

-- a turn, and the turns after it
abbrev pub turn_and : Result → ℕ → (UpdateSet → Outcome) → Outcome
turn_and (Exhausted q) n rest = outcome (Exhausted q) n
turn_and (Gives U) n rest = cond (is_none U || not (is_consistent U)) (outcome (Gives U) n) (following U n (rest U))

-- what a rule does in a state, under an environment and at a path
abbrev pub Meaning : Type 0
Meaning = State → Environment → Path → Outcome

-- parts beside each other, from number k on
abbrev pub parts : List Meaning → ℕ → Meaning
parts [] k A e p = nothing
parts (m ∷ ms) k A e p = both (m A e (at p k)) (parts ms (suc k) A e p)

-- parts in order, from number k on
abbrev pub in_order : List Meaning → ℕ → Meaning
in_order [] k A e p = nothing
in_order (m ∷ ms) k A e p =
    let o : Outcome = m A e (at p k) in
    part_and o.result o.instances (λ U. in_order ms (suc k) (fire A U) e p)

-- the elements from position k on
abbrev pub each : (Value → ℕ → Outcome) → (Value → Bool) → ℕ → List Value → Outcome
each m test k [] = nothing
each m test k (v ∷ vs) = cond (test v) (counted (both (m v k) (each m test (suc k) vs))) (each m test (suc k) vs)

-- the candidate with this number, modulo their number
abbrev pub one_of : ℕ → List Value → (Value → Outcome) → Outcome → Outcome
one_of n [] m other = other
one_of n (v ∷ vs) m other = m (slice_index_or (v ∷ vs) (n % length (v ∷ vs)) v)

-- the turns from number t on, with `left` of them left
abbrev pub turns_of : Meaning → ℕ → ℕ → Meaning
turns_of m zero t A e p = outcome (Exhausted p) 0
turns_of m (suc left) t A e p =
    let o : Outcome = m A e (at p t) in
    turn_and o.result o.instances (λ U. turns_of m left (suc t) (fire A U) e p)

module _ (program : Program) (turns : ℕ) (chosen : Path → ℕ) (body : Rule → Meaning) where
  abbrev pub called : Option Declared → Option (Name × Terms) → Terms → Meaning
  called (Some (NamedRule xs P)) to ts A e p = body P A (answering program A e to (bind_terms xs ts e)) (at p 0)
  called _ to ts A e p = nothing

  unfoldable mutual
    pub meaning : Rule → Meaning
    meaning Skip A e p = nothing
    meaning (Assign f ts t) A e p = outcome (Gives (update (location program A e f ts) (value program A e t))) 0
    meaning (Call to f ts) A e p = called (declared program f) to ts A e p
    meaning (Par Ps) A e p = parts (meanings Ps) 0 A e p
    meaning (Seq Ps) A e p = in_order (meanings Ps) 0 A e p
    meaning (If c P Q) A e p = cond (holds program A e (Some c)) (meaning P A e (at p 0)) (meaning Q A e (at p 1))
    meaning (Let x t P) A e p = meaning P A (with_value x (value program A e t) e) (at p 0)
    meaning (Forall x u c P) A e p =
        each (λ v k. meaning P A (with_value x v e) (at p k)) (λ v. holds program A (with_value x v e) c) 0 (universe program u)
    meaning (Choose x u c P Q) A e p =
        one_of (chosen p) (candidates program A e x u c) (λ v. meaning P A (with_value x v e) (at p 0)) (meaning Q A e (at p 1))
    meaning (Iterate P) A e p = turns_of (meaning P) turns 0 A e p

    pub meanings : Rules → List Meaning
    meanings no_rules = []
    meanings (rule_then P Ps) = meaning P ∷ meanings Ps

-- calls that are nested deeper than n do nothing
unfoldable pub does_within : Program → ℕ → (Path → ℕ) → ℕ → Rule → Meaning
does_within program turns chosen zero = meaning program turns chosen (λ P A e p. nothing)
does_within program turns chosen (suc n) = meaning program turns chosen (does_within program turns chosen n)

unfoldable pub does : Program → (turns : ℕ) → Script → (step : ℕ) → State → Environment → Path → Rule → Outcome
does program turns script step A e p R = does_within program turns (pick script step) nesting R A e p
