-- Definition. What happens in a rule under a script, told as a story.
--     Story                   nothing; an update, with the path of its assignment, the values of its
--                             target's arguments, and those of what is bound there; what is chosen
--                             at a path, of which candidates, and what happens then; an instance
--                             of a forall; two stories beside each other; a part of a sequence, or
--                             a turn, and what comes after it; the end at a path that is exhausted
--     outcome_of story        what the story yields
--     tells program turns script step A e p R      the story of R, where `does` is what R yields
--     step_tells specification turns script step A     the story of a step from the state A
use Rattle.std.specs.Prelude.{ℕ, zero, suc, ◌%◌, Bool, cond, not, ◌||◌, List, [], ◌∷◌, Option, Some, None, slice_index_or, length}
use Rattle.asm_state.specs.declared.value.Value.{Value}
use Rattle.asm_state.specs.Location.{Location, State}
use Rattle.asm_state.specs.Updates.{UpdateSet, is_consistent, is_none, one, fire}
use Rattle.asm_syntax.specs.Tree.{Name, Terms, Rule, Skip, Assign, Call, Par, Seq, If, Let, Forall, Choose, Iterate, Rules, no_rules, rule_then}
use Rattle.asm_reader.specs.ScriptLines.{Script, pick}
use Rattle.asm_meaning.specs.Program.{Program, Declared, NamedRule, declared, Environment, nothing_bound, with_value, bind_terms}
use Rattle.asm_meaning.specs.Run.{Specification}
use Rattle.asm_meaning.specs.Targets.{location, arguments, answering}
use Rattle.asm_meaning.specs.Value.{value, bound_values, holds, candidates, universe, nesting}
use Rattle.asm_meaning.specs.Yields.{Path, at, Result, Gives, Exhausted}
use Rattle.asm_meaning.specs.Does.{Outcome, nothing, both, counted, following}

pub data Story : Type 0 where
  Silent : Story
  Assigns : Path → Location → Value → (arguments bound : List Value) → Story
  Chooses : Path → (number : ℕ) → (candidates : List Value) → Story → Story
  Instance : Story → Story
  Beside : Story → Story → Story
  Then : (earlier later : Story) → Story
  Exhausts : Path → Story

-- what yields this, and something else after it
abbrev pub and_then : Result → ℕ → Outcome → Outcome
and_then (Exhausted q) n rest = record { result = Exhausted q; instances = n }
and_then (Gives U) n rest = following U n rest

abbrev pub outcome_of : Story → Outcome
outcome_of Silent = nothing
outcome_of (Assigns p l v ws bs) = record { result = Gives (one l v); instances = 0 }
outcome_of (Chooses p k vs s) = outcome_of s
outcome_of (Instance s) = counted (outcome_of s)
outcome_of (Beside s t) = both (outcome_of s) (outcome_of t)
outcome_of (Then s t) = and_then (outcome_of s).result (outcome_of s).instances (outcome_of t)
outcome_of (Exhausts p) = record { result = Exhausted p; instances = 0 }

-- what happens in a rule in a state, under an environment and at a path
abbrev pub Telling : Type 0
Telling = State → Environment → Path → Story

-- an update of the location that a target names, if it names one
abbrev pub target_tells : Path → Option Location → Value → (arguments bound : List Value) → Story
target_tells p None v ws bs = Silent
target_tells p (Some l) v ws bs = Assigns p l v ws bs

-- a part of a sequence that yields this, and what comes after it
abbrev pub part_then : Result → Story → (UpdateSet → Story) → Story
part_then (Exhausted q) s rest = s
part_then (Gives U) s rest = cond (is_consistent U) (Then s (rest U)) s

-- a turn, and the turns after it
abbrev pub turn_then : Result → Story → (UpdateSet → Story) → Story
turn_then (Exhausted q) s rest = s
turn_then (Gives U) s rest = cond (is_none U || not (is_consistent U)) s (Then s (rest U))

-- parts beside each other, from number k on
abbrev pub parts_tell : List Telling → ℕ → Telling
parts_tell [] k A e p = Silent
parts_tell (m ∷ ms) k A e p = Beside (m A e (at p k)) (parts_tell ms (suc k) A e p)

-- parts in order, from number k on
abbrev pub order_tells : List Telling → ℕ → Telling
order_tells [] k A e p = Silent
order_tells (m ∷ ms) k A e p =
    let s : Story = m A e (at p k) in
    part_then (outcome_of s).result s (λ U. order_tells ms (suc k) (fire A U) e p)

-- the elements from position k on
abbrev pub each_tells : (Value → ℕ → Story) → (Value → Bool) → ℕ → List Value → Story
each_tells m test k [] = Silent
each_tells m test k (v ∷ vs) = cond (test v) (Beside (Instance (m v k)) (each_tells m test (suc k) vs)) (each_tells m test (suc k) vs)

-- the candidate with this number, modulo their number
abbrev pub one_tells : Path → ℕ → List Value → (Value → Story) → Story → Story
one_tells p n [] m other = other
one_tells p n (v ∷ vs) m other =
    let k : ℕ = n % length (v ∷ vs) in
    Chooses p k (v ∷ vs) (m (slice_index_or (v ∷ vs) k v))

-- the turns from number t on, with `left` of them left
abbrev pub turns_tell : Telling → ℕ → ℕ → Telling
turns_tell m zero t A e p = Exhausts p
turns_tell m (suc left) t A e p =
    let s : Story = m A e (at p t) in
    turn_then (outcome_of s).result s (λ U. turns_tell m left (suc t) (fire A U) e p)

module _ (program : Program) (turns : ℕ) (chosen : Path → ℕ) (body : Rule → Telling) where
  abbrev pub called_tells : Option Declared → Option (Name × Terms) → Terms → Telling
  called_tells (Some (NamedRule xs P)) to ts A e p = body P A (answering program A e to (bind_terms xs ts e)) (at p 0)
  called_tells _ to ts A e p = Silent

  unfoldable mutual
    pub telling : Rule → Telling
    telling Skip A e p = Silent
    telling (Assign f ts t) A e p = target_tells p (location program A e f ts) (value program A e t) (arguments program A e f ts) (bound_values program A e)
    telling (Call to f ts) A e p = called_tells (declared program f) to ts A e p
    telling (Par Ps) A e p = parts_tell (tellings Ps) 0 A e p
    telling (Seq Ps) A e p = order_tells (tellings Ps) 0 A e p
    telling (If c P Q) A e p = cond (holds program A e (Some c)) (telling P A e (at p 0)) (telling Q A e (at p 1))
    telling (Let x t P) A e p = telling P A (with_value x (value program A e t) e) (at p 0)
    telling (Forall x u c P) A e p =
        each_tells (λ v k. telling P A (with_value x v e) (at p k)) (λ v. holds program A (with_value x v e) c) 0 (universe program u)
    telling (Choose x u c P Q) A e p =
        one_tells p (chosen p) (candidates program A e x u c) (λ v. telling P A (with_value x v e) (at p 0)) (telling Q A e (at p 1))
    telling (Iterate P) A e p = turns_tell (telling P) turns 0 A e p

    pub tellings : Rules → List Telling
    tellings no_rules = []
    tellings (rule_then P Ps) = telling P ∷ tellings Ps

-- calls that are nested deeper than n tell nothing
unfoldable pub tells_within : Program → ℕ → (Path → ℕ) → ℕ → Rule → Telling
tells_within program turns chosen zero = telling program turns chosen (λ P A e p. Silent)
tells_within program turns chosen (suc n) = telling program turns chosen (tells_within program turns chosen n)

unfoldable pub tells : Program → (turns : ℕ) → Script → (step : ℕ) → State → Environment → Path → Rule → Story
tells program turns script step A e p R = tells_within program turns (pick script step) nesting R A e p

abbrev pub step_tells : Specification → (turns : ℕ) → Script → (step : ℕ) → State → Story
step_tells specification turns script step A = tells specification.program turns script step A nothing_bound [] specification.main
