-- Law. What stories yield, the story of a rule by cases, one for each kind, and under other
-- scripts.
--     AreToldOutcomes     the story of a rule yields what the rule does
--     StoryLaws           what is told of parts, elements, candidates and turns yields what they do
--     ToldCases           the story of a rule, by those of its parts, if ranks fall with each call
--     PicksAs chosen s    at the path of each choice of s its candidate is picked
--     AreToldAlike        who picks as the story of a rule says has the rule tell just that story
use Rattle.std.specs.Prelude.{◌≡◌, ◌<◌, ◌%◌, ℕ, Bool, cond, List, [], ◌∷◌, length, map, Option, Some}
use Rattle.asm_state.specs.Location.{Location, State}
use Rattle.asm_state.specs.declared.value.Value.{Value}
use Rattle.asm_syntax.specs.Tree.{Name, Term, Terms, Rule, Skip, Assign, Call, Par, Seq, If, Let, Forall, Choose, Iterate, Rules, no_rules, rule_then}
use Rattle.asm_reader.specs.ScriptLines.{Script, pick}
use Rattle.asm_meaning.specs.Program.{Program, NamedRule, declared, Environment, with_value, bind_terms}
use Rattle.asm_meaning.specs.Targets.{location, arguments, update, answering}
use Rattle.asm_meaning.specs.Value.{value, bound_values, holds, candidates, universe, nesting}
use Rattle.asm_meaning.specs.Yields.{Path, at, Gives}
use Rattle.asm_meaning.specs.Does.{Meaning, parts, in_order, each, one_of, turns_of, does}
use Rattle.asm_meaning.specs.Ranks.{IsRanked}
use Rattle.asm_meaning.specs.Story.{Story, Silent, Assigns, Chooses, Instance, Beside, Then, Exhausts, Telling, outcome_of, target_tells, parts_tell, order_tells, each_tells, one_tells, turns_tell, tells}

abbrev pub AreToldOutcomes : Type 0
AreToldOutcomes = (program : Program) (turns : ℕ) (script : Script) (step : ℕ) (A : State) (e : Environment) (p : Path) (R : Rule)
    → outcome_of (tells program turns script step A e p R) ≡ does program turns script step A e p R

-- what yields what is told
abbrev pub yields : Telling → Meaning
yields m A e p = outcome_of (m A e p)

pub record StoryLaws : Type 0 where
  pub of_target : (p : Path) (l : Option Location) (v : Value) (ws bs : List Value) → outcome_of (target_tells p l v ws bs) ≡ record { result = Gives (update l v); instances = 0 }
  pub of_parts : (ms : List Telling) (k : ℕ) (A : State) (e : Environment) (p : Path) → outcome_of (parts_tell ms k A e p) ≡ parts (map yields ms) k A e p
  pub of_order : (ms : List Telling) (k : ℕ) (A : State) (e : Environment) (p : Path) → outcome_of (order_tells ms k A e p) ≡ in_order (map yields ms) k A e p
  pub of_each : (m : Value → ℕ → Story) (test : Value → Bool) (k : ℕ) (vs : List Value) → outcome_of (each_tells m test k vs) ≡ each (λ v k. outcome_of (m v k)) test k vs
  pub of_one : (p : Path) (n : ℕ) (vs : List Value) (m : Value → Story) (other : Story) → outcome_of (one_tells p n vs m other) ≡ one_of n vs (λ v. outcome_of (m v)) (outcome_of other)
  pub of_turns : (m : Telling) (left t : ℕ) (A : State) (e : Environment) (p : Path) → outcome_of (turns_tell m left t A e p) ≡ turns_of (yields m) left t A e p

-- ---- the story of a rule by cases

abbrev pub told : Program → ℕ → Script → ℕ → Rule → Telling
told program turns script step R A e p = tells program turns script step A e p R

abbrev pub all_told : Program → ℕ → Script → ℕ → Rules → List Telling
all_told program turns script step no_rules = []
all_told program turns script step (rule_then P Ps) = told program turns script step P ∷ all_told program turns script step Ps

pub record ToldCases (program : Program) (turns : ℕ) (script : Script) (step : ℕ) (rank : Name → ℕ) : Type 0 where
  pub of_skip : (A : State) (e : Environment) (p : Path) → told program turns script step Skip A e p ≡ Silent
  pub of_assign : (f : Name) (ts : Terms) (t : Term) (A : State) (e : Environment) (p : Path)
      → told program turns script step (Assign f ts t) A e p ≡ target_tells p (location program A e f ts) (value program A e t) (arguments program A e f ts) (bound_values program A e)
  pub of_call : (to : Option (Name × Terms)) (f : Name) (ts : Terms) (xs : List Name) (P : Rule) (A : State) (e : Environment) (p : Path)
      → declared program f ≡ Some (NamedRule xs P) → rank f < nesting
      → told program turns script step (Call to f ts) A e p ≡ told program turns script step P A (answering program A e to (bind_terms xs ts e)) (at p 0)
  pub of_par : (Ps : Rules) (A : State) (e : Environment) (p : Path)
      → told program turns script step (Par Ps) A e p ≡ parts_tell (all_told program turns script step Ps) 0 A e p
  pub of_seq : (Ps : Rules) (A : State) (e : Environment) (p : Path)
      → told program turns script step (Seq Ps) A e p ≡ order_tells (all_told program turns script step Ps) 0 A e p
  pub of_if : (c : Term) (P Q : Rule) (A : State) (e : Environment) (p : Path)
      → told program turns script step (If c P Q) A e p
      ≡ cond (holds program A e (Some c)) (told program turns script step P A e (at p 0)) (told program turns script step Q A e (at p 1))
  pub of_let : (x : Name) (t : Term) (P : Rule) (A : State) (e : Environment) (p : Path)
      → told program turns script step (Let x t P) A e p ≡ told program turns script step P A (with_value x (value program A e t) e) (at p 0)
  pub of_forall : (x u : Name) (c : Option Term) (P : Rule) (A : State) (e : Environment) (p : Path)
      → told program turns script step (Forall x u c P) A e p
      ≡ each_tells (λ v k. told program turns script step P A (with_value x v e) (at p k)) (λ v. holds program A (with_value x v e) c) 0 (universe program u)
  pub of_choose : (x u : Name) (c : Option Term) (P Q : Rule) (A : State) (e : Environment) (p : Path)
      → told program turns script step (Choose x u c P Q) A e p
      ≡ one_tells p (pick script step p) (candidates program A e x u c) (λ v. told program turns script step P A (with_value x v e) (at p 0)) (told program turns script step Q A e (at p 1))
  pub of_iterate : (P : Rule) (A : State) (e : Environment) (p : Path)
      → told program turns script step (Iterate P) A e p ≡ turns_tell (told program turns script step P) turns 0 A e p

abbrev pub ToldByCases : Type 0
ToldByCases =
    (program : Program) (rank : Name → ℕ) (turns : ℕ) (script : Script) (step : ℕ) → IsRanked program rank → ToldCases program turns script step rank

-- ---- the story under other scripts

abbrev pub PicksAs : (Path → ℕ) → Story → Type 0
PicksAs chosen Silent = Unit {0}
PicksAs chosen (Assigns p l v ws bs) = Unit {0}
PicksAs chosen (Chooses p k vs s) = (chosen p % length vs ≡ k % length vs) × PicksAs chosen s
PicksAs chosen (Instance s) = PicksAs chosen s
PicksAs chosen (Beside s t) = PicksAs chosen s × PicksAs chosen t
PicksAs chosen (Then s t) = PicksAs chosen s × PicksAs chosen t
PicksAs chosen (Exhausts p) = Unit {0}

abbrev pub AreToldAlike : Type 0
AreToldAlike = (program : Program) (turns : ℕ) (script other : Script) (step later : ℕ) (A : State) (e : Environment) (p : Path) (R : Rule)
    → PicksAs (pick other later) (tells program turns script step A e p R) → tells program turns other later A e p R ≡ tells program turns script step A e p R
