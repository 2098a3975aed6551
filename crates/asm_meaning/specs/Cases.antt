-- Definition. The scripted function by cases, one for each rule.
--     runs program turns script step R      what R does, as a function of the state, the
--                                           environment and the path
--     ScriptedCases      if ranks fall with each call, the depth to which calls are followed isn't
--                        felt
use Rattle.std.specs.Prelude.{◌≡◌, ◌<◌, ℕ, cond, List, [], ◌∷◌, Option, Some}
use Rattle.asm_state.specs.Location.{State}
use Rattle.asm_syntax.specs.Tree.{Name, Term, Terms, Rule, Skip, Assign, Call, Par, Seq, If, Let, Forall, Choose, Iterate, Rules, no_rules, rule_then}
use Rattle.asm_meaning.specs.Program.{Program, NamedRule, declared, Environment, with_value, bind_terms}
use Rattle.asm_meaning.specs.Targets.{location, update, answering}
use Rattle.asm_meaning.specs.Value.{value, holds, candidates, universe, nesting}
use Rattle.asm_meaning.specs.Yields.{Path, at, Gives}
use Rattle.asm_reader.specs.ScriptLines.{Script, pick}
use Rattle.asm_meaning.specs.Does.{Meaning, nothing, parts, in_order, each, one_of, turns_of, does}
use Rattle.asm_meaning.specs.Ranks.{IsRanked}

abbrev pub runs : Program → ℕ → Script → ℕ → Rule → Meaning
runs program turns script step R A e p = does program turns script step A e p R

abbrev pub all_run : Program → ℕ → Script → ℕ → Rules → List Meaning
all_run program turns script step no_rules = []
all_run program turns script step (rule_then P Ps) = runs program turns script step P ∷ all_run program turns script step Ps

pub record ScriptedCases (program : Program) (turns : ℕ) (script : Script) (step : ℕ) (rank : Name → ℕ) : Type 0 where
  pub of_skip : (A : State) (e : Environment) (p : Path) → runs program turns script step Skip A e p ≡ nothing
  pub of_assign : (f : Name) (ts : Terms) (t : Term) (A : State) (e : Environment) (p : Path)
      → runs program turns script step (Assign f ts t) A e p
      ≡ record { result = Gives (update (location program A e f ts) (value program A e t)); instances = 0 }
  pub of_call : (to : Option (Name × Terms)) (f : Name) (ts : Terms) (xs : List Name) (P : Rule) (A : State) (e : Environment) (p : Path)
      → declared program f ≡ Some (NamedRule xs P) → rank f < nesting
      → runs program turns script step (Call to f ts) A e p ≡ runs program turns script step P A (answering program A e to (bind_terms xs ts e)) (at p 0)
  pub of_par : (Ps : Rules) (A : State) (e : Environment) (p : Path)
      → runs program turns script step (Par Ps) A e p ≡ parts (all_run program turns script step Ps) 0 A e p
  pub of_seq : (Ps : Rules) (A : State) (e : Environment) (p : Path)
      → runs program turns script step (Seq Ps) A e p ≡ in_order (all_run program turns script step Ps) 0 A e p
  pub of_if : (c : Term) (P Q : Rule) (A : State) (e : Environment) (p : Path)
      → runs program turns script step (If c P Q) A e p
      ≡ cond (holds program A e (Some c)) (runs program turns script step P A e (at p 0)) (runs program turns script step Q A e (at p 1))
  pub of_let : (x : Name) (t : Term) (P : Rule) (A : State) (e : Environment) (p : Path)
      → runs program turns script step (Let x t P) A e p ≡ runs program turns script step P A (with_value x (value program A e t) e) (at p 0)
  pub of_forall : (x u : Name) (c : Option Term) (P : Rule) (A : State) (e : Environment) (p : Path)
      → runs program turns script step (Forall x u c P) A e p
      ≡ each (λ v k. runs program turns script step P A (with_value x v e) (at p k)) (λ v. holds program A (with_value x v e) c) 0 (universe program u)
  pub of_choose : (x u : Name) (c : Option Term) (P Q : Rule) (A : State) (e : Environment) (p : Path)
      → runs program turns script step (Choose x u c P Q) A e p
      ≡ one_of (pick script step p) (candidates program A e x u c) (λ v. runs program turns script step P A (with_value x v e) (at p 0)) (runs program turns script step Q A e (at p 1))
  pub of_iterate : (P : Rule) (A : State) (e : Environment) (p : Path)
      → runs program turns script step (Iterate P) A e p ≡ turns_of (runs program turns script step P) turns 0 A e p

abbrev pub ScriptedByCases : Type 0
ScriptedByCases =
    (program : Program) (rank : Name → ℕ) (turns : ℕ) (script : Script) (step : ℕ) → IsRanked program rank → ScriptedCases program turns script step rank
