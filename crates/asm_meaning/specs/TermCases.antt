-- Definition. The value of a term by cases, one for each form.
--     TermCases      if ranks fall with each use, the depth to which derived functions are followed
--                    isn't felt
use Rattle.std.specs.Prelude.{◌≡◌, ◌<◌, ℕ, List, Some, None}
use Rattle.std.specs.List.{list_all, list_any}
use Rattle.asm_state.specs.declared.function.Table.{Table}
use Rattle.asm_state.specs.declared.value.Value.{Value}
use Rattle.asm_state.specs.declared.value.Value.TheVariants.{Undef, Truth}
use Rattle.asm_state.specs.declared.operation.Op.TheVariants.{Not, Negate}
use Rattle.asm_state.specs.Operation.{op}
use Rattle.asm_state.specs.Location.{Location, State}
use Rattle.asm_state.specs.Tables.{Domain, location_in, value_in}
use Rattle.asm_syntax.specs.Tree.{Name, Term, Constant, Named, Chain, Not as not_term, Negative, Exists, Every, Terms, Links, no_links, link_then}
use Rattle.asm_meaning.specs.Program.{Program, Enumerated, Controlled, Static, Derived, declared, Environment, with_value, bind_values, ToValue, ToTerm, ToLocation, bound_to}
use Rattle.asm_meaning.specs.Value.{value, values, is_true, read, universe, nesting}
use Rattle.asm_meaning.specs.Ranks.{AreDerivedRanked}

-- a chain goes on from a first value, from the left
abbrev pub chain_value : Program → State → Environment → Links → Value → Value
chain_value program A e no_links v = v
chain_value program A e (link_then o t links) v = chain_value program A e links (op o v (value program A e t))

pub record TermCases (program : Program) (rank : Name → ℕ) (A : State) (e : Environment) : Type 0 where
  pub of_constant : (v : Value) → value program A e (Constant v) ≡ v
  -- a bound name has its value, or that of its term in the caller's environment, in the same state
  pub of_value : (x : Name) (ts : Terms) (v : Value) → bound_to e x ≡ Some (ToValue v) → value program A e (Named x ts) ≡ v
  pub of_term : (x : Name) (ts : Terms) (t : Term) (caller : Environment) → bound_to e x ≡ Some (ToTerm t caller)
      → value program A e (Named x ts) ≡ value program A caller t
  -- one that stands for a location has the content there
  pub of_location : (x : Name) (ts : Terms) (l : Location) (ws : List Value) → bound_to e x ≡ Some (ToLocation l ws) → value program A e (Named x ts) ≡ read A l
  -- other names are declared
  pub of_element : (x : Name) (ts : Terms) (v : Value) → bound_to e x ≡ None → declared program x ≡ Some (Enumerated v) → value program A e (Named x ts) ≡ v
  pub of_controlled : (x : Name) (ts : Terms) (f : ℕ) (domain : Domain) → bound_to e x ≡ None → declared program x ≡ Some (Controlled f domain)
      → value program A e (Named x ts) ≡ read A (location_in f domain (values program A e ts))
  pub of_static : (x : Name) (ts : Terms) (domain : Domain) (table : Table) → bound_to e x ≡ None → declared program x ≡ Some (Static domain table)
      → value program A e (Named x ts) ≡ value_in domain table (values program A e ts)
  -- a derived function's body has its parameters bound to values, and nothing else
  pub of_derived : (x : Name) (ts : Terms) (xs : List Name) (t : Term) → bound_to e x ≡ None → declared program x ≡ Some (Derived xs t) → rank x < nesting
      → value program A e (Named x ts) ≡ value program A (bind_values xs (values program A e ts)) t
  pub of_chain : (t : Term) (links : Links) → value program A e (Chain t links) ≡ chain_value program A e links (value program A e t)
  pub of_not : (t : Term) → value program A e (not_term t) ≡ op Not (value program A e t) Undef
  pub of_negative : (t : Term) → value program A e (Negative t) ≡ op Negate (value program A e t) Undef
  pub of_exists : (x u : Name) (t : Term) → value program A e (Exists x u t) ≡ Truth (list_any (λ v. is_true (value program A (with_value x v e) t)) (universe program u))
  pub of_every : (x u : Name) (t : Term) → value program A e (Every x u t) ≡ Truth (list_all (λ v. is_true (value program A (with_value x v e) t)) (universe program u))

abbrev pub ValuedByCases : Type 0
ValuedByCases = (program : Program) (rank : Name → ℕ) (A : State) (e : Environment) → AreDerivedRanked program rank → TermCases program rank A e
