-- Definition. What a specification declares, and what names are bound to.
--     Program, Declared         the declarations, by name;  declared p x      what x is declared as
--     Environment               names bound to values, to terms with the environment of their
--                               caller, or to locations, each with the arguments that its target has
--     bind_terms, bind_values   the parameters alone, bound to terms of a caller, or to values
--     located                   `result` bound to a location, with its arguments, if there is one
use Rattle.std.specs.Prelude.{ℕ, Bool, cond, List, [], ◌∷◌, nat_eq, Option, Some, None}
use Rattle.std.specs.Cmp.Lexicographic.{pointwise}
use Rattle.asm_state.specs.declared.function.Table.{Table}
use Rattle.asm_state.specs.declared.value.Value.{Value}
use Rattle.asm_state.specs.declared.value.Value.TheVariants.{Undef}
use Rattle.asm_state.specs.Location.{Location}
use Rattle.asm_state.specs.Tables.{Domain}
use Rattle.asm_syntax.specs.Tree.{Name, Term, Terms, no_terms, term_then, Rule, result}

abbrev pub is_name : Name → Name → Bool
is_name = pointwise nat_eq

-- the first of the name
abbrev pub look_up : {X : Type 0} → List (Name × X) → Name → Option X
look_up [] x = None
look_up ((y, it) ∷ more) x = cond (is_name y x) (Some it) (look_up more x)

pub data Declared : Type 0 where
  Universe : List Value → Declared
  Enumerated : Value → Declared
  Controlled : (function : ℕ) → Domain → Declared
  Static : Domain → Table → Declared
  Derived : (parameters : List Name) → Term → Declared
  NamedRule : (parameters : List Name) → Rule → Declared

abbrev pub Program : Type 0
Program = List (Name × Declared)

abbrev pub declared : Program → Name → Option Declared
declared program x = look_up program x

pub data Environment : Type 0 where
  nothing_bound : Environment
  with_value : Name → Value → Environment → Environment
  with_term : Name → Term → (caller : Environment) → Environment → Environment
  with_location : Name → Location → (arguments : List Value) → Environment → Environment

-- the parameters alone, bound to the caller's terms
abbrev pub bind_terms : List Name → Terms → (caller : Environment) → Environment
bind_terms [] ts caller = nothing_bound
bind_terms (x ∷ xs) no_terms caller = nothing_bound
bind_terms (x ∷ xs) (term_then t ts) caller = with_term x t caller (bind_terms xs ts caller)

-- the parameters alone, bound to values, and to undef if there are too few
abbrev pub bind_values : List Name → List Value → Environment
bind_values [] vs = nothing_bound
bind_values (x ∷ xs) [] = with_value x Undef (bind_values xs [])
bind_values (x ∷ xs) (v ∷ vs) = with_value x v (bind_values xs vs)

-- `result` bound to the location of the call's target, if the target names one
abbrev pub located : Option Location → (arguments : List Value) → Environment → Environment
located None ws e = e
located (Some l) ws e = with_location result l ws e

-- what a name is bound to
pub data Binding : Type 0 where
  ToValue : Value → Binding
  ToTerm : Term → (caller : Environment) → Binding
  ToLocation : Location → (arguments : List Value) → Binding

abbrev pub bound_to : Environment → Name → Option Binding
bound_to nothing_bound x = None
bound_to (with_value y v e) x = cond (is_name y x) (Some (ToValue v)) (bound_to e x)
bound_to (with_term y t caller e) x = cond (is_name y x) (Some (ToTerm t caller)) (bound_to e x)
bound_to (with_location y l ws e) x = cond (is_name y x) (Some (ToLocation l ws)) (bound_to e x)
