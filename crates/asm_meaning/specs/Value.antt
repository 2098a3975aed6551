-- Definition. The value of a term in a state and an environment.
--     value program A e t      a name bound to a term has the value of that term in the caller's
--                              environment, in the same state; one bound to a location has the
--                              content there
--     bound_values program A e     the values of what is bound, the innermost first, but for what is
--                              bound to a location
--     holds, candidates        whether a condition has the value true;  the elements of a universe
--                              for which it has
use Rattle.std.specs.Prelude.{ℕ, zero, suc, Bool, true, false, List, [], ◌∷◌, Option, Some, None}
use Rattle.std.specs.List.{filter, list_all, list_any}
use Rattle.asm_state.specs.declared.value.Value.{Value}
use Rattle.asm_state.specs.declared.value.Value.TheVariants.{Undef, Truth}
use Rattle.asm_state.specs.declared.operation.Op.TheVariants.{Not, Negate}
use Rattle.asm_state.specs.Operation.{op}
use Rattle.asm_state.specs.Location.{Location, Proper, Stray, State}
use Rattle.asm_state.specs.Tables.{location_in, value_in}
use Rattle.asm_syntax.specs.Tree.{Name, Term, Constant, Named, Chain, Not as not_term, Negative, Exists, Every, Terms, no_terms, term_then, Links, no_links, link_then}
use Rattle.asm_meaning.specs.Program.{Program, Declared, Universe, Enumerated, Controlled, Static, Derived, NamedRule, declared, look_up, Environment, nothing_bound, with_value, with_term, with_location}

abbrev pub is_true : Value → Bool
is_true (Truth b) = b
is_true _ = false

-- a read outside the domain gives undef
abbrev pub read : State → Location → Value
read A (Proper f vs) = A (Proper f vs)
read A (Stray f) = Undef

abbrev pub elements_of : Option Declared → List Value
elements_of (Some (Universe vs)) = vs
elements_of _ = []

abbrev pub universe : Program → Name → List Value
universe program u = elements_of (declared program u)

-- what a bound name stands for in each state
abbrev pub Reading : Type 0
Reading = State → Value

abbrev pub Readings : Type 0
Readings = List (Name × Reading)

-- uses of derived functions are nested at most this deep: the greatest rank is 16
abbrev pub nesting : ℕ
nesting = 17

module _ (program : Program) (derived : List Name → Term → List Value → State → Value) where
  -- a name that isn't bound, with arguments
  abbrev pub applied : Option Declared → List Value → State → Value
  applied (Some (Enumerated v)) vs A = v
  applied (Some (Controlled f domain)) vs A = read A (location_in f domain vs)
  applied (Some (Static domain table)) vs A = value_in domain table vs
  applied (Some (Derived xs t)) vs A = derived xs t vs A
  applied (Some (Universe us)) vs A = Undef
  applied (Some (NamedRule xs P)) vs A = Undef
  applied None vs A = Undef

  abbrev pub named : Option Reading → Option Declared → List Value → State → Value
  named (Some r) it vs A = r A
  named None it vs A = applied it vs A

  unfoldable mutual
    pub reading : Term → Readings → State → Value
    reading (Constant v) m A = v
    reading (Named x ts) m A = named (look_up m x) (declared program x) (readings ts m A) A
    reading (Chain t links) m A = chained links (reading t m A) m A
    reading (not_term t) m A = op Not (reading t m A) Undef
    reading (Negative t) m A = op Negate (reading t m A) Undef
    reading (Exists x u t) m A = Truth (list_any (λ v. is_true (reading t ((x, λ _. v) ∷ m) A)) (universe program u))
    reading (Every x u t) m A = Truth (list_all (λ v. is_true (reading t ((x, λ _. v) ∷ m) A)) (universe program u))

    pub readings : Terms → Readings → State → List Value
    readings no_terms m A = []
    readings (term_then t ts) m A = reading t m A ∷ readings ts m A

    -- the chain goes on from a first value
    pub chained : Links → Value → Readings → State → Value
    chained no_links v m A = v
    chained (link_then o t links) v m A = chained links (op o v (reading t m A)) m A

-- parameters that take values, and undef if there are too few
abbrev pub constants : List Name → List Value → Readings
constants [] vs = []
constants (x ∷ xs) [] = (x, λ _. Undef) ∷ constants xs []
constants (x ∷ xs) (v ∷ vs) = (x, λ _. v) ∷ constants xs vs

-- derived functions that are nested deeper than n are undef
unfoldable pub reading_within : Program → ℕ → Term → Readings → State → Value
reading_within program zero = reading program (λ xs t vs A. Undef)
reading_within program (suc n) = reading program (λ xs t vs A. reading_within program n t (constants xs vs) A)

-- how a derived function's body is valued
abbrev pub Use : Type 0
Use = List Name → Term → List Value → State → Value

-- the body of a derived function in a term that is in no other one
abbrev pub inner : Program → Use
inner program xs t vs A = reading_within program 16 t (constants xs vs) A

unfoldable pub readings_of : Program → Environment → Readings
readings_of program nothing_bound = []
readings_of program (with_value x v e) = (x, λ _. v) ∷ readings_of program e
readings_of program (with_term x t caller e) =
    (x, λ A. reading_within program nesting t (readings_of program caller) A) ∷ readings_of program e
readings_of program (with_location x l ws e) = (x, λ A. read A l) ∷ readings_of program e

unfoldable pub value : Program → State → Environment → Term → Value
value program A e t = reading_within program nesting t (readings_of program e) A

unfoldable pub values : Program → State → Environment → Terms → List Value
values program A e no_terms = []
values program A e (term_then t ts) = value program A e t ∷ values program A e ts

abbrev pub bound_values : Program → State → Environment → List Value
bound_values program A nothing_bound = []
bound_values program A (with_value x v e) = v ∷ bound_values program A e
bound_values program A (with_term x t caller e) = value program A caller t ∷ bound_values program A e
bound_values program A (with_location x l ws e) = bound_values program A e

-- a condition holds if its value is true, or if there is none
abbrev pub holds : Program → State → Environment → Option Term → Bool
holds program A e None = true
holds program A e (Some c) = is_true (value program A e c)

-- the elements for which, as x, the condition holds
abbrev pub candidates : Program → State → Environment → (x universe : Name) → Option Term → List Value
candidates program A e x u c = filter (λ v. holds program A (with_value x v e) c) (universe program u)
