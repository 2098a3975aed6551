-- Definition. The part of a condition that decides why it isn't true in a state.
--     Bound, environment_of    names that are bound to values, the innermost first;  the same as an
--                              environment
--     parameters xs vs         the parameters of a derived function, bound to the values of arguments
--     Part                     a term under bound names, with the truth value that is wanted of it,
--                              and whether only the opposite truth value counts against it
--     value_under, values_under      the value of a term under bound names in a state, and of several
--     fails spec A p           whether what is wanted of the part isn't so
--     next spec A p            the part of it that decides that, if one does
--     Decides spec A p q       q decides p in the end: it is come to from p by one part after the
--                              other, and no part of it decides
--     whole t                  a condition as a whole, which is to be true
use Rattle.std.specs.Prelude.{◌≡◌, Bool, true, false, not, ◌&&◌, cond, find, List, [], ◌∷◌, map, Option, Some, None}
use Rattle.std.specs.List.{list_all, list_any}
use Rattle.asm_state.specs.declared.operation.Op.{Op}
use Rattle.asm_state.specs.declared.operation.Op.TheVariants as op
use Rattle.asm_state.specs.declared.value.Value.{Value}
use Rattle.asm_state.specs.declared.value.Value.TheVariants.{Undef, Truth}
use Rattle.asm_state.specs.Location.{State}
use Rattle.asm_syntax.specs.PlainTree.{plain_term}
use Rattle.asm_syntax.specs.SourceTree.{Term, Constant, Named, Chain, Not, Negative, Exists, Every, Result, Terms, no_terms, term_then, Links, no_links, link_then, Spec}
use Rattle.asm_syntax.specs.Tree as tree
use Rattle.asm_check.specs.Names as names
use Rattle.asm_check.specs.Names.{Meaning, text_of}
use Rattle.asm_check.specs.Numbers.{declared_with_number, derived_of, named}
use Rattle.asm_check.specs.declared.checked.NameNumber.{NameNumber}
use Rattle.asm_check.specs.declared.checked.NameNumber.TheVariants as number
use Rattle.asm_meaning.specs.Declarations.{program_of}
use Rattle.asm_meaning.specs.Program.{Environment, nothing_bound, with_value, is_name}
use Rattle.asm_meaning.specs.Value.{is_true, universe, value}

-- ---- bound names

abbrev pub Bound : Type 0
Bound = List (tree.Name × Value)

abbrev pub environment_of : Bound → Environment
environment_of [] = nothing_bound
environment_of ((x, v) ∷ bound) = with_value x v (environment_of bound)

abbrev pub is_bound : Bound → tree.Name → Bool
is_bound bound x = list_any (λ (b : tree.Name × Value). is_name b.0 x) bound

-- undef, if there are too few
abbrev pub parameters : List tree.Name → List Value → Bound
parameters [] vs = []
parameters (x ∷ xs) [] = (x, Undef) ∷ parameters xs []
parameters (x ∷ xs) (v ∷ vs) = (x, v) ∷ parameters xs vs

-- ---- truth values

abbrev pub is_boolean : Value → Bool
is_boolean (Truth b) = true
is_boolean v = false

-- whether a value is this truth value
abbrev pub is_truth : Bool → Value → Bool
is_truth true v = is_true v
is_truth false v = is_boolean v && not (is_true v)

abbrev pub fails_with : (wanted strictly : Bool) → Value → Bool
fails_with wanted false v = not (is_truth wanted v)
fails_with wanted true v = is_truth (not wanted) v

-- what is wanted true is decided by what isn't true, and what is wanted false by what is true
abbrev pub decides_with : (wanted : Bool) → Value → Bool
decides_with true v = not (is_true v)
decides_with false v = is_true v

-- ---- parts

pub record Part : Type 0 where
  pub term : Term
  pub bound : Bound
  pub wanted : Bool
  pub strictly : Bool

abbrev pub whole : Term → Part
whole t = record { term = t; bound = []; wanted = true; strictly = false }

-- one part of a chain of `and` decides that it isn't true, and one of a chain of `or` that it is
abbrev pub is_decisive : (wanted : Bool) → Op → Bool
is_decisive true op.And = true
is_decisive false op.Or = true
is_decisive wanted o = false

abbrev pub are_decisive : (wanted : Bool) → Links → Bool
are_decisive wanted no_links = true
are_decisive wanted (link_then o t links) = is_decisive wanted o && are_decisive wanted links

abbrev pub operands : Links → List Term
operands no_links = []
operands (link_then o t links) = t ∷ operands links

module _ (p : Part) where
  -- the same is wanted of a term in it
  abbrev pub inner_part : Option Term → Option Part
  inner_part None = None
  inner_part (Some t) = Some (record { term = t; bound = p.bound; wanted = p.wanted; strictly = p.strictly })

  -- The same is wanted under one more name, which is bound to an element. It is enough against a
  -- `forall` that the term isn't true; for an `exists` it has to be true.
  abbrev pub element_part : (x : tree.Name) → Term → Option Value → Option Part
  element_part x t None = None
  element_part x t (Some v) = Some (record { term = t; bound = (x, v) ∷ p.bound; wanted = p.wanted; strictly = not p.wanted })

module _ (s : Spec) (A : State) where
  abbrev pub value_under : Bound → Term → Value
  value_under bound t = value (program_of s) A (environment_of bound) (plain_term t)

  abbrev pub values_under : Bound → Terms → List Value
  values_under bound no_terms = []
  values_under bound (term_then t ts) = value_under bound t ∷ values_under bound ts

  abbrev pub fails : Part → Bool
  fails p = fails_with p.wanted p.strictly (value_under p.bound p.term)

  module _ (p : Part) where
    -- the body of a derived function, in which only its parameters are bound
    abbrev pub body_part : Terms → Option Meaning → Option Part
    body_part ts (Some (names.Derived xs t)) =
        Some (record { term = t; bound = parameters (map text_of xs) (values_under p.bound ts); wanted = p.wanted; strictly = p.strictly })
    body_part ts m = None

    abbrev pub named_part : Terms → Option NameNumber → Option Part
    named_part ts (Some (number.Derived d)) = body_part ts (declared_with_number (derived_of s) d)
    named_part ts it = None

    abbrev pub decides_under : Bound → Term → Bool
    decides_under bound t = decides_with p.wanted (value_under bound t)

    -- the first element for which it is decided
    abbrev pub deciding_element : (x u : tree.Name) → Term → Option Value
    deciding_element x u t = find (λ v. decides_under ((x, v) ∷ p.bound) t) (universe (program_of s) u)

    -- The first of the terms that decides it. If only the opposite truth value counts, each of them
    -- has to be a truth value, as each is if they are joined to one.
    abbrev pub deciding_operand : List Term → Option Term
    deciding_operand ts =
        cond (p.strictly && not (list_all (λ t. is_boolean (value_under p.bound t)) ts)) None (find (decides_under p.bound) ts)

    abbrev pub next_in : Term → Option Part
    next_in (Constant l) = None
    next_in (Named x ts) = cond (is_bound p.bound x.text) None (named_part ts (named s x.text))
    next_in (Chain t links) = cond (are_decisive p.wanted links) (inner_part p (deciding_operand (t ∷ operands links))) None
    next_in (Not t) = Some (record { term = t; bound = p.bound; wanted = not p.wanted; strictly = p.strictly })
    next_in (Negative t) = None
    next_in (Exists x u t) = cond p.wanted None (element_part p x.text t (deciding_element x.text u.text t))
    next_in (Every x u t) = cond p.wanted (element_part p x.text t (deciding_element x.text u.text t)) None
    next_in (Result x) = None

  abbrev pub next : Part → Option Part
  next p = next_in p p.term

  pub data Decides : Part → Part → Type 0 where
    itself : {p : Part} → next p ≡ None → Decides p p
    by_way_of : {p r : Part} → (q : Part) → next p ≡ Some q → Decides q r → Decides p r
