-- Free. The controlled function that a name stands for, and its location.
use Rattle.std.proofs.Common.{◌≡◌, ℕ, List, Option, Some, None, refl, sym, ap, ◌∙◌}
use Rattle.std.specs.Prelude.{slice_get, option_map}
use Rattle.asm_state.specs.declared.value.Value.{Value}
use Rattle.asm_state.specs.declared.function.Function as state
use Rattle.asm_state.specs.declared.function.FunctionKind.TheVariants as kind
use Rattle.asm_state.specs.Signature.{Shape, domain_by, domain_of}
use Rattle.asm_syntax.specs.SourceTree.{Spec}
use Rattle.asm_syntax.specs.Tree.{Name}
use Rattle.asm_check.specs.Names as names
use Rattle.asm_check.specs.Names.{Meaning}
use Rattle.asm_check.specs.Numbers as numbers
use Rattle.asm_check.specs.Numbers.{declared_with_number, named}
use Rattle.asm_check.specs.Shapes.{shape_of}
use Rattle.asm_check.specs.declared.checked.NameNumber.{NameNumber}
use Rattle.asm_check.specs.declared.checked.NameNumber.TheVariants as number
use Rattle.asm_meaning.specs.Program.{Universe, Controlled, declared}
use Rattle.asm_meaning.specs.Declarations.{held_as, function_at, function_number, body_of, numbered, program_of}
use Rattle.asm_meaning.specs.Targets.{location_of}
use Rattle.asm_meaning.proofs.MeantDeclarations.{program_declares}

module _ (spec : Spec) (x : Name) (shape : Shape) (shaped : shape ≡ shape_of spec) where
  -- what a name is declared as whose number is that of a function
  declared_at : (f : ℕ) (it : state.Function) → Some (number.Function f) ≡ named spec x → slice_get shape.functions f ≡ Some it
      → declared (program_of spec) x ≡ Some (held_as shape f it it.kind)
  declared_at f it is at =
      program_declares spec x ∙ ap (numbered spec) (sym is)
      ∙ ap (λ (s : Shape). function_at s f (slice_get s.functions f)) (sym shaped) ∙ ap (function_at shape f) at

  pub target_names-controlled : (f : ℕ) (it : state.Function) → Some (number.Function f) ≡ named spec x → slice_get shape.functions f ≡ Some it → it.kind ≡ kind.Controlled
      → declared (program_of spec) x ≡ Some (Controlled f (domain_of shape f))
  target_names-controlled f it is at held =
      declared_at f it is at ∙ ap (λ k. Some (held_as shape f it k)) held ∙ ap (λ o. Some (Controlled f (domain_by shape.universes o))) (sym at)

  pub target_names-of_static : (f : ℕ) (it : state.Function) → Some (number.Function f) ≡ named spec x → slice_get shape.functions f ≡ Some it → it.kind ≡ kind.Static
      → (vs : List Value) → location_of (declared (program_of spec) x) vs ≡ None
  target_names-of_static f it is at held vs =
      ap (λ o. location_of o vs) (declared_at f it is at ∙ ap (λ k. Some (held_as shape f it k)) held)

body_names_none : (m : Option Meaning) (vs : List Value) → location_of (body_of m) vs ≡ None
body_names_none None vs = refl
body_names_none (Some names.Predeclared) vs = refl
body_names_none (Some (names.Range first last)) vs = refl
body_names_none (Some (names.Enumeration k)) vs = refl
body_names_none (Some (names.Element k)) vs = refl
body_names_none (Some (names.Controlled domain)) vs = refl
body_names_none (Some (names.Static domain)) vs = refl
body_names_none (Some (names.Derived xs t)) vs = refl
body_names_none (Some (names.NamedRule xs P)) vs = refl

universe_names_none : (us : Option (List Value)) (vs : List Value) → location_of (option_map Universe us) vs ≡ None
universe_names_none None vs = refl
universe_names_none (Some us) vs = refl

number_names_none : (spec : Spec) (it : Option NameNumber) → function_number it ≡ None → (vs : List Value) → location_of (numbered spec it) vs ≡ None
number_names_none spec None is vs = refl
number_names_none spec (Some (number.Universe n)) is vs = universe_names_none (slice_get (shape_of spec).universes n) vs
number_names_none spec (Some (number.Element n)) is vs = refl
number_names_none spec (Some (number.Function f)) is vs = cc
number_names_none spec (Some (number.Derived d)) is vs = body_names_none (declared_with_number (numbers.derived_of spec) d) vs
number_names_none spec (Some (number.Rule r)) is vs = body_names_none (declared_with_number (numbers.rules_of spec) r) vs

-- a name that stands for no function is updated nowhere
pub target_names-other : (spec : Spec) (x : Name) (it : Option NameNumber) → it ≡ named spec x → function_number it ≡ None → (vs : List Value)
    → location_of (declared (program_of spec) x) vs ≡ None
target_names-other spec x it is other vs =
    ap (λ o. location_of o vs) (program_declares spec x ∙ ap (numbered spec) (sym is)) ∙ number_names_none spec it other vs
