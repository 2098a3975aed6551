-- Free. The names of a scope, in an environment in which they are bound.
use Rattle.std.proofs.Common.{◌≡◌, false, List, [], ◌∷◌, map, None, refl, ap, ◌∙◌}
use Rattle.asm_syntax.specs.Tree.{Name}
use Rattle.asm_syntax.specs.declared.name.Name as syntax
use Rattle.asm_meaning.specs.code.MeantTrees.{text_of}
use Rattle.asm_meaning.specs.Program.{Program, bound_to}
use Rattle.asm_code.specs.code.Readings.{always}
use Rattle.asm_resolve.specs.code.ResolvedTerms.{Agrees}
use Rattle.asm_resolve.specs.code.Scopes.{names_of, scope_environment}
use Rattle.asm_resolve.specs.code.Slots.{Slot, value_slot, names_in, position_of, called_slots}
use Rattle.asm_resolve.specs.declared.scope.Scope.{Scope}
use Rattle.asm_resolve.proofs.FramesAgree.{agrees_values}

scope_agrees : (program : Program) (s : Scope) → Agrees program (names_of s) (scope_environment s) (map always [])
scope_agrees program s = agrees_values program (names_of s) []

pub scope_free : (program : Program) (s : Scope) (x : Name) → position_of (names_of s) x ≡ None → bound_to (scope_environment s) x ≡ None
scope_free program s x free = (scope_agrees program s).free x free

-- the names of parameters
pub value_names : (xs : List Name) → names_in (map value_slot xs) ≡ xs
value_names [] = refl
value_names (x ∷ xs) = ap (λ ys. x ∷ ys) (value_names xs)

-- the names of the parameters of a derived function
pub parameter_names : (slots : List Slot) (names : List syntax.Name) → slots ≡ called_slots false (map text_of names) → names_in slots ≡ map text_of names
parameter_names slots names is = ap names_in is ∙ value_names (map text_of names)
