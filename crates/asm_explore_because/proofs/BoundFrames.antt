-- Free. Frames that agree with bound names.
use Rattle.std.proofs.Common.{◌≡◌, ℕ, suc, Bool, true, false, cond, List, [], ◌∷◌, map, Option, Some, None, refl, sym, ap, subst, ◌∙◌}
use Rattle.std.specs.Prelude.{option_map}
use Rattle.asm_state.specs.declared.value.Value.{Value}
use Rattle.asm_state.specs.Signature.{Shape}
use Rattle.asm_syntax.specs.Tree.{Name}
use Rattle.asm_meaning.specs.Program.{Program, is_name, Environment, Binding, ToValue, bound_to}
use Rattle.asm_meaning.specs.Value.{Reading}
use Rattle.asm_code.specs.code.Readings.{always, at_position}
use Rattle.asm_eval.specs.code.Frames.{readings_of}
use Rattle.asm_eval.specs.declared.frame.Frame.{Frame}
use Rattle.asm_resolve.specs.code.ResolvedTerms.{bound_reading, Agrees}
use Rattle.asm_resolve.specs.code.Scopes.{names_of}
use Rattle.asm_resolve.specs.code.Slots.{position_of}
use Rattle.asm_resolve.specs.declared.scope.Scope.{Scope}
use Rattle.asm_explore_because.specs.Parts.{Bound, environment_of}
use Rattle.asm_explore_because.specs.code.CodedParts.{AreNamed}

-- what a position stands for, by what is bound there
abbrev IsBoundAt : Program → Option Binding → Reading → Type 0
IsBoundAt program o r = (b : Binding) × (o ≡ Some b) × (r ≡ bound_reading program b)

module _ (program : Program) where
  module _ (names : List Name) (e : Environment) (rs : List Reading) (agrees : Agrees program names e rs) (v : Value) where
    bound_before : (y : Name) (i : ℕ) (b : Bool) (o : Option ℕ) → position_of names y ≡ o → cond b (Some 0) (option_map suc o) ≡ Some i
        → IsBoundAt program (cond b (Some (ToValue v)) (bound_to e y)) (at_position (always v ∷ rs) i)
    bound_before y i true o at is = let same : i ≡ 0 = cc in (ToValue v, refl, ap (at_position (always v ∷ rs)) same)
    bound_before y i false None at is = cc
    bound_before y i false (Some j) at is =
        let same : i ≡ suc j = cc in
        let there = agrees.bound y j at in
        (there.0, there.1, ap (at_position (always v ∷ rs)) same ∙ there.2)

    free_before : (y : Name) (b : Bool) (o : Option ℕ) → position_of names y ≡ o → ◌≡◌ {A = Option ℕ} (cond b (Some 0) (option_map suc o)) None
        → ◌≡◌ {A = Option Binding} (cond b (Some (ToValue v)) (bound_to e y)) None
    free_before y true o at is = cc
    free_before y false None at is = agrees.free y at
    free_before y false (Some j) at is = cc

  agrees_bound : (bound : Bound) → Agrees program (map (λ (b : Name × Value). b.0) bound) (environment_of bound) (map (λ (b : Name × Value). always b.1) bound)
  agrees_bound [] = record { bound = λ x i e. cc; free = λ x e. refl }
  agrees_bound ((x, v) ∷ bound) =
      let names = map (λ (b : Name × Value). b.0) bound in
      let rs = map (λ (b : Name × Value). always b.1) bound in record {
        bound = λ y i is. bound_before names (environment_of bound) rs (agrees_bound bound) v y i (is_name x y) (position_of names y) refl is;
        free = λ y is. free_before names (environment_of bound) rs (agrees_bound bound) v y (is_name x y) (position_of names y) refl is;
      }

  pub agrees_named : (shape : Shape) (scope : Scope) (frame : Frame) (bound : Bound) → AreNamed shape scope frame bound
      → Agrees program (names_of scope) (environment_of bound) (readings_of shape frame)
  agrees_named shape scope frame bound named =
      subst (λ names. Agrees program names (environment_of bound) (readings_of shape frame)) (sym named.names)
      (subst (λ rs. Agrees program (map (λ (b : Name × Value). b.0) bound) (environment_of bound) rs) (sym named.values) (agrees_bound bound))
