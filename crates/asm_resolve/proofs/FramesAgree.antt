-- Free. Frames that agree with environments.
use Rattle.std.proofs.Common.{◌≡◌, ℕ, zero, suc, Bool, true, false, cond, List, [], ◌∷◌, map, Option, Some, None, refl, sym, ap, ◌∙◌}
use Rattle.std.specs.Prelude.{option_map}
use Rattle.asm_state.specs.declared.value.Value.{Value}
use Rattle.asm_state.specs.declared.value.Value.TheVariants.{Undef}
use Rattle.asm_syntax.specs.Tree.{Name}
use Rattle.asm_meaning.specs.Program.{Program, is_name, Environment, nothing_bound, with_value, bind_values, Binding, ToValue, bound_to}
use Rattle.asm_meaning.specs.Value.{Reading}
use Rattle.asm_code.specs.code.Readings.{always, at_position}
use Rattle.asm_resolve.specs.code.ResolvedTerms.{bound_reading, Agrees}
use Rattle.asm_resolve.specs.code.Slots.{position_of}

-- what a position stands for, by what is bound there
abbrev pub IsBoundAt : Program → Option Binding → Reading → Type 0
IsBoundAt program o r = (b : Binding) × (o ≡ Some b) × (r ≡ bound_reading program b)

module _ (program : Program) where
  pub agrees_nothing : (rs : List Reading) → Agrees program [] nothing_bound rs
  agrees_nothing rs = record {
    bound = λ x i e. absurd (none_not_some e);
    free = λ x e. refl;
  }
    where
      none_not_some : {i : ℕ} → None ≡ Some i → ⊥
      none_not_some e = cc

  -- one more name, bound to what has position 0
  module _ (names : List Name) (e : Environment) (rs : List Reading) (agrees : Agrees program names e rs) (first : Binding) where
    pub bound_before : (y : Name) (i : ℕ) (b : Bool) (o : Option ℕ) → position_of names y ≡ o → cond b (Some 0) (option_map suc o) ≡ Some i
        → IsBoundAt program (cond b (Some first) (bound_to e y)) (at_position (bound_reading program first ∷ rs) i)
    bound_before y i true o at is = let same : i ≡ 0 = cc in (first, refl, ap (at_position (bound_reading program first ∷ rs)) same)
    bound_before y i false None at is = cc
    bound_before y i false (Some j) at is =
        let same : i ≡ suc j = cc in
        let there = agrees.bound y j at in
        (there.0, there.1, ap (at_position (bound_reading program first ∷ rs)) same ∙ there.2)

    pub free_before : (y : Name) (b : Bool) (o : Option ℕ) → position_of names y ≡ o → ◌≡◌ {A = Option ℕ} (cond b (Some 0) (option_map suc o)) None
        → ◌≡◌ {A = Option Binding} (cond b (Some first) (bound_to e y)) None
    free_before y true o at is = cc
    free_before y false None at is = agrees.free y at
    free_before y false (Some j) at is = cc

  pub agrees_value : (names : List Name) (e : Environment) (rs : List Reading) → Agrees program names e rs → (x : Name) (v : Value) → Agrees program (x ∷ names) (with_value x v e) (always v ∷ rs)
  agrees_value names e rs agrees x v = record {
    bound = λ y i is. bound_before names e rs agrees (ToValue v) y i (is_name x y) (position_of names y) refl is;
    free = λ y is. free_before names e rs agrees (ToValue v) y (is_name x y) (position_of names y) refl is;
  }

  -- positions after the last one stand for undef
  undef_behind : (i : ℕ) → at_position (always Undef ∷ []) i ≡ at_position [] i
  undef_behind zero = refl
  undef_behind (suc i) = refl

  pub agrees_values : (xs : List Name) (vs : List Value) → Agrees program xs (bind_values xs vs) (map always vs)
  agrees_values [] vs = agrees_nothing (map always vs)
  agrees_values (x ∷ xs) [] =
      let it = agrees_value xs (bind_values xs []) [] (agrees_values xs []) x Undef in record {
        bound = λ y i is. let there = it.bound y i is in (there.0, there.1, sym (undef_behind i) ∙ there.2);
        free = it.free;
      }
  agrees_values (x ∷ xs) (v ∷ vs) = agrees_value xs (bind_values xs vs) (map always vs) (agrees_values xs vs) x v
