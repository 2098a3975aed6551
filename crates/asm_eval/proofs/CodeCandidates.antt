-- Free. The candidates of a resolved `choose`.
use Rattle.std.proofs.Common.{◌≡◌, ℕ, true, false, List, [], ◌∷◌, filter, Option, Some, None, is_some, sym, ap, ◌∙◌, refl}
use Rattle.std.specs.Prelude.{slice_get}
use Rattle.asm_state.specs.declared.value.Value.{Value}
use Rattle.asm_eval.specs.declared.view.View.{View}
use Rattle.asm_code.specs.declared.code.Code.{Code}
use Rattle.asm_eval.proofs.RuleYields.{universe_here}
use Rattle.asm_eval.specs.code.Evaluation.{is_passing, passing_in}
use Rattle.asm_eval.specs.declared.frame.Frame.{Frame}

all_pass : {X : Type 0} (xs : List X) → filter (λ x. true) xs ≡ xs
all_pass [] = refl
all_pass (x ∷ xs) = ap (λ ys. x ∷ ys) (all_pass xs)

pub all_pass_none : (view : View) (f : Frame) (c : Option Code) (vs : List Value) → c ≡ None → filter (is_passing view f c) vs ≡ vs
all_pass_none view f None vs is = all_pass vs
all_pass_none view f (Some c) vs is = cc

module _ (view : View) (f : Frame) (u : ℕ) (vs : List Value) (is : slice_get (view.signature.now).universes u ≡ Some vs) where
  -- without a condition each value is a candidate
  pub all_pass_here : (c : Option Code) → is_some c ≡ false → vs ≡ passing_in view f u c
  all_pass_here None none = sym (ap (filter (λ v. true)) (universe_here (view.signature.now).universes u vs is) ∙ all_pass vs)
  all_pass_here (Some c) none = cc

  -- those of the universe with the number
  pub passing_here : (c : Option Code) → filter (is_passing view f c) vs ≡ passing_in view f u c
  passing_here c = ap (filter (is_passing view f c)) (sym (universe_here (view.signature.now).universes u vs is))
