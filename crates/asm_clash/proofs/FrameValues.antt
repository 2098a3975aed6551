-- Free. What is bound in a frame is what its positions stand for; and the arguments of a target.
--     bound_here          the values bound in a frame
--     values_here         the values of codes, by the code of each
--     given_elsewhere     what a rule gives its pieces that is no call
use Rattle.std.proofs.Common.{◌≡◌, ℕ, List, [], ◌∷◌, ◌++◌, map, Option, Some, None, refl, sym, ap, ◌∙◌}
use Rattle.asm_state.specs.declared.value.Value.{Value}
use Rattle.asm_state.specs.Location.{State}
use Rattle.asm_state.specs.Signature.{Shape}
use Rattle.asm_state.specs.Words.{value_of_code}
use Rattle.asm_meaning.specs.Value.{Reading}
use Rattle.asm_eval.specs.code.ShownViews.{shown}
use Rattle.asm_eval.specs.declared.view.View.{View}
use Rattle.asm_code.specs.code.BoundValues.{bound_of}
use Rattle.asm_code.specs.code.CodeViews.{code_of, codes_of}
use Rattle.asm_code.specs.code.Readings.{always, readings}
use Rattle.asm_code.specs.code.RuleMeaning.{Locations, result_locations}
use Rattle.asm_code.specs.declared.code.Code.{Code}
use Rattle.asm_eval.specs.code.Evaluation.{frame_locations, location_numbered}
use Rattle.asm_eval.specs.code.Frames.{by_name, code_value, readings_of, result_contents}
use Rattle.asm_eval.specs.declared.frame.Frame.{Frame}
use Rattle.asm_eval.specs.declared.frame.Frame.TheVariants as frame
use Rattle.asm_clash.specs.code.StandingRules.{bound_at, bound_in}

module _ (view : View) where
  abbrev shape : Shape
  shape = view.signature.now

  abbrev A : State
  A = shown view

  -- positions of values
  values_first : (vs : List Value) (rs : List Reading) (ls : Locations) → bound_of (map always vs ++ rs) (map (λ (v : Value). None) vs ++ ls) A ≡ vs ++ bound_of rs ls A
  values_first [] rs ls = refl
  values_first (v ∷ vs) rs ls = ap (λ ws. v ∷ ws) (values_first vs rs ls)

  -- positions of codes that belong to a frame
  by_names : (f : Frame) (ts : List Code) → bound_of (by_name shape (readings_of shape f) ts) [] A ≡ map (code_value view f) ts
  by_names f [] = refl
  by_names f (t ∷ ts) = ap (λ ws. code_value view f t ∷ ws) (by_names f ts)

  call_bound : (answer : Option ℕ) (f : Frame) (ts : List Code)
      → bound_of (result_contents shape answer ++ by_name shape (readings_of shape f) ts) (result_locations (location_numbered shape answer)) A ≡ map (code_value view f) ts
  call_bound None f ts = by_names f ts
  call_bound (Some n) f ts = by_names f ts

  pub bound_here : (f : Frame) → bound_in view f ≡ bound_at view f
  bound_here frame.Empty = refl
  bound_here (frame.One' v p outer) = ap (λ ws. value_of_code v.value ∷ ws) (bound_here outer)
  bound_here (frame.Values' vs p outer) = ap (λ ws. vs.now ++ ws) (bound_here outer) ∙ sym (values_first vs.now (readings_of shape outer) (frame_locations shape outer))
  bound_here (frame.Terms' answer codes p caller) = sym (call_bound answer caller codes.now)

  pub values_here : (f : Frame) (ts : List Code) → map (code_value view f) ts ≡ readings shape (codes_of (map code_of ts)) (readings_of shape f) A
  unfolding readings
  values_here f [] = refl
  values_here f (t ∷ ts) = ap (λ ws. code_value view f t ∷ ws) (values_here f ts)
