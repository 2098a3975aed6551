-- Free. An assignment's update is at a location just when its target has the location's number.
--     same_location, location_itself     `is_location` holds just of the same one
--     not_some                       what is no value is none
--     none_here, elsewhere, here     if it has none, another one, and that one
use Rattle.std.proofs.Common.{◌≡◌, ℕ, ◌<◌, true, false, cond, [], ◌∷◌, Option, Some, None, refl, ap, sym, subst, ◌∙◌}
use Rattle.std.specs.Prelude.{IfSome}
use Rattle.std.specs.Cmp.{Equal-is, tied_itself}
use Rattle.std.proofs.lemmas.Bool.{false_from_ne_true}
use Rattle.asm_state.specs.Location.{Location, location_cmp, location_cmp-total, location_cmp-antisymmetric}
use Rattle.asm_state.specs.Signature.{Shape, IsSound, count_of, is_location, location_at, number_at}
use Rattle.asm_state.proofs.LocationLemmas.NumberedLocations.{number_laws}
use Rattle.asm_eval.specs.code.Evaluation.{location_numbered}
use Rattle.asm_clash.specs.Standing.{Assigned}
use Rattle.asm_clash.specs.code.StandingRules.{assigned_at}

pub same_location : (l m : Location) → is_location l m ≡ true → l ≡ m
same_location l m e = location_cmp-antisymmetric l m ((Equal-is (location_cmp l m)).0 e)

pub location_itself : (l : Location) → is_location l l ≡ true
location_itself l = (Equal-is (location_cmp l l)).1 (tied_itself location_cmp-total l)

pub some_below : (shape : Shape) (o : Option ℕ) (m : ℕ) → o ≡ Some m → IfSome o (λ k. k < count_of shape) → m < count_of shape
some_below shape o m is low = subst (λ x. IfSome x (λ k. k < count_of shape)) is low

pub not_some : {X : Type 0} (o : Option X) → ((x : X) → o ≡ Some x → ⊥) → o ≡ None
not_some None other = refl
not_some (Some x) other = absurd (other x refl)

module _ (shape : Shape) (n : ℕ) (to : Option Location) (o : Option ℕ) (d : Assigned) (is : location_numbered shape o ≡ to) where
  pub none_here : o ≡ None → [] ≡ assigned_at (location_at shape n) to d
  none_here none = ap (λ x. assigned_at (location_at shape n) (location_numbered shape x) d) (sym none) ∙ ap (λ x. assigned_at (location_at shape n) x d) is

  by_number : (m : ℕ) → o ≡ Some m → cond (is_location (location_at shape n) (location_at shape m)) (d ∷ []) [] ≡ assigned_at (location_at shape n) to d
  by_number m some = ap (λ x. assigned_at (location_at shape n) (location_numbered shape x) d) (sym some) ∙ ap (λ x. assigned_at (location_at shape n) x d) is

  pub elsewhere : (m : ℕ) → o ≡ Some m → IsSound shape → n < count_of shape → m < count_of shape → ¬ (m ≡ n) → [] ≡ assigned_at (location_at shape n) to d
  elsewhere m some sound low low' other =
      let apart : is_location (location_at shape n) (location_at shape m) ≡ false = false_from_ne_true (is_location (location_at shape n) (location_at shape m))
      (λ e. other (sym (number_laws.number shape m sound low') ∙ ap (number_at shape) (sym (same_location (location_at shape n) (location_at shape m) e)) ∙ number_laws.number shape n sound low)) in
      ap (λ b. cond b (d ∷ []) []) (sym apart) ∙ by_number m some

  pub here : (m : ℕ) → o ≡ Some m → m ≡ n → d ∷ [] ≡ assigned_at (location_at shape n) to d
  here m some same =
      let both : is_location (location_at shape n) (location_at shape m) ≡ true = ap (λ k. is_location (location_at shape n) (location_at shape k)) same ∙ location_itself (location_at shape n) in
      ap (λ b. cond b (d ∷ []) []) (sym both) ∙ by_number m some
