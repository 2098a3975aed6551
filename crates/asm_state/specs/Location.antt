-- Definition. The locations of a state, and their order.
--     Location          a controlled function, by its number in the order of declaration, with
--                       arguments from its domain, or alone: the stray location, for all arguments
--                       outside the domain
--     location_cmp      the order of locations: by function, then the proper ones by their
--                       arguments, and the stray one last
--     State             the content of each location;  changed A l v      A with v at l
use Rattle.std.specs.Prelude.{◌≡◌, ℕ, zero, suc, cond, List, []}
use Rattle.std.specs.Cmp.{IsTotalOrder, nat_cmp_total}
use Rattle.std.specs.Cmp.Lexicographic.{slice_cmp, lists_total}
use Rattle.std.specs.FinMap.{IsAntisymmetric, nat_cmp-IsAntisymmetric, slice_cmp-IsAntisymmetric}
use Rattle.std.specs.Ordering.{on, then_cmp, eq_by_cmp, nat_cmp, ordering_then}
use Rattle.std.specs.declared.cmp.Ordering.{Ordering}
use Rattle.std.specs.declared.cmp.Ordering.TheVariants.{Less, Equal, Greater}
use Rattle.std.proofs.Common.{refl, sym, ◌∙◌}
use Rattle.std.proofs.lemmas.Cmp.{on_total, then_total}
use Rattle.asm_state.specs.declared.value.Value.{Value}
use Rattle.asm_state.specs.Value.{value_cmp, value_cmp-total, value_cmp-antisymmetric}

pub data Location : Type 0 where
  Proper : (function : ℕ) (arguments : List Value) → Location
  Stray : (function : ℕ) → Location

abbrev pub function_of : Location → ℕ
function_of (Proper f arguments) = f
function_of (Stray f) = f

-- 1 for the stray location, and 0 for a proper one
abbrev pub stray_of : Location → ℕ
stray_of (Proper f arguments) = 0
stray_of (Stray f) = 1

abbrev pub arguments_of : Location → List Value
arguments_of (Proper f arguments) = arguments
arguments_of (Stray f) = []

abbrev pub location_cmp : Location → Location → Ordering
location_cmp =
    then_cmp (on function_of nat_cmp) (then_cmp (on stray_of nat_cmp) (on arguments_of (slice_cmp value_cmp)))

pub location_cmp-total : IsTotalOrder location_cmp
location_cmp-total =
    then_total (on_total function_of nat_cmp_total) (then_total (on_total stray_of nat_cmp_total) (on_total arguments_of (lists_total value_cmp-total)))

-- a state gives each location its content
abbrev pub State : Type 0
State = Location → Value

-- the state with this value at one location, and else as it was
abbrev pub changed : State → Location → Value → State
changed A l v m = cond (eq_by_cmp location_cmp l m) v (A m)

-- two that tie by the one and by the other
pub first_tie : (p q : Ordering) → ordering_then p q ≡ Equal → p ≡ Equal
first_tie Less q e = e
first_tie Equal q e = refl
first_tie Greater q e = e

pub second_tie : (p q : Ordering) → ordering_then p q ≡ Equal → q ≡ Equal
second_tie Less q e = cc
second_tie Equal q e = e
second_tie Greater q e = cc

location_from : ℕ → ℕ → List Value → Location
location_from f zero arguments = Proper f arguments
location_from f (suc k) arguments = Stray f

location_from-parts : (l : Location) → location_from (function_of l) (stray_of l) (arguments_of l) ≡ l
unfolding location_from
location_from-parts (Proper f arguments) = refl
location_from-parts (Stray f) = refl

pub location_cmp-antisymmetric : IsAntisymmetric location_cmp
location_cmp-antisymmetric a b e =
    let f : function_of a ≡ function_of b = nat_cmp-IsAntisymmetric _ _ (first_tie _ _ e) in
    let rest : ordering_then (nat_cmp (stray_of a) (stray_of b)) (slice_cmp value_cmp (arguments_of a) (arguments_of b)) ≡ Equal = second_tie (nat_cmp (function_of a) (function_of b)) _ e in
    let s : stray_of a ≡ stray_of b = nat_cmp-IsAntisymmetric _ _ (first_tie _ _ rest) in
    let v : arguments_of a ≡ arguments_of b = slice_cmp-IsAntisymmetric value_cmp-antisymmetric _ _ (second_tie (nat_cmp (stray_of a) (stray_of b)) _ rest) in
    sym (location_from-parts a) ∙ (λ i. location_from (f i) (s i) (v i)) ∙ location_from-parts b
