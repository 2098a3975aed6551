-- Free. Faults that a loop notes, one element after another.
use Rattle.std.proofs.Common.{◌≡◌, ℕ, ◌+◌, ◌<◌, Bool, true, false, cond, List, [], ◌∷◌, ◌++◌, length, drop, get_or, Option, refl, sym, ap, ◌∙◌, Vec, Global}
use Rattle.std.specs.Prelude.{flat_map, not, ◌&&◌}
use Rattle.std.proofs.lemmas.List.{at_drop_more}
use Rattle.std.proofs.lemmas.List.Folds.{flat_map-map}
use Rattle.std.proofs.lemmas.Grind.{flat_map-append}
use Rattle.asm_syntax.specs.SourceTree.{Spec}
use Rattle.asm_check.specs.Names.{Meaning, InTerm, Use, uses_of, uses, declared, is_known, arguments_of, is_assignable}
use Rattle.asm_check.specs.code.FaultLists.{faults_of_use, faults_of_bound, all_of_use, use_faults, miscounts, is_target}
use Rattle.asm_check.specs.code.LeastFaults.{least_after}
use Rattle.asm_check.specs.code.uses.UseViews.{uses_in, AreUsesOf}
use Rattle.asm_check.specs.declared.uses.declaration_uses.Use.{Use as CodeUse}
use Rattle.asm_check.proofs.LeastSoFar.{noted_after}

-- the faults of what is left make of what is found what all make of it
pub one_step : {X : Type 0} (faults : X → List (ℕ × ℕ)) (start before after : Option (ℕ × ℕ)) (xs : List X) (i : ℕ) (x : X) → i < length xs
    → least_after before (flat_map faults (drop i xs)) ≡ start → after ≡ least_after before (faults (get_or xs i x)) → least_after after (flat_map faults (drop (i + 1) xs)) ≡ start
one_step faults start before after xs i x below rest e =
    noted_after before after (faults (get_or xs i x)) (flat_map faults (drop (i + 1) xs)) e
    ∙ sym (at_drop_more (λ ys. least_after before (flat_map faults ys)) xs i x below)
    ∙ rest

-- of the uses of one item
abbrev pub list_faults : Spec → Vec CodeUse Global → List (ℕ × ℕ)
list_faults spec v = flat_map (all_of_use spec) (uses_in v)

flat_twice : {A B C : Type 0} (f : A → List B) (g : B → List C) (xs : List A) → flat_map g (flat_map f xs) ≡ flat_map (λ x. flat_map g (f x)) xs
flat_twice f g [] = refl
flat_twice f g (x ∷ xs) = flat_map-append g (f x) (flat_map f xs) ∙ ap (λ ys. flat_map g (f x) ++ ys) (flat_twice f g xs)

pub faults_of_lists : (spec : Spec) (lists : List (Vec CodeUse Global)) → AreUsesOf spec.items lists → use_faults spec ≡ flat_map (list_faults spec) lists
unfolding use_faults uses
faults_of_lists spec lists are =
    flat_twice uses_of (all_of_use spec) spec.items
    ∙ sym (flat_map-map (flat_map (all_of_use spec)) uses_of spec.items)
    ∙ ap (flat_map (flat_map (all_of_use spec))) (sym are)
    ∙ flat_map-map (flat_map (all_of_use spec)) uses_in lists

-- ---- of one use

abbrev faults_at : ℕ → (known miscounted unassignable : Bool) → List (ℕ × ℕ)
faults_at at known miscounted unassignable = cond known (cond miscounted ((at, 10) ∷ []) (cond unassignable ((at, 11) ∷ []) [])) ((at, 9) ∷ [])

module _ (spec : Spec) (u : Use) (m : Option Meaning) (means : m ≡ declared spec u.name.text) where
  abbrev known_there : Bool
  known_there = is_known u.role u.is_bound m

  abbrev miscounted_there : Bool
  miscounted_there = miscounts (arguments_of u.role u.is_bound m) u.count

  abbrev unassignable_there : Bool
  unassignable_there = is_target u.role && not (is_assignable u.is_bound m)

  same_faults : faults_of_use spec u ≡ faults_at u.name.at known_there miscounted_there unassignable_there
  same_faults =
      ap (λ o. faults_at u.name.at (is_known u.role u.is_bound o) (miscounts (arguments_of u.role u.is_bound o) u.count) (is_target u.role && not (is_assignable u.is_bound o))) (sym means)

  pub faults_unknown : known_there ≡ false → faults_of_use spec u ≡ (u.name.at, 9) ∷ []
  faults_unknown k = same_faults ∙ ap (λ b. faults_at u.name.at b miscounted_there unassignable_there) k

  pub faults_miscounted : known_there ≡ true → miscounted_there ≡ true → faults_of_use spec u ≡ (u.name.at, 10) ∷ []
  faults_miscounted k n =
      same_faults ∙ ap (λ b. faults_at u.name.at b miscounted_there unassignable_there) k ∙ ap (λ b. faults_at u.name.at true b unassignable_there) n

  pub faults_last : (b : Bool) → known_there ≡ true → miscounted_there ≡ false → unassignable_there ≡ b → faults_of_use spec u ≡ cond b ((u.name.at, 11) ∷ []) []
  faults_last b k n a =
      same_faults ∙ ap (λ b. faults_at u.name.at b miscounted_there unassignable_there) k ∙ ap (λ b. faults_at u.name.at true b unassignable_there) n
      ∙ ap (λ b. faults_at u.name.at true false b) a

-- a bound name in a term has only the fault of arguments
pub bound_faults : (spec : Spec) (u : Use) → u.role ≡ InTerm → u.is_bound ≡ true → faults_of_use spec u ≡ faults_of_bound u
bound_faults spec u role bound =
    let m = declared spec u.name.text in
    ap (λ r. faults_at u.name.at (is_known r u.is_bound m) (miscounts (arguments_of r u.is_bound m) u.count) (is_target r && not (is_assignable u.is_bound m))) role
    ∙ ap (λ b. faults_at u.name.at (is_known InTerm b m) (miscounts (arguments_of InTerm b m) u.count) (is_target InTerm && not (is_assignable b m))) bound
