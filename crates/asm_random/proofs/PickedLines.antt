-- Free. What a script with a line for each choice picks.
--     IsIn x xs         an element of a list
--     each_in           what holds of each element that is in a list holds of each
--     picked_line       of lines no two of which have one step and path each is picked
--     line_in           the line of a choice is among those of all steps
use Rattle.std.proofs.Common.{◌≡◌, ◌∙◌, ℕ, zero, suc, ◌+◌, ◌&&◌, ◌⊎◌, inl, inr, true, false, cond, nat_eq, List, [], ◌∷◌, ◌++◌, Some, refl, sym, ap, subst, arith, slice_get}
use Rattle.std.specs.Cmp.Lexicographic.{pointwise}
use Rattle.std.specs.List.{AllByRecursion, IsDistinct}
use Rattle.asm_reader.specs.ScriptLines.{Line, exact_choice, is_line_of}
use Rattle.asm_meaning.specs.Scripts.{have_one_key}
use Rattle.asm_explore.specs.ChoiceLines.{lines_for}
use Rattle.asm_explore.specs.ListElements.{Each}
use Rattle.asm_explore.specs.RunChoices.{lines_from}
use Rattle.asm_explore.specs.declared.outcomes.listed_outcome.Choice.{Choice}

abbrev pub IsIn : {X : Type 0} → X → List X → Type 0
IsIn x [] = ⊥
IsIn x (y ∷ ys) = (y ≡ x) ⊎ IsIn x ys

pub each_in : {X : Type 0} (P : X → Type 0) (xs : List X) → ((x : X) → IsIn x xs → P x) → Each P xs
each_in P [] h = tt
each_in P (x ∷ xs) h = (h x (inl refl), each_in P xs (λ y is. h y (inr is)))

in_front : {X : Type 0} (x : X) (xs ys : List X) → IsIn x xs → IsIn x (xs ++ ys)
in_front x [] ys is = absurd is
in_front x (y ∷ xs) ys (inl is) = inl is
in_front x (y ∷ xs) ys (inr is) = inr (in_front x xs ys is)

in_behind : {X : Type 0} (x : X) (xs ys : List X) → IsIn x ys → IsIn x (xs ++ ys)
in_behind x [] ys is = is
in_behind x (y ∷ xs) ys is = inr (in_behind x xs ys is)

-- ---- lines

eq_sym : (m n : ℕ) → nat_eq m n ≡ nat_eq n m
eq_sym m n = grind (arith)

both_ways : (xs ys : List ℕ) → pointwise nat_eq xs ys ≡ pointwise nat_eq ys xs
both_ways [] [] = refl
both_ways [] (y ∷ ys) = refl
both_ways (x ∷ xs) [] = refl
both_ways (x ∷ xs) (y ∷ ys) = ap (λ b. b && pointwise nat_eq xs ys) (eq_sym x y) ∙ ap (λ b. nat_eq y x && b) (both_ways xs ys)

key_sym : (k l : Line) → is_line_of l.step l.path k ≡ have_one_key k l
key_sym k l = ap (λ b. b && pointwise nat_eq k.path l.path) (eq_sym k.step l.step) ∙ ap (λ b. nat_eq l.step k.step && b) (both_ways k.path l.path)

same : (n : ℕ) → nat_eq n n ≡ true
same n = grind (arith)

same_path : (p : List ℕ) → pointwise nat_eq p p ≡ true
same_path [] = refl
same_path (n ∷ p) = ap (λ b. b && pointwise nat_eq p p) (same n) ∙ same_path p

own_line : (l : Line) → is_line_of l.step l.path l ≡ true
own_line l = ap (λ b. b && pointwise nat_eq l.path l.path) (same l.step) ∙ same_path l.path

all_in : {X : Type 0} (P : X → Type 0) (x : X) (xs : List X) → AllByRecursion P xs → IsIn x xs → P x
all_in P x [] h is = absurd is
all_in P x (y ∷ ys) h (inl is) = subst P is h.0
all_in P x (y ∷ ys) h (inr is) = all_in P x ys h.1 is

pub picked_line : (ls : List Line) (l : Line) → IsDistinct have_one_key ls → IsIn l ls → exact_choice ls l.step l.path ≡ Some l.choice
unfolding IsDistinct
picked_line [] l apart is = absurd is
picked_line (k ∷ ls) l apart (inl is) =
    ap (λ (it : Line). exact_choice (k ∷ ls) it.step it.path) (sym is)
    ∙ ap (λ b. cond b (Some k.choice) (exact_choice ls k.step k.path)) (own_line k) ∙ ap (λ (it : Line). Some it.choice) is
picked_line (k ∷ ls) l apart (inr is) =
    ap (λ b. cond b (Some k.choice) (exact_choice ls l.step l.path)) (key_sym k l ∙ all_in (λ (other : Line). have_one_key k other ≡ false) l ls apart.0 is)
    ∙ picked_line ls l apart.1 is

line_of : (step : ℕ) → Choice → Line
line_of step c = record { step = step; path = c.path; choice = c.number }

in_step : (step : ℕ) (c : Choice) (cs : List Choice) → IsIn c cs → IsIn (record { step = step; path = c.path; choice = c.number }) (lines_for step cs)
in_step step c [] is = absurd is
in_step step c (d ∷ cs) (inl is) = inl (ap (λ (e : Choice). record { step = step; path = e.path; choice = e.number }) is)
in_step step c (d ∷ cs) (inr is) = inr (in_step step c cs is)

pub line_in : (i k : ℕ) (c : Choice) (cs : List Choice) (steps : List (List Choice)) → slice_get steps k ≡ Some cs → IsIn c cs
    → IsIn (record { step = i + k; path = c.path; choice = c.number }) (lines_from i steps)
line_in i k c cs [] at is = absurd (none_some cs at)
  where
    none_some : (ds : List Choice) → slice_get [] k ≡ Some ds → ⊥
    none_some ds e = cc
line_in i zero c cs (ds ∷ steps) at is =
    let here : i + 0 ≡ i = omega arith in
    let same : ds ≡ cs = cc in
    in_front _ (lines_for i ds) (lines_from (suc i) steps)
    (subst (λ (n : ℕ). IsIn (record { step = n; path = c.path; choice = c.number }) (lines_for i ds)) (sym here) (in_step i c ds (subst (IsIn c) (sym same) is)))
line_in i (suc k) c cs (ds ∷ steps) at is =
    let next : suc i + k ≡ i + suc k = omega arith in
    in_behind _ (lines_for i ds) (lines_from (suc i) steps)
    (subst (λ (n : ℕ). IsIn (record { step = n; path = c.path; choice = c.number }) (lines_from (suc i) steps)) next (line_in (suc i) k c cs steps at is))
