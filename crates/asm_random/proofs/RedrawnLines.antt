-- Free. The lines with the numbers that are drawn for the choices of a step.
--     lines_by asked   them
--     fresh            none of those of the choices before one has its path
--     with_zero        a line of the first candidate changes nothing
--     with_number      another one tells its number at its path, and nothing elsewhere
--     takes_settled    choices that are drawn are taken by these lines
use Rattle.std.proofs.Common.{◌≡◌, ◌≢◌, ◌∙◌, ℕ, zero, suc, ◌+◌, ◌<◌, ◌&&◌, Bool, true, false, cond, nat_eq, List, [], ◌∷◌, ◌++◌, Option, None, Some, unwrap_or, length, map, take, get_or, refl, sym, ap, arith, Vec, Global}
use Rattle.std.specs.BTreeMap.{BTreeMap}
use Rattle.std.specs.Cmp.Lexicographic.{pointwise}
use Rattle.std.specs.Option.{option_or}
use Rattle.std.proofs.lemmas.Bool.{false_from_ne_true}
use Rattle.std.proofs.lemmas.List.{map-append, take_more}
use Rattle.std.proofs.lemmas.Slice.Eq.{bytes_eq-Decides}
use Rattle.asm_reader.specs.ExactLines.{exactly}
use Rattle.asm_reader.specs.ScriptLines.{Line, exact_choice, is_line_of, pick}
use Rattle.asm_explore.specs.ListElements.{Each}
use Rattle.asm_explore.specs.ChoicePoints.{Asking, choices_of}
use Rattle.asm_explore.specs.ChoicesMadeLaws.{Takes}
use Rattle.asm_explore.specs.TakenChoices.{HaveOwnPaths}
use Rattle.asm_explore.specs.declared.outcomes.listed_outcome.Choice.{Choice}
use Rattle.asm_random.specs.DrawnNumbers.{drawn_number}
use Rattle.asm_random.specs.DrawnTexts.{AreDrawn, drawn_line}
use Rattle.asm_random.specs.code.DraftSteps.{PutsNumber}
use Rattle.asm_random.specs.code.Drafts.{lines_in}
use Rattle.asm_random.proofs.DraftLines.{behind, or_nothing}
use Rattle.asm_random.proofs.EachDrawn.{each_at}

-- ---- tests

same : (n : ℕ) → nat_eq n n ≡ true
same n = grind (arith)

differs : (p q : List ℕ) → p ≢ q → pointwise nat_eq p q ≡ false
differs p q h = false_from_ne_true (pointwise nat_eq p q) (λ is. h ((bytes_eq-Decides p q).0 is))

own : (p : List ℕ) → pointwise nat_eq p p ≡ true
own p = (bytes_eq-Decides p p).1 refl

clash : (b : Bool) → b ≡ true → b ≡ false → ⊥
clash b is_true is_false = cc

pub each_with : {X : Type 0} (P Q R : X → Type 0) (xs : List X) → ((x : X) → P x → Q x → R x) → Each P xs → Each Q xs → Each R xs
each_with P Q R [] h ps qs = tt
each_with P Q R (x ∷ xs) h ps qs = (h x ps.0 qs.0, each_with P Q R xs h ps.1 qs.1)

-- what lines for one step each pick
pub picked : (step : ℕ) (ls : List Line) (p : List ℕ) → pick (exactly ls) step p ≡ unwrap_or (exact_choice ls step p) 0
picked step ls p = ap (λ o. unwrap_or o 0) (or_nothing (exact_choice ls step p))

module _ (seed number step : ℕ) where
  abbrev pub lines_by : List Asking → List Line
  lines_by asked = map (drawn_line seed number step) asked

  abbrev drawn_for : Asking → ℕ
  drawn_for asking = drawn_number seed number step asking.choice.path (length asking.candidates)

  -- the line of a choice is for its path alone
  at_own : (a : Asking) → is_line_of step a.choice.path (drawn_line seed number step a) ≡ true
  at_own a = ap (λ b. b && pointwise nat_eq a.choice.path a.choice.path) (same step) ∙ own a.choice.path

  elsewhere : (a : Asking) (p : List ℕ) → a.choice.path ≢ p → is_line_of step p (drawn_line seed number step a) ≡ false
  elsewhere a p h = ap (λ b. b && pointwise nat_eq a.choice.path p) (same step) ∙ differs a.choice.path p h

  passed : (a : Asking) (ls : List Line) (p : List ℕ) → a.choice.path ≢ p → exact_choice (drawn_line seed number step a ∷ ls) step p ≡ exact_choice ls step p
  passed a ls p h = ap (λ b. cond b (Some (drawn_for a)) (exact_choice ls step p)) (elsewhere a p h)

  -- ---- one choice after the other

  module _ {X : Type 0} (said : X → Asking) where
    pub fresh : (xs : List X) (k : ℕ) (d : X) → k < length xs → HaveOwnPaths (choices_of (map said xs))
        → exact_choice (lines_by (map said (take k xs))) step (said (get_or xs k d)).choice.path ≡ None
    fresh [] k d low apart = absurd (omega (arith, low))
    fresh (x ∷ xs) zero d low apart = refl
    fresh (x ∷ xs) (suc k) d low apart =
        let less : k < length xs = omega (arith, low) in
        passed (said x) (lines_by (map said (take k xs))) (said (get_or xs k d)).choice.path
        (each_at (λ (a : Asking). (said x).choice.path ≢ a.choice.path) said xs k d less (all_apart xs apart.0))
        ∙ fresh xs k d less apart.1
      where
        all_apart : (ys : List X) → Each (λ (c : Choice). (said x).choice.path ≢ c.path) (choices_of (map said ys)) → Each (λ (a : Asking). (said x).choice.path ≢ a.choice.path) (map said ys)
        all_apart [] h = tt
        all_apart (y ∷ ys) h = (h.0, all_apart ys h.1)

    grown : (xs : List X) (k : ℕ) (d : X) → k < length xs
        → lines_by (map said (take (k + 1) xs)) ≡ lines_by (map said (take k xs)) ++ drawn_line seed number step (said (get_or xs k d)) ∷ []
    grown xs k d low =
        ap (λ ys. lines_by (map said ys)) (take_more xs k d low)
        ∙ (ap lines_by (map-append said (take k xs) (get_or xs k d ∷ []))
        ∙ map-append (drawn_line seed number step) (map said (take k xs)) (said (get_or xs k d) ∷ []))

    -- what is picked with one line more
    picked_grown : (xs : List X) (k : ℕ) (d : X) (p : List ℕ) → k < length xs
        → exact_choice (lines_by (map said (take (k + 1) xs))) step p
        ≡ option_or (exact_choice (lines_by (map said (take k xs))) step p) (exact_choice (drawn_line seed number step (said (get_or xs k d)) ∷ []) step p)
    picked_grown xs k d p low =
        ap (λ ls. exact_choice ls step p) (grown xs k d low)
        ∙ behind (lines_by (map said (take k xs))) (drawn_line seed number step (said (get_or xs k d)) ∷ []) step p

    pub with_zero : (xs : List X) (k : ℕ) (d : X) (p : List ℕ) → k < length xs → drawn_for (said (get_or xs k d)) ≡ 0
        → unwrap_or (exact_choice (lines_by (map said (take (k + 1) xs))) step p) 0 ≡ unwrap_or (exact_choice (lines_by (map said (take k xs))) step p) 0
    with_zero xs k d p low is =
        ap (λ o. unwrap_or o 0) (picked_grown xs k d p low)
        ∙ no_more (exact_choice (lines_by (map said (take k xs))) step p) (is_line_of step p (drawn_line seed number step (said (get_or xs k d)))) (drawn_for (said (get_or xs k d))) is
      where
        no_more : (o : Option ℕ) (b : Bool) (n : ℕ) → n ≡ 0 → unwrap_or (option_or o (cond b (Some n) None)) 0 ≡ unwrap_or o 0
        no_more (Some m) b n h = refl
        no_more None true n h = h
        no_more None false n h = refl

    pub with_number : (xs : List X) (k : ℕ) (d : X) (p : List ℕ) → k < length xs → HaveOwnPaths (choices_of (map said xs))
        → unwrap_or (exact_choice (lines_by (map said (take (k + 1) xs))) step p) 0
        ≡ cond (pointwise nat_eq p (said (get_or xs k d)).choice.path) (drawn_for (said (get_or xs k d))) (unwrap_or (exact_choice (lines_by (map said (take k xs))) step p) 0)
    with_number xs k d p low apart =
        ap (λ o. unwrap_or o 0) (picked_grown xs k d p low)
        ∙ by (pointwise nat_eq p (said (get_or xs k d)).choice.path) refl
      where
        a : Asking
        a = said (get_or xs k d)

        before : Option ℕ
        before = exact_choice (lines_by (map said (take k xs))) step p

        by : (b : Bool) → pointwise nat_eq p a.choice.path ≡ b → unwrap_or (option_or before (exact_choice (drawn_line seed number step a ∷ []) step p)) 0 ≡ cond b (drawn_for a) (unwrap_or before 0)
        by true is =
            let here : p ≡ a.choice.path = (bytes_eq-Decides p a.choice.path).0 is in
            let none : before ≡ None = ap (exact_choice (lines_by (map said (take k xs))) step) here ∙ fresh xs k d low apart in
            let it : exact_choice (drawn_line seed number step a ∷ []) step p ≡ Some (drawn_for a) = ap (exact_choice (drawn_line seed number step a ∷ []) step) here ∙ ap (λ c. cond c (Some (drawn_for a)) None) (at_own a) in
            ap (λ o. unwrap_or (option_or o (exact_choice (drawn_line seed number step a ∷ []) step p)) 0) none ∙ ap (λ o. unwrap_or o 0) it
        by false is =
            let there : a.choice.path ≢ p = λ eq. clash (pointwise nat_eq p a.choice.path) ((bytes_eq-Decides p a.choice.path).1 (sym eq)) is in
            ap (λ o. unwrap_or (option_or before o) 0) (passed a [] p there) ∙ ap (λ o. unwrap_or o 0) (or_nothing before)

    -- a number is put to its path, unless it is 0
    pub one_more : (xs : List X) (k : ℕ) (p : List ℕ) (old new : BTreeMap (Vec ℕ Global) ℕ) (n : ℕ) (d : X) → (n ≡ drawn_for (said (get_or xs k d)))
        → (n ≡ 0 → new.entries ≡ old.entries) → (n ≢ 0 → PutsNumber old new (said (get_or xs k d)).choice.path n) → k < length xs → HaveOwnPaths (choices_of (map said xs))
        → unwrap_or (exact_choice (lines_in step old.entries) step p) 0 ≡ unwrap_or (exact_choice (lines_by (map said (take k xs))) step p) 0
        → unwrap_or (exact_choice (lines_in step new.entries) step p) 0 ≡ unwrap_or (exact_choice (lines_by (map said (take (k + 1) xs))) step p) 0
    one_more xs k p old new zero d is kept put low apart h =
        ap (λ (es : List (Vec ℕ Global × ℕ)). unwrap_or (exact_choice (lines_in step es) step p) 0) (kept refl)
        ∙ (h ∙ sym (with_zero xs k d p low (sym is)))
    one_more xs k p old new (suc m) d is kept put low apart h =
        let path = (said (get_or xs k d)).choice.path in
        ap (λ o. unwrap_or o 0) (put more step p) ∙ (out (pointwise nat_eq p path) (exact_choice (lines_in step old.entries) step p)
        ∙ (ap (cond (pointwise nat_eq p path) (suc m)) h
        ∙ (ap (λ j. cond (pointwise nat_eq p path) j (unwrap_or (exact_choice (lines_by (map said (take k xs))) step p) 0)) is
        ∙ sym (with_number xs k d p low apart))))
      where
        more : suc m ≢ 0
        more e = absurd (omega (arith, e))

        out : (b : Bool) (o : Option ℕ) → unwrap_or (cond b (Some (suc m)) o) 0 ≡ cond b (suc m) (unwrap_or o 0)
        out true o = refl
        out false o = refl

  -- ---- all choices of a step

  pub takes_settled : (xs : List Asking) → HaveOwnPaths (choices_of xs) → AreDrawn seed number step xs → Takes (pick (exactly (lines_by xs)) step) (choices_of xs)
  takes_settled [] apart are = tt
  takes_settled (x ∷ xs) apart are = (
    ap (λ o. unwrap_or (option_or o None) 0) (ap (λ b. cond b (Some (drawn_for x)) (exact_choice (lines_by xs) step x.choice.path)) (at_own x)) ∙ sym are.0,
    each_with (λ (c : Choice). x.choice.path ≢ c.path) (λ (c : Choice). pick (exactly (lines_by xs)) step c.path ≡ c.number)
        (λ (c : Choice). pick (exactly (lines_by (x ∷ xs))) step c.path ≡ c.number) (choices_of xs)
        (λ c there is. ap (λ o. unwrap_or (option_or o None) 0) (passed x (lines_by xs) c.path there) ∙ is)
        apart.0 (takes_settled xs apart.1 are.1),
  )
