-- Free. The gap at the front of a text ends in one offset.
use Rattle.std.proofs.Common.{◌≡◌, ℕ, List, [], ◌∷◌, ◌++◌, true, ap, sym, subst, ◌∙◌, inl, inr, append_assoc, arith}
use Rattle.std.proofs.lemmas.List.{append_cancel_right}
use Rattle.std.proofs.lemmas.List.Concat.{flat_map-cons}
use Rattle.std.proofs.lemmas.List.Elements.{All-head, All-tail}
use Rattle.std.specs.Prelude.{◌⊎◌, All, IsTrue, codes, flat_map}
use Rattle.asm_syntax.specs.Tokens.{newline, is_blank, StandsIn, IsFiller, IsGap}

-- ---- the first end of a comment

clean_behind : (bytes : List ℕ) (b : ℕ) (inside : List ℕ) → ¬ StandsIn bytes (b ∷ inside) → ¬ StandsIn bytes inside
clean_behind bytes b inside clean (front, back, e) = clean (b ∷ front, back, ap (λ l. b ∷ l) e)

pub one_line : (i j x y : List ℕ) → i ++ newline ∷ x ≡ j ++ newline ∷ y → ¬ StandsIn (newline ∷ []) i → ¬ StandsIn (newline ∷ []) j → x ≡ y
one_line [] [] x y e first second = cc
one_line [] (b ∷ j) x y e first second = let same : b ≡ newline = cc in absurd (second ([], j, ap (λ c. c ∷ j) same))
one_line (a ∷ i) [] x y e first second = let same : a ≡ newline = cc in absurd (first ([], i, ap (λ c. c ∷ i) same))
one_line (a ∷ i) (b ∷ j) x y e first second =
    let behind : i ++ newline ∷ x ≡ j ++ newline ∷ y = cc in
    one_line i j x y behind (clean_behind (newline ∷ []) a i first) (clean_behind (newline ∷ []) b j second)

pub second_same : (a b c d : ℕ) (x y : List ℕ) → a ∷ b ∷ x ≡ c ∷ d ∷ y → b ≡ d
second_same a b c d x y e = cc

-- bytes that go on by `*/` when others have it at once
no_end_later : (b : ℕ) (j x y : List ℕ) → 42 ∷ 47 ∷ x ≡ b ∷ j ++ 42 ∷ 47 ∷ y → ¬ StandsIn (codes "*/") (b ∷ j) → ⊥
no_end_later b [] x y e clean = let same : ◌≡◌ {A = ℕ} 47 42 = second_same 42 47 b 42 x (47 ∷ y) e in omega arith
no_end_later b (c ∷ j) x y e clean =
    let star : b ≡ 42 = cc in
    let slash : c ≡ 47 = cc in
    clean ([], j, λ i. star i ∷ slash i ∷ j)

pub one_close : (i j x y : List ℕ) → i ++ 42 ∷ 47 ∷ x ≡ j ++ 42 ∷ 47 ∷ y → ¬ StandsIn (codes "*/") i → ¬ StandsIn (codes "*/") j → x ≡ y
one_close [] [] x y e first second = cc
one_close [] (b ∷ j) x y e first second = absurd (no_end_later b j x y e second)
one_close (a ∷ i) [] x y e first second = absurd (no_end_later a i y x (sym e) first)
one_close (a ∷ i) (b ∷ j) x y e first second =
    let behind : i ++ 42 ∷ 47 ∷ x ≡ j ++ 42 ∷ 47 ∷ y = cc in
    one_close i j x y behind (clean_behind (codes "*/") a i first) (clean_behind (codes "*/") b j second)

-- ---- blanks and comments

-- the text begins with a blank or a comment, and goes on so
abbrev pub Filled : List ℕ → List ℕ → Type 0
Filled behind text =
    ((b : ℕ) × IsTrue (is_blank b) × (text ≡ b ∷ behind))
    ⊎ ((inside : List ℕ) × (text ≡ 47 ∷ 42 ∷ inside ++ 42 ∷ 47 ∷ behind) × ¬ StandsIn (codes "*/") inside)
    ⊎ ((inside : List ℕ) × (text ≡ 47 ∷ 47 ∷ inside ++ newline ∷ behind) × ¬ StandsIn (newline ∷ []) inside)

filled : (piece behind : List ℕ) → IsFiller piece → Filled behind (piece ++ behind)
filled piece behind (inl (b, blank, e)) = inl (b, blank, ap (λ l. l ++ behind) e)
filled piece behind (inr (inl (inside, e, clean))) =
    inr (inl (inside, ap (λ l. l ++ behind) e ∙ ap (λ l. 47 ∷ 42 ∷ l) (append_assoc inside (codes "*/") behind), clean))
filled piece behind (inr (inr (comment, (inside, begun, clean), e))) =
    inr (inr (inside, ap (λ l. l ++ behind) (e ∙ ap (λ l. l ++ newline ∷ []) begun) ∙ ap (λ l. 47 ∷ 47 ∷ l) (append_assoc inside (newline ∷ []) behind), clean))

-- `/*` isn't `//`
pub no_star_slash : (x y : List ℕ) → 47 ∷ 42 ∷ x ≡ 47 ∷ 47 ∷ y → ⊥
no_star_slash x y e = let same : ◌≡◌ {A = ℕ} 42 47 = second_same 47 42 47 47 x y e in omega arith

pub blank_no_slash : (b : ℕ) → is_blank b ≡ true → b ≡ 47 → ⊥
blank_no_slash b blank e = grind arith

one_filling : (x y text other : List ℕ) → Filled x text → Filled y other → text ≡ other → x ≡ y
one_filling x y text other (inl (a, _, e)) (inl (b, _, f)) same = cc
one_filling x y text other (inl (a, blank, e)) (inr (inl (inside, f, clean))) same = absurd (blank_no_slash a blank (cc))
one_filling x y text other (inl (a, blank, e)) (inr (inr (inside, f, clean))) same = absurd (blank_no_slash a blank (cc))
one_filling x y text other (inr (inl (inside, e, clean))) (inl (b, blank, f)) same = absurd (blank_no_slash b blank (cc))
one_filling x y text other (inr (inr (inside, e, clean))) (inl (b, blank, f)) same = absurd (blank_no_slash b blank (cc))
one_filling x y text other (inr (inl (i, e, first))) (inr (inl (j, f, second))) same =
    let closes : i ++ 42 ∷ 47 ∷ x ≡ j ++ 42 ∷ 47 ∷ y = cc in one_close i j x y closes first second
one_filling x y text other (inr (inr (i, e, first))) (inr (inr (j, f, second))) same =
    let ends : i ++ newline ∷ x ≡ j ++ newline ∷ y = cc in one_line i j x y ends first second
one_filling x y text other (inr (inl (i, e, _))) (inr (inr (j, f, _))) same = absurd (no_star_slash (i ++ 42 ∷ 47 ∷ x) (j ++ newline ∷ y) (sym e ∙ same ∙ f))
one_filling x y text other (inr (inr (i, e, _))) (inr (inl (j, f, _))) same = absurd (no_star_slash (j ++ 42 ∷ 47 ∷ y) (i ++ newline ∷ x) (sym f ∙ sym same ∙ e))

-- ---- gaps

-- no blank and no closed comment is at the front
abbrev pub IsSolid : List ℕ → Type 0
IsSolid text = (behind : List ℕ) → ¬ Filled behind text

abbrev joined : List (List ℕ) → List ℕ
joined parts = flat_map (λ part. part) parts

joined_more : (part : List ℕ) (parts : List (List ℕ)) (rest : List ℕ) → joined (part ∷ parts) ++ rest ≡ part ++ (joined parts ++ rest)
joined_more part parts rest = ap (λ l. l ++ rest) (flat_map-cons (λ p. p) part parts) ∙ append_assoc part (joined parts) rest

filled_more : (part : List ℕ) (parts : List (List ℕ)) (rest : List ℕ) → IsFiller part → Filled (joined parts ++ rest) (joined (part ∷ parts) ++ rest)
filled_more part parts rest filler =
    let F : List ℕ → Type 0 = Filled (joined parts ++ rest) in
    subst F (sym (joined_more part parts rest)) (filled part (joined parts ++ rest) filler)

parts_end : (ps qs : List (List ℕ)) (r s : List ℕ) → All IsFiller ps → All IsFiller qs → joined ps ++ r ≡ joined qs ++ s → IsSolid r → IsSolid s → r ≡ s
parts_end [] [] r s ps_fill qs_fill e first second = e
parts_end [] (q ∷ qs) r s ps_fill qs_fill e first second =
    let F : List ℕ → Type 0 = Filled (joined qs ++ s) in
    absurd (first (joined qs ++ s) (subst F (sym e) (filled_more q qs s (All-head IsFiller q qs qs_fill))))
parts_end (p ∷ ps) [] r s ps_fill qs_fill e first second =
    let F : List ℕ → Type 0 = Filled (joined ps ++ r) in
    absurd (second (joined ps ++ r) (subst F e (filled_more p ps r (All-head IsFiller p ps ps_fill))))
parts_end (p ∷ ps) (q ∷ qs) r s ps_fill qs_fill e first second =
    let behind = one_filling (joined ps ++ r) (joined qs ++ s) (joined (p ∷ ps) ++ r) (joined (q ∷ qs) ++ s) (filled_more p ps r (All-head IsFiller p ps ps_fill)) (filled_more q qs s (All-head IsFiller q qs qs_fill)) e in
    parts_end ps qs r s (All-tail IsFiller p ps ps_fill) (All-tail IsFiller q qs qs_fill) behind first second

-- before texts that begin with no blank and no comment, a text has one gap at most
pub one_gap : (g h r s : List ℕ) → g ++ r ≡ h ++ s → IsGap g → IsGap h → IsSolid r → IsSolid s → (g ≡ h) × (r ≡ s)
one_gap g h r s e (ps, ps_fill, g_is) (qs, qs_fill, h_is) first second =
    let ends = parts_end ps qs r s ps_fill qs_fill (ap (λ l. l ++ r) (sym g_is) ∙ e ∙ ap (λ l. l ++ s) h_is) first second in
    (append_cancel_right g h r (e ∙ ap (λ l. h ++ l) (sym ends)), ends)
