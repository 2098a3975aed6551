-- Free. Names that are repeated in a list.
use Rattle.std.proofs.Common.{◌≡◌, ℕ, Bool, true, false, cond, ◌||◌, List, [], ◌∷◌, ◌++◌, map, refl, sym, ap, ◌∙◌}
use Rattle.std.proofs.Math.Bool.{or-false}
use Rattle.asm_syntax.specs.SourceTree.{Name}
use Rattle.asm_check.specs.Names.{Text, is_text, is_among, text_of}
use Rattle.asm_check.specs.code.FaultLists.{repeats, at_with}
use Rattle.asm_check.proofs.NameLemmas.FirstDeclarations.{covered, turn}

-- one more name
pub repeats_one : (before : List Text) (xs : List Name) (x : Name)
    → repeats before (xs ++ x ∷ []) ≡ repeats before xs ++ cond (is_among before x.text || is_among (map text_of xs) x.text) (x.at ∷ []) []
repeats_one before [] x = ap (λ b. cond b (x.at ∷ []) []) (sym (or-false (is_among before x.text)))
repeats_one before (c ∷ xs) x = by_known (is_among before c.text) refl (repeats_one before xs x) (repeats_one (c.text ∷ before) xs x)
  where
    by_known : (b : Bool) → is_among before c.text ≡ b
        → repeats before (xs ++ x ∷ []) ≡ repeats before xs ++ cond (is_among before x.text || is_among (map text_of xs) x.text) (x.at ∷ []) []
        → repeats (c.text ∷ before) (xs ++ x ∷ []) ≡ repeats (c.text ∷ before) xs ++ cond ((is_text c.text x.text || is_among before x.text) || is_among (map text_of xs) x.text) (x.at ∷ []) []
        → cond b (c.at ∷ repeats before (xs ++ x ∷ [])) (repeats (c.text ∷ before) (xs ++ x ∷ []))
        ≡ cond b (c.at ∷ repeats before xs) (repeats (c.text ∷ before) xs) ++ cond (is_among before x.text || (is_text c.text x.text || is_among (map text_of xs) x.text)) (x.at ∷ []) []
    by_known true known same more =
        ap (λ ys. c.at ∷ ys) same
        ∙ ap (λ b. c.at ∷ (repeats before xs ++ cond b (x.at ∷ []) [])) (covered before c.text x.text (is_among (map text_of xs) x.text) known)
    by_known false new same more =
        more ∙ ap (λ b. repeats (c.text ∷ before) xs ++ cond b (x.at ∷ []) []) (turn (is_among before x.text) (is_text c.text x.text) (is_among (map text_of xs) x.text))

pub at_with_append : (number : ℕ) (xs ys : List ℕ) → at_with number (xs ++ ys) ≡ at_with number xs ++ at_with number ys
at_with_append number [] ys = refl
at_with_append number (x ∷ xs) ys = ap (λ zs. (x, number) ∷ zs) (at_with_append number xs ys)

-- the faults of one more name, that is there or not
pub repeated_one : (xs : List Name) (x : Name) (b : Bool) → is_among (map text_of xs) x.text ≡ b
    → at_with 8 (repeats [] (xs ++ x ∷ [])) ≡ at_with 8 (repeats [] xs) ++ cond b ((x.at, 8) ∷ []) []
repeated_one xs x b e =
    ap (at_with 8) (repeats_one [] xs x)
    ∙ at_with_append 8 (repeats [] xs) (cond (is_among (map text_of xs) x.text) (x.at ∷ []) [])
    ∙ ap (λ zs. at_with 8 (repeats [] xs) ++ zs) (ap (λ c. at_with 8 (cond c (x.at ∷ []) [])) e ∙ by_case b)
  where
    by_case : (b : Bool) → at_with 8 (cond b (x.at ∷ []) []) ≡ cond b ((x.at, 8) ∷ []) []
    by_case true = refl
    by_case false = refl
