-- Free. A text begins with one token at most.
use Rattle.std.proofs.Common.{◌≡◌, ℕ, List, [], ◌∷◌, ◌++◌, refl, ap, sym, subst, ◌∙◌, inl, inr, ⊎_elim}
use Rattle.std.proofs.lemmas.List.{append-nil}
use Rattle.std.specs.Prelude.{◌⊎◌}
use Rattle.asm_syntax.specs.declared.token.Kind.{Kind}
use Rattle.asm_syntax.specs.Tokens.{Spells, IsLongest}

abbrev Beyond : List ℕ → List ℕ → List ℕ → List ℕ → Type 0
Beyond p x q y = (more : List ℕ) × (q ≡ p ++ more) × (x ≡ more ++ y)

beyond_more : (a b : ℕ) (p x q y : List ℕ) → a ≡ b → Beyond p x q y → Beyond (a ∷ p) x (b ∷ q) y
beyond_more a b p x q y same (more, longer, rest) = (more, λ i. sym same i ∷ longer i, rest)

-- of two fronts of one text, one goes on to the other
fronts : (p x q y : List ℕ) → p ++ x ≡ q ++ y → Beyond p x q y ⊎ Beyond q y p x
fronts [] x q y e = inl (q, refl, e)
fronts (a ∷ p) x [] y e = inr (a ∷ p, refl, sym e)
fronts (a ∷ p) x (b ∷ q) y e =
    let heads : a ≡ b = cc in
    let tails : p ++ x ≡ q ++ y = cc in
    ⊎_elim (λ on. inl (beyond_more a b p x q y heads on)) (λ on. inr (beyond_more b a q y p x (sym heads) on)) (fronts p x q y tails)

goes_no_further : (p x q y : List ℕ) (l : Kind) → Beyond p x q y → IsLongest p x → Spells q l → (p ≡ q) × (x ≡ y)
goes_no_further p x q y l (more, longer, rest) longest spelled =
    let S : List ℕ → Type 0 = λ t. Spells t l in
    let none = longest more y l rest (subst S longer spelled) in
    (sym (longer ∙ ap (λ m. p ++ m) none ∙ append-nil p), rest ∙ ap (λ m. m ++ y) none)

pub one_token : (p x q y : List ℕ) (k l : Kind) → p ++ x ≡ q ++ y → Spells p k → Spells q l → IsLongest p x → IsLongest q y → (p ≡ q) × (x ≡ y)
one_token p x q y k l e first second longest furthest =
    ⊎_elim
    (λ on. goes_no_further p x q y l on longest second)
    (λ on. let same = goes_no_further q y p x k on furthest first in (sym same.0, sym same.1))
    (fronts p x q y e)
