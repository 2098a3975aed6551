-- Free. Texts that grow piece by piece.
use Rattle.std.proofs.Common.{◌≡◌, ℕ, List, ◌++◌, append_assoc, ap, ◌∙◌}

module _ (out a b c d e t₁ t₂ t₃ t₄ t₅ : List ℕ) (e₁ : t₁ ≡ out ++ a) (e₂ : t₂ ≡ t₁ ++ b) (e₃ : t₃ ≡ t₂ ++ c) (e₄ : t₄ ≡ t₃ ++ d) (e₅ : t₅ ≡ t₄ ++ e) where
  pub five_pieces : t₅ ≡ out ++ (a ++ (b ++ (c ++ (d ++ e))))
  five_pieces = e₅ ∙ ap (λ w. w ++ e) (e₄ ∙ ap (λ w. w ++ d) (e₃ ∙ ap (λ w. w ++ c) (e₂ ∙ ap (λ w. w ++ b) e₁))) ∙ simp append_assoc
