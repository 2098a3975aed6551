-- Free. Texts that are added one after the other.
use Rattle.std.proofs.Common.{◌≡◌, ◌++◌, ℕ, List, append_assoc, refl}

pub after_binding : (l w x i u b r : List ℕ) → (l ++ (w ++ (x ++ (i ++ (u ++ b))))) ++ r ≡ l ++ (w ++ (x ++ (i ++ (u ++ (b ++ r)))))
after_binding l w x i u b r = simp append_assoc refl
