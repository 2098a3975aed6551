-- Free. What several writes in a row do to known bytes.
use Rattle.std.proofs.Common.{ℕ, ◌+◌, List, ◌++◌, Option, None, Some, take, drop, ap, sym, subst, ◌∙◌, append_assoc}
use Rattle.std.proofs.Math.Seq.{take-add}
use Rattle.std.proofs.lemmas.List.{take_rest}
use Rattle.std.specs.Io.KnownBytes.{Appends}

-- one text after another
pub Appends-trans : (a b c : Option (List ℕ)) (xs ys : List ℕ) → Appends a b xs → Appends b c ys → Appends a c (xs ++ ys)
Appends-trans None b c xs ys p q = tt
Appends-trans (Some x) None c xs ys p q = absurd p
Appends-trans (Some x) (Some y) None xs ys p q = absurd q
Appends-trans (Some x) (Some y) (Some z) xs ys p q = q ∙ ap (λ l. l ++ ys) p ∙ append_assoc x xs ys

-- a further piece of one text
pub Appends-take : (a b c : Option (List ℕ)) (text : List ℕ) (n k : ℕ) → Appends a b (take n text) → Appends b c (take k (drop n text)) → Appends a c (take (n + k) text)
Appends-take a b c text n k p q = subst (Appends a c) (sym (take-add n k text)) (Appends-trans a b c (take n text) (take k (drop n text)) p q)

-- what a tactic needs for several writes in a row
pub ruleset appending = (take_rest, Appends-trans, Appends-take)
