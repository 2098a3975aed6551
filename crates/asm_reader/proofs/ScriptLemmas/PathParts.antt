-- Free. The numbers of a path, one more part at a time.
use Rattle.std.proofs.Common.{◌≡◌, ℕ, zero, suc, ◌<◌, List, [], ◌∷◌, ◌++◌, length, map, get_or, Option, None, Some, refl, sym, ap, ◌∙◌, arith}
use Rattle.std.specs.Iterator.{Yields}
use Rattle.std.proofs.lemmas.Iterator.{YieldsList}
use Rattle.std.proofs.lemmas.Iterator.Consumers.{YieldsList-turn, YieldsList-end}
use Rattle.asm_reader.specs.ScriptText.{number_of, number_then, numbers_of}

-- what comes after a number that is one
pub after_number : (o : Option ℕ) (rest : Option (List ℕ)) (ks : List ℕ) → number_then o rest ≡ Some ks → (k : ℕ) × (more : List ℕ) × (o ≡ Some k) × (rest ≡ Some more) × (ks ≡ k ∷ more)
after_number None rest ks e = absurd cc
after_number (Some k) None ks e = absurd cc
after_number (Some k) (Some more) ks e = (k, more, refl, refl, cc)

pub numbers_push : (parts : List (List ℕ)) (bytes : List ℕ) (ks : List ℕ) (k : ℕ) → numbers_of parts ≡ Some ks → number_of bytes ≡ Some k → numbers_of (parts ++ bytes ∷ []) ≡ Some (ks ++ k ∷ [])
numbers_push [] bytes ks k e f = let none : ks ≡ [] = cc in ap (λ o. number_then o (Some [])) f ∙ ap (λ l. Some (l ++ k ∷ [])) (sym none)
numbers_push (part ∷ parts) bytes ks k e f =
    let first = after_number (number_of part) (numbers_of parts) ks e in
    (λ j. number_then (first.2 j) (numbers_push parts bytes first.1 k first.3 f j)) ∙ ap (λ l. Some (l ++ k ∷ [])) (sym first.4)

no_rest : (o : Option ℕ) → number_then o None ≡ None
no_rest None = refl
no_rest (Some k) = refl

-- a part that is no number
pub bad_part : (parts : List (List ℕ)) (i : ℕ) (bytes : List ℕ) → i < length parts → bytes ≡ get_or parts i bytes → number_of bytes ≡ None → numbers_of parts ≡ None
bad_part [] i bytes h e f = absurd (omega (arith, h))
bad_part (part ∷ parts) zero bytes h e f = (λ j. number_then ((ap number_of (sym e) ∙ f) j) (numbers_of parts))
bad_part (part ∷ parts) (suc i) bytes h e f = ap (number_then (number_of part)) (bad_part parts i bytes (omega (arith, h)) e f) ∙ no_rest (number_of part)

-- ---- where a loop over the parts of a text is

module _ {S A B : Type 0} {steps : S → Option A → S → Type 0} {v : A → B} {s : S} {all : List B} (xs : List A) (t : S) (y : Yields steps s xs t) (r : Option A) (u : S) where
  pub turn_of : (x : A) → r ≡ Some x → steps t r u → YieldsList steps v s all → (length xs < length all) × (v x ≡ get_or all (length xs) (v x))
  turn_of x is goes road = YieldsList-turn road xs t y r u x is goes

  pub end_of : r ≡ None → steps t r u → YieldsList steps v s all → map v xs ≡ all
  end_of is goes road = (YieldsList-end road xs t y r u is goes).0
