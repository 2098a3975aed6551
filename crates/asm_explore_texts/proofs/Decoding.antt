-- Free. The characters of bytes, one after another.
use Rattle.std.proofs.Common.{◌≡◌, ℕ, zero, suc, ◌-◌, ◌<◌, ◌≤◌, List, [], ◌∷◌, ◌++◌, length, take, drop, min, refl, ap, sym, ◌∙◌, arith, Option, None, Some, unwrap_or, slice_get}
use Rattle.std.proofs.lemmas.Grind.{common_steps}
use Rattle.std.specs.Str.{chars}
use Rattle.std.specs.Str.Lossy.{utf8_valid_len}
use Rattle.asm_explore_texts.specs.Positions.{characters, characters_behind, first_character, length_of}

characters_behind-is : (n : ℕ) (bs : List ℕ) → characters_behind n bs ≡ characters (drop n bs)
characters_behind-is zero [] = refl
characters_behind-is zero (b ∷ bs) = refl
characters_behind-is (suc n) [] = refl
characters_behind-is (suc n) (b ∷ bs) = characters_behind-is n bs

length_of_some : (first : Option ℕ) → 0 < length_of first
length_of_some None = omega arith
length_of_some (Some c) = grind arith

drop_of : (n : ℕ) (b : ℕ) (bs : List ℕ) → 0 < n → drop (n - 1) bs ≡ drop n (b ∷ bs)
drop_of n b bs h = grind (arith, common_steps)

-- the first character, and those after it
pub characters_step : (bs : List ℕ) (first : Option ℕ) (n : ℕ) → 0 < length bs → first ≡ first_character bs → n ≡ length_of first → characters bs ≡ unwrap_or first 63 ∷ characters (drop n bs)
characters_step [] first n some e m = absurd (omega (arith, some))
characters_step (b ∷ bs) first n some e m =
    let length_is : n ≡ length_of (first_character (b ∷ bs)) = m ∙ ap length_of e in
    let positive : 0 < n = omega (arith, length_of_some first, m) in
    let behind : characters_behind (length_of (first_character (b ∷ bs)) - 1) bs ≡ characters (drop n (b ∷ bs)) =
    ap (λ k. characters_behind (k - 1) bs) (sym length_is) ∙ characters_behind-is (n - 1) bs ∙ ap characters (drop_of n b bs positive) in
    ap (λ l. unwrap_or (first_character (b ∷ bs)) 63 ∷ l) behind ∙ ap (λ o. unwrap_or o 63 ∷ characters (drop n (b ∷ bs))) (sym e)

take_front : (valid rest : List ℕ) → take (length valid) (valid ++ rest) ≡ valid
take_front valid rest = grind (arith, common_steps)

take_least : (bs : List ℕ) → take (min (length bs) 4) bs ≡ take 4 bs
take_least bs = grind (arith, common_steps)

-- the text at the front of four bytes begins with the first character
pub first_character-is : (bs front valid rest : List ℕ) → front ≡ take (min (length bs) 4) bs → front ≡ valid ++ rest → length valid ≡ utf8_valid_len front → slice_get (chars valid) 0 ≡ first_character bs
first_character-is bs front valid rest e f n =
    let four : front ≡ take 4 bs = e ∙ take_least bs in
    let text : valid ≡ take (utf8_valid_len front) front = sym (take_front valid rest) ∙ ap (take (length valid)) (sym f) ∙ ap (λ k. take k front) n in
    ap (λ l. slice_get (chars l) 0) (text ∙ ap (λ l. take (utf8_valid_len l) l) four)

length-characters_behind : (n : ℕ) (bs : List ℕ) → length (characters_behind n bs) ≤ length bs
length-characters_behind n [] = omega arith
length-characters_behind (suc n) (b ∷ bs) = omega (arith, length-characters_behind n bs)
length-characters_behind zero (b ∷ bs) = omega (arith, length-characters_behind (length_of (first_character (b ∷ bs)) - 1) bs)

pub length-characters : (bs : List ℕ) → length (characters bs) ≤ length bs
length-characters bs = length-characters_behind 0 bs
