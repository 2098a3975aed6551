-- Free. What kinds of bytes exclude one another.
use Rattle.std.proofs.Common.{◌≡◌, ℕ, Bool, true, arith}
use Rattle.std.specs.Prelude.{◌||◌, nat_eq}
use Rattle.std.specs.Char.{is_ascii_digit}
use Rattle.asm_syntax.specs.Tokens.{is_blank, is_letter}

pub letter_no_digit : (b : ℕ) → is_letter b ≡ true → is_ascii_digit b ≡ true → ⊥
letter_no_digit b l d = grind arith

-- a blank, or the `/` of a comment
abbrev pub begins_filler : ℕ → Bool
begins_filler b = is_blank b || nat_eq b 47

pub letter_no_filler : (b : ℕ) → is_letter b ≡ true → begins_filler b ≡ true → ⊥
letter_no_filler b l f = grind arith

pub digit_no_filler : (b : ℕ) → is_ascii_digit b ≡ true → begins_filler b ≡ true → ⊥
digit_no_filler b d f = grind arith
