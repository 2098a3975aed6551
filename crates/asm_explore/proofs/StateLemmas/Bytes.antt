-- Free. Each byte stands for a value.
--     is_code          it has the code of one
--     none_is_undef    so none stands for none
--     other_content    those with other codes stand for other values
use Rattle.std.proofs.Common.{◌≡◌, ◌≢◌, ◌∙◌, ℕ, ◌<◌, inl, inr, sym, ap, arith}
use Rattle.std.proofs.lemmas.Bool.{cases_lt, lt-ltb, le-ltb}
use Rattle.asm_state.specs.code.Codes.{code_of}
use Rattle.asm_state.specs.code.WordCodes.{same_code}
use Rattle.asm_state.specs.Words.{IsCode}
use Rattle.asm_state.specs.declared.value.Value.{Value}
use Rattle.asm_state.specs.declared.value.Value.TheVariants.{Undef}
use Rattle.asm_explore.specs.code.ByteValues.{code_of_byte, content_of_byte}

is_code : (b : ℕ) → b < 256 → IsCode (code_of_byte b)
is_code b fits =
    elim (cases_lt b 4) [
      | inl low ↦ let first = lt-ltb b 4 low in rw first (record { positive = omega arith; known = omega arith })
      | inr past ↦
          let first = le-ltb b 4 past in
          elim (cases_lt b 132) [
            | inl low ↦ let then = lt-ltb b 132 low in rw (first, then) (record { positive = omega arith; known = omega arith })
            | inr beyond ↦ let then = le-ltb b 132 beyond in rw (first, then) (record { positive = omega arith; known = omega arith })
          ]
    ]

pub none_is_undef : (b : ℕ) → b < 256 → ((v : Value) → code_of v ≢ code_of_byte b) → Undef ≡ content_of_byte b
none_is_undef b fits none = absurd (none (content_of_byte b) (same_code (code_of_byte b) (is_code b fits)))

pub other_content : (b : ℕ) (v : Value) → b < 256 → code_of_byte b ≢ code_of v → content_of_byte b ≢ v
other_content b v fits other same = other (sym (same_code (code_of_byte b) (is_code b fits)) ∙ ap code_of same)
