-- Free. Texts within quotes.
--     quoted_law      they end at the quote behind them
use Rattle.std.proofs.Common.{◌≡◌, ℕ, ◌+◌, ◌/◌, ◌%◌, ◌≤◌, Bool, true, false, cond, List, [], ◌∷◌, ◌++◌, refl, ap, ◌∙◌, append_assoc, arith}
use Rattle.std.proofs.Math.Utf8.{encode}
use Rattle.std.proofs.lemmas.Bool.{ne_eqb}
use Rattle.std.specs.Prelude.{◌==◌, nat_lt, codes, encode_utf8, if◌then◌else◌}
use Rattle.asm_graph.specs.Dot.{behind_quote, escaped, escaped_character, QuotedLaw}

-- a byte that is no quote and no backslash
pass : (b : ℕ) (bytes : List ℕ) → (b == 34) ≡ false → (b == 92) ≡ false → behind_quote false (b ∷ bytes) ≡ behind_quote false bytes
pass b bytes no_quote no_backslash = ap (λ t. if t then bytes else behind_quote (b == 92) bytes) no_quote ∙ ap (λ t. behind_quote t bytes) no_backslash

pass_high : (b : ℕ) (bytes : List ℕ) → 128 ≤ b → behind_quote false (b ∷ bytes) ≡ behind_quote false bytes
pass_high b bytes high = pass b bytes (ne_eqb b 34 (λ same. omega (arith, same, high))) (ne_eqb b 92 (λ same. omega (arith, same, high)))

by_length : (c : ℕ) (bytes : List ℕ) (one two three : Bool) → (c == 34) ≡ false → (c == 92) ≡ false → nat_lt c 128 ≡ one
    → behind_quote false (cond one (c ∷ []) (cond two ((192 + c / 64) ∷ (128 + c % 64) ∷ []) (cond three ((224 + c / 4096) ∷ (128 + (c / 64) % 64) ∷ (128 + c % 64) ∷ []) ((240 + c / 262144) ∷ (128 + (c / 4096) % 64) ∷ (128 + (c / 64) % 64) ∷ (128 + c % 64) ∷ []))) ++ bytes) ≡ behind_quote false bytes
by_length c bytes true two three no_quote no_backslash is = pass c bytes no_quote no_backslash
by_length c bytes false true three no_quote no_backslash is = pass_high (192 + c / 64) ((128 + c % 64) ∷ bytes) (omega arith) ∙ pass_high (128 + c % 64) bytes (omega arith)
by_length c bytes false false true no_quote no_backslash is =
    pass_high (224 + c / 4096) ((128 + (c / 64) % 64) ∷ (128 + c % 64) ∷ bytes) (omega arith) ∙ pass_high (128 + (c / 64) % 64) ((128 + c % 64) ∷ bytes) (omega arith) ∙ pass_high (128 + c % 64) bytes (omega arith)
by_length c bytes false false false no_quote no_backslash is =
    pass_high (240 + c / 262144) ((128 + (c / 4096) % 64) ∷ (128 + (c / 64) % 64) ∷ (128 + c % 64) ∷ bytes) (omega arith) ∙ pass_high (128 + (c / 4096) % 64) ((128 + (c / 64) % 64) ∷ (128 + c % 64) ∷ bytes) (omega arith)
    ∙ pass_high (128 + (c / 64) % 64) ((128 + c % 64) ∷ bytes) (omega arith) ∙ pass_high (128 + c % 64) bytes (omega arith)

character : (c : ℕ) (bytes : List ℕ) → (c == 34) ≡ false → (c == 92) ≡ false → behind_quote false (encode_utf8 c ++ bytes) ≡ behind_quote false bytes
unfolding encode
character c bytes no_quote no_backslash = by_length c bytes (nat_lt c 128) (nat_lt c 2048) (nat_lt c 65536) no_quote no_backslash refl

by_tests : (c : ℕ) (bytes : List ℕ) (quote backslash feed : Bool) → (c == 34) ≡ quote → (c == 92) ≡ backslash
    → behind_quote false ((if quote then codes "\\\"" else (if backslash then codes "\\\\" else (if feed then codes "\\n" else encode_utf8 c))) ++ bytes) ≡ behind_quote false bytes
by_tests c bytes true backslash feed is_quote is_backslash = refl
by_tests c bytes false true feed is_quote is_backslash = refl
by_tests c bytes false false true is_quote is_backslash = refl
by_tests c bytes false false false is_quote is_backslash = character c bytes is_quote is_backslash

pub quoted_law : QuotedLaw
quoted_law [] rest = refl
quoted_law (c ∷ bytes) rest =
    ap (behind_quote false) (append_assoc (escaped_character c) (escaped bytes) (34 ∷ rest))
    ∙ by_tests c (escaped bytes ++ 34 ∷ rest) (c == 34) (c == 92) (c == 10) refl refl ∙ quoted_law bytes rest
