-- Free. Texts that grow towards a whole, and what refuses a part of one.
--     refusal_in       what refuses a part refuses the whole
--     grown, shorter     a text with what was next; it is no longer than the whole
--     long_first         a number that is long, before others
--     dotted_at          what is left of numbers after dots
--     left, left_at      what is left of lines, and the next of them before it
use Rattle.std.proofs.Common.{◌≡◌, ℕ, Bool, true, false, cond, refl, ◌+◌, ◌≤◌, ◌<◌, List, [], ◌∷◌, ◌++◌, length, drop, get_or, decimal, inl, inr, ◌∙◌, ap, arith}
use Rattle.std.proofs.lemmas.List.{append_assoc, length-append, at_drop_more}
use Rattle.asm_syntax.specs.declared.input_error.InputError.{InputError}
use Rattle.asm_syntax.specs.declared.input_error.InputError.TheVariants.{Memory, Named}
use Rattle.asm_explore.specs.declared.scripts.writing_error.WritingError.{WritingError}
use Rattle.asm_explore.specs.declared.scripts.writing_error.WritingError.TheVariants.{TooLong, LongNumber}
use Rattle.asm_explore.specs.declared.scripts.script_line.ScriptLine.{ScriptLine}
use Rattle.asm_explore.specs.declared.scripts.script_line.Zeros.{Zeros}
use Rattle.asm_reader.specs.ScriptLines.{Line}
use Rattle.asm_explore.specs.WrittenScripts.{line_said, lines_said, AnyIsLong, IsTextRefusal, dotted, is_written, written}

pub refusal_in : (part whole bytes text : List ℕ) (e : InputError WritingError) → (AnyIsLong part → AnyIsLong whole) → length bytes ≤ length text
    → IsTextRefusal part bytes e → IsTextRefusal whole text e
refusal_in part whole bytes text Memory long shorter h = tt
refusal_in part whole bytes text (Named TooLong) long shorter h = omega (arith, h)
refusal_in part whole bytes text (Named LongNumber) long shorter h = long h

pub grown : (text next rest whole new : List ℕ) → text ++ (next ++ rest) ≡ whole → new ≡ text ++ next → new ++ rest ≡ whole
grown text next rest whole new leads is = ap (λ t. t ++ rest) is ∙ append_assoc text next rest ∙ leads

pub shorter : (text next rest whole : List ℕ) → text ++ (next ++ rest) ≡ whole → length (text ++ next) ≤ length whole
shorter text next rest whole leads =
    omega (arith, ap length leads, length-append text (next ++ rest), length-append next rest, length-append text next)

pub long_first : (k : ℕ) (ks : List ℕ) → AnyIsLong (k ∷ []) → AnyIsLong (k ∷ ks)
long_first k ks (inl h) = inl h
long_first k ks (inr h) = absurd h

pub dotted_at : (numbers : List ℕ) (i : ℕ) → i < length numbers → dotted (drop i numbers) ≡ 46 ∷ (decimal (get_or numbers i 0) ++ dotted (drop (i + 1) numbers))
dotted_at numbers i low = at_drop_more dotted numbers i 0 low

-- ---- lines

one_before : (b : Bool) (line : Line) (rest : List Line) → cond b (line ∷ rest) rest ≡ cond b (line ∷ []) [] ++ rest
one_before true line rest = refl
one_before false line rest = refl

pub written_more : (zeros : Zeros) (line : Line) (lines : List Line) → written zeros (line ∷ lines) ≡ written zeros (line ∷ []) ++ written zeros lines
written_more zeros line lines = one_before (is_written zeros line.choice) line (written zeros lines)

-- what is written of the lines from one on
abbrev pub left : Zeros → List ScriptLine → ℕ → List Line
left zeros lines i = written zeros (lines_said (drop i lines))

pub left_at : (zeros : Zeros) (lines : List ScriptLine) (i : ℕ) (d : ScriptLine) → i < length lines
    → left zeros lines i ≡ written zeros (line_said (get_or lines i d) ∷ []) ++ left zeros lines (i + 1)
left_at zeros lines i d low =
    at_drop_more (λ ls. written zeros (lines_said ls)) lines i d low ∙ written_more zeros (line_said (get_or lines i d)) (lines_said (drop (i + 1) lines))
