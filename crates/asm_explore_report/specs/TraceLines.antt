-- Definition. A text as lines, and the lines of a trace.
--     text_lines text      its lines, each without the line feed that ends it; what is after the
--                          last one is a line, unless it is empty
--     AreTraceLines        the lines of the trace of the run that is shown, if there is one
use Rattle.std.specs.Prelude.{◌≡◌, ◌==◌, ℕ, List, [], ◌∷◌, ◌++◌, Option, Some, None, cond}
use Rattle.asm_explore_report.specs.RunEnds.{IsTraceOf}
use Rattle.asm_explore_report.specs.ShownRuns.{Shown}

abbrev pub rest_lines : (line : List ℕ) → List (List ℕ)
rest_lines [] = []
rest_lines (byte ∷ line) = (byte ∷ line) ∷ []

-- the lines of a line that has begun, and of what is after it
abbrev pub lines_behind : List ℕ → (line : List ℕ) → List (List ℕ)
lines_behind [] line = rest_lines line
lines_behind (byte ∷ bytes) line = cond (byte == 10) (line ∷ lines_behind bytes []) (lines_behind bytes (line ++ byte ∷ []))

abbrev pub text_lines : List ℕ → List (List ℕ)
text_lines text = lines_behind text []

-- ---- the run that is shown

abbrev pub AreTraceLines : (text : List ℕ) → (turns : ℕ) → Option Shown → (lines : List (List ℕ)) → Type 0
AreTraceLines text turns None lines = lines ≡ []
AreTraceLines text turns (Some shown) lines = (trace : List ℕ) × IsTraceOf text shown.0 turns shown.1 trace × (lines ≡ text_lines trace)
