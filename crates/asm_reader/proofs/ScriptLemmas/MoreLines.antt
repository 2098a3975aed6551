-- Free. A script with one more line.
use Rattle.std.proofs.Common.{◌≡◌, ℕ, Bool, true, false, cond, List, [], ◌∷◌, ◌++◌, Some, None, refl, ap, ◌∙◌}
use Rattle.std.specs.Option.{option_or, unwrap_or}
use Rattle.asm_reader.specs.ScriptLines.{Line, SaidLine, ForStep, ForEvery, Script, line_then, script_of, is_line_of, exact_choice, pick}
use Rattle.asm_reader.specs.ExactLines.{exactly}
use Rattle.asm_reader.specs.code.LinesSaid.{then_line}

between : (first last : SaidLine) (script : Script) → line_then first (then_line script last) ≡ then_line (line_then first script) last
between (ForStep k) (ForStep l) script = refl
between (ForStep k) (ForEvery l) script = refl
between (ForEvery k) (ForStep l) script = refl
between (ForEvery k) (ForEvery l) script = refl

pub script_of_push : (lines : List SaidLine) (line : SaidLine) → script_of (lines ++ line ∷ []) ≡ then_line (script_of lines) line
script_of_push [] (ForStep l) = refl
script_of_push [] (ForEvery l) = refl
script_of_push (k ∷ lines) line = ap (line_then k) (script_of_push lines line) ∙ between k line (script_of lines)

pub pick_line : (line : Line) (lines : List Line) (step : ℕ) (p : List ℕ) → pick (exactly (line ∷ lines)) step p ≡ cond (is_line_of step p line) line.choice (pick (exactly lines) step p)
pick_line line lines step p = by_test (is_line_of step p line)
  where
    by_test : (b : Bool) → unwrap_or (option_or (cond b (Some line.choice) (exact_choice lines step p)) None) 0 ≡ cond b line.choice (pick (exactly lines) step p)
    by_test true = refl
    by_test false = refl
