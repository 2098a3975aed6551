-- Free. What is said of lines of a script, line by line.
--     left_more        of one line more
--     line_more        one line more of those that are looked at
--     removed_at       after the lines that the choice at an index meets were removed
--     written          the pieces of what is said of a line
--     said_more, said_same    whether it is said
--     counted          the number of a line
use Rattle.std.proofs.Common.{◌≡◌, ◌∙◌, ◌+◌, ◌<◌, ℕ, suc, Bool, true, false, cond, List, Bor, [], ◌∷◌, ◌++◌, length, map, take, Vec, Global, get_or, codes, decimal, append_assoc, append-nil, sym, ap, arith}
use Rattle.std.specs.Str.Lines.{strip_carriage_return}
use Rattle.std.proofs.lemmas.List.{length-map, length-take-le, map-append, take_more}
use Rattle.asm_reader.specs.ScriptLines.{SaidLine}
use Rattle.asm_explore.specs.WrittenScripts.{line_said, lines_said}
use Rattle.asm_explore.specs.declared.scripts.script_line.ScriptLine.{ScriptLine}
use Rattle.asm_explore_run.specs.UnmetLines.{is_met, unmet_line}
use Rattle.asm_explore_texts.specs.Comments.{lines_of}
use Rattle.asm_explore_run.specs.code.LineKeys.{has_said, left_from, meets}
use Rattle.asm_explore_run.specs.declared.line_keys.LineKeys.{LineKeys}
use Rattle.asm_explore_run.proofs.KeySets.{removed}

pub left_more : (n : ℕ) (keys : LineKeys) (lines : List (List ℕ)) (bytes : List ℕ)
    → left_from n keys (lines ++ bytes ∷ []) ≡ left_from n keys lines ++ cond (has_said bytes keys) (unmet_line (n + length lines) bytes ∷ []) []
left_more n keys [] bytes =
    let same : n ≡ n + 0 = omega arith in
    append-nil (cond (has_said bytes keys) (unmet_line n bytes ∷ []) []) ∙ ap (λ m. cond (has_said bytes keys) (unmet_line m bytes ∷ []) []) same
left_more n keys (line ∷ lines) bytes =
    let same : suc n + length lines ≡ n + length (line ∷ lines) = omega arith in
    ap (λ t. cond (has_said line keys) (unmet_line n line ∷ []) [] ++ t)
    (left_more (suc n) keys lines bytes ∙ ap (λ m. left_from (suc n) keys lines ++ cond (has_said bytes keys) (unmet_line m bytes ∷ []) []) same)
    ∙ sym (append_assoc (cond (has_said line keys) (unmet_line n line ∷ []) []) (left_from (suc n) keys lines) (cond (has_said bytes keys) (unmet_line (n + length (line ∷ lines)) bytes ∷ []) []))

pub line_more : (lines : List (Bor (List ℕ))) (i : ℕ) (d : Bor (List ℕ)) (line : List ℕ) → i < length lines → line ≡ strip_carriage_return (get_or lines i d).now
    → map (λ l. strip_carriage_return l.now) (take (i + 1) lines) ≡ map (λ l. strip_carriage_return l.now) (take i lines) ++ line ∷ []
line_more lines i d line low is =
    ap (map (λ l. strip_carriage_return l.now)) (take_more lines i d low) ∙ map-append (λ l. strip_carriage_return l.now) (take i lines) (get_or lines i d ∷ [])
    ∙ ap (λ l. map (λ l. strip_carriage_return l.now) (take i lines) ++ l ∷ []) (sym is)

-- after the lines that the choice at an index meets were removed
pub removed_at : (made : List ScriptLine) (k : ℕ) (d : ScriptLine) (line : SaidLine) (old now new : Bool) → k < length made → now ≡ cond (is_met (lines_said (take k made)) line) false old
    → new ≡ cond (meets (line_said (get_or made k d)) line) false now → new ≡ cond (is_met (lines_said (take (k + 1) made)) line) false old
removed_at made k d line old now new low before after =
    removed (lines_said (take k made)) (line_said (get_or made k d)) line old now new before after
    ∙ ap (λ lines. cond (is_met lines line) false old) (sym (ap lines_said (take_more made k d low) ∙ map-append line_said (take k made) (get_or made k d ∷ [])))

-- the pieces of what is said of a line
pub written : (n : ℕ) (line none front digits numbered middle whole : List ℕ) → none ≡ [] → front ≡ none ++ codes "no choose met line " → digits ≡ decimal n → numbered ≡ front ++ digits
    → middle ≡ numbered ++ codes " of the script: " → whole ≡ middle ++ line → whole ≡ unmet_line n line
written n line none front digits numbered middle whole a b c d e f =
    f ∙ ap (λ t. t ++ line) (e ∙ ap (λ t. t ++ codes " of the script: ") (d ∙ (λ j. (b ∙ ap (λ t. t ++ codes "no choose met line ") a) j ++ c j)))
    ∙ append_assoc (codes "no choose met line " ++ decimal n) (codes " of the script: ") line
    ∙ append_assoc (codes "no choose met line ") (decimal n) (codes " of the script: " ++ line)

-- one more that is said, if it is
pub said_more : (old : List (Vec ℕ Global)) (comment : Vec ℕ Global) (line : List ℕ) (left : Bool) → comment.items ≡ line → left ≡ true
    → lines_of (old ++ comment ∷ []) ≡ lines_of old ++ cond left (line ∷ []) []
said_more old comment line left is e =
    map-append (λ c. c.items) old (comment ∷ []) ∙ ap (λ t. lines_of old ++ t ∷ []) is ∙ ap (λ b. lines_of old ++ cond b (line ∷ []) []) (sym e)

pub said_same : (old : List (Vec ℕ Global)) (line : List ℕ) (left : Bool) → left ≡ false → lines_of old ≡ lines_of old ++ cond left (line ∷ []) []
said_same old line left e = sym (append-nil (lines_of old)) ∙ ap (λ b. lines_of old ++ cond b (line ∷ []) []) (sym e)

-- the number of a line
pub counted : (lines : List (Bor (List ℕ))) (i : ℕ) → i < length lines → 1 + length (map (λ l. strip_carriage_return l.now) (take i lines)) ≡ i + 1
counted lines i low = omega (arith, length-map (take i lines) (λ l. strip_carriage_return l.now), length-take-le i lines (omega (arith, low)), low)
