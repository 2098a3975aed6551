-- Free. What is printed, and what it spells.
--     named_comments    a part has no comments just when it has no lines
--     printed_says      comments before a script, unless even the first one alone is too many
use Rattle.std.proofs.Common.{◌≡◌, ℕ, List, [], ◌∷◌, ◌++◌, inl, inr, refl, sym, subst}
use Rattle.std.specs.Prelude.{◌⊎◌, ◌<◌, length}
use Rattle.asm_reader.specs.ScriptLines.{Script}
use Rattle.asm_reader.specs.ScriptText.{IsScript, max_script}
use Rattle.asm_explore_texts.specs.Comments.{comments}
use Rattle.asm_explore_report.specs.Printed.{IsReportText, behind_first, left_out, named, no_comments, no_table, no_trace}
use Rattle.asm_explore_report.proofs.SkippedLines.{comments_say}

pub named_comments : (name : List ℕ) (lines : List (List ℕ)) → named name (comments lines) ≡ named name lines
named_comments name [] = refl
named_comments name ([] ∷ lines) = refl
named_comments name ((b ∷ line) ∷ lines) = refl

pub printed_says : (first : List ℕ) (facts table trace : List (List ℕ)) (bare text : List ℕ) → IsReportText first facts table trace bare text → (script : Script) → IsScript bare script
    → IsScript text script ⊎ (max_script < length (behind_first first (left_out (no_comments first facts table trace bare)) bare))
printed_says first facts table trace bare text (inl (fits, is)) script spelled =
    inl (subst (λ t. IsScript t script) (sym is) (comments_say bare script spelled (first ∷ (facts ++ (table ++ trace))) fits))
printed_says first facts table trace bare text (inr (long, inl (fits, is))) script spelled =
    inl (subst (λ t. IsScript t script) (sym is) (comments_say bare script spelled (first ∷ (facts ++ (table ++ left_out (no_trace first facts table trace bare)))) fits))
printed_says first facts table trace bare text (inr (long, inr (longer, inl (fits, is)))) script spelled =
    inl (subst (λ t. IsScript t script) (sym is) (comments_say bare script spelled (first ∷ (facts ++ left_out (no_table first facts table trace bare))) fits))
printed_says first facts table trace bare text (inr (long, inr (longer, inr (still, inl (fits, is))))) script spelled =
    inl (subst (λ t. IsScript t script) (sym is) (comments_say bare script spelled (first ∷ left_out (no_comments first facts table trace bare)) fits))
printed_says first facts table trace bare text (inr (long, inr (longer, inr (still, inr (longest, is))))) script spelled = inr longest
