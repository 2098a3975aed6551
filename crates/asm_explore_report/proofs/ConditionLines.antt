-- Free. Lines of conditions, and their numbers, one after the other.
--     line_more       the line of one more condition
--     number_more     the number of one more
use Rattle.std.proofs.Common.{◌≡◌, ◌∙◌, ℕ, suc, ◌+◌, ◌-◌, ◌<◌, List, [], ◌∷◌, ◌++◌, length, drop, get_or, codes, decimal, ap, sym, arith, append_assoc}
use Rattle.std.proofs.lemmas.List.{drop_more}
use Rattle.asm_explore_texts.specs.Conditions.{texts_of}
use Rattle.asm_explore_texts.specs.declared.conditions.Condition.{Condition}
use Rattle.asm_explore_report.specs.Facts.{condition_line, lines_from, numbered_from}

pub line_more : (before whole : List (List ℕ)) (conditions : List Condition) (k : ℕ) (d : Condition) (name : List ℕ) → k < length conditions
    → name ≡ codes "condition " ++ decimal (k + 1) → before ++ lines_from (k + 1) (texts_of (drop k conditions)) ≡ whole
    → (before ++ condition_line name (get_or conditions k d).text.items ∷ []) ++ lines_from (k + 1 + 1) (texts_of (drop (k + 1) conditions)) ≡ whole
line_more before whole conditions k d name low is known =
    let one = (get_or conditions k d).text.items in
    let rest = texts_of (drop (k + 1) conditions) in
    let next : k + 1 + 1 ≡ suc (k + 1) = omega arith in
    let cons : lines_from (k + 1) (texts_of (drop k conditions)) ≡ condition_line (codes "condition " ++ decimal (k + 1)) one ∷ lines_from (suc (k + 1)) rest =
    ap (λ cs. lines_from (k + 1) (texts_of cs)) (drop_more conditions k d low) in
    append_assoc before (condition_line name one ∷ []) (lines_from (k + 1 + 1) rest)
    ∙ (ap (λ n. before ++ condition_line n one ∷ lines_from (k + 1 + 1) rest) is
    ∙ (ap (λ n. before ++ condition_line (codes "condition " ++ decimal (k + 1)) one ∷ lines_from n rest) next
    ∙ (ap (λ ls. before ++ ls) (sym cons) ∙ known)))

pub number_more : (before whole : List ℕ) (k n : ℕ) → k < n → before ++ numbered_from (k + 1) (n - k) ≡ whole
    → (before ++ (codes ", condition " ++ decimal (k + 1))) ++ numbered_from (k + 1 + 1) (n - (k + 1)) ≡ whole
number_more before whole k n low known =
    let front = codes ", condition " in
    let number = decimal (k + 1) in
    let left : n - k ≡ suc (n - (k + 1)) = omega (arith, low) in
    let next : k + 1 + 1 ≡ suc (k + 1) = omega arith in
    let cons : numbered_from (k + 1) (n - k) ≡ front ++ (number ++ numbered_from (suc (k + 1)) (n - (k + 1))) = ap (numbered_from (k + 1)) left in
    append_assoc before (front ++ number) (numbered_from (k + 1 + 1) (n - (k + 1)))
    ∙ (ap (λ t. before ++ t) (append_assoc front number (numbered_from (k + 1 + 1) (n - (k + 1))))
    ∙ (ap (λ m. before ++ (front ++ (number ++ numbered_from m (n - (k + 1))))) next
    ∙ (ap (λ t. before ++ t) (sym cons) ∙ known)))
