-- Free. Texts of a page, piece by piece.
--     at_end         a last piece, if it is added
--     three_parts    three pieces, one behind another
--     unless_none    what there is unless a count is none
use Rattle.std.proofs.Common.{◌≡◌, ◌∙◌, ◌++◌, ◌≢◌, ℕ, List, [], ap, append_assoc, sym}
use Rattle.std.specs.Prelude.{Result, Ok, Err, OnOk, cond, is_ok, nat_eq}
use Rattle.std.proofs.lemmas.Bool.{cond-false, ne_eqb}

pub at_end : {T E : Type 0} (r : Result T E) (new old last whole : List ℕ) → new ≡ cond (is_ok r) (old ++ last) old → old ++ last ≡ whole → OnOk r (new ≡ whole)
at_end (Ok x) new old last whole is same = is ∙ same
at_end (Err e) new old last whole is same = tt

pub three_parts : (out one two first second last : List ℕ) → one ≡ out ++ first → two ≡ one ++ second → two ++ last ≡ out ++ (first ++ (second ++ last))
three_parts out one two first second last begin more =
    ap (λ t. t ++ last) more ∙ append_assoc one second last ∙ ap (λ t. t ++ (second ++ last)) begin ∙ append_assoc out first (second ++ last)

pub unless_none : (n : ℕ) (text : List ℕ) → n ≢ 0 → text ≡ cond (nat_eq n 0) [] text
unless_none n text some = sym (cond-false (nat_eq n 0) [] text (ne_eqb n 0 some))
