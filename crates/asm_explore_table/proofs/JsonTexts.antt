-- Free. Objects of JSON, piece by piece.
--     three_pieces, four_pieces     texts that are added one by one
--     choice_whole     a choice behind its elements
--     row_whole        a row behind its state
--     more_said        how many more locations change
--     unmet_said       the lines that name no choice
--     end_whole        the last line
use Rattle.std.proofs.Common.{◌≡◌, ◌∙◌, ◌≤◌, ◌≢◌, ◌++◌, ◌∷◌, [], ℕ, zero, suc, List, length, ap, refl, sym, append-nil, append_assoc, arith}
use Rattle.std.specs.Prelude.{codes, decimal}
use Rattle.asm_explore_table.specs.JsonRows.{more_member, unmet_member}
use Rattle.asm_explore_table.specs.JsonTexts.{line_text, list_by, member_text, object_text, string_text}
use Rattle.asm_explore_table.specs.code.JsonParts.{more_members}
use Rattle.asm_explore_table.proofs.JsonLists.{joined_lists}

choice_pieces : (a name b value d elements z : List ℕ) → (a ++ (name ++ (b ++ (value ++ d)))) ++ (elements ++ z) ≡ a ++ ((name ++ (b ++ (value ++ (d ++ (elements ++ []))))) ++ z)
choice_pieces a name b value d elements z = simp (append_assoc, append-nil)

pub choice_whole : (name value elements : List ℕ)
    → (codes "{\"name\":" ++ (name ++ (codes ",\"value\":" ++ (value ++ codes ",\"elements\":")))) ++ (elements ++ codes "}")
    ≡ object_text ((codes "name", name) ∷ (codes "value", value) ∷ (codes "elements", elements) ∷ [])
choice_whole name value elements = choice_pieces (codes "{\"name\":") name (codes ",\"value\":") value (codes ",\"elements\":") elements (codes "}")

row_pieces : (a number b chosen members y z : List ℕ) → (a ++ (number ++ (b ++ chosen))) ++ (members ++ (y ++ z)) ≡ a ++ (((number ++ (b ++ (chosen ++ members))) ++ y) ++ z)
row_pieces a number b chosen members y z = simp append_assoc

pub row_whole : (number chosen : List ℕ) (members : List (List ℕ × List ℕ))
    → (codes "{\"step\":" ++ (number ++ (codes ",\"chosen\":" ++ chosen))) ++ (more_members members ++ codes "}\n") ≡ line_text ((codes "step", number) ∷ (codes "chosen", chosen) ∷ members)
row_whole number chosen members = row_pieces (codes "{\"step\":") number (codes ",\"chosen\":") chosen (more_members members) (codes "}") (codes "\n")

pub four_pieces : (old a b c d one two three new : List ℕ) → one ≡ old ++ a → two ≡ one ++ b → three ≡ two ++ c → new ≡ three ++ d → new ≡ old ++ (a ++ (b ++ (c ++ d)))
four_pieces old a b c d one two three new first second third last =
    last ∙ ap (λ t. t ++ d) (third ∙ ap (λ t. t ++ c) (second ∙ ap (λ t. t ++ b) first)) ∙ append_assoc ((old ++ a) ++ b) c d ∙ append_assoc (old ++ a) b (c ++ d)
    ∙ append_assoc old a (b ++ (c ++ d))

pub three_pieces : (old a b c one two new : List ℕ) → one ≡ old ++ a → two ≡ one ++ b → new ≡ two ++ c → new ≡ old ++ (a ++ (b ++ c))
three_pieces old a b c one two new first second last = last ∙ ap (λ t. t ++ c) (second ∙ ap (λ t. t ++ b) first) ∙ append_assoc (old ++ a) b c ∙ append_assoc old a (b ++ c)

pub unmet_said : (lines : List (List ℕ)) → 1 ≤ length lines → codes ",\"unmet\":" ++ list_by string_text lines ≡ more_members (unmet_member lines)
unmet_said [] some = absurd (omega (arith, some))
unmet_said (line ∷ lines) some = sym (append-nil (codes ",\"unmet\":" ++ list_by string_text (line ∷ lines)))

pub more_said : (n : ℕ) → n ≢ 0 → codes ",\"more\":" ++ decimal n ≡ more_members (more_member n)
more_said zero other = absurd (other refl)
more_said (suc n) other = sym (append-nil (codes ",\"more\":" ++ decimal (suc n)))

end_pieces : (a end more unmet y z : List ℕ) → a ++ (end ++ (more ++ (unmet ++ (y ++ z)))) ≡ a ++ (((end ++ (more ++ unmet)) ++ y) ++ z)
end_pieces a end more unmet y z = simp append_assoc

pub end_whole : (end : List ℕ) (more : ℕ) (unmet : List (List ℕ))
    → codes "{\"end\":" ++ (string_text end ++ (more_members (more_member more) ++ (more_members (unmet_member unmet) ++ codes "}\n")))
    ≡ line_text ((codes "end", string_text end) ∷ (more_member more ++ unmet_member unmet))
end_whole end more unmet =
    end_pieces (codes "{\"end\":") (string_text end) (more_members (more_member more)) (more_members (unmet_member unmet)) (codes "}") (codes "\n")
    ∙ ap (λ t. codes "{\"end\":" ++ (((string_text end ++ t) ++ codes "}") ++ codes "\n")) (sym (joined_lists member_text (more_member more) (unmet_member unmet)))
