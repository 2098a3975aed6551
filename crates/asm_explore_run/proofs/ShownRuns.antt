-- Free. What is shown of a run.
--     shown_text       the comments of a run that is shown, and its script
--     shown_says       they say the same as the script alone, unless they are too long for one
use Rattle.std.proofs.Common.{◌≡◌, ◌∙◌, ◌++◌, ◌∷◌, ◌<◌, ◌≤◌, ℕ, List, ap, append_assoc, inl, inr, length, subst, sym}
use Rattle.std.proofs.lemmas.Bool.{cases_lt}
use Rattle.std.proofs.lemmas.Grind.{flat_map-append}
use Rattle.std.specs.Prelude.{◌⊎◌}
use Rattle.asm_reader.specs.ScriptLines.{Script}
use Rattle.asm_reader.specs.ScriptText.{IsScript, max_script}
use Rattle.asm_explore_texts.specs.Comments.{comment, comments}

module _ (first : List ℕ) (because : List (List ℕ)) (call : List ℕ) (table assignments unmet : List (List ℕ)) (part : List ℕ) where
  abbrev behind : List (List ℕ)
  behind = because ++ (call ∷ (table ++ (assignments ++ unmet)))

  apart : comments (first ∷ behind) ≡ comments (first ∷ because) ++ (comment call ++ (comments table ++ (comments assignments ++ comments unmet)))
  apart =
      flat_map-append comment (first ∷ because) (call ∷ (table ++ (assignments ++ unmet)))
      ∙ ap (λ t. comments (first ∷ because) ++ (comment call ++ t)) (flat_map-append comment table (assignments ++ unmet) ∙ ap (λ t. comments table ++ t) (flat_map-append comment assignments unmet))

  together : (F C T A U : List ℕ) → (((F ++ C) ++ T) ++ A) ++ U ≡ F ++ (C ++ (T ++ (A ++ U)))
  together F C T A U =
      append_assoc ((F ++ C) ++ T) A U ∙ append_assoc (F ++ C) T (A ++ U) ∙ append_assoc F C (T ++ (A ++ U))

  pub shown_text : (t0 t1 t2 t3 t4 t5 : List ℕ) → t0 ≡ comments (first ∷ because) → t1 ≡ t0 ++ comment call → t2 ≡ t1 ++ comments table → t3 ≡ t2 ++ comments assignments
      → t4 ≡ t3 ++ comments unmet → t5 ≡ t4 ++ part → t5 ≡ comments (first ∷ behind) ++ part
  shown_text t0 t1 t2 t3 t4 t5 a b c d e f =
      f ∙ ap (λ t. t ++ part)
      (e ∙ ap (λ t. t ++ comments unmet) (d ∙ ap (λ t. t ++ comments assignments) (c ∙ ap (λ t. t ++ comments table) (b ∙ ap (λ t. t ++ comment call) a)))
      ∙ together (comments (first ∷ because)) (comment call) (comments table) (comments assignments) (comments unmet) ∙ sym apart)

-- the law of the crate of reports
abbrev CommentsLaw : Type 0
CommentsLaw = (text : List ℕ) (script : Script) → IsScript text script → (lines : List (List ℕ)) → length (comments lines ++ text) ≤ max_script → IsScript (comments lines ++ text) script

pub shown_says : CommentsLaw → (lines : List (List ℕ)) (part printed : List ℕ) → printed ≡ comments lines ++ part → (said : Script) → IsScript part said
    → IsScript printed said ⊎ (max_script < length printed)
shown_says law lines part printed is said spelled = go (cases_lt max_script (length printed))
  where
    go : (max_script < length printed) ⊎ (length printed ≤ max_script) → IsScript printed said ⊎ (max_script < length printed)
    go (inl long) = inr long
    go (inr fits) = inl (subst (λ t. IsScript t said) (sym is) (law part said spelled lines (subst (λ t. length t ≤ max_script) is fits)))
