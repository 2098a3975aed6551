-- Free. Files that are read one after the other.
--     front_more      one file more
use Rattle.std.proofs.Common.{◌≡◌, ℕ, ◌+◌, ◌<◌, List, [], ◌∷◌, ◌++◌, length, take, get_or, Option, ap, sym, subst, ◌∙◌}
use Rattle.std.specs.Borrow.{Bor}
use Rattle.std.proofs.lemmas.List.{append_assoc, map-append, take_more}
use Rattle.clap.specs.Walk.{Text, texts}
use Rattle.asm_files.specs.Input.{IsFront}
use Rattle.asm_explore_texts.specs.Conditions.{texts_of}
use Rattle.asm_explore_tool.specs.GivenTexts.{AreFronts, max_bytes_read}
use Rattle.asm_explore_texts.specs.declared.conditions.Condition.{Condition}

snoc : (contents : Text → Option (List ℕ)) (names : List Text) (files : List (List ℕ)) (name : Text) (text : List ℕ) → AreFronts contents names files
    → IsFront (contents name) max_bytes_read text → AreFronts contents (names ++ name ∷ []) (files ++ text ∷ [])
snoc contents [] [] name text are is = (is, tt)
snoc contents [] (file ∷ files) name text are is = absurd are
snoc contents (one ∷ names) [] name text are is = absurd are
snoc contents (one ∷ names) (file ∷ files) name text are is = (are.0, snoc contents names files name text are.1 is)

pub front_more : (contents : Text → Option (List ℕ)) (names : List (Bor Text)) (k : ℕ) (d : Bor Text) (first : List (List ℕ)) (old new : List Condition) (c : Condition)
    → k < length names
    → ((files : List (List ℕ)) × AreFronts contents (texts (take k names)) files × (texts_of old ≡ first ++ files))
    → IsFront (contents (get_or names k d).now) max_bytes_read c.text.items → new ≡ old ++ c ∷ []
    → (files : List (List ℕ)) × AreFronts contents (texts (take (k + 1) names)) files × (texts_of new ≡ first ++ files)
front_more contents names k d first old new c low (files, are, is) front grown =
    let name = get_or names k d in
    let taken : texts (take (k + 1) names) ≡ texts (take k names) ++ name.now ∷ [] =
    ap texts (take_more names k d low) ∙ map-append (λ (s : Bor Text). s.now) (take k names) (name ∷ []) in (
      files ++ c.text.items ∷ [],
      subst (λ ns. AreFronts contents ns (files ++ c.text.items ∷ [])) (sym taken) (snoc contents (texts (take k names)) files name.now c.text.items are front),
      ap texts_of grown ∙ (map-append (λ (d : Condition). d.text.items) old (c ∷ []) ∙ (ap (λ t. t ++ c.text.items ∷ []) is ∙ append_assoc first files (c.text.items ∷ []))),
    )
