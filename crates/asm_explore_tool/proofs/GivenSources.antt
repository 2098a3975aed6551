-- Free. Conditions that are given, and their sources.
--     word_source, word_text     one more that a word gives
--     file_source                one more in a file
--     among_files                a file that can't be read, of several
--     given_alike                what is read for a run with conditions by these words and names
--     ungiven_alike              a text that can't be read for them, or a script that can't be drawn
--     unread_files               a file that can't be read, for a run
use Rattle.std.proofs.Common.{◌≡◌, ◌∙◌, ◌⊎◌, ℕ, suc, ◌+◌, ◌<◌, List, [], ◌∷◌, ◌++◌, length, take, get_or, Option, inl, inr, ap, sym, subst, arith}
use Rattle.std.specs.Borrow.{Bor}
use Rattle.std.proofs.lemmas.List.{append_assoc, map-append, take_more}
use Rattle.std.proofs.lemmas.Option.{IfSome_then, slice_get-get_or}
use Rattle.clap.specs.Walk.{Text, texts}
use Rattle.asm_explore_texts.specs.Conditions.{texts_of}
use Rattle.asm_explore_texts.specs.declared.conditions.Condition.{Condition}
use Rattle.asm_explore_words.specs.declared.fault.Source.{Source}
use Rattle.asm_explore_words.specs.declared.fault.Source.TheVariants as source
use Rattle.asm_explore_tool.specs.Faults.{IsUnread, source_in}
use Rattle.asm_explore_words.specs.declared.settings.RunSettings.{RunSettings}
use Rattle.asm_explore_tool.specs.GivenTexts.{IsAmongFiles, IsGivenRun, IsReadForQuestion, IsUndrawnRun, file_sources, sources_of, word_sources}
use Rattle.asm_explore_tool.specs.declared.no_answer.NoAnswer.{NoAnswer}

module _ (old new : List Condition) (c : Condition) (grown : new ≡ old ++ c ∷ []) where
  more_sources : sources_of new ≡ sources_of old ++ c.source ∷ []
  more_sources = ap sources_of grown ∙ map-append (λ (d : Condition). d.source) old (c ∷ [])

  more_texts : texts_of new ≡ texts_of old ++ c.text.items ∷ []
  more_texts = ap texts_of grown ∙ map-append (λ (d : Condition). d.text.items) old (c ∷ [])

  pub word_source : (k : ℕ) → c.source ≡ source.Always (k + 1) → sources_of old ≡ word_sources k → sources_of new ≡ word_sources (k + 1)
  word_source k from before =
      let next : suc k ≡ k + 1 = omega arith in
      more_sources ∙ (ap (λ s. sources_of old ++ s ∷ []) (from ∙ ap (λ n. source.Always n) (sym next)) ∙ (ap (λ ss. ss ++ source.Always (suc k) ∷ []) before ∙ ap word_sources next))

  pub word_text : (words : List (Bor Text)) (k : ℕ) (d : Bor Text) → k < length words → c.text.items ≡ (get_or words k d).now → texts_of old ≡ texts (take k words)
      → texts_of new ≡ texts (take (k + 1) words)
  word_text words k d low is before =
      let word = get_or words k d in
      more_texts ∙ (ap (λ t. texts_of old ++ t ∷ []) is ∙ (ap (λ ts. ts ++ word.now ∷ []) before
      ∙ sym (ap texts (take_more words k d low) ∙ map-append (λ (s : Bor Text). s.now) (take k words) (word ∷ []))))

  pub file_source : (names : List (Bor Text)) (k : ℕ) (d : Bor Text) (first : List Source) → k < length names → c.source ≡ source.AlwaysFile (get_or names k d)
      → sources_of old ≡ first ++ file_sources (take k names) → sources_of new ≡ first ++ file_sources (take (k + 1) names)
  file_source names k d first low is before =
      let name = get_or names k d in
      let files = file_sources (take k names) in
      more_sources ∙ (ap (λ s. sources_of old ++ s ∷ []) is ∙ (ap (λ ss. ss ++ source.AlwaysFile name ∷ []) before ∙ (append_assoc first files (source.AlwaysFile name ∷ [])
      ∙ ap (λ ss. first ++ ss) (sym (ap file_sources (take_more names k d low) ∙ map-append (λ (s : Bor Text). source.AlwaysFile s) (take k names) (name ∷ []))))))

pub among_files : (names : List (Bor Text)) (k : ℕ) (d : Bor Text) (fault : NoAnswer) → k < length names
    → IsUnread (λ s. s ≡ source.AlwaysFile (get_or names k d)) fault → IsUnread (IsAmongFiles names) fault
among_files names k d fault low h = (IfSome_then (source_in fault) h.0 (λ s is. (k, get_or names k d, slice_get-get_or names k d low, is)), h.1)

pub given_alike : (contents : Text → Option (List ℕ)) (input : Option (List ℕ)) (settings : RunSettings) (words words' names names' : List (Bor Text)) (text : List ℕ)
    (conditions : List Condition) (run : RunSettings) (script : List ℕ) → words ≡ words' → names ≡ names'
    → IsGivenRun contents input settings words names text conditions run script → IsGivenRun contents input settings words' names' text conditions run script
given_alike contents input settings words words' names names' text conditions run script same also given =
    subst (λ ns. IsGivenRun contents input settings words' ns text conditions run script) also
    (subst (λ ws. IsGivenRun contents input settings ws names text conditions run script) same given)

pub ungiven_alike : (contents : Text → Option (List ℕ)) (input : Option (List ℕ)) (settings : RunSettings) (words words' names names' : List (Bor Text)) (fault : NoAnswer)
    (Other : Type 0) → words ≡ words' → names ≡ names'
    → IsUnread (IsReadForQuestion settings names) fault ⊎ IsUndrawnRun contents input settings words names fault
    → IsUnread (IsReadForQuestion settings names') fault ⊎ (Other ⊎ IsUndrawnRun contents input settings words' names' fault)
ungiven_alike contents input settings words words' names names' fault Other same also (inl unread) =
    inl (subst (λ ns. IsUnread (IsReadForQuestion settings ns) fault) also unread)
ungiven_alike contents input settings words words' names names' fault Other same also (inr undrawn) =
    inr (inr (subst (λ ns. IsUndrawnRun contents input settings words' ns fault) also (subst (λ ws. IsUndrawnRun contents input settings ws names fault) same undrawn)))

pub unread_files : (settings : RunSettings) (names : List (Bor Text)) (fault : NoAnswer)
    → IsUnread (IsAmongFiles names) fault → IsUnread (IsReadForQuestion settings names) fault
unread_files settings names fault among = (IfSome_then (source_in fault) among.0 (λ s is. inr is), among.1)
