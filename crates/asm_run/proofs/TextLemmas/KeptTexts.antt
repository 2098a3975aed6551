-- Free. Texts that are one after the other: one text more.
use Rattle.std.proofs.Common.{◌≡◌, ◌≢◌, ◌⊎◌, ℕ, zero, suc, ◌+◌, ◌<◌, ◌≤◌, List, [], ◌∷◌, ◌++◌, length, take, drop, set, true, false, eqb, inl, inr, refl, sym, ap, ◌∙◌, arith, length-append}
use Rattle.std.proofs.lemmas.Bool.Decides.{eqb_tells}
use Rattle.std.proofs.lemmas.List.{get_or-set_same, get_or-set_other, take-append-le, drop-append-le, length-drop}
use Rattle.std.proofs.Math.Seq.{drop-append_seam, take-length}
use Rattle.std.proofs.Math.ListN.{get_or-map}
use Rattle.asm_run.specs.code.KeptTexts.{no_span, span_at, text_in, texts_in, AreWithin, kept}
use Rattle.asm_run.specs.declared.location_texts.TextSpan.{TextSpan}

same_or_other : (m n : ℕ) → (m ≡ n) ⊎ (m ≢ n)
same_or_other m n = by_test (eqb_tells m n) where
  by_test : ((eqb m n ≡ true) × (m ≡ n)) ⊎ ((eqb m n ≡ false) × (m ≢ n)) → (m ≡ n) ⊎ (m ≢ n)
  by_test (inl t) = inl t.1
  by_test (inr t) = inr t.1

-- an empty span after the last changes none
pub one_place_more : (spans : List TextSpan) (m : ℕ) → span_at (spans ++ no_span ∷ []) m ≡ span_at spans m
one_place_more [] zero = refl
one_place_more [] (suc m) = refl
one_place_more (s ∷ ss) zero = refl
one_place_more (s ∷ ss) (suc m) = one_place_more ss m

-- what is kept is the text at the span
kept_at : (bytes : List ℕ) (spans : List TextSpan) (n : ℕ) → kept (texts_in bytes spans) n ≡ text_in bytes (span_at spans n)
kept_at bytes spans n = get_or-map (text_in bytes) spans n no_span

-- more bytes after a span that lies within them
text_within : (bytes more : List ℕ) (span : TextSpan) → span.start + span.len ≤ length bytes → text_in (bytes ++ more) span ≡ text_in bytes span
text_within bytes more span within =
    let rest : List ℕ = drop span.start bytes in
    let long : span.len ≤ length rest = omega (arith, within, length-drop span.start bytes) in
    ap (take span.len) (drop-append-le span.start bytes more (omega (arith, within))) ∙ take-append-le span.len rest more long

-- one text more, at the place with this number
module _ (bytes text : List ℕ) (start : ℕ) (behind : start ≡ length bytes) (spans places : List TextSpan) (n : ℕ) (place : n < length places) (same : (m : ℕ) → span_at places m ≡ span_at spans m) (within : AreWithin bytes spans) where
  abbrev new_span : TextSpan
  new_span = record { start = start; len = length text }

  abbrev new_spans : List TextSpan
  new_spans = set places n new_span

  new_at : span_at new_spans n ≡ new_span
  new_at = get_or-set_same places n new_span no_span place

  other_at : (m : ℕ) → m ≢ n → span_at new_spans m ≡ span_at spans m
  other_at m other = get_or-set_other places n m new_span no_span other ∙ same m

  within_at : (m : ℕ) → (m ≡ n) ⊎ (m ≢ n) → (span_at new_spans m).start + (span_at new_spans m).len ≤ length (bytes ++ text)
  within_at m (inl e) =
      let at : span_at new_spans m ≡ new_span = ap (span_at new_spans) e ∙ new_at in
      rw (at, length-append bytes text) (omega (arith, behind))
  within_at m (inr other) = rw (other_at m other, length-append bytes text) (omega (arith, within m))

  pub all_within : AreWithin (bytes ++ text) new_spans
  all_within m = within_at m (same_or_other m n)

  new_text : text_in (bytes ++ text) new_span ≡ text
  new_text = ap (λ k. take (length text) (drop k (bytes ++ text))) behind ∙ ap (take (length text)) (drop-append_seam bytes text) ∙ take-length text

  abbrev pub kept_as : ℕ → Type 0
  kept_as m = (kept (texts_in (bytes ++ text) new_spans) m ≡ kept (texts_in bytes spans) m) ⊎ ((m ≡ n) × (kept (texts_in (bytes ++ text) new_spans) m ≡ text))

  kept_by : (m : ℕ) → (m ≡ n) ⊎ (m ≢ n) → kept_as m
  kept_by m (inl e) = inr (e, kept_at (bytes ++ text) new_spans m ∙ ap (text_in (bytes ++ text)) (ap (span_at new_spans) e ∙ new_at) ∙ new_text)
  kept_by m (inr other) =
      inl (kept_at (bytes ++ text) new_spans m ∙ ap (text_in (bytes ++ text)) (other_at m other) ∙ text_within bytes text (span_at spans m) (within m) ∙ sym (kept_at bytes spans m))

  pub all_kept : (m : ℕ) → kept_as m
  all_kept m = kept_by m (same_or_other m n)
