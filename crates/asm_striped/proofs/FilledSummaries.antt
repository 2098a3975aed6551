-- Free. A summary is filled location by location from the words of a closed table.
use Rattle.std.proofs.Common.{◌≡◌, ℕ, zero, suc, ◌+◌, ◌<◌, ◌≤◌, eqb, cond, List, [], ◌∷◌, get_or, Option, Some, None, refl, sym, ap, ◌∙◌, subst, arith, eq-eqb, ne_eqb, ⊎_elim}
use Rattle.std.proofs.lemmas.Bool.{cases_eq}
use mathlib.Core.Option.{some, some-injective, some-ne-none}
use lib.ListN.{get_elem?}
use Rattle.asm_state.specs.declared.value.Value.{Value}
use Rattle.asm_state.specs.Updates.{Range, widen}
use Rattle.asm_updates.specs.code.SummaryRanges.{SummaryRanges, summary_range, range}
use Rattle.asm_striped.specs.code.Log.{AreWordsOf, ShowRange}
use Rattle.asm_striped.specs.code.Board.{AreBounds, HasWords, low_place, high_place}

get_or_from_elem : {A : Type 0} (l : List A) (i : ℕ) (a d : A) → get_elem? l i ≡ some a → get_or l i d ≡ a
get_or_from_elem [] i a d e = absurd (some-ne-none a (sym e))
get_or_from_elem (x ∷ xs) zero a d e = some-injective x a e
get_or_from_elem (x ∷ xs) (suc i) a d e = get_or_from_elem xs i a d e

abbrev WordsAt : List ℕ → ℕ → Option Range → Type 0
WordsAt words n r = AreWordsOf r (get_or words (low_place n) 0) (get_or words (high_place n) 0)

-- the locations below n are filled
pub record IsFilled (words : List ℕ) (n count : ℕ) (s : SummaryRanges) : Type 0 where
  pub size : s.count ≡ count
  pub said : (k : ℕ) → k < n → AreWordsOf (summary_range s k) (get_or words (low_place k) 0) (get_or words (high_place k) 0)
  pub rest : (k : ℕ) → n ≤ k → summary_range s k ≡ None

pub filled_none : (words : List ℕ) (count : ℕ) (s : SummaryRanges) → s.count ≡ count → ((n : ℕ) → summary_range s n ≡ None) → IsFilled words 0 count s
filled_none words count s size none = record { size = size; said = λ k h. absurd (omega arith); rest = λ k h. none k }

pub filled_all : (words : List ℕ) (count : ℕ) (s : SummaryRanges) → IsFilled words count count s → HasWords count words s
filled_all words count s f = record { size = f.size; each = f.said; no_more = f.rest }

-- what the two words that were read say
words_at : (words : List ℕ) (n low high : ℕ) (r : Option Range) → get_elem? words (low_place n) ≡ some low → get_elem? words (high_place n) ≡ some high → AreWordsOf r low high → WordsAt words n r
words_at words n low high r at_low at_high are = record {
  is_low = get_or_from_elem words (low_place n) low 0 at_low ∙ are.is_low;
  is_high = get_or_from_elem words (high_place n) high 0 at_high ∙ are.is_high;
}

pub read_bounds : (words : List ℕ) (n count low high : ℕ) → n < count → AreBounds count words → get_elem? words (low_place n) ≡ some low → get_elem? words (high_place n) ≡ some high → ShowRange low high
read_bounds words n count low high h bounds at_low at_high =
    subst (λ (x : ℕ × ℕ). ShowRange x.0 x.1) (λ i. (get_or_from_elem words (low_place n) low 0 at_low i, get_or_from_elem words (high_place n) high 0 at_high i)) (bounds n h)

module _ (words : List ℕ) (n count low high : ℕ) (before : SummaryRanges) (f : IsFilled words n count before) (at_low : get_elem? words (low_place n) ≡ some low) (at_high : get_elem? words (high_place n) ≡ some high) where
  -- nothing was put at the location
  pub filled_skip : AreWordsOf None low high → IsFilled words (n + 1) count before
  filled_skip are = record {
    size = f.size;
    said = λ k h. ⊎_elim
        (λ (same : k ≡ n). subst (λ m. WordsAt words m (summary_range before m)) (sym same) (subst (WordsAt words n) (sym (f.rest n (omega arith))) (words_at words n low high None at_low at_high are)))
        (λ (other : k ≡ n → ⊥). f.said k (omega (arith, other)))
        (cases_eq k n);
    rest = λ k h. f.rest k (omega arith);
  }

  -- the location is added with its bounds
  pub filled_add : (after : SummaryRanges) (b : Value × Value) → AreWordsOf (Some (range b)) low high → after.count ≡ before.count
      → ((k : ℕ) → summary_range after k ≡ cond (eqb k n) (widen (summary_range before n) (Some (range b))) (summary_range before k)) → IsFilled words (n + 1) count after
  filled_add after b are size each = record {
    size = size ∙ f.size;
    said = λ k h. ⊎_elim
        (λ (same : k ≡ n). subst (λ m. WordsAt words m (summary_range after m)) (sym same) (subst (WordsAt words n) (sym here) (words_at words n low high (Some (range b)) at_low at_high are)))
        (λ (other : k ≡ n → ⊥). subst (WordsAt words k) (sym (elsewhere k other)) (f.said k (omega (arith, other))))
        (cases_eq k n);
    rest = λ k h. elsewhere k (λ same. omega arith) ∙ f.rest k (omega arith);
  }
    where
      here : summary_range after n ≡ Some (range b)
      here = each n ∙ ap (λ t. cond t (widen (summary_range before n) (Some (range b))) (summary_range before n)) (eq-eqb n n refl) ∙ ap (λ r. widen r (Some (range b))) (f.rest n (omega arith))

      elsewhere : (k : ℕ) → (k ≡ n → ⊥) → summary_range after k ≡ summary_range before k
      elsewhere k other = each k ∙ ap (λ t. cond t (widen (summary_range before n) (Some (range b))) (summary_range before k)) (ne_eqb k n other)
