-- Free. What is put has a range at each location, and the words are those of the range.
use Rattle.std.proofs.Common.{◌≡◌, ℕ, ℤ, pos, negsuc, ◌≤ℤ◌, ◌<◌, ◌≤◌, min, max, true, false, cond, List, [], ◌∷◌, All, Option, Some, None, refl, sym, ap, ◌∙◌, subst, inl, inr, arith, eq-eqb, ne_eqb}
use Rattle.std.proofs.lemmas.Int.{ints}
use Rattle.std.proofs.lemmas.List.Elements.{All-cons, All-nil, All-head, All-tail}
use Rattle.std.specs.Prelude.{IfSome}
use mathlib.Core.Logic.{dite}
use native.Mathlib.Decide.{ℕ_discrete}
use Rattle.asm_state.specs.Bounds.{least_number, greatest_number}
use Rattle.asm_state.specs.declared.value.Value.{Value}
use Rattle.asm_state.specs.declared.value.Value.TheVariants.{Undef, Truth, Number, Element}
use Rattle.asm_state.specs.code.Codes.{number_code, code_of}
use Rattle.asm_state.specs.Updates.{Range, widen}
use Rattle.asm_state.proofs.Codes.{codes_apart}
use Rattle.asm_updates.specs.code.SummaryRanges.{NamedRanges, range}
use Rattle.asm_updates.specs.code.EntryLists.{range_of_entry, range_in, AreInOrder}
use Rattle.asm_striped.proofs.CodeOrder.{code_of-lesser, code_of-greater}
use Rattle.asm_striped.specs.declared.board.Put.{Put}
use Rattle.asm_striped.specs.code.Log.{low_mark, high_mark, IsCode, IsPut, lows_at, highs_at, least, greatest, low_word_of, high_word_of, AreWordsOf, AreValuesOf}
use Rattle.asm_striped.proofs.Members.{In, hit, miss}

-- ---- no mark is a code

number_code_bounds : (x : ℤ) → least_number ≤ℤ x → x ≤ℤ greatest_number → (0 < number_code x) × (number_code x < low_mark)
number_code_bounds (pos n) low high = (omega arith, omega (arith, ints))
number_code_bounds (negsuc n) low high = (omega (arith, ints), omega arith)

pub code_bounds : (v : Value) → (high_mark < code_of v) × (code_of v < low_mark)
code_bounds Undef = (omega arith, omega arith)
code_bounds (Truth false) = (omega arith, omega arith)
code_bounds (Truth true) = (omega arith, omega arith)
code_bounds (Number n) = number_code_bounds n.value n.low n.high
code_bounds (Element e) = let i = e.in_range in (omega arith, omega arith)

pub code_is_no_mark : (code : ℕ) → IsCode code → (high_mark < code) × (code < low_mark)
code_is_no_mark code is = subst (λ c. (high_mark < c) × (c < low_mark)) is.1 (code_bounds is.0)

-- ---- words and ranges

low_widened : (r : Range) (s : Option Range) → low_word_of (widen (Some r) s) ≡ min (code_of r.least) (low_word_of s)
low_widened r None = let b = code_bounds r.least in omega arith
low_widened r (Some s) = code_of-lesser r.least s.least

high_widened : (r : Range) (s : Option Range) → high_word_of (widen (Some r) s) ≡ max (code_of r.greatest) (high_word_of s)
high_widened r None = omega arith
high_widened r (Some s) = code_of-greater r.greatest s.greatest

-- two words are those of one range
pub same_range : (r s : Option Range) (low high : ℕ) → AreWordsOf r low high → AreWordsOf s low high → r ≡ s
same_range None None low high a b = refl
same_range None (Some s) low high a b = let c = code_bounds s.least in let m = a.is_low in let n = b.is_low in absurd (omega arith)
same_range (Some r) None low high a b = let c = code_bounds r.least in let m = a.is_low in let n = b.is_low in absurd (omega arith)
same_range (Some r) (Some s) low high a b =
    let least_is : r.least ≡ s.least = codes_apart r.least s.least (sym a.is_low ∙ b.is_low) in
    let greatest_is : r.greatest ≡ s.greatest = codes_apart r.greatest s.greatest (sym a.is_high ∙ b.is_high) in
    λ i. Some (record { least = least_is i; greatest = greatest_is i })

-- ---- the words of a list of entries

here_range : (b : ℕ × (Value × Value)) (n : ℕ) → n ≡ b.0 → range_of_entry b n ≡ Some (range b.1)
here_range b n h = ap (λ t. cond t (Some (range b.1)) None) (eq-eqb n b.0 h)

no_range : (b : ℕ × (Value × Value)) (n : ℕ) → (n ≡ b.0 → ⊥) → range_of_entry b n ≡ None
no_range b n h = ap (λ t. cond t (Some (range b.1)) None) (ne_eqb n b.0 h)

pub lows_say : (n : ℕ) (log : List Put) (es : NamedRanges) → AreValuesOf log es → least (lows_at n log) ≡ low_word_of (range_in es n)
lows_say n [] [] are = refl
lows_say n [] (b ∷ es) are = absurd are
lows_say n (e ∷ log) [] are = absurd are
lows_say n (e ∷ log) (b ∷ es) (at, low, high, rest) =
    dite (ℕ_discrete e.location n)
    (λ here.
    ap least (hit (λ x. x.low) n e log here)
    ∙ (λ i. min (sym low i) (lows_say n log es rest i))
    ∙ sym (low_widened (range b.1) (range_in es n))
    ∙ ap (λ r. low_word_of (widen r (range_in es n))) (sym (here_range b n (sym (at ∙ here)))))
    (λ other.
    ap least (miss (λ x. x.low) n e log other)
    ∙ lows_say n log es rest
    ∙ ap (λ r. low_word_of (widen r (range_in es n))) (sym (no_range b n (λ same. other (sym (same ∙ at))))))

pub highs_say : (n : ℕ) (log : List Put) (es : NamedRanges) → AreValuesOf log es → greatest (highs_at n log) ≡ high_word_of (range_in es n)
highs_say n [] [] are = refl
highs_say n [] (b ∷ es) are = absurd are
highs_say n (e ∷ log) [] are = absurd are
highs_say n (e ∷ log) (b ∷ es) (at, low, high, rest) =
    dite (ℕ_discrete e.location n)
    (λ here.
    ap greatest (hit (λ x. x.high) n e log here)
    ∙ (λ i. max (sym high i) (highs_say n log es rest i))
    ∙ sym (high_widened (range b.1) (range_in es n))
    ∙ ap (λ r. high_word_of (widen r (range_in es n))) (sym (here_range b n (sym (at ∙ here)))))
    (λ other.
    ap greatest (miss (λ x. x.high) n e log other)
    ∙ highs_say n log es rest
    ∙ ap (λ r. high_word_of (widen r (range_in es n))) (sym (no_range b n (λ same. other (sym (same ∙ at))))))

-- ---- the entries with their values

pub record Valued (count : ℕ) (log : List Put) : Type 0 where
  pub entries : NamedRanges
  pub are_values : AreValuesOf log entries
  pub in_order : AreInOrder count entries

pub valued : (count : ℕ) (log : List Put) → ((e : Put) → In e log → IsPut count e) → Valued count log
valued count [] all = record { entries = []; are_values = tt; in_order = record { in_range = All-nil (λ e. e.0 < count); ordered = All-nil (λ e. code_of e.1.0 ≤ code_of e.1.1) } }
valued count (e ∷ log) all =
    let is = all e (inl refl) in
    let rest = valued count log (λ x i. all x (inr i)) in
    let b : ℕ × (Value × Value) = (e.location, (is.low.0, is.high.0)) in
    record {
      entries = b ∷ rest.entries;
      are_values = (refl, is.low.1, is.high.1, rest.are_values);
      in_order = record {
        in_range = All-cons (λ e. e.0 < count) b rest.entries is.location rest.in_order.in_range;
        ordered = All-cons (λ e. code_of e.1.0 ≤ code_of e.1.1) b rest.entries (let l = is.low.1 in let h = is.high.1 in let o = is.order in omega arith) rest.in_order.ordered;
      };
    }

-- a range whose bounds are in order
abbrev pub IsOrdered : Option Range → Type 0
IsOrdered r = IfSome r (λ x. code_of x.least ≤ code_of x.greatest)

widened_ordered : (r : Range) (s : Option Range) → code_of r.least ≤ code_of r.greatest → IsOrdered s → IsOrdered (widen (Some r) s)
widened_ordered r None is rest = is
widened_ordered r (Some s) is rest = let l = code_of-lesser r.least s.least in let g = code_of-greater r.greatest s.greatest in omega arith

pub range_ordered : (count : ℕ) (es : NamedRanges) → AreInOrder count es → (n : ℕ) → IsOrdered (range_in es n)
range_ordered count [] are n = tt
range_ordered count (b ∷ es) are n =
    let rest = range_ordered count es (record { in_range = All-tail (λ e. e.0 < count) b es are.in_range; ordered = All-tail (λ e. code_of e.1.0 ≤ code_of e.1.1) b es are.ordered }) n in
    dite (ℕ_discrete n b.0)
    (λ here. subst (λ r. IsOrdered (widen r (range_in es n))) (sym (here_range b n here)) (widened_ordered (range b.1) (range_in es n) (All-head (λ e. code_of e.1.0 ≤ code_of e.1.1) b es are.ordered) rest))
    (λ other. subst (λ r. IsOrdered (widen r (range_in es n))) (sym (no_range b n other)) rest)

-- no entry has a location past the count
pub range_above : (count : ℕ) (es : NamedRanges) → All (λ e. e.0 < count) es → (n : ℕ) → count ≤ n → range_in es n ≡ None
range_above count [] all n h = refl
range_above count (b ∷ es) all n h =
    let below = All-head (λ e. e.0 < count) b es all in
    ap (λ r. widen r (range_in es n)) (no_range b n (λ same. absurd (omega arith))) ∙ range_above count es (All-tail (λ e. e.0 < count) b es all) n h
