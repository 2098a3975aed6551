-- Free. The range of two ranges together.
use Rattle.std.proofs.Common.{◌≡◌, ℕ, ◌<◌, ◌≤◌, eqb, nat_eq, cond, Option, Some, None, refl, sym, ap, ◌∙◌, subst, arith, ⊎_elim}
use Rattle.std.proofs.lemmas.Bool.{cases_lt}
use Rattle.std.specs.List.{IsDistinct}
use Rattle.std.specs.Map.{keys_of}
use Rattle.asm_state.specs.declared.value.Value.{Value}
use Rattle.asm_state.specs.code.Codes.{code_of}
use Rattle.asm_state.specs.Updates.{Range, lesser, greater, widen}
use Rattle.asm_updates.specs.code.SummaryRanges.{NamedRanges, first_range, range, AreRanges}
use Rattle.asm_updates.specs.code.IndexedRanges.{put}
use Rattle.asm_updates.proofs.RangesFound.{same_bounds, All-found, found-put, AreEntries-put}
use Rattle.asm_updates.proofs.CodeOrder.{lesser-first, lesser-second, greater-first, greater-second}

pub widen-none : (r : Option Range) → widen r None ≡ r
widen-none None = refl
widen-none (Some r) = refl

lesser-le : (a b : Value) → code_of (lesser a b) ≤ code_of a
lesser-le a b =
    ⊎_elim
    (λ (less : code_of b < code_of a). subst (λ v. code_of v ≤ code_of a) (lesser-second a b less) (omega arith))
    (λ (more : code_of a ≤ code_of b). subst (λ v. code_of v ≤ code_of a) (lesser-first a b more) (omega arith))
    (cases_lt (code_of b) (code_of a))

greater-ge : (a b : Value) → code_of a ≤ code_of (greater a b)
greater-ge a b =
    ⊎_elim
    (λ (less : code_of a < code_of b). subst (λ v. code_of a ≤ code_of v) (greater-second a b less) (omega arith))
    (λ (more : code_of b ≤ code_of a). subst (λ v. code_of a ≤ code_of v) (greater-first a b more) (omega arith))
    (cases_lt (code_of a) (code_of b))

-- bounds that widen ordered bounds are ordered
ordered-widened : (a b c : Value × Value) → code_of a.0 ≤ code_of a.1 → Some (range c) ≡ widen (Some (range a)) (Some (range b)) → code_of c.0 ≤ code_of c.1
ordered-widened a b c h e =
    let is : (lesser a.0 b.0, greater a.1 b.1) ≡ c = sym (same_bounds c (lesser a.0 b.0, greater a.1 b.1) e) in
    let least : code_of (lesser a.0 b.0) ≤ code_of a.0 = lesser-le a.0 b.0 in
    let greatest : code_of a.1 ≤ code_of (greater a.1 b.1) = greater-ge a.1 b.1 in
    let all : code_of (lesser a.0 b.0) ≤ code_of (greater a.1 b.1) = omega arith in
    subst (λ (x : Value × Value). code_of x.0 ≤ code_of x.1) is all

-- so are those that widen what ordered entries have at a location
pub ordered-widened_entry : (count : ℕ) (es : NamedRanges) (n : ℕ) (b c : Value × Value) → AreRanges count es → code_of b.0 ≤ code_of b.1 → Some (range c) ≡ widen (first_range es n) (Some (range b)) → code_of c.0 ≤ code_of c.1
ordered-widened_entry count es n b c are h e = by_range (first_range es n) refl e
  where
    by_range : (r : Option Range) → first_range es n ≡ r → Some (range c) ≡ widen r (Some (range b)) → code_of c.0 ≤ code_of c.1
    by_range None at e = subst (λ (x : Value × Value). code_of x.0 ≤ code_of x.1) (sym (same_bounds c b e)) h
    by_range (Some r) at e = ordered-widened (r.least, r.greatest) b c (All-found (λ x. code_of x.1.0 ≤ code_of x.1.1) es n (r.least, r.greatest) are.ordered at) e

-- widened bounds put at a location
pub found-widened : (es fs : NamedRanges) (n : ℕ) (b c : Value × Value) → fs ≡ put es n c → Some (range c) ≡ widen (first_range es n) (Some (range b)) →
    (k : ℕ) → first_range fs k ≡ cond (eqb k n) (widen (first_range es n) (Some (range b))) (first_range es k)
found-widened es fs n b c is both k =
    ap (λ gs. first_range gs k) is ∙ found-put es n c k ∙ ap (λ r. cond (eqb k n) r (first_range es k)) both

pub AreEntries-widened : (count : ℕ) (es fs : NamedRanges) (n : ℕ) (b c : Value × Value) → fs ≡ put es n c → IsDistinct nat_eq (keys_of fs) → Some (range c) ≡ widen (first_range es n) (Some (range b)) →
    n < count → code_of b.0 ≤ code_of b.1 → AreRanges count es → AreRanges count fs
AreEntries-widened count es fs n b c is unique both below le are =
    subst (AreRanges count) (sym is)
    (AreEntries-put count es n c (subst (λ gs. IsDistinct nat_eq (keys_of gs)) is unique) below (ordered-widened_entry count es n b c are le both) are)
