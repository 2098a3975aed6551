use Rattle.std.proofs.Common.{◌≡◌, ◌∙◌, ◌*◌, ◌/◌, ◌^◌, ◌<◌, ℕ, zero, suc, List, ◌∷◌, length, take, max, sym, ap, arith}
use Rattle.std.specs.Int.{from_be_bytes, w64}
use Rattle.sha2.specs.Sha256.{sha256}
use Rattle.asm_random.specs.DrawnNumbers.{drawn_bytes, drawn_number}
use Rattle.asm_random.proofs.drawn_step.drawn.Goals as goal

-- of no candidates what is drawn of one is 0
of_one : (h n m r : ℕ) → m ≡ max n 1 → r ≡ h * m / 2 ^ 64 → r < m → r ≡ h * n / 2 ^ 64
of_one h zero m r is drawn low =
    let none : r ≡ 0 = omega (arith, is, low) in
    let nothing : h * 0 ≡ 0 = omega arith in
    none ∙ sym (ap (λ k. k / 2 ^ 64) nothing)
of_one h (suc n) m r is drawn low =
    let many : m ≡ suc n = omega (arith, is) in
    drawn ∙ ap (λ k. h * k / 2 ^ 64) many

pub returns : goal.returns
returns c =
    let source = c.args.source in
    let path = c.args.asked.now.choice.path in
    let candidates = c.args.asked.now.candidates in
    let full : candidates.len ≡ length candidates.items = omega (arith, candidates.ok.0) in
    let count : c.len-many.result ≡ length candidates.items = c.len-many.ensures ∙ full in
    let drawn = c.candidate.ensures.drawn ∙ ap (λ (p : List ℕ). drawn_number source.seed source.run c.args.step p c.max.result) c.as_slice.ensures in
    of_one (from_be_bytes w64 (take 8 (sha256 (drawn_bytes (source.seed ∷ source.run ∷ c.args.step ∷ path))))) (length candidates.items) c.max.result c.candidate.result
    (c.max.ensures ∙ ap (λ n. max n 1) count) drawn c.candidate.ensures.below
