use Rattle.std.proofs.Common.{◌≡◌, ◌∙◌, ◌+◌, ◌*◌, ◌/◌, ◌^◌, ◌≤◌, ℕ, List, [], ◌∷◌, ◌++◌, length, take, slice_index_or, ap, sym, subst, arith}
use Rattle.std.specs.Int.{from_be_bytes, to_be_bytes, w64}
use Rattle.std.proofs.lemmas.Grind.{flat_map-append}
use Rattle.std.proofs.lemmas.List.{take_all, take_more}
use Rattle.sha2.specs.Hashers.{Holds256}
use Rattle.asm_random.specs.DrawnNumbers.{drawn_bytes}
use Rattle.asm_random.proofs.random_source.RandomSource.candidate.Goals as goal

pub loop-number-init : goal.loop-number-init
loop-number-init c =
    let seed = to_be_bytes w64 c.args.self.seed in
    let run = to_be_bytes w64 c.args.self.run in
    let one = subst (λ (bs : List ℕ). Holds256 c.update.new.self bs) c.to_be_bytes.ensures (c.update.ensures [] c.new-digest.ensures) in
    let two = subst (λ (bs : List ℕ). Holds256 c.update-2.new.self (seed ++ bs)) c.to_be_bytes-2.ensures (c.update-2.ensures seed one) in
    subst (λ (bs : List ℕ). Holds256 c.update-3.new.self ((seed ++ run) ++ bs)) c.to_be_bytes-3.ensures (c.update-3.ensures (seed ++ run) two)

pub loop-number-preserved : goal.loop-number-preserved
loop-number-preserved c =
    let path = c.args.path.now in
    let k = c.loop-number.number-index in
    let first = λ (ns : List ℕ). c.args.self.seed ∷ c.args.self.run ∷ c.args.step ∷ ns in
    let n = slice_index_or path k 0 in
    let grown = subst (λ (bs : List ℕ). Holds256 c.update-in-loop-number.new.self (drawn_bytes (first (take k path)) ++ bs)) c.to_be_bytes-in-loop-number.ensures
    (c.update-in-loop-number.ensures (drawn_bytes (first (take k path))) c.loop-number.invariant) in
    let bytes : drawn_bytes (first (take (k + 1) path)) ≡ drawn_bytes (first (take k path)) ++ to_be_bytes w64 n =
    ap (λ (ns : List ℕ). drawn_bytes (first ns)) (take_more path k 0 c.loop-number-test.true) ∙ flat_map-append (λ m. to_be_bytes w64 m) (first (take k path)) (n ∷ []) in
    subst (λ (bs : List ℕ). Holds256 c.update-in-loop-number.new.self bs) (sym bytes) grown

pub returns-clause-drawn : goal.returns-clause-drawn
returns-clause-drawn c =
    let path = c.args.path.now in
    let first = λ (ns : List ℕ). c.args.self.seed ∷ c.args.self.run ∷ c.args.step ∷ ns in
    let end : length path ≤ c.loop-number.number-index = omega (arith, c.loop-number-test.false) in
    let whole : take c.loop-number.number-index path ≡ path = take_all c.loop-number.number-index path end in
    let digest = c.finalize.ensures (drawn_bytes (first path)) (subst (λ (ns : List ℕ). Holds256 c.loop-number.digest (drawn_bytes (first ns))) whole c.loop-number.invariant) in
    c.scaled.ensures.scaled ∙ ap (λ (n : ℕ). n * c.args.candidates / 2 ^ 64) (c.eight_of.ensures ∙ ap (λ (bs : List ℕ). from_be_bytes w64 (take 8 bs)) digest)
