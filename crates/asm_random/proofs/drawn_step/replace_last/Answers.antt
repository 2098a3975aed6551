use Rattle.std.proofs.Common.{◌≡◌, ◌∙◌, ◌-◌, ℕ, List, [], ◌∷◌, ◌++◌, length, length-append, take, ap, arith, Vec, Global}
use Rattle.std.proofs.Math.Seq.{take-append_seam}
use Rattle.std.specs.BTreeMap.{BTreeMap}
use Rattle.asm_random.proofs.drawn_step.replace_last.Goals as goal

popped : {X : Type 0} (now before next : List X) (last : X) (len : ℕ) → len ≡ length now → now ≡ before ++ last ∷ [] → next ≡ take (len - 1) now → next ≡ before
popped {X} now before next last len full is rest =
    let more = length-append before (last ∷ []) in
    let same = ap (λ (xs : List X). length xs) is in
    let count : len - 1 ≡ length before = omega (arith, more, full, same) in
    rest ∙ ap (λ (xs : List X). take (len - 1) xs) is ∙ ap (λ k. take k (before ++ last ∷ [])) count ∙ take-append_seam before (last ∷ [])

pub returns : goal.returns
returns c = λ before last is.
    let steps = c.args.draft.now.steps in
    let full : steps.len ≡ length steps.items = omega (arith, steps.ok.0) in
    c.in_ok-push.ensures.items
    ∙ ap (λ (ms : List (BTreeMap (Vec ℕ Global) ℕ)). ms ++ c.args.numbers ∷ []) (popped steps.items before c.pop.new.self.items last steps.len full is c.pop.ensures.rest)
