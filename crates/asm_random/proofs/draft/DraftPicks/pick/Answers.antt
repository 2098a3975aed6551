use Rattle.std.proofs.Common.{◌≡◌, ℕ, ◌+◌, ◌-◌, ◌<◌, ◌≤◌, None, Some, length, unwrap_or, sym, ap, ◌∙◌, arith, slice_get, subst, List, Vec, Global}
use Rattle.std.specs.BTreeMap.{BTreeMap}
use Rattle.std.specs.Option.{option_or}
use Rattle.asm_reader.specs.ScriptLines.{exact_choice}
use Rattle.asm_random.specs.code.Drafts.{lines_from}
use Rattle.asm_random.proofs.DraftLines.{picked_before, picked_behind, picked_from, or_nothing, indexed}
use Rattle.asm_random.proofs.draft.DraftPicks.pick.Goals as goal

pub returns-then-step-eq0 : goal.returns-then-step-eq0
returns-then-step-eq0 c =
    let maps = c.args.self.now.steps.items in
    let none : c.args.step < 1 = omega (arith, c.if-step-eq0.true) in
    sym (ap (λ o. unwrap_or (option_or o None) 0) (picked_before 1 c.args.step c.args.path.now maps none))

pub returns-then-place-steps : goal.returns-then-place-steps
returns-then-place-steps c =
    let maps = c.args.self.now.steps.items in
    let k = c.args.step - 1 in
    let out : length maps ≤ k = subst (λ (xs : List (BTreeMap (Vec ℕ Global) ℕ)). length xs ≤ k) c.as_slice-steps.ensures.value c.if-place-steps.true in
    let step : 1 + k ≡ c.args.step = omega (arith, c.if-step-eq0.false) in
    sym (ap (λ s. unwrap_or (option_or (exact_choice (lines_from 1 maps) s c.args.path.now) None) 0) (sym step)
    ∙ ap (λ o. unwrap_or (option_or o None) 0) (picked_behind 1 k c.args.path.now maps out))

pub returns : goal.returns
returns c =
    let maps = c.args.self.now.steps.items in
    let k = c.args.step - 1 in
    let m = c.index-steps-place.result in
    let at : slice_get maps k ≡ Some m =
    subst (λ (xs : List (BTreeMap (Vec ℕ Global) ℕ)). slice_get xs k ≡ Some m) c.as_slice-steps.ensures.value
    (indexed c.as_slice-steps.result.now k m c.if-place-steps.false c.index-steps-place.is) in
    let step : 1 + k ≡ c.args.step = omega (arith, c.if-step-eq0.false) in
    c.number_at.ensures (1 + k)
    ∙ ap (λ o. unwrap_or o 0) (sym (picked_from 1 k c.args.path.now maps m at))
    ∙ ap (λ s. unwrap_or (exact_choice (lines_from 1 maps) s c.args.path.now) 0) step
    ∙ ap (λ o. unwrap_or o 0) (sym (or_nothing (exact_choice (lines_from 1 maps) c.args.step c.args.path.now)))
