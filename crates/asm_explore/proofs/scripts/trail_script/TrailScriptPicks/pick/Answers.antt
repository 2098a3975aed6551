use Rattle.std.proofs.Common.{◌≡◌, ◌∙◌, ◌+◌, ◌-◌, ◌<◌, ◌≤◌, None, Some, length, map, unwrap_or, sym, ap, arith, slice_get, List, Vec, Global}
use Rattle.std.specs.Prelude.{option_map}
use Rattle.std.specs.Option.{option_or}
use Rattle.std.proofs.lemmas.List.{length-map}
use Rattle.std.proofs.lemmas.Option.{slice_get-get_or, slice_get-map}
use Rattle.asm_reader.specs.ScriptLines.{exact_choice}
use Rattle.asm_explore.specs.declared.outcomes.listed_outcome.Choice.{Choice}
use Rattle.asm_explore.specs.ChoiceLines.{lines_for, lines_of}
use Rattle.asm_explore.proofs.ScriptLemmas.TrailPicks.{at_none, at_step, or_nothing}
use Rattle.asm_explore.proofs.scripts.trail_script.TrailScriptPicks.pick.Goals as goal

abbrev choices : Vec Choice Global → List Choice
choices cs = cs.items

pub returns-then-step-eq0 : goal.returns-then-step-eq0
returns-then-step-eq0 c =
    let back = map choices c.args.self.now.back.now in
    sym (ap (λ o. unwrap_or (option_or o None) 0) (at_none back c.args.step c.args.path.now (λ s some low same. omega (arith, some, same, c.if-step-eq0.true))))

pub returns-then-step-back : goal.returns-then-step-back
returns-then-step-back c =
    let vs = c.args.self.now.back.now in
    let many : length vs < c.args.step = omega (arith, c.if-step-back.true) in
    sym (ap (λ o. unwrap_or (option_or o None) 0)
    (at_none (map choices vs) c.args.step c.args.path.now (λ s some low same. omega (arith, low, same, length-map vs choices, many))))

pub returns : goal.returns
returns c =
    let vs = c.args.self.now.back.now in
    let step = c.args.step in
    let p = c.args.path.now in
    let k = length vs - step in
    let cs = c.index-back-back.result in
    let few : step ≤ length vs = omega (arith, c.if-step-back.false) in
    let some : 0 < step = omega (arith, c.if-step-eq0.false) in
    let there : slice_get vs k ≡ Some cs = slice_get-get_or vs k cs (omega (arith, few, some)) ∙ ap Some (sym c.index-back-back.is) in
    let at : slice_get (map choices vs) k ≡ Some cs.items = slice_get-map choices vs k ∙ ap (option_map choices) there in
    let count : step + k ≡ length (map choices vs) = omega (arith, few, length-map vs choices) in
    let said = exact_choice (lines_of (map choices vs)) step p in
    c.number_at.ensures step
    ∙ ap (λ ds. unwrap_or (exact_choice (lines_for step ds) step p) 0) c.as_slice.ensures.value
    ∙ ap (λ o. unwrap_or o 0) (sym (at_step (map choices vs) k step p cs.items at count))
    ∙ ap (λ o. unwrap_or o 0) (sym (or_nothing said))
