use Rattle.std.proofs.Common.{◌≡◌, true, Some, not, ap, sym, subst, ◌∙◌, IfOk}
use Rattle.std.proofs.lemmas.Result.{IfOk-weaker}
use Rattle.asm_reader.specs.code.PathNumbers.{HoldsScript, number_of_path}
use Rattle.asm_reader.specs.ScriptLines.{Line, EveryLine}
use Rattle.asm_reader.specs.ScriptText.{has_line_of, line_for, line_said}
use Rattle.asm_reader.specs.code.LinesSaid.{then_line}
use Rattle.asm_reader.proofs.ScriptLemmas.FoundLines.{says_exact, says_every, exact_taken, every_taken}
use Rattle.asm_reader.proofs.path_numbers.PathNumbers.add.Goals as goal

pub returns-in-Step-clause-added : goal.returns-in-Step-clause-added
returns-in-Step-clause-added c script says =
    let s = c.args.self.now in
    let choice = c.args.choice.now in
    let n = c.in_ok-path_number.path_number in
    let ways = c.number_for_path.new.ways.entries in
    let line : Line = record { step = c.in-Step.step; path = choice.path.items; choice = choice.number } in
    let kept = c.in_ok-path_number.ensures.placed script s.exact.entries s.every.items says in
    let at : number_of_path ways line.path ≡ Some n = ap (number_of_path ways) (sym c.as_slice.ensures.value) ∙ kept.1 in
    let has = ap (λ w. has_line_of script (line_for w line.path line.choice)) c.in-Step.is ∙ says_exact script ways s.exact.entries s.every.items kept.0 line n at in
    IfOk-weaker c.put_exact.result _ (λ added. has_line_of script (line_said choice) ≡ not added) (λ added free. has ∙ free) c.put_exact.ensures.free

pub returns-in-Step-clause-taken : goal.returns-in-Step-clause-taken
returns-in-Step-clause-taken c script says =
    let s = c.args.self.now in
    let choice = c.args.choice.now in
    let n = c.in_ok-path_number.path_number in
    let ways = c.number_for_path.new.ways.entries in
    let line : Line = record { step = c.in-Step.step; path = choice.path.items; choice = choice.number } in
    let kept = c.in_ok-path_number.ensures.placed script s.exact.entries s.every.items says in
    let at : number_of_path ways line.path ≡ Some n = ap (number_of_path ways) (sym c.as_slice.ensures.value) ∙ kept.1 in
    let more = c.put_exact.new.exact.entries in
    subst (λ w. IfOk c.put_exact.result (λ added. added ≡ true → HoldsScript (then_line script (line_for w line.path line.choice)) ways more s.every.items)) (sym c.in-Step.is)
    (exact_taken script ways s.exact.entries s.every.items kept.0 line n more c.put_exact.result at c.put_exact.ensures.free c.put_exact.ensures.at c.put_exact.ensures.short)

pub returns-in-EveryStep-clause-added : goal.returns-in-EveryStep-clause-added
returns-in-EveryStep-clause-added c script says =
    let s = c.args.self.now in
    let choice = c.args.choice.now in
    let n = c.in_ok-path_number.path_number in
    let ways = c.number_for_path.new.ways.entries in
    let line : EveryLine = record { path = choice.path.items; choice = choice.number } in
    let kept = c.in_ok-path_number.ensures.placed script s.exact.entries s.every.items says in
    let at : number_of_path ways line.path ≡ Some n = ap (number_of_path ways) (sym c.as_slice.ensures.value) ∙ kept.1 in
    let has = ap (λ w. has_line_of script (line_for w line.path line.choice)) c.in-EveryStep.is ∙ says_every script ways s.exact.entries s.every.items kept.0 line n at in
    IfOk-weaker c.put_every.result _ (λ added. has_line_of script (line_said choice) ≡ not added) (λ added free. has ∙ free) c.put_every.ensures.free

pub returns-in-EveryStep-clause-taken : goal.returns-in-EveryStep-clause-taken
returns-in-EveryStep-clause-taken c script says =
    let s = c.args.self.now in
    let choice = c.args.choice.now in
    let n = c.in_ok-path_number.path_number in
    let ways = c.number_for_path.new.ways.entries in
    let line : EveryLine = record { path = choice.path.items; choice = choice.number } in
    let kept = c.in_ok-path_number.ensures.placed script s.exact.entries s.every.items says in
    let at : number_of_path ways line.path ≡ Some n = ap (number_of_path ways) (sym c.as_slice.ensures.value) ∙ kept.1 in
    let slots = c.put_every.new.every.items in
    subst (λ w. IfOk c.put_every.result (λ added. added ≡ true → HoldsScript (then_line script (line_for w line.path line.choice)) ways s.exact.entries slots)) (sym c.in-EveryStep.is)
    (every_taken script ways s.exact.entries s.every.items kept.0 line n slots c.put_every.result at c.put_every.ensures.free c.put_every.ensures.at c.put_every.ensures.room)
