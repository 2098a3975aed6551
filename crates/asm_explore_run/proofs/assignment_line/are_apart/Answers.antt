use Rattle.std.proofs.Common.{◌≡◌, ◌∙◌, ◌==◌, ◌+◌, ◌-◌, ap, arith, drop, length, sym, take}
use Rattle.std.specs.List.{list_any}
use Rattle.std.proofs.lemmas.List.{length-drop, take_all}
use Rattle.asm_explore_run.proofs.BoundNames.{apart_from}
use Rattle.asm_explore_run.proofs.assignment_line.are_apart.Goals as goal

pub loop-i-preserved : goal.loop-i-preserved
loop-i-preserved c = λ apart.
    let names = c.args.names.now in
    let i = c.loop-i.i in
    let n = c.index-names-i.result in
    let behind : take (length names - (i + 1)) (drop (i + 1) names) ≡ drop (i + 1) names = take_all (length names - (i + 1)) (drop (i + 1) names) (omega (arith, length-drop (i + 1) names)) in
    let none = ap (list_any (λ other. other.now.at == n.now.at)) (sym behind) ∙ (sym c.is_one_at.ensures ∙ c.if-is_one_at.false) in
    c.loop-i.invariant (apart_from names i n c.loop-i-test.true c.index-names-i.is none apart)
