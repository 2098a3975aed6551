use Rattle.std.proofs.Common.{refl, subst, arith}
use Rattle.asm_code.specs.code.CodeViews.{code_of}
use Rattle.asm_code.specs.code.RuleViews.{target_code_of}
use Rattle.asm_eval.specs.code.Evaluation.{target_in}
use Rattle.asm_clash.specs.code.FirstFound.{IsFound}
use Rattle.asm_clash.specs.code.StandingRules.{detail_at}
use Rattle.asm_clash.specs.declared.found.Found.{Found}
use Rattle.asm_clash.proofs.Founds.{one_found}
use Rattle.asm_clash.proofs.Leaves.{elsewhere, here, not_some, none_here, some_below}
use Rattle.asm_clash.proofs.assigned.assigned.Goals as goal

pub returns-in_default : goal.returns-in_default
returns-in_default c =
    let a = c.args in
    let v = a.view.now in
    let shape = v.signature.now in
    let n = a.sought.now.location in
    let d = detail_at v a.frame.now a.sought.now.given.now (target_code_of a.place.now) (code_of a.term.now) a.path.now in
    subst (λ xs. IsFound a.sought.now.most xs c.none-found.result)
    (none_here shape n (target_in v a.frame.now (target_code_of a.place.now)) c.in_ok-m.field-0 d c.in_ok-m.ensures.location (not_some c.in_ok-m.field-0 c.in_default.not-Some))
    (c.none-found.ensures a.sought.now.most)

pub returns-then-m-sought : goal.returns-then-m-sought
returns-then-m-sought c =
    let a = c.args in
    let v = a.view.now in
    let shape = v.signature.now in
    let n = a.sought.now.location in
    let d = detail_at v a.frame.now a.sought.now.given.now (target_code_of a.place.now) (code_of a.term.now) a.path.now in
    subst (λ xs. IsFound a.sought.now.most xs c.none-found.result)
    (elsewhere shape n (target_in v a.frame.now (target_code_of a.place.now)) c.in_ok-m.field-0 d c.in_ok-m.ensures.location
    c.in-Some.m c.in-Some.is v.sound c.requires.number (some_below shape c.in_ok-m.field-0 c.in-Some.m c.in-Some.is c.in_ok-m.ensures.in_range) (λ same. absurd (omega (arith, c.if-m-sought.true, same))))
    (c.none-found.ensures a.sought.now.most)

pub returns : goal.returns
returns c =
    let a = c.args in
    let v = a.view.now in
    let shape = v.signature.now in
    let n = a.sought.now.location in
    let d = detail_at v a.frame.now a.sought.now.given.now (target_code_of a.place.now) (code_of a.term.now) a.path.now in
    let found : Found = record { first = c.in_ok-first.first; count = 1 } in
    subst (λ xs. IsFound a.sought.now.most xs found)
    (here shape n (target_in v a.frame.now (target_code_of a.place.now)) c.in_ok-m.field-0 d c.in_ok-m.ensures.location c.in-Some.m c.in-Some.is (omega (arith, c.if-m-sought.false)))
    (one_found a.sought.now.most d found refl c.in_ok-first.ensures)
