use Rattle.std.proofs.Common.{◌≡◌, ◌+◌, ◌++◌, ◌∷◌, [], take, length, get_or, ap, sym, subst, arith}
use Rattle.std.proofs.lemmas.List.{take_more, take_all}
use Rattle.asm_syntax.specs.code.Views.{spec_of}
use Rattle.asm_check.specs.Shapes.{shape_of}
use Rattle.asm_meaning.specs.Declarations.{specification_of}
use Rattle.asm_explore.specs.code.StepsAhead.{AreAhead}
use Rattle.asm_explore.proofs.LookedAhead.{ahead_count, ahead_front, ahead_push}
use Rattle.asm_explore.proofs.specification.ResolvedQuestionMachine.ahead.Goals as goal

pub loop-state-preserved : goal.loop-state-preserved
loop-state-preserved c =
    let a = c.args in
    let s = spec_of a.self.now.checked.now.spec in
    let l = c.loop-state in
    let last = get_or a.states.now l._state [] in
    let first : take (l._state + 1) a.states.now ≡ take l._state a.states.now ++ last ∷ [] = take_more a.states.now l._state [] c.loop-state-test.true in
    subst (λ As. AreAhead (shape_of s) (specification_of s) a.self.now.turns a._nodes.now As c.push.new.self.items) (sym first)
    (subst (AreAhead (shape_of s) (specification_of s) a.self.now.turns a._nodes.now (take l._state a.states.now ++ last ∷ [])) (sym c.in_ok-push.ensures.items)
    (ahead_push (shape_of s) (specification_of s) a.self.now.turns a._nodes.now (take l._state a.states.now) l.all.items last l.invariant))

pub returns-clause-some : goal.returns-clause-some
returns-clause-some c = λ some.
    let a = c.args in
    let s = spec_of a.self.now.checked.now.spec in
    let l = c.loop-state in
    let count = ahead_count (shape_of s) (specification_of s) a.self.now.turns a._nodes.now (take l._state a.states.now) l.all.items l.invariant in
    let whole : take l._state a.states.now ≡ a.states.now = take_all l._state a.states.now (omega (arith, c.loop-state-test.false)) in
    omega (arith, some, count, ap length whole)

pub returns-clause-ahead : goal.returns-clause-ahead
returns-clause-ahead c =
    let a = c.args in
    let s = spec_of a.self.now.checked.now.spec in
    let l = c.loop-state in
    ahead_front (shape_of s) (specification_of s) a.self.now.turns a._nodes.now l._state a.states.now l.all.items l.invariant
