use Rattle.std.proofs.Common.{◌≡◌, ℕ, ◌+◌, ◌-◌, ◌∙◌, List, [], ◌∷◌, ◌++◌, take, ap, subst, sym, arith}
use Rattle.asm_explore.specs.declared.outcomes.listed_outcome.ListedOutcome.{ListedOutcome}
use Rattle.asm_meaning.specs.Yields.{at}
use Rattle.asm_explore.specs.code.OutcomeLists.{HaveChoices, Lists}
use Rattle.asm_explore.specs.code.ChoicePaths.{LieBelow, IsPlacedFrom}
use Rattle.asm_explore.proofs.outcomes.beside.beside_lists.Goals as goal

-- a list whose last element is its only one
only : (n m : ℕ) (xs rest : List ListedOutcome) (x : ListedOutcome) → m ≡ 1 → m ≡ n → rest ≡ take (n - 1) xs → xs ≡ rest ++ x ∷ [] → xs ≡ x ∷ []
only n m xs rest x one same left is =
    let none : n - 1 ≡ 0 = omega (arith, one, same) in
    is ∙ ap (λ r. r ++ x ∷ []) (left ∙ ap (λ k. take k xs) none)

pub returns-then-len-eq1-2-clause-lists : goal.returns-then-len-eq1-2-clause-lists
returns-then-len-eq1-2-clause-lists c = λ o q h g.
    let a = c.args in
    let some = c.in-Some-Some in
    let left : a.left.items ≡ some.one ∷ [] = only _ c.len.result a.left.items c.pop.new.self.items some.one c.if-len-eq1.true c.len.ensures some.ensures.rest some.ensures.items in
    let right : a.right.items ≡ some.other ∷ [] =
    only _ c.len-then-len-eq1.result a.right.items c.pop-then-len-eq1-2.new.self.items some.other c.if-len-eq1-2.true c.len-then-len-eq1.ensures some.ensures'.rest some.ensures'.items in
    c.in_ok-found.ensures.lists o q (subst (Lists a.signature.now o) left h) (subst (Lists a.signature.now q) right g)

pub returns-clause-lists : goal.returns-clause-lists
returns-clause-lists c = λ o q h g.
    c.in_ok-found-2.ensures.lists o q (subst (Lists c.args.signature.now o) (sym c.as_slice.ensures.value) h) (subst (Lists c.args.signature.now q) (sym c.as_slice-2.ensures.value) g)

pub returns-then-len-eq1-2-clause-placed : goal.returns-then-len-eq1-2-clause-placed
returns-then-len-eq1-2-clause-placed c = λ p k h g.
    let a = c.args in
    let some = c.in-Some-Some in
    let left : a.left.items ≡ some.one ∷ [] = only _ c.len.result a.left.items c.pop.new.self.items some.one c.if-len-eq1.true c.len.ensures some.ensures.rest some.ensures.items in
    let right : a.right.items ≡ some.other ∷ [] =
    only _ c.len-then-len-eq1.result a.right.items c.pop-then-len-eq1-2.new.self.items some.other c.if-len-eq1-2.true c.len-then-len-eq1.ensures some.ensures'.rest some.ensures'.items in
    c.in_ok-found.ensures.placed p k (subst (HaveChoices (LieBelow (at p k))) left h) (subst (HaveChoices (IsPlacedFrom p (k + 1))) right g)

pub returns-clause-placed : goal.returns-clause-placed
returns-clause-placed c = λ p k h g.
    c.in_ok-found-2.ensures.placed p k (subst (HaveChoices (LieBelow (at p k))) (sym c.as_slice.ensures.value) h)
    (subst (HaveChoices (IsPlacedFrom p (k + 1))) (sym c.as_slice-2.ensures.value) g)
