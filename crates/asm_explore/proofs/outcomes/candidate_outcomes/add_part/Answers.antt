use Rattle.std.proofs.Common.{◌≡◌, ℕ, ◌-◌, ◌∙◌, List, [], ◌∷◌, ◌++◌, take, ap, subst, sym, arith}
use Rattle.asm_explore.specs.declared.outcomes.listed_outcome.ListedOutcome.{ListedOutcome}
use Rattle.asm_explore.specs.code.OutcomeLists.{IsPicked}
use Rattle.asm_explore.proofs.outcomes.candidate_outcomes.add_part.Goals as goal

-- a list whose last element is its only one
only : (n m : ℕ) (xs rest : List ListedOutcome) (x : ListedOutcome) → m ≡ 1 → m ≡ n → rest ≡ take (n - 1) xs → xs ≡ rest ++ x ∷ [] → xs ≡ x ∷ []
only n m xs rest x one same left is =
    let none : n - 1 ≡ 0 = omega (arith, one, same) in
    is ∙ ap (λ r. r ++ x ∷ []) (left ∙ ap (λ k. take k xs) none)

pub returns-then-len-eq1-clause-picks : goal.returns-then-len-eq1-clause-picks
returns-then-len-eq1-clause-picks c =
    let a = c.args in
    let some = c.in-Some in
    let left : a.part.items ≡ some.one ∷ [] = only _ c.len.result a.part.items c.pop.new.self.items some.one c.if-len-eq1.true c.len.ensures some.ensures.rest some.ensures.items in
    subst (λ fs. IsPicked a.path.now a.number fs a.found.now.items c.add_one.new.found.items) (sym left) c.in_ok-add_one.ensures.picks

pub returns-clause-picks : goal.returns-clause-picks
returns-clause-picks c =
    let a = c.args in
    subst (λ fs. IsPicked a.path.now a.number fs a.found.now.items c.add_chosen.new.found.items) c.as_slice.ensures.value c.in_ok-add_chosen.ensures.picks
