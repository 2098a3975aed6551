use Rattle.std.proofs.Common.{◌≡◌, ◌∙◌, ap, sym, subst}
use Rattle.asm_state.specs.Updates.{UpdateSet, together, none}
use Rattle.asm_state.proofs.UpdateLemmas.UnionsAndMerges.{union_laws}
use Rattle.asm_updates.specs.code.Stands.{Stands}
use Rattle.asm_explore.proofs.OutcomeLemmas.ListLemmas.{union_shows}
use Rattle.asm_explore.proofs.outcomes.sets.union_into.Goals as goal

with_none : (U V : UpdateSet) → V ≡ none → together U V ≡ U
with_none U V is = ap (together U) is ∙ union_laws.swap U none ∙ union_laws.unit U

pub returns-then-is_empty-clause-rule_result : goal.returns-then-is_empty-clause-rule_result
returns-then-is_empty-clause-rule_result c = λ shape x y.
    union_shows shape c.args.left c.args.right c.args.left
    (λ U V h g. subst (Stands shape c.args.left.set) (sym (with_none U V ((c.is_empty.ensures.empty shape V g).0 c.if-is_empty.true))) h) x y

pub returns-clause-rule_result : goal.returns-clause-rule_result
returns-clause-rule_result c = λ shape x y.
    union_shows shape c.args.left c.args.right c.in_ok-both.both
    (λ U V h g. subst (Stands shape c.in_ok-both.both.set) (union_laws.swap V U) (c.in_ok-both.ensures.union shape V U g h)) x y
