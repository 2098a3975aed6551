use Rattle.std.proofs.Common.{◌∙◌, ◌++◌, ap, sym}
use Rattle.std.proofs.lemmas.List.{append_assoc}
use Rattle.std.specs.Arc.{arc_value}
use Rattle.asm_explore.specs.code.ChoiceChains.{chained, all_chained}
use Rattle.asm_explore.proofs.OutcomeLemmas.Chains.{one_added, both_form}
use Rattle.asm_explore.proofs.outcomes.choice_list.+add_links.Goals as goal

pub returns-in_ok-push-in-One : goal.returns-in_ok-push-in-One
returns-in_ok-push-in-One t c = one_added c.args.into.now.items c.push.new.self.items c.in_ok-link-in-One.link (arc_value c.args.chain.now) c.in_ok-push-in-One.ensures.items c.in_ok-link-in-One.ensures

pub returns-in_ok-add_links-in-Both-2 : goal.returns-in_ok-add_links-in-Both-2
returns-in_ok-add_links-in-Both-2 t c =
    let old = all_chained c.args.into.now.items in
    let first = c.in-Both.first in
    let last = c.in-Both.last in
    c.in_ok-add_links-in-Both-2.ensures ∙ ap (λ cs. cs ++ chained (arc_value last)) c.in_ok-add_links-in-Both.ensures
    ∙ append_assoc old (chained (arc_value first)) (chained (arc_value last))
    ∙ ap (λ cs. old ++ cs) (sym (both_form (arc_value c.args.chain.now) first last (sym c.deref.ensures ∙ c.in-Both.is)))
