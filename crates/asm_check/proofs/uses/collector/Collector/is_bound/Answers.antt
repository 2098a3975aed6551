use Rattle.std.proofs.Common.{sym, ap, ◌∙◌, ◌||◌}
use Rattle.std.specs.List.{list_any}
use Rattle.asm_check.specs.Names.{is_text}
use Rattle.asm_check.proofs.UseLemmas.Scopes.{among_bound}
use Rattle.asm_check.proofs.uses.collector.Collector.is_bound.Goals as goal

pub returns-then-is_binder : goal.returns-then-is_binder
returns-then-is_binder c =
    let split = among_bound c.args.self.now.binders.items c.args.self.now.parameters.keys c.args.name.now in
    let found = ap (λ b. b || list_any (λ p. is_text c.args.name.now p.now) c.args.self.now.parameters.keys) (sym c.is_binder.ensures ∙ c.if-is_binder.true) in
    c.if-is_binder.true ∙ sym (split ∙ found)

pub returns-else-is_binder : goal.returns-else-is_binder
returns-else-is_binder c =
    let split = among_bound c.args.self.now.binders.items c.args.self.now.parameters.keys c.args.name.now in
    let found = ap (λ b. b || list_any (λ p. is_text c.args.name.now p.now) c.args.self.now.parameters.keys) (sym c.is_binder.ensures ∙ c.if-is_binder.false) in
    c.is_parameter.ensures ∙ sym (split ∙ found)
