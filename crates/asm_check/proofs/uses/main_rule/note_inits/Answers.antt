use Rattle.std.proofs.Common.{ap, map}
use Rattle.std.specs.Prelude.{filter_map}
use Rattle.asm_syntax.specs.code.Views.{spec_of, item_of}
use Rattle.asm_check.specs.Faults.{init_of}
use Rattle.asm_check.proofs.UseLemmas.MainRuleFaults.{none_named, some_named}
use Rattle.asm_check.proofs.uses.main_rule.note_inits.Goals as goal

pub returns-then-not-note_main_rules : goal.returns-then-not-note_main_rules
returns-then-not-note_main_rules c =
    none_named (spec_of c.args.spec.now) _ _ _ _ (ap (λ ys. filter_map init_of (map item_of ys)) c.deref.ensures.value) c.if-not-note_main_rules.ensures.named
    (c.note_main_rules.ensures.least (spec_of c.args.spec.now) c.requires) c.note.ensures

pub returns-else-not-note_main_rules : goal.returns-else-not-note_main_rules
returns-else-not-note_main_rules c =
    some_named (spec_of c.args.spec.now) _ _ _ (ap (λ ys. filter_map init_of (map item_of ys)) c.deref.ensures.value) c.if-not-note_main_rules.ensures.named
    (c.note_main_rules.ensures.least (spec_of c.args.spec.now) c.requires)
