use Rattle.asm_syntax.specs.code.Views.{name_of}
use Rattle.asm_check.proofs.UseLemmas.MainRuleFaults.{already, unfit, fit}
use Rattle.asm_check.proofs.uses.main_rule.note_main_rule.Goals as goal
use Rattle.asm_check.proofs.uses.main_rule.note_main_rule.Goals.{then-is_named-via-then-is_named, then-is_named-via-else-is_named+then-not-can_be_main}

pub returns-then-is_named : goal.returns-then-is_named
returns-then-is_named c = λ spec table. elim c.then-is_named.branch [
  | then-is_named-via-then-is_named w ↦ already spec _ _ c.args.is_named (name_of c.args.name.now) w.if-is_named.true c.note.ensures
  | then-is_named-via-else-is_named+then-not-can_be_main w ↦
      unfit spec _ _ c.args.is_named _ _ (name_of c.args.name.now) (w.meaning.ensures spec table) w.can_be_main.ensures w.if-not-can_be_main.true c.note.ensures
]

pub returns-else-not-can_be_main : goal.returns-else-not-can_be_main
returns-else-not-can_be_main c = λ spec table.
    fit spec _ c.args.is_named _ _ (name_of c.args.name.now) (c.meaning.ensures spec table) c.can_be_main.ensures c.if-is_named.false c.if-not-can_be_main.false
