use Rattle.std.proofs.Common.{◌≡◌, ℕ, get_or, refl, ap, sym, subst, ◌∙◌, arith}
use Rattle.asm_state.specs.declared.value.Value.{Value}
use Rattle.asm_updates.specs.code.Positions.{position_of}
use Rattle.asm_updates.proofs.IndexedRanges.{placed_nowhere, key_at}
use Rattle.asm_updates.proofs.ranges.known_position.Goals as goal
use Rattle.asm_updates.proofs.ranges.known_position.Goals.{else-i-entries-via-then-i-entries+else-entries-i, else-i-entries-via-else-i-entries}

pub returns-else-i-entries-clause-none : goal.returns-else-i-entries-clause-none
returns-else-i-entries-clause-none c =
    let es = c.args.entries.now in
    let i = position_of c.args.positions.now c.args.n in
    placed_nowhere es (position_of c.args.positions.now) c.args.n (c.requires refl)
    (λ at. elim c.else-i-entries.branch [
      | else-i-entries-via-then-i-entries+else-entries-i w ↦
          let e = w.index-entries-i.result in
          absurd (w.if-entries-i.false (ap (λ (x : ℕ × (Value × Value)). x.0) (sym w.index-entries-i.is) ∙ sym (key_at es i e at.0 (subst (λ j. e ≡ get_or es j e) c.at-i.ensures w.index-entries-i.is)) ∙ at.1))
      | else-i-entries-via-else-i-entries w ↦ absurd (omega (arith, w.if-i-entries.false, c.at-i.ensures, at.0))
    ])
