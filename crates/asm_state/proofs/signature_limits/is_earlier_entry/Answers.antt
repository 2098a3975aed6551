use Rattle.std.proofs.Common.{get_or, [], length, ap, subst, sym, ◌∙◌, ◌≡◌, ◌<◌, arith, false}
use Rattle.asm_state.specs.Signature.{domain_in}
use Rattle.asm_state.specs.Tables.{argument_lists, is_in}
use Rattle.asm_state.proofs.EntriesFit.{none_more, other_position, outside_list}
use Rattle.asm_state.proofs.LocationLemmas.LocationOrder.{domain_sound}
use Rattle.asm_state.proofs.signature_limits.is_earlier_entry.Goals as goal
use Rattle.asm_state.proofs.signature_limits.is_earlier_entry.Goals.{in-Some+else-p-k, in_default}

pub loop-j-preserved : goal.loop-j-preserved
loop-j-preserved c =
    let domain = domain_in c.args.universes.now c.args.domain.now in
    let inside : c.loop-j.j < length c.args.entries.now = omega (arith, c.loop-j-test.true, c.requires.known) in
    let its = c.as_slice.ensures ∙ ap (λ e. e.0) (sym c.index-entries-j.is) in
    none_more c.args.entries.now c.loop-j.j (get_or (argument_lists domain) c.args.k []) c.index-entries-j.result inside c.index-entries-j.is c.loop-j.invariant
    (elim c.match-list_position.branch [
      | in-Some+else-p-k w ↦
          other_position domain (domain_sound c.args.universes.now c.requires.sound c.args.domain.now) w.in-Some.p c.args.k c.index-entries-j.result.0
          w.in-Some.ensures.some.0 c.requires.in_range w.if-p-k.false (w.in-Some.ensures.some.1 ∙ its)
      | in_default w ↦
          outside_list domain c.args.k c.index-entries-j.result.0 c.requires.in_range (subst (λ vs. is_in domain vs ≡ false) its w.in_default.ensures.none)
    ])
