use Rattle.std.proofs.Common.{get_or, [], ap, sym, ◌∙◌, arith}
use Rattle.std.proofs.lemmas.Bool.{false≢true}
use Rattle.asm_state.specs.Signature.{domain_in}
use Rattle.asm_state.specs.Tables.{argument_lists}
use Rattle.asm_state.proofs.EntriesFit.{fit_more, none_past, one_twice, NoneIs}
use Rattle.asm_state.proofs.LocationLemmas.LocationOrder.{domain_sound}
use Rattle.asm_state.proofs.signature_limits.entries_fit.Goals as goal
use Rattle.asm_state.proofs.signature_limits.entries_fit.Goals.{else-k-end-via-then-k-end+else-is_earlier_entry, else-k-end-via-else-k-end}

pub returns-then-is_earlier_entry : goal.returns-then-is_earlier_entry
returns-then-is_earlier_entry c =
    let domain = domain_in c.args.universes.now c.args.domain.now in
    let its = c.as_slice.ensures ∙ ap (λ e. e.0) (sym c.index-entries-i.is) in
    let twice = c.is_earlier_entry.ensures.found c.if-is_earlier_entry.true in
    let unfit = one_twice domain c.args.entries.now c.loop-i.i twice.0 c.index-entries-i.result (get_or (argument_lists domain) c.in-Some.k []) c.loop-i-test.true c.index-entries-i.is twice.1 twice.2 (c.in-Some.ensures.some.1 ∙ its) in
    (λ t. absurd (false≢true t), λ fit. absurd (unfit fit))

pub overflow_add-k : goal.overflow_add-k
overflow_add-k c = let small = c.in-Some.ensures.small in omega (arith, small)

pub loop-i-preserved : goal.loop-i-preserved
loop-i-preserved c =
    let domain = domain_in c.args.universes.now c.args.domain.now in
    let sound = domain_sound c.args.universes.now c.requires.sound c.args.domain.now in
    let its = c.as_slice.ensures ∙ ap (λ e. e.0) (sym c.index-entries-i.is) in
    let some = c.in-Some.ensures.some in
    let none : NoneIs c.args.entries.now c.loop-i.i (get_or (argument_lists domain) c.in-Some.k []) = elim c.else-k-end.branch [
      | else-k-end-via-then-k-end+else-is_earlier_entry w ↦ w.is_earlier_entry.ensures.missed w.if-is_earlier_entry.false
      | else-k-end-via-else-k-end w ↦ none_past domain sound c.args.entries.now c.loop-i.i c.loop-i.end c.in-Some.k c.loop-i.invariant some.0 w.if-k-end.false
    ] in
    fit_more domain c.args.entries.now c.loop-i.i c.loop-i.end c.in-Some.k c.index-entries-i.result c.loop-i.invariant c.loop-i-test.true c.index-entries-i.is some.0 (some.1 ∙ its) none c.max-end.result (omega (arith, c.max-end.ensures)) (omega (arith, c.max-end.ensures))
