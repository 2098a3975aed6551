use Rattle.std.proofs.Common.{◌∙◌, ◌≤◌, ap, arith, length, subst, take}
use Rattle.std.proofs.lemmas.List.{length-replicate, length-take-le}
use Rattle.asm_explore.specs.code.IndexedNodes.{IsIndexed, taken_slots}
use Rattle.asm_explore.proofs.StateLemmas.IndexedNodes.{filled, indexed_none, taken_push}
use Rattle.asm_explore.proofs.StateLemmas.MoreNodes.{some_at}
use Rattle.asm_explore.proofs.states.lookup.index_of.Goals as goal

pub loop-number-init : goal.loop-number-init
loop-number-init c =
    let places = c.args.places in
    let slots = filled c.new-slots.result.items c.resize.new.self.items _ places c.new-slots.ensures.items c.new-slots.ensures.len c.in_ok-resize.ensures.items in
    let tags = filled c.new-tags.result.items c.resize-2.new.self.items _ places c.new-tags.ensures.items c.new-tags.ensures.len c.in_ok-resize-2.ensures.items in
    record { indexed = indexed_none c.resize.new.self.items c.resize-2.new.self.items places slots tags; places = ap length tags ∙ length-replicate places 0 }

pub free_slot-at-requires : goal.free_slot-at-requires
free_slot-at-requires c =
    let nodes = c.args.nodes.now in
    let l = c.loop-number in
    let low : l.number ≤ length nodes = omega (arith, c.loop-number-test.true, c.len-number-end.ensures) in
    let tags = c.as_slice.ensures.value in
    omega (arith, ap taken_slots tags, ap length tags, l.invariant.indexed.few, length-take-le l.number nodes low, l.invariant.places, c.requires.room, c.loop-number-test.true, c.len-number-end.ensures)

pub loop-number-preserved : goal.loop-number-preserved
loop-number-preserved c =
    let nodes = c.args.nodes.now in
    let l = c.loop-number in
    let n = some_at nodes l.number (omega (arith, c.loop-number-test.true, c.len-number-end.ensures)) in
    record {
      indexed = subst (λ ns. IsIndexed ns c.note.new.slots.items c.note.new.tags.items) (taken_push nodes l.number n.0 n.1)
          (c.note.ensures.indexed (take l.number nodes) n.0 (length-take-le l.number nodes (omega (arith, c.loop-number-test.true, c.len-number-end.ensures))) (c.hash-hash.ensures n.0 n.1) l.invariant.indexed);
      places = c.note.ensures.places ∙ l.invariant.places;
    }
