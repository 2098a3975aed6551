use Rattle.std.proofs.Common.{◌≡◌, ◌+◌, length, arith, subst, sym}
use Rattle.asm_state.specs.Signature.{Shape}
use Rattle.asm_state.proofs.Counts.{CountsTo, known_lists, count_controlled, count_static, all_counted, both_within, first_past}
use Rattle.asm_state.proofs.signature_limits.counts_fit.Goals as goal
use Rattle.asm_state.proofs.signature_limits.counts_fit.Goals.{in-Controlled, in-Static}

pub overflow_add-locations : goal.overflow_add-locations
overflow_add-locations c =
    let lists = known_lists (record { universes = c.args.universes.now; functions = c.args.functions.now }) c.loop-f.f c.index-functions-f.result c.as_slice.result.now c.list_count-lists.result c.requires.domains c.loop-f-test.true c.index-functions-f.is c.as_slice.ensures c.list_count-lists.ensures.count c.list_count-lists.ensures.bound in
    omega (arith, lists.1)

pub overflow_add-locations-in-Controlled : goal.overflow_add-locations-in-Controlled
overflow_add-locations-in-Controlled c =
    let lists = known_lists (record { universes = c.args.universes.now; functions = c.args.functions.now }) c.loop-f.f c.index-functions-f.result c.as_slice.result.now c.list_count-lists.result c.requires.domains c.loop-f-test.true c.index-functions-f.is c.as_slice.ensures c.list_count-lists.ensures.count c.list_count-lists.ensures.bound in
    omega (arith, lists.1, c.loop-f.invariant.locations_small, c.loop-f-test.true, c.requires.few)

pub overflow_add-static_lists : goal.overflow_add-static_lists
overflow_add-static_lists c =
    let lists = known_lists (record { universes = c.args.universes.now; functions = c.args.functions.now }) c.loop-f.f c.index-functions-f.result c.as_slice.result.now c.list_count-lists.result c.requires.domains c.loop-f-test.true c.index-functions-f.is c.as_slice.ensures c.list_count-lists.ensures.count c.list_count-lists.ensures.bound in
    omega (arith, lists.1, c.loop-f.invariant.static_lists_small, c.loop-f-test.true, c.requires.few)

pub loop-f-preserved : goal.loop-f-preserved
loop-f-preserved c =
    let shape : Shape = record { universes = c.args.universes.now; functions = c.args.functions.now } in
    let lists = known_lists shape c.loop-f.f c.index-functions-f.result c.as_slice.result.now c.list_count-lists.result c.requires.domains c.loop-f-test.true c.index-functions-f.is c.as_slice.ensures c.list_count-lists.ensures.count c.list_count-lists.ensures.bound in
    elim c.match-function.branch [
      | in-Controlled w ↦
          subst (λ n. CountsTo shape (c.loop-f.f + 1) n c.match-function.static_lists) (sym w.locations-is)
          (subst (CountsTo shape (c.loop-f.f + 1) (c.loop-f.locations + (c.list_count-lists.result + 1))) (sym w.static_lists-is)
          (count_controlled shape c.loop-f.f c.index-functions-f.result c.loop-f.locations c.loop-f.static_lists c.list_count-lists.result c.loop-f.invariant c.loop-f-test.true c.index-functions-f.is w.in-Controlled.is lists.0 lists.1))
      | in-Static w ↦
          subst (λ n. CountsTo shape (c.loop-f.f + 1) n c.match-function.static_lists) (sym w.locations-is)
          (subst (CountsTo shape (c.loop-f.f + 1) c.loop-f.locations) (sym w.static_lists-is)
          (count_static shape c.loop-f.f c.index-functions-f.result c.loop-f.locations c.loop-f.static_lists c.list_count-lists.result c.loop-f.invariant c.loop-f-test.true c.index-functions-f.is w.in-Static.is lists.0 lists.1))
    ]

pub returns-then-locations-le-MAX_LOCATIONS : goal.returns-then-locations-le-MAX_LOCATIONS
returns-then-locations-le-MAX_LOCATIONS c =
    let all : c.loop-f.f ≡ length c.args.functions.now = omega (arith, c.loop-f-test.false, c.loop-f.auto.f-end) in
    let counted = all_counted (record { universes = c.args.universes.now; functions = c.args.functions.now }) c.loop-f.f c.loop-f.locations c.loop-f.static_lists all c.loop-f.invariant in
    both_within c.loop-f.locations c.loop-f.static_lists _ _ counted.0 counted.1 c.if-locations-le-MAX_LOCATIONS.true

pub returns-else-locations-le-MAX_LOCATIONS : goal.returns-else-locations-le-MAX_LOCATIONS
returns-else-locations-le-MAX_LOCATIONS c =
    let all : c.loop-f.f ≡ length c.args.functions.now = omega (arith, c.loop-f-test.false, c.loop-f.auto.f-end) in
    let counted = all_counted (record { universes = c.args.universes.now; functions = c.args.functions.now }) c.loop-f.f c.loop-f.locations c.loop-f.static_lists all c.loop-f.invariant in
    first_past c.loop-f.locations _ _ counted.0 c.if-locations-le-MAX_LOCATIONS.false
