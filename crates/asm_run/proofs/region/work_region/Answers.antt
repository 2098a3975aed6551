use Rattle.std.proofs.Common.{◌≡◌, ◌∙◌, ◌++◌, None, [], ap, refl, subst, arith}
use Rattle.asm_state.specs.Updates.{none}
use Rattle.asm_meaning.specs.Does.{nothing}
use Rattle.asm_eval.specs.code.Evaluation.{evaluation_shape}
use Rattle.asm_eval.specs.code.OpenedPieces.{pieces_yield}
use Rattle.asm_meaning.proofs.BesideLemmas.PartsBeside.{beside_laws}
use Rattle.asm_striped.specs.code.Log.{IsSummaryOfLog}
use Rattle.asm_run.specs.code.Hands.{logs_of}
use Rattle.asm_run.specs.code.Rounds.{Holds, StandsForOutcome}
use Rattle.asm_run.proofs.RoundLemmas.Logs.{all_put, closed_stands}
use Rattle.asm_run.proofs.RoundLemmas.NewHands.{new_parts, new_stand}
use Rattle.asm_run.proofs.region.work_region.Goals as goal

pub close-requires-clause-parts : goal.close-requires-clause-parts
close-requires-clause-parts g c =
    let hands = c.in_ok-split_hands.field-0 in
    let table = c.in_ok-striped.striped.table in
    let opened = c.in_ok-striped.ensures.table.1 in
    let own = c.in_ok-split_hands.ensures.parts in
    let joined = c.join_hands.ensures.parts in
    let kept = c.in_ok-hands.ensures.parts in
    let each = new_parts (evaluation_shape c.args.evaluation.now) table hands.items c.in_ok-split_hands.ensures.hands in
    let many = c.in_ok-split_hands.ensures.len in
    omega (arith, opened, own, joined, kept, each, many, hands.ok)

pub returns-in-Some : goal.returns-in-Some
returns-in-Some g c =
    let at = c.args.evaluation.now in
    let shape = evaluation_shape at in
    let o = pieces_yield at c.args.pieces.now in
    let f = c.in_ok-hands.field-0 in
    let new = c.in_ok-split_hands.field-0.items in
    let before : Holds shape nothing new 0 None = record { set = none; stand = new_stand shape c.in_ok-striped.striped.table new c.in_ok-split_hands.ensures.hands; reads = (refl, refl) } in
    let held = subst (λ x. Holds shape x f.hands.items f.instances f.exhausted) (beside_laws.first_unit o) (c.in_ok-hands.ensures.holds nothing before) in
    subst (λ m. StandsForOutcome o held.set f.instances m) c.in-Some.is held.reads

pub returns-in_ok-set-in-None : goal.returns-in_ok-set-in-None
returns-in_ok-set-in-None g c =
    let at = c.args.evaluation.now in
    let shape = evaluation_shape at in
    let o = pieces_yield at c.args.pieces.now in
    let f = c.in_ok-hands.field-0 in
    let new = c.in_ok-split_hands.field-0.items in
    let set = c.in_ok-set-in-None.set in
    let before : Holds shape nothing new 0 None = record { set = none; stand = new_stand shape c.in_ok-striped.striped.table new c.in_ok-split_hands.ensures.hands; reads = (refl, refl) } in
    let held = subst (λ x. Holds shape x f.hands.items f.instances f.exhausted) (beside_laws.first_unit o) (c.in_ok-hands.ensures.holds nothing before) in
    let reads = subst (λ m. StandsForOutcome o held.set f.instances m) c.in-None.is held.reads in
    let nothing_before : c.in_ok-striped.seat.log ≡ [] = ap (λ s. s.log) c.in_ok-striped.ensures.seat in
    let log : c.join_hands.new.seat.log ≡ logs_of f.hands.items =
    c.join_hands.ensures.log ∙ ap (λ l. l ++ logs_of f.hands.items) (c.in_ok-split_hands.ensures.log ∙ nothing_before) in
    let count = c.in_ok-set-in-None.ensures.count ∙ c.in_ok-striped.ensures.table.0 ∙ c.count.ensures.count in
    let stands = closed_stands shape (logs_of f.hands.items) held.set set c.count.ensures.sound count (all_put shape f.hands.items held.set held.stand)
    (subst (λ l. IsSummaryOfLog l set) log c.in_ok-set-in-None.ensures.summary) (c.in_ok-set-in-None.ensures.marks shape) in
    record { set = held.set; gives = reads.0; count = count; stands = stands; counts = reads.1 }
