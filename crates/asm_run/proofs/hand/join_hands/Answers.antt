use Rattle.std.proofs.Common.{◌≡◌, ◌∙◌, ◌++◌, ◌∷◌, List, All, ap, sym, subst, append_assoc, arith}
use Rattle.std.specs.Vec.Iter.{into_iter_items}
use Rattle.std.proofs.lemmas.List.Elements.{All-tail}
use Rattle.asm_run.specs.declared.hand.RegionHand.{RegionHand}
use Rattle.asm_run.specs.code.Hands.{logs_of, parts_of}
use Rattle.asm_run.proofs.hand.join_hands.Goals as goal

pub loop-hand-preserved : goal.loop-hand-preserved
loop-hand-preserved c =
    let l = c.loop-hand in
    let rest : List RegionHand = into_iter_items l.hand-iterator in
    let after : List RegionHand = into_iter_items c.next.new.self in
    let hand : RegionHand = c.in-Some.hand in
    let step : rest ≡ hand ∷ after = c.in-Some.ensures.steps.0 in
    let joined = c.join.ensures in
    let parts = ap (λ s. s.parts) joined in
    let rest_parts = ap parts_of step in
    record {
      table = ap (λ s. s.table) joined ∙ l.invariant.table;
      tables = All-tail (λ h. h.seat.table ≡ c.args.striped.now.table) hand after (subst (λ (hs : List RegionHand). All (λ h. h.seat.table ≡ c.args.striped.now.table) hs) step l.invariant.tables);
      parts = omega (arith, parts, rest_parts, l.invariant.parts);
      log = ap (λ s. s.log ++ logs_of after) joined ∙ append_assoc l.seat.log hand.seat.log (logs_of after) ∙ sym (ap (λ (hs : List RegionHand). l.seat.log ++ logs_of hs) step) ∙ l.invariant.log;
    }
