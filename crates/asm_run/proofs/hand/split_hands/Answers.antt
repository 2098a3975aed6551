use Rattle.std.proofs.Common.{◌∙◌, All, ap, sym, subst, arith, rules}
use Rattle.std.proofs.lemmas.List.Elements.{All-push}
use Rattle.asm_run.specs.code.Hands.{IsNewHand}
use Rattle.asm_run.proofs.hand.split_hands.Goals as goal

pub loop-i-preserved : goal.loop-i-preserved
loop-i-preserved c =
    let l = c.loop-i in
    let old = c.split-own.ensures.old in
    let fresh = c.new.ensures.seat ∙ c.split-own.ensures.new in
    let parts = ap (λ s. s.parts) old in
    let is_new = IsNewHand c.args.signature.now c.args.striped.now.table in
    let new : is_new c.new.result = record { table = ap (λ s. s.table) fresh ∙ l.invariant.table; parts = ap (λ s. s.parts) fresh; log = ap (λ s. s.log) fresh; empty = c.new.ensures.own } in
    record {
      table = ap (λ s. s.table) old ∙ l.invariant.table;
      parts = omega (arith, parts, l.invariant.parts, c.loop-i-test.true);
      log = ap (λ s. s.log) old ∙ l.invariant.log;
      len = search rules;
      hands = subst (All is_new) (sym c.in_ok-push.ensures.items) (All-push is_new l.hands.items c.new.result l.invariant.hands new);
    }
