use Rattle.std.proofs.Common.{◌≡◌, ◌∙◌, [], ◌++◌, All, IsSome, Some, map, ap, subst, sym}
use Rattle.std.specs.Vec.Iter.{into_iter_items}
use Rattle.std.proofs.lemmas.List.{append-nil, nil_from_length}
use Rattle.std.proofs.lemmas.List.Elements.{All-rest}
use Rattle.asm_pool.proofs.Slots.{taken-rest}
use Rattle.asm_pool.proofs.gather.Slots.into_outs.Goals as goal

pub loop-slot-preserved : goal.loop-slot-preserved
loop-slot-preserved g c = let next = c.in-Some.ensures.steps.0 in record {
  can = tt;
  ends = tt;
  some = All-rest IsSome _ _ _ next c.loop-slot.invariant.some;
  taken = taken-rest _ _ _ _ _ _ next c.unwrap.ensures c.in_ok-push.ensures.items ∙ c.loop-slot.invariant.taken;
}

pub loop-slot-init : goal.loop-slot-init
loop-slot-init g c =
    let all : into_iter_items c.into_iter-slot-iterator.result ≡ c.args.self.outs.items = c.into_iter-slot-iterator.ensures.into_iter_gives.0 in
    record {
      can = tt;
      ends = tt;
      some = subst (All IsSome) (sym all) c.requires;
      taken = ap (λ outs. map Some outs ++ into_iter_items c.into_iter-slot-iterator.result) c.in_ok-outs.ensures.items ∙ all;
    }

pub returns : goal.returns
returns g c =
    let none : into_iter_items c.loop-slot.slot-iterator ≡ [] = nil_from_length _ (sym c.loop-slot.slot-iterator.rest.ok.0 ∙ c.in-None.ensures.steps.0) in
    sym (ap (λ ps. map Some c.loop-slot.outs.items ++ ps) none ∙ append-nil (map Some c.loop-slot.outs.items)) ∙ c.loop-slot.invariant.taken
