use Rattle.std.proofs.Common.{◌≡◌, ◌<◌, ◌++◌, ◌∷◌, [], ℕ, List, Bool, false, length, sym, subst, ◌∙◌, arith, rules}
use Rattle.std.specs.Prelude.{Contains}
use Rattle.std.specs.Global.{Vec}
use Rattle.std.proofs.lemmas.List.{nil_from_length, length-map, get_or_read}
use Rattle.std.proofs.lemmas.List.Elements.{Contains-push}
use Rattle.asm_check.specs.code.cycles.Graph.{step_lists}
use Rattle.asm_check.specs.code.cycles.MarkedNodes.{HasMarked}
use Rattle.asm_check.proofs.CycleLemmas.MarkedNodes.{IsReachedFrom, waiting_within, follow, all_followed}
use Rattle.asm_check.proofs.CycleLemmas.CycleSearchSteps.{next_is, items_within}
use Rattle.asm_check.proofs.cycles.step_graph.leads_back.Goals as goal

module _ (vs : List (Vec ℕ)) where
  count : length (step_lists vs) ≡ length vs
  count = length-map vs (λ (v : Vec ℕ). v.items)

  -- the node that was taken from those that wait
  taken : (node : ℕ) (marks : List Bool) (waiting rest : List ℕ) (from : ℕ) → node < length vs → IsReachedFrom (step_lists vs) node marks waiting → waiting ≡ rest ++ from ∷ [] → from < length vs
  taken node marks waiting rest from within is items =
      let below : from < length (step_lists vs) = waiting_within (step_lists vs) node marks waiting from (omega (arith, count)) is (subst (λ w. Contains w from) (sym items) (Contains-push rest from)) in
      omega (arith, count)

pub offset_bounds-steps-from : goal.offset_bounds-steps-from
offset_bounds-steps-from c =
    let within : c.in-Some.from < length c.args.steps.now = taken _ _ _ _ _ _ c.requires.node c.loop-from.invariant c.in-Some.ensures.items in
    search rules

pub bounds-steps-from : goal.bounds-steps-from
bounds-steps-from c = taken _ _ _ _ _ _ c.requires.node c.loop-from.invariant c.in-Some.ensures.items

pub mark_all-requires : goal.mark_all-requires
mark_all-requires c =
    items_within _ _ _ _ _ c.requires.graph (taken _ _ _ _ _ _ c.requires.node c.loop-from.invariant c.in-Some.ensures.items) c.index-steps-from.is c.deref.ensures.value
    (c.loop-from.invariant.len ∙ count c.args.steps.now)

pub loop-from-preserved : goal.loop-from-preserved
loop-from-preserved c =
    let within = taken _ _ _ _ _ _ c.requires.node c.loop-from.invariant c.in-Some.ensures.items in
    let same = next_is _ _ _ within c.index-steps-from.is in
    follow _ _ _ _ _ (subst (IsReachedFrom (step_lists c.args.steps.now) c.args.node c.loop-from.marks.items) c.in-Some.ensures.items c.loop-from.invariant) _ _
    (subst (λ ns. HasMarked ns c.loop-from.marks.items c.pop.new.self.items c.mark_all.new.marks.items c.mark_all.new.waiting.items) (c.deref.ensures.value ∙ sym same) c.in_ok-mark_all.ensures)

pub returns : goal.returns
returns c =
    let none = nil_from_length c.loop-from.waiting.items (omega (arith, c.in_default.ensures.cases)) in
    let is = subst (IsReachedFrom (step_lists c.args.steps.now) c.args.node c.loop-from.marks.items) none c.loop-from.invariant in
    let within : c.args.node < length c.loop-from.marks.items = let same = count c.args.steps.now in omega (arith, c.loop-from.invariant.len, c.requires.node) in
    let read = get_or_read c.loop-from.marks.items c.args.node c.index.result.now within c.index.ensures false in
    (λ h. is.sound c.args.node (sym read ∙ h), λ way. read ∙ all_followed (step_lists c.args.steps.now) c.args.node c.loop-from.marks.items is c.args.node way)
