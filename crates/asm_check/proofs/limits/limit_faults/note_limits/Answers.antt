use Rattle.std.proofs.Common.{◌≡◌, ◌∷◌, [], ◌≤◌, length, map, take, refl, sym, ap, subst, ◌∙◌, arith, cond}
use Rattle.std.proofs.lemmas.List.{length-map}
use Rattle.asm_state.specs.declared.signature_limits.TheConstants.{MAX_UNIVERSES}
use Rattle.asm_syntax.specs.SourceTree.{Spec}
use Rattle.asm_syntax.specs.code.Views.{spec_of}
use Rattle.asm_check.specs.code.limits.CountedSizes.{AreCountedSizes, AreElementCounts, AreTotals, counted_from, size_with}
use Rattle.asm_check.specs.Errors.{found_of}
use Rattle.asm_check.specs.Limits.{domain_of, lists_of, size_of}
use Rattle.asm_check.specs.code.LeastFaults.{least_after}
use Rattle.asm_check.specs.code.names.Tables.{declaration_of, declared_as_view}
use Rattle.asm_check.proofs.LimitLemmas.CountedSizes.{counted_by_position}
use Rattle.asm_check.proofs.LimitLemmas.ElementCounts.{size_with_is}
use Rattle.asm_check.proofs.LimitLemmas.LimitSteps.{one_limit, all_limits}
use Rattle.asm_check.proofs.NameLemmas.TableSteps.{stands}
use Rattle.asm_check.proofs.limits.limit_faults.note_limits.Goals as goal
use Rattle.asm_check.proofs.limits.limit_faults.note_limits.Goals.{then-add, else-add}

pub loop-i-init : goal.loop-i-init
loop-i-init c = record { totals = c.new-totals.ensures (spec_of c.args.spec.now); found = refl }

pub loop-i-preserved : goal.loop-i-preserved
loop-i-preserved c =
    let spec : Spec = spec_of c.args.spec.now in
    let entries = c.args.names.now in
    let ds = map declaration_of entries in
    let r = c.declared_at-declared.result in
    let s = stands entries c.loop-i.i r c.declared_at-declared.ensures in
    let counts : AreElementCounts spec c.in_ok-elements.elements.items = c.in_ok-elements.ensures in
    let size : c.size-size.result ≡ size_of spec (declared_as_view r.meaning) =
    c.size-size.ensures ∙ (ap (λ xs. size_with xs (declared_as_view r.meaning)) c.as_slice-in-loop-i.ensures.value ∙ size_with_is spec c.in_ok-elements.elements.items counts (declared_as_view r.meaning)) in
    let same : c.in_ok-counted.counted.items ≡ counted_from (size_with c.in_ok-elements.elements.items) MAX_UNIVERSES ds =
    c.in_ok-counted.ensures.sizes ∙ ap (λ xs. counted_from (size_with xs) MAX_UNIVERSES ds) c.as_slice.ensures.value in
    let sizes : AreCountedSizes spec entries c.as_slice-in-loop-i-2.result.now =
    subst (AreCountedSizes spec entries) (sym c.as_slice-in-loop-i-2.ensures.value)
    (counted_by_position spec entries c.requires c.in_ok-elements.elements.items c.in_ok-counted.counted.items counts same) in
    let lists : c.lists-lists.result ≡ lists_of spec (domain_of (declared_as_view r.meaning)) =
    c.lists-lists.ensures spec c.requires sizes ∙ ap (lists_of spec) c.domain.ensures in
    let added = c.add.ensures spec (take c.loop-i.i ds) s.name c.loop-i.invariant.totals size lists in
    let met : found_of c.if-add.least.found ≡ least_after (found_of c.loop-i.least.found) (cond c.add.result ((r.at, 15) ∷ []) []) =
    elim c.if-add.branch [
      | then-add w ↦ ap (λ l. found_of l.found) w.least-is ∙ (w.note.ensures ∙ ap (λ b. least_after (found_of c.loop-i.least.found) (cond b ((r.at, 15) ∷ []) [])) (sym w.if-add.true))
      | else-add w ↦ ap (λ l. found_of l.found) w.least-is ∙ ap (λ b. least_after (found_of c.loop-i.least.found) (cond b ((r.at, 15) ∷ []) [])) (sym w.if-add.false)
    ] in
    record {
      totals = subst (λ before. AreTotals spec before c.add.new.self) (sym s.front) added.0;
      found = one_limit spec ds c.loop-i.i r s c.add.result (found_of c.loop-i.least.found) (found_of c.if-add.least.found) added.1 met ∙ c.loop-i.invariant.found;
    }

pub returns : goal.returns
returns c =
    let ds = map declaration_of c.args.names.now in
    let whole : length ds ≤ c.loop-i.i = omega (arith, length-map c.args.names.now declaration_of) in
    all_limits (spec_of c.args.spec.now) ds c.loop-i.i (found_of c.args.least.now.found) (found_of c.loop-i.least.found) c.requires whole c.loop-i.invariant.found
