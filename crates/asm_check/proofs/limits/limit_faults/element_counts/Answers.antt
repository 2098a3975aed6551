use Rattle.std.proofs.Common.{◌≡◌, ◌<◌, ◌≤◌, ◌+◌, ℕ, List, length, map, take, get_or, set, sym, ap, subst, ◌∙◌, arith}
use Rattle.std.proofs.lemmas.Bool.{ne_eqb}
use Rattle.std.proofs.lemmas.List.{length-map, length-set, get_or_read}
use Rattle.asm_syntax.specs.code.Views.{item_of, spec_of}
use Rattle.asm_check.specs.Limits.{is_element_of}
use Rattle.asm_check.specs.code.names.Tables.{declaration_of, declared_as_view}
use Rattle.asm_check.proofs.LimitLemmas.ElementCounts.{AreCountsOf, counts_more, counts_same, count_small, counts_whole, other_than_element}
use Rattle.asm_check.proofs.NameLemmas.TableSteps.{stands}
use Rattle.asm_check.proofs.limits.limit_faults.element_counts.Goals as goal
use Rattle.asm_check.proofs.limits.limit_faults.element_counts.Goals.{in-Element+then-item-len, in-Element+else-item-len, in_default}

pub overflow_add-index_mut : goal.overflow_add-index_mut
overflow_add-index_mut c =
    let ds = map declaration_of c.args.names.now in
    let s = stands c.args.names.now c.loop-i.i c.declared_at.result c.declared_at.ensures in
    let inside : c.in-Element.item < length c.loop-i.counts.items = omega arith in
    let now : c.index_mut.result.now ≡ get_or c.loop-i.counts.items c.in-Element.item 0 = get_or_read c.loop-i.counts.items c.in-Element.item c.index_mut.result.now inside c.index_mut.ensures.value 0 in
    let small = count_small ds c.loop-i.i c.loop-i.counts.items c.in-Element.item s.inside inside c.loop-i.invariant.counts in
    omega (arith, now, small, length-map c.args.names.now declaration_of)

pub loop-i-preserved : goal.loop-i-preserved
loop-i-preserved c =
    let ds = map declaration_of c.args.names.now in
    let s = stands c.args.names.now c.loop-i.i c.declared_at.result c.declared_at.ensures in
    let So_far = λ (counts : List ℕ). AreCountsOf (take (c.loop-i.i + 1) ds) counts in
    elim c.match-declared_at.branch [
      | in-Element+then-item-len w ↦
          let inside : w.in-Element.item < length c.loop-i.counts.items = omega arith in
          let now : w.index_mut.result.now ≡ get_or c.loop-i.counts.items w.in-Element.item 0 = get_or_read c.loop-i.counts.items w.in-Element.item w.index_mut.result.now inside w.index_mut.ensures.value 0 in
          let same : c.match-declared_at.counts.items ≡ set c.loop-i.counts.items w.in-Element.item (get_or c.loop-i.counts.items w.in-Element.item 0 + 1) =
          ap (λ v. v.items) w.counts-is ∙ ap (λ n. set c.loop-i.counts.items w.in-Element.item (n + 1)) now in
          record {
            length = ap length same ∙ length-set c.loop-i.counts.items w.in-Element.item (get_or c.loop-i.counts.items w.in-Element.item 0 + 1) ∙ c.loop-i.invariant.length;
            counts = subst So_far (sym same) (counts_more ds c.loop-i.i c.declared_at.result c.loop-i.counts.items w.in-Element.item s (ap declared_as_view w.in-Element.is) inside c.loop-i.invariant.counts);
          }
      | in-Element+else-item-len w ↦
          let same : c.match-declared_at.counts.items ≡ c.loop-i.counts.items = ap (λ v. v.items) w.counts-is in
          record {
            length = ap length same ∙ c.loop-i.invariant.length;
            counts = subst So_far (sym same) (counts_same ds c.loop-i.i c.declared_at.result c.loop-i.counts.items s
                (λ k low. let above : length c.loop-i.counts.items ≤ w.in-Element.item = omega arith in
                ap (λ m. is_element_of k (declared_as_view m)) w.in-Element.is ∙ ne_eqb k w.in-Element.item (λ e. omega (arith, e, low, above)))
                c.loop-i.invariant.counts);
          }
      | in_default w ↦
          let same : c.match-declared_at.counts.items ≡ c.loop-i.counts.items = ap (λ v. v.items) w.counts-is in
          record {
            length = ap length same ∙ c.loop-i.invariant.length;
            counts = subst So_far (sym same) (counts_same ds c.loop-i.i c.declared_at.result c.loop-i.counts.items s
                (λ k low. other_than_element c.declared_at.result.meaning k w.in_default.not-Element)
                c.loop-i.invariant.counts);
          }
    ]

pub returns : goal.returns
returns c =
    let ds = map declaration_of c.args.names.now in
    counts_whole (spec_of c.args.spec.now) ds c.loop-i.i c.loop-i.counts.items c.requires
    (omega (arith, c.loop-i.invariant.length, length-map c.args.spec.now.items.items item_of))
    (omega (arith, length-map c.args.names.now declaration_of))
    c.loop-i.invariant.counts
