use Rattle.std.proofs.Common.{◌≡◌, replicate, map, sym, ap, subst, ◌∙◌, false}
use Rattle.std.proofs.lemmas.Result.{IfOk-weaker}
use Rattle.std.proofs.lemmas.Simd.{splat_is_map}
use Rattle.asm_state.specs.Signature.{domain_in}
use Rattle.asm_state.specs.Tables.{argument_lists, is_in, table_value}
use Rattle.asm_state.specs.declared.function.Table.TheVariants.{Entries}
use Rattle.asm_state.specs.declared.value.Value.TheVariants.{Undef}
use Rattle.asm_state.proofs.LocationLemmas.LocationOrder.{domain_sound}
use Rattle.asm_state.proofs.TableValues.{none_yet, written, passed_over, all_done}
use Rattle.asm_state.proofs.layout.table_values.Goals as goal
use Rattle.asm_state.proofs.layout.table_values.Goals.{in-Some, in_default}

pub loop-i-init : goal.loop-i-init
loop-i-init c =
    c.in_ok-values-in-Entries.ensures.items_if_clones_equal (λ y h. h)
    ∙ ap (replicate c.args.lists) c.undef.ensures
    ∙ splat_is_map (argument_lists (domain_in c.args.universes.now c.args.domain.now)) c.args.lists Undef (sym c.requires.lists)
    ∙ none_yet (domain_in c.args.universes.now c.args.domain.now) c.as_slice-entries.result.now

pub loop-i-preserved : goal.loop-i-preserved
loop-i-preserved c = elim c.match-list_position.branch [
  | in-Some w ↦
      ap (λ v. v.items) w.values-is
      ∙ written (domain_in c.args.universes.now c.args.domain.now) c.as_slice-entries.result.now c.loop-i.i w.in-Some.k c.index-entries-entries.result c.loop-i.values.items
      (domain_sound c.args.universes.now c.requires.sound c.args.domain.now) c.loop-i-test.true c.index-entries-entries.is c.loop-i.invariant
      w.in-Some.ensures.some.0 (w.in-Some.ensures.some.1 ∙ c.as_slice.ensures)
  | in_default w ↦
      ap (λ v. v.items) w.values-is
      ∙ passed_over (domain_in c.args.universes.now c.args.domain.now) c.as_slice-entries.result.now c.loop-i.i c.index-entries-entries.result c.loop-i.values.items
      c.loop-i-test.true c.index-entries-entries.is c.loop-i.invariant
      (subst (λ vs. is_in (domain_in c.args.universes.now c.args.domain.now) vs ≡ false) c.as_slice.ensures w.in_default.ensures.none)
]

pub returns-in-Same : goal.returns-in-Same
returns-in-Same c =
    IfOk-weaker c.vec.result _ _
    (λ v e. e (λ y h. h) ∙ splat_is_map (argument_lists (domain_in c.args.universes.now c.args.domain.now)) c.args.lists c.in-Same.value (sym c.requires.lists)
    ∙ ap (λ table. map (table_value table) (argument_lists (domain_in c.args.universes.now c.args.domain.now))) (sym c.in-Same.is))
    c.vec.ensures.items_if_clones_equal

pub returns-after-loop-i : goal.returns-after-loop-i
returns-after-loop-i c =
    c.loop-i.invariant
    ∙ all_done (domain_in c.args.universes.now c.args.domain.now) c.as_slice-entries.result.now c.loop-i.i c.loop-i-test.false
    ∙ ap (λ table. map (table_value table) (argument_lists (domain_in c.args.universes.now c.args.domain.now))) (ap Entries c.as_slice-entries.ensures ∙ sym c.in-Entries.is)
