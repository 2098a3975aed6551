use Rattle.std.proofs.Common.{◌≡◌, ◌+◌, ◌++◌, ◌∷◌, [], ◌≤◌, length, map, sym, ap, subst, ◌∙◌, arith, true, cond, ℕ, List}
use Rattle.std.specs.Prelude.{All}
use Rattle.std.proofs.lemmas.Bool.{le-leb, lt-leb}
use Rattle.std.proofs.lemmas.List.{length-map}
use Rattle.asm_state.specs.declared.signature_limits.TheConstants.{MAX_UNIVERSES, MAX_VALUES}
use Rattle.asm_check.specs.Limits.{is_universe}
use Rattle.asm_check.specs.code.limits.CountedSizes.{size_with, allowed_size}
use Rattle.asm_check.specs.code.names.Tables.{declaration_of, declared_as_view}
use Rattle.asm_check.proofs.LimitLemmas.CountedSizes.{AreSizesSoFar, counted_small, size_of_universe, size_of_other, size_past, sizes_whole}
use Rattle.asm_check.proofs.NameLemmas.TableSteps.{stands}
use Rattle.asm_check.proofs.limits.limit_faults.counted_sizes.Goals as goal
use Rattle.asm_check.proofs.limits.limit_faults.counted_sizes.Goals.{then-left-gt0+then-is_universe+then-size-le-MAX_VALUES, then-left-gt0+then-is_universe+else-size-le-MAX_VALUES, else-left-gt0, else-left-gt0-via-then-left-gt0+else-is_universe, else-left-gt0-via-else-left-gt0}

pub loop-i-preserved : goal.loop-i-preserved
loop-i-preserved c =
    let size = size_with c.args.elements.now in
    let ds = map declaration_of c.args.names.now in
    let r = c.declared_at.result in
    let s = stands c.args.names.now c.loop-i.i r c.declared_at.ensures in
    let So_far = λ (left : ℕ) (ns : List ℕ). AreSizesSoFar size ds (c.loop-i.i + 1) left ns in
    let it : So_far c.if-left-gt0.left (c.loop-i.sizes.items ++ c.if-left-gt0.counted ∷ []) =
    elim c.if-left-gt0.branch [
      | then-left-gt0+then-is_universe+then-size-le-MAX_VALUES w ↦
          let is : is_universe (declared_as_view r.meaning) ≡ true = sym w.is_universe.ensures ∙ w.if-is_universe.true in
          let same : c.if-left-gt0.counted ≡ allowed_size (size (declared_as_view r.meaning)) =
          w.counted-is ∙ (sym (ap (λ b. cond b w.size-size.result 0) (le-leb w.size-size.result MAX_VALUES w.if-size-le-MAX_VALUES.true)) ∙ ap allowed_size w.size-size.ensures) in
          rw (w.left-is, same) (size_of_universe size ds c.loop-i.i c.loop-i.left c.loop-i.sizes.items r s w.if-left-gt0.true is c.loop-i.invariant)
      | then-left-gt0+then-is_universe+else-size-le-MAX_VALUES w ↦
          let is : is_universe (declared_as_view r.meaning) ≡ true = sym w.is_universe.ensures ∙ w.if-is_universe.true in
          let same : c.if-left-gt0.counted ≡ allowed_size (size (declared_as_view r.meaning)) =
          w.counted-is ∙ (sym (ap (λ b. cond b w.size-size.result 0) (lt-leb w.size-size.result MAX_VALUES w.if-size-le-MAX_VALUES.false)) ∙ ap allowed_size w.size-size.ensures) in
          rw (w.left-is, same) (size_of_universe size ds c.loop-i.i c.loop-i.left c.loop-i.sizes.items r s w.if-left-gt0.true is c.loop-i.invariant)
      | else-left-gt0 w ↦ rw (w.left-is, w.counted-is) (elim w.else-left-gt0.branch [
        | else-left-gt0-via-then-left-gt0+else-is_universe w' ↦
            size_of_other size ds c.loop-i.i c.loop-i.left c.loop-i.sizes.items r s (sym w'.is_universe.ensures ∙ w'.if-is_universe.false) c.loop-i.invariant
        | else-left-gt0-via-else-left-gt0 w' ↦ size_past size ds c.loop-i.i c.loop-i.left c.loop-i.sizes.items r s w'.if-left-gt0.false c.loop-i.invariant
      ])
    ] in
    subst (So_far c.if-left-gt0.left) (sym c.in_ok-push.ensures.items) it

pub returns-clause-small : goal.returns-clause-small
returns-clause-small c =
    let size = size_with c.args.elements.now in
    let ds = map declaration_of c.args.names.now in
    let whole : length ds ≤ c.loop-i.i = omega (arith, length-map c.args.names.now declaration_of) in
    subst (All (λ n. n ≤ MAX_VALUES)) (sym (sizes_whole size ds c.loop-i.i c.loop-i.left c.loop-i.sizes.items whole c.loop-i.invariant)) (counted_small size MAX_UNIVERSES ds)
