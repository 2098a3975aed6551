use Rattle.std.proofs.Common.{◌∙◌, ◌<◌, ◌++◌, ◌∷◌, [], ℕ, Bool, ap, cond, false, subst, sym}
use Rattle.std.specs.Prelude.{All, filter, slice_index_or}
use Rattle.std.specs.List.{range_with_len}
use Rattle.asm_state.specs.Signature.{Shape, count_of}
use Rattle.asm_syntax.specs.code.Views.{spec_of}
use Rattle.asm_check.specs.Shapes.{shape_of}
use Rattle.asm_explore_table.specs.Tables.{numbered}
use Rattle.asm_explore_table.specs.code.StepsMade.{column_by, names_said}
use Rattle.asm_explore_table.proofs.ChangeLists.{all_if, filter_more}
use Rattle.asm_explore_table.proofs.columns.columns.Goals as goal

pub loop-n-preserved : goal.loop-n-preserved
loop-n-preserved c =
    let s = spec_of c.args.checked.now.spec in
    let n = c.loop-n.n in
    let is = c.in_ok-is_column.is_column in
    let p : ℕ → Bool = λ m. column_by s (names_said c.args.names.now) (slice_index_or c.args.extent.now.changed.items m false) (numbered s m) in
    let low : n < count_of (shape_of s) = subst (λ (sh : Shape). n < count_of sh) c.signature.ensures (subst (λ m. n < m) c.count-n-end.ensures.count c.loop-n-test.true) in
    record {
      are = c.in_ok-push_if.ensures ∙ ap (λ xs. xs ++ cond is (n ∷ []) []) c.loop-n.invariant.are
          ∙ ap (λ b. filter p (range_with_len 0 n) ++ cond b (n ∷ []) []) c.in_ok-is_column.ensures ∙ sym (filter_more p n);
      within = subst (λ xs. All (λ m. m < count_of (shape_of s)) xs) (sym c.in_ok-push_if.ensures) (all_if (λ m. m < count_of (shape_of s)) c.loop-n.columns.items n is c.loop-n.invariant.within low);
    }
