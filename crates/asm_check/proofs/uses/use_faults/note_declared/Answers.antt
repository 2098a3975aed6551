use Rattle.std.proofs.Common.{◌≡◌, Bool, true, false, ap, sym, ◌∙◌}
use Rattle.std.specs.Prelude.{not, ◌&&◌}
use Rattle.asm_check.specs.Errors.{found_of}
use Rattle.asm_check.specs.code.FaultLists.{miscounts}
use Rattle.asm_check.specs.code.LeastFaults.{least_after}
use Rattle.asm_check.specs.code.uses.UseViews.{use_of}
use Rattle.asm_check.proofs.UseLemmas.UseFaults.{faults_unknown, faults_miscounted, faults_last}
use Rattle.asm_check.proofs.uses.use_faults.note_declared.Goals as goal
use Rattle.asm_check.proofs.uses.use_faults.note_declared.Goals.{else-is_target-via-then-is_target+else-not-is_assignable, else-is_target-via-else-is_target}

pub returns-then-not-is_known : goal.returns-then-not-is_known
returns-then-not-is_known c = λ spec table.
    c.note.ensures
    ∙ ap (least_after (found_of c.args.least.now.found)) (sym (faults_unknown spec (use_of c.args.used) _ (c.meaning-meaning.ensures spec table) (sym c.if-not-is_known.ensures)))

pub returns-then-is_miscounted : goal.returns-then-is_miscounted
returns-then-is_miscounted c = λ spec table.
    let count = ap (λ o. miscounts o c.args.used.count) c.arguments_of.ensures in
    c.note-then-is_miscounted.ensures
    ∙ ap (least_after (found_of c.args.least.now.found))
    (sym (faults_miscounted spec (use_of c.args.used) _ (c.meaning-meaning.ensures spec table) (sym c.if-not-is_known.ensures) (sym count ∙ sym c.if-is_miscounted.ensures)))

target : (a b : Bool) → true ≡ a → false ≡ b → (a && not b) ≡ true
target a b e f = ap (λ a. a && not b) (sym e) ∙ ap not (sym f)

assignable : (a b : Bool) → true ≡ a → true ≡ b → (a && not b) ≡ false
assignable a b e f = ap (λ a. a && not b) (sym e) ∙ ap not (sym f)

no_target : (a b : Bool) → false ≡ a → (a && not b) ≡ false
no_target a b e = ap (λ a. a && not b) (sym e)

pub returns-then-not-is_assignable : goal.returns-then-not-is_assignable
returns-then-not-is_assignable c = λ spec table.
    let count = ap (λ o. miscounts o c.args.used.count) c.arguments_of.ensures in
    c.note-then-not-is_assignable.ensures
    ∙ ap (least_after (found_of c.args.least.now.found))
    (sym (faults_last spec (use_of c.args.used) _ (c.meaning-meaning.ensures spec table) true (sym c.if-not-is_known.ensures) (sym count ∙ sym c.if-is_miscounted.ensures)
    (target _ _ c.if-is_target.ensures c.if-not-is_assignable.ensures)))

pub returns-else-is_target : goal.returns-else-is_target
returns-else-is_target c = λ spec table.
    let count = ap (λ o. miscounts o c.args.used.count) c.arguments_of.ensures in
    ap (least_after (found_of c.args.least.now.found))
    (sym (faults_last spec (use_of c.args.used) _ (c.meaning-meaning.ensures spec table) false (sym c.if-not-is_known.ensures) (sym count ∙ sym c.if-is_miscounted.ensures)
    (elim c.else-is_target.branch [
      | else-is_target-via-then-is_target+else-not-is_assignable w ↦ assignable _ _ w.if-is_target.ensures w.if-not-is_assignable.ensures
      | else-is_target-via-else-is_target w ↦ no_target _ _ w.if-is_target.ensures
    ])))
