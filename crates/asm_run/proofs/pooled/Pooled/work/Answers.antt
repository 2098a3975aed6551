use Rattle.std.proofs.Common.{◌≡◌, ◌∙◌, ◌++◌, ℕ, List, [], ◌∷◌, ap, subst}
use Rattle.asm_eval.specs.declared.part.Part.TheVariants as part
use Rattle.asm_meaning.specs.Does.{Outcome}
use Rattle.asm_eval.specs.code.FormedOutcomes.{IsFormed}
use Rattle.asm_meaning.proofs.BesideLemmas.PartsBeside.{beside_laws}
use Rattle.asm_code.specs.code.RuleViews.{rule_of}
use Rattle.asm_eval.specs.code.OpenedPieces.{pieces_yield}
use Rattle.asm_eval.specs.code.Evaluation.{rule_at, evaluation_shape}
use Rattle.asm_eval.specs.declared.piece.Piece.{Piece}
use Rattle.asm_run.proofs.pooled.Pooled.work.Goals as goal

pub returns-in-Ok : goal.returns-in-Ok
returns-in-Ok g c =
    let a = c.args in
    let r = a.evaluation.now in
    let shape = evaluation_shape r in
    let R = rule_of a.rule.now in
    let at_path : c.new.result ≡ a.path.now = c.new.ensures ∙ c.in_ok-to_vec.ensures.items_if_clones_equal (λ x y h. h) in
    let root : Piece = record { rule = a.rule; frame = a.frame.now; path = c.new.result; part = part.Whole } in
    let list : c.as_slice.result.now ≡ root ∷ [] = c.as_slice.ensures.value ∙ c.in_ok-push.ensures.items ∙ ap (λ (ps : List Piece). ps ++ root ∷ []) c.in_ok-pieces.ensures.items in
    let formed = subst (λ (ps : List Piece). IsFormed shape (pieces_yield r ps) c.in-Ok.outcome) list c.in-Ok.ensures in
    subst (λ (p : List ℕ). IsFormed shape (rule_at r a.frame.now p R) c.in-Ok.outcome) at_path
    (subst (λ (o : Outcome). IsFormed shape o c.in-Ok.outcome) (beside_laws.last_unit (rule_at r a.frame.now c.new.result R)) formed)
