use Rattle.std.proofs.Common.{◌≡◌, ◌/◌, arith, sym, ap, ◌∙◌, subst}
use Rattle.std.proofs.lemmas.Result.{IfOk-weaker}
use Rattle.std.specs.Mem.Slots.{slots_items}
use Rattle.asm_striped.specs.code.Board.{AreBounds, HasWords}
use Rattle.asm_striped.proofs.ClosedTables.{tells}
use Rattle.asm_striped.proofs.striped.Striped.close.Goals as goal

pub summary_of-summary-requires-clause-bounds : goal.summary_of-summary-requires-clause-bounds
summary_of-summary-requires-clause-bounds c =
    let told = tells c.self.inside.table.shared.key c.args.self _ _ _ _ _ _ _ c.seat.view_is c.self.view_is c.requires.parts c.seat.invariant.1 c.close_with-closed.ensures.values.2 in
    let same = ap (λ x. x.count) c.self.view_is in
    let words = c.word_count-count.ensures ∙ c.self.invariant.0 in
    let count : c.word_count-count.result / 2 ≡ c.args.self.count = omega arith in
    subst (λ n. AreBounds n (slots_items c.close_with-closed.result.words)) (sym count) told.bounds

pub returns-clause-summary : goal.returns-clause-summary
returns-clause-summary c =
    let told = tells c.self.inside.table.shared.key c.args.self _ _ _ _ _ _ _ c.seat.view_is c.self.view_is c.requires.parts c.seat.invariant.1 c.close_with-closed.ensures.values.2 in
    let same = ap (λ x. x.count) c.self.view_is in
    let words = c.word_count-count.ensures ∙ c.self.invariant.0 in
    let count : c.word_count-count.result / 2 ≡ c.args.self.count = omega arith in
    IfOk-weaker c.summary_of-summary.result _ _ (λ s has. told.summary s (subst (λ n. HasWords n (slots_items c.close_with-closed.result.words) s) count has)) c.summary_of-summary.ensures.words

pub returns-clause-count : goal.returns-clause-count
returns-clause-count c =
    let same = ap (λ x. x.count) c.self.view_is in
    let words = c.word_count-count.ensures ∙ c.self.invariant.0 in
    let count : c.word_count-count.result / 2 ≡ c.args.self.count = omega arith in
    IfOk-weaker c.summary_of-summary.result _ _ (λ s has. has.size ∙ count) c.summary_of-summary.ensures.words

pub returns-clause-lows : goal.returns-clause-lows
returns-clause-lows c = (tells c.self.inside.table.shared.key c.args.self _ _ _ _ _ _ _ c.seat.view_is c.self.view_is c.requires.parts c.seat.invariant.1 c.close_with-closed.ensures.values.2).lows

pub returns-clause-highs : goal.returns-clause-highs
returns-clause-highs c = (tells c.self.inside.table.shared.key c.args.self _ _ _ _ _ _ _ c.seat.view_is c.self.view_is c.requires.parts c.seat.invariant.1 c.close_with-closed.ensures.values.2).highs
