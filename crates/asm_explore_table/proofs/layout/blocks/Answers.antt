use Rattle.std.proofs.Common.{◌≡◌, ◌∙◌, ◌++◌, ◌∷◌, [], ap, get_or, inr, refl, subst, sym}
use Rattle.std.proofs.lemmas.List.Elements.{All-push}
use Rattle.asm_syntax.specs.code.Views.{spec_of}
use Rattle.asm_explore_table.specs.declared.block.Block.{Block}
use Rattle.asm_explore_table.specs.code.Layouts.{AreFilled, IsChosenStart, IsLaid, reached_first, up_to}
use Rattle.asm_explore_table.proofs.BlockLists.{marked_alike, numbered_more}
use Rattle.asm_explore_table.proofs.LaidBlocks.{added_column, added_laid, added_numbers, added_reached, all_filled, room_made}
use Rattle.asm_explore_table.proofs.layout.blocks.Goals as goal

pub loop-k-preserved : goal.loop-k-preserved
loop-k-preserved c =
    let s = spec_of c.args.checked.now.spec in
    let extent = c.args.extent.now in
    let most = c.args.width in
    let bs = c.make_room.new.blocks.items in
    let begun = c.make_room.new.begun in
    let b = begun.block in
    let d = c.add.new.self.block in
    let column = c.in_ok-column.column in
    let l = c.loop-k in
    let n = get_or c.args.columns.now l.k 0 in
    let none = sym c.new.ensures.chosen in
    let start = subst (IsChosenStart extent) none tt in
    let begins = c.new.ensures.reached ∙ ap up_to c.in_ok-steps.ensures ∙ ap (reached_first extent) none in
    let room = room_made s extent most l.blocks.items bs l.begun begun c.new.result column l.invariant.laid l.invariant.reached l.invariant.filled c.new.ensures.empty start begins
    c.in_ok-is_full.is_full c.in_ok-is_full.ensures c.in_ok-make_room.ensures.kept c.in_ok-make_room.ensures.ended in
    let is = c.in_ok-column.ensures in
    let same = c.in_ok-add.ensures.chosen in
    let added = c.in_ok-add.ensures.added in
    let numbers = added_numbers s extent most b d begun.reached n column is same room.reached added in
    record {
      all = numbered_more bs b d n c.args.columns.now l.k c.loop-k-test.true numbers (c.in_ok-make_room.ensures.all ∙ l.invariant.all) 0 refl;
      chosen = marked_alike extent.chooses bs b d same (c.in_ok-make_room.ensures.chosen extent.chooses l.invariant.chosen);
      laid = All-push (IsLaid s extent most) bs d room.laid (added_laid s extent most b d begun.reached n column is same room.reached added room.last room.room);
      reached = c.in_ok-add.ensures.reached ∙ added_reached s extent most b d begun.reached n column is same room.reached added;
      filled = room.filled;
      begins = inr (added_column s extent most b d begun.reached n column is same room.reached added);
    }

pub returns-clause-filled : goal.returns-clause-filled
returns-clause-filled c =
    let l = c.loop-k in
    let all : c.push.new.self.items ≡ l.blocks.items ++ l.begun.block ∷ [] = c.in_ok-push.ensures.items ∙ ap (λ (b : Block). l.blocks.items ++ b ∷ []) c.into_block.ensures in
    subst AreFilled (sym all) (all_filled l.blocks.items l.begun.block l.invariant.filled l.invariant.begins)
