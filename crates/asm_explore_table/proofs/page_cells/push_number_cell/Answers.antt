use Rattle.asm_explore_table.proofs.PageTexts.{at_end, three_parts}
use Rattle.asm_explore_table.proofs.page_cells.push_number_cell.Goals as goal

pub returns : goal.returns
returns c =
    at_end c.extend_from_slice-2.result _ c.push_decimal.new.out.items _ _ c.extend_from_slice-2.ensures.items
    (three_parts c.args.out.now.items c.extend_from_slice.new.self.items c.push_decimal.new.out.items _ _ _ c.in_ok-extend_from_slice.ensures.items c.in_ok-push_decimal.ensures)
