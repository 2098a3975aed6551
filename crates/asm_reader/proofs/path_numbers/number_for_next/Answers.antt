use Rattle.std.proofs.Common.{◌≡◌, ◌+◌, arith, ap, sym, cond, ◌∙◌, inr, is_some, length, None}
use Rattle.asm_reader.specs.code.PathNumbers.{IsAdded, entry_at}
use Rattle.asm_reader.proofs.path_numbers.number_for_next.Goals as goal

pub returns : goal.returns
returns c =
    let old = c.args.ways.now.entries in
    let new = c.insert.new.self.entries in
    let none : entry_at old c.args.path_number c.args.number ≡ None = sym c.in_default.ensures.value in
    let more : length new ≡ length old + 1 = c.in_ok-insert.ensures.len ∙ ap (λ o. length old + cond (is_some o) 0 1) (c.in_ok-insert.ensures.old ∙ none) in
    let len = c.len.ensures.len in
    let added : IsAdded old c.args.path_number c.args.number (c.len.result + 1) new = record {
      number = omega (arith, len);
      count = omega (arith, more);
      short = omega (arith, c.ranges.number.fits);
      absent = none;
      put = λ i j. c.in_ok-insert.ensures.updates.0 (i, j);
    } in
    inr added
