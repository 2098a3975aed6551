use Rattle.std.proofs.Common.{◌∙◌, ap, codes, sym}
use Rattle.clap.specs.Matches.{found_of}
use Rattle.clap.specs.Walk.{first_of}
use Rattle.asm_arguments.proofs.ReadNumbers.{first_of_rows, in_rows}
use Rattle.asm_tool.proofs.command_line.settings.Goals as goal

pub returns-clause-said : goal.returns-clause-said
returns-clause-said g c =
    let f = found_of c.in_ok-given.given in
    let p = c.in_ok-given.ensures.parsed in
    let one = in_rows f _ p.rows _ _ c.number_of.ensures.said in
    let two = in_rows f _ p.rows _ _ c.number_of-2.ensures.said in
    let three = in_rows f _ p.rows _ _ c.number_of-3.ensures.said in
    let four = in_rows f _ p.rows _ _ c.number_of-4.ensures.said in
    let five = in_rows f _ p.rows _ _ c.number_of-5.ensures.said in
    record {
      spec = c.get_str-spec.ensures ∙ (sym (first_of_rows f (codes "spec")) ∙ ap (first_of (codes "spec")) p.rows);
      script = c.get_str-script.ensures ∙ (sym (first_of_rows f (codes "script")) ∙ ap (first_of (codes "script")) p.rows);
      limits = (one, (two, (three, (four, (five, tt)))));
    }
