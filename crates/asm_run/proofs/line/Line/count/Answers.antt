use Rattle.std.proofs.Common.{rules, arith, ◌≤◌, length, decimal, drop, length-drop, length-append}
use Rattle.std.proofs.lemmas.Fmt.{length-decimal-le}
use Rattle.asm_run.proofs.line.Line.count.Goals as goal

pub write_digits-self-inside-requires : goal.write_digits-self-inside-requires
write_digits-self-inside-requires c =
    let short : length (decimal c.args.count) ≤ 20 = length-decimal-le 20 c.args.count (omega arith) (omega arith) (omega arith) in
    let left = length-drop c.self.inside.start c.self.inside.bytes in
    (search (rules, short, left), search rules)

pub returns-clause-room : goal.returns-clause-room
returns-clause-room c =
    let short : length (decimal c.args.count) ≤ 20 = length-decimal-le 20 c.args.count (omega arith) (omega arith) (omega arith) in
    rw c.write_digits-self-inside.ensures.written
    (rw (length-append (decimal c.args.count) (drop c.self.inside.start c.self.inside.bytes), c.self.view_is) (omega (arith, short)))
