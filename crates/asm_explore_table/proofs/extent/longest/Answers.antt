use Rattle.std.proofs.Common.{◌≤◌, Global, ℕ, List, Vec, arith, length, le_trans, subst, take, take_all}
use Rattle.std.specs.Prelude.{All}
use Rattle.std.proofs.lemmas.List.Elements.{All-map, All-more, All-weaker}
use Rattle.asm_explore_table.proofs.extent.longest.Goals as goal

pub loop-k-preserved : goal.loop-k-preserved
loop-k-preserved c =
    let now = c.max-longest.result in
    let line = c.index-lines-k.result in
    let wider : c.loop-k.longest ≤ now = omega (arith, c.max-longest.ensures) in
    let long : length line.items ≤ now = omega (arith, c.max-longest.ensures, c.len.ensures) in
    record {
      most = le_trans c.loop-k.invariant.most wider;
      lines = All-more (λ (l : Vec ℕ Global). length l.items ≤ now) c.args.lines.now c.loop-k.k line c.loop-k-test.true
          (All-weaker (λ (l : Vec ℕ Global). length l.items ≤ c.loop-k.longest) (λ l. length l.items ≤ now) (λ l fits. le_trans fits wider) (take c.loop-k.k c.args.lines.now) c.loop-k.invariant.lines)
          (subst (λ (l : Vec ℕ Global). length l.items ≤ now) c.index-lines-k.is long);
    }

pub returns-clause-lines : goal.returns-clause-lines
returns-clause-lines c =
    let fits : Vec ℕ Global → Type 0 = λ l. length l.items ≤ c.loop-k.longest in
    All-map (λ (t : List ℕ). length t ≤ c.loop-k.longest) (λ (l : Vec ℕ Global). l.items) c.args.lines.now
    (subst (λ (ls : List (Vec ℕ Global)). All fits ls) (take_all c.loop-k.k c.args.lines.now c.loop-k-test.false) c.loop-k.invariant.lines)
