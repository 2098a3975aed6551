use Rattle.std.proofs.Common.{◌≡◌, sym, ap, ◌∙◌, true, false, List}
use Rattle.std.proofs.lemmas.Result.{err_from_is_err_and}
use Rattle.asm_syntax.specs.declared.token.Kind.{Kind}
use Rattle.asm_syntax.specs.code.Views.{item_of}
use Rattle.asm_reader.specs.Kinds.{begins}
use Rattle.asm_reader.specs.code.Steps.{each_of, repeated_of}
use Rattle.asm_reader.specs.code.Reading.{item_starts, item_at}
use Rattle.asm_reader.proofs.Loops.{with_front, turn_seen, nothing_before, no_turn, bad_turn}
use Rattle.asm_reader.proofs.LoopsConsume.{item_consumes}
use Rattle.asm_reader.proofs.parser.Parser.items.Goals as goal

pub loop-self-smaller : goal.loop-self-smaller
loop-self-smaller c =
    let old = c.args.self.now in
    let l = c.loop-self in
    let next = rw l.invariant.text at c.in_ok-next.ensures.read in
    item_consumes old.text.now c.args.levels l.self.tokens.rest.now c.item.new.self.tokens.rest.now (item_of c.in_ok-next.next) next

pub loop-self-preserved : goal.loop-self-preserved
loop-self-preserved c =
    let old = c.args.self.now in
    let l = c.loop-self in
    let test : true ≡ begins c.item_starts.result.now l.self.tokens.rest.now = c.loop-self-test.ensures in
    let next = rw l.invariant.text at c.in_ok-next.ensures.read in record {
      read = turn_seen item_of item_starts (item_at old.text.now c.args.levels) (item_consumes old.text.now c.args.levels) l.all.items c.push.new.self.items l.self.tokens.rest.now c.in_ok-next.next c.item.new.self.tokens.rest.now
          (with_front (each_of item_of c.new-all.result) (repeated_of item_starts (item_at old.text.now c.args.levels) old.tokens.rest.now))
          c.in_ok-push.ensures.items (test ∙ ap (λ (w : List Kind). begins w l.self.tokens.rest.now) c.item_starts.ensures) next l.invariant.read;
      text = c.in_ok-next.ensures.text ∙ l.invariant.text;
    }

pub returns-in_err-next : goal.returns-in_err-next
returns-in_err-next c =
    let p = err_from_is_err_and c.from_residual.result c.from_residual.ensures.1 in
    let old = c.args.self.now in
    let l = c.loop-self in
    let test : true ≡ begins c.item_starts.result.now l.self.tokens.rest.now = c.loop-self-test.ensures in record {
      read = rw (p.1, p.2) (λ reason is.
          let next = rw l.invariant.text at (c.in_err-next.ensures.read reason is) in
          sym (nothing_before item_of item_starts (item_at old.text.now c.args.levels) c.new-all.result.items (repeated_of item_starts (item_at old.text.now c.args.levels) old.tokens.rest.now) c.new-all.ensures.items)
          ∙ bad_turn item_starts (item_at old.text.now c.args.levels) (each_of item_of l.all) l.self.tokens.rest.now reason (with_front (each_of item_of c.new-all.result) (repeated_of item_starts (item_at old.text.now c.args.levels) old.tokens.rest.now))
          (sym (test ∙ ap (λ (w : List Kind). begins w l.self.tokens.rest.now) c.item_starts.ensures)) next l.invariant.read);
      text = cc;
    }

pub returns : goal.returns
returns c =
    let old = c.args.self.now in
    let l = c.loop-self in
    let test : false ≡ begins c.item_starts.result.now l.self.tokens.rest.now = c.loop-self-test.ensures in record {
      read = sym (nothing_before item_of item_starts (item_at old.text.now c.args.levels) c.new-all.result.items (repeated_of item_starts (item_at old.text.now c.args.levels) old.tokens.rest.now) c.new-all.ensures.items)
          ∙ no_turn item_starts (item_at old.text.now c.args.levels) (each_of item_of l.all) l.self.tokens.rest.now (with_front (each_of item_of c.new-all.result) (repeated_of item_starts (item_at old.text.now c.args.levels) old.tokens.rest.now))
          (sym (test ∙ ap (λ (w : List Kind). begins w l.self.tokens.rest.now) c.item_starts.ensures)) l.invariant.read;
      text = cc;
    }
