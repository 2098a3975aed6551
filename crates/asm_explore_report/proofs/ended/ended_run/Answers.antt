use Rattle.std.proofs.Common.{◌≡◌, ◌∙◌, ◌++◌, [], List, ℕ, ap, subst, sym}
use Rattle.asm_run.specs.Headline.{book_run}
use Rattle.asm_run.specs.Through.{writer_of}
use Rattle.asm_run.specs.Trace.{IsTrace}
use Rattle.asm_run.specs.Written.{locations_in, names_in}
use Rattle.asm_explore_report.proofs.ended.ended_run.Goals as goal

pub returns-clause-trace : goal.returns-clause-trace
returns-clause-trace g c =
    let done = c.in_ok-end.ensures.done in
    let first : (writer_of c.new-sink.result).items ≡ [] = ap (λ w. w.items) c.new-sink.ensures.writer ∙ c.new.ensures.items in
    let grown : (writer_of c.run.new.out).items ≡ (writer_of c.new-sink.result).items ++ done.written.trace = done.written.appended in
    let same : done.written.trace ≡ c.into_inner-trace.result.items = sym (ap (λ w. w.items) c.into_inner-trace.ensures ∙ (grown ∙ ap (λ front. front ++ done.written.trace) first)) in
    record {
      tree = done.tree;
      accepted = done.accepted;
      script = done.script;
      spelled = done.spelled;
      is_trace = subst (λ (bytes : List ℕ). IsTrace (names_in done.tree) (locations_in done.tree) 1 (book_run done.tree c.args.turns done.script c.args.steps) bytes) same done.written.is_trace;
    }
