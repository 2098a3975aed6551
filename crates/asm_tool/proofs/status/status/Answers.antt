use Rattle.std.proofs.Common.{◌∙◌, ap, arith, map, subst, sym, ℕ}
use Rattle.asm_tool.proofs.ToolPromises.{ends_low, faults_high, keeps_same}
use Rattle.asm_tool.specs.Statuses.{TellsOfWords, status_in}
use Rattle.asm_tool.proofs.status.status.Goals as goal

pub returns-in-Ok-clause-told : goal.returns-in-Ok-clause-told
returns-in-Ok-clause-told g c =
    subst (λ (n : ℕ). TellsOfWords (map g.S.AsStr.text c.args.words.now) (g.F.Folder.contents c.args.folder.now) (g.I.Read.remaining c.args.input) n)
    (ap status_in c.in-Ok.is ∙ sym c.whole_trace.ensures) c.run_words.ensures.told

pub returns-in-Err-clause-told : goal.returns-in-Err-clause-told
returns-in-Err-clause-told g c =
    subst (λ (n : ℕ). TellsOfWords (map g.S.AsStr.text c.args.words.now) (g.F.Folder.contents c.args.folder.now) (g.I.Read.remaining c.args.input) n)
    (ap status_in c.in-Err.is ∙ sym c.refusal.ensures.status) c.run_words.ensures.told

pub returns-in-Ok-clause-wrote : goal.returns-in-Ok-clause-wrote
returns-in-Ok-clause-wrote g c = λ low. c.in-Ok.ensures.wrote

pub returns-in-Ok-clause-quiet : goal.returns-in-Ok-clause-quiet
returns-in-Ok-clause-quiet g c = λ low. keeps_same (g.E.Sink.bytes c.args.err.now)

pub returns-in-Ok-clause-explained : goal.returns-in-Ok-clause-explained
returns-in-Ok-clause-explained g c = λ high. absurd (omega (arith, ends_low c.in-Ok.end, c.whole_trace.ensures, high))

pub returns-in-Err-clause-wrote : goal.returns-in-Err-clause-wrote
returns-in-Err-clause-wrote g c = λ low. absurd (omega (arith, faults_high c.in-Err.fault, c.refusal.ensures.status, low))

pub returns-in-Err-clause-quiet : goal.returns-in-Err-clause-quiet
returns-in-Err-clause-quiet g c = λ low. absurd (omega (arith, faults_high c.in-Err.fault, c.refusal.ensures.status, low))

pub returns-in-Err-clause-explained : goal.returns-in-Err-clause-explained
returns-in-Err-clause-explained g c = λ high. record {
  fault = c.in-Err.fault;
  is_status = sym c.refusal.ensures.status;
  holds = c.in-Err.ensures.explained;
  said = c.refusal.ensures.said;
}
