use Rattle.std.proofs.Common.{arith, map}
use Rattle.std.specs.Io.KnownBytes.{Appends}
use Rattle.asm_explore_tool.proofs.ReportStatuses.{of_answer}
use Rattle.asm_explore_tool.proofs.status.status.Goals as goal

pub returns-in-Ok-clause-taken : goal.returns-in-Ok-clause-taken
returns-in-Ok-clause-taken g c = λ taken four.
    of_answer (g.F.Folder.contents c.args.folder.now) (g.I.Read.remaining c.args.input) (g.F.NewFiles.made c.args.folder.now) (g.F.NewFiles.made c.answer.new.folder) (Appends (g.O.Sink.bytes c.args.out.now) (g.O.Sink.bytes c.answer.new.out)) (map g.S.AsStr.text c.args.words.now)
    c.in-Ok.status c.in-Ok.ensures.answered (omega (arith, four), omega (arith, four))

pub returns-in-Ok-clause-explained : goal.returns-in-Ok-clause-explained
returns-in-Ok-clause-explained g c = λ fault.
    absurd (of_answer (g.F.Folder.contents c.args.folder.now) (g.I.Read.remaining c.args.input) (g.F.NewFiles.made c.args.folder.now) (g.F.NewFiles.made c.answer.new.folder) (Appends (g.O.Sink.bytes c.args.out.now) (g.O.Sink.bytes c.answer.new.out)) (map g.S.AsStr.text c.args.words.now) c.in-Ok.status
    c.in-Ok.ensures.answered fault)
