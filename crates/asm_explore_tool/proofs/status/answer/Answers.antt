use Rattle.std.proofs.Common.{inl, map, refl, subst}
use Rattle.std.proofs.lemmas.Result.{err_from_is_err_and}
use Rattle.std.specs.Io.KnownBytes.{Appends}
use Rattle.asm_explore_tool.specs.Outputs.{AppendsUpTo}
use Rattle.asm_explore_tool.proofs.NoReports.{kept_alike, why_none}
use Rattle.asm_explore_tool.proofs.status.answer.Goals as goal

pub returns-in-Ok-written-clause-answered : goal.returns-in-Ok-written-clause-answered
returns-in-Ok-written-clause-answered g c = inl (record {
  taken = c.in-Ok.ensures.taken;
  task = c.in-Ok.task;
  said = c.in-Ok.ensures.said;
  report = c.in_ok-report-in-Ok.report;
  reported = c.in_ok-report-in-Ok.ensures.report;
  status_is = refl;
  written = subst (Appends (g.O.Sink.bytes c.args.out.now) (g.O.Sink.bytes c.written.new.out)) c.as_slice.ensures.value c.in-Ok-written.ensures.whole;
})

pub returns-in-Ok-clause-explained : goal.returns-in-Ok-clause-explained
returns-in-Ok-clause-explained g c =
    let report = c.in_ok-report-in-Ok.report in
    let old = g.O.Sink.bytes c.args.out.now in
    let new = g.O.Sink.bytes c.written.new.out in
    inl (
      c.in-Ok.ensures.taken,
      (
        c.in-Err.ensures.failed refl,
        (
          report.status,
          record {
            taken = c.in-Ok.ensures.taken;
            task = c.in-Ok.task;
            said = c.in-Ok.ensures.said;
            report = report;
            reported = c.in_ok-report-in-Ok.ensures.report;
            status_is = refl;
            written = subst (AppendsUpTo old new) c.as_slice.ensures.value c.in-Err.ensures.begun;
          },
        ),
      ),
    )

pub returns-in_err-report-in-Ok-clause-explained : goal.returns-in_err-report-in-Ok-clause-explained
returns-in_err-report-in-Ok-clause-explained g c =
    let p = err_from_is_err_and c.from_residual.result c.from_residual.ensures.1 in
    let known = g.O.Sink.bytes c.args.out.now in
    let contents = g.F.Folder.contents c.args.folder.now in
    let old = g.F.NewFiles.made c.args.folder.now in
    let new = g.F.NewFiles.made c.report.new.folder in
    let why = why_none contents (g.I.Read.remaining c.args.input) old new known known (g.O.Sink.has_failed c.args.out.now) (map g.S.AsStr.text c.args.words.now)
    c.in_err-report-in-Ok.field-0.0 (record { task = c.in-Ok.task; said = c.in-Ok.ensures.said; explained = c.in_err-report-in-Ok.ensures.explained; kept = kept_alike known }) in
    rw (p.1, p.2) (inl (c.in-Ok.ensures.taken, why))
