use Rattle.std.proofs.lemmas.Result.{err_from_is_err_and}
use Rattle.asm_explore_texts.specs.Conditions.{texts_of}
use Rattle.asm_explore_tool.specs.GivenTexts.{sources_of}
use Rattle.asm_explore_tool.proofs.FilesInTurn.{front_more}
use Rattle.asm_explore_tool.proofs.GivenSources.{among_files, file_source}
use Rattle.asm_explore_tool.proofs.given_texts.with_files.Goals as goal

pub loop-k-preserved : goal.loop-k-preserved
loop-k-preserved g c = record {
  files =
      front_more (g.F.Folder.contents c.args.folder.now) c.args.names.now c.loop-k.k _ (texts_of c.args.others.items) c.loop-k.all.items c.push.new.self.items
      c.in_ok-condition.condition c.loop-k-test.true c.loop-k.invariant.files c.in_ok-condition.ensures.text c.in_ok-push.ensures.items;
  sources =
      file_source c.loop-k.all.items c.push.new.self.items c.in_ok-condition.condition c.in_ok-push.ensures.items c.args.names.now c.loop-k.k _ (sources_of c.args.others.items)
      c.loop-k-test.true c.in_ok-condition.ensures.source c.loop-k.invariant.sources;
}

pub returns-in_err-condition-clause-unread : goal.returns-in_err-condition-clause-unread
returns-in_err-condition-clause-unread g c =
    let p = err_from_is_err_and c.from_residual.result c.from_residual.ensures.1 in
    rw (p.1, p.2) (among_files c.args.names.now c.loop-k.k _ c.in_err-condition.field-0.0 c.loop-k-test.true c.in_err-condition.ensures.unread)
