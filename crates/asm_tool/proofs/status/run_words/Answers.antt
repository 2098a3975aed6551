use Rattle.std.proofs.Common.{List, map, subst, ℕ}
use Rattle.std.proofs.lemmas.Result.{err_from_is_err_and}
use Rattle.asm_tool.specs.Statuses.{StatusTells, status_in}
use Rattle.asm_tool.proofs.ToolPromises.{at_read, explains_of_words, whole_of_words}
use Rattle.asm_tool.proofs.StatusTells.{of_words}
use Rattle.asm_tool.proofs.status.run_words.Goals as goal

pub returns-clause-told : goal.returns-clause-told
returns-clause-told g c =
    let s = c.in_ok-settings.settings in
    let status = status_in c.run_texts.result in
    let script = c.as_slice-2.result.now in
    let told =
    subst (λ (x : List ℕ). StatusTells c.in_ok-text.text.items x s.limits status) c.as_slice-2.ensures.value
    (subst (λ (x : List ℕ). StatusTells x script s.limits status) c.as_slice.ensures.value c.run_texts.ensures.told) in
    of_words (map g.S.AsStr.text c.args.words.now) (g.F.Folder.contents c.args.folder.now) (g.I.Read.remaining c.args.input) s
    c.in_ok-text.text.items c.in_ok-script.script.items status
    c.in_ok-settings.ensures.said c.in_ok-text.ensures c.in_ok-script.ensures told

pub returns-clause-wrote : goal.returns-clause-wrote
returns-clause-wrote g c =
    whole_of_words (map g.S.AsStr.text c.args.words.now) (g.F.Folder.contents c.args.folder.now) (g.I.Read.remaining c.args.input) _ _
    c.in_ok-settings.settings c.in_ok-text.text.items c.in_ok-script.script.items c.as_slice.result.now c.as_slice-2.result.now
    c.as_slice.ensures.value c.as_slice-2.ensures.value
    c.in_ok-settings.ensures.said c.in_ok-text.ensures c.in_ok-script.ensures c.run_texts.result c.run_texts.ensures.wrote

pub returns-clause-explained : goal.returns-clause-explained
returns-clause-explained g c =
    explains_of_words (map g.S.AsStr.text c.args.words.now) (g.F.Folder.contents c.args.folder.now) (g.I.Read.remaining c.args.input) _ _
    c.in_ok-settings.settings c.in_ok-text.text.items c.in_ok-script.script.items c.as_slice.result.now c.as_slice-2.result.now
    c.as_slice.ensures.value c.as_slice-2.ensures.value
    c.in_ok-settings.ensures.said c.in_ok-text.ensures c.in_ok-script.ensures _ c.run_texts.result c.run_texts.ensures.explained c.run_texts.ensures.unwritten c.run_texts.ensures.failed

pub returns-in_err-text-clause-explained : goal.returns-in_err-text-clause-explained
returns-in_err-text-clause-explained g c =
    let p = err_from_is_err_and c.from_residual-in_err-text.result c.from_residual-in_err-text.ensures.1 in
    rw (p.1, p.2)
    (at_read (map g.S.AsStr.text c.args.words.now) (g.F.Folder.contents c.args.folder.now) (g.I.Read.remaining c.args.input) (g.O.Sink.bytes c.args.out.now) _ c.in_err-text.field-0.0)

pub returns-in_err-script-clause-explained : goal.returns-in_err-script-clause-explained
returns-in_err-script-clause-explained g c =
    let p = err_from_is_err_and c.from_residual-in_err-script.result c.from_residual-in_err-script.ensures.1 in
    rw (p.1, p.2)
    (at_read (map g.S.AsStr.text c.args.words.now) (g.F.Folder.contents c.args.folder.now) (g.I.Read.remaining c.args.input) (g.O.Sink.bytes c.args.out.now) _ c.in_err-script.field-0.0)
