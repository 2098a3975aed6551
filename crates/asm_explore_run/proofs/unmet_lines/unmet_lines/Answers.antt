use Rattle.std.proofs.Common.{◌≡◌, ◌∙◌, ap, map, subst, sym, true}
use Rattle.std.specs.Str.Lines.{strip_carriage_return}
use Rattle.std.proofs.lemmas.Simd.{map-map}
use Rattle.asm_explore.specs.WrittenScripts.{lines_said}
use Rattle.asm_explore_run.specs.UnmetLines.{unmet_from}
use Rattle.asm_explore_run.specs.code.LineKeys.{have_lines, left_from}
use Rattle.asm_explore_run.proofs.KeySets.{all_left}
use Rattle.asm_explore_run.proofs.unmet_lines.unmet_lines.Goals as goal

pub returns : goal.returns
returns c =
    let made = lines_said c.args.made.now in
    let items = c.in_ok-lines.lines.items in
    let lines = map (λ l. strip_carriage_return l.now) items in
    let all = c.in_ok-keys.keys in
    let left = c.remove_met.new.keys in
    let there : have_lines all lines ≡ true = subst (λ xs. have_lines all (map (λ l. strip_carriage_return l.now) xs) ≡ true) c.as_slice.ensures.value c.in_ok-keys.ensures in
    c.in_ok-unmet.ensures ∙ ap (λ xs. left_from 1 left (map (λ l. strip_carriage_return l.now) xs)) c.as_slice-2.ensures.value
    ∙ all_left all left made c.in_ok-remove_met.ensures 1 lines there
    ∙ ap (unmet_from 1 made) (sym (map-map strip_carriage_return (λ l. l.now) items) ∙ ap (map strip_carriage_return) c.in_ok-lines.ensures)
