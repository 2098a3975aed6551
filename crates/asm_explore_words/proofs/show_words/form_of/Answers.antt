use Rattle.std.proofs.Common.{◌∙◌, codes, true, false, refl, sym}
use Rattle.clap.specs.Matches.{found_of}
use Rattle.clap.specs.Walk.{rows_of}
use Rattle.asm_explore_words.specs.WordsSaid.{is_json_asked}
use Rattle.asm_explore_words.proofs.SaidWords.{flag_found, form_found}
use Rattle.asm_explore_words.proofs.show_words.form_of.Goals as goal

pub returns-then-is_set : goal.returns-then-is_set
returns-then-is_set c =
    let f = found_of c.args.given.now in
    form_found (rows_of f) true (is_json_asked (rows_of f)) (sym (flag_found f (codes "html") c.is_set.result c.is_set.ensures) ∙ c.if-is_set.true) refl

pub returns-then-is_set-2 : goal.returns-then-is_set-2
returns-then-is_set-2 c =
    let f = found_of c.args.given.now in
    form_found (rows_of f) false true (sym (flag_found f (codes "html") c.is_set.result c.is_set.ensures) ∙ c.if-is_set.false)
    (sym (flag_found f (codes "json") c.is_set-else-is_set.result c.is_set-else-is_set.ensures) ∙ c.if-is_set-2.true)

pub returns-else-is_set-2 : goal.returns-else-is_set-2
returns-else-is_set-2 c =
    let f = found_of c.args.given.now in
    form_found (rows_of f) false false (sym (flag_found f (codes "html") c.is_set.result c.is_set.ensures) ∙ c.if-is_set.false)
    (sym (flag_found f (codes "json") c.is_set-else-is_set.result c.is_set-else-is_set.ensures) ∙ c.if-is_set-2.false)
