use Rattle.std.proofs.Common.{◌∙◌, ap, List, [], Option, sym}
use Rattle.std.specs.Prelude.{option_map, unwrap_or}
use Rattle.std.specs.Borrow.{Bor}
use Rattle.std.proofs.lemmas.Result.{IfOk-weaker}
use Rattle.clap.specs.Matches.{found_of}
use Rattle.clap.specs.Walk.{Text, texts}
use Rattle.asm_explore_words.proofs.ReadTexts.{texts_found}
use Rattle.asm_explore_words.proofs.arguments.texts_of.Goals as goal

abbrev found : Option (Bor (List (Bor Text))) → Option (List Text)
found o = option_map (λ s. texts s.now) o

pub returns-in-Some : goal.returns-in-Some
returns-in-Some c =
    let all = texts_found (found_of c.args.given.now) c.args.name.now (found c.get_strs.result) c.get_strs.ensures in
    IfOk-weaker c.to_vec.result _ _
    (λ v same. ap texts (same (λ x y e. e)) ∙ (ap (λ o. unwrap_or (found o) []) (sym c.in-Some.is) ∙ all)) c.to_vec.ensures.items_if_clones_equal

pub returns-in-None : goal.returns-in-None
returns-in-None c =
    let all = texts_found (found_of c.args.given.now) c.args.name.now (found c.get_strs.result) c.get_strs.ensures in
    ap texts c.new.ensures.items ∙ (ap (λ o. unwrap_or (found o) []) (sym c.in-None.is) ∙ all)
