-- Free. What the entries of a parse say of flags and of defaults, by their rows.
--     flag_found       whether a flag is among the words
--     said_found       whether an option is, rather than its default
--     form_found       the form that flags ask for
--     odds_found       whether flags ask for two forms, or for one beside a width
use Rattle.std.proofs.Common.{◌≡◌, ◌∙◌, ap, Bool, List, Option, Some, None, codes, refl, sym}
use Rattle.std.specs.Prelude.{◌&&◌, ◌||◌, cond, find, option_and_then, option_map}
use Rattle.std.specs.Str.{bytes_eq}
use Rattle.clap.specs.Facts.{Entry}
use Rattle.clap.specs.Matches.{first_value, matched_of}
use Rattle.clap.specs.Walk.{Row, Text, first_of, row_of, rows_of}
use Rattle.clap.specs.declared.parser.matches.Found.{Found}
use Rattle.clap.specs.declared.parser.matches.MatchedArg.{MatchedArg}
use Rattle.clap.specs.declared.parser.matches.ValueSource.{ValueSource}
use Rattle.clap.proofs.WalkLemmas.{find_row}
use Rattle.asm_arguments.proofs.ReadNumbers.{first_of_rows}
use Rattle.asm_explore_words.specs.WordsSaid.{are_two_forms, form_asked, is_json_asked, is_of_words, is_page_asked, is_said, is_yes}
use Rattle.asm_explore_words.specs.declared.settings.ShowForm.TheVariants as form

pub flag_found : (f : Found) (name : Text) (set : Bool) → set ≡ is_yes (first_value f name) → set ≡ is_yes (first_of name (rows_of f))
flag_found f name set is = is ∙ ap is_yes (sym (first_of_rows f name))

source_of_entry : (f : Found) (name : Text) → option_and_then (λ (row : Row). row.source) (find (λ (row : Row). bytes_eq row.id name) (rows_of f))
    ≡ option_and_then (λ (a : MatchedArg). a.source) (matched_of f name)
source_of_entry f name = ap (option_and_then (λ (row : Row). row.source)) (find_row f.entries.items name) ∙ go (find (λ e. bytes_eq e.0.now name) f.entries.items)
  where
    go : (o : Option Entry) → option_and_then (λ (row : Row). row.source) (option_map row_of o) ≡ option_and_then (λ (a : MatchedArg). a.source) (option_map (λ e. e.1) o)
    go None = refl
    go (Some e) = refl

pub said_found : (f : Found) (name : Text) (source : Option ValueSource) → source ≡ option_and_then (λ (a : MatchedArg). a.source) (matched_of f name)
    → is_of_words source ≡ is_said name (rows_of f)
said_found f name source is = ap is_of_words (is ∙ sym (source_of_entry f name))

pub form_found : (rows : List Row) (page json : Bool) → is_page_asked rows ≡ page → is_json_asked rows ≡ json → cond page form.Page (cond json form.Json form.Table) ≡ form_asked rows
form_found rows page json is_page is_json =
    ap (λ (b : Bool). cond b form.Page (cond json form.Json form.Table)) (sym is_page)
    ∙ ap (λ (b : Bool). cond (is_page_asked rows) form.Page (cond b form.Json form.Table)) (sym is_json)

pub odds_found : (f : Found) (page json width : Bool) → page ≡ is_yes (first_value f (codes "html")) → json ≡ is_yes (first_value f (codes "json"))
    → width ≡ is_said (codes "width") (rows_of f) → ((page && json) || ((page || json) && width)) ≡ are_two_forms (rows_of f)
odds_found f page json width is_page is_json is_width =
    let rows = rows_of f in
    ap (λ (b : Bool). (b && json) || ((b || json) && width)) (flag_found f (codes "html") page is_page)
    ∙ (ap (λ (b : Bool). (is_page_asked rows && b) || ((is_page_asked rows || b) && width)) (flag_found f (codes "json") json is_json)
    ∙ ap (λ (b : Bool). (is_page_asked rows && is_json_asked rows) || ((is_page_asked rows || is_json_asked rows) && b)) is_width)
