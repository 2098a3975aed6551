-- Free. The texts of an argument are those of its row.
use Rattle.std.proofs.Common.{◌≡◌, ◌∙◌, ap, List, [], Option, Some, None, refl, sym}
use Rattle.std.specs.Prelude.{find, option_map, unwrap_or}
use Rattle.std.specs.Option.{option_map_or}
use Rattle.std.specs.Str.{bytes_eq}
use Rattle.clap.specs.Facts.{Entry}
use Rattle.clap.specs.Matches.{matched_of, raw_values}
use Rattle.clap.specs.Walk.{Row, Text, row_of, rows_of}
use Rattle.clap.specs.declared.parser.matches.Found.{Found}
use Rattle.clap.specs.declared.parser.matches.MatchedArg.{MatchedArg}
use Rattle.clap.proofs.WalkLemmas.{find_row}
use Rattle.asm_explore_words.specs.WordsSaid.{all_of}

all_of_entry : (f : Found) (name : Text) → all_of name (rows_of f) ≡ option_map_or raw_values (matched_of f name) []
all_of_entry f name = ap (λ (o : Option Row). option_map_or (λ (r : Row). r.values) o []) (find_row f.entries.items name) ∙ go (find (λ e. bytes_eq e.0.now name) f.entries.items)
  where
    go : (o : Option Entry) → option_map_or (λ (r : Row). r.values) (option_map row_of o) [] ≡ option_map_or raw_values (option_map (λ e. e.1) o) []
    go None = refl
    go (Some e) = refl

or_none : (m : Option MatchedArg) → unwrap_or (option_map raw_values m) [] ≡ option_map_or raw_values m []
or_none None = refl
or_none (Some m) = refl

-- what is found of an argument, if it has an entry
pub texts_found : (f : Found) (name : Text) (found : Option (List Text)) → found ≡ option_map raw_values (matched_of f name) → unwrap_or found [] ≡ all_of name (rows_of f)
texts_found f name found is =
    ap (λ (o : Option (List Text)). unwrap_or o []) is ∙ (or_none (matched_of f name) ∙ sym (all_of_entry f name))
