use Rattle.std.proofs.Common.{◌∙◌, ap, codes, sym, refl}
use Rattle.std.specs.Prelude.{option_map}
use Rattle.clap.specs.Matches.{found_of}
use Rattle.asm_explore_words.specs.WordsSaid.{is_yes}
use Rattle.asm_arguments.proofs.ReadNumbers.{first_of_rows}
use Rattle.asm_explore_words.proofs.UnsignedNumbers.{is_unsigned}
use Rattle.asm_explore_words.proofs.random_words.random_read.Goals as goal

pub returns-clause-read : goal.returns-clause-read
returns-clause-read c =
    let f = found_of c.args.given.now in
    record {
      spec = first_of_rows f (codes "spec") ∙ (sym c.get_str.ensures ∙ ap (option_map (λ text. text.now)) c.unwrap.ensures);
      numbers = (c.number_of.ensures.said, (c.number_of-2.ensures.said, (c.number_of-3.ensures.said, (c.number_of-4.ensures.said, tt))));
      always = c.in_ok-texts_of.ensures;
      always_files = c.in_ok-texts_of-2.ensures;
      when_quiet = c.get_str-2.ensures ∙ sym (first_of_rows f (codes "deadlock-unless"));
      seed = is_unsigned f _ c.requires.seed c.unsigned_of.result c.unsigned_of.ensures _ refl;
      trace = c.is_set.ensures ∙ ap is_yes (sym (first_of_rows f (codes "trace")));
      table = c.is_set-2.ensures ∙ ap is_yes (sym (first_of_rows f (codes "table")));
      progress = c.is_set-3.ensures ∙ ap is_yes (sym (first_of_rows f (codes "progress")));
    }
