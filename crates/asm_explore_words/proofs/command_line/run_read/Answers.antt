use Rattle.std.proofs.Common.{◌∙◌, ap, codes, sym}
use Rattle.std.specs.Prelude.{option_map}
use Rattle.clap.specs.Matches.{found_of}
use Rattle.asm_arguments.proofs.ReadNumbers.{first_of_rows}
use Rattle.asm_explore_words.proofs.command_line.run_read.Goals as goal

pub returns-clause-read : goal.returns-clause-read
returns-clause-read c =
    let f = found_of c.args.given.now in
    record {
      run = record {
        spec = first_of_rows f (codes "spec") ∙ (sym c.get_str.ensures ∙ ap (option_map (λ text. text.now)) c.unwrap.ensures);
        numbers = (c.number_of.ensures.said, (c.number_of-2.ensures.said, tt));
        script = c.get_str-2.ensures ∙ sym (first_of_rows f (codes "script"));
        draw = c.seed_of.ensures;
        steps_said = c.is_said.ensures;
        turns_said = c.is_said-2.ensures;
      };
      always = c.in_ok-texts_of.ensures;
      always_files = c.in_ok-texts_of-2.ensures;
    }
