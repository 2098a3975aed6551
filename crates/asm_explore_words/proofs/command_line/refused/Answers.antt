use Rattle.std.proofs.Common.{◌≡◌, ◌∙◌, ap, [], ◌∷◌, inl, inr, map, subst, sym}
use Rattle.clap.specs.Faults.{fault_of, is_simple_and_free}
use Rattle.clap.specs.Kinds.{HasKind, Kinds, or_else}
use Rattle.clap.specs.Simple.{App}
use Rattle.clap.specs.declared.error.kind.ErrorKind.TheVariants.{MissingSubcommand}
use Rattle.asm_explore_words.specs.CommandLine.{commands}
use Rattle.asm_explore_words.proofs.AllCommands.{is_free}
use Rattle.asm_explore_words.proofs.WordKinds.{first_kinds}
use Rattle.asm_explore_words.proofs.command_line.refused.Goals as goal

pub returns-in-Ok-error : goal.returns-in-Ok-error
returns-in-Ok-error g c =
    let is = c.requires in
    let words = map g.S.AsStr.text c.args.words.now in
    let none : fault_of commands words ≡ [] =
    ap (λ (app : App). fault_of app words) (sym is) ∙ c.in-Ok.ensures.kinds (ap is_simple_and_free is ∙ is_free) in
    let missing : HasKind (MissingSubcommand ∷ []) c.in-Ok-error.error = inr (inl c.in-Ok-error.ensures.kind) in
    subst (λ (ks : Kinds). HasKind (or_else ks (MissingSubcommand ∷ [])) c.in-Ok-error.error) (sym none) missing

pub returns-in-Err : goal.returns-in-Err
returns-in-Err g c =
    let is = c.requires in
    let words = map g.S.AsStr.text c.args.words.now in
    let said : HasKind (fault_of commands words) c.in-Err.error =
    subst (λ (app : App). HasKind (fault_of app words) c.in-Err.error) is (c.in-Err.ensures.kinds (ap is_simple_and_free is ∙ is_free)) in
    first_kinds (fault_of commands words) (MissingSubcommand ∷ []) c.in-Err.error said
