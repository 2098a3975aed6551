use Rattle.std.proofs.Common.{◌∙◌, ap, inl, inr, sym, subst, map, List}
use Rattle.clap.specs.Simple.{App}
use Rattle.clap.specs.Faults.{fault_of, is_simple_and_free}
use Rattle.clap.specs.Kinds.{HasKind}
use Rattle.clap.specs.Walk.{Text}
use Rattle.clap.specs.declared.error.Error.{Error}
use Rattle.asm_tool.specs.CommandLine.{refusals}
use Rattle.asm_tool.specs.declared.settings.WordFault.{WordFault}
use Rattle.asm_tool.specs.declared.settings.WordFault.TheVariants.{Memory, Words}
use Rattle.asm_tool.specs.WordsSaid.{Explains, IsFaultOf}
use Rattle.std.proofs.lemmas.Result.{err_from_is_err_and}
use Rattle.clap.specs.Simple.{is_simple, matches_of}
use Rattle.asm_tool.proofs.Options.{is_free, is_plain, numbers}
use Rattle.asm_tool.proofs.command_line.given.Goals as goal

explained : (words : List Text) (error : Error) (fault : WordFault) → IsFaultOf error fault → HasKind (refusals words) error → Explains words fault
explained words error Memory is kinds = tt
explained words error (Words e) is kinds = elim kinds [
  | inl memory ↦ absurd (is.1 memory)
  | inr among ↦ rw is.0 among
]

pub returns-in_err-command-clause-refused : goal.returns-in_err-command-clause-refused
returns-in_err-command-clause-refused g c =
    let p = err_from_is_err_and c.from_residual.result c.from_residual.ensures.1 in
    rw (p.1, p.2) tt

pub returns-in_err-try_get_matches_from-clause-refused : goal.returns-in_err-try_get_matches_from-clause-refused
returns-in_err-try_get_matches_from-clause-refused g c =
    let p = err_from_is_err_and c.from_residual-in_err-try_get_matches_from.result c.from_residual-in_err-try_get_matches_from.ensures.1 in
    let is = c.in_ok-command.ensures in
    let words = map g.S.AsStr.text c.args.words.now in
    let kinds = c.in_err-try_get_matches_from.ensures.kinds (ap is_simple_and_free is ∙ is_free) in
    rw p.1 (explained words c.in_err-try_get_matches_from.field-0.0 p.0 p.2
    (subst (λ (app : App). HasKind (fault_of app words) c.in_err-try_get_matches_from.field-0.0) is kinds))

pub returns-clause-taken : goal.returns-clause-taken
returns-clause-taken g c =
    let is = c.in_ok-command.ensures in
    ap (λ (app : App). fault_of app (map g.S.AsStr.text c.args.words.now)) (sym is)
    ∙ c.in_ok-try_get_matches_from.ensures.kinds (ap is_simple_and_free is ∙ is_free)

pub returns-clause-parsed : goal.returns-clause-parsed
returns-clause-parsed g c =
    let is = c.in_ok-command.ensures in
    let words = map g.S.AsStr.text c.args.words.now in
    let m = c.in_ok-try_get_matches_from.field-0 in
    let p = c.in_ok-try_get_matches_from.ensures.parsed in
    record {
      rows = (c.in_ok-try_get_matches_from.ensures.matches (ap is_simple is ∙ is_plain)).0 ∙ ap (λ app. matches_of app words) is;
      numbers = numbers c.in_ok-command.field-0 m p is;
    }
