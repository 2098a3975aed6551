-- Free. Threads may share a rule, since they may share its parts.
use denote.Param.Send.{IsSync, sendable}
use denote.Param.SendFields.{as_row_sync, declared_sync}
use Rattle.std.proofs.Crossing.{Box-sync, Vec-sync}
use Rattle.std.proofs.Common.{[], ◌∷◌}
use denote.Struct.Field.{row_field}
use denote.Struct.Tuple.{Tuple, tuple_type}
use Rattle.std.proofs.option.Option.TheSendSync as option
use Rattle.asm_state.specs.contracts.operation.Op as Op
use Rattle.asm_syntax.specs.contracts.name.Name as Name
use Rattle.asm_syntax.specs.contracts.rule.Rule as Rule
use Rattle.asm_syntax.specs.contracts.rule.Target as Target
use Rattle.asm_syntax.specs.contracts.term.Term as Term
use Rattle.asm_syntax.proofs.rule.Rule.TheLaws.TheKnot.{sync-Rule}
use Rattle.asm_syntax.proofs.term.Term.TheLaws.TheKnot.{sync-Term}

name : IsSync Name.the_row
name = search (sendable, Vec-sync) depth 20

target : IsSync Term.the_row → IsSync Target.the_row
target t = declared_sync Target.the_type (name, (Vec-sync Term.the_row t, tt))

inner_term : IsSync (Term.the_field).row
inner_term = sync-Term (search sendable depth 20) (search (sendable, Vec-sync) depth 20) (λ h s. Vec-sync h s) (λ h s. Box-sync h s) (λ h s. Vec-sync (Tuple (Op.the_row ∷ h ∷ [])) (declared_sync (tuple_type (Op.the_row ∷ h ∷ [])) (search sendable depth 20, (as_row_sync (row_field h) s, tt))))

-- a rule, which has rules in it, by the parts of one layer
pub rule : IsSync Term.the_row → IsSync Rule.the_row
rule t =
    let to = target t in
    as_row_sync Rule.the_field
    (sync-Rule (search (sendable, Vec-sync) depth 20) (search (sendable, Vec-sync, t) depth 20) inner_term (search (sendable, to) depth 20) (λ h s. Vec-sync h s) (λ h s. Box-sync h s)
    (λ h s. option.the_sync _ (Box-sync h s)) (search (sendable, t) depth 20))
