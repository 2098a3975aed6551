-- Free. Threads may share resolved terms and rules, since they may share their parts.
use denote.RattleType.{RattleType}
use denote.Struct.Field.{row_field}
use denote.Struct.Tuple.{Tuple, tuple_type}
use denote.Param.Send.{IsSync, IsSend, sendable}
use denote.Param.SendFields.{as_row_sync, as_row_send, declared_sync, declared_send}
use Rattle.std.proofs.Common.{[], ◌∷◌}
use Rattle.std.proofs.Crossing.{Vec-sync, Vec-send, Box-sync, Box-send, Arc-sync, Arc-send, crosses}
use Rattle.asm_state.specs.contracts.operation.Op as Op
use Rattle.asm_state.specs.contracts.word.Word as Word
use Rattle.asm_code.specs.contracts.code.Code as Code
use Rattle.asm_code.specs.contracts.rule_code.TargetCode as TargetCode
use Rattle.asm_code.specs.contracts.rule_code.RuleCode as RuleCode
use Rattle.asm_code.proofs.code.Code.TheLaws.TheKnot as code
use Rattle.asm_code.proofs.rule_code.RuleCode.TheLaws.TheKnot as rule

-- ---- codes

word : IsSync Word.the_row
word = search sendable depth 20

word_field : IsSync Word.the_field.row
word_field = search sendable depth 20

word_field_sent : IsSend Word.the_field.row
word_field_sent = search sendable depth 20

-- a link of a chain
abbrev link : RattleType → RattleType
link h = Tuple (Op.the_row ∷ h ∷ [])

link_shared : (h : RattleType) → IsSync h → IsSync (link h)
link_shared h s = declared_sync (tuple_type (Op.the_row ∷ h ∷ [])) (search sendable depth 20, (as_row_sync (row_field h) s, tt))

link_sent : (h : RattleType) → IsSend h → IsSend (link h)
link_sent h s = declared_send (tuple_type (Op.the_row ∷ h ∷ [])) (search sendable depth 20, (as_row_send (row_field h) s, tt))

-- by the parts of one layer
code_field : IsSync Code.the_field.row
code_field = code.both_sync-Code word_field_sent word_field (search sendable depth 20) (search sendable depth 20) (search sendable depth 20) (search sendable depth 20)
    (λ h s y. Box-send h s) (λ h s y. Box-sync h y) (search sendable depth 20) (search sendable depth 20) (λ h s y. Vec-send h s) (λ h s y. Vec-sync h y) (λ h s y. Arc-send h s y) (λ h s y. Arc-sync h s y)
    (search sendable depth 20) (search sendable depth 20) (search sendable depth 20) (search sendable depth 20) (search sendable depth 20) (search sendable depth 20)
    (λ h s y. Vec-send (link h) (link_sent h s)) (λ h s y. Vec-sync (link h) (link_shared h y))

code_field_sent : IsSend Code.the_field.row
code_field_sent = code.both_send-Code word_field_sent word_field (search sendable depth 20) (search sendable depth 20) (search sendable depth 20) (search sendable depth 20)
    (λ h s y. Box-send h s) (λ h s y. Box-sync h y) (search sendable depth 20) (search sendable depth 20) (λ h s y. Vec-send h s) (λ h s y. Vec-sync h y) (λ h s y. Arc-send h s y) (λ h s y. Arc-sync h s y)
    (search sendable depth 20) (search sendable depth 20) (search sendable depth 20) (search sendable depth 20) (search sendable depth 20) (search sendable depth 20)
    (λ h s y. Vec-send (link h) (link_sent h s)) (λ h s y. Vec-sync (link h) (link_shared h y))

pub sharing_laws-codes : IsSync Code.the_row
sharing_laws-codes = as_row_sync Code.the_field code_field

code_sent : IsSend Code.the_row
code_sent = as_row_send Code.the_field code_field_sent

-- ---- rules

place_field : IsSync TargetCode.the_field.row
place_field = search (sendable, crosses, sharing_laws-codes) depth 20

place_field_sent : IsSend TargetCode.the_field.row
place_field_sent = search (sendable, crosses, code_sent) depth 20

place_shared : IsSync TargetCode.the_row
place_shared = as_row_sync TargetCode.the_field place_field

place_sent : IsSend TargetCode.the_row
place_sent = as_row_send TargetCode.the_field place_field_sent

-- by the parts of one layer
pub sharing_laws-rules : IsSync RuleCode.the_row
sharing_laws-rules = as_row_sync RuleCode.the_field (rule.both_sync-RuleCode place_field_sent place_field code_field_sent code_field (λ h s y. Vec-send h s) (λ h s y. Vec-sync h y) (λ h s y. Box-send h s) (λ h s y. Box-sync h y)
    (search sendable depth 20) (search sendable depth 20) (search (sendable, crosses, code_sent) depth 20) (search (sendable, crosses, sharing_laws-codes) depth 20) (λ h s y. Arc-send h s y) (λ h s y. Arc-sync h s y)
    (search (sendable, crosses, place_sent) depth 20) (search (sendable, crosses, place_shared) depth 20) (search (sendable, crosses, code_sent) depth 20) (search (sendable, crosses, sharing_laws-codes) depth 20))
