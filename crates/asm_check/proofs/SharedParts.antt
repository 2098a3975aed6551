-- Free. Threads may share a checked specification, since they may share its parts.
use denote.Param.Send.{IsSync, sendable}
use denote.Param.SendFields.{declared_sync, variants_sync}
use denote.Builtin.{usize}
use Rattle.std.proofs.Crossing.{Vec-sync}
use Rattle.asm_state.specs.contracts.signature.Signature as Signature
use Rattle.asm_syntax.specs.contracts.name.Name as Name
use Rattle.asm_syntax.specs.contracts.rule.Rule as Rule
use Rattle.asm_syntax.specs.contracts.spec.Given as Given
use Rattle.asm_syntax.specs.contracts.spec.Item as Item
use Rattle.asm_syntax.specs.contracts.spec.Spec as Spec
use Rattle.asm_syntax.specs.contracts.term.Term as Term
use Rattle.asm_check.specs.contracts.numbers.body_indices.BodyIndices as BodyIndices
use Rattle.asm_check.specs.contracts.checked.Checked as Checked
use Rattle.asm_check.specs.contracts.numbers.numbering.Numbering as Numbering

name : IsSync Name.the_row
name = search (sendable, Vec-sync) depth 20

item : IsSync Term.the_row → IsSync Rule.the_row → IsSync Given.the_row → IsSync Item.the_row
item t r g = variants_sync Item.enum (
  (name, tt),
  (
    (name, tt),
    (
      (name, (Vec-sync Name.the_row name, tt)),
      (
        (name, (search sendable depth 20, (search sendable depth 20, tt))),
        (
          (name, (search sendable depth 20, (Vec-sync Name.the_row name, (search (sendable, name) depth 20, (search sendable depth 20, tt))))),
          (
            (name, (Vec-sync Name.the_row name, (t, tt))),
            (
              (name, (Vec-sync Name.the_row name, (r, tt))),
              tt,
            ),
          ),
        ),
      ),
    ),
  ),
)

spec : IsSync Item.the_row → IsSync Spec.the_row
spec i = declared_sync Spec.the_type (name, (Vec-sync Item.the_row i, (search sendable, tt)))

bodies : IsSync BodyIndices.the_row
bodies = search (sendable, Vec-sync) depth 20

word : IsSync usize
word = search sendable

pub checked : IsSync Term.the_row → IsSync Rule.the_row → IsSync Given.the_row → IsSync Signature.the_row → IsSync Numbering.the_row → IsSync Checked.the_row
checked t r g s n = declared_sync Checked.the_type (spec (item t r g), (s, (n, (bodies, (word, tt)))))
