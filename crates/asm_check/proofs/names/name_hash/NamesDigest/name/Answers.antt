use Rattle.std.proofs.Common.{[], ◌∷◌, ◌++◌, ap, subst, ◌∙◌, append_assoc}
use Rattle.sha2.specs.Hashers.{Holds256}
use Rattle.asm_check.proofs.names.name_hash.NamesDigest.name.Goals as goal

pub returns : goal.returns
returns c = λ m held.
    subst (Holds256 c.update-2.new.self) (append_assoc m c.as_bytes.result.now (0 ∷ []) ∙ ap (λ x. m ++ (x ++ 0 ∷ [])) c.as_bytes.ensures)
    (c.update-2.ensures (m ++ c.as_bytes.result.now) (c.update.ensures m held))
