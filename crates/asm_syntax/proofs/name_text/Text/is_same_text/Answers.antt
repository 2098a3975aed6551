use Rattle.asm_syntax.proofs.PackedKeys.{decided_alike}
use Rattle.asm_syntax.proofs.name_text.Text.is_same_text.Goals as goal

pub returns-then-bytes-le-MAX_SHORT_TEXT : goal.returns-then-bytes-le-MAX_SHORT_TEXT
returns-then-bytes-le-MAX_SHORT_TEXT c =
    decided_alike c.self.inside.bytes.items c.other.inside.bytes.items _ _ _ _ _ _ c.self.view_is c.other.view_is c.as_bytes-bytes.ensures c.as_bytes-others.ensures
    c.self.inside.keyed c.other.inside.keyed c.if-self-other.false c.if-bytes-others.false c.if-bytes-le-MAX_SHORT_TEXT.true c.self.inside.in_range c.other.inside.in_range
