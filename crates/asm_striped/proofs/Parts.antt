-- Free. The parts of all seats, added up.
use Rattle.std.proofs.Common.{◌≡◌, ◌≢◌, ℕ, zero, suc, ◌+◌, ◌≤◌, List, [], ◌∷◌, ◌++◌, set, sym, ap, ◌∙◌, arith}
use mathlib.Core.Option.{some, some-injective, some-ne-none}
use lib.ListN.{get_elem?}
use Rattle.atomic_table.proofs.Lists.{set_else}
use Rattle.asm_striped.specs.declared.board.Known.{Known}
use Rattle.asm_striped.specs.code.Board.{total_parts, spent}

pub total_set : (vs : List Known) (id : ℕ) (v w : Known) → get_elem? vs id ≡ some v → total_parts (set vs id w) + v.parts ≡ total_parts vs + w.parts
total_set [] id v w e = absurd (some-ne-none v (sym e))
total_set (x ∷ xs) zero v w e = let is : x.parts ≡ v.parts = ap (λ (u : Known). u.parts) (some-injective x v e) in omega arith
total_set (x ∷ xs) (suc id) v w e = let r = total_set xs id v w e in omega arith

pub total_snoc : (vs : List Known) (w : Known) → total_parts (vs ++ w ∷ []) ≡ total_parts vs + w.parts
total_snoc [] w = omega arith
total_snoc (x ∷ xs) w = let r = total_snoc xs w in omega arith

share_of : (vs : List Known) (k : ℕ) (v : Known) → get_elem? vs k ≡ some v → v.parts ≤ total_parts vs
share_of [] k v e = absurd (some-ne-none v (sym e))
share_of (x ∷ xs) zero v e = let is : x.parts ≡ v.parts = ap (λ (u : Known). u.parts) (some-injective x v e) in omega arith
share_of (x ∷ xs) (suc k) v e = let r = share_of xs k v e in omega arith

-- if one seat has all parts, no other has any
pub others_have_none : (vs : List Known) (id : ℕ) (v : Known) (k : ℕ) (u : Known) → get_elem? vs id ≡ some v → total_parts vs ≡ v.parts → k ≢ id → get_elem? vs k ≡ some u → u.parts ≡ 0
others_have_none vs id v k u at all apart there =
    let rest = total_set vs id v spent at in
    let theirs = share_of (set vs id spent) k u (set_else vs id k spent apart ∙ there) in
    omega arith
