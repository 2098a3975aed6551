use Rattle.std.proofs.Common.{rules, refl, arith, length}
use Rattle.std.proofs.Math.Nat.{pow-le-pow_right}
use Rattle.asm_syntax.proofs.PackedKeys.{digit_fits, kept_behind, packed_all}
use Rattle.asm_syntax.proofs.name_text.packed.Goals as goal

pub loop-rest-init : goal.loop-rest-init
loop-rest-init c =
    let room = pow-le-pow_right {n = 256} (omega arith) c.requires in
    record { key = refl; room = omega (arith, room); bytes = λ i. let fits = c.type_inv.bytes i in omega (arith, fits) }

pub overflow_mul-key : goal.overflow_mul-key
overflow_mul-key c =
    let known = c.loop-rest.invariant in
    let fits = digit_fits (length c.loop-rest.rest.now) c.loop-rest.key 0 c.in-len1-up.len_at_least (omega arith) known.room in
    omega (arith, fits)

pub overflow_add-key : goal.overflow_add-key
overflow_add-key c =
    let known = c.loop-rest.invariant in
    let fits = digit_fits (length c.loop-rest.rest.now) c.loop-rest.key _ c.in-len1-up.len_at_least (known.bytes 0) known.room in
    omega (arith, fits)

pub loop-rest-preserved : goal.loop-rest-preserved
loop-rest-preserved c =
    let known = c.loop-rest.invariant in
    let kept = kept_behind c.loop-rest.key _ _ c.loop-rest.rest.now c.in-len1-up.len_at_least (search rules) (known.key, (known.room, known.bytes)) in
    record { key = kept.0; room = kept.1.0; bytes = kept.1.1 }

pub returns : goal.returns
returns c =
    let known = c.loop-rest.invariant in
    packed_all c.loop-rest.key _ c.loop-rest.rest.now c.in_default.len_below known.key
