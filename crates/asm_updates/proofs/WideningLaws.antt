-- Free. Ranges under `widen` are a semilattice: a range absorbs itself, and neither order nor
-- grouping matters.
use Rattle.std.proofs.Common.{◌≡◌, ◌<◌, ◌≤◌, min, max, Option, Some, None, refl, ap, arith, ⊎_elim}
use Rattle.std.proofs.lemmas.Bool.{cases_lt}
use Rattle.asm_state.specs.declared.value.Value.{Value}
use Rattle.asm_state.specs.code.Codes.{code_of}
use Rattle.asm_state.specs.Updates.{Range, lesser, greater, widen}
use Rattle.asm_state.proofs.Codes.{codes_apart}
use Rattle.asm_updates.proofs.CodeOrder.{lesser-first, lesser-second, greater-first, greater-second}

pub code_of-lesser : (a b : Value) → code_of (lesser a b) ≡ min (code_of a) (code_of b)
code_of-lesser a b =
    ⊎_elim
    (λ (less : code_of b < code_of a). let is : code_of b ≡ code_of (lesser a b) = ap code_of (lesser-second a b less) in omega arith)
    (λ (more : code_of a ≤ code_of b). let is : code_of a ≡ code_of (lesser a b) = ap code_of (lesser-first a b more) in omega arith)
    (cases_lt (code_of b) (code_of a))

pub code_of-greater : (a b : Value) → code_of (greater a b) ≡ max (code_of a) (code_of b)
code_of-greater a b =
    ⊎_elim
    (λ (less : code_of a < code_of b). let is : code_of b ≡ code_of (greater a b) = ap code_of (greater-second a b less) in omega arith)
    (λ (more : code_of b ≤ code_of a). let is : code_of a ≡ code_of (greater a b) = ap code_of (greater-first a b more) in omega arith)
    (cases_lt (code_of a) (code_of b))

lesser-swap : (a b : Value) → lesser a b ≡ lesser b a
lesser-swap a b = codes_apart (lesser a b) (lesser b a) (let l = code_of-lesser a b in let r = code_of-lesser b a in omega arith)

greater-swap : (a b : Value) → greater a b ≡ greater b a
greater-swap a b = codes_apart (greater a b) (greater b a) (let l = code_of-greater a b in let r = code_of-greater b a in omega arith)

lesser-group : (a b c : Value) → lesser (lesser a b) c ≡ lesser a (lesser b c)
lesser-group a b c =
    codes_apart (lesser (lesser a b) c) (lesser a (lesser b c))
    (let i = code_of-lesser a b in let j = code_of-lesser (lesser a b) c in let k = code_of-lesser b c in let l = code_of-lesser a (lesser b c) in omega arith)

greater-group : (a b c : Value) → greater (greater a b) c ≡ greater a (greater b c)
greater-group a b c =
    codes_apart (greater (greater a b) c) (greater a (greater b c))
    (let i = code_of-greater a b in let j = code_of-greater (greater a b) c in let k = code_of-greater b c in let l = code_of-greater a (greater b c) in omega arith)

lesser-itself : (a : Value) → lesser a a ≡ a
lesser-itself a = codes_apart (lesser a a) a (let i = code_of-lesser a a in omega arith)

greater-itself : (a : Value) → greater a a ≡ a
greater-itself a = codes_apart (greater a a) a (let i = code_of-greater a a in omega arith)

pub widen-swap : (r s : Option Range) → widen r s ≡ widen s r
widen-swap None None = refl
widen-swap None (Some s) = refl
widen-swap (Some r) None = refl
widen-swap (Some r) (Some s) = λ i. Some (record { least = lesser-swap r.least s.least i; greatest = greater-swap r.greatest s.greatest i })

pub widen-group : (r s t : Option Range) → widen (widen r s) t ≡ widen r (widen s t)
widen-group None s t = refl
widen-group (Some r) None t = refl
widen-group (Some r) (Some s) None = refl
widen-group (Some r) (Some s) (Some t) = λ i. Some (record { least = lesser-group r.least s.least t.least i; greatest = greater-group r.greatest s.greatest t.greatest i })

pub widen-itself : (r : Option Range) → widen r r ≡ r
widen-itself None = refl
widen-itself (Some r) = λ i. Some (record { least = lesser-itself r.least i; greatest = greater-itself r.greatest i })
