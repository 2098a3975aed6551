-- Free. Where the tokens of a text are, and how great their numbers are.
use Rattle.std.proofs.Common.{◌≡◌, ℕ, ◌+◌, ◌<◌, List, [], ◌∷◌, ◌++◌, length, length-append, ap, subst, inl, ⊎_elim, arith}
use Rattle.std.proofs.lemmas.List.Elements.{All-nil, All-cons}
use Rattle.std.proofs.str.Laws.{order}
use Rattle.std.specs.Prelude.{All}
use Rattle.asm_syntax.specs.declared.token.Kind.{Kind}
use Rattle.asm_syntax.specs.declared.token.Token.{Token}
use Rattle.asm_syntax.specs.Tokens.{max_number, Begins, AreTokens, IsBadNumber, Next, Spells, HasNumberInRange, StandInOrder}
use Rattle.asm_syntax.proofs.TokenLengths.{no_empty_token}

number_in_range : (t : Token) (behind : List ℕ) → ¬ IsBadNumber t.kind behind → HasNumberInRange t
number_in_range t behind good n e =
    let G : Kind → Type 0 = λ k. ¬ IsBadNumber k behind in
    ⊎_elim (λ above. absurd (subst G e good (inl above))) (λ within. within) (order max_number n)

all_in_range : (at : ℕ) (text : List ℕ) (ts : List Token) (end : ℕ) (rest : List ℕ) → Begins at text ts end rest → All HasNumberInRange ts
all_in_range at text [] end rest begins = All-nil HasNumberInRange
all_in_range at text (t ∷ ts) end rest (behind, next, good, begins) = All-cons HasNumberInRange t ts (number_in_range t behind good) (all_in_range t.end behind ts end rest begins)

pub numbers_in_range : (text : List ℕ) (ts : List Token) → AreTokens text ts → All HasNumberInRange ts
numbers_in_range text ts (_, end, rest, begins, _) = all_in_range 0 text ts end rest begins

some_bytes : (piece : List ℕ) (k : Kind) → Spells piece k → 0 < length piece
some_bytes [] k spelled = absurd (no_empty_token k spelled)
some_bytes (b ∷ bytes) k spelled = omega arith

next_size : (at : ℕ) (text : List ℕ) (t : Token) (behind : List ℕ) (next : Next at text t behind) → length text ≡ length next.gap + length next.piece + length behind
next_size at text t behind next =
    let whole = ap length next.whole in
    let both = length-append (next.gap ++ next.piece) behind in
    let first = length-append next.gap next.piece in
    omega (arith, whole, both, first)

in_order : (at : ℕ) (text : List ℕ) (ts : List Token) (end : ℕ) (rest : List ℕ) (total : ℕ) → at + length text ≡ total → Begins at text ts end rest → StandInOrder at ts total
in_order at text [] end rest total size begins = omega (arith, size)
in_order at text (t ∷ ts) end rest total size (behind, next, good, begins) =
    let sizes = next_size at text t behind next in
    let start = next.start in
    let stop = next.end in
    let some = some_bytes next.piece t.kind next.spelled in
    (omega (arith, start), omega (arith, stop, some), in_order t.end behind ts end rest total (omega (arith, size, sizes, start, stop)) begins)

pub tokens_in_order : (text : List ℕ) (ts : List Token) → AreTokens text ts → StandInOrder 0 ts (length text)
tokens_in_order text ts (_, end, rest, begins, _) = in_order 0 text ts end rest (length text) (omega arith) begins
