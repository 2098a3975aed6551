-- Bridge to the code. The steps that readers of tokens are made of.
use Rattle.std.specs.Prelude.{◌≡◌, ℕ, zero, suc, Bool, if◌then◌else◌, List, [], ◌∷◌, map, length, Option, Some, None, Result, Ok, Err}
use Rattle.std.proofs.Common.{Vec, Global}
use Rattle.asm_state.specs.declared.number.Number.{Number as WholeNumber}
use Rattle.asm_state.specs.Numbers.{number_with}
use Rattle.asm_syntax.specs.declared.input_error.InputError.{InputError}
use Rattle.asm_syntax.specs.declared.input_error.InputError.TheVariants.{Named}
use Rattle.asm_syntax.specs.declared.token.Kind.{Kind}
use Rattle.asm_syntax.specs.declared.token.Kind.TheVariants.{Name, Number, Symbol, Keyword}
use Rattle.asm_syntax.specs.declared.token.Token.{Token}
use Rattle.asm_reader.specs.declared.error.ReadError.{ReadError}
use Rattle.asm_reader.specs.declared.error.ReadError.TheVariants.{Unexpected, UnexpectedEnd, TooDeep}
use Rattle.asm_reader.specs.Kinds.{begins, alike, looked_up}
use Rattle.asm_reader.specs.Productions.{signed}

abbrev pub ReaderResult : Type 0 → Type 0
ReaderResult A = Result (A × List Token) ReadError

abbrev pub Reader : Type 0 → Type 0
Reader A = List Token → ReaderResult A

abbrev pub and_then : {A B : Type 0} → ReaderResult A → (A → Reader B) → ReaderResult B
and_then (Ok r) f = f r.0 r.1
and_then (Err e) f = Err e

-- why no part goes on with the next token
abbrev pub refusal : List Token → ReadError
refusal [] = UnexpectedEnd
refusal (t ∷ ts) = Unexpected t.start

abbrev pub refuse : {A : Type 0} → Reader A
refuse ts = Err (refusal ts)

-- the next token, if it is of this kind
abbrev pub expect : Kind → Reader Token
expect k [] = Err UnexpectedEnd
expect k (t ∷ ts) = if alike k t.kind then Ok (t, ts) else Err (Unexpected t.start)

-- The next token, if it is of this kind, which opens a level. n may open.
abbrev pub enter : ℕ → Kind → Reader Token
enter n k [] = Err UnexpectedEnd
enter zero k (t ∷ ts) = if alike k t.kind then Err (TooDeep t.start) else Err (Unexpected t.start)
enter (suc n) k (t ∷ ts) = if alike k t.kind then Ok (t, ts) else Err (Unexpected t.start)

-- what reads with one level less, if a level is left
abbrev pub below : {A : Type 0} → (ℕ → Reader A) → ℕ → Reader A
below f zero = refuse
below f (suc n) = f n

-- one reader after the other
abbrev pub pair_of : {A B : Type 0} → Reader A → Reader B → Reader (A × B)
pair_of f g ts = and_then (f ts) (λ x rest. and_then (g rest) (λ y after. Ok ((x, y), after)))

abbrev pub mapped : {A B : Type 0} → (A → B) → Reader A → Reader B
mapped h f ts = and_then (f ts) (λ x rest. Ok (h x, rest))

abbrev pub either_of : {A : Type 0} → List Kind → Reader A → Reader A → Reader A
either_of ks f g ts = if begins ks ts then f ts else g ts

abbrev pub option_of : {A : Type 0} → List Kind → Reader A → Reader (Option A)
option_of ks f ts = if begins ks ts then mapped Some f ts else Ok (None, ts)

-- Each turn takes a token, so the number of tokens bounds the turns.
unfoldable pub turns : {A : Type 0} → List Kind → Reader A → ℕ → Reader (List A)
turns ks f zero ts = Ok ([], ts)
turns ks f (suc n) ts = if begins ks ts then mapped (λ r. r.0 ∷ r.1) (pair_of f (turns ks f n)) ts else Ok ([], ts)

abbrev pub repeated_of : {A : Type 0} → List Kind → Reader A → Reader (List A)
repeated_of ks f ts = turns ks f (length ts) ts

-- What a function of the code returns is this result, seen as a tree by `view`, unless memory ran
-- out.
abbrev pub Reads : {A B : Type 0} → (B → A) → ReaderResult A → Result B (InputError ReadError) → List Token → Type 0
Reads view answer (Ok x) rest = answer ≡ Ok (view x, rest)
Reads view answer (Err e) rest = (reason : ReadError) → e ≡ Named reason → answer ≡ Err reason

-- the same of what is seen as itself
abbrev pub itself : {A : Type 0} → A → A
itself x = x

-- the elements of a `Vec`, each as it is seen
abbrev pub each_of : {A B : Type 0} → (B → A) → Vec B Global → List A
each_of view xs = map view xs.items

-- the number that a token stands for, or its negative
abbrev pub number_of_kind : (is_negative : Bool) → Kind → Option WholeNumber
number_of_kind is_negative (Number n) = number_with (signed is_negative n)
number_of_kind is_negative Name = None
number_of_kind is_negative (Symbol s) = None
number_of_kind is_negative (Keyword w) = None

abbrev pub found_at : {A : Type 0} → Option A → Token → List Token → ReaderResult A
found_at None t ts = Err (Unexpected t.start)
found_at (Some x) t ts = Ok (x, ts)

-- the next token, if it is a number, or its negative
abbrev pub number_at : (is_negative : Bool) → Reader WholeNumber
number_at is_negative [] = Err UnexpectedEnd
number_at is_negative (t ∷ ts) = found_at (number_of_kind is_negative t.kind) t ts

-- what the table has for the next token
abbrev pub choice_at : {A : Type 0} → List (Kind × A) → Reader A
choice_at table [] = Err UnexpectedEnd
choice_at table (t ∷ ts) = found_at (looked_up table t.kind) t ts

-- what comes after a token of this kind
abbrev pub past_of : {A : Type 0} → Kind → Reader A → Reader A
past_of k f = mapped (λ r. r.1) (pair_of (expect k) f)

-- what comes before a token of this kind
abbrev pub before_of : {A : Type 0} → Kind → Reader A → Reader A
before_of k f = mapped (λ r. r.0) (pair_of f (expect k))

-- once or more, as long as the next token is of one of these kinds
abbrev pub several_of : {A : Type 0} → List Kind → Reader A → Reader (List A)
several_of ks f = mapped (λ r. r.0 ∷ r.1) (pair_of f (repeated_of ks f))

-- with tokens of this kind between, and one at least
abbrev pub separated_of : {A : Type 0} → Kind → Reader A → Reader (List A)
separated_of k f = mapped (λ r. r.0 ∷ r.1) (pair_of f (repeated_of (k ∷ []) (past_of k f)))

-- after a token that opens a level, and before the one that closes it. n may open.
abbrev pub enclosed_of : {A : Type 0} → ℕ → (opener close : Kind) → Reader A → Reader (Token × A)
enclosed_of n k close f = mapped (λ r. (r.0, r.1.0)) (pair_of (enter n k) (pair_of f (expect close)))

abbrev pub between_of : {A : Type 0} → ℕ → (opener close : Kind) → Reader A → Reader A
between_of n k close f = mapped (λ r. r.1) (enclosed_of n k close f)

-- the same when neither token counts as a level
abbrev pub framed_of : {A : Type 0} → (opener close : Kind) → Reader A → Reader (Token × A)
framed_of k close f = mapped (λ r. (r.0, r.1.0)) (pair_of (expect k) (pair_of f (expect close)))

abbrev pub braced_of : {A : Type 0} → (opener close : Kind) → Reader A → Reader A
braced_of k close f = mapped (λ r. r.1) (framed_of k close f)
