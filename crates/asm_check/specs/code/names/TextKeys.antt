-- Bridge to the code. Keys that are texts.
--     is_key x k         whether a key is this text
--     is_spelled x k     whether a search for the text x in an ordered set ends at a key of this
--                        text
use Rattle.std.specs.Prelude.{ℕ, Bool, List, nat_eq}
use Rattle.std.specs.Borrow.{Bor}
use Rattle.std.specs.Cmp.Lexicographic.{pointwise, slice_cmp}
use Rattle.std.specs.Ordering.{is_eq, nat_cmp}

abbrev pub is_key : List ℕ → Bor (List ℕ) → Bool
is_key x k = pointwise nat_eq x k.now

abbrev pub is_spelled : List ℕ → List ℕ → Bool
is_spelled x k = is_eq (slice_cmp nat_cmp x k)
