-- Bridge to the code. States that were reached, packed in little memory: of each the first contents
-- as bytes, and the others as words.
--     Node                     a state, the number of the node that the step to it began in, and
--                              the number of that step, or 0
--     between xs start end     what is between two places
--     nodes_from               the nodes whose contents lie from two places on
--     begin_of                 where the contents of the node with a number begin
--     ArePacked                the contents of each are after those of the one before
use Rattle.std.specs.Prelude.{◌≡◌, ◌≤◌, ℕ, zero, suc, ◌-◌, List, [], ◌∷◌, ◌++◌, map, take, drop, length}
use Rattle.asm_state.specs.declared.value.Value.{Value}
use Rattle.asm_explore.specs.code.ByteValues.{content_of_byte}
use Rattle.asm_explore.specs.declared.states.nodes.NodeRecord.{NodeRecord}

pub record Node : Type 0 where
  pub state : List Value
  pub from : ℕ
  pub depth : ℕ

abbrev pub between : {X : Type 0} → List X → (start end : ℕ) → List X
between xs start end = take (end - start) (drop start xs)

abbrev pub contents_of : (bytes : List ℕ) (words : List Value) → List Value
contents_of bytes words = map content_of_byte bytes ++ words

abbrev pub nodes_from : (bytes : List ℕ) (words : List Value) → (b w : ℕ) → List NodeRecord → List Node
nodes_from bytes words b w [] = []
nodes_from bytes words b w (l ∷ ls) =
    record { state = contents_of (between bytes b l.bytes_end) (between words w l.words_end); from = l.from; depth = l.depth }
    ∷ nodes_from bytes words l.bytes_end l.words_end ls

abbrev pub ArePacked : (bytes words : ℕ) → (b w : ℕ) → List NodeRecord → Type 0
ArePacked bytes words b w [] = (b ≤ bytes) × (w ≤ words)
ArePacked bytes words b w (l ∷ ls) = (b ≤ l.bytes_end) × (w ≤ l.words_end) × ArePacked bytes words l.bytes_end l.words_end ls

abbrev pub begin_of : (b w : ℕ) → List NodeRecord → (number : ℕ) → ℕ × ℕ
begin_of b w ls zero = (b, w)
begin_of b w [] (suc i) = (b, w)
begin_of b w (l ∷ ls) (suc i) = begin_of l.bytes_end l.words_end ls i

-- a list with more after it
abbrev pub GrowsBy : {X : Type 0} → (List X → Type 0) → (old new : List X) → Type 0
GrowsBy {X} P old new = (more : List X) × (new ≡ old ++ more) × P more

-- bytes that stand for the first contents
abbrev pub IsFront : List Value → List ℕ → Type 0
IsFront state bytes = map content_of_byte bytes ≡ take (length bytes) state
