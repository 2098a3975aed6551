-- Free. States packed in little memory.
--     nodes_count, node_at, begin_next      how many there are, what each is, and where its
--                                           contents begin
--     kept_within, kept_last                they lie within the room
--     nodes_junk, kept_junk                 what is after the last of them doesn't matter
--     nodes_push, kept_push                 one more
--     contents_byte, contents_word          one of the contents
--     junk_kept, junk_same                  a room whose end was cut off and grew again has the
--                                           same nodes
--     pushed_kept, pushed                   and one more if the growth is that of its contents
use Rattle.std.proofs.Common.{◌≡◌, ℕ, zero, suc, ◌+◌, ◌-◌, ◌<◌, ◌≤◌, List, [], ◌∷◌, ◌++◌, take, drop, length, get_or, refl, sym, ap, subst, ◌∙◌, arith}
use Rattle.std.specs.Prelude.{slice_get, Some, Result, Ok, Err, OnErr}
use Rattle.std.proofs.lemmas.List.{drop-take, take-append-le, drop-append-le, drop_at, length-take-le, take_all, length-drop, take-append-drop, length-append}
use Rattle.std.proofs.lemmas.Option.{slice_get-get_or}
use Rattle.asm_state.specs.declared.value.Value.{Value}
use Rattle.asm_explore.specs.code.ByteValues.{content_of_byte}
use Rattle.asm_explore.specs.code.PackedNodes.{Node, between, contents_of, nodes_from, IsFront, ArePacked, begin_of}
use Rattle.asm_explore.specs.declared.states.nodes.NodeRecord.{NodeRecord}

pub nodes_count : (bytes : List ℕ) (words : List Value) (b w : ℕ) (ls : List NodeRecord) → length (nodes_from bytes words b w ls) ≡ length ls
nodes_count bytes words b w [] = refl
nodes_count bytes words b w (l ∷ ls) = ap suc (nodes_count bytes words l.bytes_end l.words_end ls)

abbrev pub node_of : (bytes : List ℕ) (words : List Value) → (begin : ℕ × ℕ) → NodeRecord → Node
node_of bytes words begin l = record { state = contents_of (between bytes begin.0 l.bytes_end) (between words begin.1 l.words_end); from = l.from; depth = l.depth }

pub node_at : (bytes : List ℕ) (words : List Value) (b w : ℕ) (ls : List NodeRecord) (i : ℕ) (n : Node) (d : NodeRecord) → slice_get (nodes_from bytes words b w ls) i ≡ Some n
    → n ≡ node_of bytes words (begin_of b w ls i) (get_or ls i d)
node_at bytes words b w [] i n d there = cc
node_at bytes words b w (l ∷ ls) zero n d there = cc
node_at bytes words b w (l ∷ ls) (suc i) n d there = node_at bytes words l.bytes_end l.words_end ls i n d there

pub begin_next : (b w : ℕ) (ls : List NodeRecord) (i : ℕ) (d : NodeRecord) → i < length ls → begin_of b w ls (suc i) ≡ ((get_or ls i d).bytes_end, (get_or ls i d).words_end)
begin_next b w [] i d low = absurd (omega (arith, low))
begin_next b w (l ∷ []) zero d low = refl
begin_next b w (l ∷ m ∷ ls) zero d low = refl
begin_next b w (l ∷ ls) (suc i) d low = begin_next l.bytes_end l.words_end ls i d (omega (arith, low))

pub record IsWithin (bytes words : ℕ) (begin : ℕ × ℕ) (l : NodeRecord) : Type 0 where
  pub bytes_rise : begin.0 ≤ l.bytes_end
  pub words_rise : begin.1 ≤ l.words_end
  pub bytes_fit : l.bytes_end ≤ bytes
  pub words_fit : l.words_end ≤ words

-- where the last of them ends
pub kept_first : (bytes words b w : ℕ) (ls : List NodeRecord) → ArePacked bytes words b w ls → (b ≤ bytes) × (w ≤ words)
kept_first bytes words b w [] kept = kept
kept_first bytes words b w (l ∷ ls) kept =
    let rest : (l.bytes_end ≤ bytes) × (l.words_end ≤ words) = kept_first bytes words l.bytes_end l.words_end ls kept.2 in
    (omega (arith, kept.0, rest.0), omega (arith, kept.1, rest.1))

pub kept_within : (bytes words b w : ℕ) (ls : List NodeRecord) (i : ℕ) (d : NodeRecord) → ArePacked bytes words b w ls → i < length ls
    → IsWithin bytes words (begin_of b w ls i) (get_or ls i d)
kept_within bytes words b w [] i d kept low = absurd (omega (arith, low))
kept_within bytes words b w (l ∷ ls) zero d kept low =
    let rest : (l.bytes_end ≤ bytes) × (l.words_end ≤ words) = kept_first bytes words l.bytes_end l.words_end ls kept.2 in
    record { bytes_rise = kept.0; words_rise = kept.1; bytes_fit = rest.0; words_fit = rest.1 }
kept_within bytes words b w (l ∷ ls) (suc i) d kept low = kept_within bytes words l.bytes_end l.words_end ls i d kept.2 (omega (arith, low))

pub kept_last : (bytes words b w : ℕ) (ls : List NodeRecord) → ArePacked bytes words b w ls
    → let last = begin_of b w ls (length ls) in (last.0 ≤ bytes) × (last.1 ≤ words) × ArePacked last.0 last.1 b w ls
kept_last bytes words b w [] kept = (kept.0, kept.1, (omega arith, omega arith))
kept_last bytes words b w (l ∷ ls) kept =
    let rest = kept_last bytes words l.bytes_end l.words_end ls kept.2 in
    (rest.0, rest.1, (kept.0, kept.1, rest.2))

-- more room
pub kept_more : (bytes words more_bytes more_words b w : ℕ) (ls : List NodeRecord) → bytes ≤ more_bytes → words ≤ more_words → ArePacked bytes words b w ls → ArePacked more_bytes more_words b w ls
kept_more bytes words more_bytes more_words b w [] first then kept = (omega (arith, kept.0, first), omega (arith, kept.1, then))
kept_more bytes words more_bytes more_words b w (l ∷ ls) first then kept = (kept.0, kept.1, kept_more bytes words more_bytes more_words l.bytes_end l.words_end ls first then kept.2)

take_take : {X : Type 0} (n m : ℕ) (xs : List X) → n ≤ m → take n (take m xs) ≡ take n xs
take_take zero m xs low = refl
take_take (suc n) zero xs low = absurd (omega (arith, low))
take_take (suc n) (suc m) [] low = refl
take_take (suc n) (suc m) (x ∷ xs) low = ap (λ ys. x ∷ ys) (take_take n m xs (omega (arith, low)))

-- what is up to a place, whatever is after it
pub between_same : {X : Type 0} (xs more : List X) (m start end : ℕ) → m ≤ length xs → start ≤ end → end ≤ m → between (take m xs ++ more) start end ≡ between xs start end
between_same xs more m start end fits rise low =
    let size : length (take m xs) ≡ m = length-take-le m xs fits in
    let split : m ≡ start + (m - start) = omega (arith, rise, low) in
    ap (take (end - start)) (drop-append-le start (take m xs) more (omega (arith, size, rise, low)))
    ∙ take-append-le (end - start) (drop start (take m xs)) more (omega (arith, length-drop start (take m xs), size, low))
    ∙ ap (λ k. take (end - start) (drop start (take k xs))) split
    ∙ ap (take (end - start)) (drop-take start (m - start) xs)
    ∙ take_take (end - start) (m - start) (drop start xs) (omega (arith, low))

-- what is added after it
pub between_new : {X : Type 0} (xs more : List X) (m end : ℕ) → m ≤ length xs → end ≡ m + length more → between (take m xs ++ more) m end ≡ more
between_new xs more m end fits is =
    let count : end - m ≡ length more = omega (arith, is) in
    ap (λ ys. take (end - m) ys) (drop_at (take m xs) more m (length-take-le m xs fits)) ∙ take_all (end - m) more (omega (arith, count))

-- up to these places two rooms have the same
pub nodes_same : (bytes more_bytes : List ℕ) (words more_words : List Value) (m k b w : ℕ) (ls : List NodeRecord)
    → m ≤ length bytes → k ≤ length words → ArePacked m k b w ls
    → nodes_from (take m bytes ++ more_bytes) (take k words ++ more_words) b w ls ≡ nodes_from bytes words b w ls
nodes_same bytes more_bytes words more_words m k b w [] fits fit kept = refl
nodes_same bytes more_bytes words more_words m k b w (l ∷ ls) fits fit kept =
    let rest : (l.bytes_end ≤ m) × (l.words_end ≤ k) = kept_first m k l.bytes_end l.words_end ls kept.2 in
    let first = between_same bytes more_bytes m b l.bytes_end fits kept.0 rest.0 in
    let then = between_same words more_words k w l.words_end fit kept.1 rest.1 in
    rw (first, then) (ap (λ ns. record { state = contents_of (between bytes b l.bytes_end) (between words w l.words_end); from = l.from; depth = l.depth } ∷ ns)
    (nodes_same bytes more_bytes words more_words m k l.bytes_end l.words_end ls fits fit kept.2))

pub nodes_push : (bytes : List ℕ) (words : List Value) (b w : ℕ) (ls : List NodeRecord) (l : NodeRecord)
    → nodes_from bytes words b w (ls ++ l ∷ []) ≡ nodes_from bytes words b w ls ++ node_of bytes words (begin_of b w ls (length ls)) l ∷ []
nodes_push bytes words b w [] l = refl
nodes_push bytes words b w (k ∷ ls) l =
    ap (λ ns. node_of bytes words (b, w) k ∷ ns) (nodes_push bytes words k.bytes_end k.words_end ls l)

pub kept_push : (bytes words b w : ℕ) (ls : List NodeRecord) (l : NodeRecord) → ArePacked (begin_of b w ls (length ls)).0 (begin_of b w ls (length ls)).1 b w ls
    → IsWithin bytes words (begin_of b w ls (length ls)) l → ArePacked bytes words b w (ls ++ l ∷ [])
kept_push bytes words b w [] l kept within = (within.bytes_rise, within.words_rise, (within.bytes_fit, within.words_fit))
kept_push bytes words b w (k ∷ ls) l kept within = (kept.0, kept.1, kept_push bytes words k.bytes_end k.words_end ls l kept.2 within)

pub contents_byte : (bytes : List ℕ) (words : List Value) (i e : ℕ) (d : Value) → i < length bytes → get_or (contents_of bytes words) i d ≡ content_of_byte (get_or bytes i e)
contents_byte [] words i e d low = absurd (omega (arith, low))
contents_byte (b ∷ bytes) words zero e d low = refl
contents_byte (b ∷ bytes) words (suc i) e d low = contents_byte bytes words i e d (omega (arith, low))

pub contents_word : (bytes : List ℕ) (words : List Value) (i : ℕ) (d : Value) → get_or (contents_of bytes words) (length bytes + i) d ≡ get_or words i d
contents_word [] words i d = ap (λ k. get_or words k d) (omega arith)
contents_word (b ∷ bytes) words i d =
    let next : length (b ∷ bytes) + i ≡ suc (length bytes + i) = omega arith in
    ap (λ k. get_or (contents_of (b ∷ bytes) words) k d) next ∙ contents_word bytes words i d

pub contents_count : (bytes : List ℕ) (words : List Value) → length (contents_of bytes words) ≡ length bytes + length words
contents_count [] words = omega arith
contents_count (b ∷ bytes) words = omega (arith, contents_count bytes words)

pub some_at : (nodes : List Node) (i : ℕ) → i < length nodes → (n : Node) × (slice_get nodes i ≡ Some n)
some_at [] i low = absurd (omega (arith, low))
some_at (m ∷ nodes) i low = (get_or (m ∷ nodes) i m, slice_get-get_or (m ∷ nodes) i m low)

pub get_or_drop : {X : Type 0} (xs : List X) (first n : ℕ) (d : X) → first ≤ n → get_or (drop first xs) (n - first) d ≡ get_or xs n d
get_or_drop xs zero n d low = ap (λ k. get_or xs k d) (omega arith)
get_or_drop [] (suc first) n d low = refl
get_or_drop (x ∷ xs) (suc first) zero d low = absurd (omega (arith, low))
get_or_drop (x ∷ xs) (suc first) (suc n) d low =
    let less : suc n - suc first ≡ n - first = omega arith in
    ap (λ k. get_or (drop first xs) k d) less ∙ get_or_drop xs first n d (omega (arith, low))

module _ (bytes new_bytes more_bytes : List ℕ) (words new_words more_words : List Value) (ls : List NodeRecord) (begin : ℕ × ℕ) (is : begin ≡ begin_of 0 0 ls (length ls))
    (kept : ArePacked (length bytes) (length words) 0 0 ls) (bytes_are : new_bytes ≡ take begin.0 bytes ++ more_bytes) (words_are : new_words ≡ take begin.1 words ++ more_words) where
  last : (begin.0 ≤ length bytes) × (begin.1 ≤ length words) × ArePacked begin.0 begin.1 0 0 ls
  last = subst (λ b. (b.0 ≤ length bytes) × (b.1 ≤ length words) × ArePacked b.0 b.1 0 0 ls) (sym is) (kept_last (length bytes) (length words) 0 0 ls kept)

  pub bytes_size : length new_bytes ≡ begin.0 + length more_bytes
  bytes_size = ap length bytes_are ∙ length-append (take begin.0 bytes) more_bytes ∙ ap (λ n. n + length more_bytes) (length-take-le begin.0 bytes last.0)

  words_size : length new_words ≡ begin.1 + length more_words
  words_size = ap length words_are ∙ length-append (take begin.1 words) more_words ∙ ap (λ n. n + length more_words) (length-take-le begin.1 words last.1)

  pub junk_kept : ArePacked (length new_bytes) (length new_words) 0 0 ls
  junk_kept = kept_more begin.0 begin.1 (length new_bytes) (length new_words) 0 0 ls (omega (arith, bytes_size)) (omega (arith, words_size)) last.2

  pub junk_same : nodes_from new_bytes new_words 0 0 ls ≡ nodes_from bytes words 0 0 ls
  junk_same = ap (λ bs. nodes_from bs new_words 0 0 ls) bytes_are ∙ ap (λ ws. nodes_from (take begin.0 bytes ++ more_bytes) ws 0 0 ls) words_are
      ∙ nodes_same bytes more_bytes words more_words begin.0 begin.1 0 0 ls last.0 last.1 last.2

  pub pushed_kept : (l : NodeRecord) → l.bytes_end ≡ length new_bytes → l.words_end ≡ length new_words → ArePacked (length new_bytes) (length new_words) 0 0 (ls ++ l ∷ [])
  pushed_kept l bytes_end words_end =
      kept_push (length new_bytes) (length new_words) 0 0 ls l (subst (λ b. ArePacked b.0 b.1 0 0 ls) is last.2)
      (subst (λ b. IsWithin (length new_bytes) (length new_words) b l) is
      (record { bytes_rise = omega (arith, bytes_size, bytes_end); words_rise = omega (arith, words_size, words_end); bytes_fit = omega (arith, bytes_end); words_fit = omega (arith, words_end) }))

  pub pushed : (l : NodeRecord) (state : List Value) → l.bytes_end ≡ length new_bytes → l.words_end ≡ length new_words → IsFront state more_bytes → more_words ≡ drop (length more_bytes) state
      → nodes_from new_bytes new_words 0 0 (ls ++ l ∷ []) ≡ nodes_from bytes words 0 0 ls ++ record { state = state; from = l.from; depth = l.depth } ∷ []
  pushed l state bytes_end words_end front back =
      nodes_push new_bytes new_words 0 0 ls l
      ∙ ap (λ ns. ns ++ node_of new_bytes new_words (begin_of 0 0 ls (length ls)) l ∷ []) junk_same
      ∙ ap (λ xs. nodes_from bytes words 0 0 ls ++ record { state = xs; from = l.from; depth = l.depth } ∷ [])
      (ap (λ b. contents_of (between new_bytes b.0 l.bytes_end) (between new_words b.1 l.words_end)) (sym is)
      ∙ ap (λ bs. contents_of bs (between new_words begin.1 l.words_end)) here_bytes ∙ ap (contents_of more_bytes) here_words
      ∙ ap (λ vs. vs ++ more_words) front ∙ ap (λ ws. take (length more_bytes) state ++ ws) back ∙ take-append-drop (length more_bytes) state)
    where
      here_bytes : between new_bytes begin.0 l.bytes_end ≡ more_bytes
      here_bytes = ap (λ bs. between bs begin.0 l.bytes_end) bytes_are ∙ between_new bytes more_bytes begin.0 l.bytes_end last.0 (bytes_end ∙ bytes_size)

      here_words : between new_words begin.1 l.words_end ≡ more_words
      here_words = ap (λ ws. between ws begin.1 l.words_end) words_are ∙ between_new words more_words begin.1 l.words_end last.1 (words_end ∙ words_size)

pub on_err : {X E : Type 0} {P : Type 0} (r : Result X E) → P → OnErr r P
on_err (Ok x) p = tt
on_err (Err e) p = p
