-- Definition. The line that shows how a run is made by `asm`.
--     is_plain byte                whether a POSIX shell takes the byte for itself, wherever it is
--     shell_word text              the word of a shell for these bytes: they alone if all of them
--                                  are plain, and else between apostrophes
--     file_word name               the word for a file's name, which never begins with a hyphen
--     command steps turns name     the line; 1,000 turns and standard input aren't named
use Rattle.std.specs.Prelude.{ℕ, Bool, ◌==◌, cond, List, [], ◌∷◌, ◌++◌, codes, decimal}
use Rattle.std.specs.List.{flat_map, list_all, list_any}
use Rattle.std.specs.Str.{bytes_eq}

abbrev pub plain_bytes : List ℕ
plain_bytes = codes "abcdefghijklmnopqrstuvwxyzABCDEFGHIJKLMNOPQRSTUVWXYZ0123456789_./,:=@%+-"

abbrev pub is_plain : ℕ → Bool
is_plain byte = list_any (λ plain. plain == byte) plain_bytes

-- An apostrophe, byte 39, ends the quoted part, stands behind a backslash, and begins the next part.
abbrev pub quoted_byte : ℕ → List ℕ
quoted_byte byte = cond (byte == 39) (codes "'\\''") (byte ∷ [])

abbrev pub quoted : List ℕ → List ℕ
quoted text = 39 ∷ (flat_map quoted_byte text ++ 39 ∷ [])

abbrev pub shell_word : List ℕ → List ℕ
shell_word [] = quoted []
shell_word (byte ∷ text) = cond (list_all is_plain (byte ∷ text)) (byte ∷ text) (quoted (byte ∷ text))

-- a name that begins with a hyphen would be taken for an option
abbrev pub guard_of : List ℕ → List ℕ
guard_of [] = []
guard_of (byte ∷ name) = cond (byte == 45) (codes "./") []

abbrev pub file_word : List ℕ → List ℕ
file_word name = shell_word (guard_of name ++ name)

abbrev pub turns_words : (turns : ℕ) → List ℕ
turns_words turns = cond (turns == 1000) [] (codes " --turns " ++ decimal turns)

-- `-` is standard input
abbrev pub file_words : (name : List ℕ) → List ℕ
file_words name = cond (bytes_eq name (codes "-")) [] (codes " " ++ file_word name)

abbrev pub command : (steps turns : ℕ) → (name : List ℕ) → List ℕ
command steps turns name = codes "asm --steps " ++ (decimal steps ++ (codes " --script THIS" ++ (turns_words turns ++ file_words name)))
