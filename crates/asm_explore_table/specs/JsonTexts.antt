-- Definition. Texts of JSON (RFC 8259), with no blanks between their tokens.
--     hex_digit n           the digit that stands for a number below 16
--     escaped byte          a byte as a string has it: a quote or a backslash behind a backslash,
--                           another printable one of ASCII itself, and else the escape of the
--                           character with this number
--     string_text text      a string
--     list_by text xs       a list of the texts that something gives
--     member_text member    a name with the text of its value
--     object_text members   an object
--     line_text members     an object in a line of its own
use Rattle.std.specs.Prelude.{ℕ, Bool, ◌+◌, ◌/◌, ◌%◌, cond, ◌&&◌, ◌||◌, ◌==◌, nat_le, nat_lt, List, [], ◌∷◌, ◌++◌, codes}
use Rattle.std.specs.List.{flat_map, join_by}

abbrev pub hex_digit : ℕ → ℕ
hex_digit n = cond (nat_lt n 10) (48 + n) (87 + n)

abbrev pub is_marked : (byte : ℕ) → Bool
is_marked byte = byte == 34 || byte == 92

abbrev pub is_printable : (byte : ℕ) → Bool
is_printable byte = nat_le 32 byte && nat_le byte 126

abbrev pub escaped : (byte : ℕ) → List ℕ
escaped byte =
    cond (is_marked byte) (92 ∷ byte ∷ [])
    (cond (is_printable byte) (byte ∷ [])
    (codes "\\u00" ++ (hex_digit (byte / 16) ∷ hex_digit (byte % 16) ∷ [])))

abbrev pub string_text : (text : List ℕ) → List ℕ
string_text text = codes "\"" ++ (flat_map escaped text ++ codes "\"")

abbrev pub list_by : {X : Type 0} → (text : X → List ℕ) → List X → List ℕ
list_by text xs = codes "[" ++ (join_by text (codes ",") xs ++ codes "]")

abbrev pub member_text : (List ℕ × List ℕ) → List ℕ
member_text (name, value) = string_text name ++ (codes ":" ++ value)

abbrev pub object_text : List (List ℕ × List ℕ) → List ℕ
object_text members = codes "{" ++ (join_by member_text (codes ",") members ++ codes "}")

abbrev pub line_text : List (List ℕ × List ℕ) → List ℕ
line_text members = object_text members ++ codes "\n"
