-- Definition. What is read of a text.
--     bytes_of contents others name    the bytes of the file with this name, or these if there is
--                                      no name
--     IsFront known most text          known bytes, or `most` of them if there are more
use Rattle.std.specs.Prelude.{◌≡◌, ℕ, List, Option, None, Some, IfSome, take}

abbrev pub bytes_of : (contents : List ℕ → Option (List ℕ)) → Option (List ℕ) → Option (List ℕ) → Option (List ℕ)
bytes_of contents others None = others
bytes_of contents others (Some name) = contents name

abbrev pub IsFront : Option (List ℕ) → ℕ → List ℕ → Type 0
IsFront known most text = IfSome known (λ bytes. text ≡ take most bytes)
