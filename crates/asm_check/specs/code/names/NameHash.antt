-- Bridge to the code. The key under which the names of a specification are hashed.
--     declared_bytes items     the bytes of all names that are declared, each with a 0 after it,
--                              which is in no name
--     hasher_under digest      a hasher that has been given the first 16 bytes of a digest
use Rattle.std.specs.Prelude.{ℕ, ◌+◌, List, [], ◌∷◌, ◌++◌, flat_map, slice_index}
use Rattle.std.specs.Hash as fed
use Rattle.std.specs.Hash.DefaultHasher as sip
use Rattle.std.specs.Int.{from_le_bytes, w64}
use Rattle.std.specs.List.{fold}
use Rattle.std.specs.declared.hash.DefaultHasher.{DefaultHasher}
use Rattle.asm_syntax.specs.SourceTree.{Item}
use Rattle.asm_check.specs.Names.{Text, Declaration, declarations_of}

abbrev pub name_bytes : Text → List ℕ
name_bytes x = x ++ 0 ∷ []

abbrev pub item_bytes : Item → List ℕ
item_bytes item = flat_map (λ (d : Declaration). name_bytes d.name.text) (declarations_of 0 item)

abbrev pub declared_bytes : List Item → List ℕ
declared_bytes items = flat_map item_bytes items

abbrev pub eight_from : ℕ → List ℕ → List ℕ
eight_from i bytes =
    slice_index bytes i ∷ slice_index bytes (i + 1) ∷ slice_index bytes (i + 2) ∷ slice_index bytes (i + 3)
    ∷ slice_index bytes (i + 4) ∷ slice_index bytes (i + 5) ∷ slice_index bytes (i + 6) ∷ slice_index bytes (i + 7) ∷ []

abbrev pub hasher_under : List ℕ → DefaultHasher
hasher_under digest = fold sip.write (fold sip.write sip.initial (fed.u64 (from_le_bytes w64 (eight_from 0 digest)))) (fed.u64 (from_le_bytes w64 (eight_from 8 digest)))
