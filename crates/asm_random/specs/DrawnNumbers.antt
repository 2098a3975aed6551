-- Definition. The numbers that random runs draw.
--     drawn_bytes numbers        numbers of eight bytes each, the highest byte first
--     drawn_number seed run step path candidates
--                                the number that the run with this number from a seed draws in a
--                                step, at the path of a `choose` with so many candidates: the first
--                                eight bytes of the SHA-256 of these numbers, as a number, cut down
--                                to the candidates
use Rattle.std.specs.Prelude.{ℕ, ◌*◌, ◌/◌, ◌^◌, List, ◌∷◌, take}
use Rattle.std.specs.Int.{from_be_bytes, to_be_bytes, w64}
use Rattle.std.specs.List.{flat_map}
use Rattle.sha2.specs.Sha256.{sha256}

abbrev pub drawn_bytes : List ℕ → List ℕ
drawn_bytes numbers = flat_map (λ n. to_be_bytes w64 n) numbers

abbrev pub drawn_number : (seed run step : ℕ) → (path : List ℕ) → (candidates : ℕ) → ℕ
drawn_number seed run step path candidates =
    from_be_bytes w64 (take 8 (sha256 (drawn_bytes (seed ∷ run ∷ step ∷ path)))) * candidates / 2 ^ 64
