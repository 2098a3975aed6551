-- Free. Members of lists of codes and of chains: each is sound, and no greater than the whole.
use Rattle.std.proofs.Common.{◌≡◌, ℕ, zero, suc, ◌≤◌, ◌<◌, List, [], ◌∷◌, ◌++◌, ◌+◌, length, map, get_or, refl, sym, ap, subst, arith}
use Rattle.asm_state.specs.declared.operation.Op.{Op}
use Rattle.asm_state.specs.Location.{State}
use Rattle.asm_state.specs.Signature.{Shape}
use Rattle.asm_meaning.specs.Value.{Reading}
use Rattle.asm_code.specs.code.CodeViews.{code_of, codes_of, link_of, links_of}
use Rattle.asm_code.specs.code.Readings.{reading, readings}
use Rattle.asm_code.specs.code.Sizes.{size, sizes, link_sizes}
use Rattle.asm_code.specs.code.SoundCodes.{IsSound, AreSound, AreSoundLinks}
use Rattle.asm_code.specs.code.CodeTree as tree
use Rattle.asm_code.specs.declared.code.Code.{Code}

-- what the codes of a list are worth
pub readings_map : (shape : Shape) (rs : List Reading) (A : State) (ts : List Code)
    → readings shape (codes_of (map code_of ts)) rs A ≡ map (λ (t : Code). reading shape (code_of t) rs A) ts
unfolding readings
readings_map shape rs A [] = refl
readings_map shape rs A (t ∷ ts) = ap (λ vs. reading shape (code_of t) rs A ∷ vs) (readings_map shape rs A ts)

pub size_within : (ts : List Code) (i : ℕ) (t : Code) → i < length ts → t ≡ get_or ts i t → size (code_of t) ≤ sizes (codes_of (map code_of ts))
size_within [] i t below is = absurd (omega (arith, below))
size_within (u ∷ ts) zero t below is = let same = ap (λ (t : Code). size (code_of t)) is in omega (arith, same)
size_within (u ∷ ts) (suc i) t below is = let rest = size_within ts i t (omega (arith, below)) is in omega (arith, rest)

pub sound_within : (shape : Shape) (ts : List Code) (i : ℕ) (t : Code) → i < length ts → t ≡ get_or ts i t → AreSound shape (codes_of (map code_of ts)) → IsSound shape (code_of t)
sound_within shape [] i t below is sound = absurd (omega (arith, below))
sound_within shape (u ∷ ts) zero t below is sound = subst (λ (t : Code). IsSound shape (code_of t)) (sym is) sound.0
sound_within shape (u ∷ ts) (suc i) t below is sound = sound_within shape ts i t (omega (arith, below)) is sound.1

pub link_size_within : (links : List (Op × Code)) (i : ℕ) (l : Op × Code) → i < length links → l ≡ get_or links i l → size (code_of l.1) ≤ link_sizes (links_of (map link_of links))
link_size_within [] i l below is = absurd (omega (arith, below))
link_size_within (k ∷ links) zero l below is = let same = ap (λ (l : Op × Code). size (code_of l.1)) is in omega (arith, same)
link_size_within (k ∷ links) (suc i) l below is = let rest = link_size_within links i l (omega (arith, below)) is in omega (arith, rest)

pub link_sound_within : (shape : Shape) (links : List (Op × Code)) (i : ℕ) (l : Op × Code) → i < length links → l ≡ get_or links i l → AreSoundLinks shape (links_of (map link_of links)) → IsSound shape (code_of l.1)
link_sound_within shape [] i l below is sound = absurd (omega (arith, below))
link_sound_within shape (k ∷ links) zero l below is sound = subst (λ (l : Op × Code). IsSound shape (code_of l.1)) (sym is) sound.0
link_sound_within shape (k ∷ links) (suc i) l below is sound = link_sound_within shape links i l (omega (arith, below)) is sound.1

-- each code has a node
pub size_some : (t : tree.Code) → 1 ≤ size t
size_some (tree.Constant v) = omega arith
size_some (tree.Local i) = omega arith
size_some (tree.Cell n) = omega arith
size_some (tree.Row first low many t) = omega arith
size_some (tree.Grid first low rows left columns s t) = omega arith
size_some (tree.Held f ts) = omega arith
size_some (tree.Derived t ts) = omega arith
size_some (tree.With o t v) = omega arith
size_some (tree.Both o s t) = omega arith
size_some (tree.Chain t links) = omega arith
size_some (tree.Exists u t) = omega arith
size_some (tree.Every u t) = omega arith

pub sizes_some : (ts : List Code) → 0 < length ts → 1 ≤ sizes (codes_of (map code_of ts))
sizes_some [] some = absurd (omega (arith, some))
sizes_some (t ∷ ts) some = let first = size_some (code_of t) in omega (arith, first)

-- the last ones of a list, and the others
pub sizes_parts : (ts us : List Code) → sizes (codes_of (map code_of (ts ++ us))) ≡ sizes (codes_of (map code_of ts)) + sizes (codes_of (map code_of us))
sizes_parts [] us = omega arith
sizes_parts (t ∷ ts) us = let rest = sizes_parts ts us in omega (arith, rest)

pub sound_parts : (shape : Shape) (ts us : List Code) → AreSound shape (codes_of (map code_of (ts ++ us))) → AreSound shape (codes_of (map code_of ts)) × AreSound shape (codes_of (map code_of us))
sound_parts shape [] us sound = (tt, sound)
sound_parts shape (t ∷ ts) us sound = let rest = sound_parts shape ts us sound.1 in ((sound.0, rest.0), rest.1)
