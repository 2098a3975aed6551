-- Free. The kinds of what is wrong with words.
--     first_kinds     a kind that comes first is among all
--     is_refusal      what an error of refused words becomes
use Rattle.std.proofs.Common.{[], ◌∷◌, inl, inr, subst, sym}
use Rattle.clap.specs.Kinds.{HasKind, IsAmong, Kinds, or_else}
use Rattle.clap.specs.Values.{kind_of}
use Rattle.clap.specs.declared.error.Error.{Error}
use Rattle.asm_explore_words.specs.WordsSaid.{IsFaultOf, IsRefusal}
use Rattle.asm_explore_words.specs.declared.settings.WordFault.{WordFault}
use Rattle.asm_explore_words.specs.declared.settings.WordFault.TheVariants.{Memory, Words}

pub first_kinds : (ks more : Kinds) (e : Error) → HasKind ks e → HasKind (or_else ks more) e
first_kinds [] more e (inl memory) = inl memory
first_kinds [] more e (inr none) = absurd none
first_kinds (k ∷ ks) more e h = h

pub is_refusal : (ks : Kinds) (e : Error) (f : WordFault) → HasKind ks e → IsFaultOf e f → IsRefusal ks f
is_refusal ks e Memory h of = tt
is_refusal ks e (Words error) (inl memory) of = absurd (of.1 memory)
is_refusal ks e (Words error) (inr among) of = subst (λ (x : Error). IsAmong (kind_of x) ks) (sym of.0) among
