-- Free. Laws of logs.
use Rattle.std.proofs.Common.{◌≡◌, List, [], ◌∷◌, ◌++◌, refl, sym, ◌∙◌, subst}
use Rattle.asm_state.proofs.Codes.{codes_apart}
use Rattle.asm_updates.specs.code.SummaryRanges.{NamedRanges}
use Rattle.asm_updates.specs.code.EntryLists.{IsSummaryOf}
use Rattle.asm_striped.specs.declared.board.Put.{Put}
use Rattle.asm_striped.specs.code.Log.{AreValuesOf}
use Rattle.asm_striped.specs.code.LogLaws.{LogLaws}
use Rattle.asm_striped.proofs.Ranges.{code_is_no_mark}

one_list : (log : List Put) (es fs : NamedRanges) → AreValuesOf log es → AreValuesOf log fs → es ≡ fs
one_list [] [] [] a b = refl
one_list [] [] (_ ∷ _) a b = absurd b
one_list [] (_ ∷ _) fs a b = absurd a
one_list (_ ∷ _) [] fs a b = absurd a
one_list (_ ∷ _) (_ ∷ _) [] a b = absurd b
one_list (e ∷ log) (x ∷ es) (y ∷ fs) (at, low, high, rest) (at_too, low_too, high_too, rest_too) =
    let location : x.0 ≡ y.0 = at ∙ sym at_too in
    let least : x.1.0 ≡ y.1.0 = codes_apart x.1.0 y.1.0 (low ∙ sym low_too) in
    let greatest : x.1.1 ≡ y.1.1 = codes_apart x.1.1 y.1.1 (high ∙ sym high_too) in
    let tails : es ≡ fs = one_list log es fs rest rest_too in
    λ i. (location i, (least i, greatest i)) ∷ tails i

of_append : (log more : List Put) (es fs : NamedRanges) → AreValuesOf log es → AreValuesOf more fs → AreValuesOf (log ++ more) (es ++ fs)
of_append [] more [] fs a b = b
of_append [] more (_ ∷ _) fs a b = absurd a
of_append (_ ∷ _) more [] fs a b = absurd a
of_append (e ∷ log) more (x ∷ es) fs (at, low, high, rest) b = (at, low, high, of_append log more es fs rest b)

pub log_laws : LogLaws
log_laws = record {
  no_mark = code_is_no_mark;
  one_list = one_list;
  of_append = of_append;
  summary = λ log es s is are. subst (λ l. IsSummaryOf l s) (one_list log is.entries es is.are_values are) is.is_summary;
}
