-- Bridge to the code. Laws of logs and the entries with the values whose codes they have.
use Rattle.std.specs.Prelude.{◌≡◌, ℕ, ◌<◌, List, ◌++◌}
use Rattle.asm_updates.specs.code.SummaryRanges.{SummaryRanges, NamedRanges}
use Rattle.asm_updates.specs.code.EntryLists.{IsSummaryOf}
use Rattle.asm_striped.specs.declared.board.Put.{Put}
use Rattle.asm_striped.specs.code.Log.{AreValuesOf, IsCode, IsSummaryOfLog, high_mark, low_mark}

pub record LogLaws : Type 0 where
  -- each code lies between the two words of a location where nothing was put
  pub no_mark : (code : ℕ) → IsCode code → (high_mark < code) × (code < low_mark)
  -- codes tell values apart
  pub one_list : (log : List Put) (es fs : NamedRanges) → AreValuesOf log es → AreValuesOf log fs → es ≡ fs
  -- one log after another
  pub of_append : (log more : List Put) (es fs : NamedRanges) → AreValuesOf log es → AreValuesOf more fs → AreValuesOf (log ++ more) (es ++ fs)
  -- the summary of a log is that of its values
  pub summary : (log : List Put) (es : NamedRanges) (s : SummaryRanges) → IsSummaryOfLog log s → AreValuesOf log es → IsSummaryOf es s
