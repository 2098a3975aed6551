-- Definition. Faults of texts, as they are reported to a user.
--     fault_number, fault_offset      the number of a fault, and the offset where it is, if it has
--                                     one
use Rattle.std.specs.Prelude.{ℕ, Option, Some, None}
use Rattle.asm_syntax.specs.declared.error.LexError.{LexError}
use Rattle.asm_syntax.specs.declared.error.LexError.TheVariants.{TooLong, BadByte, OpenComment, BadNumber}

abbrev pub fault_number : LexError → ℕ
fault_number TooLong = 1
fault_number (BadByte at) = 2
fault_number (OpenComment at) = 3
fault_number (BadNumber at) = 4

abbrev pub fault_offset : LexError → Option ℕ
fault_offset TooLong = None
fault_offset (BadByte at) = Some at
fault_offset (OpenComment at) = Some at
fault_offset (BadNumber at) = Some at
