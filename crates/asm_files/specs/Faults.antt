-- Definition. Why words or a text can't be had.
--     fault_of_words, fault_of_read    the fault for an error of this kind
use Rattle.std.specs.declared.io.ErrorKind.{ErrorKind}
use Rattle.std.specs.declared.io.ErrorKind.TheVariants.{OutOfMemory}
use Rattle.asm_files.specs.declared.fault.NoWords.{NoWords}
use Rattle.asm_files.specs.declared.fault.NoWords.TheVariants as words
use Rattle.asm_files.specs.declared.fault.ReadFault.{ReadFault}
use Rattle.asm_files.specs.declared.fault.ReadFault.TheVariants as read

abbrev pub fault_of_words : ErrorKind → NoWords
fault_of_words OutOfMemory = words.Memory
fault_of_words kind = words.NotText

abbrev pub fault_of_read : ErrorKind → ReadFault
fault_of_read OutOfMemory = read.Memory
fault_of_read kind = read.File
