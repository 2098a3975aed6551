-- Bridge to the code. What a run returns if the reader refuses its text or its script, or the check
-- its specification.
use Rattle.asm_syntax.specs.declared.input_error.InputError.{InputError}
use Rattle.asm_syntax.specs.declared.input_error.InputError.TheVariants as refused
use Rattle.asm_reader.specs.declared.error.ReadError.{ReadError}
use Rattle.asm_reader.specs.declared.script_error.ScriptError.{ScriptError}
use Rattle.asm_check.specs.declared.error.CheckError.{CheckError}
use Rattle.asm_run.specs.declared.error.RunError.{RunError}
use Rattle.asm_run.specs.declared.error.RunError.TheVariants.{Read, Check, Script, Memory}

abbrev pub run_error_of_read : InputError ReadError → RunError
run_error_of_read refused.Memory = Memory
run_error_of_read (refused.Named e) = Read e

abbrev pub run_error_of_check : InputError CheckError → RunError
run_error_of_check refused.Memory = Memory
run_error_of_check (refused.Named e) = Check e

abbrev pub run_error_of_script : InputError ScriptError → RunError
run_error_of_script refused.Memory = Memory
run_error_of_script (refused.Named e) = Script e
