mod WithoutReport
mod PlainRuns
mod UndrawnScripts
