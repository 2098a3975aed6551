use Rattle.asm_eval.proofs.FollowsLaws.{following_laws-forms_same, following_laws-stopped_with, following_laws-same, following_laws-nothing, following_laws-both, following_laws-counted, following_laws-stopped}
use Rattle.asm_eval.proofs.laws.following_laws.Goals as goal

pub returns-clause-forms_same : goal.returns-clause-forms_same
returns-clause-forms_same c at = following_laws-forms_same

pub returns-clause-stopped_with : goal.returns-clause-stopped_with
returns-clause-stopped_with c at = following_laws-stopped_with

pub returns-clause-same : goal.returns-clause-same
returns-clause-same c at = following_laws-same

pub returns-clause-nothing : goal.returns-clause-nothing
returns-clause-nothing c at = following_laws-nothing

pub returns-clause-both : goal.returns-clause-both
returns-clause-both c at = λ shape. following_laws-both shape

pub returns-clause-counted : goal.returns-clause-counted
returns-clause-counted c at = following_laws-counted

pub returns-clause-stopped : goal.returns-clause-stopped
returns-clause-stopped c at = λ shape. following_laws-stopped shape
