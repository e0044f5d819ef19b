use Rattle.session_state.proofs.OneLookup.{names_agree, numbers_agree, owners_agree}
use Rattle.session_state.proofs.laws.mounts_are_found_in_any_list.Goals as goal

pub returns-clause-numbers : goal.returns-clause-numbers
returns-clause-numbers c = λ seats history mounts others number legal are also. numbers_agree seats history legal mounts others are also number

pub returns-clause-names : goal.returns-clause-names
returns-clause-names c = λ seats history mounts others name legal are also. names_agree seats history legal mounts others are also name

pub returns-clause-owners : goal.returns-clause-owners
returns-clause-owners c = λ seats history mounts others owner legal are also. owners_agree seats history legal mounts others are also owner
