use Rattle.std.proofs.Common.{sym, subst}
use Rattle.session_state.specs.Streams.{IsLive}
use Rattle.session_state.proofs.Namesakes.{HasName, one_of_a_name}
use Rattle.session_state.proofs.Owners.{owns_one}
use Rattle.session_state.proofs.laws.mounts_differ.Goals as goal

pub returns-clause-owners : goal.returns-clause-owners
returns-clause-owners c = λ seats history one other legal a b same. owns_one seats history one.owner one.number other.number legal a.live (subst (λ o. IsLive history other.number o) (sym same) b.live)

pub returns-clause-names : goal.returns-clause-names
returns-clause-names c = λ seats history one other legal a b same. one_of_a_name seats history one.owner other.owner one.number other.number one.name legal
    (record { live = a.live; description = one.description; announced = a.announced })
    (subst (λ name. HasName history other.number other.owner name) (sym same) (record { live = b.live; description = other.description; announced = b.announced }))
