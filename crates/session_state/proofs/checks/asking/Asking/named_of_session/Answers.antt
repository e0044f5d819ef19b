use Rattle.std.proofs.Common.{◌≡◌, refl, rules}
use Rattle.session_state.specs.Asking.{asked_in}
use Rattle.session_state.proofs.CheckedSession.{nothing_of, only_mount, only_track}
use Rattle.session_state.proofs.checks.asking.Asking.named_of_session.Goals as goal

pub returns-then-eq : goal.returns-then-eq
returns-then-eq c =
    let is : c.args.target.now.path ≡ c.args.session.now.name = search rules in
    (refl, (λ history told. is), (λ history told other h. only_mount (asked_in c.args.self.now history) c.args.session.now c.args.target.now is other h))

pub returns-in-Some : goal.returns-in-Some
returns-in-Some c =
    let named = rw c.in-Some.is at c.in_ok-track.ensures in (
      refl,
      (λ history told. (named history told).0),
      (λ history told other h. only_track (asked_in c.args.self.now history) c.args.session.now c.args.target.now c.in-Some.track (named history told).0 (named history told).1 other h),
    )

pub returns-in-None : goal.returns-in-None
returns-in-None c =
    let none = rw c.in-None.is at c.in_ok-track.ensures in
    let differs : c.args.target.now.path ≡ c.args.session.now.name → ⊥ = search rules in
    λ history told track h. nothing_of (asked_in c.args.self.now history) c.args.session.now c.args.target.now differs (none history told) track h
