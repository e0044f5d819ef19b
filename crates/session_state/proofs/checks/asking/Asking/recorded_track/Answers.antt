use Rattle.std.proofs.Common.{◌≡◌, Some, IsSome, rules, subst}
use Rattle.mounts.specs.Mounts.{numbered}
use Rattle.mounts.specs.Names.{GoesOn}
use Rattle.transport_header.specs.Tracks.{pair_at}
use Rattle.session_state.proofs.CheckedSession.{recorded_alone, recorded_by, recorded_named}
use Rattle.session_state.proofs.checks.asking.Asking.recorded_track.Goals as goal

pub returns-in_default-2 : goal.returns-in_default-2
returns-in_default-2 c =
    let at : numbered c.args.session.now.mount c.args.self.now.mounts.now.mounts ≡ Some c.in-Some.mount.now = search rules in
    let on : GoesOn c.args.target.now.path c.in-Some.mount.now.name (Some c.in-Some-rest_behind.rest.now) = search rules in
    let none = rw c.in_default-2.is at c.in_ok-track.ensures in
    λ history told other h. none other
    (recorded_by c.args.self.now history c.args.session.now c.args.target.now c.in-Some-rest_behind.rest.now c.in-Some.mount.now other told c.requires.has c.requires.recording at on h)

pub returns-then-is_none : goal.returns-then-is_none
returns-then-is_none c =
    let at : numbered c.args.session.now.mount c.args.self.now.mounts.now.mounts ≡ Some c.in-Some.mount.now = search rules in
    let on : GoesOn c.args.target.now.path c.in-Some.mount.now.name (Some c.in-Some-rest_behind.rest.now) = search rules in
    let is = rw c.in-Some-2.is at c.in_ok-track.ensures in
    λ history told other h.
    let same : other ≡ c.in-Some-2.track =
    recorded_alone c.args.self.now history c.args.session.now c.args.target.now c.in-Some-rest_behind.rest.now c.in-Some.mount.now c.in-Some-2.track other told c.requires.has c.requires.recording at on is h in
    let set_up : IsSome (pair_at c.args.session.now.channels c.in-Some-2.track) = subst (λ t. IsSome (pair_at c.args.session.now.channels t)) same h.3 in
    let value = c.pair_of.ensures.value in
    let none = c.if-is_none.ensures in
    absurd (cc)

pub returns : goal.returns
returns c =
    let at : numbered c.args.session.now.mount c.args.self.now.mounts.now.mounts ≡ Some c.in-Some.mount.now = search rules in
    let on : GoesOn c.args.target.now.path c.in-Some.mount.now.name (Some c.in-Some-rest_behind.rest.now) = search rules in
    let is = rw c.in-Some-2.is at c.in_ok-track.ensures in
    let set_up : IsSome (pair_at c.args.session.now.channels c.in-Some-2.track) = subst IsSome c.pair_of.ensures.value c.if-is_none.ensures in
    λ history told. (
      recorded_named c.args.self.now history c.args.session.now c.args.target.now c.in-Some-rest_behind.rest.now c.in-Some.mount.now c.in-Some-2.track told c.requires.has c.requires.recording at on is set_up,
      (λ other h. recorded_alone c.args.self.now history c.args.session.now c.args.target.now c.in-Some-rest_behind.rest.now c.in-Some.mount.now c.in-Some-2.track other told c.requires.has c.requires.recording at on is h),
    )
