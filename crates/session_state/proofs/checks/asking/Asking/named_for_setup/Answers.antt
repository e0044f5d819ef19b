use Rattle.std.proofs.Common.{◌≡◌, ℕ, List, Option, None, Some, inl, refl, rules, subst}
use Rattle.std.specs.Option.{option_copied}
use Rattle.mounts.specs.Mounts.{numbered}
use Rattle.session_state.specs.Asking.{asked_in}
use Rattle.session_state.specs.Streams.{IsSetUpOn}
use Rattle.session_state.proofs.CheckedNames.{set_up_behind}
use Rattle.session_state.proofs.CheckedSetUp.{is_named, no_track_named, none_numbered, nowhere_named, on_another}
use Rattle.session_state.proofs.checks.asking.Asking.named_for_setup.Goals as goal

pub returns-in_default : goal.returns-in_default
returns-in_default c = λ history told. inl (
  refl,
  nowhere_named (asked_in c.args.self.now history) c.args.target.now c.requires.uri
      (subst (λ path. (number : ℕ) (rest : Option (List ℕ)) → IsSetUpOn c.args.self.now.mounts.now.mounts c.args.self.now.conn path number rest → ⊥) c.as_slice.ensures c.in_default.ensures),
)

pub returns-in_default-numbered : goal.returns-in_default-numbered
returns-in_default-numbered c =
    let on = subst (λ path. IsSetUpOn c.args.self.now.mounts.now.mounts c.args.self.now.conn path c.in-Some.number (option_copied c.in-Some.rest)) c.as_slice.ensures c.in-Some.ensures in
    λ history told. inl (refl, none_numbered (asked_in c.args.self.now history) c.args.target.now c.in-Some.number (option_copied c.in-Some.rest) c.requires.uri on (search rules))

pub returns-then-not-is_of_session : goal.returns-then-not-is_of_session
returns-then-not-is_of_session c =
    let on = subst (λ path. IsSetUpOn c.args.self.now.mounts.now.mounts c.args.self.now.conn path c.in-Some.number (option_copied c.in-Some.rest)) c.as_slice.ensures c.in-Some.ensures in
    λ history told. inl (refl, on_another (asked_in c.args.self.now history) c.args.target.now c.in-Some.number (option_copied c.in-Some.rest) c.requires.uri on c.if-not-is_of_session.ensures)

pub returns-in_default-rest : goal.returns-in_default-rest
returns-in_default-rest c =
    let on = subst (λ path. IsSetUpOn c.args.self.now.mounts.now.mounts c.args.self.now.conn path c.in-Some.number (option_copied c.in-Some.rest)) c.as_slice.ensures c.in-Some.ensures in
    let none : option_copied c.in-Some.rest ≡ None = search rules in
    let at : numbered c.in-Some.number c.args.self.now.mounts.now.mounts ≡ Some c.in-Some-numbered.mount.now = search rules in
    is_named c.args.self.now c.args.target.now c.in-Some.number None c.in-Some-numbered.mount.now None c.requires.uri
    (subst (IsSetUpOn c.args.self.now.mounts.now.mounts c.args.self.now.conn c.args.target.now.path c.in-Some.number) none on) at c.if-not-is_of_session.ensures refl

pub track-requires : goal.track-requires
track-requires c =
    let on = subst (λ path. IsSetUpOn c.args.self.now.mounts.now.mounts c.args.self.now.conn path c.in-Some.number (option_copied c.in-Some.rest)) c.as_slice.ensures c.in-Some.ensures in
    let some : option_copied c.in-Some.rest ≡ Some c.in-Some-rest.rest.now = search rules in
    let at : numbered c.in-Some.number c.args.self.now.mounts.now.mounts ≡ Some c.in-Some-numbered.mount.now = search rules in
    record {
      rest = set_up_behind c.args.self.now.mounts.now c.args.self.now.conn c.args.target.now.path c.in-Some.number (Some c.in-Some-rest.rest.now) c.in-Some-numbered.mount.now c.requires.sound
          (subst (IsSetUpOn c.args.self.now.mounts.now.mounts c.args.self.now.conn c.args.target.now.path c.in-Some.number) some on) at;
    }

pub returns-in-Some-2 : goal.returns-in-Some-2
returns-in-Some-2 c =
    let on = subst (λ path. IsSetUpOn c.args.self.now.mounts.now.mounts c.args.self.now.conn path c.in-Some.number (option_copied c.in-Some.rest)) c.as_slice.ensures c.in-Some.ensures in
    let some : option_copied c.in-Some.rest ≡ Some c.in-Some-rest.rest.now = search rules in
    let at : numbered c.in-Some.number c.args.self.now.mounts.now.mounts ≡ Some c.in-Some-numbered.mount.now = search rules in
    is_named c.args.self.now c.args.target.now c.in-Some.number (Some c.in-Some-rest.rest.now) c.in-Some-numbered.mount.now (Some c.in-Some-2.track) c.requires.uri
    (subst (IsSetUpOn c.args.self.now.mounts.now.mounts c.args.self.now.conn c.args.target.now.path c.in-Some.number) some on) at c.if-not-is_of_session.ensures (rw c.in-Some-2.is at c.in_ok-track.ensures)

pub returns-in-None : goal.returns-in-None
returns-in-None c =
    let on = subst (λ path. IsSetUpOn c.args.self.now.mounts.now.mounts c.args.self.now.conn path c.in-Some.number (option_copied c.in-Some.rest)) c.as_slice.ensures c.in-Some.ensures in
    let some : option_copied c.in-Some.rest ≡ Some c.in-Some-rest.rest.now = search rules in
    let at : numbered c.in-Some.number c.args.self.now.mounts.now.mounts ≡ Some c.in-Some-numbered.mount.now = search rules in
    λ history told. inl (
      refl,
      no_track_named (asked_in c.args.self.now history) c.args.target.now c.in-Some.number c.in-Some-rest.rest.now c.in-Some-numbered.mount.now c.requires.uri
          (subst (IsSetUpOn c.args.self.now.mounts.now.mounts c.args.self.now.conn c.args.target.now.path c.in-Some.number) some on) at (rw c.in-None.is at c.in_ok-track.ensures),
    )
