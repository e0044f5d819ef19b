use Rattle.std.proofs.Common.{inl, inr, refl}
use Rattle.session_state.proofs.CheckedTransport.{owns_fails, owns_passes, several_tracks, track_set_up}
use Rattle.session_state.proofs.checks.asking.Asking.track_to_set_up.Goals as goal

pub returns-then-not-owns_no_other : goal.returns-then-not-owns_no_other
returns-then-not-owns_no_other c = λ history told.
    inl (refl, owns_fails c.args.self.now c.requires.0 c.args.named.mount.now c.args.named.track c.requires.1 c.if-not-owns_no_other.ensures history)

pub returns-in-Some : goal.returns-in-Some
returns-in-Some c =
    let set_up = track_set_up c.args.self.now c.requires.0 c.args.named.mount.now c.args.named.track c.in-Some.track c.in-Some.ensures.few c.requires.1 c.in-Some.ensures.some in (
      set_up.0,
      set_up.1,
      (λ history told. (
        owns_passes c.args.self.now c.requires.0 c.args.named.mount.now c.args.named.track c.requires.1 c.if-not-owns_no_other.ensures history,
        ((c.args.named.mount.now, c.in-Some.track, set_up.0), tt),
      )),
    )

pub returns-in-None : goal.returns-in-None
returns-in-None c = λ history told. inr (
  owns_passes c.args.self.now c.requires.0 c.args.named.mount.now c.args.named.track c.requires.1 c.if-not-owns_no_other.ensures history,
  inl (refl, several_tracks c.args.self.now c.requires.0 c.args.named.mount.now c.args.named.track c.requires.1 c.in-None.ensures.none history),
)
