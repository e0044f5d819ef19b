use Rattle.std.proofs.Common.{◌≡◌, false, Some, ap, sym, subst, ◌∙◌}
use Rattle.std.specs.Option.{option_map}
use Rattle.mounts.specs.Mounts.{IsSeat}
use Rattle.session_state.specs.declared.session.Session as sessions
use Rattle.session_state.specs.Stands.{Tables}
use Rattle.session_state.proofs.world.World.play.Goals as goal

pub returns-in_default-take_seat-clause-takes : goal.returns-in_default-take_seat-clause-takes
returns-in_default-take_seat-clause-takes c session seat has free =
    let told : Some c.in-Some.mount ≡ Some session.mount = c.in-Some.ensures ∙ ap (option_map (λ (s : sessions.Session). s.mount)) has in
    let mount_is : c.in-Some.mount ≡ session.mount = cc in
    let there = subst (λ (t : Tables). IsSeat t.mounts session.mount seat false) (sym c.self.view_is) free in
    absurd (c.in_default-take_seat.ensures.none seat (subst (λ m. IsSeat c.self.inside.mounts m seat false) (sym mount_is) there))
