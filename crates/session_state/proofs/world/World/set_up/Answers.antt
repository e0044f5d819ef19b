use Rattle.std.proofs.Common.{◌==◌, ◌+◌, ap, sym, subst, ◌∙◌}
use Rattle.std.specs.Option.{option_copied}
use Rattle.mounts.specs.Mounts.{numbered}
use Rattle.session_state.specs.declared.checks.accepted.Accepted.TheVariants as found
use Rattle.session_state.specs.History.{History}
use Rattle.session_state.specs.Judged.{Finds, GivesFirst, GivesMore, SetsUpBy, asked_of}
use Rattle.session_state.specs.Stands.{Stands, Tables}
use Rattle.session_state.proofs.SettingUp.{first_told, if_ok, more_told}
use Rattle.session_state.proofs.world.World.set_up.Goals as goal

pub returns-in-Some-clause-ok : goal.returns-in-Some-clause-ok
returns-in-Some-clause-ok c =
    if_ok (λ r. GivesMore c.args.specs.now c.in-Some.session.now c.args.track c.args.request.now (c.unwrap-mount.result.now.owner == c.args.conn) r.0 r.1)
    (λ r. (history : History) → Stands history c.args.self.now → Finds (asked_of c.args.self.now history c.args.conn c.args.request.now) (found.Setup c.args.number c.args.track c.args.specs.now)
    → SetsUpBy (asked_of c.args.self.now history c.args.conn c.args.request.now) c.args.given.now r.0 r.1)
    c.set_up_more.result
    (λ r gives history stands finds. more_told c.args.self.now history stands c.args.conn c.args.request.now c.args.given.now c.args.number c.args.track c.args.specs.now c.unwrap-mount.result.now
    (ap (λ (t : Tables). numbered c.args.number t.mounts.mounts) (sym c.self.view_is) ∙ sym c.numbered.ensures ∙ ap option_copied c.unwrap-mount.ensures) finds r.0 r.1
    c.in-Some.session.now (sym c.session_of.ensures ∙ ap option_copied c.in-Some.is) gives)
    c.set_up_more.ensures

pub returns-in-None-clause-ok : goal.returns-in-None-clause-ok
returns-in-None-clause-ok c =
    if_ok (λ r. GivesFirst c.args.specs.now (c.self.inside.begun + 1) c.args.given.now.word c.unwrap-mount.result.now c.args.track c.args.request.now (c.unwrap-mount.result.now.owner == c.args.conn) r.0 r.1)
    (λ r. (history : History) → Stands history c.args.self.now → Finds (asked_of c.args.self.now history c.args.conn c.args.request.now) (found.Setup c.args.number c.args.track c.args.specs.now)
    → SetsUpBy (asked_of c.args.self.now history c.args.conn c.args.request.now) c.args.given.now r.0 r.1)
    c.set_up_first.result
    (λ r gives history stands finds. first_told c.args.self.now history stands c.args.conn c.args.request.now c.args.given.now c.args.number c.args.track c.args.specs.now c.unwrap-mount.result.now
    (ap (λ (t : Tables). numbered c.args.number t.mounts.mounts) (sym c.self.view_is) ∙ sym c.numbered.ensures ∙ ap option_copied c.unwrap-mount.ensures) finds r.0 r.1
    (sym c.session_of.ensures ∙ ap option_copied c.in-None.is)
    (subst (λ (t : Tables). GivesFirst c.args.specs.now (t.begun + 1) c.args.given.now.word c.unwrap-mount.result.now c.args.track c.args.request.now (c.unwrap-mount.result.now.owner == c.args.conn) r.0 r.1) c.self.view_is gives))
    c.set_up_first.ensures
