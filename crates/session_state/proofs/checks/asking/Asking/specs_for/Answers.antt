use Rattle.std.proofs.Common.{◌≡◌, true}
use Rattle.session_state.proofs.CheckedTransport.{may_not_record, may_record}
use Rattle.session_state.proofs.checks.asking.Asking.specs_for.Goals as goal
use Rattle.session_state.proofs.checks.asking.Asking.specs_for.Goals.{else-delivery-via-then-delivery+else-named-self, else-delivery-via-else-delivery}

pub returns-then-named-self : goal.returns-then-named-self
returns-then-named-self c =
    may_not_record c.args.self.now c.requires.0 c.args.named.mount.now c.args.named.track c.in_ok-delivery.delivery c.requires.1 c.in_ok-delivery.ensures c.if-delivery.true c.if-named-self.true

pub returns : goal.returns
returns c =
    let is = c.in_ok-delivery.ensures in
    let owner : c.in_ok-delivery.delivery.recording ≡ true → c.args.named.mount.now.owner ≡ c.args.self.now.conn =
    elim c.else-delivery.branch [
      | else-delivery-via-then-delivery+else-named-self w ↦ λ records. w.if-named-self.false
      | else-delivery-via-else-delivery w ↦ λ records. let plays = w.if-delivery.false in absurd (cc)
    ] in (
      (is.text, is.field_is, is.specs_are),
      (is.spec, is.first),
      may_record c.args.self.now c.requires.0 c.args.named.mount.now c.args.named.track c.in_ok-delivery.delivery c.requires.1 is owner,
    )
