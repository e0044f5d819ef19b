use Rattle.std.proofs.Common.{◌≡◌, Some, inl, refl, rules, codes}
use Rattle.transport_header.specs.Transport.{specs_of}
use Rattle.session_state.specs.Asking.{asked_in}
use Rattle.session_state.specs.Checks.{field}
use Rattle.session_state.proofs.CheckedTransport.{none_asked}
use Rattle.session_state.proofs.checks.asking.Asking.delivery.Goals as goal

pub returns-in_default-choose : goal.returns-in_default-choose
returns-in_default-choose c =
    let are : c.in_ok-specs.specs.items ≡ specs_of c.in-Some.text.now = search rules in
    let none = rw c.as_slice-2.ensures.value at c.in_default-choose.ensures.chosen in
    λ history told.
    let at : field (asked_in c.args.self.now history) (codes "Transport") ≡ Some c.in-Some.text.now = search rules in
    inl (refl, none_asked (asked_in c.args.self.now history) c.in-Some.text.now c.in_ok-specs.specs.items at are none)
