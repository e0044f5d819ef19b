use Rattle.std.proofs.Common.{sym, ◌∙◌}
use Rattle.std.specs.Net.Grammar.{IsIpv4Text}
use Rattle.proxy_header.proofs.Parts.{bad_destination, bad_source, writes_none}
use Rattle.proxy_header.proofs.fields.tcp4.Goals as goal

pub returns-in_err-ip : goal.returns-in_err-ip
returns-in_err-ip c =
    let bad = writes_none IsIpv4Text c.in_ok-fields.fields.source.now c.parse_ascii.result c.parse_ascii.ensures (sym c.ok.ensures.value ∙ c.in_err-ip.was) in
    rw c.from_residual-in_err-ip.ensures (λ client p. bad_source IsIpv4Text c.args.text.now _ _ _ _ c.in_ok-fields.ensures bad p.ip p.port p.addresses)

pub returns-in_err-ok : goal.returns-in_err-ok
returns-in_err-ok c =
    let bad = writes_none IsIpv4Text c.in_ok-fields.fields.destination.now c.parse_ascii-2.result c.parse_ascii-2.ensures (sym c.ok-2.ensures.value ∙ c.in_err-ok.was) in
    rw c.from_residual-in_err-ok.ensures (λ client p. bad_destination IsIpv4Text c.args.text.now _ _ _ _ c.in_ok-fields.ensures bad p.ip p.port p.addresses)
