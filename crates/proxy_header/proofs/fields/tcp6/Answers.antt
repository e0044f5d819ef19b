use Rattle.std.proofs.Common.{sym, ◌∙◌}
use Rattle.std.specs.Net.Grammar.{IsIpv6Text}
use Rattle.proxy_header.proofs.Parts.{writes_some}
use Rattle.proxy_header.proofs.fields.tcp6.Goals as goal

pub returns : goal.returns
returns c = record {
  ip = c.in_ok-ip.ip;
  unmapped = c.to_canonical.result;
  port = c.in_ok-port.port;
  addresses = record {
    source = c.in_ok-fields.fields.source.now;
    destination = c.in_ok-fields.fields.destination.now;
    source_port = c.in_ok-fields.fields.source_port.now;
    destination_port = c.in_ok-fields.fields.destination_port.now;
    parts = c.in_ok-fields.ensures;
    source_is = writes_some IsIpv6Text c.in_ok-fields.fields.source.now c.parse_ascii.result c.in_ok-ip.ip c.parse_ascii.ensures (sym c.ok.ensures.value ∙ c.in_ok-ip.was);
    own = c.in_ok-ok.field-0;
    destination_is = writes_some IsIpv6Text c.in_ok-fields.fields.destination.now c.parse_ascii-2.result c.in_ok-ok.field-0 c.parse_ascii-2.ensures (sym c.ok-2.ensures.value ∙ c.in_ok-ok.was);
    source_port_is = c.in_ok-port.ensures;
    own_port = c.in_ok-port_of.field-0;
    destination_port_is = c.in_ok-port_of.ensures;
  };
  canonical = c.to_canonical.ensures;
  client_is = record { ip_is = c.new.ensures.ip; plain = (c.new.ensures.port, c.new.ensures.flowinfo, c.new.ensures.scope_id) };
}
