use Rattle.std.proofs.Common.{◌+◌, ◌*◌, ℕ, List, get_or, ap, ◌∙◌, arith}
use Rattle.proxy_header.proofs.Bodies.{has_addresses}
use Rattle.proxy_header.proofs.body.tcp6.Goals as goal

pub returns : goal.returns
returns c =
    let parts = c.split_at.ensures in
    record {
      address = c.copy_from_slice.new.self;
      ip = c.from_octets.result;
      unmapped = c.to_canonical.result;
      port = c.port_at.result;
      addresses = has_addresses 16 c.args.body.now _ _ (omega (arith, c.requires)) (c.copy_from_slice.ensures.after ∙ parts.front)
          (c.port_at.ensures ∙ ap (λ (l : List ℕ). 256 * get_or l 16 0 + get_or l 17 0) parts.back);
      segments = c.from_octets.ensures;
      canonical = c.to_canonical.ensures;
      client_is = record { ip_is = c.new.ensures.ip; plain = (c.new.ensures.port, c.new.ensures.flowinfo, c.new.ensures.scope_id) };
    }
