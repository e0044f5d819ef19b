use Rattle.std.proofs.Common.{◌+◌, ◌*◌, ℕ, List, get_or, sym, ap, ◌∙◌, arith}
use Rattle.std.proofs.NetLemmas.Arrays.{four_items}
use Rattle.proxy_header.proofs.Bodies.{has_addresses}
use Rattle.proxy_header.proofs.body.tcp4.Goals as goal

pub returns : goal.returns
returns c =
    let parts = c.split_at.ensures in
    record {
      ip = c.new-ip.result;
      port = c.port_at.result;
      addresses = has_addresses 4 c.args.body.now _ _ (omega (arith, c.requires)) (c.new-ip.ensures ∙ sym (four_items _ (omega (arith, parts.front_len))) ∙ parts.front)
          (c.port_at.ensures ∙ ap (λ (l : List ℕ). 256 * get_or l 4 0 + get_or l 5 0) parts.back);
      client_is = record { ip_is = c.new.ensures.ip; plain = (c.new.ensures.port, c.new.ensures.flowinfo, c.new.ensures.scope_id) };
    }
