use Rattle.relay_pass.proofs.Carrying.{all-relayed, none-refused, still-none-lost}
use Rattle.relay_pass.proofs.laws.what_is_sent_comes_out.Goals as goal

pub returns : goal.returns
returns g c = record {
  relayed = λ from to source new publisher publisher' seat seat' before after report stream h known is at kept short. (
    (none-refused g.S.Source.incoming g.S.Source.failed from to _ new publisher publisher' seat seat' before after report h short).0,
    still-none-lost g.S.Source.incoming g.S.Source.failed from to _ new publisher publisher' seat seat' before after report h at kept,
    all-relayed g.S.Source.incoming g.S.Source.failed from to source new publisher publisher' seat seat' before after report stream h known is at kept short,
  );
}
