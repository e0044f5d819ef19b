use Rattle.relay_pass.proofs.Carrying.{all-written}
use Rattle.relay_pass.proofs.laws.what_is_read_comes_out.Goals as goal

pub returns : goal.returns
returns g c = record {
  written = λ from to old new publisher publisher' seat seat' before after report end h is at kept short. (
    h.came.units,
    h.came.hands_out,
    all-written g.S.Source.incoming g.S.Source.failed from to old new publisher publisher' seat seat' before after report h end is at kept short,
  );
}
