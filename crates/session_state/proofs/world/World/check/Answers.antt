use Rattle.std.proofs.Common.{ap, refl}
use Rattle.session_state.specs.Stands.{Tables}
use Rattle.session_state.proofs.CheckedWorld.{fails_result, fine_result}
use Rattle.session_state.proofs.world.World.check.Goals as goal

pub returns-clause-fine : goal.returns-clause-fine
returns-clause-fine c =
    fine_result c.args.self.now c.args.conn c.args.request.now _ c.checked.result c.checked.ensures (record {
      request_is = refl;
      conn_is = refl;
      session = c.session_of.ensures;
      mounts = ap (λ (t : Tables). t.mounts) c.self.view_is;
      begun = ap (λ (t : Tables). t.begun) c.self.view_is;
    })

pub returns-clause-fails : goal.returns-clause-fails
returns-clause-fails c =
    fails_result c.args.self.now c.args.conn c.args.request.now _ c.checked.result c.checked.ensures (record {
      request_is = refl;
      conn_is = refl;
      session = c.session_of.ensures;
      mounts = ap (λ (t : Tables). t.mounts) c.self.view_is;
      begun = ap (λ (t : Tables). t.begun) c.self.view_is;
    })
