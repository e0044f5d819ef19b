use Rattle.std.proofs.Common.{rules, subst, sym}
use Rattle.mount_series.specs.Sums.{AreTracksFrom}
use Rattle.mount_series.proofs.Rising.{tracks_rise}
use Rattle.mount_series.proofs.sums.both_tallies.Goals as goal

pub returns-clause-grows : goal.returns-clause-grows
returns-clause-grows c =
    record {
      packets = search rules;
      bytes = search rules;
      pinned = search rules;
      oversize = search rules;
      bad_rtp = search rules;
      unknown_channel = search rules;
      unkept = search rules;
      slowed = search rules;
      tracks = subst (AreTracksFrom c.args.a.tracks) (sym c.plus.ensures) (tracks_rise c.args.a.tracks c.args.b.tracks);
    }
