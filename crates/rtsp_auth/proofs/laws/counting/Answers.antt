use Rattle.std.proofs.Common.{refl}
use Rattle.hex.specs.Hex.{encode_with}
use Rattle.rtsp_auth.proofs.Counts.{back, last, others, raised}
use Rattle.rtsp_auth.proofs.laws.counting.Goals as goal

pub returns-clause-raised : goal.returns-clause-raised
returns-clause-raised c = raised

pub returns-clause-others : goal.returns-clause-others
returns-clause-others c = others

pub returns-clause-last : goal.returns-clause-last
returns-clause-last c = last

pub returns-clause-back : goal.returns-clause-back
returns-clause-back c = back

pub returns-clause-one : goal.returns-clause-one
unfolding encode_with
returns-clause-one c = refl

pub returns-clause-more : goal.returns-clause-more
unfolding encode_with
returns-clause-more c = refl
