use Rattle.rtsp_auth.proofs.BareValues.{token_bare}
use Rattle.rtsp_auth.proofs.PartsCut.{field_read}
use Rattle.rtsp_auth.proofs.laws.reading.Goals as goal

pub returns : goal.returns
returns c = record { parts = field_read; tokens = token_bare }
