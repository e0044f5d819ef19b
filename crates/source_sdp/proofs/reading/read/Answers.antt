use Rattle.source_sdp.proofs.AllLeft.{leaves_all_out}
use Rattle.source_sdp.proofs.reading.read.Goals as goal

pub returns-clause-none : goal.returns-clause-none
returns-clause-none c none = leaves_all_out c.args.bytes.now c.in_ok-read_text.field-0 c.in_ok-read_text.ensures none
