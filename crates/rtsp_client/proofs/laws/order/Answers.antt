use Rattle.rtsp_client.proofs.Coming.{is_described_first}
use Rattle.rtsp_client.proofs.laws.order.Goals as goal

pub returns-clause-set_up : goal.returns-clause-set_up
returns-clause-set_up c = is_described_first
