use Rattle.rtsp_client.proofs.TargetRuns.{has_asked, has_gone, in_order, ready}
use Rattle.rtsp_client.proofs.laws.target_course.Goals as goal

pub returns-clause-asked : goal.returns-clause-asked
returns-clause-asked c = has_asked

pub returns-clause-gone : goal.returns-clause-gone
returns-clause-gone c = has_gone

pub returns-clause-order : goal.returns-clause-order
returns-clause-order c = in_order

pub returns-clause-ready : goal.returns-clause-ready
returns-clause-ready c = ready
