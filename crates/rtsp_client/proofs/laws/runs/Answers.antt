use Rattle.rtsp_client.proofs.Running.{all_mapped, end_stays, numbers_rise, played, sends_before_end, set_up}
use Rattle.rtsp_client.proofs.laws.runs.Goals as goal

pub returns-clause-numbers : goal.returns-clause-numbers
returns-clause-numbers c = numbers_rise

pub returns-clause-play : goal.returns-clause-play
returns-clause-play c = played

pub returns-clause-set_up : goal.returns-clause-set_up
returns-clause-set_up c = set_up

pub returns-clause-end_stays : goal.returns-clause-end_stays
returns-clause-end_stays c = end_stays

pub returns-clause-nothing_after : goal.returns-clause-nothing_after
returns-clause-nothing_after c = sends_before_end

pub returns-clause-mapped : goal.returns-clause-mapped
returns-clause-mapped c = all_mapped
