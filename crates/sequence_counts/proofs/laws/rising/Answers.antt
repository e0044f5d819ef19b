use Rattle.sequence_counts.proofs.Stepping.{rises}
use Rattle.sequence_counts.proofs.laws.rising.Goals as goal

pub returns-clause-missing : goal.returns-clause-missing
returns-clause-missing c events more old new before now = (rises events more old new before now).missing

pub returns-clause-late : goal.returns-clause-late
returns-clause-late c events more old new before now = (rises events more old new before now).late

pub returns-clause-restarts : goal.returns-clause-restarts
returns-clause-restarts c events more old new before now = (rises events more old new before now).restarts
