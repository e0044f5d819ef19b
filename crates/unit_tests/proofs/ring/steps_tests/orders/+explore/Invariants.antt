use Rattle.unit_tests.proofs.ring.steps_tests.orders.+explore.Given as goal

abbrev pub decreases-explore : goal.decreases-explore
decreases-explore g l = l.left
