use Rattle.std.proofs.Common.{◌≡◌}
use Rattle.talk_tests.proofs.talk.talker_tests.count_accepted.Given as goal

abbrev pub invariant-loop : goal.invariant-loop
invariant-loop l = l.talker.book.seats ≡ 1
