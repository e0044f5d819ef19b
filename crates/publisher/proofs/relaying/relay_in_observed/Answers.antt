use Rattle.std.proofs.Common.{◌∙◌}
use Rattle.publisher.proofs.Incoming.{none_pinned, none_worn, none_unkept}
use Rattle.publisher.proofs.relaying.relay_in_observed.Goals as goal

pub returns-clause-never_pinned : goal.returns-clause-never_pinned
returns-clause-never_pinned g c never = let done = c.relay_frames.ensures.relays.relays in done.counts.pinned ∙ none_pinned _ _ _ done.handlings done.fates never

pub returns-clause-never_worn : goal.returns-clause-never_worn
returns-clause-never_worn g c never = let done = c.relay_frames.ensures.relays.relays in done.counts.worn ∙ none_worn _ _ _ done.handlings done.fates never

pub returns-clause-never_unkept : goal.returns-clause-never_unkept
returns-clause-never_unkept g c never = let done = c.relay_frames.ensures.relays.relays in done.counts.unkept ∙ none_unkept _ _ _ done.handlings done.fates never
