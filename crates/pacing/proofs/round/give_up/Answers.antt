use Rattle.std.proofs.Common.{◌≡◌, ◌∙◌, ap, map, rules}
use Rattle.std.proofs.lemmas.Grind.{common_steps}
use Rattle.std.proofs.Common.{arith}
use Rattle.std.proofs.lemmas.List.Edits.{map_over_more}
use Rattle.pacing.specs.Rounds.{awaited, given_up}
use Rattle.pacing.proofs.GivingUp.{none_awaited}
use Rattle.pacing.proofs.round.give_up.Goals as goal

pub loop-place-preserved : goal.loop-place-preserved
loop-place-preserved c = search (rules, map_over_more given_up)

pub returns-clause-none : goal.returns-clause-none
returns-clause-none c =
    let all : c.loop-place.players ≡ map given_up c.args.players.now = grind (arith, common_steps) in
    ap awaited all ∙ none_awaited c.args.players.now
