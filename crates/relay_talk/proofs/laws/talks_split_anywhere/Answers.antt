use Rattle.relay_talk.proofs.Stretches.{splits}
use Rattle.relay_talk.proofs.laws.talks_split_anywhere.Goals as goal

pub returns : goal.returns
returns c = λ before after units others given text. splits before units others given after text
