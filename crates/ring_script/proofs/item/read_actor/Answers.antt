use Rattle.ring_script.proofs.Grammar.{actor_named}
use Rattle.ring_script.proofs.item.read_actor.Goals as goal

pub returns : goal.returns
returns c = actor_named c.args.name.now c.actor.result c.actor.ensures
