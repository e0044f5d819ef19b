use Rattle.std.proofs.Common.{refl}
use Rattle.ring_steps.proofs.Begins.{refused_step}
use Rattle.ring_steps.proofs.laws.refused_means_pins.Goals as goal

pub returns : goal.returns
returns c = λ s p o is answer. refused_step s.publisher.phase p s o refl is.step answer is.sound
