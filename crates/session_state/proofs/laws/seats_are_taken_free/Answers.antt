use Rattle.std.proofs.Common.{◌&&◌, refl, ap, ◌∙◌, ◌==◌}
use Rattle.std.proofs.lemmas.Bool.{eq-eqb}
use Rattle.session_state.specs.declared.act.Act.TheVariants as acts
use Rattle.session_state.proofs.Plays.{out_below, plays_free}
use Rattle.session_state.proofs.Played.{takes_a_seat}
use Rattle.session_state.proofs.laws.seats_are_taken_free.Goals as goal

pub returns-clause-free : goal.returns-clause-free
returns-clause-free c = λ seats before conn request given reply mount seat legal.
    (plays_free mount seat seats before conn request given reply (acts.Play mount seat) legal.1 (ap (λ b. b && seat == seat) (eq-eqb mount mount refl) ∙ eq-eqb seat seat refl)).free

pub returns-clause-out : goal.returns-clause-out
returns-clause-out c = λ seats history mount seat legal out. out_below mount seat seats history legal out

pub returns-clause-taken : goal.returns-clause-taken
returns-clause-taken c = λ seats before conn request given reply act session legal ok named is ready. takes_a_seat seats before conn request given reply act session legal ok named is ready
