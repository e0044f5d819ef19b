use Rattle.std.proofs.Common.{◌≡◌, ◌∷◌, true, false, MatchBool, ap, subst}
use Rattle.mounts.specs.Mounts.{IsSeat, Table}
use Rattle.session_state.specs.declared.entry.Entry.TheVariants.{Back}
use Rattle.session_state.specs.History.{History}
use Rattle.session_state.specs.Legal.{IsBack, IsLegal}
use Rattle.session_state.specs.Stands.{Stands, Tables}
use Rattle.session_state.proofs.Backs.{backed, is_back, is_seat}
use Rattle.session_state.proofs.world.World.back.Goals as goal

pub returns-clause-yes : goal.returns-clause-yes
returns-clause-yes c =
    let given = c.give_back.ensures in
    subst (λ (now : Tables). (history : History) → Stands history now → c.give_back.result ≡ true → IsBack history c.args.mount c.args.seat × Stands (Back c.args.mount c.args.seat ∷ history)
    (record { mounts = c.give_back.new.self; connections = c.self.inside.connections.entries; came = c.self.inside.came; begun = c.self.inside.begun })) c.self.view_is
    (λ history stands yes.
    let old : Tables = record { mounts = c.self.inside.mounts; connections = c.self.inside.connections.entries; came = c.self.inside.came; begun = c.self.inside.begun } in
    let out : IsSeat c.self.inside.mounts c.args.mount c.args.seat true = subst (λ b. MatchBool b (IsSeat c.self.inside.mounts c.args.mount c.args.seat true) (IsSeat c.self.inside.mounts c.args.mount c.args.seat true → ⊥)) yes given.out in (
      is_back history old c.args.mount c.args.seat stands.recalls out,
      backed history old (record { mounts = c.give_back.new.self; connections = c.self.inside.connections.entries; came = c.self.inside.came; begun = c.self.inside.begun }) c.args.mount c.args.seat stands
          (ap (λ (table : Table). record { mounts = table; connections = c.self.inside.connections.entries; came = c.self.inside.came; begun = c.self.inside.begun }) (given.given yes)),
    ))

pub returns-clause-no : goal.returns-clause-no
returns-clause-no c =
    let given = c.give_back.ensures in
    subst (λ (now : Tables). (history : History) → IsLegal now.mounts.seats history → Stands history now → c.give_back.result ≡ false → (IsBack history c.args.mount c.args.seat → ⊥)
    × (record { mounts = c.give_back.new.self; connections = c.self.inside.connections.entries; came = c.self.inside.came; begun = c.self.inside.begun } ≡ now)) c.self.view_is
    (λ history legal stands no.
    let old : Tables = record { mounts = c.self.inside.mounts; connections = c.self.inside.connections.entries; came = c.self.inside.came; begun = c.self.inside.begun } in
    let out : IsSeat c.self.inside.mounts c.args.mount c.args.seat true → ⊥ = subst (λ b. MatchBool b (IsSeat c.self.inside.mounts c.args.mount c.args.seat true) (IsSeat c.self.inside.mounts c.args.mount c.args.seat true → ⊥)) no given.out in (
      (λ back. out (is_seat history old c.args.mount c.args.seat legal stands.recalls back)),
      ap (λ (table : Table). record { mounts = table; connections = c.self.inside.connections.entries; came = c.self.inside.came; begun = c.self.inside.begun }) (given.unchanged no),
    ))
