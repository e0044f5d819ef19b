use Rattle.std.proofs.Common.{map, sym, ap, subst, ◌∙◌, remove}
use Rattle.mounts.specs.Kept.{table_of}
use Rattle.mounts.specs.Mounts.{IsSound, ended}
use Rattle.mounts.proofs.Changes.{not_removed, removed, with_mounts}
use Rattle.mounts.proofs.Indexed.{map-remove, found_at, found_nowhere}
use Rattle.mounts.proofs.Sound.{sound_ended}
use Rattle.mounts.proofs.mounts.Mounts.end.Goals as goal

pub invariant_of-self : goal.invariant_of-self
invariant_of-self c =
    let at = found_at c.as_slice.result.now c.self.inside.mounts.items c.args.number c.in-Some.place c.in-Some.ensures c.as_slice.ensures.value in
    let mounts = ap (with_mounts (table_of c.self.inside)) c.remove.ensures.items ∙ removed (table_of c.self.inside) c.args.number c.in-Some.place c.self.invariant.sound at in
    record {
      names = ap (map (λ key. key.items)) c.shift_remove_index.ensures.keys ∙ map-remove (λ key. key.items) c.self.inside.names.keys c.in-Some.place
          ∙ ap (λ names. remove names c.in-Some.place) c.self.invariant.names ∙ sym (map-remove (λ mount. mount.name) c.self.inside.mounts.items c.in-Some.place)
          ∙ ap (map (λ mount. mount.name)) (sym c.remove.ensures.items);
      sound = subst IsSound (sym mounts) (sound_ended c.args.number (table_of c.self.inside) c.self.invariant.sound);
      few_seats = c.self.invariant.few_seats;
    }

pub returns-in-Some : goal.returns-in-Some
returns-in-Some c =
    let at = found_at c.as_slice.result.now c.self.inside.mounts.items c.args.number c.in-Some.place c.in-Some.ensures c.as_slice.ensures.value in
    ap (with_mounts (table_of c.self.inside)) c.remove.ensures.items ∙ removed (table_of c.self.inside) c.args.number c.in-Some.place c.self.invariant.sound at
    ∙ ap (ended c.args.number) c.self.view_is

pub returns-in_default : goal.returns-in_default
returns-in_default c =
    sym c.self.view_is ∙ not_removed (table_of c.self.inside) c.args.number (found_nowhere c.as_slice.result.now c.self.inside.mounts.items c.args.number c.in_default.ensures c.as_slice.ensures.value)
    ∙ ap (ended c.args.number) c.self.view_is
