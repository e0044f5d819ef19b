use Rattle.std.proofs.Common.{◌≡◌, ◌+◌, cond, [], ◌∷◌, ◌++◌, None, map, rules, sym, ap, subst, ◌∙◌}
use Rattle.std.specs.List.{list_any}
use Rattle.std.specs.Str.{bytes_eq}
use Rattle.mounts.specs.Kept.{table_of}
use Rattle.mounts.specs.Mounts.{IsSound, HasRoom, named, new_mount, owned_by}
use Rattle.mounts.proofs.Indexed.{names_more}
use Rattle.mounts.proofs.Sound.{sound_announced}
use Rattle.mounts.proofs.mounts.Mounts.announce.Goals as goal

pub invariant_of-self-2 : goal.invariant_of-self-2
invariant_of-self-2 c =
    let key : c.in_ok-key.key.items ≡ c.args.name.now = c.in_ok-key.ensures.items in
    let kept : c.reserve.new.self.keys ≡ c.self.inside.names.keys = c.reserve.ensures.keys in
    let keys : c.insert.new.self.keys ≡ cond (list_any (λ k. bytes_eq c.in_ok-key.key.items k.items) c.reserve.new.self.keys) c.reserve.new.self.keys (c.reserve.new.self.keys ++ c.in_ok-key.key ∷ []) =
    rw c.unwrap.ensures at c.insert.ensures.keys in
    let items : c.push.new.self.items ≡ c.self.inside.mounts.items ++ new_mount (table_of c.self.inside) c.args.owner c.args.name.now c.args.description ∷ [] = search rules in
    let room = subst HasRoom (sym c.self.view_is) c.requires.room in
    let free = subst (λ table. named c.args.name.now table.mounts ≡ None) (sym c.self.view_is) c.requires.free in
    let first = subst (λ table. owned_by c.args.owner table.mounts ≡ None) (sym c.self.view_is) c.requires.first in
    record {
      names = names_more c.reserve.new.self.keys c.insert.new.self.keys c.in_ok-key.key c.self.inside.mounts.items (new_mount (table_of c.self.inside) c.args.owner c.args.name.now c.args.description)
          (ap (map (λ k. k.items)) kept ∙ c.self.invariant.names) keys key free ∙ ap (map (λ m. m.name)) (sym items);
      sound = subst (λ mounts. IsSound (record { mounts = mounts; next = c.self.inside.next + 1; seats = c.self.inside.seats })) (sym items)
          (sound_announced (table_of c.self.inside) c.args.owner c.args.name.now c.args.description c.self.invariant.sound room c.requires.name c.requires.no_track free first);
      few_seats = c.self.invariant.few_seats;
    }
