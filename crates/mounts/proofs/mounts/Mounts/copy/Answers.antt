use Rattle.std.proofs.Common.{◌≡◌, map, sym, ap, subst, ◌∙◌}
use Rattle.mounts.specs.Mounts.{IsSound}
use Rattle.mounts.proofs.Indexed.{names_copied}
use Rattle.mounts.proofs.mounts.Mounts.copy.Goals as goal

pub invariant_of-result : goal.invariant_of-result
invariant_of-result c =
    let mounts : c.in_ok-copy_mounts.field-0.items ≡ c.self.inside.mounts.items = c.in_ok-copy_mounts.ensures ∙ c.as_slice.ensures.value in
    record {
      names = names_copied c.self.inside.names.keys c.in_ok-clone.field-0.keys c.in_ok-clone.ensures.cases ∙ c.self.invariant.names ∙ ap (map (λ mount. mount.name)) (sym mounts);
      sound = subst (λ all. IsSound (record { mounts = all; next = c.self.inside.next; seats = c.self.inside.seats })) (sym mounts) c.self.invariant.sound;
      few_seats = c.self.invariant.few_seats;
    }
