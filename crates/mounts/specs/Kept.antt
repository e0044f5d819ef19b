-- What a table of mounts keeps.
use Rattle.std.specs.Prelude.{◌≡◌, ◌≤◌, map}
use Rattle.mounts.specs.declared.mounts.Mounts.TheInside.{Inside}
use Rattle.mounts.specs.Mounts.{Table, IsSound}

abbrev pub table_of : Inside → Table
table_of kept = record { mounts = kept.mounts.items; next = kept.next; seats = kept.seats }

-- The names are those of the mounts, in their order.
pub record IsKept (kept : Inside) : Type 0 where
  pub names : map (λ name. name.items) kept.names.keys ≡ map (λ mount. mount.name) kept.mounts.items
  pub sound : IsSound (table_of kept)
  pub few_seats : kept.seats ≤ 1024
