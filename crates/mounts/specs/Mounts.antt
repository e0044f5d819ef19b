-- The table of mounts, and what each change makes of it.
use Rattle.std.specs.Prelude.{◌≡◌, ℕ, ◌+◌, ◌^◌, ◌<◌, ◌≤◌, Bool, false, not, ◌==◌, if◌then◌else◌, List, [], ◌∷◌, ◌++◌, length, map, filter, find, replicate, slice_get, slice_set, Option, Some}
use Rattle.std.specs.List.{AllByRecursion}
use Rattle.std.specs.Str.{bytes_eq}
use Rattle.sdp.specs.declared.sections.Sections.{Sections}
use Rattle.mounts.specs.declared.mount.Mount.{Mount}
use Rattle.mounts.specs.Different.{AreDifferent}
use Rattle.mounts.specs.Names.{EndsInTrack, IsName}

-- The live mounts in the order in which they were announced, the number that the next one gets, and how many seats each
-- has.
pub record Table : Type 0 where
  pub mounts : List Mount
  pub next : ℕ
  pub seats : ℕ

-- the live mount of a number, of a name, of an owner
abbrev pub numbered : ℕ → List Mount → Option Mount
numbered number mounts = find (λ mount. mount.number == number) mounts

abbrev pub named : List ℕ → List Mount → Option Mount
named name mounts = find (λ mount. bytes_eq name mount.name) mounts

abbrev pub owned_by : ℕ → List Mount → Option Mount
owned_by owner mounts = find (λ mount. mount.owner == owner) mounts

-- A live mount that has a key as its number, its name or its owner, and no other one has it.
pub record IsOnlyOne {A : Type 0} (key : Mount → A) (mounts : List Mount) (is : A) (mount : Mount) : Type 0 where
  pub place : ℕ
  pub live : slice_get mounts place ≡ Some mount
  pub key_is : key mount ≡ is
  pub only : (elsewhere : ℕ) (other : Mount) → slice_get mounts elsewhere ≡ Some other → key other ≡ is → elsewhere ≡ place

-- fewer than 64 mounts are live, and a number is left
pub record HasRoom (table : Table) : Type 0 where
  pub few : length table.mounts < 64
  pub left : table.next ≤ 2 ^ 63

-- a seat of a live mount, and whether it is out
pub record IsSeat (table : Table) (number seat : ℕ) (out : Bool) : Type 0 where
  pub mount : Mount
  pub live : numbered number table.mounts ≡ Some mount
  pub is : slice_get mount.seats seat ≡ Some out

-- no mount yet
abbrev pub no_mounts : ℕ → Table
no_mounts seats = record { mounts = []; next = 1; seats = seats }

-- a mount that was just announced: none of its seats is out
abbrev pub new_mount : Table → ℕ → List ℕ → Sections → Mount
new_mount table owner name description =
    record { number = table.next; owner = owner; name = name; description = description; seats = replicate table.seats false }

-- the table with one mount more, after the others
abbrev pub announced : Table → ℕ → List ℕ → Sections → Table
announced table owner name description =
    record { mounts = table.mounts ++ new_mount table owner name description ∷ []; next = table.next + 1; seats = table.seats }

-- the table without the mount of a number
abbrev pub ended : ℕ → Table → Table
ended number table =
    record { mounts = filter (λ mount. not (mount.number == number)) table.mounts; next = table.next; seats = table.seats }

-- a mount, with a seat out or free
abbrev pub with_seat : ℕ → Bool → Mount → Mount
with_seat seat out mount =
    record { number = mount.number; owner = mount.owner; name = mount.name; description = mount.description; seats = slice_set mount.seats seat out }

-- the table with a seat of the mount of a number out or free
abbrev pub with_seat_of : ℕ → ℕ → Bool → Table → Table
with_seat_of number seat out table =
    record { mounts = map (λ mount. if mount.number == number then with_seat seat out mount else mount) table.mounts; next = table.next; seats = table.seats }

-- What holds of each mount of a table. Its name is none that a track of another mount could have.
pub record IsMountOf (next seats : ℕ) (mount : Mount) : Type 0 where
  pub from_one : 1 ≤ mount.number
  pub below_next : mount.number < next
  pub name : IsName mount.name
  pub no_track : EndsInTrack mount.name → ⊥
  pub seats_are : length mount.seats ≡ seats

-- What holds of each table that the calls lead to: no two mounts share a number, a name or an owner.
pub record IsSound (table : Table) : Type 0 where
  pub numbers : AreDifferent (map (λ mount. mount.number) table.mounts)
  pub names : AreDifferent (map (λ mount. mount.name) table.mounts)
  pub owners : AreDifferent (map (λ mount. mount.owner) table.mounts)
  pub each : AllByRecursion (IsMountOf table.next table.seats) table.mounts
  pub few : length table.mounts ≤ 64
  pub next_from : 1 ≤ table.next
  pub next_to : table.next ≤ 2 ^ 63 + 1
