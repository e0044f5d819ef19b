-- What the changes of the kept mounts make of the table.
use Rattle.std.proofs.Common.{◌≡◌, ℕ, ◌<◌, ◌==◌, Bool, false, not, None, Some, List, sym, ap, subst, ◌∙◌, slice_get, slice_set, position, remove}
use Rattle.std.specs.List.{count_by}
use Rattle.mounts.specs.declared.mount.Mount.{Mount}
use Rattle.mounts.specs.Mounts.{Table, IsSeat, IsSound, ended, with_seat, with_seat_of}
use Rattle.mounts.proofs.Differing.{filter_none, none_has, remove_is_filter, set_is_change}
use Rattle.mounts.proofs.Firsts.{find_without_position}
use Rattle.mounts.proofs.FreeSeats.{some_free}
use Rattle.mounts.proofs.Indexed.{IsAt, IsReadAt}

-- the table with other mounts
abbrev pub with_mounts : Table → List Mount → Table
with_mounts table mounts = record { mounts = mounts; next = table.next; seats = table.seats }

pub removed : (table : Table) (number place : ℕ) → IsSound table → IsAt table.mounts number place → with_mounts table (remove table.mounts place) ≡ ended number table
removed table number place sound at = ap (with_mounts table) (remove_is_filter (λ m. m.number) table.mounts place at.mount number sound.numbers at.there at.number_is)

-- ending what isn't there
pub not_removed : (table : Table) (number : ℕ) → position (λ m. m.number == number) table.mounts ≡ None → table ≡ ended number table
not_removed table number none =
    sym (ap (with_mounts table) (filter_none (λ m. m.number) number table.mounts (none_has (λ m. m.number) number table.mounts (find_without_position (λ m. m.number == number) table.mounts none))))

-- a mount with other seats
abbrev pub with_seats : Mount → List Bool → Mount
with_seats mount seats = record { number = mount.number; owner = mount.owner; name = mount.name; description = mount.description; seats = seats }

pub seated : (table : Table) (number place seat : ℕ) (out : Bool) (mount : Mount) (seats : List Bool) → IsSound table → IsReadAt table.mounts number place mount
    → seats ≡ slice_set mount.seats seat out → with_mounts table (slice_set table.mounts place (with_seats mount seats)) ≡ with_seat_of number seat out table
seated table number place seat out mount seats sound at is =
    ap (λ s. with_mounts table (slice_set table.mounts place (with_seats mount s))) is
    ∙ ap (with_mounts table) (set_is_change (λ m. m.number) (with_seat seat out) table.mounts place mount number sound.numbers at.there at.number_is)

-- a mount that isn't there has no seat
pub no_seat : (table : Table) (number seat : ℕ) (out : Bool) → position (λ m. m.number == number) table.mounts ≡ None → IsSeat table number seat out → ⊥
no_seat table number seat out none h = let live = h.live in let gone = find_without_position (λ m. m.number == number) table.mounts none in absurd (cc)

-- a seat of a mount is one of the mount that was read
pub seat_of : (table : Table) (number place seat : ℕ) (out : Bool) (mount : Mount) → IsReadAt table.mounts number place mount → IsSeat table number seat out → slice_get mount.seats seat ≡ Some out
seat_of table number place seat out mount at h = by h.mount mount (sym h.live ∙ at.live) h.is
  where
    by : (a b : Mount) → Some a ≡ Some b → slice_get a.seats seat ≡ Some out → slice_get b.seats seat ≡ Some out
    by a b e is = let same : a ≡ b = cc in subst (λ m. slice_get m.seats seat ≡ Some out) same is

pub no_free_seat : (table : Table) (number place seat : ℕ) (mount : Mount) → IsReadAt table.mounts number place mount → (0 < count_by not mount.seats → ⊥) → IsSeat table number seat false → ⊥
no_free_seat table number place seat mount at none h = none (some_free mount.seats seat (seat_of table number place seat false mount at h))
