-- The spare passes of the mounts that live: each seat's pass stands at its place while the seat isn't out.
use Rattle.std.specs.Prelude.{◌≡◌, ℕ, ◌==◌, not, if◌then◌else◌, List, map, filter, find, length, get_or, slice_get, slice_set, is_none, count_by, Option, None, Some}
use Rattle.std.specs.List.{AllByRecursion, sum_by}
use Rattle.std.specs.Option.{option_and_then}
use Rattle.mounts.specs.Different.{AreDifferent}
use Rattle.session_state.specs.declared.act.Act.{Act}
use Rattle.session_state.specs.declared.act.Act.TheVariants as acts
use Rattle.session_state.specs.declared.entry.Entry.{Entry}
use Rattle.session_state.specs.History.{History}
use Rattle.session_state.specs.Streams.{IsLive, ends_mount_of, is_out}
use Rattle.session_lock.specs.declared.spares.MountPasses.{MountPasses}

module _ {P : Type 0} where
  -- the mount of a number
  abbrev pub of_number : ℕ → List (MountPasses P) → Option (MountPasses P)
  of_number number mounts = find (λ one. one.number == number) mounts

  abbrev pub of_owner : ℕ → List (MountPasses P) → Option (MountPasses P)
  of_owner owner mounts = find (λ one. one.owner == owner) mounts

  -- the pass of a seat, where it is there
  abbrev pub pass_at : (number seat : ℕ) → List (MountPasses P) → Option P
  pass_at number seat mounts = option_and_then (λ one. get_or one.passes seat None) (of_number number mounts)

  abbrev pub with_place : (seat : ℕ) → Option P → MountPasses P → MountPasses P
  with_place seat pass one = record { number = one.number; owner = one.owner; passes = slice_set one.passes seat pass }

  -- the passes, with this at a seat
  abbrev pub with_pass : (number seat : ℕ) → Option P → List (MountPasses P) → List (MountPasses P)
  with_pass number seat pass mounts = map (λ one. if one.number == number then with_place seat pass one else one) mounts

  -- the passes without those of the mounts that an entry ends
  abbrev pub unended : Entry → List (MountPasses P) → List (MountPasses P)
  unended entry mounts = filter (λ one. not (ends_mount_of one.owner entry)) mounts

  -- the passes without that of the seat that an act takes
  abbrev pub left_by : Act → List (MountPasses P) → List (MountPasses P)
  left_by (acts.Play mount seat) mounts = with_pass mount seat None mounts
  left_by act mounts = mounts

  -- the pass that goes with an act
  abbrev pub handed_out : Act → List (MountPasses P) → Option P
  handed_out (acts.Play mount seat) mounts = pass_at mount seat mounts
  handed_out act mounts = None

  -- the passes without those of an owner's mount
  abbrev pub without : (owner : ℕ) → List (MountPasses P) → List (MountPasses P)
  without owner mounts = filter (λ one. not (one.owner == owner)) mounts

  -- how many seats are out
  abbrev pub out_of : MountPasses P → ℕ
  out_of one = count_by is_none one.passes

  abbrev pub out_count : List (MountPasses P) → ℕ
  out_count mounts = sum_by out_of mounts

  -- The passes of a mount that lives, by seat.
  pub record IsSpareOf (seats : ℕ) (history : History) (one : MountPasses P) : Type 0 where
    pub live : IsLive history one.number one.owner
    pub seats_are : length one.passes ≡ seats
    pub out : (seat : ℕ) (place : Option P) → slice_get one.passes seat ≡ Some place → is_none place ≡ is_out one.number seat history

  -- These are the spare passes of the mounts that live, each mount once.
  pub record AreSpare (seats : ℕ) (history : History) (mounts : List (MountPasses P)) : Type 0 where
    pub each : AllByRecursion (IsSpareOf seats history) mounts
    pub all : (number owner : ℕ) → IsLive history number owner → (one : MountPasses P) × (of_number number mounts ≡ Some one) × (one.owner ≡ owner)
    pub once : AreDifferent (map (λ one. one.number) mounts)
