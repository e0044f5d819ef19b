-- What a request does to the spare passes, by its method where it was accepted.
use Rattle.std.specs.Prelude.{◌≡◌, ◌<◌, ℕ, List, [], ◌∷◌, ◌++◌, map, Option, None, Some}
use Rattle.session_state.specs.declared.act.Act.{Act}
use Rattle.session_state.specs.declared.method.Method.{Method}
use Rattle.session_state.specs.declared.method.Method.TheVariants.{Announce, Teardown}
use Rattle.session_lock.specs.declared.spares.MountPasses.{MountPasses}
use Rattle.session_lock.specs.Held.{Held}
use Rattle.session_lock.specs.Spares.{handed_out, left_by, of_number, of_owner, without}

-- an accepted ANNOUNCE takes its offer, and every other offer comes back
abbrev pub back_after : {A : Type 0} → Option Method → Option A → Option A
back_after (Some Announce) offer = None
back_after method offer = offer

module _ {P : Type 0} where
  -- a mount that was just announced, with what was offered
  abbrev pub announced : (owner number : ℕ) → Option (List P) → List (MountPasses P)
  announced owner number None = []
  announced owner number (Some offer) = record { number = number; owner = owner; passes = map (λ pass. Some pass) offer } ∷ []

  -- ANNOUNCE puts the offer in by place, TEARDOWN drops the passes of the connection's mount, PLAY hands one out
  abbrev pub passes_after : (owner number : ℕ) → Option Method → Act → Option (List P) → List (MountPasses P) → List (MountPasses P)
  passes_after owner number (Some Announce) act offer mounts = mounts ++ announced owner number offer
  passes_after owner number (Some Teardown) act offer mounts = without owner mounts
  passes_after owner number method act offer mounts = left_by act mounts

  -- the pass that goes with a request
  abbrev pub pass_after : Option Method → Act → List (MountPasses P) → Option P
  pass_after (Some Announce) act mounts = None
  pass_after (Some Teardown) act mounts = None
  pass_after method act mounts = handed_out act mounts

  -- A mount may be added: there is room, and none has its number or its owner.
  pub record CanBegin (held : Held P) (owner number : ℕ) : Type 0 where
    pub room : 0 < held.room
    pub number_new : of_number number held.mounts ≡ None
    pub owner_new : of_owner owner held.mounts ≡ None
