-- What the checks that stand together for a method tell.
use Rattle.std.proofs.Common.{◌<◌, ◌-◌, ◌^◌, ℕ, [], ◌∷◌, ◌⊎◌, inl, inr, Option, IsSome, refl, subst}
use Rattle.std.specs.Option.{option_copied}
use Rattle.sdp.specs.declared.sections.Sections.{Sections}
use Rattle.sdp.specs.Readings.{Reads}
use Rattle.mounts.specs.declared.mount.Mount.{Mount}
use Rattle.mounts.specs.declared.target.Target.{Target}
use Rattle.mounts.specs.Mounts.{HasRoom}
use Rattle.session_state.specs.declared.checks.asking.Asking.{Asking}
use Rattle.session_state.specs.declared.checks.Check.TheVariants.{FitsState, HasFewTracks, HasRoomForSession, IsDescription, MayAnnounce, NamesAStream}
use Rattle.session_state.specs.declared.method.Method.TheVariants.{Announce, Describe, Setup}
use Rattle.session_state.specs.Asking.{IsNamedForSetup, IsPassing, asked_in}
use Rattle.session_state.specs.Checks.{IsFreeName, NamesMount}
use Rattle.session_state.specs.History.{History}
use Rattle.session_state.specs.Judged.{HasPlaceFor}

pub describes : (asking : Asking) (target : Target) (mount : Mount) → ((history : History) → NamesMount (asked_in asking history) target mount)
    → IsPassing asking (NamesAStream Describe ∷ FitsState Describe ∷ [])
describes asking target mount names = λ history told. ((target, mount, names history), (refl, tt))

pub announces : (asking : Asking) → IsPassing asking (FitsState Announce ∷ []) → IsPassing asking (NamesAStream Announce ∷ FitsState Announce ∷ [])
announces asking fits = λ history told. (tt, fits history told)

pub announces_free : (asking : Asking) (target : Target) → ((history : History) → IsFreeName (asked_in asking history) target) → IsPassing asking (MayAnnounce ∷ [])
announces_free asking target free = λ history told. ((target, free history), tt)

pub announces_body : (asking : Asking) (description : Sections) → Reads asking.request.now.body description → IsPassing asking (IsDescription ∷ HasFewTracks ∷ [])
announces_body asking description reads = λ history told. (inl (description, reads), ((description, reads), tt))

-- a mount can be made where the name is free and there is room
pub place_there : (asking : Asking) (target : Target) → ((history : History) → IsFreeName (asked_in asking history) target) → HasRoom asking.mounts.now → HasPlaceFor asking.mounts.now asking.conn target.path
place_there asking target free room = let is = free [] in record { room = room; name_is = is.name; no_track = is.plain; free = is.free; first = is.first }

pub sets_up : (asking : Asking) (target : Target) (mount : Mount) (track : Option ℕ) → IsNamedForSetup asking target mount track → IsPassing asking (NamesAStream Setup ∷ [])
sets_up asking target mount track named = λ history told. ((target, mount, named.rest, named.names history), tt)

pub session_fits : (asking : Asking) → IsSome (option_copied asking.session) ⊎ (asking.begun < 2 ^ 32 - 1) → IsPassing asking (HasRoomForSession ∷ [])
session_fits asking (inl has) = λ history told. (inl has, tt)
session_fits asking (inr left) = λ history told. (inr (subst (λ n. n < 2 ^ 32 - 1) told.begun left), tt)
