-- What the checks of an ANNOUNCE tell.
use Rattle.std.proofs.Common.{◌≢◌, [], ◌∷◌, inl, inr, refl, subst, arith}
use Rattle.sdp.specs.declared.fault.SdpFault.{SdpFault}
use Rattle.sdp.specs.declared.fault.SdpFault.TheVariants.{NoVersion, BadLine, UnknownLetter, BadMedia, NoMedia, TooManyTracks, OutOfMemory}
use Rattle.sdp.specs.Readings.{IsRefused}
use Rattle.sdp.proofs.OneReading.{no_refusal, one_refusal}
use Rattle.mounts.specs.declared.target.Target.{Target}
use Rattle.mounts.specs.declared.uri.Uri.TheVariants.{At}
use Rattle.mounts.specs.Mounts.{HasRoom}
use Rattle.mounts.specs.Uri.{IsUri}
use Rattle.session_state.specs.declared.checks.asking.Asking.{Asking}
use Rattle.session_state.specs.declared.checks.Check.TheVariants.{MayAnnounce, HasFewTracks, HasRoomForMount, IsDescription}
use Rattle.session_state.specs.Asking.{IsPassing, IsRefusedAt, IsToldBy, asked_in, refusal_for}
use Rattle.session_state.specs.Checks.{Asked, HasMountLeft, IsFreeName, Passes}
use Rattle.session_state.specs.History.{History}
use Rattle.session_state.proofs.CheckedNames.{same_target}

-- where a path isn't a free name, no URI of the request has one
pub none_free : (asked : Asked) (target : Target) → IsUri asked.request.uri (At target) → (IsFreeName asked target → ⊥) → Passes asked MayAnnounce → ⊥
none_free asked target uri not (t, free) = not (subst (IsFreeName asked) (same_target asked.request.uri t target free.uri uri) free)

-- a body that is refused for a fault is no description, and has too many tracks only for that
no_description : (asked : Asked) (fault : SdpFault) → fault ≢ OutOfMemory → fault ≢ TooManyTracks → IsRefused asked.request.body fault → Passes asked IsDescription → ⊥
no_description asked fault memory many refused (inl (description, reads)) = no_refusal asked.request.body description fault memory reads refused
no_description asked fault memory many refused (inr too_many) = many (one_refusal asked.request.body fault TooManyTracks memory (λ e. absurd (cc)) refused too_many)

pub undescribed : (asking : Asking) (fault : SdpFault) → IsRefused asking.request.now.body fault → IsRefusedAt asking (IsDescription ∷ HasFewTracks ∷ []) (refusal_for fault)
undescribed asking NoVersion refused = λ history told. inl (refl, no_description (asked_in asking history) NoVersion (λ e. absurd (cc)) (λ e. absurd (cc)) refused)
undescribed asking BadLine refused = λ history told. inl (refl, no_description (asked_in asking history) BadLine (λ e. absurd (cc)) (λ e. absurd (cc)) refused)
undescribed asking UnknownLetter refused = λ history told. inl (refl, no_description (asked_in asking history) UnknownLetter (λ e. absurd (cc)) (λ e. absurd (cc)) refused)
undescribed asking BadMedia refused = λ history told. inl (refl, no_description (asked_in asking history) BadMedia (λ e. absurd (cc)) (λ e. absurd (cc)) refused)
undescribed asking NoMedia refused = λ history told. inl (refl, no_description (asked_in asking history) NoMedia (λ e. absurd (cc)) (λ e. absurd (cc)) refused)
undescribed asking TooManyTracks refused = λ history told.
    inr (inr refused, inl (refl, λ h. no_refusal asking.request.now.body h.0 TooManyTracks (λ e. absurd (cc)) h.1 refused))
undescribed asking OutOfMemory refused = tt

-- one more mount may be made where the table has room, and nowhere else
pub room_passes : (asking : Asking) → HasRoom asking.mounts.now → IsPassing asking (HasRoomForMount ∷ [])
room_passes asking room = λ history told.
    let left = room.left in
    let next = told.next in
    (record { few = room.few; left = omega (arith, left, next) }, tt)

pub room_needed : (asking : Asking) (history : History) → IsToldBy history asking → HasMountLeft (asked_in asking history) → HasRoom asking.mounts.now
room_needed asking history told is =
    let left = is.left in
    let next = told.next in
    record { few = is.few; left = omega (arith, left, next) }
