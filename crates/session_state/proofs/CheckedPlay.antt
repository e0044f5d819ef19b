-- What the checks of a PLAY, RECORD, PAUSE or TEARDOWN tell after that of what it names.
use Rattle.std.proofs.Common.{◌≡◌, ◌<◌, ◌==◌, ℕ, zero, suc, Bool, true, false, not, List, [], ◌∷◌, length, slice_get, get_or, count_by, Some, IsSome, refl, sym, ap, subst, ◌∙◌, arith}
use Rattle.std.specs.Option.{option_copied}
use Rattle.std.proofs.lemmas.Option.{slice_get-get_or}
use Rattle.transport_header.specs.Tracks.{pair_at}
use Rattle.mounts.specs.declared.mount.Mount.{Mount}
use Rattle.mounts.specs.declared.target.Target.{Target}
use Rattle.mounts.specs.Mounts.{numbered}
use Rattle.mounts.proofs.Firsts.{found_all}
use Rattle.mounts.proofs.FreeSeats.{some_free}
use Rattle.session_state.specs.declared.checks.asking.Asking.{Asking}
use Rattle.session_state.specs.declared.checks.Check.TheVariants.{HasFreeSeat, IsAggregate}
use Rattle.session_state.specs.declared.session.Session.{Session}
use Rattle.session_state.specs.declared.session.State.TheVariants.{Ready}
use Rattle.session_state.specs.Asking.{IsNamedInSession, IsToldBy, asked_in}
use Rattle.session_state.specs.Checks.{NamesAll, NamesOfSession, Passes}
use Rattle.session_state.specs.History.{History}
use Rattle.session_state.specs.Streams.{IsLiveMount, is_out}
use Rattle.session_state.proofs.CheckedNames.{same_some, same_target}
use Rattle.session_state.proofs.CheckedSetUp.{has_number}

-- a track that isn't the only one
pub not_aggregate : (asking : Asking) (target : Target) (session : Session) (track : ℕ) → IsNamedInSession asking target session (Some track)
    → (((other : ℕ) → IsSome (pair_at session.channels other) → other ≡ track) → ⊥) → (history : History) → IsToldBy history asking → Passes (asked_in asking history) IsAggregate → ⊥
not_aggregate asking target session track named several history told (s, t, which, names, all) =
    let same : s ≡ session = same_some s session (option_copied asking.session) names.has named.has in
    let uri : t ≡ target = same_target asking.request.now.uri t target names.uri (named.names history told).uri in
    let named_of : NamesOfSession (asked_in asking history) session target which =
    subst (λ (x : Target). NamesOfSession (asked_in asking history) session x which) uri (subst (λ (x : Session). NamesOfSession (asked_in asking history) x t which) same names.names) in
    let alone : NamesAll (asked_in asking history) session (Some track) =
    subst (NamesAll (asked_in asking history) session) (named.only history told which named_of) (subst (λ (x : Session). NamesAll (asked_in asking history) x which) same all) in
    several alone

-- some seat is free where one is counted
free_there : (seats : List Bool) → 0 < count_by not seats → (seat : ℕ) × (seat < length seats) × (slice_get seats seat ≡ Some false)
free_there [] some = absurd (omega (arith, some))
free_there (false ∷ seats) some = (zero, omega arith, refl)
free_there (true ∷ seats) some = let rest = free_there seats some in let low = rest.1 in (suc rest.0, omega (arith, low), rest.2)

live_mount : (asking : Asking) (history : History) (number : ℕ) (mount : Mount) → IsToldBy history asking → numbered number asking.mounts.now.mounts ≡ Some mount
    → IsLiveMount asking.mounts.now.seats history mount
live_mount asking history number mount told at = found_all (IsLiveMount asking.mounts.now.seats history) (λ (m : Mount). m.number == number) asking.mounts.now.mounts mount told.mounts.each at

-- a mount with a free seat, and one without
pub seat_passes : (asking : Asking) (session : Session) (mount : Mount) → option_copied asking.session ≡ Some session → numbered session.mount asking.mounts.now.mounts ≡ Some mount
    → 0 < count_by not mount.seats → (history : History) → IsToldBy history asking → Passes (asked_in asking history) HasFreeSeat
seat_passes asking session mount has at some history told s s_has ready =
    let live = live_mount asking history session.mount mount told at in
    let free = free_there mount.seats some in
    let low = free.1 in
    let seats_are = live.seats_are in
    let number : mount.number ≡ s.mount = has_number session.mount asking.mounts.now.mounts mount at ∙ ap (λ (x : Session). x.mount) (same_some session s (option_copied asking.session) has s_has) in
    (free.0, omega (arith, low, seats_are), subst (λ n. is_out n free.0 history ≡ false) number (sym (live.out free.0 false free.2)))

pub seat_fails : (asking : Asking) (session : Session) (mount : Mount) → option_copied asking.session ≡ Some session → session.state ≡ Ready → numbered session.mount asking.mounts.now.mounts ≡ Some mount
    → (0 < count_by not mount.seats → ⊥) → (history : History) → IsToldBy history asking → Passes (asked_in asking history) HasFreeSeat → ⊥
seat_fails asking session mount has ready at none history told passes =
    let live = live_mount asking history session.mount mount told at in
    let free = passes session has ready in
    let low = free.1 in
    let seats_are = live.seats_are in
    let there = slice_get-get_or mount.seats free.0 true (omega (arith, low, seats_are)) in
    let number : session.mount ≡ mount.number = sym (has_number session.mount asking.mounts.now.mounts mount at) in
    let is : get_or mount.seats free.0 true ≡ false = live.out free.0 (get_or mount.seats free.0 true) there ∙ subst (λ n. is_out n free.0 history ≡ false) number free.2 in
    none (some_free mount.seats free.0 (there ∙ ap Some is))
