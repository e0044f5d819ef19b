-- What a SETUP names: one mount, and one track of it or none.
use Rattle.std.proofs.Common.{◌≡◌, ℕ, ◌==◌, List, [], Option, None, Some, refl, sym, subst, ◌∙◌}
use Rattle.std.proofs.lemmas.Bool.{eqb-true}
use Rattle.mounts.specs.declared.mount.Mount.{Mount}
use Rattle.mounts.specs.declared.target.Target.{Target}
use Rattle.mounts.specs.declared.uri.Uri.TheVariants.{At}
use Rattle.mounts.specs.Mounts.{numbered}
use Rattle.mounts.specs.Tracks.{IsNamedBy}
use Rattle.mounts.specs.Uri.{IsUri}
use Rattle.mounts.proofs.Firsts.{found_passes}
use Rattle.session_state.specs.declared.checks.asking.Asking.{Asking}
use Rattle.session_state.specs.declared.method.Method.TheVariants.{Setup}
use Rattle.session_state.specs.declared.session.Session.{Session}
use Rattle.session_state.specs.Asking.{IsNamedForSetup, IsTrackBehind, asked_in}
use Rattle.session_state.specs.Checks.{Asked, NamesForSetup, NamesSome}
use Rattle.session_state.specs.Streams.{IsSetUpOn}
use Rattle.session_state.proofs.CheckedNames.{one_set_up, same_some, same_target}

-- the mount of a number has that number
pub has_number : (number : ℕ) (mounts : List Mount) (mount : Mount) → numbered number mounts ≡ Some mount → mount.number ≡ number
has_number number mounts mount at = eqb-true mount.number number (found_passes (λ (m : Mount). m.number == number) mounts mount at)

-- what one SETUP names is what its URI and its path say
pub same_set_up : (asked : Asked) (target t : Target) (number : ℕ) (rest r : Option (List ℕ)) (m : Mount) → IsUri asked.request.uri (At target)
    → IsSetUpOn asked.mounts asked.conn target.path number rest → NamesForSetup asked t m r → (t ≡ target) × (m.number ≡ number) × (r ≡ rest)
same_set_up asked target t number rest r m uri on h =
    let same : t ≡ target = same_target asked.request.uri t target h.uri uri in
    let one = one_set_up asked.mounts asked.conn target.path m.number number r rest (subst (λ (x : Target). IsSetUpOn asked.mounts asked.conn x.path m.number r) same h.on) on in
    (same, one.0, one.1)

pub set_up_again : (asked : Asked) (target t : Target) (number : ℕ) (rest r : Option (List ℕ)) (mount m : Mount) → IsUri asked.request.uri (At target)
    → IsSetUpOn asked.mounts asked.conn target.path number rest → numbered number asked.mounts ≡ Some mount → NamesForSetup asked t m r → NamesForSetup asked target mount rest
set_up_again asked target t number rest r mount m uri on at h =
    let e = same_set_up asked target t number rest r m uri on h in
    let there : m ≡ mount = same_some m mount (numbered number asked.mounts) (subst (λ n. numbered n asked.mounts ≡ Some m) e.1 h.is) at in
    subst (λ (x : Target). NamesForSetup asked x mount rest) e.0 (subst (λ (y : Mount). NamesForSetup asked t y rest) there (subst (NamesForSetup asked t m) e.2 h))

-- no mount is named where the path names none, where none has the number, where the session is on another, or where the rest
-- of the path names no track
pub nowhere_named : (asked : Asked) (target : Target) → IsUri asked.request.uri (At target) → ((number : ℕ) (rest : Option (List ℕ)) → IsSetUpOn asked.mounts asked.conn target.path number rest → ⊥)
    → NamesSome asked Setup → ⊥
nowhere_named asked target uri none (t, m, r, h) =
    let same : t ≡ target = same_target asked.request.uri t target h.uri uri in
    none m.number r (subst (λ (x : Target). IsSetUpOn asked.mounts asked.conn x.path m.number r) same h.on)

pub none_numbered : (asked : Asked) (target : Target) (number : ℕ) (rest : Option (List ℕ)) → IsUri asked.request.uri (At target) → IsSetUpOn asked.mounts asked.conn target.path number rest
    → numbered number asked.mounts ≡ None → NamesSome asked Setup → ⊥
none_numbered asked target number rest uri on none (t, m, r, h) =
    let e = same_set_up asked target t number rest r m uri on h in
    let at : numbered number asked.mounts ≡ Some m = subst (λ n. numbered n asked.mounts ≡ Some m) e.1 h.is in
    absurd (cc)

pub on_another : (asked : Asked) (target : Target) (number : ℕ) (rest : Option (List ℕ)) → IsUri asked.request.uri (At target) → IsSetUpOn asked.mounts asked.conn target.path number rest
    → (((session : Session) → asked.session ≡ Some session → session.mount ≡ number) → ⊥) → NamesSome asked Setup → ⊥
on_another asked target number rest uri on other (t, m, r, h) =
    let e = same_set_up asked target t number rest r m uri on h in
    other (λ session has. h.same session has ∙ e.1)

pub no_track_named : (asked : Asked) (target : Target) (number : ℕ) (text : List ℕ) (mount : Mount) → IsUri asked.request.uri (At target)
    → IsSetUpOn asked.mounts asked.conn target.path number (Some text) → numbered number asked.mounts ≡ Some mount
    → ((track : ℕ) → IsNamedBy (mount.owner == asked.conn) target text mount.description.tracks track → ⊥) → NamesSome asked Setup → ⊥
no_track_named asked target number text mount uri on at none (t, m, r, h) =
    let one = (set_up_again asked target t number (Some text) r mount m uri on at h).track text refl in
    none one.0 one.1

-- what is named
pub is_named : (asking : Asking) (target : Target) (number : ℕ) (rest : Option (List ℕ)) (mount : Mount) (track : Option ℕ) → IsUri asking.request.now.uri (At target)
    → IsSetUpOn asking.mounts.now.mounts asking.conn target.path number rest → numbered number asking.mounts.now.mounts ≡ Some mount
    → ((session : Session) → (asked_in asking []).session ≡ Some session → session.mount ≡ number) → IsTrackBehind asking.conn target mount rest track → IsNamedForSetup asking target mount track
is_named asking target number rest mount track uri on at same behind =
    let is = has_number number asking.mounts.now.mounts mount at in
    record {
      rest = rest;
      names = λ history. record {
        uri = uri;
        on = subst (λ n. IsSetUpOn asking.mounts.now.mounts asking.conn target.path n rest) (sym is) on;
        is = subst (λ n. numbered n asking.mounts.now.mounts ≡ Some mount) (sym is) at;
        track = λ text e. behind_some text rest track e behind;
        same = λ session has. same session has ∙ sym is;
      };
      track_is = behind;
    }
  where
    behind_some : (text : List ℕ) (rest : Option (List ℕ)) (track : Option ℕ) → rest ≡ Some text → IsTrackBehind asking.conn target mount rest track
        → (t : ℕ) × IsNamedBy (mount.owner == asking.conn) target text mount.description.tracks t
    behind_some text None track e h = absurd (cc)
    behind_some text (Some other) None e h = absurd h
    behind_some text (Some other) (Some t) e h = let same : other ≡ text = cc in (t, subst (λ x. IsNamedBy (mount.owner == asking.conn) target x mount.description.tracks t) same h)
