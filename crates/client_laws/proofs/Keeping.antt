-- What stays of a connection's phase whatever an entry of another connection is.
use Rattle.std.proofs.Common.{◌≡◌, ℕ, ◌&&◌, Bool, false, List, ◌∷◌, ◌⊎◌, inl, inr, is_some, Option, refl, ap, ◌∙◌}
use Rattle.session_state.specs.declared.entry.Entry.{Entry}
use Rattle.session_state.specs.declared.entry.Entry.TheVariants.{Connect, Request, HangUp, Back, Expire}
use Rattle.session_state.specs.declared.method.Method.{Method}
use Rattle.session_state.specs.declared.session.State.{State}
use Rattle.session_state.specs.declared.session.State.TheVariants.{Ready, Recording as Recorded}
use Rattle.session_state.specs.History.{History, accepts_from}
use Rattle.session_state.specs.Lookups.{beginning, has_session, session_part, state_of}
use Rattle.session_state.specs.Methods.{is_announce, is_teardown, moves}
use Rattle.session_state.specs.Streams.{IsLive, ends_mount_of, ends_of, is_end}
use Rattle.session_state.proofs.Living.{lives_on}
use Rattle.session_state.proofs.Owners.{IsNewest, newest_or_earlier}
use Rattle.session_state.proofs.Parts.{of_another, part_still}
use Rattle.client_laws.specs.Course.{Announced, Ended, Fresh, IsAt, Recording, SettingUp, Stage, is_of}
use Rattle.client_laws.specs.Phases.{IsFresh, IsInSession, Owns}
use Rattle.client_laws.specs.Publishing.{Publication}

-- An entry that leaves a connection's mount and its session, and announces none of its.
pub record Spares (conn : ℕ) (entry : Entry) : Type 0 where
  pub mount : ends_mount_of conn entry ≡ false
  pub session : ends_of conn entry ≡ false
  pub state : accepts_from conn moves entry ≡ false
  pub no_announce : accepts_from conn is_announce entry ≡ false

pub others_spare : (conn : ℕ) (entry : Entry) → is_of conn entry ≡ false → Spares conn entry
others_spare conn (Connect who) other = record { mount = refl; session = refl; state = refl; no_announce = refl }
others_spare conn (Request who request given reply act) other =
    let none : (such : Method → Bool) → accepts_from conn such (Request who request given reply act) ≡ false = λ such. of_another who conn such request given reply act other in
    record { mount = none is_teardown; session = none is_teardown; state = none moves; no_announce = none is_announce }
others_spare conn (HangUp who act) other = record { mount = other; session = other; state = refl; no_announce = refl }
others_spare conn (Back mount seat) other = record { mount = refl; session = refl; state = refl; no_announce = refl }
others_spare conn (Expire who heard now act) other = record { mount = ap (λ b. b && is_end act) other; session = other; state = refl; no_announce = refl }

-- a mount that isn't ended stays its owner's
unfoldable pub owns_still : (conn : ℕ) (publication : Publication) (history : History) (entry : Entry) → ends_mount_of conn entry ≡ false → Owns conn publication history → Owns conn publication (entry ∷ history)
unfolding lives_on
owns_still conn publication history entry on owns = record { number = owns.number; live = lives_on history entry owns.number conn owns.live on; announced = owns.announced }

module _ (seats conn : ℕ) (publication : Publication) (history : History) (entry : Entry) (spares : Spares conn entry) where
  part : session_part conn (entry ∷ history) ≡ session_part conn history
  part = part_still conn entry history spares.session spares.state

  no_session_still : has_session conn history ≡ false → has_session conn (entry ∷ history) ≡ false
  no_session_still none = ap (λ moments. is_some (beginning conn moments)) part ∙ none

  fresh_still : IsFresh conn history → IsFresh conn (entry ∷ history)
  fresh_still fresh = record {
    owns_none = λ number live. by number (newest_or_earlier history entry number conn live);
    no_session = no_session_still fresh.no_session;
  }
    where
      by : (number : ℕ) → IsNewest history entry number conn ⊎ IsLive history number conn → ⊥
      by number (inl newest) = let owned = newest.owned in let none = spares.no_announce in absurd (cc)
      by number (inr live) = fresh.owns_none number live

  in_session_still : (told : Option (List ℕ)) (state : State) → IsInSession seats conn publication told state history → IsInSession seats conn publication told state (entry ∷ history)
  unfolding owns_still
  in_session_still told state is = record {
    owns = owns_still conn publication history entry spares.mount is.owns;
    begin = is.begin;
    first = ap (beginning conn) part ∙ is.first;
    of_mount = is.of_mount;
    word = is.word;
    word_is = is.word_is;
    told_is = is.told_is;
    state_is = ap state_of part ∙ is.state_is;
  }

  pub stays : (stage : Stage) → IsAt seats conn publication history stage → IsAt seats conn publication (entry ∷ history) stage
  stays Fresh is = fresh_still is
  stays Announced is = record { owns = owns_still conn publication history entry spares.mount is.owns; no_session = no_session_still is.no_session }
  stays (SettingUp tracks told) is = in_session_still told Ready is
  stays (Recording told) is = in_session_still told Recorded is
  stays Ended is = tt
