-- What the tables stand for when a session has expired.
use Rattle.std.proofs.Common.{◌≡◌, ℕ, ◌+◌, ◌≤◌, ◌==◌, ◌&&◌, max, Bool, true, false, cond, if◌then◌else◌, ◌∷◌, is_some, IsSome, Option, None, Some, refl, ap, sym, ◌∙◌, subst, arith}
use Rattle.std.specs.Option.{option_and_then, option_map}
use Rattle.mounts.specs.declared.mount.Mount.{Mount}
use Rattle.mounts.specs.Mounts.{IsSound, owned_by}
use Rattle.session_state.specs.declared.act.Act.{Act}
use Rattle.session_state.specs.declared.entry.Entry.{Entry}
use Rattle.session_state.specs.declared.entry.Entry.TheVariants.{Expire}
use Rattle.session_state.specs.declared.session.Session.{Session}
use Rattle.session_state.specs.declared.world.connection.Connection.{Connection}
use Rattle.session_state.specs.History.{History}
use Rattle.session_state.specs.Legal.{IsExpiry}
use Rattle.session_state.specs.Lookups.{IsSessionOf, beginning, is_open}
use Rattle.session_state.specs.Replies.{teardown_act}
use Rattle.session_state.specs.Stands.{ChangesSession, HasExpired, Stands, Tables, connection_of, kept_of, session_kept, without_owned}
use Rattle.session_state.specs.Streams.{AreLive, ends_mount_of, is_end}
use Rattle.session_state.proofs.Going.{mounts_after, same_next, same_seats, sound_after}
use Rattle.session_state.proofs.Kept.{heard_kept, kept_changed}
use Rattle.session_state.proofs.Living.{LeavesMounts, each_of, mounts_still}
use Rattle.session_state.proofs.Parts.{part_ends, part_still, session_still}
use Rattle.session_state.proofs.Strangers.{still_heard}

-- a session that has expired by the tables has expired by the history
pub is_expiry : (history : History) (tables : Tables) (conn heard now : ℕ) (act : Act) → Stands history tables → HasExpired tables conn heard now → act ≡ teardown_act (session_kept tables conn)
    → IsExpiry tables.mounts.seats history conn heard now act
is_expiry history tables conn heard now act stands expired does = by expired.kept.session refl expired.session
  where
    there : kept_of conn tables.connections ≡ Some expired.kept.session
    there = ap (option_map (λ (k : Connection). k.session)) expired.there

    by : (session : Option Session) → expired.kept.session ≡ session → IsSome session → IsExpiry tables.mounts.seats history conn heard now act
    by None is some = absurd (cc)
    by (Some session) is some =
        let kept : kept_of conn tables.connections ≡ Some (Some session) = there ∙ ap Some is in
        let moment = stands.heard conn expired.kept.heard (ap (option_map (λ (k : Connection). k.heard)) expired.there) in
        record {
          is_there = sym (stands.recalls.are_open conn) ∙ ap is_some kept;
          session = session;
          has = stands.recalls.sessions conn (Some session) kept;
          late = subst (λ n. max n heard + 60000 ≤ now) moment expired.late;
          does = does ∙ ap (λ k. teardown_act (option_and_then (λ one. one) k)) kept;
        }

-- and the other way round
pub has_expired : (history : History) (tables : Tables) (conn heard now : ℕ) (act : Act) → Stands history tables → IsExpiry tables.mounts.seats history conn heard now act → HasExpired tables conn heard now
has_expired history tables conn heard now act stands expiry = by (connection_of conn tables.connections) refl (stands.recalls.are_open conn ∙ expiry.is_there)
  where
    with_session : (kept : Connection) → connection_of conn tables.connections ≡ Some kept → (session : Option Session) → kept.session ≡ session → HasExpired tables conn heard now
    with_session kept at None none =
        let no_session = stands.recalls.sessions conn None (ap (option_map (λ (k : Connection). k.session)) at ∙ ap Some none) in
        let first = ap is_some expiry.has.first in
        absurd (cc)
    with_session kept at (Some session) some =
        let moment = stands.heard conn kept.heard (ap (option_map (λ (k : Connection). k.heard)) at) in
        record { kept = kept; there = at; session = subst IsSome (sym some) refl; late = subst (λ n. max n heard + 60000 ≤ now) (sym moment) expiry.late }

    by : (found : Option Connection) → connection_of conn tables.connections ≡ found → is_some (kept_of conn tables.connections) ≡ true → HasExpired tables conn heard now
    by None at some = let none = ap (λ found. is_some (option_map (λ (k : Connection). k.session) found)) at in absurd (cc)
    by (Some kept) at some = with_session kept at kept.session refl

-- the mount that ends with a session: that of its connection, where it was for recording
abbrev pub ended_with : Act → Option Mount → Option Mount
ended_with act owned = if is_end act then owned else None

abbrev gone : Option Session → Option Session
gone session = None

leaves : (conn heard now : ℕ) (act : Act) → LeavesMounts (Expire conn heard now act)
leaves conn heard now act = record { plain = refl; seats = λ mount seat. refl }

module _ (history : History) (old new : Tables) (conn heard now : ℕ) (act : Act) (stands : Stands history old) where
  abbrev entry : Entry
  entry = Expire conn heard now act

  abbrev ended : Option Mount
  ended = ended_with act (owned_by conn old.mounts.mounts)

  mounts_left : AreLive old.mounts.seats (Expire conn heard now act ∷ history) (without_owned (ended_with act (owned_by conn old.mounts.mounts)) old.mounts).mounts
  mounts_left = by (is_end act) refl
    where
      and_so : (same is : Bool) → is ≡ true → (same && is) ≡ same
      and_so true is so = so
      and_so false is so = refl

      and_not : (same is : Bool) → is ≡ false → (same && is) ≡ false
      and_not true is so = so
      and_not false is so = refl

      by : (is : Bool) → is_end act ≡ is → AreLive old.mounts.seats (Expire conn heard now act ∷ history) (without_owned (cond (is_end act) (owned_by conn old.mounts.mounts) None) old.mounts).mounts
      by true is =
          mounts_after old.mounts.seats history conn entry old.mounts ended (leaves conn heard now act) (λ owner. and_so (conn == owner) (is_end act) is) stands.recalls.sound
          (ap (λ b. cond b (owned_by conn old.mounts.mounts) None) (sym is)) stands.recalls.mounts
      by false is =
          subst (λ b. AreLive old.mounts.seats (entry ∷ history) (without_owned (cond b (owned_by conn old.mounts.mounts) None) old.mounts).mounts) (sym is)
          (mounts_still old.mounts.seats history entry old.mounts.mounts (leaves conn heard now act)
          (each_of (λ mount. ends_mount_of mount.owner entry ≡ false) old.mounts.mounts (λ mount. and_not (conn == mount.owner) (is_end act) is)) stands.recalls.mounts)

  pub expired_so : ChangesSession conn (λ _. None) (record old { mounts = without_owned (ended_with act (owned_by conn old.mounts.mounts)) old.mounts }) new → Stands (Expire conn heard now act ∷ history) new
  expired_so changes = record {
    recalls = record {
      sound = subst IsSound (sym changes.mounts) (sound_after old.mounts ended stands.recalls.sound);
      mounts = subst (λ table. AreLive table.seats (entry ∷ history) table.mounts) (sym changes.mounts)
          (subst (λ seats. AreLive seats (entry ∷ history) (without_owned ended old.mounts).mounts) (sym (same_seats old.mounts ended)) mounts_left);
      next = ap (λ table. table.next) changes.mounts ∙ same_next old.mounts ended ∙ stands.recalls.next;
      are_open = λ other. opened other (kept_of other old.connections) refl;
      sessions = kept;
      came_is = changes.came ∙ stands.recalls.came_is;
      gone = let count = changes.count in let gone = stands.recalls.gone in omega (arith, count, gone);
      begun_is = changes.begun ∙ stands.recalls.begun_is;
    };
    heard = λ other moment there.
        stands.heard other moment (sym (heard_kept conn gone mid new changes other) ∙ there) ∙ sym (still_heard other entry history refl);
  }
    where
      mid : Tables
      mid = record old { mounts = without_owned (ended_with act (owned_by conn old.mounts.mounts)) old.mounts }

      each : (other : ℕ) → kept_of other new.connections ≡ cond (conn == other) (option_map gone (kept_of other old.connections)) (kept_of other old.connections)
      each other = kept_changed conn gone mid new changes other

      opened : (other : ℕ) (found : Option (Option Session)) → kept_of other old.connections ≡ found → is_some (kept_of other new.connections) ≡ is_open other (entry ∷ history)
      opened other found at = ap is_some (each other ∙ ap (λ k. cond (conn == other) (option_map gone k) k) at) ∙ same (conn == other) found ∙ sym (ap is_some at) ∙ stands.recalls.are_open other
        where
          same : (mine : Bool) (k : Option (Option Session)) → is_some (cond mine (option_map gone k) k) ≡ is_some k
          same true None = refl
          same true (Some s) = refl
          same false k = refl

      kept : (other : ℕ) (session : Option Session) → kept_of other new.connections ≡ Some session → IsSessionOf new.mounts.seats other (entry ∷ history) session
      kept other session there =
          subst (λ seats. IsSessionOf seats other (entry ∷ history) session) (sym (ap (λ table. table.seats) changes.mounts ∙ same_seats old.mounts ended))
          (by (conn == other) refl (kept_of other old.connections) refl (sym (each other) ∙ there))
        where
          ended_now : (session : Option Session) → None ≡ session → (conn == other) ≡ true → IsSessionOf old.mounts.seats other (entry ∷ history) session
          ended_now None is same = ap (λ part. is_some (beginning other part)) (part_ends other entry history same)
          ended_now (Some session) is same = absurd (cc)

          by : (mine : Bool) → (conn == other) ≡ mine → (found : Option (Option Session)) → kept_of other old.connections ≡ found
              → cond mine (option_map gone (kept_of other old.connections)) (kept_of other old.connections) ≡ Some session
              → IsSessionOf old.mounts.seats other (entry ∷ history) session
          by true same None at is = let none = sym (ap (option_map gone) at) ∙ is in absurd (cc)
          by true same (Some earlier) at is =
              let both = sym (ap (option_map gone) at) ∙ is in
              let now : None ≡ session = cc in
              ended_now session now same
          by false apart found at is = session_still old.mounts.seats other history (entry ∷ history) session (part_still other entry history apart refl) (stands.recalls.sessions other session is)
