-- What the tables stand for after a request.
use Rattle.std.proofs.Common.{◌≡◌, ◌≢◌, ℕ, suc, ◌+◌, ◌==◌, max, Bool, true, false, cond, if◌then◌else◌, ◌∷◌, length, is_some, Option, None, Some, refl, ap, sym, ◌∙◌, subst, arith}
use Rattle.std.specs.Option.{option_map}
use Rattle.std.proofs.lemmas.Bool.{eqb-true}
use Rattle.rtsp_message.specs.declared.request.Request as messages
use Rattle.rtsp_message.specs.declared.reply.Reply.{Reply}
use Rattle.rtsp_message.specs.Reply.{code_of}
use Rattle.mounts.specs.Mounts.{IsSound}
use Rattle.session_state.specs.declared.act.Act.{Act}
use Rattle.session_state.specs.declared.given.Given.{Given}
use Rattle.session_state.specs.declared.entry.Entry.{Entry}
use Rattle.session_state.specs.declared.entry.Entry.TheVariants.{Request}
use Rattle.session_state.specs.declared.method.Method.{Method}
use Rattle.session_state.specs.declared.session.Session.{Session}
use Rattle.session_state.specs.declared.world.connection.Connection.{Connection}
use Rattle.session_state.specs.Methods.{is_announce, is_teardown, moves}
use Rattle.session_state.specs.History.{History, accepts, how_many, is_play_of, last_heard}
use Rattle.session_state.specs.Legal.{IsReplyOf}
use Rattle.session_state.specs.Lookups.{IsSessionOf, is_open, sessions_begun}
use Rattle.session_state.specs.Stands.{ChangesSession, IsHeard, Recalls, Stands, Tables, connection_of, heard_of, kept_of}
use Rattle.session_state.specs.Streams.{AreLive, ends_mount_of}
use Rattle.session_state.proofs.AcceptedEntries.{IsAcceptedEntry, announces_so, ends_none, not_of_other, of_method}
use Rattle.session_state.proofs.Kept.{heard_kept, kept_changed, read_changed}
use Rattle.session_state.proofs.Living.{each_of, mounts_still}
use Rattle.session_state.proofs.Parts.{part_still, session_still}
use Rattle.session_state.proofs.Strangers.{still_heard}
use Rattle.session_state.proofs.Refusals.{announces_none, begins_none, keeps_mounts, keeps_sessions}

-- What a request leaves but for the moment that was handed in with it.
pub record Leaves (entry : Entry) (history : History) (old new : Tables) : Type 0 where
  pub recalls : Recalls (entry ∷ history) new
  pub heard : (other : ℕ) → heard_of other new.connections ≡ heard_of other old.connections

-- with that moment, the tables stand for all that has happened
pub heard_then : (history : History) (old new later : Tables) (conn : ℕ) (request : messages.Request) (given : Given) (reply : Reply) (act : Act) → Stands history old
    → Leaves (Request conn request given reply act) history old new → IsHeard conn given.now new later → Stands (Request conn request given reply act ∷ history) later
heard_then history old new later conn request given reply act stands leaves heard = record {
  recalls = record {
    sound = subst IsSound (sym heard.mounts) leaves.recalls.sound;
    mounts = subst (λ table. AreLive table.seats (entry ∷ history) table.mounts) (sym heard.mounts) leaves.recalls.mounts;
    next = ap (λ table. table.next) heard.mounts ∙ leaves.recalls.next;
    are_open = λ other. ap is_some (same_kept other) ∙ leaves.recalls.are_open other;
    sessions = λ other session there. subst (λ table. IsSessionOf table.seats other (entry ∷ history) session) (sym heard.mounts) (leaves.recalls.sessions other session (sym (same_kept other) ∙ there));
    came_is = heard.came ∙ leaves.recalls.came_is;
    gone = let count = heard.count in let gone = leaves.recalls.gone in omega (arith, count, gone);
    begun_is = heard.begun ∙ leaves.recalls.begun_is;
  };
  heard = λ other moment there. by other moment (conn == other) refl (heard_of other old.connections) refl
      (ap (λ found. cond (conn == other) (option_map (max given.now) found) found) (sym (leaves.heard other)) ∙ sym (turned other) ∙ there);
}
  where
    entry : Entry
    entry = Request conn request given reply act

    turned : (other : ℕ) → heard_of other later.connections ≡ cond (conn == other) (option_map (max given.now) (heard_of other new.connections)) (heard_of other new.connections)
    turned other = read_changed (λ (k : Connection). k.heard) conn (λ (k : Connection). record k { heard = max given.now k.heard }) (max given.now) new later heard (λ kept. refl) other

    same_kept : (other : ℕ) → kept_of other later.connections ≡ kept_of other new.connections
    same_kept other =
        read_changed (λ (k : Connection). k.session) conn (λ (k : Connection). record k { heard = max given.now k.heard }) (λ session. session) new later heard (λ kept. refl) other
        ∙ plain (conn == other) (kept_of other new.connections)
      where
        plain : (same : Bool) (found : Option (Option Session)) → cond same (option_map (λ (session : Option Session). session) found) found ≡ found
        plain true None = refl
        plain true (Some session) = refl
        plain false found = refl

    by : (other moment : ℕ) (same : Bool) → (conn == other) ≡ same → (found : Option ℕ) → heard_of other old.connections ≡ found → cond same (option_map (max given.now) found) found ≡ Some moment
        → moment ≡ last_heard other (Request conn request given reply act ∷ history)
    by other moment true same None at is = absurd (cc)
    by other moment true same (Some earlier) at is =
        let now : max given.now earlier ≡ moment = cc in
        sym now ∙ ap (max given.now) (stands.heard other earlier at) ∙ sym (ap (λ b. max (cond b given.now 0) (last_heard other history)) same)
    by other moment false apart found at is =
        stands.heard other moment (at ∙ is) ∙ sym (still_heard other (Request conn request given reply act) history (ap (λ b. cond b given.now 0) apart))

-- a refused request leaves all as it was
refused_recalls : (history : History) (tables : Tables) (conn : ℕ) (request : messages.Request) (given : Given) (reply : Reply) (act : Act) → Recalls history tables
    → IsReplyOf tables.mounts.seats history conn request given reply act → code_of reply.status ≢ 200 → Recalls (Request conn request given reply act ∷ history) tables
refused_recalls history tables conn request given reply act stands is refused = record {
  sound = stands.sound;
  mounts = keeps_mounts tables.mounts.seats history conn request given reply act is refused tables.mounts.mounts stands.mounts;
  next = stands.next ∙ ap (λ n. n + 1) (sym (announces_none tables.mounts.seats history conn request given reply act is refused));
  are_open = stands.are_open;
  sessions = λ who session kept. keeps_sessions tables.mounts.seats history conn request given reply act is refused who session (stands.sessions who session kept);
  came_is = stands.came_is;
  gone = stands.gone;
  begun_is = stands.begun_is ∙ sym (begins_none tables.mounts.seats history conn request given reply act is refused);
}

pub refused_stands : (history : History) (tables : Tables) (conn : ℕ) (request : messages.Request) (given : Given) (reply : Reply) (act : Act) → Recalls history tables
    → IsReplyOf tables.mounts.seats history conn request given reply act → code_of reply.status ≢ 200 → Leaves (Request conn request given reply act) history tables tables
refused_stands history tables conn request given reply act stands is refused =
    record { recalls = refused_recalls history tables conn request given reply act stands is refused; heard = λ other. refl }

-- tables that haven't changed
pub unchanged : (conn : ℕ) (old new : Tables) → new ≡ old → ChangesSession conn (λ session. session) old new
unchanged conn old new is = subst (ChangesSession conn (λ session. session) old) (sym is) (record {
  mounts = refl;
  each = λ other. by (conn == other) (connection_of other old.connections);
  count = refl;
  came = refl;
  begun = refl;
})
  where
    by : (same : Bool) (kept : Option Connection) → kept ≡ (if same then option_map (λ (k : Connection). record k { session = k.session }) kept else kept)
    by true None = refl
    by true (Some kept) = refl
    by false kept = refl

-- What an accepted request leaves of the mounts, and how many sessions have begun.
pub record LeavesSo (history : History) (entry : Entry) (old mid : Tables) : Type 0 where
  pub connections : mid.connections ≡ old.connections
  pub came : mid.came ≡ old.came
  pub seats : mid.mounts.seats ≡ old.mounts.seats
  pub sound : IsSound mid.mounts
  pub mounts : AreLive old.mounts.seats (entry ∷ history) mid.mounts.mounts
  pub next : mid.mounts.next ≡ how_many (accepts is_announce) (entry ∷ history) + 1
  pub begun : mid.begun ≡ sessions_begun (entry ∷ history)

module _ (history : History) (old mid new : Tables) (conn : ℕ) (request : messages.Request) (given : Given) (reply : Reply) (act : Act) (method : Method)
    (is : IsAcceptedEntry conn method (Request conn request given reply act)) (stands : Recalls history old) (session : Option Session) (was : kept_of conn old.connections ≡ Some session)
    (change : Option Session → Option Session) where
  abbrev entry : Entry
  entry = Request conn request given reply act

  accepted_recalls : LeavesSo history (Request conn request given reply act) old mid → ChangesSession conn change mid new
      → IsSessionOf old.mounts.seats conn (Request conn request given reply act ∷ history) (change session) → Recalls (Request conn request given reply act ∷ history) new
  accepted_recalls leaves changes so = record {
    sound = subst IsSound (sym changes.mounts) leaves.sound;
    mounts = subst (λ table. AreLive table.seats (entry ∷ history) table.mounts) (sym changes.mounts) (subst (λ seats. AreLive seats (entry ∷ history) mid.mounts.mounts) (sym leaves.seats) leaves.mounts);
    next = ap (λ table. table.next) changes.mounts ∙ leaves.next;
    are_open = λ other. opened other (kept_of other old.connections) refl;
    sessions = kept;
    came_is = changes.came ∙ leaves.came ∙ stands.came_is;
    gone = let count = changes.count in let gone = stands.gone in let mine = ap length leaves.connections in omega (arith, count, gone, mine);
    begun_is = changes.begun ∙ leaves.begun;
  }
    where
      each : (other : ℕ) → kept_of other new.connections ≡ (if conn == other then option_map change (kept_of other old.connections) else kept_of other old.connections)
      each other = kept_changed conn change mid new changes other ∙ ap (λ connections. if conn == other then option_map change (kept_of other connections) else kept_of other connections) leaves.connections

      opened : (other : ℕ) (found : Option (Option Session)) → kept_of other old.connections ≡ found → is_some (kept_of other new.connections) ≡ is_open other (entry ∷ history)
      opened other found at =
          ap is_some (each other ∙ ap (λ k. if conn == other then option_map change k else k) at) ∙ same (conn == other) found ∙ sym (ap is_some at) ∙ stands.are_open other
        where
          same : (mine : Bool) (k : Option (Option Session)) → is_some (if mine then option_map change k else k) ≡ is_some k
          same true None = refl
          same true (Some s) = refl
          same false k = refl

      seats_are : new.mounts.seats ≡ old.mounts.seats
      seats_are = ap (λ table. table.seats) changes.mounts ∙ leaves.seats

      kept : (other : ℕ) (after : Option Session) → kept_of other new.connections ≡ Some after → IsSessionOf new.mounts.seats other (entry ∷ history) after
      kept other after there = subst (λ seats. IsSessionOf seats other (entry ∷ history) after) (sym seats_are) (by (conn == other) refl (sym (each other) ∙ there))
        where
          by : (mine : Bool) → (conn == other) ≡ mine → (if mine then option_map change (kept_of other old.connections) else kept_of other old.connections) ≡ Some after
              → IsSessionOf old.mounts.seats other (entry ∷ history) after
          by true same at =
              let who = eqb-true conn other same in
              let told : Some (change session) ≡ Some after = sym (ap (option_map change) (sym (ap (λ c. kept_of c old.connections) who) ∙ was)) ∙ at in
              let after_is : change session ≡ after = cc in
              subst (λ c. IsSessionOf old.mounts.seats c (entry ∷ history) after) who (subst (IsSessionOf old.mounts.seats conn (entry ∷ history)) after_is so)
          by false apart at =
              session_still old.mounts.seats other history (entry ∷ history) after
              (part_still other entry history (is.ends other ∙ not_of_other conn method entry is other is_teardown apart) (not_of_other conn method entry is other moves apart))
              (stands.sessions other after at)

  pub accepted_stands : LeavesSo history (Request conn request given reply act) old mid → ChangesSession conn change mid new
      → IsSessionOf old.mounts.seats conn (Request conn request given reply act ∷ history) (change session) → Leaves (Request conn request given reply act) history old new
  accepted_stands leaves changes so = record {
    recalls = accepted_recalls leaves changes so;
    heard = λ other. heard_kept conn change mid new changes other ∙ ap (heard_of other) leaves.connections;
  }

  -- a request that makes no mount, ends none and moves no seat
  pub leaves_mounts : (begun : ℕ) → is_announce method ≡ false → is_teardown method ≡ false → ((mount seat : ℕ) → is_play_of mount seat act ≡ false) → begun ≡ sessions_begun (Request conn request given reply act ∷ history)
      → LeavesSo history (Request conn request given reply act) old (record old { begun = begun })
  leaves_mounts begun announces ends plays begins = record {
    connections = refl;
    came = refl;
    seats = refl;
    sound = stands.sound;
    mounts = mounts_still old.mounts.seats history entry old.mounts.mounts (record { plain = of_method conn method entry is is_announce ∙ announces; seats = plays })
        (each_of (λ mount. ends_mount_of mount.owner entry ≡ false) old.mounts.mounts (λ mount. ends_none conn method entry is mount.owner ends)) stands.mounts;
    next = stands.next ∙ ap (λ n. n + 1) (sym (announces_so conn method entry is history ∙ ap (λ b. cond b (suc (how_many (accepts is_announce) history)) (how_many (accepts is_announce) history)) announces));
    begun = begins;
  }
