-- What a connection's coming leaves.
use Rattle.std.proofs.Common.{◌≡◌, ℕ, ◌+◌, ◌^◌, ◌<◌, ◌==◌, Bool, true, false, if◌then◌else◌, List, [], ◌∷◌, ◌++◌, length, is_some, Option, None, Some, refl, ap, sym, ◌∙◌, subst, arith}
use Rattle.std.specs.Option.{option_map}
use Rattle.std.proofs.lemmas.Bool.{eqb-true}
use Rattle.mounts.specs.Mounts.{IsSound, Table, no_mounts}
use Rattle.mounts.proofs.SoundRuns.{no_mounts_sound}
use Rattle.session_state.specs.declared.entry.Entry.TheVariants.{Connect}
use Rattle.session_state.specs.declared.world.connection.Connection.{Connection}
use Rattle.session_state.specs.declared.session.Session.{Session}
use Rattle.session_state.specs.History.{History, last_heard}
use Rattle.session_state.specs.Legal.{Comes, IsLegal}
use Rattle.session_state.specs.Lookups.{IsSessionOf, beginning, is_open}
use Rattle.session_state.specs.Stands.{Recalls, Stands, Tables, connection_of, kept_of}
use Rattle.session_state.specs.Streams.{AreLive, IsLive, ends_mount_of}
use Rattle.session_state.proofs.Kept.{IsKeptFor, heard_on, kept_same}
use Rattle.session_state.proofs.Living.{each_of, mounts_still}
use Rattle.session_state.proofs.Parts.{session_still}
use Rattle.session_state.proofs.Strangers.{after, open_came, strangers, unheard}

pub none_lives : (number owner : ℕ) → IsLive [] number owner → ⊥
none_lives number owner live = by live.later live.nth.cut
  where
    by : (later : History) → [] ≡ later ++ live.moment.entry ∷ live.moment.before → ⊥
    by [] cut = absurd (cc)
    by (x ∷ later) cut = absurd (cc)

-- the opening tables stand for the empty history
opens : (seats : ℕ) → Recalls [] (record { mounts = no_mounts seats; connections = []; came = 0; begun = 0 })
opens seats = record {
  sound = no_mounts_sound seats;
  mounts = record { each = tt; all = λ number owner live. absurd (none_lives number owner live); once = tt };
  next = refl;
  are_open = λ conn. refl;
  sessions = λ conn session kept. absurd (cc);
  came_is = refl;
  gone = refl;
  begun_is = refl;
}

-- who comes: nobody, but a connection that has no session and wasn't heard
abbrev newcomer : Connection
newcomer = record { session = None; heard = 0 }

-- a connection that hasn't come isn't kept
not_kept : (history : History) (tables : Tables) (conn : ℕ) → IsLegal tables.mounts.seats history → Recalls history tables → tables.came < conn → connection_of conn tables.connections ≡ None
not_kept history tables conn legal stands more = by (connection_of conn tables.connections) (stands.are_open conn)
  where
    by : (kept : Option Connection) → is_some (option_map (λ (k : Connection). k.session) kept) ≡ is_open conn history → kept ≡ None
    by None is = refl
    by (Some session) is = let came = stands.came_is in let so = open_came tables.mounts.seats history conn legal (sym is) in absurd (omega (arith, so, came, more))

-- The tables with one connection more, which has no session.
pub record HasCome (conn : ℕ) (old new : Tables) : Type 0 where
  pub number : conn ≡ old.came + 1
  pub mounts : new.mounts ≡ old.mounts
  pub came_is : new.came ≡ conn
  pub begun : new.begun ≡ old.begun
  pub kept : IsKeptFor conn (Some newcomer) old.connections new.connections
  pub more : length new.connections ≡ length old.connections + 1

pub comes : (history : History) (old : Tables) (conn : ℕ) → Recalls history old → conn ≡ old.came + 1 → length old.connections < 1024 → old.came < 2 ^ 63 → Comes history conn
comes history old conn stands number few left =
    let gone = stands.gone in let came = stands.came_is in
    record {
      few = omega (arith, gone, few);
      next = omega (arith, number, came);
      left = omega (arith, number, left);
    }

come : (history : History) (old new : Tables) (conn : ℕ) → IsLegal old.mounts.seats history → Recalls history old → HasCome conn old new → Recalls (Connect conn ∷ history) new
come history old new conn legal stands h = record {
  sound = subst IsSound (sym h.mounts) stands.sound;
  mounts = subst (λ table. AreLive table.seats (Connect conn ∷ history) table.mounts) (sym h.mounts)
      (mounts_still old.mounts.seats history (Connect conn) old.mounts.mounts (record { plain = refl; seats = λ mount seat. refl }) (each_of (λ mount. ends_mount_of mount.owner (Connect conn) ≡ false) old.mounts.mounts (λ mount. refl)) stands.mounts);
  next = ap (λ table. table.next) h.mounts ∙ stands.next;
  are_open = opened;
  sessions = kept;
  came_is = let number = h.number in let is = h.came_is in let came = stands.came_is in omega (arith, number, is, came);
  gone = let more = h.more in let gone = stands.gone in omega (arith, more, gone);
  begun_is = h.begun ∙ stands.begun_is;
}
  where
    seats_are : new.mounts.seats ≡ old.mounts.seats
    seats_are = ap (λ table. table.seats) h.mounts

    opened : (other : ℕ) → is_some (kept_of other new.connections) ≡ is_open other (Connect conn ∷ history)
    opened other = by (conn == other) refl
      where
        by : (is : Bool) → (conn == other) ≡ is → is_some (kept_of other new.connections) ≡ is_open other (Connect conn ∷ history)
        by true same =
            ap is_some (kept_same conn other (Some newcomer) old.connections new.connections h.kept true same)
            ∙ sym (ap (λ is. after is (Connect conn) other history) same ∙ same)
        by false apart =
            ap is_some (kept_same conn other (Some newcomer) old.connections new.connections h.kept false apart)
            ∙ stands.are_open other ∙ sym (ap (λ is. after is (Connect conn) other history) apart)

    kept : (other : ℕ) (session : Option Session) → kept_of other new.connections ≡ Some session → IsSessionOf new.mounts.seats other (Connect conn ∷ history) session
    kept other session there = subst (λ seats. IsSessionOf seats other (Connect conn ∷ history) session) (sym seats_are) (by (conn == other) refl)
      where
        fresh : (session : Option Session) → conn ≡ other → Some None ≡ Some session → IsSessionOf old.mounts.seats other (Connect conn ∷ history) session
        fresh None is at =
            let number = h.number in let came_is = stands.came_is in
            ap (λ part. is_some (beginning other part)) (strangers old.mounts.seats history other legal (omega (arith, number, came_is, is)))
        fresh (Some session) is at = absurd (cc)

        by : (is : Bool) → (conn == other) ≡ is → IsSessionOf old.mounts.seats other (Connect conn ∷ history) session
        by true same = fresh session (eqb-true conn other same) (sym (kept_same conn other (Some newcomer) old.connections new.connections h.kept true same) ∙ there)
        by false apart =
            session_still old.mounts.seats other history (Connect conn ∷ history) session refl
            (stands.sessions other session (sym (kept_same conn other (Some newcomer) old.connections new.connections h.kept false apart) ∙ there))

-- a new server stands for the empty history
pub opening : (seats : ℕ) (mounts : Table) (connections : List (ℕ × Connection)) → mounts ≡ no_mounts seats → connections ≡ []
    → Stands [] (record { mounts = mounts; connections = connections; came = 0; begun = 0 })
opening seats mounts connections is none =
    subst (λ m. Stands [] (record { mounts = m; connections = connections; came = 0; begun = 0 })) (sym is)
    (subst (λ cs. Stands [] (record { mounts = no_mounts seats; connections = cs; came = 0; begun = 0 })) (sym none)
    (record { recalls = opens seats; heard = λ conn moment kept. absurd (cc) }))

-- what `connect` answers and leaves
pub connects_so : (history : History) (old : Tables) (connections : List (ℕ × Connection)) (kept : Option Connection) → IsLegal old.mounts.seats history → Stands history old
    → length old.connections < 1024 → old.came < 2 ^ 63 → IsKeptFor (old.came + 1) (Some newcomer) old.connections connections
    → kept ≡ connection_of (old.came + 1) old.connections → length connections ≡ length old.connections + (if is_some kept then 0 else 1)
    → Comes history (old.came + 1) × Stands (Connect (old.came + 1) ∷ history) (record { mounts = old.mounts; connections = connections; came = old.came + 1; begun = old.begun })
connects_so history old connections kept legal stands few left each was more =
    let none : kept ≡ None = was ∙ not_kept history old (old.came + 1) legal stands.recalls (omega arith) in (
      comes history old (old.came + 1) stands.recalls refl few left,
      record {
        recalls = come history old (record { mounts = old.mounts; connections = connections; came = old.came + 1; begun = old.begun }) (old.came + 1) legal stands.recalls
            (record { number = refl; mounts = refl; came_is = refl; begun = refl; kept = each; more = more ∙ ap (λ k. length old.connections + (if is_some k then 0 else 1)) none });
        heard = heard_on (old.came + 1) (Connect (old.came + 1)) (Some newcomer) old.connections connections history each (λ other. refl) first stands.heard;
      },
    )
  where
    first : (moment : ℕ) → Some 0 ≡ Some moment → moment ≡ last_heard (old.came + 1) history
    first moment is =
        let at : 0 ≡ moment = cc in
        let came = stands.recalls.came_is in
        sym at ∙ sym (unheard old.mounts.seats history (old.came + 1) legal (omega (arith, came)))
