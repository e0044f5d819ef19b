-- What a connection's hanging up leaves.
use Rattle.std.proofs.Common.{◌≡◌, ◌≢◌, ℕ, ◌+◌, ◌==◌, Bool, true, false, cond, List, [], ◌∷◌, length, map, is_some, Option, None, Some, refl, ap, sym, ◌∙◌, subst, arith}
use Rattle.std.specs.List.{AllByRecursion, position_or_len}
use Rattle.std.specs.Option.{option_map}
use Rattle.std.proofs.lemmas.Bool.{eqb-true, eq-eqb}
use Rattle.std.proofs.lemmas.List.Folds.{find_at}
use Rattle.mounts.specs.declared.mount.Mount.{Mount}
use Rattle.mounts.specs.Different.{AreDifferent}
use Rattle.mounts.specs.Mounts.{IsSound, Table, owned_by}
use Rattle.mounts.proofs.Differing.{find_one, none_has, unequal}
use Rattle.mounts.proofs.Firsts.{found_passes}
use Rattle.mounts.proofs.Sound.{sound_ended}
use Rattle.session_state.specs.declared.act.Act.{Act}
use Rattle.session_state.specs.declared.entry.Entry.{Entry}
use Rattle.session_state.specs.declared.entry.Entry.TheVariants.{HangUp}
use Rattle.session_state.specs.declared.session.Session.{Session}
use Rattle.session_state.specs.declared.world.connection.Connection.{Connection}
use Rattle.session_state.specs.History.{History}
use Rattle.session_state.specs.Legal.{IsHangUp, act_at_end}
use Rattle.session_state.specs.Lookups.{IsSessionOf, is_open}
use Rattle.session_state.specs.Stands.{Recalls, Stands, Tables, connection_of, kept_of, without_owned}
use Rattle.session_state.specs.Streams.{AreLive, ends_mount_of}
use Rattle.session_state.proofs.Kept.{IsKeptFor, heard_on, kept_same}
use Rattle.session_state.proofs.Living.{LeavesMounts, mount_ends, mounts_still}
use Rattle.session_state.proofs.Parts.{part_still, session_still}
use Rattle.session_state.proofs.Strangers.{after}

-- The tables without a connection, and without its mount.
pub record HasGone (conn : ℕ) (old new : Tables) : Type 0 where
  pub mounts : new.mounts ≡ without_owned (owned_by conn old.mounts.mounts) old.mounts
  pub came_is : new.came ≡ old.came
  pub begun : new.begun ≡ old.begun
  pub kept : IsKeptFor conn None old.connections new.connections
  pub less : length new.connections + 1 ≡ length old.connections

leaves : (conn : ℕ) (act : Act) → LeavesMounts (HangUp conn act)
leaves conn act = record { plain = refl; seats = λ mount seat. refl }

-- what follows for each element
every : {X : Type 0} (P Q : X → Type 0) (xs : List X) → ((x : X) → P x → Q x) → AllByRecursion P xs → AllByRecursion Q xs
every P Q [] step all = tt
every P Q (x ∷ xs) step all = (step x all.0, every P Q xs step all.1)

-- who owns nothing ends nothing
ends_none : (conn : ℕ) (mounts : List Mount) → AllByRecursion (λ owner. owner ≢ conn) (map (λ mount. mount.owner) mounts)
    → AllByRecursion (λ mount. (conn == mount.owner) ≡ false) mounts
ends_none conn [] others = tt
ends_none conn (mount ∷ mounts) others = (unequal conn mount.owner (λ e. others.0 (sym e)), ends_none conn mounts others.1)

-- who owns a mount ends no other
ends_one : (conn : ℕ) (own : Mount) (mounts : List Mount) → AreDifferent (map (λ mount. mount.owner) mounts) → owned_by conn mounts ≡ Some own
    → AllByRecursion (λ mount. (mount.number == own.number) ≡ false → (conn == mount.owner) ≡ false) mounts
ends_one conn own [] once owns = absurd (cc)
ends_one conn own (mount ∷ mounts) once owns = by (mount.owner == conn) refl owns (ends_one conn own mounts once.1)
  where
    weaker : (ms : List Mount) → AllByRecursion (λ one. (conn == one.owner) ≡ false) ms → AllByRecursion (λ one. (one.number == own.number) ≡ false → (conn == one.owner) ≡ false) ms
    weaker [] h = tt
    weaker (one ∷ ms) h = ((λ other. h.0), weaker ms h.1)

    by : (is : Bool) → (mount.owner == conn) ≡ is → cond is (Some mount) (owned_by conn mounts) ≡ Some own
        → (owned_by conn mounts ≡ Some own → AllByRecursion (λ one. (one.number == own.number) ≡ false → (conn == one.owner) ≡ false) mounts)
        → AllByRecursion (λ one. (one.number == own.number) ≡ false → (conn == one.owner) ≡ false) (mount ∷ mounts)
    by true same at earlier =
        let is : mount ≡ own = cc in
        let mine = eqb-true mount.owner conn same in
        ((λ other. absurd (differ is other)), weaker mounts (ends_none conn mounts (subst (λ c. AllByRecursion (λ owner. owner ≢ c) (map (λ one. one.owner) mounts)) mine once.0)))
      where
        differ : mount ≡ own → (mount.number == own.number) ≡ false → ⊥
        differ is other = let same_number = eq-eqb mount.number own.number (ap (λ m. m.number) is) in absurd (cc)
    by false apart at earlier = ((λ other. unequal conn mount.owner (λ e. differ (sym e))), earlier at)
      where
        differ : mount.owner ≡ conn → ⊥
        differ is = let same_owner = eq-eqb mount.owner conn is in absurd (cc)

-- after an entry that ends the mount of a connection, and no other
pub mounts_after : (seats : ℕ) (history : History) (conn : ℕ) (entry : Entry) (table : Table) (owned : Option Mount) → LeavesMounts entry → ((owner : ℕ) → ends_mount_of owner entry ≡ (conn == owner))
    → IsSound table → owned_by conn table.mounts ≡ owned → AreLive seats history table.mounts → AreLive seats (entry ∷ history) (without_owned owned table).mounts
mounts_after seats history conn entry table None leaves ends sound owns are =
    mounts_still seats history entry table.mounts leaves
    (every (λ mount. (conn == mount.owner) ≡ false) (λ mount. ends_mount_of mount.owner entry ≡ false) table.mounts (λ mount apart. ends mount.owner ∙ apart)
    (ends_none conn table.mounts (none_has (λ mount. mount.owner) conn table.mounts owns))) are
mounts_after seats history conn entry table (Some own) leaves ends sound owns are =
    mount_ends seats history entry own table.mounts leaves
    (record {
      owner = ends own.owner ∙ (let mine = found_passes (λ mount. mount.owner == conn) table.mounts own owns in eq-eqb conn own.owner (sym (eqb-true own.owner conn mine)));
      there = find_one (λ mount. mount.number) (λ mount. mount.number == own.number) table.mounts (position_or_len (λ mount. mount.owner == conn) table.mounts) own sound.numbers
          (sym (find_at (λ mount. mount.owner == conn) table.mounts) ∙ owns) (eq-eqb own.number own.number refl) (λ other apart. unequal other.number own.number apart);
      others = every (λ mount. (mount.number == own.number) ≡ false → (conn == mount.owner) ≡ false) (λ mount. (mount.number == own.number) ≡ false → ends_mount_of mount.owner entry ≡ false) table.mounts
          (λ mount apart other. ends mount.owner ∙ apart other) (ends_one conn own table.mounts sound.owners owns);
    }) are

pub sound_after : (table : Table) (owned : Option Mount) → IsSound table → IsSound (without_owned owned table)
sound_after table None sound = sound
sound_after table (Some own) sound = sound_ended own.number table sound

pub same_seats : (table : Table) (owned : Option Mount) → (without_owned owned table).seats ≡ table.seats
same_seats table None = refl
same_seats table (Some own) = refl

pub same_next : (table : Table) (owned : Option Mount) → (without_owned owned table).next ≡ table.next
same_next table None = refl
same_next table (Some own) = refl

gone : (history : History) (old new : Tables) (conn : ℕ) (act : Act) → Recalls history old → HasGone conn old new → Recalls (HangUp conn act ∷ history) new
gone history old new conn act stands h = record {
  sound = subst IsSound (sym h.mounts) (sound_after old.mounts owned stands.sound);
  mounts = subst (λ table. AreLive table.seats (HangUp conn act ∷ history) table.mounts) (sym h.mounts)
      (subst (λ seats. AreLive seats (HangUp conn act ∷ history) (without_owned owned old.mounts).mounts) (sym (same_seats old.mounts owned))
      (mounts_after old.mounts.seats history conn (HangUp conn act) old.mounts owned (leaves conn act) (λ owner. refl) stands.sound refl stands.mounts));
  next = ap (λ table. table.next) h.mounts ∙ same_next old.mounts owned ∙ stands.next;
  are_open = opened;
  sessions = kept;
  came_is = h.came_is ∙ stands.came_is;
  gone = let less = h.less in let gone = stands.gone in omega (arith, less, gone);
  begun_is = h.begun ∙ stands.begun_is;
}
  where
    owned : Option Mount
    owned = owned_by conn old.mounts.mounts

    seats_are : new.mounts.seats ≡ old.mounts.seats
    seats_are = ap (λ table. table.seats) h.mounts ∙ same_seats old.mounts owned

    opened : (other : ℕ) → is_some (kept_of other new.connections) ≡ is_open other (HangUp conn act ∷ history)
    opened other = by (conn == other) refl
      where
        by : (is : Bool) → (conn == other) ≡ is → is_some (kept_of other new.connections) ≡ is_open other (HangUp conn act ∷ history)
        by true same =
            ap is_some (kept_same conn other None old.connections new.connections h.kept true same)
            ∙ sym (ap (λ is. after is (HangUp conn act) other history) same)
        by false apart =
            ap is_some (kept_same conn other None old.connections new.connections h.kept false apart)
            ∙ stands.are_open other ∙ sym (ap (λ is. after is (HangUp conn act) other history) apart)

    kept : (other : ℕ) (session : Option Session) → kept_of other new.connections ≡ Some session → IsSessionOf new.mounts.seats other (HangUp conn act ∷ history) session
    kept other session there = subst (λ seats. IsSessionOf seats other (HangUp conn act ∷ history) session) (sym seats_are) (by (conn == other) refl)
      where
        by : (is : Bool) → (conn == other) ≡ is → IsSessionOf old.mounts.seats other (HangUp conn act ∷ history) session
        by true same = let none = kept_same conn other None old.connections new.connections h.kept true same in absurd (cc)
        by false apart =
            session_still old.mounts.seats other history (HangUp conn act ∷ history) session (part_still other (HangUp conn act) history apart refl)
            (stands.sessions other session (sym (kept_same conn other None old.connections new.connections h.kept false apart) ∙ there))

-- the act that a connection is told
told : (history : History) (old : Tables) (conn : ℕ) (session : Option Session) (act : Act) → Recalls history old → kept_of conn old.connections ≡ Some session
    → act ≡ act_at_end (owned_by conn old.mounts.mounts) session → IsHangUp old.mounts.seats history conn act
told history old conn session act stands kept does = record {
  is_there = sym (stands.are_open conn) ∙ ap is_some kept;
  mounts = old.mounts.mounts;
  session = session;
  live = stands.mounts;
  session_is = stands.sessions conn session kept;
  does = does;
}

-- what `hangup` answers and leaves
pub goes_so : (history : History) (old : Tables) (mounts : Table) (connections : List (ℕ × Connection)) (conn : ℕ) (connection : Connection) (owned : Option Mount) (act : Act)
    → Stands history old → owned ≡ owned_by conn old.mounts.mounts → mounts ≡ without_owned owned old.mounts → IsKeptFor conn None old.connections connections
    → length connections + 1 ≡ length old.connections → connection_of conn old.connections ≡ Some connection → act ≡ act_at_end owned connection.session
    → IsHangUp old.mounts.seats history conn act × Stands (HangUp conn act ∷ history) (record { mounts = mounts; connections = connections; came = old.came; begun = old.begun })
goes_so history old mounts connections conn connection owned act stands owns is each less kept does = (
  told history old conn connection.session act stands.recalls (ap (option_map (λ (k : Connection). k.session)) kept) (does ∙ ap (λ o. act_at_end o connection.session) owns),
  record {
    recalls = gone history old (record { mounts = mounts; connections = connections; came = old.came; begun = old.begun }) conn act stands.recalls
        (record { mounts = is ∙ ap (λ o. without_owned o old.mounts) owns; came_is = refl; begun = refl; kept = each; less = less });
    heard = heard_on conn (HangUp conn act) None old.connections connections history each (λ other. refl) (λ moment is. absurd (cc)) stands.heard;
  },
)
