-- What each call leaves of a book.
use Rattle.std.proofs.Common.{◌≡◌, ℕ, suc, ◌+◌, ◌≤◌, ◌<◌, ◌==◌, ◌&&◌, Bool, true, false, not, cond, if◌then◌else◌, List, [], ◌∷◌, length, drop, is_none, is_some, nat_le, Option, None, Some, refl, ap, sym, ◌∙◌, subst, arith}
use Rattle.std.specs.List.{Contains, filter}
use Rattle.std.specs.Option.{option_and_then, option_map, option_map_or, unwrap_or}
use Rattle.std.proofs.lemmas.Bool.{eq-eqb, eqb-true, leb-false}
use Rattle.mounts.proofs.Differing.{unequal}
use Rattle.mounts.proofs.Firsts.{found_all, found_passes}
use Rattle.mounts.proofs.Indexed.{some_at}
use Rattle.session_state.specs.declared.act.Act.{Act}
use Rattle.session_state.specs.declared.entry.Entry.{Entry}
use Rattle.session_state.specs.declared.entry.Entry.TheVariants.{Back, Connect, Expire, HangUp}
use Rattle.session_state.specs.declared.session.Session.{Session}
use Rattle.session_state.specs.declared.world.connection.Connection.{Connection}
use Rattle.session_state.specs.History.{History, act_of, is_play_of, last_of, since_last}
use Rattle.session_state.specs.Legal.{Comes, IsBack, IsExpiry, IsHangUp, IsLegal}
use Rattle.session_state.specs.Lookups.{IsSessionOf, has_session, is_open, open_count}
use Rattle.session_state.specs.Stands.{Stands, Tables, kept_of, session_kept}
use Rattle.session_state.specs.Streams.{ends_mount_of, is_end, is_out, takes_or_gives_back}
use Rattle.session_state.proofs.Among.{among, among_some, some_among}
use Rattle.session_state.proofs.Coming.{none_lives}
use Rattle.session_state.proofs.OpenCount.{among_left, counted, fewer_left, left}
use Rattle.session_state.proofs.Plays.{out_below}
use Rattle.session_state.proofs.Strangers.{had_session, session_open}
use Rattle.session_lock.specs.declared.spares.MountPasses.{MountPasses}
use Rattle.session_lock.specs.Books.{HasRoom, IsKept, IsLedTo, Remembered, left_since, may_cut}
use Rattle.session_lock.specs.Entries.{Adds, Written}
use Rattle.session_lock.specs.Held.{Held, IsOutOf}
use Rattle.session_lock.specs.Spares.{AreSpare, IsSpareOf, out_count, unended, with_pass, without}
use Rattle.session_lock.proofs.Spared.{ended_so, moved_so}

-- who is open is kept
pub one_open : (history : History) (tables : Tables) (conn : ℕ) → Stands history tables → is_open conn history ≡ true → 1 ≤ open_count history
one_open history tables conn stands there =
    let some = kept_some tables.connections (stands.recalls.are_open conn ∙ there) in
    let gone = stands.recalls.gone in
    omega (arith, some, gone)
  where
    kept_some : (connections : List (ℕ × Connection)) → is_some (kept_of conn connections) ≡ true → 1 ≤ length connections
    kept_some [] is = absurd (cc)
    kept_some (one ∷ others) is = omega arith

-- the session that is kept of an open connection is its session in the history
pub session_told : (seats : ℕ) (history : History) (tables : Tables) (conn : ℕ) → tables.mounts.seats ≡ seats → Stands history tables
    → is_open conn history ≡ true → IsSessionOf seats conn history (session_kept tables conn)
session_told seats history tables conn same stands there = by (kept_of conn tables.connections) refl (stands.recalls.are_open conn ∙ there)
  where
    by : (kept : Option (Option Session)) → kept_of conn tables.connections ≡ kept → is_some (kept_of conn tables.connections) ≡ true
        → IsSessionOf seats conn history (session_kept tables conn)
    by None at some = absurd (cc)
    by (Some session) at some =
        subst (λ told. IsSessionOf seats conn history told) (sym (ap (λ k. option_and_then (λ kept. kept) k) at))
        (subst (λ n. IsSessionOf n conn history session) same (stands.recalls.sessions conn session at))

pub mount_told : (seats : ℕ) (history : History) (tables : Tables) (conn : ℕ) (told : Option ℕ) → tables.mounts.seats ≡ seats → Stands history tables
    → told ≡ option_map (λ (one : Session). one.mount) (session_kept tables conn) → is_open conn history ≡ true
    → (session : Option Session) × IsSessionOf seats conn history session × (told ≡ option_map (λ (one : Session). one.mount) session)
mount_told seats history tables conn told same stands is there = (session_kept tables conn, session_told seats history tables conn same stands there, is)

-- a test that all pass leaves all
all_kept : {X : Type 0} (q : X → Bool) (xs : List X) → ((x : X) → q x ≡ true) → filter q xs ≡ xs
all_kept q [] passes = refl
all_kept q (x ∷ xs) passes = ap (λ b. cond b (x ∷ filter q xs) (filter q xs)) (passes x) ∙ ap (λ ys. x ∷ ys) (all_kept q xs passes)

pub same_filter : {X : Type 0} (p q : X → Bool) (xs : List X) → ((x : X) → p x ≡ q x) → filter p xs ≡ filter q xs
same_filter p q [] same = refl
same_filter p q (x ∷ xs) same = ap (λ b. cond b (x ∷ filter p xs) (filter p xs)) (same x) ∙ ap (λ ys. cond (q x) (x ∷ ys) ys) (same_filter p q xs same)

pub flip : (a b : ℕ) → (a == b) ≡ (b == a)
flip a b = by (a == b) refl
  where
    by : (is : Bool) → (a == b) ≡ is → is ≡ (b == a)
    by true is = sym (eq-eqb b a (sym (eqb-true a b is)))
    by false is = sym (unequal b a (λ e. let other = eq-eqb a b (sym e) in absurd (cc)))

out_after : (history : History) (of given mount seat : ℕ) → is_out mount seat (Back of given ∷ history) ≡ cond (of == mount && given == seat) false (is_out mount seat history)
out_after history of given mount seat = by (of == mount && given == seat)
  where
    by : (is : Bool) → option_map_or (λ entry. is_play_of mount seat (act_of entry)) (cond is (Some (Back of given)) (last_of (takes_or_gives_back mount seat) history)) false
        ≡ cond is false (is_out mount seat history)
    by true = refl
    by false = refl

-- Where a new base is due, it is the world as it stood.
abbrev pub next_is : (due : Bool) → Tables → Option Tables
next_is due tables = if due then Some tables else None

left_out : (entry : Entry) (kept : ℕ) (history : History) → drop (kept + 1) (entry ∷ history) ≡ drop kept history
left_out entry kept history = let more : kept + 1 ≡ suc kept = omega arith in ap (λ k. drop k (entry ∷ history)) more

-- the base after one entry more
base_on : (seats : ℕ) (tables : Tables) (written later : Written) (due : Bool) (next : Option Tables) (entry : Entry) → IsLedTo seats written.history tables
    → IsLedTo seats (drop written.kept written.history) written.base → next ≡ next_is due tables → Adds next entry written later → IsLedTo seats (drop later.kept later.history) later.base
base_on seats tables written later due next entry now base is adds =
    let after : ℕ = (if is_some next then 0 else written.kept) + 1 in
    let left : drop later.kept later.history ≡ drop after (entry ∷ written.history) = ap (λ k. drop k later.history) adds.kept ∙ ap (drop after) adds.history in
    subst (IsLedTo seats (drop later.kept later.history)) (sym adds.base) (subst (λ h. IsLedTo seats h (unwrap_or next written.base)) (sym left) (by due next is))
  where
    by : (due : Bool) (next : Option Tables) → next ≡ next_is due tables → IsLedTo seats (drop ((if is_some next then 0 else written.kept) + 1) (entry ∷ written.history)) (unwrap_or next written.base)
    by true next is = subst (λ n. IsLedTo seats (drop ((if is_some n then 0 else written.kept) + 1) (entry ∷ written.history)) (unwrap_or n written.base)) (sym is) now
    by false next is = subst (λ n. IsLedTo seats (drop ((if is_some n then 0 else written.kept) + 1) (entry ∷ written.history)) (unwrap_or n written.base)) (sym is)
        (subst (λ h. IsLedTo seats h written.base) (sym (left_out entry written.kept written.history)) base)

-- how many entries are kept after one more
pub kept_so : (due : Bool) (next : Option Tables) (tables : Tables) (kept : ℕ) → next ≡ next_is due tables → (if is_some next then 0 else kept) + 1 ≡ (if due then 1 else kept + 1)
kept_so true next tables kept is = ap (λ n. (if is_some n then 0 else kept) + 1) is
kept_so false next tables kept is = ap (λ n. (if is_some n then 0 else kept) + 1) is

-- a coming or a request leaves no more entries than may be kept
pub cut_to : {entry : Entry} (written more later : Written) (next : Option Tables) (tables : Tables) → 1 ≤ written.cut → more ≡ record written { room = more.room }
    → next ≡ next_is (nat_le written.cut written.kept) tables → Adds next entry more later → later.kept ≤ later.cut
cut_to written more later next tables some grown is adds = by (nat_le written.cut written.kept) refl is
  where
    kept_is : more.kept ≡ written.kept
    kept_is = ap (λ (w : Written). w.kept) grown

    cut_is : later.cut ≡ written.cut
    cut_is = adds.cut ∙ ap (λ (w : Written). w.cut) grown

    by : (due : Bool) → nat_le written.cut written.kept ≡ due → next ≡ next_is due tables → later.kept ≤ later.cut
    by true at is = let one = adds.kept ∙ ap (λ n. (if is_some n then 0 else more.kept) + 1) is in omega (arith, one, cut_is, some)
    by false at is =
        let one = adds.kept ∙ ap (λ n. (if is_some n then 0 else more.kept) + 1) is in
        let below = leb-false written.cut written.kept at in
        omega (arith, one, kept_is, cut_is, below)

-- what leaves is kept beside
left_more : (written later : Written) (entry : Entry) → may_cut entry ≡ false → Adds None entry written later → written.kept ≤ written.cut + left_since written.history
    → later.kept ≤ later.cut + left_since later.history
left_more written later entry leaves adds few =
    let kept = adds.kept in
    let cut = adds.cut in
    let since = ap left_since adds.history ∙ ap (λ b. length (cond b [] (record { entry = entry; before = written.history } ∷ since_last may_cut written.history))) leaves in
    omega (arith, kept, cut, since, few)

-- after a coming or a request, of whose connections those that have a session were open
pub all_roomy : (seats : ℕ) (history : History) (entry : Entry) (out room : ℕ) → IsLegal seats history → ((conn : ℕ) → has_session conn (entry ∷ history) ≡ true → is_open conn history ≡ true)
    → open_count (entry ∷ history) + open_count history + out ≤ room → HasRoom (entry ∷ history) out room
all_roomy seats history entry out room legal opened enough =
    let (conns, are, many) = counted seats history legal in
    record {
      sessions = conns;
      all = λ conn has. (are.each conn).1 (opened conn has);
      enough = omega (arith, many, enough);
    }

-- after an entry that begins no session
pub no_more : (history : History) (entry : Entry) (out left_out room left_room : ℕ) → ((conn : ℕ) → has_session conn (entry ∷ history) ≡ true → has_session conn history ≡ true)
    → (had : HasRoom history out room) → open_count (entry ∷ history) + length had.sessions + left_out ≤ left_room → HasRoom (entry ∷ history) left_out left_room
no_more history entry out left_out room left_room had_too had enough = record { sessions = had.sessions; all = λ conn has. had.all conn (had_too conn has); enough = enough }

-- after a session has expired
pub one_less : (seats : ℕ) (history : History) (conn heard now : ℕ) (act : Act) (out left_out room left_room : ℕ) → has_session conn history ≡ true → HasRoom history out room → left_out ≤ out
    → room ≤ left_room + 1 → HasRoom (Expire conn heard now act ∷ history) left_out left_room
one_less seats history conn heard now act out left_out room left_room mine had fewer less = record {
  sessions = left conn had.sessions;
  all = still;
  enough =
      let was = had.all conn mine in
      let short = fewer_left conn had.sessions (some_among conn had.sessions was.0 was.1 was.2) in
      let enough = had.enough in
      omega (arith, short, enough, fewer, less);
}
  where
    still : (other : ℕ) → has_session other (Expire conn heard now act ∷ history) ≡ true → Contains (left conn had.sessions) other
    still other has =
        let (apart, before) = had_session conn other (Expire conn heard now act) history refl refl has in
        let was = had.all other before in
        among_some other (left conn had.sessions)
        (among_left conn other had.sessions ∙ ap (λ b. cond b false (among other had.sessions)) apart ∙ some_among other had.sessions was.0 was.1 was.2)

-- there is room for the expiry of a session
pub room_there : (history : History) (conn out room : ℕ) → has_session conn history ≡ true → HasRoom history out room → 0 < room
room_there history conn out room has had = let was = had.all conn has in let below = was.1 in let enough = had.enough in omega (arith, below, enough)

module _ {P : Type 0} (seats : ℕ) where
  -- a new book
  pub opens : (tables : Tables) (written : Written) (held : Held P) → Stands [] tables → tables.mounts.seats ≡ seats → Stands [] written.base → written.base.mounts.seats ≡ seats
      → written.history ≡ [] → written.kept ≡ 0 → held.mounts ≡ [] → 1 ≤ written.cut → IsKept seats tables written held
  opens tables written held stands same base_stands base_same none no_kept empty some = record {
    legal = subst (IsLegal seats) (sym none) tt;
    stands = subst (λ h. Stands h tables) (sym none) stands;
    seats_are = same;
    base = subst (λ h. IsLedTo seats h written.base) (sym (ap (λ k. drop k written.history) no_kept ∙ none)) (record { legal = tt; stands = base_stands; seats_are = base_same });
    some = some;
    bounded = omega (arith, no_kept);
    spare = subst (λ h. AreSpare seats h held.mounts) (sym none) (subst (AreSpare seats []) (sym empty) (record { each = tt; all = λ number owner live. absurd (none_lives number owner live); once = tt }));
    room =
        let few = ap open_count none in let out = ap out_count empty in
        record { sessions = []; all = λ conn has. let nothing = ap (has_session conn) none in absurd (cc); enough = omega (arith, few, out) };
  }

  -- a book with more room
  pub roomier : (tables : Tables) (written more : Written) (held : Held P) → IsKept seats tables written held → more ≡ record written { room = more.room } → written.room ≤ more.room → IsKept seats tables more held
  roomier tables written more held kept is grown = record {
    legal = subst (λ (w : Written). IsLegal seats w.history) (sym is) kept.legal;
    stands = subst (λ (w : Written). Stands w.history tables) (sym is) kept.stands;
    seats_are = kept.seats_are;
    base = subst (λ (w : Written). IsLedTo seats (drop w.kept w.history) w.base) (sym is) kept.base;
    some = subst (λ (w : Written). 1 ≤ w.cut) (sym is) kept.some;
    bounded = subst (λ (w : Written). w.kept ≤ w.cut + left_since w.history) (sym is) kept.bounded;
    spare = subst (λ (w : Written). AreSpare seats w.history held.mounts) (sym is) kept.spare;
    room = subst (λ (w : Written). HasRoom w.history (out_count held.mounts) more.room) (sym is)
        (record { sessions = kept.room.sessions; all = kept.room.all; enough = let enough = kept.room.enough in omega (arith, enough, grown) });
  }

  -- a book with more room for passes
  pub roomier_too : (tables : Tables) (written : Written) (held more : Held P) → IsKept seats tables written held → more.mounts ≡ held.mounts → IsKept seats tables written more
  roomier_too tables written held more kept same = record {
    legal = kept.legal;
    stands = kept.stands;
    seats_are = kept.seats_are;
    base = kept.base;
    some = kept.some;
    bounded = kept.bounded;
    spare = subst (AreSpare seats written.history) (sym same) kept.spare;
    room = subst (λ mounts. HasRoom written.history (out_count mounts) written.room) (sym same) kept.room;
  }

  pub none_ended : (entry : Entry) (mounts : List (MountPasses P)) → ((owner : ℕ) → ends_mount_of owner entry ≡ false) → unended entry mounts ≡ mounts
  none_ended entry mounts on = all_kept (λ (one : MountPasses P). not (ends_mount_of one.owner entry)) mounts (λ one. ap not (on one.owner))

  -- the passes that are left when a session has expired
  pub ended_with : (conn heard now : ℕ) (act : Act) (mounts : List (MountPasses P)) → (if is_end act then without conn mounts else mounts) ≡ unended (Expire conn heard now act) mounts
  ended_with conn heard now act mounts = by (is_end act) refl
    where
      and_true : (b : Bool) → b ≡ (b && true)
      and_true true = refl
      and_true false = refl

      and_false : (b : Bool) → (b && false) ≡ false
      and_false true = refl
      and_false false = refl

      by : (is : Bool) → is_end act ≡ is → (if is then without conn mounts else mounts) ≡ unended (Expire conn heard now act) mounts
      by true is =
          same_filter (λ (one : MountPasses P). not (one.owner == conn)) (λ one. not (conn == one.owner && is_end act)) mounts
          (λ one. ap not (flip one.owner conn ∙ and_true (conn == one.owner) ∙ ap (λ b. conn == one.owner && b) (sym is)))
      by false is = sym (none_ended (Expire conn heard now act) mounts (λ owner. ap (λ b. conn == owner && b) is ∙ and_false (conn == owner)))

  abbrev pub seen : (cut : ℕ) → History → (kept : ℕ) → List (MountPasses P) → Remembered P
  seen cut history kept spares = record { seats = seats; cut = cut; history = history; kept = kept; spares = spares }

  -- what is seen of a book with one entry more, where none was cut off
  pub one_more : (written later : Written) (entry : Entry) (spares left : List (MountPasses P)) → Adds None entry written later → left ≡ spares
      → seen later.cut later.history later.kept left ≡ seen written.cut (entry ∷ written.history) (written.kept + 1) spares
  one_more written later entry spares left adds are =
      ap (λ (n : ℕ). seen n later.history later.kept left) adds.cut
      ∙ ap (λ (h : History). seen written.cut h later.kept left) adds.history
      ∙ ap (λ (k : ℕ). seen written.cut (entry ∷ written.history) k left) adds.kept
      ∙ ap (λ (m : List (MountPasses P)). seen written.cut (entry ∷ written.history) (written.kept + 1) m) are

  module _ (tables after : Tables) (written later : Written) (held : Held P) (kept : IsKept seats tables written held) (same : after.mounts.seats ≡ tables.mounts.seats) where
    pub legal_there : IsLegal tables.mounts.seats written.history
    legal_there = subst (λ n. IsLegal n written.history) (sym kept.seats_are) kept.legal

    pub base_after : (due : Bool) (next : Option Tables) (entry : Entry) → next ≡ next_is due tables → Adds next entry written later → IsLedTo seats (drop later.kept later.history) later.base
    base_after due next entry is adds = base_on seats tables written later due next entry (record { legal = kept.legal; stands = kept.stands; seats_are = kept.seats_are }) kept.base is adds

    pub some_after : (next : Option Tables) (entry : Entry) → Adds next entry written later → 1 ≤ later.cut
    some_after next entry adds = subst (λ n. 1 ≤ n) (sym adds.cut) kept.some

    pub connected : (due : Bool) (next : Option Tables) (conn : ℕ) → next ≡ next_is due tables → Comes written.history conn × Stands (Connect conn ∷ written.history) after
        → Adds next (Connect conn) written later → later.kept ≤ later.cut → open_count written.history + open_count written.history + out_count held.mounts + 1 ≤ later.room → IsKept seats after later held
    connected due next conn of come adds few enough = let is = adds.history in record {
      legal = subst (IsLegal seats) (sym is) (kept.legal, come.0);
      stands = subst (λ h. Stands h after) (sym is) come.1;
      seats_are = same ∙ kept.seats_are;
      base = base_after due next (Connect conn) of adds;
      some = some_after next (Connect conn) adds;
      bounded = omega (arith, few);
      spare = subst (λ h. AreSpare seats h held.mounts) (sym is) (subst (AreSpare seats (Connect conn ∷ written.history)) (none_ended (Connect conn) held.mounts (λ owner. refl))
          (ended_so seats written.history (Connect conn) held.mounts refl (λ mount seat. refl) kept.spare));
      room = subst (λ h. HasRoom h (out_count held.mounts) later.room) (sym is)
          (all_roomy seats written.history (Connect conn) (out_count held.mounts) later.room kept.legal (λ other has. session_open seats written.history other kept.legal has)
          (let gone = kept.stands.recalls.gone in omega (arith, gone, enough)));
    }

    -- after an entry that never cuts
    leaves : (entry : Entry) (left : Held P) → may_cut entry ≡ false → IsLegal seats (entry ∷ written.history) → Stands (entry ∷ written.history) after → Adds None entry written later
        → AreSpare seats (entry ∷ written.history) left.mounts → HasRoom (entry ∷ written.history) (out_count left.mounts) later.room → IsKept seats after later left
    leaves entry left never legal stands adds spare room = let is = adds.history in record {
      legal = subst (IsLegal seats) (sym is) legal;
      stands = subst (λ h. Stands h after) (sym is) stands;
      seats_are = same ∙ kept.seats_are;
      base = base_after false None entry refl adds;
      some = some_after None entry adds;
      bounded = left_more written later entry never adds kept.bounded;
      spare = subst (λ h. AreSpare seats h left.mounts) (sym is) spare;
      room = subst (λ h. HasRoom h (out_count left.mounts) later.room) (sym is) room;
    }

    pub hung_up : (conn : ℕ) (act : Act) (left : Held P) → IsHangUp tables.mounts.seats written.history conn act × Stands (HangUp conn act ∷ written.history) after
        → Adds None (HangUp conn act) written later → left.mounts ≡ without conn held.mounts → out_count left.mounts ≤ out_count held.mounts
        → is_open conn written.history ≡ true → IsKept seats after later left
    hung_up conn act left gone adds dropped fewer there =
        leaves (HangUp conn act) left refl (kept.legal, subst (λ n. IsHangUp n written.history conn act) kept.seats_are gone.0) gone.1 adds
        (subst (AreSpare seats (HangUp conn act ∷ written.history)) (sym (dropped ∙ without_is conn act held.mounts))
        (ended_so seats written.history (HangUp conn act) held.mounts refl (λ mount seat. refl) kept.spare))
        (no_more written.history (HangUp conn act) (out_count held.mounts) (out_count left.mounts) written.room later.room
        (λ other has. (had_session conn other (HangUp conn act) written.history refl refl has).1) kept.room
        (let one = one_open written.history tables conn kept.stands there in
        let enough = kept.room.enough in
        let room = adds.room in
        omega (arith, one, enough, fewer, room)))
      where
        without_is : (conn : ℕ) (act : Act) (mounts : List (MountPasses P)) → without conn mounts ≡ unended (HangUp conn act) mounts
        without_is conn act mounts = same_filter (λ (one : MountPasses P). not (one.owner == conn)) (λ one. not (conn == one.owner)) mounts (λ one. ap not (flip one.owner conn))

    pub expired : (conn heard now : ℕ) (act : Act) (left : Held P) → IsExpiry tables.mounts.seats written.history conn heard now act × Stands (Expire conn heard now act ∷ written.history) after
        → Adds None (Expire conn heard now act) written later → left.mounts ≡ (if is_end act then without conn held.mounts else held.mounts) → out_count left.mounts ≤ out_count held.mounts
        → IsKept seats after later left
    expired conn heard now act left ends adds dropped fewer =
        leaves (Expire conn heard now act) left refl (kept.legal, subst (λ n. IsExpiry n written.history conn heard now act) kept.seats_are ends.0) ends.1 adds
        (subst (AreSpare seats (Expire conn heard now act ∷ written.history)) (sym (dropped ∙ ended_with conn heard now act held.mounts))
        (ended_so seats written.history (Expire conn heard now act) held.mounts refl (λ mount seat. refl) kept.spare))
        (one_less seats written.history conn heard now act (out_count held.mounts) (out_count left.mounts) written.room later.room (ap is_some ends.0.has.first) kept.room fewer adds.room)

    pub given_back : (mount seat : ℕ) (pass : P) (left : Held P) → IsBack written.history mount seat × Stands (Back mount seat ∷ written.history) after
        → Adds None (Back mount seat) written later → left.mounts ≡ with_pass mount seat (Some pass) held.mounts → out_count left.mounts + 1 ≡ out_count held.mounts
        → IsKept seats after later left
    given_back mount seat pass left back adds put fewer =
        leaves (Back mount seat) left refl (kept.legal, back.0) back.1 adds
        (subst (AreSpare seats (Back mount seat ∷ written.history)) (sym put)
        (moved_so seats written.history (Back mount seat) mount seat (Some pass) held.mounts refl (λ owner. refl) (λ of other. out_after written.history mount seat of other) kept.spare))
        (no_more written.history (Back mount seat) (out_count held.mounts) (out_count left.mounts) written.room later.room (λ other has. has) kept.room
        (let enough = kept.room.enough in let room = adds.room in omega (arith, enough, fewer, room)))

  -- a seat that is out in the history has no pass
  pub out_there : (history : History) (mounts : List (MountPasses P)) (mount seat : ℕ) → IsLegal seats history → AreSpare seats history mounts → IsBack history mount seat → IsOutOf mounts mount seat
  out_there history mounts mount seat legal spare back =
      let found = spare.all mount back.owner back.live in
      let is = found_all (IsSpareOf seats history) (λ (one : MountPasses P). one.number == mount) mounts found.0 spare.each found.1 in
      let number = eqb-true found.0.number mount (found_passes (λ (one : MountPasses P). one.number == mount) mounts found.0 found.1) in
      let few = out_below mount seat seats history legal back.out in
      let at = some_at found.0.passes seat (subst (λ n. seat < n) (sym is.seats_are) few) in
      record { one = found.0; there = found.1; is = at.1 ∙ ap Some (none_at at.0 (is.out seat at.0 at.1 ∙ ap (λ n. is_out n seat history) number ∙ back.out)) }
    where
      none_at : (place : Option P) → is_none place ≡ true → place ≡ None
      none_at None is = refl
      none_at (Some pass) is = absurd (cc)
