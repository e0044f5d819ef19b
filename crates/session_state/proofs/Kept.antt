-- What is kept of connections, after one is put in or taken out.
use Rattle.std.proofs.Common.{◌≡◌, ℕ, ◌==◌, nat_lt, Bool, true, false, cond, List, ◌∷◌, Option, None, Some, refl, ap, sym, ◌∙◌, arith}
use Rattle.std.specs.Ordering.{nat_cmp, is_eq}
use Rattle.std.specs.BTreeMap.{is_at}
use Rattle.std.specs.Option.{option_map}
use Rattle.std.specs.declared.cmp.Ordering.TheVariants.{Less, Equal, Greater}
use Rattle.std.proofs.lemmas.Bool.{eqb-true, ltb-true}
use Rattle.session_state.specs.declared.session.Session.{Session}
use Rattle.session_state.specs.declared.entry.Entry.{Entry}
use Rattle.session_state.specs.declared.world.connection.Connection.{Connection}
use Rattle.session_state.specs.History.{History, heard_by, last_heard}
use Rattle.session_state.specs.Stands.{ChangesConnection, ChangesSession, Tables, connection_of, heard_of, kept_of}
use Rattle.session_state.proofs.Strangers.{still_heard}

-- the query for a number finds that number
pub tie : (a b : ℕ) → is_at (nat_cmp a) b ≡ (a == b)
tie a b = by (nat_lt a b) (a == b) refl refl
  where
    by : (less same : Bool) → nat_lt a b ≡ less → (a == b) ≡ same → is_eq (cond less Less (cond same Equal Greater)) ≡ same
    by true true is at = let less = ltb-true a b is in let same = eqb-true a b at in absurd (omega (arith, less, same))
    by true false is at = refl
    by false true is at = refl
    by false false is at = refl

-- One connection has changed, and the others are as they were.
pub record IsKeptFor (conn : ℕ) (kept : Option Connection) (old new : List (ℕ × Connection)) : Type 0 where
  pub each : (other : ℕ) → connection_of other new ≡ cond (is_at (nat_cmp conn) other) kept (connection_of other old)

-- what is read of each, then
pub read_same : {X : Type 0} (read : Connection → X) (conn other : ℕ) (kept : Option Connection) (old new : List (ℕ × Connection)) → IsKeptFor conn kept old new → (is : Bool) → (conn == other) ≡ is
    → option_map read (connection_of other new) ≡ cond is (option_map read kept) (option_map read (connection_of other old))
read_same read conn other kept old new h is at = ap (option_map read) (h.each other ∙ ap (λ b. cond b kept (connection_of other old)) (tie conn other ∙ at)) ∙ by is
  where
    by : (is : Bool) → option_map read (cond is kept (connection_of other old)) ≡ cond is (option_map read kept) (option_map read (connection_of other old))
    by true = refl
    by false = refl

pub kept_same : (conn other : ℕ) (kept : Option Connection) (old new : List (ℕ × Connection)) → IsKeptFor conn kept old new → (is : Bool) → (conn == other) ≡ is
    → kept_of other new ≡ cond is (option_map (λ (k : Connection). k.session) kept) (kept_of other old)
kept_same = read_same (λ (k : Connection). k.session)

-- when each was heard, after an entry that is no request
pub heard_on : (conn : ℕ) (entry : Entry) (kept : Option Connection) (old new : List (ℕ × Connection)) (history : History) → IsKeptFor conn kept old new → ((other : ℕ) → heard_by other entry ≡ 0)
    → ((moment : ℕ) → option_map (λ (k : Connection). k.heard) kept ≡ Some moment → moment ≡ last_heard conn history)
    → ((other moment : ℕ) → heard_of other old ≡ Some moment → moment ≡ last_heard other history)
    → (other moment : ℕ) → heard_of other new ≡ Some moment → moment ≡ last_heard other (entry ∷ history)
heard_on conn entry kept old new history h silent mine earlier other moment there = by (conn == other) refl ∙ sym (still_heard other entry history (silent other))
  where
    by : (is : Bool) → (conn == other) ≡ is → moment ≡ last_heard other history
    by true same =
        mine moment (sym (read_same (λ (k : Connection). k.heard) conn other kept old new h true same) ∙ there) ∙ ap (λ c. last_heard c history) (eqb-true conn other same)
    by false apart = earlier other moment (sym (read_same (λ (k : Connection). k.heard) conn other kept old new h false apart) ∙ there)

-- what is read of each, after one has changed: what isn't changed stays
pub read_changed : {X : Type 0} (read : Connection → X) (conn : ℕ) (change : Connection → Connection) (turned : X → X) (old new : Tables) → ChangesConnection conn change old new
    → ((kept : Connection) → read (change kept) ≡ turned (read kept)) → (other : ℕ)
    → option_map read (connection_of other new.connections)
    ≡ cond (conn == other) (option_map turned (option_map read (connection_of other old.connections))) (option_map read (connection_of other old.connections))
read_changed read conn change turned old new changes turns other = ap (option_map read) (changes.each other) ∙ by (conn == other) (connection_of other old.connections)
  where
    by : (same : Bool) (kept : Option Connection) → option_map read (cond same (option_map change kept) kept) ≡ cond same (option_map turned (option_map read kept)) (option_map read kept)
    by true None = refl
    by true (Some kept) = ap Some (turns kept)
    by false kept = refl

pub kept_changed : (conn : ℕ) (change : Option Session → Option Session) (old new : Tables) → ChangesSession conn change old new → (other : ℕ)
    → kept_of other new.connections ≡ cond (conn == other) (option_map change (kept_of other old.connections)) (kept_of other old.connections)
kept_changed conn change old new changes other =
    read_changed (λ (k : Connection). k.session) conn (λ (k : Connection). record k { session = change k.session }) change old new changes (λ kept. refl) other

-- where a session changes, the connection is heard when it was
pub heard_kept : (conn : ℕ) (change : Option Session → Option Session) (old new : Tables) → ChangesSession conn change old new → (other : ℕ) → heard_of other new.connections ≡ heard_of other old.connections
heard_kept conn change old new changes other =
    read_changed (λ (k : Connection). k.heard) conn (λ (k : Connection). record k { session = change k.session }) (λ moment. moment) old new changes (λ kept. refl) other
    ∙ by (conn == other) (heard_of other old.connections)
  where
    by : (same : Bool) (found : Option ℕ) → cond same (option_map (λ (moment : ℕ). moment) found) found ≡ found
    by true None = refl
    by true (Some moment) = refl
    by false found = refl
