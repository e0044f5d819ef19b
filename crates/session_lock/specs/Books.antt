-- What a book remembers, and how it is kept.
use Rattle.std.specs.Prelude.{◌≡◌, ◌≢◌, ◌+◌, ◌≤◌, nat_le, if◌then◌else◌, ℕ, Bool, true, false, List, length, drop, Option, None, Some}
use Rattle.std.specs.List.{Contains}
use Rattle.session_state.specs.declared.entry.Entry.{Entry}
use Rattle.session_state.specs.declared.entry.Entry.TheVariants.{Connect, Request, HangUp, Back, Expire}
use Rattle.session_state.specs.declared.method.Method.TheVariants as methods
use Rattle.session_state.specs.History.{History, since_last}
use Rattle.session_state.specs.Legal.{IsLegal}
use Rattle.session_state.specs.Lookups.{has_session, open_count}
use Rattle.session_state.specs.Methods.{method_of}
use Rattle.session_state.specs.Stands.{Stands, Tables}
use Rattle.session_lock.specs.declared.spares.MountPasses.{MountPasses}
use Rattle.session_lock.specs.Entries.{Written}
use Rattle.session_lock.specs.Held.{Held}
use Rattle.session_lock.specs.Spares.{AreSpare, out_count}

-- How many seats each mount has; what has happened, and how many of the newest entries are kept; how many are kept when
-- they are cut off before the next one; and the spare passes of the mounts that live.
pub record Remembered (P : Type 0) : Type 0 where
  pub seats : ℕ
  pub cut : ℕ
  pub history : History
  pub kept : ℕ
  pub spares : List (MountPasses P)

-- how many entries are kept after one more request or coming: it alone, where those before it are cut off
abbrev pub kept_after : {P : Type 0} → Remembered P → ℕ
kept_after book = if nat_le book.cut book.kept then 1 else book.kept + 1

-- a coming or a request, before which the entries are cut off where enough are kept
abbrev pub may_cut : Entry → Bool
may_cut (Connect conn) = true
may_cut (Request conn request given reply act) = true
may_cut (HangUp conn act) = false
may_cut (Back mount seat) = false
may_cut (Expire conn heard now act) = false

-- how many have hung up, expired or given a seat back since the last coming or request
abbrev pub left_since : History → ℕ
left_since history = length (since_last may_cut history)

-- an offer of passes comes with ANNOUNCE, one for each seat, and with no other method
abbrev pub IsOffer : {P : Type 0} → (seats : ℕ) → (method : List ℕ) → Option (List P) → Type 0
IsOffer seats method None = method_of method ≢ Some methods.Announce
IsOffer seats method (Some offer) = (method_of method ≡ Some methods.Announce) × (length offer ≡ seats)

-- A world that a history has led to: it is legal, and the tables answer each look-up as it does.
pub record IsLedTo (seats : ℕ) (history : History) (tables : Tables) : Type 0 where
  pub legal : IsLegal seats history
  pub stands : Stands history tables
  pub seats_are : tables.mounts.seats ≡ seats

-- There is room for the hang-up of each connection that is open, for the expiry of each session, of which there are no more
-- than are listed here by their connections, and for the return of each seat that is out.
pub record HasRoom (history : History) (out room : ℕ) : Type 0 where
  pub sessions : List ℕ
  pub all : (conn : ℕ) → has_session conn history ≡ true → Contains sessions conn
  pub enough : open_count history + length sessions + out ≤ room

-- The history is legal, the tables stand for it, the base is what the entries that are no longer kept have led to, and of
-- the others are no more kept than may be, but for those that have left since; the passes are the spare ones, and there is
-- room for all that needs no memory.
pub record IsKept {P : Type 0} (seats : ℕ) (tables : Tables) (written : Written) (held : Held P) : Type 0 where
  pub legal : IsLegal seats written.history
  pub stands : Stands written.history tables
  pub seats_are : tables.mounts.seats ≡ seats
  pub base : IsLedTo seats (drop written.kept written.history) written.base
  pub some : 1 ≤ written.cut
  pub bounded : written.kept ≤ written.cut + left_since written.history
  pub spare : AreSpare seats written.history held.mounts
  pub room : HasRoom written.history (out_count held.mounts) written.room
