-- A history: all that has happened, one entry after another, read from the newest back. Look-ups in it are made of the few
-- words here.
use Rattle.std.specs.Prelude.{◌≡◌, ℕ, suc, ◌+◌, ◌==◌, ◌&&◌, max, Bool, true, false, if◌then◌else◌, List, [], ◌∷◌, ◌++◌, ◌⊎◌, Option, None, Some, find}
use Rattle.std.specs.Option.{option_map, option_map_or}
use Rattle.rtsp_message.specs.Reply.{code_of}
use Rattle.session_state.specs.declared.entry.Entry.{Entry}
use Rattle.session_state.specs.declared.entry.Entry.TheVariants.{Connect, Request, HangUp, Back, Expire}
use Rattle.session_state.specs.declared.act.Act.{Act}
use Rattle.session_state.specs.declared.act.Act.TheVariants as acts
use Rattle.session_state.specs.declared.method.Method.{Method}
use Rattle.session_state.specs.Methods.{method_of}

-- the newest entry first
abbrev pub History : Type 0
History = List Entry

-- An entry, and the history before it.
pub record Moment : Type 0 where
  pub entry : Entry
  pub before : History

-- the last entry that ..
abbrev pub last_of : (Entry → Bool) → History → Option Entry
last_of that history = find that history

-- how many entries ..
abbrev pub how_many : (Entry → Bool) → History → ℕ
how_many that [] = 0
how_many that (entry ∷ before) = if that entry then suc (how_many that before) else how_many that before

-- the moments since the last entry that .., newest first
abbrev pub since_last : (Entry → Bool) → History → List Moment
since_last that [] = []
since_last that (entry ∷ before) = if that entry then [] else record { entry = entry; before = before } ∷ since_last that before

-- The n-th entry that .., counted from 1 and from the oldest, and what has come later.
pub record IsNth (that : Entry → Bool) (n : ℕ) (history later : History) (moment : Moment) : Type 0 where
  pub cut : history ≡ later ++ moment.entry ∷ moment.before
  pub is : that moment.entry ≡ true
  pub counted : n ≡ how_many that moment.before + 1

-- The last of some moments that .., newest first; none where there is none.
abbrev pub IsLast : (Moment → Type 0) → List Moment → Option Moment → Type 0
IsLast That [] found = found ≡ None
IsLast That (moment ∷ moments) found = (That moment × (found ≡ Some moment)) ⊎ ((That moment → ⊥) × IsLast That moments found)

-- the connection and the method of an accepted request: one that was answered 200
abbrev pub accepted : Entry → Option (ℕ × Method)
accepted (Request conn request given reply act) = if code_of reply.status == 200 then option_map (λ method. (conn, method)) (method_of request.method) else None
accepted (Connect conn) = None
accepted (HangUp conn act) = None
accepted (Back mount seat) = None
accepted (Expire conn heard now act) = None

-- an accepted request of such a method, of any connection, and of this one
abbrev pub accepts : (Method → Bool) → Entry → Bool
accepts such entry = option_map_or (λ one. such one.1) (accepted entry) false

abbrev pub accepts_from : ℕ → (Method → Bool) → Entry → Bool
accepts_from conn such entry = option_map_or (λ one. one.0 == conn && such one.1) (accepted entry) false

abbrev pub connects : ℕ → Entry → Bool
connects conn (Connect who) = who == conn
connects conn entry = false

abbrev pub is_connect : Entry → Bool
is_connect (Connect who) = true
is_connect entry = false

abbrev pub is_hang_up : Entry → Bool
is_hang_up (HangUp who act) = true
is_hang_up entry = false

-- the moment that was handed in with a request of a connection, and the greatest of those; 0 where there is none
abbrev pub heard_by : ℕ → Entry → ℕ
heard_by conn (Request who request given reply act) = if who == conn then given.now else 0
heard_by conn entry = 0

abbrev pub last_heard : ℕ → History → ℕ
last_heard conn [] = 0
last_heard conn (entry ∷ before) = max (heard_by conn entry) (last_heard conn before)

-- the act that a request was answered with
abbrev pub act_of : Entry → Act
act_of (Request conn request given reply act) = act
act_of entry = acts.None

abbrev pub is_play_of : (mount seat : ℕ) → Act → Bool
is_play_of mount seat (acts.Play of taken) = of == mount && taken == seat
is_play_of mount seat act = false

-- the seat that an act takes
abbrev pub seat_of : Act → Option ℕ
seat_of (acts.Play mount seat) = Some seat
seat_of act = None
