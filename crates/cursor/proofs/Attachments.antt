-- The answers of an attached seat lead from its start to its cursor: this adds up, and stays true as the log grows.
use Rattle.std.proofs.Common.{◌≡◌, ◌≢◌, ℕ, ◌+◌, ◌<◌, ◌≤◌, true, Option, Some, None, List, [], ◌∷◌, ◌++◌, zero, suc, length, refl, sym, ◌∙◌, ap, subst, inl, inr, arith, append_assoc, append-nil, length-append, slice_get, slice_set}
use Rattle.std.proofs.lemmas.Bool.Decides.{eqb_tells}
use Rattle.std.proofs.lemmas.Option.{slice_get_within}
use Rattle.cursor.specs.declared.packets.Packet.{Packet}
use Rattle.cursor.specs.declared.takes.Delivery.{Delivery}
use Rattle.cursor.specs.declared.takes.Delivery.TheVariants.{Got, Lost, Empty, Ended}
use Rattle.cursor.specs.declared.calls.Call.{Call}
use Rattle.cursor.specs.declared.calls.Call.TheVariants.{Publish, Close, Attach, Take, Detach}
use Rattle.cursor.specs.declared.calls.Answer.{Answer}
use Rattle.cursor.specs.declared.calls.Answer.TheVariants.{Appended, Refused, Closed, Attached, Taken, Detached}
use Rattle.cursor.specs.Log.{Log, LogEvent, Event, Run, with_cursor, empty_log}
use Rattle.cursor.specs.Account.{Attachment, StaysAttached, account_of, cursor_of, lost, received, take_of, takes_of}
use Rattle.cursor.proofs.Counting.{read_place}

-- from the cursor c on these answers lead to the cursor e, over these packets
abbrev pub Settles : List Packet → (c : ℕ) → List Delivery → (e : ℕ) → Type 0
Settles packets c [] e = (e ≡ c) × (c ≤ length packets)
Settles packets c (Got n p ∷ ds) e = (n ≡ c) × (slice_get packets c ≡ Some p) × Settles packets (c + 1) ds e
Settles packets c (Lost k ∷ ds) e = Settles packets (c + k) ds e
Settles packets c (Empty ∷ ds) e = Settles packets c ds e
Settles packets c (Ended ∷ ds) e = Settles packets c ds e

-- the cursor is the one before, and what was taken and lost
pub Settles-adds : (packets : List Packet) (c : ℕ) (ds : List Delivery) (e : ℕ) → Settles packets c ds e → e ≡ c + length (received ds) + lost ds
Settles-adds packets c [] e h = let at = h.0 in omega arith
Settles-adds packets c (Got n p ∷ ds) e h = omega (arith, Settles-adds packets (c + 1) ds e h.2)
Settles-adds packets c (Lost k ∷ ds) e h = omega (arith, Settles-adds packets (c + k) ds e h)
Settles-adds packets c (Empty ∷ ds) e h = Settles-adds packets c ds e h
Settles-adds packets c (Ended ∷ ds) e h = Settles-adds packets c ds e h

-- it is within the log
pub Settles-within : (packets : List Packet) (c : ℕ) (ds : List Delivery) (e : ℕ) → Settles packets c ds e → e ≤ length packets
Settles-within packets c [] e h = let at = h.0 in let within = h.1 in omega arith
Settles-within packets c (Got n p ∷ ds) e h = Settles-within packets (c + 1) ds e h.2
Settles-within packets c (Lost k ∷ ds) e h = Settles-within packets (c + k) ds e h
Settles-within packets c (Empty ∷ ds) e h = Settles-within packets c ds e h
Settles-within packets c (Ended ∷ ds) e h = Settles-within packets c ds e h

pub slice_get-append : {X : Type 0} (xs ys : List X) (i : ℕ) (x : X) → slice_get xs i ≡ Some x → slice_get (xs ++ ys) i ≡ Some x
slice_get-append [] ys i x at = absurd (cc)
slice_get-append (y ∷ xs) ys zero x at = at
slice_get-append (y ∷ xs) ys (suc i) x at = slice_get-append xs ys i x at

pub read_other : {X : Type 0} (xs : List X) (t s : ℕ) (new : X) → t ≢ s → slice_get (slice_set xs t new) s ≡ slice_get xs s
read_other [] t s new ne = refl
read_other (x ∷ xs) zero zero new ne = absurd (ne refl)
read_other (x ∷ xs) zero (suc s) new ne = refl
read_other (x ∷ xs) (suc t) zero new ne = refl
read_other (x ∷ xs) (suc t) (suc s) new ne = read_other xs t s new (λ e. ne (ap suc e))

-- what stands in a log stays there as it grows
pub Settles-grows : (packets more : List Packet) (c : ℕ) (ds : List Delivery) (e : ℕ) → Settles packets c ds e → Settles (packets ++ more) c ds e
Settles-grows packets more c [] e h = let within = h.1 in (h.0, omega (arith, length-append packets more))
Settles-grows packets more c (Got n p ∷ ds) e h = (h.0, slice_get-append packets more c p h.1, Settles-grows packets more (c + 1) ds e h.2)
Settles-grows packets more c (Lost k ∷ ds) e h = Settles-grows packets more (c + k) ds e h
Settles-grows packets more c (Empty ∷ ds) e h = Settles-grows packets more c ds e h
Settles-grows packets more c (Ended ∷ ds) e h = Settles-grows packets more c ds e h

pub Settles-append : (packets : List Packet) (c : ℕ) (ds : List Delivery) (m : ℕ) (es : List Delivery) (e : ℕ)
    → Settles packets c ds m → Settles packets m es e → Settles packets c (ds ++ es) e
Settles-append packets c [] m es e h k = let P : ℕ → Type 0 = λ n. Settles packets n es e in subst P h.0 k
Settles-append packets c (Got n p ∷ ds) m es e h k = (h.0, h.1, Settles-append packets (c + 1) ds m es e h.2 k)
Settles-append packets c (Lost n ∷ ds) m es e h k = Settles-append packets (c + n) ds m es e h k
Settles-append packets c (Empty ∷ ds) m es e h k = Settles-append packets c ds m es e h k
Settles-append packets c (Ended ∷ ds) m es e h k = Settles-append packets c ds m es e h k

-- what a seat at cursor c has after these answers, in a log that grew from old to new
pub record After (old new : Log) (s c : ℕ) (ds : List Delivery) : Type 0 where
  pub to : ℕ
  pub cursor : slice_get new.cursors s ≡ Some (Some to)
  pub settles : Settles new.packets c ds to
  pub more : List Packet
  pub grows : new.packets ≡ old.packets ++ more

-- the same of an equal log
pub After-same : (old new new' : Log) (s c : ℕ) (ds : List Delivery) → new' ≡ new → After old new s c ds → After old new' s c ds
After-same old new new' s c ds e h = let P : Log → Type 0 = λ l. After old l s c ds in subst P (sym e) h

pub After-none : (old : Log) (s c : ℕ) → slice_get old.cursors s ≡ Some (Some c) → c ≤ length old.packets → After old old s c []
After-none old s c at within = record { to = c; cursor = at; settles = (refl, within); more = []; grows = sym (append-nil old.packets) }

pub After-other : (old : Log) (t s c : ℕ) (new : Option ℕ) → t ≢ s → slice_get old.cursors s ≡ Some (Some c) → c ≤ length old.packets
    → After old (with_cursor old t new) s c []
After-other old t s c new ne at within =
    record { to = c; cursor = read_other old.cursors t s new ne ∙ at; settles = (refl, within); more = []; grows = sym (append-nil old.packets) }

-- a take of the seat itself
pub After-take : (keep : ℕ) (old new : Log) (s c : ℕ) (d : Delivery) → LogEvent keep old (Take s) (Taken d) new
    → slice_get old.cursors s ≡ Some (Some c) → c ≤ length old.packets → After old new s c (d ∷ [])
After-take keep old new s c (Got n p) h at within =
    let same : n ≡ c = let there = h.0 in cc in
    let here : slice_get old.packets c ≡ Some p = rw (← same) h.2 in
    let below : c < length old.packets = slice_get_within old.packets c p here in
    After-same old (with_cursor old s (Some (n + 1))) new s c (Got n p ∷ []) h.3
    (record { to = n + 1; cursor = read_place old.cursors s (Some c) (Some (n + 1)) at; settles = (same, here, (omega arith, omega arith)); more = []; grows = sym (append-nil old.packets) })
After-take keep old new s c (Lost k) h at within =
    let same : h.0 ≡ c = let there = h.1 in cc in
    let below = h.2 in
    let count = h.3 in
    After-same old (with_cursor old s (Some (h.0 + k))) new s c (Lost k ∷ []) h.4
    (record { to = h.0 + k; cursor = read_place old.cursors s (Some c) (Some (h.0 + k)) at; settles = (omega arith, omega arith); more = []; grows = sym (append-nil old.packets) })
After-take keep old new s c Empty h at within =
    After-same old old new s c (Empty ∷ []) h.2 (record { to = c; cursor = at; settles = (refl, within); more = []; grows = sym (append-nil old.packets) })
After-take keep old new s c Ended h at within =
    After-same old old new s c (Ended ∷ []) h.2 (record { to = c; cursor = at; settles = (refl, within); more = []; grows = sym (append-nil old.packets) })

-- a take of another seat
pub After-other_take : (keep : ℕ) (old new : Log) (t s c : ℕ) (d : Delivery) → t ≢ s → LogEvent keep old (Take t) (Taken d) new
    → slice_get old.cursors s ≡ Some (Some c) → c ≤ length old.packets → After old new s c []
After-other_take keep old new t s c (Got n p) ne h at within = After-same old _ new s c [] h.3 (After-other old t s c _ ne at within)
After-other_take keep old new t s c (Lost k) ne h at within = After-same old _ new s c [] h.4 (After-other old t s c _ ne at within)
After-other_take keep old new t s c Empty ne h at within = After-same old old new s c [] h.2 (After-none old s c at within)
After-other_take keep old new t s c Ended ne h at within = After-same old old new s c [] h.2 (After-none old s c at within)

-- one event, which doesn't detach the seat
pub After-event : (keep : ℕ) (old new : Log) (s c : ℕ) (call : Call) (answer : Answer) → LogEvent keep old call answer new → call ≢ Detach s
    → slice_get old.cursors s ≡ Some (Some c) → c ≤ length old.packets → After old new s c (take_of s call answer)
After-event keep old new s c (Publish p) (Appended n) h stays at within =
    After-same old (record old { packets = old.packets ++ p ∷ [] }) new s c [] h.2
    (record { to = c; cursor = at; settles = (refl, omega (arith, length-append old.packets (p ∷ []))); more = p ∷ []; grows = refl })
After-event keep old new s c (Publish p) Refused h stays at within = After-same old old new s c [] h.1 (After-none old s c at within)
After-event keep old new s c Close Closed h stays at within =
    After-same old (record old { closed = true }) new s c [] h.1
    (record { to = c; cursor = at; settles = (refl, within); more = []; grows = sym (append-nil old.packets) })
After-event keep old new s c (Attach t m) (Attached n) h stays at within =
    let ne : t ≢ s = λ e. let free = rw e at h.0 in cc in
    After-same old _ new s c [] h.2 (After-other old t s c _ ne at within)
After-event keep old new s c (Take t) (Taken d) h stays at within =
    elim (eqb_tells t s) [
      | inl e ↦ let P : ℕ → Type 0 = λ u. LogEvent keep old (Take u) (Taken d) new in rw e.0 (After-take keep old new s c d (subst P e.1 h) at within)
      | inr e ↦ rw e.0 (After-other_take keep old new t s c d e.1 h at within)
    ]
After-event keep old new s c (Detach t) (Detached l) h stays at within =
    let ne : t ≢ s = λ e. stays (ap Detach e) in
    After-same old _ new s c [] h.3 (After-other old t s c _ ne at within)
After-event keep old new s c call answer h stays at within = absurd h

-- events that don't detach the seat
pub After-run : (keep : ℕ) (old new : Log) (s c : ℕ) (events : List Event) → Run keep old events new → StaysAttached s events
    → slice_get old.cursors s ≡ Some (Some c) → c ≤ length old.packets → After old new s c (takes_of s events)
After-run keep old new s c [] run stays at within = After-same old old new s c [] run (After-none old s c at within)
After-run keep old new s c (e ∷ es) run stays at within =
    let one = After-event keep old run.0 s c e.call e.answer run.1 stays.0 at within in
    let others = After-run keep run.0 new s one.to es run.2 stays.1 one.cursor (Settles-within run.0.packets c (take_of s e.call e.answer) one.to one.settles) in
    let grown : Settles new.packets c (take_of s e.call e.answer) one.to = rw others.grows (Settles-grows run.0.packets others.more c (take_of s e.call e.answer) one.to one.settles) in
    record {
      to = others.to;
      cursor = others.cursor;
      settles = Settles-append new.packets c (take_of s e.call e.answer) one.to (takes_of s es) others.to grown others.settles;
      more = one.more ++ others.more;
      grows = others.grows ∙ ap (λ ps. ps ++ others.more) one.grows ∙ append_assoc old.packets one.more others.more;
    }

-- a run in two parts
pub Run-split : (keep : ℕ) (old : Log) (xs ys : List Event) (new : Log) → Run keep old (xs ++ ys) new → (mid : Log) × Run keep old xs mid × Run keep mid ys new
Run-split keep old [] ys new run = (old, refl, run)
Run-split keep old (x ∷ xs) ys new run = let rest = Run-split keep run.0 xs ys new run.2 in (rest.0, (run.0, run.1, rest.1), rest.2)

-- the cursor of an attachment, to which its answers lead from its start
pub record Reached (seat start : ℕ) (during : List Event) (log : Log) : Type 0 where
  pub to : ℕ
  pub cursor : slice_get log.cursors seat ≡ Some (Some to)
  pub settles : Settles log.packets start (takes_of seat during) to
  pub adds : cursor_of (account_of start (takes_of seat during)) ≡ to

pub reached : (keep seats seat back start : ℕ) (before during : List Event) (log : Log) → Attachment keep seats seat back start before during log → Reached seat start during log
reached keep seats seat back start before during log h =
    let split = Run-split keep (empty_log seats) before _ log h.legal in
    let old = split.0 in
    let run = split.2 in
    let event = run.1 in
    let cursor : slice_get run.0.cursors seat ≡ Some (Some start) =
    ap (λ (l : Log). slice_get l.cursors seat) event.2 ∙ read_place old.cursors seat None (Some start) event.0 in
    let within : start ≤ length run.0.packets = rw event.2 (let at = event.1 in omega arith) in
    let after = After-run keep run.0 log seat start during run.2 h.stays cursor within in
    record { to = after.to; cursor = after.cursor; settles = after.settles; adds = sym (Settles-adds log.packets start (takes_of seat during) after.to after.settles) }
