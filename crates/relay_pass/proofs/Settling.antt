-- What a run of takes gives a seat: answers that lead from its cursor on in what it sees of the log, and losses of packets
-- that weren't kept any more.
use Rattle.std.proofs.Common.{◌≡◌, ℕ, ◌+◌, ◌<◌, ◌≤◌, true, Some, List, [], ◌∷◌, ◌++◌, length, refl, sym, ap, subst, ◌∙◌, arith, append_assoc, append-nil, length-append, slice_get}
use mathlib.Core.List.{IsPrefix}
use Rattle.std.proofs.lemmas.List.Elements.{All-append, All-cons, All-head, All-nil, All-tail, All-weaker}
use Rattle.std.proofs.lemmas.Option.{slice_get_within}
use Rattle.cursor.specs.declared.packets.Packet.{Packet}
use Rattle.cursor.specs.declared.takes.Account.{Account}
use Rattle.cursor.specs.declared.takes.Delivery.{Delivery}
use Rattle.cursor.specs.declared.takes.Delivery.TheVariants.{Got, Lost, Empty, Ended}
use Rattle.cursor.specs.Account.{Loss, account_of, counted, cursor_of, losses, lost, received, with_answers}
use Rattle.cursor.specs.Player.{ReceivedFrom}
use Rattle.cursor.specs.Taps.{AllGoOn, Takes}
use Rattle.cursor.proofs.Attachments.{Settles, Settles-adds, Settles-append, Settles-grows, Settles-within}
use Rattle.cursor.proofs.Counted.{with_answers-append, with_answers-none, with_answers-one, Counts-counted}
use Rattle.cursor.proofs.Kept.{received-without}
use Rattle.cursor.proofs.Positions.{once}
use Rattle.packet_ring.specs.Calls.{TakesNext}
use Rattle.packet_ring.specs.Views.{Subscribing, keep_of}
use Rattle.relay_pass.specs.Takes.{FellBehind}

module _ {A : Type 0} where
  pub prefix-refl : (xs : List A) → IsPrefix xs xs
  prefix-refl xs = ([], append-nil xs)

  pub prefix-same : (xs ys : List A) → xs ≡ ys → IsPrefix xs ys
  prefix-same xs ys same = ([], append-nil xs ∙ same)

  pub prefix-trans : (xs ys zs : List A) → IsPrefix xs ys → IsPrefix ys zs → IsPrefix xs zs
  prefix-trans xs ys zs p q = (p.0 ++ q.0, sym (append_assoc xs p.0 q.0) ∙ ap (λ (l : List A). l ++ q.0) p.1 ∙ q.1)

  pub prefix-longer : (xs ys : List A) → IsPrefix xs ys → length xs ≤ length ys
  prefix-longer xs ys p = omega (arith, length-append xs p.0, ap length p.1)

  empty-list : (xs : List A) → length xs ≡ 0 → xs ≡ []
  empty-list [] e = refl
  empty-list (x ∷ xs) e = absurd (omega arith)

  -- a beginning that is as long is the whole
  pub prefix-whole : (xs ys : List A) → IsPrefix xs ys → length ys ≤ length xs → xs ≡ ys
  prefix-whole xs ys p long =
      let none : p.0 ≡ [] = empty-list p.0 (omega (arith, length-append xs p.0, ap length p.1, long)) in
      sym (append-nil xs) ∙ ap (λ (l : List A). xs ++ l) (sym none) ∙ p.1

pub Settles-prefix : (xs ys : List Packet) (c : ℕ) (ds : List Delivery) (e : ℕ) → IsPrefix xs ys → Settles xs c ds e → Settles ys c ds e
Settles-prefix xs ys c ds e p h = subst (λ (l : List Packet). Settles l c ds e) p.1 (Settles-grows xs p.0 c ds e h)

pub FellBehind-longer : (keep : ℕ) (xs ys : List Packet) (ls : List Loss) → length xs ≤ length ys → FellBehind keep xs ls → FellBehind keep ys ls
FellBehind-longer keep xs ys ls long all =
    All-weaker (λ (l : Loss). (0 < l.count) × (l.first + l.count + keep ≤ length xs)) (λ (l : Loss). (0 < l.count) × (l.first + l.count + keep ≤ length ys))
    (λ l h. (h.0, let old = h.1 in omega (arith, old, long))) ls all

-- the losses of two lists of answers, one after the other
losses-append : (c : ℕ) (ds es : List Delivery) → losses c (ds ++ es) ≡ losses c ds ++ losses (c + length (received ds) + lost ds) es
losses-append c [] es = ap (λ (m : ℕ). losses m es) (omega arith)
losses-append c (Got n p ∷ ds) es = losses-append (c + 1) ds es ∙ ap (λ (m : ℕ). losses (c + 1) ds ++ losses m es) (omega arith)
losses-append c (Lost k ∷ ds) es =
    ap (λ (ls : List Loss). (let l : Loss = record { first = c; count = k } in l) ∷ ls)
    (losses-append (c + k) ds es ∙ ap (λ (m : ℕ). losses (c + k) ds ++ losses m es) (omega arith))
losses-append c (Empty ∷ ds) es = losses-append c ds es
losses-append c (Ended ∷ ds) es = losses-append c ds es

-- what a run of takes came to
pub record Settled (old : Subscribing) (answers : List Delivery) (new : Subscribing) : Type 0 where
  pub ring : new.ring ≡ old.ring
  pub grows : IsPrefix old.seen new.seen
  pub settles : Settles new.seen (cursor_of old.account) answers (cursor_of new.account)
  pub behind : FellBehind (keep_of old.ring) new.seen (losses (cursor_of old.account) answers)
  pub account : new.account ≡ with_answers old.account answers

some_same : (c n : ℕ) → slice_get (Some c ∷ []) 0 ≡ Some (Some n) → c ≡ n
some_same c n e = cc

cursor-counted : (old : Subscribing) (d : Delivery) (new : Subscribing) (k : ℕ) → TakesNext old d new → cursor_of (counted d old.account) ≡ cursor_of old.account + k → cursor_of new.account ≡ cursor_of old.account + k
cursor-counted old d new k h e = ap cursor_of (Counts-counted old.account d new.account h.counts) ∙ e

one_settles : (old : Subscribing) (d : Delivery) (new : Subscribing) → TakesNext old d new → Settles new.seen (cursor_of old.account) (d ∷ []) (cursor_of new.account)
one_settles old (Got n p) new h =
    let c = cursor_of old.account in
    let same : c ≡ n = some_same c n h.event.0 in
    let here : slice_get new.seen c ≡ Some p = ap (λ (k : ℕ). slice_get new.seen k) same ∙ h.event.2 in
    let below : c < length new.seen = slice_get_within new.seen c p here in
    (sym same, here, (cursor-counted old (Got n p) new 1 h (omega arith), omega (arith, below)))
one_settles old (Lost k) new h =
    let c = cursor_of old.account in
    let same : c ≡ h.event.0 = some_same c h.event.0 h.event.1 in
    let below = h.event.2 in
    let count = h.event.3 in
    (cursor-counted old (Lost k) new k h (omega arith), omega (arith, same, below, count))
one_settles old Empty new h =
    let c = cursor_of old.account in
    let same : c ≡ length new.seen = some_same c (length new.seen) h.event.0 in
    (cursor-counted old Empty new 0 h (omega arith) ∙ omega arith, omega (arith, same))
one_settles old Ended new h =
    let c = cursor_of old.account in
    let same : c ≡ length new.seen = some_same c (length new.seen) h.event.0 in
    (cursor-counted old Ended new 0 h (omega arith) ∙ omega arith, omega (arith, same))

one_behind : (old : Subscribing) (d : Delivery) (new : Subscribing) → TakesNext old d new → FellBehind (keep_of old.ring) new.seen (losses (cursor_of old.account) (d ∷ []))
one_behind old (Got n p) new h = All-nil _
one_behind old (Lost k) new h =
    let c = cursor_of old.account in
    let same : c ≡ h.event.0 = some_same c h.event.0 h.event.1 in
    let below = h.event.2 in
    let count = h.event.3 in
    All-cons (λ (l : Loss). (0 < l.count) × (l.first + l.count + keep_of old.ring ≤ length new.seen)) (record { first = c; count = k }) []
    (omega (arith, same, below, count), omega (arith, same, below, count)) (All-nil _)
one_behind old Empty new h = All-nil _
one_behind old Ended new h = All-nil _

pub one_take : (old : Subscribing) (d : Delivery) (new : Subscribing) → TakesNext old d new → Settled old (d ∷ []) new
one_take old d new h = record {
  ring = h.ring;
  grows = h.sees.grows;
  settles = one_settles old d new h;
  behind = one_behind old d new h;
  account = Counts-counted old.account d new.account h.counts ∙ with_answers-one old.account d;
}

-- the losses of answers that lead to a cursor, and of later ones
losses-later : (packets : List Packet) (c : ℕ) (ds : List Delivery) (m : ℕ) (es : List Delivery) → Settles packets c ds m → losses c (ds ++ es) ≡ losses c ds ++ losses m es
losses-later packets c ds m es h = losses-append c ds es ∙ ap (λ (k : ℕ). losses c ds ++ losses k es) (sym (Settles-adds packets c ds m h))

pub behind-append : (keep c m : ℕ) (packets log : List Packet) (ds es : List Delivery) → Settles packets c ds m → FellBehind keep log (losses c ds) → FellBehind keep log (losses m es)
    → FellBehind keep log (losses c (ds ++ es))
behind-append keep c m packets log ds es h first second =
    subst (FellBehind keep log) (sym (losses-later packets c ds m es h)) (All-append (λ (l : Loss). (0 < l.count) × (l.first + l.count + keep ≤ length log)) (losses c ds) (losses m es) first second)

-- a run of takes, and then another
pub joined : (old : Subscribing) (ds : List Delivery) (mid : Subscribing) (es : List Delivery) (new : Subscribing) → Settled old ds mid → Settled mid es new → Settled old (ds ++ es) new
joined old ds mid es new p q =
    let c = cursor_of old.account in
    let m = cursor_of mid.account in
    let later = subst (λ z. FellBehind (keep_of z) new.seen (losses m es)) p.ring q.behind in
    record {
      ring = q.ring ∙ p.ring;
      grows = prefix-trans old.seen mid.seen new.seen p.grows q.grows;
      settles = Settles-append new.seen c ds m es (cursor_of new.account) (Settles-prefix mid.seen new.seen c ds m q.grows p.settles) q.settles;
      behind = behind-append (keep_of old.ring) c m mid.seen new.seen ds es p.settles (FellBehind-longer (keep_of old.ring) mid.seen new.seen (losses c ds) (prefix-longer mid.seen new.seen q.grows) p.behind) later;
      account = q.account ∙ ap (λ (a : Account). with_answers a es) p.account ∙ with_answers-append old.account ds es;
    }

pub some_takes : (old : Subscribing) (d : Delivery) (ds : List Delivery) (new : Subscribing) → Takes TakesNext old (d ∷ ds) new → Settled old (d ∷ ds) new
some_takes old d [] new run = subst (Settled old (d ∷ [])) (sym run.2) (one_take old d run.0 run.1)
some_takes old d (e ∷ ds) new run = joined old (d ∷ []) run.0 (e ∷ ds) new (one_take old d run.0 run.1) (some_takes run.0 e ds new run.2)

pub takes-settle : (old : Subscribing) (ds : List Delivery) (new : Subscribing) → 1 ≤ length ds → Takes TakesNext old ds new → Settled old ds new
takes-settle old [] new some run = absurd (omega arith)
takes-settle old (d ∷ ds) new some run = some_takes old d ds new run

-- the last of some takes
pub takes-last : (old : Subscribing) (ds : List Delivery) (d : Delivery) (new : Subscribing) → Takes TakesNext old (ds ++ d ∷ []) new → (mid : Subscribing) × TakesNext mid d new
takes-last old [] d new run = (old, subst (TakesNext old d) (sym run.2) run.1)
takes-last old (e ∷ ds) d new run = takes-last run.0 ds d new run.2

-- a seat that was answered Empty has taken all that it sees
pub empty-end : (old new : Subscribing) → TakesNext old Empty new → cursor_of new.account ≡ length new.seen
empty-end old new h =
    let c = cursor_of old.account in
    let same : c ≡ length new.seen = some_same c (length new.seen) h.event.0 in
    let stays : cursor_of new.account ≡ c = ap cursor_of (Counts-counted old.account Empty new.account h.counts) in
    stays ∙ same

-- one that was answered Ended sees that the log is closed
pub ended-closed : (old new : Subscribing) → TakesNext old Ended new → new.closed ≡ true
ended-closed old new h = h.event.1

-- each answer that goes on moves the cursor
pub progress : (keep c : ℕ) (log : List Packet) (ds : List Delivery) → AllGoOn ds → FellBehind keep log (losses c ds) → length ds ≤ length (received ds) + lost ds
progress keep c log [] go all = omega arith
progress keep c log (Got n p ∷ ds) go all = omega (arith, progress keep (c + 1) log ds go.1 all)
progress keep c log (Lost k ∷ ds) go all =
    let P : Loss → Type 0 = λ l. (0 < l.count) × (l.first + l.count + keep ≤ length log) in
    let one : Loss = record { first = c; count = k } in
    let first = (All-head P one (losses (c + k) ds) all).0 in
    omega (arith, first, progress keep (c + k) log ds go.1 (All-tail P one (losses (c + k) ds) all))
progress keep c log (Empty ∷ ds) go all = absurd go.0
progress keep c log (Ended ∷ ds) go all = absurd go.0

-- none is lost while the log has at most `keep` packets from the cursor on
pub none_behind : (keep c : ℕ) (log : List Packet) (ds : List Delivery) → length log ≤ c + keep → FellBehind keep log (losses c ds) → (losses c ds ≡ []) × (lost ds ≡ 0)
none_behind keep c log [] few all = (refl, refl)
none_behind keep c log (Got n p ∷ ds) few all = none_behind keep (c + 1) log ds (omega (arith, few)) all
none_behind keep c log (Lost k ∷ ds) few all =
    let P : Loss → Type 0 = λ l. (0 < l.count) × (l.first + l.count + keep ≤ length log) in
    let first = All-head P (record { first = c; count = k }) (losses (c + k) ds) all in
    let some = first.0 in
    let far = first.1 in
    absurd (omega (arith, few, some, far))
none_behind keep c log (Empty ∷ ds) few all = none_behind keep c log ds few all
none_behind keep c log (Ended ∷ ds) few all = none_behind keep c log ds few all

-- answers that lead to a cursor are what was received from the log
pub settled-received : (log : List Packet) (c : ℕ) (ds : List Delivery) (e : ℕ) → Settles log c ds e → ReceivedFrom log c ds
settled-received log c ds e h =
    let adds = Settles-adds log c ds e h in
    let same : e ≡ cursor_of (account_of c ds) = omega (arith, adds) in
    let there : Settles log c ds (cursor_of (account_of c ds)) = subst (λ (k : ℕ). Settles log c ds k) same h in
    record {
      in_order = received-without log c ds (cursor_of (account_of c ds)) there (losses c ds) (λ n above. refl);
      within = Settles-within log c ds (cursor_of (account_of c ds)) there;
      once = λ n above below. once log c ds (cursor_of (account_of c ds)) n there above below;
    }

-- ---- takes and what is learned between them

-- These answers were given to the seat, which may have learned of the log between them: what it sees grew, its account
-- counts them, and over any log that begins with what it sees they lead from cursor to cursor.
pub record Led (old : Subscribing) (answers : List Delivery) (new : Subscribing) : Type 0 where
  pub ring : new.ring ≡ old.ring
  pub grows : IsPrefix old.seen new.seen
  pub account : new.account ≡ with_answers old.account answers
  pub settles : (log : List Packet) → IsPrefix new.seen log → cursor_of new.account ≤ length log → Settles log (cursor_of old.account) answers (cursor_of new.account)
  pub behind : (log : List Packet) → IsPrefix new.seen log → FellBehind (keep_of old.ring) log (losses (cursor_of old.account) answers)

pub led-adds : (old : Subscribing) (answers : List Delivery) (new : Subscribing) → Led old answers new → cursor_of new.account ≡ cursor_of old.account + length (received answers) + lost answers
led-adds old answers new h = ap cursor_of h.account ∙ omega arith

pub led-on : (old : Subscribing) (answers : List Delivery) (new : Subscribing) → Led old answers new → cursor_of old.account ≤ cursor_of new.account
led-on old answers new h = omega (arith, led-adds old answers new h)

pub led-quiet : (old new : Subscribing) → new.ring ≡ old.ring → new.account ≡ old.account → IsPrefix old.seen new.seen → Led old [] new
led-quiet old new ring account grows = record {
  ring = ring;
  grows = grows;
  account = account ∙ with_answers-none old.account;
  settles = λ log pre within. (let same : cursor_of new.account ≡ cursor_of old.account = ap cursor_of account in (same, omega (arith, same, within)));
  behind = λ log pre. All-nil _;
}

led-one : (old : Subscribing) (d : Delivery) (new : Subscribing) → TakesNext old d new → Led old (d ∷ []) new
led-one old d new h =
    let one = one_take old d new h in
    let c = cursor_of old.account in
    record {
      ring = one.ring;
      grows = one.grows;
      account = one.account;
      settles = λ log pre within. Settles-prefix new.seen log c (d ∷ []) (cursor_of new.account) pre one.settles;
      behind = λ log pre. FellBehind-longer (keep_of old.ring) new.seen log (losses c (d ∷ [])) (prefix-longer new.seen log pre) one.behind;
    }

pub led-join : (old : Subscribing) (ds : List Delivery) (mid : Subscribing) (es : List Delivery) (new : Subscribing) → Led old ds mid → Led mid es new → Led old (ds ++ es) new
led-join old ds mid es new p q =
    let c = cursor_of old.account in
    let m = cursor_of mid.account in
    let e = cursor_of new.account in
    let first : m ≡ c + length (received ds) + lost ds = led-adds old ds mid p in
    let second : e ≡ m + length (received es) + lost es = led-adds mid es new q in
    record {
      ring = q.ring ∙ p.ring;
      grows = prefix-trans old.seen mid.seen new.seen p.grows q.grows;
      account = q.account ∙ ap (λ (a : Account). with_answers a es) p.account ∙ with_answers-append old.account ds es;
      settles = λ log pre within.
          Settles-append log c ds m es e (p.settles log (prefix-trans mid.seen new.seen log q.grows pre) (omega (arith, second, within))) (q.settles log pre within);
      behind = λ log pre.
          subst (FellBehind (keep_of old.ring) log) (sym (losses-append c ds es ∙ ap (λ (k : ℕ). losses c ds ++ losses k es) (sym first)))
          (All-append (λ (l : Loss). (0 < l.count) × (l.first + l.count + keep_of old.ring ≤ length log)) (losses c ds) (losses m es)
          (p.behind log (prefix-trans mid.seen new.seen log q.grows pre)) (subst (λ z. FellBehind (keep_of z) log (losses m es)) p.ring (q.behind log pre)));
    }

pub led-takes : (old : Subscribing) (ds : List Delivery) (new : Subscribing) → Takes TakesNext old ds new → Led old ds new
led-takes old [] new run = led-quiet old new (ap (λ (s : Subscribing). s.ring) run) (ap (λ (s : Subscribing). s.account) run) (subst (λ (s : Subscribing). IsPrefix old.seen s.seen) (sym run) (prefix-refl old.seen))
led-takes old (d ∷ ds) new run = led-join old (d ∷ []) run.0 ds new (led-one old d run.0 run.1) (led-takes run.0 ds new run.2)
