-- A call that acts does so at a turn of its own actor within that call, and is answered there or, with a packet, later.
use Rattle.std.proofs.Common.{◌≡◌, ℕ, zero, suc, ◌+◌, true, false, Option, Some, None, List, [], ◌∷◌, ◌++◌, length, take, refl, sym, ◌∙◌, ap, subst, arith, inl, inr, append-nil, append_assoc, slice_get, is_some, ◌||◌, ◌⊎◌}
use Rattle.std.specs.Prelude.{◌&&◌, Bool}
use Rattle.std.proofs.Math.Seq.{take-append_seam}
use Rattle.std.proofs.lemmas.Bool.{and_parts}
use Rattle.std.proofs.lemmas.List.{length-append}
use Rattle.std.proofs.lemmas.Option.{same_Some}
use Rattle.cursor.specs.declared.calls.Answer.{Answer}
use Rattle.cursor.specs.declared.calls.Call.{Call}
use Rattle.cursor.specs.Log.{Event}
use Rattle.ring_steps.specs.declared.calls.Actor.{Actor}
use Rattle.ring_steps.specs.declared.calls.Actor.TheVariants.{P, Seat}
use Rattle.ring_steps.specs.declared.calls.Observed.{Observed}
use Rattle.ring_steps.specs.declared.calls.Observed.TheVariants as saw
use Rattle.ring_steps.specs.Acting.{Acted, acted, acted_at, acting, acting_answer, answered_of, answers_of, begun_by, but_packet, calls_of_actor, is_actor, is_load, is_packet, is_reply, is_seat, only_packet, reply_to}
use Rattle.ring_steps.specs.Atomic.{IsUnanswered}
use Rattle.ring_steps.specs.Runs.{At, Calls, MoveBy, Ran, Turn, start}
use Rattle.ring_steps.specs.Within.{ActsIn, ActsWithin, EndsAnswered, sights}
use Rattle.ring_steps.proofs.Counting.{answers_append, is_itself, move_counts, none_answered, none_of_unanswered, ran_counts_answers, same_actor}
use Rattle.ring_steps.proofs.Places.{by_test}
use Rattle.ring_steps.proofs.Potential.{ran_split}
use Rattle.ring_steps.proofs.Sights.{move_at, saw_early}

-- an acting call acts at one of the turns, before these later ones
pub record IsAt (turns : List Turn) (first : ℕ) (a : Acted) : Type 0 where
  pub front : List Turn
  pub turn : Turn
  pub later : List Turn
  pub split : turns ≡ front ++ turn ∷ later
  pub step : a.step ≡ first + length front
  pub actor : turn.actor ≡ a.actor
  pub call : turn.call ≡ a.event.call
  pub acts : acting turn later ≡ Some a.event.answer

at_later : (t : Turn) (ts : List Turn) (first : ℕ) (a : Acted) → IsAt ts (first + 1) a → IsAt (t ∷ ts) first a
at_later t ts first a h =
    let step = h.step in
    record { front = t ∷ h.front; turn = h.turn; later = h.later; split = ap (λ (us : List Turn). t ∷ us) h.split; step = omega arith; actor = h.actor; call = h.call; acts = h.acts }

at_one : (r : Option Answer) (t : Turn) (ts : List Turn) (first n : ℕ) (a : Acted) → acting t ts ≡ r → ((m : ℕ) → slice_get (acted (first + 1) ts) m ≡ Some a → IsAt ts (first + 1) a)
    → slice_get (acted_at first t r ++ acted (first + 1) ts) n ≡ Some a → IsAt (t ∷ ts) first a
at_one None t ts first n a is later at = at_later t ts first a (later n at)
at_one (Some b) t ts first zero a is later at =
    let same : record { step = first; actor = t.actor; event = record { call = t.call; answer = b } } ≡ a = same_Some _ a at in
    record {
      front = [];
      turn = t;
      later = ts;
      split = refl;
      step = ap (λ (c : Acted). c.step) (sym same) ∙ omega arith;
      actor = ap (λ (c : Acted). c.actor) same;
      call = ap (λ (c : Acted). c.event.call) same;
      acts = is ∙ ap (λ (c : Acted). Some c.event.answer) same;
    }
at_one (Some b) t ts first (suc n) a is later at = at_later t ts first a (later n at)

pub acted_located : (turns : List Turn) (first n : ℕ) (a : Acted) → slice_get (acted first turns) n ≡ Some a → IsAt turns first a
acted_located [] first n a at = absurd (cc)
acted_located (t ∷ ts) first n a at = at_one (acting t ts) t ts first n a refl (λ m h. acted_located ts (first + 1) m a h) at

-- these turns up to an actor's last answer, and those after it
pub record UpTo (actor : Actor) (turns : List Turn) : Type 0 where
  pub before : List Turn
  pub early : List Turn
  pub split : turns ≡ before ++ early
  pub ends : EndsAnswered actor before
  pub quiet : IsUnanswered actor early

none_or_some : (a : Option Answer) → (a ≡ None) ⊎ (is_some a ≡ true)
none_or_some None = inl refl
none_or_some (Some a) = inr refl

-- one turn more in front
up_to_more : (actor : Actor) (t : Turn) (ts : List Turn) → UpTo actor ts → UpTo actor (t ∷ ts)
up_to_more actor t ts h =
    let quiet_front : (is_actor actor t.actor ≡ true → t.answer ≡ None) → h.before ≡ [] → UpTo actor (t ∷ ts) = λ none empty.
    record { before = []; early = t ∷ h.early; split = ap (λ (us : List Turn). t ∷ us) (h.split ∙ ap (λ (us : List Turn). us ++ h.early) empty); ends = inl refl; quiet = (none, h.quiet) } in
    elim h.ends [
      | inr e ↦ record {
        before = t ∷ h.before;
        early = h.early;
        split = ap (λ (us : List Turn). t ∷ us) h.split;
        ends = inr (t ∷ e.0, e.1, ap (λ (us : List Turn). t ∷ us) e.2, e.3, e.4);
        quiet = h.quiet;
      }
      | inl empty ↦ by_test (is_actor actor t.actor)
          (λ by. elim (none_or_some t.answer) [
            | inl none ↦ quiet_front (λ is. none) empty
            | inr some ↦ record {
              before = t ∷ [];
              early = h.early;
              split = ap (λ (us : List Turn). t ∷ us) (h.split ∙ ap (λ (us : List Turn). us ++ h.early) empty);
              ends = inr ([], t, refl, by, some);
              quiet = h.quiet;
            }
          ])
          (λ other. quiet_front (λ is. absurd (cc)) empty)
    ]

up_to : (actor : Actor) (turns : List Turn) → UpTo actor turns
up_to actor [] = record { before = []; early = []; split = refl; ends = inl refl; quiet = tt }
up_to actor (t ∷ ts) = up_to_more actor t ts (up_to actor ts)

-- the turn that answers a call, after turns that don't: none, unless the answer is a packet
pub record Answers (actor : Actor) (turns : List Turn) (a : Answer) : Type 0 where
  pub still : List Turn
  pub last : Turn
  pub after : List Turn
  pub split : turns ≡ still ++ last ∷ after
  pub quiet : IsUnanswered actor still
  pub by : last.actor ≡ actor
  pub answer : last.answer ≡ Some a
  pub settled : is_packet a ≡ false → still ≡ []

not_both : (b : Bool) {P : Type 0} → b ≡ true → b ≡ false → P
not_both b t f = let both : true ≡ false = sym t ∙ f in absurd (cc)

answers_later : (actor : Actor) (t : Turn) (ts : List Turn) (a : Answer) → is_packet a ≡ true → (is_actor actor t.actor ≡ true → t.answer ≡ None) → Answers actor ts a → Answers actor (t ∷ ts) a
answers_later actor t ts a packet none h = record {
  still = t ∷ h.still;
  last = h.last;
  after = h.after;
  split = ap (λ (us : List Turn). t ∷ us) h.split;
  quiet = (none, h.quiet);
  by = h.by;
  answer = h.answer;
  settled = λ other. not_both (is_packet a) packet other;
}

seat_is : (i : ℕ) (actor : Actor) → is_seat i actor ≡ is_actor (Seat i) actor
seat_is i P = refl
seat_is i (Seat s) = refl

no_reply : (own some load : Bool) → (own && (some || load)) ≡ false → own ≡ true → some ≡ false
no_reply true true load e is = absurd (cc)
no_reply true false load e is = refl
no_reply false some load e is = absurd (cc)

is_none : (a : Option Answer) → is_some a ≡ false → a ≡ None
is_none None e = refl
is_none (Some a) e = absurd (cc)

-- the turn that replies to a seat
replies : (i : ℕ) (later : List Turn) (a : Answer) → is_packet a ≡ true → reply_to i later ≡ Some a → Answers (Seat i) later a
replies i [] a packet reply = absurd (cc)
replies i (t ∷ ts) a packet reply =
    by_test (is_reply i t)
    (λ e. let by = (and_parts _ _ e).0 in
    record { still = []; last = t; after = ts; split = refl; quiet = tt; by = same_actor (Seat i) t.actor (sym (seat_is i t.actor) ∙ by); answer = rw e at reply; settled = λ other. refl })
    (λ e. answers_later (Seat i) t ts a packet (λ is. is_none t.answer (no_reply (is_seat i t.actor) (is_some t.answer) (is_load t.saw) e (seat_is i t.actor ∙ is))) (replies i ts a packet (rw e at reply)))

from_packet : (r : Option Answer) (a : Answer) → only_packet r ≡ Some a → r ≡ Some a
from_packet None a e = absurd (cc)
from_packet (Some b) a e = by_test (is_packet b) (λ t. rw t at e) (λ t. absurd (let none = rw t at e in cc))

is_one : (r : Option Answer) (a : Answer) → only_packet r ≡ Some a → is_packet a ≡ true
is_one None a e = absurd (cc)
is_one (Some b) a e = by_test (is_packet b) (λ t. ap is_packet (sym (same_Some b a (rw t at e))) ∙ t) (λ t. absurd (let none = rw t at e in cc))

but_it : (b a : Answer) → but_packet b ≡ Some a → b ≡ a
but_it b a e = by_test (is_packet b) (λ t. absurd (let none = rw t at e in cc)) (λ t. same_Some b a (rw t at e))

-- what acts at a turn is answered there or later
begun : (actor : Actor) (o : Observed) (t : Turn) (later : List Turn) (a : Answer) → t.actor ≡ actor → t.answer ≡ None → begun_by actor o later ≡ Some a → Answers actor (t ∷ later) a
begun (Seat i) (saw.Load head) t later a by none e =
    let packet = is_one (reply_to i later) a e in
    answers_later (Seat i) t later a packet (λ is. none) (replies i later a packet (from_packet (reply_to i later) a e))
begun actor o t later a by none e = absurd (cc)

answered_from : (r : Option Answer) (t : Turn) (later : List Turn) (a : Answer) → t.answer ≡ r → acting_answer r t.actor t.saw later ≡ Some a → Answers t.actor (t ∷ later) a
answered_from None t later a is e = begun t.actor t.saw t later a refl is e
answered_from (Some b) t later a is e =
    record { still = []; last = t; after = later; split = refl; quiet = tt; by = refl; answer = is ∙ ap (λ (c : Answer). Some c) (but_it b a e); settled = λ other. refl }

quiet_append : (actor : Actor) (xs ys : List Turn) → IsUnanswered actor xs → IsUnanswered actor ys → IsUnanswered actor (xs ++ ys)
quiet_append actor [] ys a b = b
quiet_append actor (t ∷ xs) ys a b = (a.0, quiet_append actor xs ys a.1 b)

-- the answers before a turn of an actor tell its call
call_at : (script : Calls) (keep seats : ℕ) (front : List Turn) (t : Turn) (later : List Turn) (end : At) (actor : Actor) → Ran script (start keep seats) (front ++ t ∷ later) end → t.actor ≡ actor
    → slice_get (calls_of_actor script actor) (length (answers_of actor front)) ≡ Some t.call
call_at script keep seats front t later end actor ran by =
    let parts = ran_split script (start keep seats) front (t ∷ later) end ran in
    let counts = move_counts actor script parts.0 t parts.2.0 parts.2.1 in
    let all = ran_counts_answers actor script (start keep seats) front parts.0 parts.1 in
    let none = none_answered actor keep seats in
    let size : answered_of parts.0 actor ≡ length (answers_of actor front) = omega arith in
    ap (slice_get (calls_of_actor script actor)) (sym size) ∙ counts.next (is_itself actor t.actor by)

same_answers : (actor : Actor) (before more : List Turn) → IsUnanswered actor more → answers_of actor (before ++ more) ≡ answers_of actor before
same_answers actor before more quiet = answers_append actor before more ∙ ap (λ (es : List Event). answers_of actor before ++ es) (none_of_unanswered actor more quiet) ∙ append-nil (answers_of actor before)

at_seam : (front : List Turn) (t : Turn) (later : List Turn) → slice_get (front ++ t ∷ later) (length front) ≡ Some t
at_seam [] t later = refl
at_seam (u ∷ front) t later = at_seam front t later

-- the call that acts at a turn, whole
whole_call : (script : Calls) (keep seats : ℕ) (turns : List Turn) (end : At) (a : Acted) → Ran script (start keep seats) turns end → (h : IsAt turns 0 a) (u : UpTo a.actor h.front)
    → Answers a.actor (h.turn ∷ h.later) a.event.answer → ActsIn script turns a
whole_call script keep seats turns end a ran h u w =
    let actor = a.actor in
    let during = u.early ++ w.still in
    let quiet = quiet_append actor u.early w.still u.quiet w.quiet in
    let whole : turns ≡ (u.before ++ during) ++ w.last ∷ w.after =
    h.split ∙ ap (λ (us : List Turn). us ++ h.turn ∷ h.later) u.split ∙ ap (λ (us : List Turn). (u.before ++ u.early) ++ us) w.split
    ∙ sym (append_assoc (u.before ++ u.early) w.still (w.last ∷ w.after)) ∙ ap (λ (us : List Turn). us ++ w.last ∷ w.after) (append_assoc u.before u.early w.still) in
    let calls = calls_of_actor script actor in
    let run = subst (λ (ts : List Turn). Ran script (start keep seats) ts end) h.split ran in
    let number : slice_get calls (length (answers_of actor u.before)) ≡ Some a.event.call =
    ap (λ (es : List Event). slice_get calls (length es)) (sym (same_answers actor u.before u.early u.quiet)) ∙ ap (λ (ts : List Turn). slice_get calls (length (answers_of actor ts))) (sym u.split)
    ∙ call_at script keep seats h.front h.turn h.later end actor run h.actor ∙ ap (λ (c : Call). Some c) h.call in
    let answered = ap (λ (es : List Event). slice_get calls (length es)) (sym (same_answers actor u.before during quiet))
    ∙ call_at script keep seats (u.before ++ during) w.last w.after end actor (subst (λ (ts : List Turn). Ran script (start keep seats) ts end) whole ran) w.by in
    let parts = ran_split script (start keep seats) h.front (h.turn ∷ h.later) end run in
    let seen = saw_early actor script keep seats u.before u.early parts.0 (subst (λ (ts : List Turn). Ran script (start keep seats) ts parts.0) u.split parts.1) u.ends u.quiet in
    let step = h.step in
    let at : a.step ≡ length h.front = omega arith in
    let size = ap (λ (us : List Turn). length us) u.split ∙ length-append u.before u.early in
    let more = length-append u.early w.still in
    record {
      within = record {
        before = u.before;
        during = during;
        last = w.last;
        after = w.after;
        whole = whole;
        begins = u.ends;
        goes_on = quiet;
        by = w.by;
        answer = w.answer;
        named = same_Some w.last.call a.event.call (sym answered ∙ number);
        call = number;
      };
      turn = h.turn;
      there = ap (slice_get turns) at ∙ ap (λ (ts : List Turn). slice_get ts (length h.front)) h.split ∙ at_seam h.front h.turn h.later;
      own = h.actor;
      named = h.call;
      early = u.early;
      begun = ap (λ n. take n turns) at ∙ ap (λ (ts : List Turn). take (length h.front) ts) h.split ∙ take-append_seam h.front (h.turn ∷ h.later) ∙ u.split;
      ends = omega arith;
      settled = λ other. let none = ap (λ (us : List Turn). length us) (w.settled other) in omega (arith, none);
      acts = move_at actor script parts.0 h.turn parts.2.0 h.later (sights actor u.early) a.event.answer h.actor (subst (λ (b : Actor). MoveBy b script parts.0 h.turn parts.2.0) h.actor parts.2.1) seen h.acts;
    }

pub acts_within : (script : Calls) (keep seats : ℕ) (turns : List Turn) (end : At) → Ran script (start keep seats) turns end → ActsWithin script turns
acts_within script keep seats turns end ran n a at =
    let h = acted_located turns 0 n a at in
    let answers = answered_from h.turn.answer h.turn h.later a.event.answer refl h.acts in
    whole_call script keep seats turns end a ran h (up_to a.actor h.front) (subst (λ (b : Actor). Answers b (h.turn ∷ h.later) a.event.answer) h.actor answers)
