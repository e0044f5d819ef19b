-- A trace is told from the last turn back: the packets that wait for the loads of their takes, what acts at a turn, and the
-- events so far.
use Rattle.std.proofs.Common.{◌≡◌, ◌≢◌, ℕ, ◌+◌, ◌<◌, true, false, Option, Some, None, List, [], ◌∷◌, ◌++◌, length, map, refl, sym, ◌∙◌, ap, subst, arith, inl, inr, get_or, slice_get, slice_set, is_some, ◌||◌}
use Rattle.std.proofs.Math.Bool.{and-false}
use Rattle.std.proofs.lemmas.Bool.Decides.{eqb_tells}
use Rattle.std.proofs.Math.Seq.{get_or-append_seam}
use Rattle.std.proofs.lemmas.List.{get_or_append_left, length-append, length-map, reverse-append}
use Rattle.std.proofs.Common.{append-nil, append_assoc}
use Rattle.std.proofs.lemmas.Option.{same_Some, slice_get-get_or, slice_get_read}
use Rattle.cursor.proofs.Counting.{read_place}
use Rattle.cursor.proofs.Attachments.{read_other}
use Rattle.std.specs.Prelude.{All, reverse, option_and_then}
use Rattle.cursor.specs.declared.calls.Answer.{Answer}
use Rattle.ring_steps.specs.declared.calls.Actor.{Actor}
use Rattle.ring_steps.specs.declared.calls.Actor.TheVariants.{P, Seat}
use Rattle.ring_steps.specs.declared.calls.Observed.{Observed}
use Rattle.ring_steps.specs.declared.calls.Observed.TheVariants as saw
use Rattle.ring_steps.specs.declared.made.Made.{Made}
use Rattle.ring_steps.specs.declared.trace.TraceEvent.{TraceEvent}
use Rattle.ring_steps.specs.declared.trace.TraceStep.{TraceStep}
use Rattle.ring_steps.specs.Acting.{Acted, acted, acted_at, acting, acting_answer, but_packet, event_at, event_of, is_load, is_reply, is_seat, only_packet, reply_to}
use Rattle.ring_steps.specs.Runs.{Turn}
use Rattle.ring_steps.specs.Traces.{Waits, made_of, step_of}

-- of all turns the later ones are told, and the earlier ones aren't yet
pub record IsTold (turns : List Turn) (made : List Made) (steps : List TraceStep) (events : List TraceEvent) (packets : List (Option Answer)) : Type 0 where
  pub front : List Turn
  pub back : List Turn
  pub split : turns ≡ front ++ back
  pub left : made ≡ map made_of front
  pub steps_told : reverse steps ≡ map step_of back
  pub events_told : reverse events ≡ map event_of (acted (length front) back)
  pub waits : Waits packets back

pub reply_skips : (i : ℕ) (t : Turn) (later : List Turn) → is_reply i t ≡ false → reply_to i (t ∷ later) ≡ reply_to i later
reply_skips i t later h = rw h refl

pub reply_ends : (i : ℕ) (t : Turn) (later : List Turn) → is_reply i t ≡ true → reply_to i (t ∷ later) ≡ t.answer
reply_ends i t later h = rw h refl

-- a turn of the publisher is no reply, nor is a turn of another seat, or one without answer and load
pub not_publishers : (i : ℕ) (t : Turn) → t.actor ≡ P → is_reply i t ≡ false
not_publishers i t by = rw by refl

pub others : (i j : ℕ) (t : Turn) → t.actor ≡ Seat j → i ≢ j → is_reply i t ≡ false
others i j t by ne = elim (eqb_tells i j) [ inl e ↦ absurd (ne e.1) | inr e ↦ rw (by, e.0) refl ]

pub silent : (i : ℕ) (t : Turn) → (is_some t.answer || is_load t.saw) ≡ false → is_reply i t ≡ false
silent i t none = rw none (and-false (is_seat i t.actor))

pub own : (i : ℕ) (t : Turn) → t.actor ≡ Seat i → (is_some t.answer || is_load t.saw) ≡ true → is_reply i t ≡ true
own i t by some = elim (eqb_tells i i) [ inl e ↦ rw (by, e.0, some) refl | inr e ↦ absurd (e.1 refl) ]

-- the packets that wait, before a turn that is no reply
pub waits_on : (t : Turn) (later : List Turn) (packets : List (Option Answer)) → ((i : ℕ) → is_reply i t ≡ false) → Waits packets later → Waits packets (t ∷ later)
waits_on t later packets none waits i r at = waits i r at ∙ ap only_packet (sym (reply_skips i t later (none i)))

pub waits_publisher : (t : Turn) (later : List Turn) (packets : List (Option Answer)) → t.actor ≡ P → Waits packets later → Waits packets (t ∷ later)
waits_publisher t later packets by waits = waits_on t later packets (λ i. not_publishers i t by) waits

pub waits_silent : (t : Turn) (later : List Turn) (packets : List (Option Answer)) → (is_some t.answer || is_load t.saw) ≡ false → Waits packets later → Waits packets (t ∷ later)
waits_silent t later packets none waits = waits_on t later packets (λ i. silent i t none) waits

-- before a reply
pub waits_reply : (t : Turn) (later : List Turn) (packets : List (Option Answer)) (i : ℕ) → t.actor ≡ Seat i → (is_some t.answer || is_load t.saw) ≡ true
    → i < length packets → Waits packets later → Waits (slice_set packets i (only_packet t.answer)) (t ∷ later)
waits_reply t later packets i by some within waits j r at =
    elim (eqb_tells i j) [
      | inl e ↦
          let there = slice_get-get_or packets i None within in
          let same : only_packet t.answer ≡ r = same_Some (only_packet t.answer) r (sym (read_place packets i (get_or packets i None) (only_packet t.answer) there) ∙ ap (slice_get (slice_set packets i (only_packet t.answer))) e.1 ∙ at) in
          sym same ∙ ap only_packet (sym (reply_ends j t later (own j t (by ∙ ap Seat e.1) some)))
      | inr e ↦
          waits j r (sym (read_other packets i j (only_packet t.answer) e.1) ∙ at)
          ∙ ap only_packet (sym (reply_skips j t later (others j i t by (λ f. e.1 (sym f)))))
    ]

answered_cases : (answer : Option Answer) (actor : Actor) (other : Observed) (later : List Turn) → is_some answer ≡ true
    → acting_answer answer actor other later ≡ option_and_then but_packet answer
answered_cases None actor other later h = absurd (cc)
answered_cases (Some a) actor other later h = refl

loading_cases : (answer : Option Answer) (i : ℕ) (other : Observed) (later : List Turn) → is_some answer ≡ false → is_load other ≡ true
    → acting_answer answer (Seat i) other later ≡ only_packet (reply_to i later)
loading_cases (Some a) i other later h load = absurd (cc)
loading_cases None i (saw.Load head) later h load = refl
loading_cases None i other later h load = absurd (cc)

silent_cases : (answer : Option Answer) (actor : Actor) (other : Observed) (later : List Turn) → is_some answer ≡ false → is_load other ≡ false
    → acting_answer answer actor other later ≡ None
silent_cases (Some a) actor other later h load = absurd (cc)
silent_cases None P other later h load = refl
silent_cases None (Seat i) (saw.Load head) later h load = absurd (cc)
silent_cases None (Seat i) other later h load = refl

publisher_cases : (answer : Option Answer) (other : Observed) (later : List Turn) → acting_answer answer P other later ≡ option_and_then but_packet answer
publisher_cases None other later = refl
publisher_cases (Some a) other later = refl

-- what acts at a turn that is answered, at a load that isn't, and at another one
pub acts_answered : (t : Turn) (later : List Turn) → is_some t.answer ≡ true → acting t later ≡ option_and_then but_packet t.answer
acts_answered t later some = answered_cases t.answer t.actor t.saw later some

pub acts_loading : (t : Turn) (later : List Turn) (i : ℕ) → t.actor ≡ Seat i → is_some t.answer ≡ false → is_load t.saw ≡ true → acting t later ≡ only_packet (reply_to i later)
acts_loading t later i by none load = rw by (loading_cases t.answer i t.saw later none load)

pub acts_silent : (t : Turn) (later : List Turn) → is_some t.answer ≡ false → is_load t.saw ≡ false → acting t later ≡ None
acts_silent t later none load = silent_cases t.answer t.actor t.saw later none load

pub acts_publisher : (t : Turn) (later : List Turn) → t.actor ≡ P → acting t later ≡ option_and_then but_packet t.answer
acts_publisher t later by = rw by (publisher_cases t.answer t.saw later)

-- the last of mapped elements
pub last_mapped : {X Y : Type 0} (f : X → Y) (xs : List X) (ys : List Y) (y : Y) → ys ++ y ∷ [] ≡ map f xs
    → (front : List X) × (x : X) × (xs ≡ front ++ x ∷ []) × (ys ≡ map f front) × (y ≡ f x)
last_mapped f [] [] y e = absurd (cc)
last_mapped f [] (z ∷ ys) y e = absurd (cc)
last_mapped f (x ∷ []) [] y e = ([], x, refl, refl, cc)
last_mapped f (x ∷ w ∷ xs) [] y e = absurd (cc)
last_mapped f (x ∷ xs) (z ∷ ys) y e =
    let tail : ys ++ y ∷ [] ≡ map f xs = cc in
    let head : z ≡ f x = cc in
    let rest = last_mapped f xs ys y tail in
    (x ∷ rest.0, rest.1, ap (λ l. x ∷ l) rest.2, (rw head (ap (λ l. f x ∷ l) rest.3)), rest.4)

-- the same, by what was made
pub replied : (made : Made) (t : Turn) (later : List Turn) (packets : List (Option Answer)) (place seat : ℕ) (packet : Option Answer) → made ≡ made_of t → made.actor ≡ Seat seat → place ≡ seat
    → (is_some made.answer || is_load made.saw) ≡ true → seat < length packets → packet ≡ only_packet made.answer → Waits packets later
    → Waits (slice_set packets place packet) (t ∷ later)
replied made t later packets place seat packet same by at some within is waits =
    let actor : t.actor ≡ Seat seat = sym (ap (λ (m : Made). m.actor) same) ∙ by in
    let ends : (is_some t.answer || is_load t.saw) ≡ true = sym (ap (λ (m : Made). is_some m.answer || is_load m.saw) same) ∙ some in
    let kept : packet ≡ only_packet t.answer = is ∙ ap (λ (m : Made). only_packet m.answer) same in
    rw (at, kept) (waits_reply t later packets seat actor ends within waits)

-- the packet that waited acts at the load
pub acts_waiting : (made : Made) (t : Turn) (later : List Turn) (packets : List (Option Answer)) (place seat : ℕ) (packet : Option Answer) → made ≡ made_of t → made.actor ≡ Seat seat → place ≡ seat
    → is_some made.answer ≡ false → is_load made.saw ≡ true → seat < length packets → packet ≡ get_or packets place packet → Waits packets later
    → packet ≡ acting t later
acts_waiting made t later packets place seat packet same by at none load within read waits =
    let actor : t.actor ≡ Seat seat = sym (ap (λ (m : Made). m.actor) same) ∙ by in
    let silent : is_some t.answer ≡ false = sym (ap (λ (m : Made). is_some m.answer) same) ∙ none in
    let loads : is_load t.saw ≡ true = sym (ap (λ (m : Made). is_load m.saw) same) ∙ load in
    let below : place < length packets = omega arith in
    let there = slice_get_read packets (length packets) place packet refl below read in
    waits place packet there ∙ ap (λ i. only_packet (reply_to i later)) at ∙ sym (acts_loading t later seat actor silent loads)

-- the event that a step has, as its turn tells it
event_for_turn : (n : ℕ) (m : Made) (t : Turn) (answer : Option Answer) → m ≡ made_of t → event_at n m.actor answer ≡ map event_of (acted_at n t answer)
event_for_turn n m t None same = refl
event_for_turn n m t (Some a) same = rw same refl

-- the events of the turns from the last one in front on
told_more : (front : List Turn) (t : Turn) (back : List Turn) (events : List TraceEvent) → reverse events ≡ map event_of (acted (length (front ++ t ∷ [])) back)
    → reverse events ≡ map event_of (acted (length front + 1) back)
told_more front t back events h = h ∙ ap (λ n. map event_of (acted n back)) (length-append front (t ∷ []))

one_told : (n : ℕ) (t : Turn) (answer : Option Answer) (rest : List Acted) (events new : List TraceEvent) → reverse events ≡ map event_of rest
    → new ≡ events ++ map event_of (acted_at n t answer) → reverse new ≡ map event_of (acted_at n t answer ++ rest)
one_told n t None rest events new h e = ap reverse (e ∙ append-nil events) ∙ h
one_told n t (Some a) rest events new h e =
    ap reverse e ∙ reverse-append events (event_of (record { step = n; actor = t.actor; event = record { call = t.call; answer = a } }) ∷ [])
    ∙ ap (λ xs. event_of (record { step = n; actor = t.actor; event = record { call = t.call; answer = a } }) ∷ xs) h

-- one step more is told
pub tells_more : (turns : List Turn) (made rest : List Made) (last : Made) (steps new_steps : List TraceStep) (events new_events : List TraceEvent) (packets new_packets : List (Option Answer)) (answer : Option Answer)
    → made ≡ rest ++ last ∷ [] → new_steps ≡ steps ++ record { actor = last.actor; saw = last.saw } ∷ []
    → new_events ≡ events ++ event_at (length rest) last.actor answer
    → ((t : Turn) (later : List Turn) → last ≡ made_of t → Waits packets later → answer ≡ acting t later)
    → ((t : Turn) (later : List Turn) → last ≡ made_of t → Waits packets later → Waits new_packets (t ∷ later))
    → IsTold turns made steps events packets → IsTold turns rest new_steps new_events new_packets
tells_more turns made rest last steps new_steps events new_events packets new_packets answer popped stepped evented acts waits h =
    let found = last_mapped made_of h.front rest last (sym popped ∙ h.left) in
    let front = found.0 in
    let t = found.1 in
    let is = acts t h.back found.4 h.waits in
    let before : reverse events ≡ map event_of (acted (length front + 1) h.back) =
    told_more front t h.back events (h.events_told ∙ ap (λ (ts : List Turn). map event_of (acted (length ts) h.back)) found.2) in
    let where_ : length rest ≡ length front = ap (λ (ms : List Made). length ms) found.3 ∙ length-map front made_of in
    record {
      front = front;
      back = t ∷ h.back;
      split = h.split ∙ ap (λ (ts : List Turn). ts ++ h.back) found.2 ∙ append_assoc front (t ∷ []) h.back;
      left = found.3;
      steps_told = ap reverse stepped ∙ reverse-append steps (record { actor = last.actor; saw = last.saw } ∷ [])
          ∙ ap (λ (s : TraceStep). s ∷ reverse steps) (ap (λ (m : Made). let s : TraceStep = record { actor = m.actor; saw = m.saw } in s) found.4)
          ∙ ap (λ (xs : List TraceStep). step_of t ∷ xs) h.steps_told;
      events_told = one_told (length front) t (acting t h.back) (acted (length front + 1) h.back) events new_events before
          (evented ∙ ap (λ (xs : List TraceEvent). events ++ xs) (ap (λ n. event_at n last.actor answer) where_ ∙ event_for_turn (length front) last t answer found.4 ∙ ap (λ a. map event_of (acted_at (length front) t a)) is));
      waits = waits t h.back found.4 h.waits;
    }

-- what holds of each element holds of those before the last
pub all_front : {X : Type 0} (Q : X → Type 0) (xs : List X) (x : X) (all : List X) → all ≡ xs ++ x ∷ [] → All Q all → All Q xs
all_front Q xs x all e h k d lt =
    let same : get_or all k d ≡ get_or xs k d = ap (λ ys. get_or ys k d) e ∙ get_or_append_left xs (x ∷ []) d k lt in
    let longer = ap length e ∙ length-append xs (x ∷ []) in
    subst Q same (h k d (omega arith))

-- what holds of each element holds of the last
pub all_last : {X : Type 0} (Q : X → Type 0) (xs : List X) (x : X) (all : List X) → all ≡ xs ++ x ∷ [] → All Q all → Q x
all_last Q xs x all e h =
    let same : get_or all (length xs) x ≡ x = ap (λ ys. get_or ys (length xs) x) e ∙ get_or-append_seam xs x [] x in
    let longer = ap length e ∙ length-append xs (x ∷ []) in
    subst Q same (h (length xs) x (omega arith))
