-- What was told of the log is the beginning of what the publisher published, if the publisher's token sights the block. Its own
-- token tells the whole log.
use Rattle.std.proofs.Common.{◌≡◌, ℕ, Bool, false, true, List, length, take, refl, sym, ap, ◌∙◌, subst, arith, take_all}
use mathlib.Core.Logic.{inl}
use mathlib.Core.List.{IsPrefix}
use base.Growing.{prefix_trans}
use Rattle.ring_steps.specs.declared.views.Publisher.{Publisher}
use Rattle.ring_steps.specs.Ring as Ring
use Rattle.packet_ring.specs.Rule.{Holds, Knows, Limits, View, with_end}
use Rattle.packet_ring.specs.Steps.{HasSeen, ends_at, log_of, publisher_of}
use Rattle.packet_ring.specs.Table.{IsSighted, State}
use Rattle.packet_ring.specs.Tokens.{Pinned}
use Rattle.packet_ring.specs.Views.{IsKnown, IsPublishing, RingId, packets_from}
use Rattle.packet_ring.specs.declared.block.Token.{Token}
use Rattle.packet_ring.proofs.Ends.{ends_with, longer, seen_on}
use Rattle.packet_ring.proofs.Going.{publisher_there}
use Rattle.packet_ring.proofs.Seeing.{same_seen, sees_on}

-- the publisher's log is the block's, and isn't closed
log_sighted : {L : Limits} (me : Knows) (told : List (List ℕ)) → me.view ≡ inl (log_of me.view, publisher_of me.view) → (publisher_of me.view).closed ≡ false → IsSighted (Holds L) 0 me.view told → IsPrefix told (log_of me.view)
log_sighted me told is goes_on h =
    let t : State View (List ℕ) = h.block in let s : Ring.State = h.kept.0 in let fits = h.kept.1 in
    let there = publisher_there s t fits (log_of me.view) (publisher_of me.view) me is h.at in
    let unclosed : s.head.closed ≡ false = fits.sound.slots.numbers.closed ∙ ap (λ (p : Publisher). p.closed) there.1 ∙ goes_on in
    let all : t.log ≡ log_of me.view = fits.log ∙ ap (λ (b : Bool). with_end b s.log) unclosed ∙ there.0 in
    subst (λ (l : List (List ℕ)). IsPrefix told l) all h.begins

unended : (b : Bool) → (b ≡ true → ⊥) → b ≡ false
unended true h = absurd (h refl)
unended false h = refl

pub record WasPublished (log told : List (List ℕ)) (count : ℕ) : Type 0 where
  pub begins : IsPrefix (packets_from (take count told)) (packets_from log)
  pub goes_on : ends_at told count ≡ false

pub was_published : {L : Limits} (number : ℕ) (me : Knows) (told : List (List ℕ)) (count : ℕ) → number ≡ 0 → me.view ≡ inl (log_of me.view, publisher_of me.view) → (publisher_of me.view).closed ≡ false → HasSeen (length (log_of me.view)) (log_of me.view) → HasSeen count told
    → IsSighted (Holds L) number me.view told → WasPublished (log_of me.view) told count
was_published {L = L} number me told count first is goes_on full has h =
    let log = log_of me.view in
    let pre = log_sighted me told is goes_on (subst (λ (n : ℕ). IsSighted (Holds L) n me.view told) first h) in
    let far = longer told log pre in
    let on = sees_on told log count (length log) pre has full (let within = has.within in omega arith) in
    record {
      begins = subst (λ (l : List (List ℕ)). IsPrefix (packets_from (take count told)) (packets_from l)) (take_all (length log) log (omega arith)) on.grows;
      goes_on = unended (ends_at told count) (λ e. let over = (on.ended e).1 in let never = ends_with false log in cc);
    }

-- the publisher's token has seen its whole log, and no end after it
pub record TellsLog (log told : List (List ℕ)) (count : ℕ) : Type 0 where
  pub known : IsKnown told count
  pub same : packets_from (take count told) ≡ packets_from log
  pub goes_on : ends_at told count ≡ false

pub tells_log : {L : Limits} (z : RingId) (t t' : Token) (count : ℕ) (told : List (List ℕ)) → IsPublishing z t count → t' ≡ t → told ≡ t.me.seen → IsSighted (Holds L) t'.number t'.me.view told → TellsLog (log_of t.me.view) told count
tells_log {L = L} z t t' count told is same all sighted =
    let h : IsSighted (Holds L) t.number t.me.view told = subst (λ (u : Token). IsSighted (Holds L) u.number u.me.view told) same sighted in
    let log = log_of t.me.view in
    let pre : IsPrefix log told = subst (IsPrefix log) (sym all) is.tells in
    let counted = is.counted in
    let has : HasSeen count told = seen_on log told count pre is.full in record {
      known = record { has = has; few = is.few };
      same = same_seen log told count pre is.full ∙ ap packets_from (take_all count log (omega arith));
      goes_on = (was_published t.number t.me told count is.publisher.at is.publisher.publisher is.goes_on (subst (λ (n : ℕ). HasSeen n log) is.counted is.full) has h).goes_on;
    }

-- after a publish that was refused for pins the token is still the publisher's, of the same log
pub still_publishing : (z : RingId) (t t' : Token) (count seats pins : ℕ) → IsPublishing z t count → t'.id ≡ t.id → t'.number ≡ t.number → Pinned seats pins t.me t'.me → IsPublishing z t' count
still_publishing z t t' count seats pins is id number h =
    let log = log_of t.me.view in
    let same_log : log_of t'.me.view ≡ log = ap log_of h.view in
    record {
      same = id ∙ is.same;
      publisher = record {
        at = number ∙ is.publisher.at;
        publisher = h.view ∙ sym (ap (λ (v : View). let u : View = inl (log_of v, publisher_of v) in u) h.view);
        within = ap (λ (v : View). (publisher_of v).phase) h.view ∙ is.publisher.within;
      };
      free = h.right;
      goes_on = ap (λ (v : View). (publisher_of v).closed) h.view ∙ is.goes_on;
      counted = is.counted ∙ ap length (sym same_log);
      few = is.few;
      full = subst (HasSeen count) (sym same_log) is.full;
      tells = subst (λ (l : List (List ℕ)). IsPrefix l t'.me.seen) (sym same_log) (prefix_trans log t.me.seen t'.me.seen is.tells h.grows);
    }
