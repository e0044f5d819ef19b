-- What a run of a subscriber's calls gave it is the log that it has seen by now, from its cursor on, less its losses.
use Rattle.std.proofs.Common.{◌≡◌, ℕ, ◌+◌, ◌≤◌, List, [], ◌∷◌, ◌++◌, length, refl, sym, ◌∙◌, ap, subst, arith, length-append}
use mathlib.Core.List.{IsPrefix}
use base.Growing.{prefix_refl, prefix_trans}
use Rattle.std.specs.Prelude.{slice_get, slice_range}
use Rattle.cursor.specs.declared.packets.Packet.{Packet}
use Rattle.cursor.specs.declared.takes.Account.{Account}
use Rattle.cursor.specs.declared.takes.Delivery.{Delivery}
use Rattle.cursor.specs.declared.takes.Delivery.TheVariants.{Got, Lost, Empty, Ended}
use Rattle.cursor.specs.Account.{account_of, cursor_of, losses, with_answers, without}
use Rattle.cursor.proofs.Attachments.{After-take, Settles, Settles-adds, Settles-append, Settles-grows, Settles-within}
use Rattle.cursor.proofs.Counted.{Counts-counted, with_answers-append, with_answers-none, with_answers-one}
use Rattle.cursor.proofs.Kept.{received-without}
use Rattle.cursor.proofs.Positions.{once}
use Rattle.packet_ring.specs.Calls.{TakesNext, log_with}
use Rattle.packet_ring.specs.Players.{AreNumbered, DoesCalls, SubscriberCall, WasGiven, answers_of, learns, takes}
use Rattle.packet_ring.specs.Views.{Subscribing, keep_of}

longer : (xs ys : List Packet) → IsPrefix xs ys → length xs ≤ length ys
longer xs ys pre = omega (arith, length-append xs pre.0, ap (λ (l : List Packet). length l) pre.1)

-- what leads from a cursor to another stays so as the log grows
grown : (xs ys : List Packet) (c : ℕ) (ds : List Delivery) (e : ℕ) → IsPrefix xs ys → Settles xs c ds e → Settles ys c ds e
grown xs ys c ds e pre h = subst (λ (l : List Packet). Settles l c ds e) pre.1 (Settles-grows xs pre.0 c ds e h)

-- the calls lead from the cursor before them to the cursor after them, over what is seen after them
pub record Leads (old : Subscribing) (answers : List Delivery) (new : Subscribing) : Type 0 where
  pub settles : Settles new.seen (cursor_of old.account) answers (cursor_of new.account)
  pub account : new.account ≡ with_answers old.account answers
  pub grows : IsPrefix old.seen new.seen

one_take : (old : Subscribing) (d : Delivery) (new : Subscribing) → TakesNext old d new → cursor_of old.account ≤ length old.seen → Leads old (d ∷ []) new
one_take old d new h within =
    let c : ℕ = cursor_of old.account in let e : ℕ = cursor_of new.account in
    let after = After-take (keep_of old.ring) (log_with new.seen new.closed c) (log_with new.seen new.closed e) 0 c d h.event refl (let far = longer old.seen new.seen h.sees.grows in omega arith) in
    let to : after.to ≡ e = (let at = after.cursor in cc) in
    record {
      settles = subst (λ (n : ℕ). Settles new.seen c (d ∷ []) n) to after.settles;
      account = Counts-counted old.account d new.account h.counts ∙ with_answers-one old.account d;
      grows = h.sees.grows;
    }

joined : (old : Subscribing) (ds es : List Delivery) (mid new : Subscribing) → Leads old ds mid → Leads mid es new → Leads old (ds ++ es) new
joined old ds es mid new h k = record {
  settles = Settles-append new.seen (cursor_of old.account) ds (cursor_of mid.account) es (cursor_of new.account) (grown mid.seen new.seen (cursor_of old.account) ds (cursor_of mid.account) k.grows h.settles) k.settles;
  account = k.account ∙ ap (λ (a : Account). with_answers a es) h.account ∙ with_answers-append old.account ds es;
  grows = prefix_trans old.seen mid.seen new.seen h.grows k.grows;
}

none_taken : (old new : Subscribing) → new.account ≡ old.account → IsPrefix old.seen new.seen → cursor_of old.account ≤ length old.seen → Leads old [] new
none_taken old new same pre within = record {
  settles = (ap cursor_of same, let far = longer old.seen new.seen pre in omega arith);
  account = same ∙ with_answers-none old.account;
  grows = pre;
}

leads : (old : Subscribing) (calls : List SubscriberCall) (new : Subscribing) → DoesCalls old calls new → cursor_of old.account ≤ length old.seen → Leads old (answers_of calls) new
leads old [] new h within = none_taken old new (ap (λ (s : Subscribing). s.account) h) (subst (λ (s : Subscribing). IsPrefix old.seen s.seen) (sym h) (prefix_refl old.seen)) within
leads old (takes d ∷ calls) new h within =
    let first = one_take old d h.0 h.1 within in
    joined old (d ∷ []) (answers_of calls) h.0 new first (leads h.0 calls new h.2 (Settles-within h.0.seen (cursor_of old.account) (d ∷ []) (cursor_of h.0.account) first.settles))
leads old (learns ∷ calls) new h within =
    let same : h.0.account ≡ old.account = ap (λ (s : Subscribing). s.account) h.1.same in
    let first = none_taken old h.0 same h.1.sees.grows within in
    joined old [] (answers_of calls) h.0 new first (leads h.0 calls new h.2 (Settles-within h.0.seen (cursor_of old.account) [] (cursor_of h.0.account) first.settles))

-- each packet is the one at its number
numbered : (packets : List Packet) (c : ℕ) (ds : List Delivery) (e : ℕ) → Settles packets c ds e → AreNumbered packets ds
numbered packets c [] e h = tt
numbered packets c (Got n p ∷ ds) e h = (ap (slice_get packets) h.0 ∙ h.1, numbered packets (c + 1) ds e h.2)
numbered packets c (Lost k ∷ ds) e h = (tt, numbered packets (c + k) ds e h)
numbered packets c (Empty ∷ ds) e h = (tt, numbered packets c ds e h)
numbered packets c (Ended ∷ ds) e h = (tt, numbered packets c ds e h)

pub were_given : (old new : Subscribing) (calls : List SubscriberCall) → DoesCalls old calls new → cursor_of old.account ≤ length old.seen → WasGiven old (answers_of calls) new
were_given old new calls h within =
    let ds = answers_of calls in let c : ℕ = cursor_of old.account in let e : ℕ = cursor_of new.account in
    let all = leads old calls new h within in
    let adds : e ≡ cursor_of (account_of c ds) = Settles-adds new.seen c ds e all.settles in
    record {
      received = record {
        in_order = received-without new.seen c ds e all.settles (losses c ds) (λ n above. refl) ∙ ap (λ (m : ℕ). without (losses c ds) c (slice_range new.seen c m)) adds;
        within = rw (← adds) (Settles-within new.seen c ds e all.settles);
        once = λ n above below. once new.seen c ds e n all.settles above (rw adds below);
      };
      numbered = numbered new.seen c ds e all.settles;
      account = all.account;
      grows = all.grows;
    }
