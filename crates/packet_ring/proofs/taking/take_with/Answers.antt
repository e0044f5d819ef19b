use Rattle.std.proofs.Common.{◌≡◌, ◌≢◌, ℕ, suc, ◌<◌, true, false, length, ◌+◌, ◌-◌, ◌*◌, ◌/◌, ◌%◌, ◌≤◌, List, ◌∷◌, sym, refl, ap, ◌∙◌, subst, arith, Some}
use Rattle.std.specs.Prelude.{slice_get}
use Rattle.ring_steps.specs.declared.views.Seat.{Seat}
use Rattle.ring_steps.specs.Ring.{cursor}
use Rattle.packet_ring.specs.declared.block.Token.{Token}
use Rattle.packet_ring.specs.Rule.{Knows}
use Rattle.packet_ring.specs.Steps.{HasSeen, next_packet, seat_of, took, Unpins}
use Rattle.packet_ring.specs.Tokens.{GotPacket, LostSome}
use Rattle.packet_ring.proofs.Holding.{Held, pinned_holds, gives, seat_found}
use Rattle.packet_ring.proofs.Looks.{closed_by, open_by, finds, loses, loses_later}
use Rattle.cursor.specs.Log.{packet_of}
use Rattle.cursor.specs.declared.takes.Delivery.TheVariants.{Got, Lost, Empty, Ended}
use Rattle.cursor.specs.declared.takes.Taken.TheVariants as taken
use Rattle.packet_ring.proofs.taking.take_with.Goals as goal

pub show-tag-requires-clause-packet : goal.show-tag-requires-clause-packet
show-tag-requires-clause-packet g c = let old : Knows = c.args.token.now.me in let x : Seat = seat_of old.view in let z = c.args.block.now.id in let keep : ℕ = z.units - 2 in let found : ℕ = c.load_first-head.result in let first : Knows = c.load_first-head.new.token.me in let load = c.load_first-head.ensures.step in
    let pinned : Knows = c.pin-word.new.token.me in let step = c.pin-word.ensures.step in let n : c.args.next ≡ cursor x = c.requires.next.0 in let size = c.requires.same.1 in let low = c.if-next-oldest.false in let oldest = c.saturating_sub-oldest.ensures in
    let other : found / 2 ≢ cursor x = λ e. c.if-count-next.false (e ∙ sym n) in let kept : found / 2 - keep ≤ cursor x = omega arith in
    let have : Held z.limits.1 (seat_of first.view) pinned = pinned_holds keep x old found first load other kept z.limits.1 (c.args.next % (c.args.keep + 1) + 1) c.pin-word.result pinned step (c.if-word-next.true ∙ ap (λ (k : ℕ). 2 * (k + 1)) n) in
    have.has

pub show-tag-requires-clause-room : goal.show-tag-requires-clause-room
show-tag-requires-clause-room g c = let old : Knows = c.args.token.now.me in let x : Seat = seat_of old.view in let z = c.args.block.now.id in let keep : ℕ = z.units - 2 in let found : ℕ = c.load_first-head.result in let first : Knows = c.load_first-head.new.token.me in let load = c.load_first-head.ensures.step in
    let pinned : Knows = c.pin-word.new.token.me in let step = c.pin-word.ensures.step in let n : c.args.next ≡ cursor x = c.requires.next.0 in let size = c.requires.same.1 in let low = c.if-next-oldest.false in let oldest = c.saturating_sub-oldest.ensures in
    let other : found / 2 ≢ cursor x = λ e. c.if-count-next.false (e ∙ sym n) in let kept : found / 2 - keep ≤ cursor x = omega arith in
    let have : Held z.limits.1 (seat_of first.view) pinned = pinned_holds keep x old found first load other kept z.limits.1 (c.args.next % (c.args.keep + 1) + 1) c.pin-word.result pinned step (c.if-word-next.true ∙ ap (λ (k : ℕ). 2 * (k + 1)) n) in
    let s = have.sized in let room = c.requires.sizes in let most = s.1 in let roomy = c.requires.same.3 in (s.0, omega arith, omega arith)

pub unpin-requires-clause-packet : goal.unpin-requires-clause-packet
unpin-requires-clause-packet g c = let old : Knows = c.args.token.now.me in let x : Seat = seat_of old.view in let z = c.args.block.now.id in let keep : ℕ = z.units - 2 in let found : ℕ = c.load_first-head.result in let first : Knows = c.load_first-head.new.token.me in let load = c.load_first-head.ensures.step in
    let pinned : Knows = c.pin-word.new.token.me in let step = c.pin-word.ensures.step in let n : c.args.next ≡ cursor x = c.requires.next.0 in let size = c.requires.same.1 in let low = c.if-next-oldest.false in let oldest = c.saturating_sub-oldest.ensures in
    let other : found / 2 ≢ cursor x = λ e. c.if-count-next.false (e ∙ sym n) in let kept : found / 2 - keep ≤ cursor x = omega arith in
    let have : Held z.limits.1 (seat_of first.view) pinned = pinned_holds keep x old found first load other kept z.limits.1 (c.args.next % (c.args.keep + 1) + 1) c.pin-word.result pinned step (c.if-word-next.true ∙ ap (λ (k : ℕ). 2 * (k + 1)) n) in
    subst (λ (t : Token). slice_get t.me.seen (cursor (seat_of t.me.view)) ≡ Some (next_packet t.me)) (sym c.show-tag.ensures.same.0) (ap (λ (k : ℕ). slice_get pinned.seen k) have.same ∙ have.at)

pub returns-then-word-next-clause-takes : goal.returns-then-word-next-clause-takes
returns-then-word-next-clause-takes g c = let old : Knows = c.args.token.now.me in let x : Seat = seat_of old.view in let z = c.args.block.now.id in let keep : ℕ = z.units - 2 in let found : ℕ = c.load_first-head.result in let first : Knows = c.load_first-head.new.token.me in let load = c.load_first-head.ensures.step in
    let pinned : Knows = c.pin-word.new.token.me in let step = c.pin-word.ensures.step in let n : c.args.next ≡ cursor x = c.requires.next.0 in let size = c.requires.same.1 in let low = c.if-next-oldest.false in let oldest = c.saturating_sub-oldest.ensures in
    let other : found / 2 ≢ cursor x = λ e. c.if-count-next.false (e ∙ sym n) in let kept : found / 2 - keep ≤ cursor x = omega arith in
    let have : Held z.limits.1 (seat_of first.view) pinned = pinned_holds keep x old found first load other kept z.limits.1 (c.args.next % (c.args.keep + 1) + 1) c.pin-word.result pinned step (c.if-word-next.true ∙ ap (λ (k : ℕ). 2 * (k + 1)) n) in
    let next : Knows = c.unpin.new.token.me in
    let end : Unpins (took (seat_of pinned.view) (next_packet pinned)) pinned next = subst (λ (t : Token). Unpins (took (seat_of t.me.view) (next_packet t.me)) t.me next) c.show-tag.ensures.same.0 c.unpin.ensures.step in
    let gave : GotPacket keep (found / 2) x (next_packet pinned) old next = gives keep x old found first load other kept z.limits.1 (c.args.next % (c.args.keep + 1) + 1) c.pin-word.result pinned next step end (subst (λ (k : ℕ). HasSeen k old.seen) n c.requires.next.1) have.at in
    let shown = c.show-tag.ensures.packet in let bs : List ℕ = shown.0 in let p : List ℕ = c.show-tag.result.0 ∷ bs in let packet : next_packet pinned ≡ p = sym shown.1 in let same : keep ≡ c.args.keep = omega arith in record {
      delivery = Got c.args.next (packet_of c.show-tag.result.0 bs);
      answered = ap (λ (k : ℕ). taken.Packet c.args.next c.show-tag.result.0 k) shown.2;
      given = (n, subst (λ (k : ℕ). GotPacket k (found / 2) x p old next) same (subst (λ (q : List ℕ). GotPacket keep (found / 2) x q old next) packet gave));
      seen = shown.3;
    }

pub returns-then-head-eq1-clause-takes : goal.returns-then-head-eq1-clause-takes
returns-then-head-eq1-clause-takes g c = let old : Knows = c.args.token.now.me in let x : Seat = seat_of old.view in let z = c.args.block.now.id in let keep : ℕ = z.units - 2 in let found : ℕ = c.load_first-head.result in let first : Knows = c.load_first-head.new.token.me in let load = c.load_first-head.ensures.step in
    let n : c.args.next ≡ cursor x = c.requires.next.0 in let size = c.requires.same.1 in let free = c.requires.seat.1 in
    record { delivery = Ended; answered = refl; given = finds keep x old found first load free true (closed_by load.head.closed load.head.length found load.bits c.if-head-eq1.true) (c.if-count-next.true ∙ n); seen = refl }

pub returns-else-head-eq1-clause-takes : goal.returns-else-head-eq1-clause-takes
returns-else-head-eq1-clause-takes g c = let old : Knows = c.args.token.now.me in let x : Seat = seat_of old.view in let z = c.args.block.now.id in let keep : ℕ = z.units - 2 in let found : ℕ = c.load_first-head.result in let first : Knows = c.load_first-head.new.token.me in let load = c.load_first-head.ensures.step in
    let n : c.args.next ≡ cursor x = c.requires.next.0 in let size = c.requires.same.1 in let free = c.requires.seat.1 in
    record { delivery = Empty; answered = refl; given = finds keep x old found first load free false (open_by load.head.closed load.head.length found load.bits c.if-head-eq1.false) (c.if-count-next.true ∙ n); seen = refl }

pub returns-then-next-oldest-clause-takes : goal.returns-then-next-oldest-clause-takes
returns-then-next-oldest-clause-takes g c = let old : Knows = c.args.token.now.me in let x : Seat = seat_of old.view in let z = c.args.block.now.id in let keep : ℕ = z.units - 2 in let found : ℕ = c.load_first-head.result in let first : Knows = c.load_first-head.new.token.me in let load = c.load_first-head.ensures.step in
    let n : c.args.next ≡ cursor x = c.requires.next.0 in let size = c.requires.same.1 in let free = c.requires.seat.1 in
    let oldest = c.saturating_sub-oldest.ensures in let low = c.if-next-oldest.true in let same : keep ≡ c.args.keep = omega arith in let behind : cursor x < found / 2 - keep = omega arith in
    let count : found / 2 - keep - cursor x ≡ c.saturating_sub-oldest.result - c.args.next = omega arith in
    record { delivery = Lost (c.saturating_sub-oldest.result - c.args.next); answered = refl; given = subst (λ (u : ℕ × ℕ). LostSome u.0 u.1 (found / 2) x old first) (λ i. (same i, count i)) (loses keep x old found first load free behind); seen = refl }

pub returns-then-word-next-clause-fits : goal.returns-then-word-next-clause-fits
returns-then-word-next-clause-fits g c = let old : Knows = c.args.token.now.me in let x : Seat = seat_of old.view in let z = c.args.block.now.id in let keep : ℕ = z.units - 2 in let found : ℕ = c.load_first-head.result in let first : Knows = c.load_first-head.new.token.me in let load = c.load_first-head.ensures.step in
    let n : c.args.next ≡ cursor x = c.requires.next.0 in let size = c.requires.same.1 in let free = c.requires.seat.1 in
    let pinned : Knows = c.pin-word.new.token.me in let step = c.pin-word.ensures.step in let low = c.if-next-oldest.false in let oldest = c.saturating_sub-oldest.ensures in
    let other : found / 2 ≢ cursor x = λ e. c.if-count-next.false (e ∙ sym n) in let kept : found / 2 - keep ≤ cursor x = omega arith in
    let have : Held z.limits.1 (seat_of first.view) pinned = pinned_holds keep x old found first load other kept z.limits.1 (c.args.next % (c.args.keep + 1) + 1) c.pin-word.result pinned step (c.if-word-next.true ∙ ap (λ (k : ℕ). 2 * (k + 1)) n) in
    let most = have.sized.1 in let shown = c.show-tag.ensures.packet in let len = shown.2 in let all : suc (length shown.0) ≡ length (next_packet pinned) = ap length shown.1 in omega arith

pub returns-clause-takes : goal.returns-clause-takes
returns-clause-takes g c = let old : Knows = c.args.token.now.me in let x : Seat = seat_of old.view in let z = c.args.block.now.id in let keep : ℕ = z.units - 2 in let found : ℕ = c.load_first-head.result in let first : Knows = c.load_first-head.new.token.me in let load = c.load_first-head.ensures.step in
    let n : c.args.next ≡ cursor x = c.requires.next.0 in let size = c.requires.same.1 in let free = c.requires.seat.1 in
    let pinned : Knows = c.pin-word.new.token.me in let step = c.pin-word.ensures.step in let low = c.if-next-oldest.false in let oldest = c.saturating_sub-oldest.ensures in let later : ℕ = c.load_second-later.result in let last = c.saturating_sub.ensures in
    let other : found / 2 ≢ cursor x = λ e. c.if-count-next.false (e ∙ sym n) in let kept : found / 2 - keep ≤ cursor x = omega arith in let same : keep ≡ c.args.keep = omega arith in
    let count : later / 2 - keep - cursor x ≡ c.saturating_sub.result - c.args.next = omega arith in
    record {
      delivery = Lost (c.saturating_sub.result - c.args.next);
      answered = refl;
      given = subst (λ (u : ℕ × ℕ). LostSome u.0 u.1 (later / 2) x old c.load_second-later.new.token.me) (λ i. (same i, count i))
          (loses_later keep x old found first load (seat_found keep x old found first load other kept) z.limits.1 (c.args.next % (c.args.keep + 1) + 1) c.pin-word.result pinned c.unpin_failed.new.token.me step c.unpin_failed.ensures.step later c.load_second-later.new.token.me c.load_second-later.ensures.step
          other kept (subst (λ (k : ℕ). HasSeen k old.seen) n c.requires.next.1));
      seen = refl;
    }
