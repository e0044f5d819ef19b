-- What was taken and written so far.
use Rattle.std.proofs.Common.{◌≡◌, ℕ, ◌+◌, ◌<◌, ◌≤◌, cond, false, List, [], ◌∷◌, ◌++◌, Option, None, Some, length, take, refl, sym, ap, subst, ◌∙◌, arith, append_assoc, length-append}
use mathlib.Core.List.{IsPrefix}
use Rattle.std.specs.Prelude.{count_by, is_none}
use Rattle.std.specs.List.{concat, flat_map}
use Rattle.std.specs.Io.KnownBytes.{Appends}
use Rattle.std.proofs.KnownBytes.{Appends-nil, Appends-trans}
use Rattle.std.proofs.lemmas.Grind.{flat_map-append}
use Rattle.std.proofs.lemmas.List.Folds.{concat-append}
use Rattle.std.proofs.lemmas.List.Sums.{sum_by-append, sum_by-cons}
use Rattle.transport_header.specs.declared.spec.ChannelPair.{ChannelPair}
use Rattle.transport_header.specs.Tracks.{channel_of}
use Rattle.cursor.specs.declared.packets.Packet.{Packet}
use Rattle.cursor.specs.declared.takes.Delivery.{Delivery}
use Rattle.cursor.specs.declared.takes.Delivery.TheVariants.{Got, Empty, Ended}
use Rattle.cursor.specs.Account.{cursor_of, losses, received}
use Rattle.cursor.specs.Taps.{Takes}
use Rattle.cursor.proofs.Answered.{received-append}
use Rattle.cursor.proofs.Attachments.{Settles, Settles-adds, Settles-append}
use Rattle.cursor.proofs.Counted.{lost-append}
use Rattle.packet_ring.specs.Calls.{TakesNext}
use Rattle.packet_ring.specs.Views.{Publishing, Subscribing, keep_of}
use Rattle.player.specs.declared.report.OutReport.{OutReport}
use Rattle.player.specs.declared.report.OutStop.{OutStop}
use Rattle.player.specs.declared.report.OutStop.TheVariants as stop
use Rattle.player.specs.FramesOut.{EndsAs, GoesOut, RelaysOut, WentOut, frame_on, frame_out, frames_out, skipped_of}
use Rattle.relay_pass.specs.declared.report.TakeCounts.{TakeCounts}
use Rattle.relay_pass.specs.Counts.{counted_takes, with_report}
use Rattle.relay_pass.specs.Takes.{TakesMore}
use Rattle.relay_pass.proofs.Settling.{FellBehind-longer, Settled, empty-end, ended-closed, none_behind, prefix-longer, progress, takes-last, takes-settle}

-- one packet more was taken if a frame was cut
abbrev pub cut_count : OutStop → ℕ
cut_count stop.Done = 0
cut_count stop.Empty = 0
cut_count stop.Ended = 0
cut_count stop.WriteFailed = 1

module _ (to : List (Option ChannelPair)) where
  one-frame : (channel : Option ℕ) (bytes : List ℕ) → length (frame_on channel bytes) + cond (is_none channel) 1 0 ≡ 1
  one-frame None bytes = refl
  one-frame (Some channel) bytes = refl

  packets-count : (ps : List Packet) → length (flat_map (frame_out to) ps) + count_by (λ (p : Packet). is_none (channel_of to p.tag)) ps ≡ length ps
  packets-count [] = refl
  packets-count (p ∷ ps) =
      let skips : Packet → ℕ = λ (q : Packet). cond (is_none (channel_of to q.tag)) 1 0 in
      omega (arith, one-frame (channel_of to p.tag) p.bytes, packets-count ps, sum_by-cons skips p ps, length-append (frame_out to p) (flat_map (frame_out to) ps))

  -- each packet that was received has a frame or is skipped
  pub frames-count : (ds : List Delivery) → length (frames_out to ds) + skipped_of to ds ≡ length (received ds)
  frames-count ds = packets-count (received ds)

  pub frames_out-append : (ds es : List Delivery) → frames_out to (ds ++ es) ≡ frames_out to ds ++ frames_out to es
  frames_out-append ds es = ap (flat_map (frame_out to)) (received-append ds es) ∙ flat_map-append (frame_out to) (received ds) (received es)

  pub skipped_of-append : (ds es : List Delivery) → skipped_of to (ds ++ es) ≡ skipped_of to ds + skipped_of to es
  skipped_of-append ds es =
      let is_skipped : Packet → _ = λ (p : Packet). is_none (channel_of to p.tag) in
      ap (count_by is_skipped) (received-append ds es) ∙ sum_by-append _ (received ds) (received es)

-- how many frames went out, and one that was cut
pub sent-count : (s : OutStop) (frames : List (List ℕ)) (sent cut : ℕ) (before after : Option (List ℕ)) → GoesOut s frames sent cut before after → sent + cut_count s ≡ length frames
sent-count stop.Done frames sent cut before after h = let all = h.all_sent in omega (arith, all)
sent-count stop.Empty frames sent cut before after h = let all = h.all_sent in omega (arith, all)
sent-count stop.Ended frames sent cut before after h = let all = h.all_sent in omega (arith, all)
sent-count stop.WriteFailed frames sent cut before after h = let all = h.whole_sent in omega (arith, all, ap length h.frames_are, length-append h.whole (h.last ∷ []))

went-append : (fs gs : List (List ℕ)) (s t cut cut' : ℕ) (before mid after : Option (List ℕ)) → WentOut fs s cut before mid → WentOut gs t cut' mid after → WentOut (fs ++ gs) (s + t) cut' before after
went-append fs gs s t cut cut' before mid after p q = record {
  all_sent = (let first = p.all_sent in let second = q.all_sent in omega (arith, first, second, length-append fs gs));
  none_cut = q.none_cut;
  bytes = subst (Appends before after) (sym (concat-append fs gs)) (Appends-trans before mid after (concat fs) (concat gs) p.bytes q.bytes);
}

-- frames that all went out, and others after them
pub goes-append : (x : OutStop) (fs gs : List (List ℕ)) (s t cut cut' : ℕ) (before mid after : Option (List ℕ)) → WentOut fs s cut before mid → GoesOut x gs t cut' mid after → GoesOut x (fs ++ gs) (s + t) cut' before after
goes-append stop.Done fs gs s t cut cut' before mid after p q = went-append fs gs s t cut cut' before mid after p q
goes-append stop.Empty fs gs s t cut cut' before mid after p q = went-append fs gs s t cut cut' before mid after p q
goes-append stop.Ended fs gs s t cut cut' before mid after p q = went-append fs gs s t cut cut' before mid after p q
goes-append stop.WriteFailed fs gs s t cut cut' before mid after p q = record {
  whole = fs ++ q.whole;
  last = q.last;
  frames_are = ap (λ (l : List (List ℕ)). fs ++ l) q.frames_are ∙ sym (append_assoc fs q.whole (q.last ∷ []));
  whole_sent = (let first = p.all_sent in let second = q.whole_sent in omega (arith, first, second, length-append fs q.whole));
  last_cut = q.last_cut;
  bytes =
      subst (Appends before after) (sym (append_assoc (concat fs) (concat q.whole) (take cut' q.last)) ∙ ap (λ (l : List ℕ). l ++ take cut' q.last) (sym (concat-append fs q.whole)))
      (Appends-trans before mid after (concat fs) (concat q.whole ++ take cut' q.last) p.bytes q.bytes);
}

-- ---- one turn

some-answers : (to : List (Option ChannelPair)) (n : ℕ) (ds : List Delivery) (s : OutStop) → EndsAs to n ds s → 1 ≤ n → 1 ≤ length ds
some-answers to n ds stop.Done h some = let count = h.0 in omega (arith, count, some)
some-answers to n ds stop.Empty h some = omega (arith, ap length h.2, length-append h.1 (Empty ∷ []))
some-answers to n ds stop.Ended h some = omega (arith, ap length h.2, length-append h.1 (Ended ∷ []))
some-answers to n ds stop.WriteFailed h some = omega (arith, ap length h.4, length-append h.1 (Got h.2 h.3 ∷ []))

module _ (to : List (Option ChannelPair)) (n : ℕ) (old new : Subscribing) (before after : Option (List ℕ)) (out : OutReport) (some : 1 ≤ n) (h : RelaysOut TakesNext to n old new before after out) where
  abbrev its_answers : List Delivery
  its_answers = h.takes.answers

  pub turn-settled : Settled old its_answers new
  turn-settled = takes-settle old its_answers new (some-answers to n its_answers out.stop h.takes.ends some) h.takes.run

  -- what was taken is counted, and so is the cut one
  pub turn-adds : cursor_of new.account ≡ cursor_of old.account + (out.sent + out.skipped + out.lost) + cut_count out.stop
  turn-adds =
      let sent = sent-count out.stop (frames_out to its_answers) out.sent out.cut before after h.takes.out in
      let skipped = h.takes.skipped in
      let gone = h.lost in
      omega (arith, Settles-adds new.seen (cursor_of old.account) its_answers (cursor_of new.account) turn-settled.settles, sent, skipped, gone, frames-count to its_answers)

  pub turn-takes : (went went' : TakeCounts) → went' ≡ with_report went out → TakesMore to old new before after went went' out.stop
  turn-takes went went' is = record {
    answers = its_answers;
    run = h.takes.run;
    sent = out.sent;
    sent_is = ap (λ (t : TakeCounts). t.sent) is;
    out = subst (λ (t : TakeCounts). GoesOut out.stop (frames_out to its_answers) out.sent t.cut before after) (sym is) h.takes.out;
    skipped = ap (λ (t : TakeCounts). t.skipped) is ∙ ap (λ (k : ℕ). went.skipped + k) h.takes.skipped;
    lost = ap (λ (t : TakeCounts). t.lost) is ∙ ap (λ (k : ℕ). went.lost + k) h.lost;
  }

  pub turn-within : cursor_of new.account ≤ length new.seen
  turn-within = Rattle.cursor.proofs.Attachments.Settles-within new.seen (cursor_of old.account) its_answers (cursor_of new.account) turn-settled.settles

  -- a turn of which each take went on moved the cursor by as many packets
  pub turn-done : out.stop ≡ stop.Done → cursor_of old.account + n ≤ cursor_of new.account
  turn-done is =
      let ends = subst (EndsAs to n its_answers) is h.takes.ends in
      let count = ends.0 in
      omega (arith, count, progress (keep_of old.ring) (cursor_of old.account) new.seen its_answers ends.1 turn-settled.behind, Settles-adds new.seen (cursor_of old.account) its_answers (cursor_of new.account) turn-settled.settles)

  pub turn-empty : out.stop ≡ stop.Empty → cursor_of new.account ≡ length new.seen
  turn-empty is =
      let ends = subst (EndsAs to n its_answers) is h.takes.ends in
      let last = takes-last old ends.1 Empty new (subst (λ (ds : List Delivery). Takes TakesNext old ds new) ends.2 h.takes.run) in
      empty-end last.0 new last.1

  pub turn-open : new.closed ≡ false → out.stop ≡ stop.Ended → ⊥
  turn-open open_still is =
      let ends = subst (EndsAs to n its_answers) is h.takes.ends in
      let last = takes-last old ends.1 Ended new (subst (λ (ds : List Delivery). Takes TakesNext old ds new) ends.2 h.takes.run) in
      let closed = ended-closed last.0 new last.1 in
      cc

  -- nothing is lost while the log has at most what is kept from the cursor on
  pub turn-kept : (log : List Packet) → IsPrefix new.seen log → length log ≤ cursor_of old.account + keep_of old.ring → out.lost ≡ 0
  turn-kept log pre few =
      h.lost ∙ (none_behind (keep_of old.ring) (cursor_of old.account) log its_answers few (FellBehind-longer (keep_of old.ring) new.seen log (losses (cursor_of old.account) its_answers) (prefix-longer new.seen log pre) turn-settled.behind)).1

-- ---- turns, one after another

takes-append : (old : Subscribing) (ds : List Delivery) (mid : Subscribing) (es : List Delivery) (new : Subscribing) → Takes TakesNext old ds mid → Takes TakesNext mid es new → Takes TakesNext old (ds ++ es) new
takes-append old [] mid es new same run = subst (λ (o : Subscribing). Takes TakesNext o es new) same run
takes-append old (d ∷ ds) mid es new first run = (first.0, first.1, takes-append first.0 ds mid es new first.2 run)

pub takes-none : (to : List (Option ChannelPair)) (old : Subscribing) (before : Option (List ℕ)) (went : TakeCounts) → went.cut ≡ 0 → TakesMore to old old before before went went stop.Done
takes-none to old before went uncut = record {
  answers = [];
  run = refl;
  sent = 0;
  sent_is = omega arith;
  out = record { all_sent = refl; none_cut = uncut; bytes = Appends-nil before };
  skipped = omega arith;
  lost = omega arith;
}

pub takes-more : (to : List (Option ChannelPair)) (old mid new : Subscribing) (before between after : Option (List ℕ)) (went went' went'' : TakeCounts) (s : OutStop)
    → TakesMore to old mid before between went went' stop.Done → TakesMore to mid new between after went' went'' s → TakesMore to old new before after went went'' s
takes-more to old mid new before between after went went' went'' s p q = record {
  answers = p.answers ++ q.answers;
  run = takes-append old p.answers mid q.answers new p.run q.run;
  sent = p.sent + q.sent;
  sent_is = (let first = p.sent_is in let second = q.sent_is in omega (arith, first, second));
  out =
      subst (λ (fs : List (List ℕ)). GoesOut s fs (p.sent + q.sent) went''.cut before after) (sym (frames_out-append to p.answers q.answers))
      (goes-append s (frames_out to p.answers) (frames_out to q.answers) p.sent q.sent went'.cut went''.cut before between after p.out q.out);
  skipped = (let first = p.skipped in let second = q.skipped in omega (arith, first, second, skipped_of-append to p.answers q.answers));
  lost = (let first = p.lost in let second = q.lost in omega (arith, first, second, lost-append p.answers q.answers));
}

-- ---- what the code adds

pub room-left : (counted c c' more cut : ℕ) → counted ≤ c → c' ≡ c + more + cut → c' < 18446744073709551616 → counted + more < 18446744073709551616
room-left counted c c' more cut le is below = omega arith

pub counted-on : (went went' : TakeCounts) (out : OutReport) (c c' cut : ℕ) → went' ≡ with_report went out → counted_takes went ≤ c → c' ≡ c + (out.sent + out.skipped + out.lost) + cut → counted_takes went' ≤ c'
counted-on went went' out c c' cut is le adds =
    let sent : went'.sent ≡ went.sent + out.sent = ap (λ (t : TakeCounts). t.sent) is in
    let skipped : went'.skipped ≡ went.skipped + out.skipped = ap (λ (t : TakeCounts). t.skipped) is in
    let gone : went'.lost ≡ went.lost + out.lost = ap (λ (t : TakeCounts). t.lost) is in
    omega arith

pub lost-none : (went went' : TakeCounts) (out : OutReport) → went' ≡ with_report went out → out.lost ≡ 0 → went'.lost ≡ went.lost
lost-none went went' out is none =
    let gone : went'.lost ≡ went.lost + out.lost = ap (λ (t : TakeCounts). t.lost) is in
    omega arith

-- a log that is the same has few packets from a later cursor on
pub few-on : (p q : Publishing) (c d : ℕ) → q ≡ p → c ≤ d → length p.log ≤ c + keep_of p.ring → length q.log ≤ d + keep_of q.ring
few-on p q c d same on few = subst (λ (x : Publishing). length x.log ≤ d + keep_of x.ring) (sym same) (omega (arith, on, few))
