-- Each frame that is carried comes out, and nothing else does.
use Rattle.std.proofs.Common.{◌≡◌, ◌≢◌, ℕ, ◌+◌, ◌-◌, ◌%◌, ◌<◌, ◌≤◌, ◌^◌, ◌⊎◌, Bool, false, cond, List, [], ◌∷◌, ◌++◌, Option, None, Some, length, take, drop, refl, sym, ap, subst, ◌∙◌, arith, append-nil, length-append, inl, inr, slice_range}
use Rattle.std.specs.Prelude.{map}
use Rattle.std.specs.List.{concat, flat_map}
use Rattle.std.specs.Io.KnownBytes.{Appends, Consumes, IsAtEnd}
use Rattle.std.proofs.lemmas.Grind.{flat_map-append}
use Rattle.std.proofs.lemmas.List.Elements.{All-head, All-tail}
use Rattle.std.proofs.lemmas.List.Folds.{concat-append}
use Rattle.std.proofs.lemmas.List.Sums.{sum_by-cons}
use Rattle.std.proofs.Math.Seq.{drop-append_seam, take-length}
use Rattle.interleaved.specs.Frame.{frame_of}
use Rattle.interleaved.specs.declared.frame.Frame.{Frame}
use Rattle.rtsp_message.specs.declared.unit.Unit.{Unit as StreamUnit}
use Rattle.rtsp_message.specs.Intakes.{IntakeState, HandsOut, fresh}
use Rattle.rtsp_message.specs.Stream.{Reads}
use Rattle.transport_header.specs.declared.spec.ChannelPair.{ChannelPair}
use Rattle.transport_header.specs.Tracks.{channel_of}
use Rattle.cursor.specs.declared.packets.Packet.{Packet}
use Rattle.cursor.specs.declared.takes.Delivery.{Delivery}
use Rattle.cursor.specs.declared.takes.Delivery.TheVariants.{Got, Lost, Empty, Ended}
use Rattle.cursor.specs.Account.{Loss, account_of, cursor_of, losses, lost, received, without}
use Rattle.packet_ring.specs.Calls.{NeverPinned, PublishesNext}
use Rattle.packet_ring.specs.Players.{answers_of}
use Rattle.packet_ring.specs.Views.{Publishing, Subscribing, keep_of, packet_bytes_of}
use Rattle.publisher.specs.declared.fate.Fate.{Fate}
use Rattle.publisher.specs.declared.fate.Fate.TheVariants as fate
use Rattle.publisher.specs.Fates.{Handling, HasFate, count_of, is_published, is_worn, published, published_as}
use Rattle.publisher.specs.FramesIn.{HaveFates, Meets, MeetInTurn}
use Rattle.publisher.proofs.Incoming.{none_pinned, none_unkept}
use Rattle.player.specs.FramesOut.{frame_on, frame_out, frames_out}
use Rattle.relay_pass.specs.declared.report.PassReport.{PassReport}
use Rattle.relay_pass.specs.declared.report.PassStop.TheVariants.{Stream}
use Rattle.relay_pass.specs.declared.report.StreamEnd.{StreamEnd}
use Rattle.relay_pass.specs.declared.report.StreamEnd.TheVariants as stream
use Rattle.relay_pass.specs.Came.{HasEnded, frames_among}
use Rattle.relay_pass.specs.Carried.{AreWritten, ComeOut, ComesOut, IsCarried, IsRelayed}
use Rattle.relay_pass.specs.Passes.{PassesOn, Stops, WasWritten}
use Rattle.relay_pass.specs.Publishes.{frames_of}
use Rattle.relay_pass.specs.Takes.{FellBehind}
use Rattle.relay_pass.proofs.Handing.{all-grew, one-grew}
use Rattle.relay_pass.proofs.Settling.{none_behind}

-- no frame found the log without a number left
abbrev pub NoneWorn : List Handling → Type 0
NoneWorn [] = Unit {0}
NoneWorn (h ∷ hs) = (h.fate ≢ fate.Worn) × NoneWorn hs

module _ (from to : List (Option ChannelPair)) (room : ℕ) where
  -- the tag of a channel is the only one
  carried-tag : (frame : Frame) (channel tag : ℕ) → (h : IsCarried from to room frame channel) → ((other : ℕ) → channel_of from other ≡ Some frame.channel → other ≡ tag) → h.tag ≡ tag
  carried-tag frame channel tag h only = only h.tag h.offered.channel.0

  -- what went out of a frame by its fate
  one-comes : (frame : Frame) (outcome : Fate) → HasFate from room NeverPinned frame outcome → outcome ≢ fate.Worn
      → ComesOut from to room frame (concat (flat_map (frame_out to) (published_as frame outcome)))
  one-comes frame (fate.Published tag) has ok = goes (channel_of to tag) refl
    where
      goes : (channel : Option ℕ) → channel ≡ channel_of to tag → ComesOut from to room frame (concat (frame_on channel frame.payload ++ []))
      goes None is = inr (λ channel h. (let same = carried-tag frame channel tag h has.0.channel.1 in let on = h.goes_on in let there = ap (channel_of to) same in cc), refl)
      goes (Some channel) is = inl (channel, record { tag = tag; offered = has.0; fits = has.1; goes_on = sym is }, append-nil (frame_of channel frame.payload))
  one-comes frame fate.Pinned has ok = absurd has.1.may_be
  one-comes frame fate.Oversize has ok = inr (λ channel h. (let long = has.too_long refl in let fits = h.fits in omega (arith, long, fits)), refl)
  one-comes frame fate.Worn has ok = absurd (ok refl)
  one-comes frame fate.Unkept has ok = absurd has.may_be
  one-comes frame fate.BadRtp has ok = inr (λ channel h. (let same = carried-tag frame channel has.tag h has.channel.1 in has.bad (h.offered.rtp (ap (λ (t : ℕ). t % 2) same ∙ has.is_rtp))), refl)
  one-comes frame fate.Stranger has ok = inr (λ channel h. has h.tag h.offered.channel.0, refl)

  abbrev pub texts_of : List Handling → List (List ℕ)
  texts_of handlings = map (λ (h : Handling). concat (flat_map (frame_out to) (published_as h.frame h.fate))) handlings

  pub all-come : (hs : List Handling) → HaveFates from room NeverPinned hs → NoneWorn hs → ComeOut from to room (frames_of hs) (texts_of hs)
  all-come [] fates ok = tt
  all-come (h ∷ hs) fates ok =
      let P : Handling → Type 0 = λ x. HasFate from room NeverPinned x.frame x.fate in
      (one-comes h.frame h.fate (All-head P h hs fates) ok.0, all-come hs (All-tail P h hs fates) ok.1)

  pub texts-concat : (hs : List Handling) → concat (flat_map (frame_out to) (published hs)) ≡ concat (texts_of hs)
  texts-concat [] = refl
  texts-concat (h ∷ hs) =
      ap concat (flat_map-append (frame_out to) (published_as h.frame h.fate) (published hs))
      ∙ concat-append (flat_map (frame_out to) (published_as h.frame h.fate)) (flat_map (frame_out to) (published hs))
      ∙ ap (λ (l : List ℕ). concat (flat_map (frame_out to) (published_as h.frame h.fate)) ++ l) (texts-concat hs)

-- ---- a log with numbers left wears no frame

worn-full : (from : List (Option ChannelPair)) (frame : Frame) (outcome : Fate) (old new : Publishing) → Meets PublishesNext from frame outcome old new → outcome ≡ fate.Worn → length old.log ≡ 2 ^ 46
worn-full from frame outcome old new m is = (subst (λ (f : Fate). Meets PublishesNext from frame f old new) is m).2.1

pub none-worn : (from : List (Option ChannelPair)) (hs : List Handling) (old new : Publishing) → MeetInTurn PublishesNext from hs old new → length new.log < 2 ^ 46 → NoneWorn hs
none-worn from [] old new m few = tt
none-worn from (h ∷ hs) old new m few =
    let first : length m.0.log ≡ length old.log + length (published_as h.frame h.fate) = ap (λ (l : List Packet). length l) (one-grew from h.frame h.fate old m.0 m.1).log ∙ length-append old.log (published_as h.frame h.fate) in
    let others : length new.log ≡ length m.0.log + length (published hs) = ap (λ (l : List Packet). length l) (all-grew from hs m.0 new m.2).log ∙ length-append m.0.log (published hs) in
    (λ is. (let full = worn-full from h.frame h.fate old m.0 m.1 is in omega (arith, first, others, full, few)), none-worn from hs m.0 new m.2 few)

worn-false : (outcome : Fate) → outcome ≢ fate.Worn → is_worn outcome ≡ false
worn-false (fate.Published tag) ok = refl
worn-false fate.Pinned ok = refl
worn-false fate.Oversize ok = refl
worn-false fate.Worn ok = absurd (ok refl)
worn-false fate.Unkept ok = refl
worn-false fate.BadRtp ok = refl
worn-false fate.Stranger ok = refl

worn-none : (hs : List Handling) → NoneWorn hs → count_of is_worn hs ≡ 0
worn-none [] ok = refl
worn-none (h ∷ hs) ok =
    let one : Handling → ℕ = λ (x : Handling). cond (is_worn x.fate) 1 0 in
    let first : one h ≡ 0 = ap (λ b. cond b 1 0) (worn-false h.fate ok.0) in
    omega (arith, sum_by-cons one h hs, first, worn-none hs ok.1)

published-one : (frame : Frame) (outcome : Fate) → length (published_as frame outcome) ≡ cond (is_published outcome) 1 0
published-one frame (fate.Published tag) = refl
published-one frame fate.Pinned = refl
published-one frame fate.Oversize = refl
published-one frame fate.Worn = refl
published-one frame fate.Unkept = refl
published-one frame fate.BadRtp = refl
published-one frame fate.Stranger = refl

pub published-count : (hs : List Handling) → length (published hs) ≡ count_of is_published hs
published-count [] = refl
published-count (h ∷ hs) =
    let one : Handling → ℕ = λ (x : Handling). cond (is_published x.fate) 1 0 in
    omega (arith, sum_by-cons one h hs, published-one h.frame h.fate, published-count hs, length-append (published_as h.frame h.fate) (published hs))

-- answers that lost nothing have no loss
none-lost : (keep c : ℕ) (log : List Packet) (ds : List Delivery) → FellBehind keep log (losses c ds) → lost ds ≡ 0 → losses c ds ≡ []
none-lost keep c log [] all none = refl
none-lost keep c log (Got n p ∷ ds) all none = none-lost keep (c + 1) log ds all none
none-lost keep c log (Lost k ∷ ds) all none =
    let P : Loss → Type 0 = λ l. (0 < l.count) × (l.first + l.count + keep ≤ length log) in
    let some = (All-head P (record { first = c; count = k }) (losses (c + k) ds) all).0 in
    absurd (omega (arith, some, none))
none-lost keep c log (Empty ∷ ds) all none = none-lost keep c log ds all none
none-lost keep c log (Ended ∷ ds) all none = none-lost keep c log ds all none

without-none : (n : ℕ) (ps : List Packet) → without [] n ps ≡ ps
without-none n [] = refl
without-none n (p ∷ ps) = ap (λ (l : List Packet). p ∷ l) (without-none (n + 1) ps)

range-of-end : (log more : List Packet) (c e : ℕ) → c ≡ length log → e ≡ length (log ++ more) → slice_range (log ++ more) c e ≡ more
range-of-end log more c e start end =
    let count : e - c ≡ length more = omega (arith, start, end, length-append log more) in
    ap (λ (n : ℕ). take n (drop c (log ++ more))) count ∙ ap (λ (n : ℕ). take (length more) (drop n (log ++ more))) start
    ∙ ap (take (length more)) (drop-append_seam log more) ∙ take-length more

-- ---- of a pass

module _ {S : Type 0} (of_source : S → Option (List ℕ)) (failed : S → Bool) (from to : List (Option ChannelPair)) (old new : IntakeState S) (publisher publisher' : Publishing) (seat seat' : Subscribing)
    (before after : Option (List ℕ)) (report : PassReport) (h : PassesOn of_source failed from to old new publisher publisher' seat seat' before after report) where
  abbrev hs : List Handling
  hs = h.came.handlings

  abbrev start : ℕ
  start = cursor_of seat.account

  abbrev its_answers : List Delivery
  its_answers = answers_of h.went.calls

  log-length : length publisher'.log ≡ length publisher.log + report.came.published
  log-length =
      let counted = h.came.counts.published in
      omega (arith, ap (λ (l : List Packet). length l) h.came.log, length-append publisher.log (published hs), published-count hs, counted)

  few-kept : start ≡ length publisher.log → report.came.published ≤ keep_of publisher.ring → length publisher'.log ≤ start + keep_of publisher'.ring
  few-kept at few =
      let same : keep_of publisher'.ring ≡ keep_of publisher.ring = ap keep_of h.ring in
      omega (arith, at, few, same, log-length)

  pub few-lost : start ≡ length publisher.log → report.came.published ≤ keep_of publisher.ring → report.went.lost ≡ 0
  few-lost at few = h.went.lost ∙ (none_behind (keep_of publisher'.ring) start publisher'.log its_answers (few-kept at few) h.went.behind).1

  pub still-none-lost : start ≡ length publisher.log → (report.came.published ≤ keep_of publisher.ring) ⊎ (report.went.lost ≡ 0) → report.went.lost ≡ 0
  still-none-lost at (inl few) = few-lost at few
  still-none-lost at (inr none) = none

  its-none-worn : length publisher'.log < 2 ^ 46 → NoneWorn hs
  its-none-worn short = none-worn from hs publisher publisher' h.came.met.meets short

  pub none-refused : length publisher'.log < 2 ^ 46 → (report.came.pinned ≡ 0) × (report.came.unkept ≡ 0) × (report.came.worn ≡ 0)
  none-refused short = (
    h.came.counts.pinned ∙ none_pinned from _ NeverPinned hs h.came.met.fates (λ pins may. may),
    h.came.counts.unkept ∙ none_unkept from _ NeverPinned hs h.came.met.fates (λ may. may),
    h.came.counts.worn ∙ worn-none hs (its-none-worn short),
  )

  its-cursor : cursor_of (account_of start its_answers) ≡ cursor_of seat'.account
  its-cursor = (let e : cursor_of seat'.account ≡ cursor_of (account_of start its_answers) = ap cursor_of h.went.account ∙ omega arith in sym e)

  reaches-end : (end : StreamEnd) → report.stop ≡ Stream end → cursor_of seat'.account ≡ length publisher'.log
  reaches-end end is = (subst (Stops of_source failed new publisher' seat') is h.stops).1

  none-lost-yet : start ≡ length publisher.log → (report.came.published ≤ keep_of publisher.ring) ⊎ (report.went.lost ≡ 0) → losses start its_answers ≡ []
  none-lost-yet at kept = elim kept [
    | inl few ↦ (none_behind (keep_of publisher'.ring) start publisher'.log its_answers (few-kept at few) h.went.behind).0
    | inr none ↦ none-lost (keep_of publisher'.ring) start publisher'.log its_answers h.went.behind (sym h.went.lost ∙ none)
  ]

  -- the seat received just what was published
  all-received : (end : StreamEnd) → report.stop ≡ Stream end → start ≡ length publisher.log → (report.came.published ≤ keep_of publisher.ring) ⊎ (report.went.lost ≡ 0) → received its_answers ≡ published hs
  all-received end is at kept =
      let cursor = cursor_of (account_of start its_answers) in
      let none = none-lost-yet at kept in
      let there : cursor ≡ length (publisher.log ++ published hs) = its-cursor ∙ reaches-end end is ∙ ap (λ (l : List Packet). length l) h.came.log in
      h.went.received.in_order ∙ ap (λ ls. without ls start (slice_range publisher'.log start cursor)) none ∙ without-none start (slice_range publisher'.log start cursor)
      ∙ ap (λ (l : List Packet). slice_range l start cursor) h.came.log ∙ range-of-end publisher.log (published hs) start cursor at there

  pub all-written : (end : StreamEnd) → report.stop ≡ Stream end → start ≡ length publisher.log → (report.came.published ≤ keep_of publisher.ring) ⊎ (report.went.lost ≡ 0) → length publisher'.log < 2 ^ 46
      → AreWritten from to (packet_bytes_of publisher.ring) (frames_among h.came.units) before after
  all-written end is at kept short =
      let room = packet_bytes_of publisher.ring in
      let out = subst (λ st. WasWritten st (frames_out to its_answers) report.went before after) is h.went.written in
      let texts = ap (λ (l : List Packet). concat (flat_map (frame_out to) l)) (all-received end is at kept) ∙ texts-concat from to room hs in
      record {
        texts = texts_of from to room hs;
        come_out = subst (λ (l : List Frame). ComeOut from to room l (texts_of from to room hs)) (sym h.came.frames) (all-come from to room hs h.came.met.fates (its-none-worn short));
        written = subst (Appends before after) texts out.bytes;
      }

-- a source that told its bytes and came to its end gave them all
gave-all : (a b : Option (List ℕ)) (read stream : List ℕ) → a ≡ Some stream → Consumes a b read → IsAtEnd b → read ≡ stream
gave-all None b read stream known took end = absurd (cc)
gave-all (Some xs) None read stream known took end = absurd took
gave-all (Some xs) (Some ys) read stream known took end =
    let same : xs ≡ stream = cc in
    sym (append-nil read) ∙ ap (λ (l : List ℕ). read ++ l) (sym end) ∙ sym took ∙ same

-- an intake that was fresh and came to its end handed out the units of the stream
all-read : {S : Type 0} (of_source : S → Option (List ℕ)) (failed : S → Bool) (source : S) (new : IntakeState S) (units : List StreamUnit) (bytes : List ℕ) → HandsOut of_source (fresh source) new units
    → HasEnded of_source failed new stream.End → of_source source ≡ Some bytes → Reads bytes units new.reading
all-read of_source failed source new units bytes out ended known =
    let drained = ended.0.0 in
    let read_all : out.read ≡ bytes = gave-all (of_source source) (of_source new.source) out.read bytes known out.given ended.0.1 in
    let taken : out.taken ≡ bytes = sym (append-nil out.taken) ∙ ap (λ (l : List ℕ). out.taken ++ l) (sym drained.1) ∙ sym out.kept ∙ read_all in
    let found : out.found ≡ units = out.order ∙ ap (λ (l : List StreamUnit). units ++ l) drained.0 ∙ append-nil units in
    subst (λ (us : List StreamUnit). Reads bytes us new.reading) found (subst (λ (l : List ℕ). Reads l out.found new.reading) taken out.reads)

pub all-relayed : {S : Type 0} (of_source : S → Option (List ℕ)) (failed : S → Bool) (from to : List (Option ChannelPair)) (source : S) (new : IntakeState S) (publisher publisher' : Publishing) (seat seat' : Subscribing)
    (before after : Option (List ℕ)) (report : PassReport) (bytes : List ℕ) → PassesOn of_source failed from to (fresh source) new publisher publisher' seat seat' before after report
    → of_source source ≡ Some bytes → report.stop ≡ Stream stream.End → cursor_of seat.account ≡ length publisher.log → (report.came.published ≤ keep_of publisher.ring) ⊎ (report.went.lost ≡ 0) → length publisher'.log < 2 ^ 46
    → IsRelayed from to (packet_bytes_of publisher.ring) bytes before after
all-relayed of_source failed from to source new publisher publisher' seat seat' before after report bytes h known is at kept short =
    let stops = subst (Stops of_source failed new publisher' seat') is h.stops in
    record {
      units = h.came.units;
      ending = new.reading;
      reads = all-read of_source failed source new h.came.units bytes h.came.hands_out stops.0 known;
      written = all-written of_source failed from to (fresh source) new publisher publisher' seat seat' before after report h stream.End is at kept short;
    }
