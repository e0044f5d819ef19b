-- The takes so far, and what went out of them.
use Rattle.std.proofs.Common.{◌≡◌, ◌≤◌, ◌<◌, ◌+◌, ℕ, cond, List, [], ◌∷◌, ◌++◌, Option, None, Some, length, take, refl, sym, ap, subst, ◌∙◌, arith, append-nil, length-append}
use Rattle.std.specs.Prelude.{count_by, is_none, IsSome}
use Rattle.std.specs.List.{concat, flat_map}
use Rattle.std.specs.Io.KnownBytes.{Appends}
use Rattle.std.proofs.KnownBytes.{Appends-nil, Appends-trans}
use Rattle.std.proofs.lemmas.Grind.{flat_map-append}
use Rattle.std.proofs.lemmas.List.Folds.{concat-append}
use Rattle.std.proofs.lemmas.List.Sums.{sum_by-append}
use Rattle.interleaved.specs.Frame.{frame_of}
use Rattle.transport_header.specs.declared.spec.ChannelPair.{ChannelPair}
use Rattle.transport_header.specs.Tracks.{channel_of}
use Rattle.cursor.specs.declared.packets.Packet.{Packet}
use Rattle.cursor.specs.declared.takes.Account.{Account}
use Rattle.cursor.specs.declared.takes.Delivery.{Delivery}
use Rattle.cursor.specs.declared.takes.Delivery.TheVariants.{Got, Lost, Empty, Ended}
use Rattle.cursor.specs.Account.{received, lost}
use Rattle.cursor.specs.Taps.{Takes, GoesOn, AllGoOn, Counts}
use Rattle.cursor.proofs.Answered.{Takes-push, AllGoOn-push, received-append}
use Rattle.cursor.proofs.Counted.{Takes-counts}
use Rattle.player.specs.declared.report.OutStop.TheVariants as stop
use Rattle.player.specs.FramesOut.{frame_on, frame_out, frames_out, skipped_of, WentOut, TakesOut}

abbrev pub Pairs : Type 0
Pairs = List (Option ChannelPair)

-- so many takes, whose answers all went on, and all of whose frames went out
pub record SoFar {S : Type 0} (gives : S → Delivery → S → Type 0) (pairs : Pairs) (old now : S) (before after : Option (List ℕ)) (takes sent skipped : ℕ) : Type 0 where
  pub answers : List Delivery
  pub run : Takes gives old answers now
  pub count : length answers ≡ takes
  pub goes_on : AllGoOn answers
  pub sent_is : sent ≡ length (frames_out pairs answers)
  pub bytes : Appends before after (concat (frames_out pairs answers))
  pub skipped_is : skipped ≡ skipped_of pairs answers
  pub within : sent + skipped ≤ takes

frames_out-append : (pairs : Pairs) (ds es : List Delivery) → frames_out pairs (ds ++ es) ≡ frames_out pairs ds ++ frames_out pairs es
frames_out-append pairs ds es = ap (flat_map (frame_out pairs)) (received-append ds es) ∙ flat_map-append (frame_out pairs) (received ds) (received es)

skipped_of-append : (pairs : Pairs) (ds es : List Delivery) → skipped_of pairs (ds ++ es) ≡ skipped_of pairs ds + skipped_of pairs es
skipped_of-append pairs ds es =
    let is_skipped : Packet → _ = λ (p : Packet). is_none (channel_of pairs p.tag) in
    ap (count_by is_skipped) (received-append ds es) ∙ sum_by-append _ (received ds) (received es)

-- the frame of a packet that is sent
frames_of_sent : (pairs : Pairs) (number : ℕ) (packet : Packet) (channel : ℕ) → channel_of pairs packet.tag ≡ Some channel → frames_out pairs (Got number packet ∷ []) ≡ frame_of channel packet.bytes ∷ []
frames_of_sent pairs number packet channel is = ap (λ o. frame_on o packet.bytes ++ []) is

count_of_sent : (pairs : Pairs) (number : ℕ) (packet : Packet) (channel : ℕ) → channel_of pairs packet.tag ≡ Some channel → skipped_of pairs (Got number packet ∷ []) ≡ 0
count_of_sent pairs number packet channel is = ap (λ (o : Option ℕ). 0 + cond (is_none o) 1 0) is

module _ {S : Type 0} (gives : S → Delivery → S → Type 0) (pairs : Pairs) (old : S) (before : Option (List ℕ)) where
  pub no_takes : SoFar gives pairs old old before before 0 0 0
  no_takes = record { answers = []; run = refl; count = refl; goes_on = tt; sent_is = refl; bytes = Appends-nil before; skipped_is = refl; within = omega arith }

  -- one more take that goes on, and the bytes of its frames
  pub one_more : (mid new : S) (after now : Option (List ℕ)) (takes sent skipped sent' skipped' : ℕ) (d : Delivery) → SoFar gives pairs old mid before after takes sent skipped
      → gives mid d new → GoesOn d → Appends after now (concat (frames_out pairs (d ∷ [])))
      → sent' ≡ sent + length (frames_out pairs (d ∷ [])) → skipped' ≡ skipped + skipped_of pairs (d ∷ []) → sent' + skipped' ≤ sent + skipped + 1
      → SoFar gives pairs old new before now (takes + 1) sent' skipped'
  one_more mid new after now takes sent skipped sent' skipped' d so step goes bytes more_sent more_skipped one =
      let all = frames_out-append pairs so.answers (d ∷ []) in
      record {
        answers = so.answers ++ d ∷ [];
        run = Takes-push gives old so.answers mid d new so.run step;
        count = length-append so.answers (d ∷ []) ∙ ap (λ n. n + 1) so.count;
        goes_on = AllGoOn-push so.answers d so.goes_on goes;
        sent_is = omega (arith, more_sent, so.sent_is, ap length all, length-append (frames_out pairs so.answers) (frames_out pairs (d ∷ [])));
        bytes =
            subst (Appends before now) (sym (concat-append (frames_out pairs so.answers) (frames_out pairs (d ∷ []))) ∙ ap concat (sym all))
            (Appends-trans before after now _ _ so.bytes bytes);
        skipped_is = omega (arith, more_skipped, so.skipped_is, skipped_of-append pairs so.answers (d ∷ []));
        within = omega (arith, so.within);
      }

  -- a packet whose frame went out
  pub sends : (mid new : S) (after now : Option (List ℕ)) (takes sent skipped number : ℕ) (packet : Packet) (channel : ℕ) → SoFar gives pairs old mid before after takes sent skipped
      → gives mid (Got number packet) new → channel_of pairs packet.tag ≡ Some channel → Appends after now (frame_of channel packet.bytes)
      → SoFar gives pairs old new before now (takes + 1) (sent + 1) skipped
  sends mid new after now takes sent skipped number packet channel so step is bytes =
      let frames = frames_of_sent pairs number packet channel is in
      one_more mid new after now takes sent skipped (sent + 1) skipped (Got number packet) so step tt
      (subst (Appends after now) (sym (append-nil (frame_of channel packet.bytes)) ∙ ap concat (sym frames)) bytes)
      (ap (λ fs. sent + length fs) (sym frames)) (omega (arith, count_of_sent pairs number packet channel is)) (omega arith)

  -- a packet of a track that isn't set up
  pub skips : (mid new : S) (after : Option (List ℕ)) (takes sent skipped number : ℕ) (packet : Packet) → SoFar gives pairs old mid before after takes sent skipped
      → gives mid (Got number packet) new → channel_of pairs packet.tag ≡ None
      → SoFar gives pairs old new before after (takes + 1) sent (skipped + 1)
  skips mid new after takes sent skipped number packet so step is =
      let frames : frames_out pairs (Got number packet ∷ []) ≡ [] = ap (λ o. frame_on o packet.bytes ++ []) is in
      let count : skipped_of pairs (Got number packet ∷ []) ≡ 1 = ap (λ (o : Option ℕ). 0 + cond (is_none o) 1 0) is in
      one_more mid new after after takes sent skipped sent (skipped + 1) (Got number packet) so step tt
      (subst (Appends after after) (ap concat (sym frames)) (Appends-nil after))
      (omega (arith, ap length frames)) (omega (arith, count)) (omega arith)

  -- packets that were lost
  pub loses : (mid new : S) (after : Option (List ℕ)) (takes sent skipped count : ℕ) → SoFar gives pairs old mid before after takes sent skipped
      → gives mid (Lost count) new → SoFar gives pairs old new before after (takes + 1) sent skipped
  loses mid new after takes sent skipped count so step =
      one_more mid new after after takes sent skipped sent skipped (Lost count) so step tt (Appends-nil after) (omega arith) (omega arith) (omega arith)

  module _ (n : ℕ) where
    -- the packet whose frame was cut
    pub is_cut : (mid new : S) (after now : Option (List ℕ)) (takes sent skipped cut number : ℕ) (packet : Packet) (channel : ℕ) → SoFar gives pairs old mid before after takes sent skipped
        → gives mid (Got number packet) new → channel_of pairs packet.tag ≡ Some channel → takes < n
        → cut < length (frame_of channel packet.bytes) → Appends after now (take cut (frame_of channel packet.bytes))
        → TakesOut gives pairs n old new before now (record { sent = sent; skipped = skipped; lost = 0; cut = cut; stop = stop.WriteFailed })
    is_cut mid new after now takes sent skipped cut number packet channel so step is below short bytes =
        let last = Got number packet ∷ [] in
        record {
          answers = so.answers ++ last;
          run = Takes-push gives old so.answers mid (Got number packet) new so.run step;
          ends = (
            omega (arith, length-append so.answers last, so.count),
            so.answers,
            number,
            packet,
            refl,
            so.goes_on,
            subst IsSome (sym is) refl,
          );
          out = record {
            whole = frames_out pairs so.answers;
            last = frame_of channel packet.bytes;
            frames_are = frames_out-append pairs so.answers last ∙ ap (λ fs. frames_out pairs so.answers ++ fs) (frames_of_sent pairs number packet channel is);
            whole_sent = so.sent_is;
            last_cut = short;
            bytes = Appends-trans before after now _ _ so.bytes bytes;
          };
          skipped = omega (arith, so.skipped_is, skipped_of-append pairs so.answers last, count_of_sent pairs number packet channel is);
        }

    -- an answer without a packet, after which there is nothing to take now
    module _ (mid new : S) (after : Option (List ℕ)) (takes sent skipped : ℕ) (so : SoFar gives pairs old mid before after takes sent skipped) (below : takes < n) where
      all_out : (d : Delivery) → received (d ∷ []) ≡ [] → frames_out pairs (so.answers ++ d ∷ []) ≡ frames_out pairs so.answers
      all_out d none = frames_out-append pairs so.answers (d ∷ []) ∙ ap (λ ps. frames_out pairs so.answers ++ flat_map (frame_out pairs) ps) none ∙ append-nil _

      went_out : (d : Delivery) → received (d ∷ []) ≡ [] → WentOut (frames_out pairs (so.answers ++ d ∷ [])) sent 0 before after
      went_out d none = record {
        all_sent = so.sent_is ∙ ap length (sym (all_out d none));
        none_cut = refl;
        bytes = subst (Appends before after) (ap concat (sym (all_out d none))) so.bytes;
      }

      none_skipped : (d : Delivery) → received (d ∷ []) ≡ [] → skipped ≡ skipped_of pairs (so.answers ++ d ∷ [])
      none_skipped d none =
          let more : skipped_of pairs (d ∷ []) ≡ 0 = ap (count_by (λ (packet : Packet). is_none (channel_of pairs packet.tag))) none in
          omega (arith, so.skipped_is, skipped_of-append pairs so.answers (d ∷ []), more)

      pub is_empty : gives mid Empty new → TakesOut gives pairs n old new before after (record { sent = sent; skipped = skipped; lost = 0; cut = 0; stop = stop.Empty })
      is_empty step = record {
        answers = so.answers ++ Empty ∷ [];
        run = Takes-push gives old so.answers mid Empty new so.run step;
        ends = (omega (arith, length-append so.answers (Empty ∷ []), so.count), so.answers, refl, so.goes_on);
        out = went_out Empty refl;
        skipped = none_skipped Empty refl;
      }

      pub is_ended : gives mid Ended new → TakesOut gives pairs n old new before after (record { sent = sent; skipped = skipped; lost = 0; cut = 0; stop = stop.Ended })
      is_ended step = record {
        answers = so.answers ++ Ended ∷ [];
        run = Takes-push gives old so.answers mid Ended new so.run step;
        ends = (omega (arith, length-append so.answers (Ended ∷ []), so.count), so.answers, refl, so.goes_on);
        out = went_out Ended refl;
        skipped = none_skipped Ended refl;
      }

-- what the account of a tap has lost since is what the answers lost
pub lost_since : {S : Type 0} (gives : S → Delivery → S → Type 0) (account : S → Account) → ((old : S) (d : Delivery) (new : S) → gives old d new → Counts (account old) d (account new))
    → (old new : S) (first last : Account) → first ≡ account old → last ≡ account new → (answers : List Delivery) → Takes gives old answers new → last.lost ≡ first.lost + lost answers
lost_since gives account counts old new first last is_first is_last answers run =
    ap (λ (a : Account). a.lost) (is_last ∙ Takes-counts gives account counts old answers new run)
    ∙ ap (λ (a : Account). a.lost + lost answers) (sym is_first)
