-- The frames so far, and what became of them.
use Rattle.std.proofs.Common.{◌≡◌, ◌≢◌, ◌+◌, ◌*◌, ◌/◌, ◌%◌, ℕ, zero, suc, Bool, false, cond, ◌⊎◌, inl, inr, List, [], ◌∷◌, ◌++◌, Option, None, Some, length, get_or, set, refl, sym, ap, subst, ◌∙◌, arith, append_assoc, append-nil, length-append}
use Rattle.std.specs.Prelude.{option_map, Result}
use Rattle.std.proofs.lemmas.Bool.{cases_eq}
use Rattle.std.proofs.lemmas.Grind.{flat_map-append}
use Rattle.std.proofs.lemmas.List.{get_or-set_same, get_or-set_other, map-append}
use Rattle.std.proofs.lemmas.List.Elements.{All-append, All-cons}
use Rattle.std.proofs.lemmas.List.Sums.{sum_by-append, sum_by-cons}
use Rattle.interleaved.specs.declared.frame.Frame.{Frame}
use Rattle.rtsp_message.specs.declared.unit.Unit.{Unit as StreamUnit}
use Rattle.rtsp_message.specs.declared.unit.Unit.TheVariants as content
use Rattle.rtsp_message.specs.declared.intake.Next.{Next}
use Rattle.rtsp_message.specs.Intakes.{IntakeState, HandsOut, Tells, IsOver, Lasts, handed}
use Rattle.rtsp_message.proofs.HandingOut.{HandsOut-trans}
use Rattle.transport_header.specs.declared.spec.ChannelPair.{ChannelPair}
use Rattle.transport_header.specs.declared.point.Point.{Point}
use Rattle.cursor.specs.declared.packets.Packet.{Packet}
use Rattle.cursor.specs.declared.refusals.Refused.{Refused as Refusal}
use Rattle.cursor.specs.declared.refusals.Refused.TheVariants as refused
use Rattle.publisher.specs.declared.fate.Fate.{Fate}
use Rattle.publisher.specs.declared.fate.Fate.TheVariants as fate
use Rattle.publisher.specs.declared.report.InReport.{InReport}
use Rattle.publisher.specs.declared.report.InStop.{InStop}
use Rattle.publisher.specs.Rtp.{point_of}
use Rattle.publisher.specs.Fates.{Handling, HasFate, AreCounted, CountsOne, published, published_as, is_published, is_pinned, is_oversize, is_worn, is_unkept, is_bad_rtp, is_stranger, one_if, count_of, total}
use Rattle.publisher.specs.FramesIn.{IsPointAfter, ArePointsAfter, GrowsBy, HaveFates, frames_of, answer_of, RelaysIn, RelaysSeen, StaysOver, Meets, MeetInTurn, SeesInTurn}

-- one RTP packet moves the point of its track, and no other
pub point_moves : (points : List (Option Point)) (packet : Packet) (place : ℕ) (point : Point) → packet.tag % 2 ≡ 0 → place ≡ packet.tag / 2 → point ≡ point_of packet.bytes
    → ArePointsAfter points (packet ∷ []) (set points place (Some point))
point_moves points packet place point even is_place is_point track within =
    elim (cases_eq track place) [
      | inl here ↦ inr (
        [],
        packet,
        [],
        refl,
        omega arith,
        λ k d below. absurd (omega arith),
        ap (λ t. get_or (set points place (Some point)) t None) here ∙ get_or-set_same points place (Some point) None (omega arith) ∙ ap Some is_point,
      )
      | inr other ↦ inl (
        All-cons (λ (p : Packet). p.tag ≢ 2 * track) packet [] (λ same. other (omega arith)) (λ k d below. absurd (omega arith)),
        get_or-set_other points place track (Some point) None other,
      )
    ]

-- points after some packets, and then others
point-trans : (track : ℕ) (a b c : Option Point) (ps qs : List Packet) → IsPointAfter track a ps b → IsPointAfter track b qs c → IsPointAfter track a (ps ++ qs) c
point-trans track a b c ps qs (inl p) (inl q) = inl (All-append (λ (x : Packet). x.tag ≢ 2 * track) ps qs p.0 q.0, q.1 ∙ p.1)
point-trans track a b c ps qs (inr p) (inl q) =
    let tail = p.2 ++ qs in
    inr (
      p.0,
      p.1,
      tail,
      ap (λ l. l ++ qs) p.3 ∙ append_assoc p.0 (p.1 ∷ p.2) qs,
      p.4,
      All-append (λ (x : Packet). x.tag ≢ 2 * track) p.2 qs p.5 q.0,
      q.1 ∙ p.6,
    )
point-trans track a b c ps qs p (inr q) = inr (ps ++ q.0, q.1, q.2, ap (λ l. ps ++ l) q.3 ∙ sym (append_assoc ps q.0 (q.1 ∷ q.2)), q.4, q.5, q.6)

grows-trans : (a b c : Option (List Packet)) (ps qs : List Packet) → GrowsBy a ps b → GrowsBy b qs c → GrowsBy a (ps ++ qs) c
grows-trans None b c ps qs p q = q ∙ ap (option_map (λ l. l ++ qs)) p
grows-trans (Some l) b c ps qs p q = q ∙ ap (option_map (λ l. l ++ qs)) p ∙ ap Some (append_assoc l ps qs)

grows_none : (a : Option (List Packet)) → GrowsBy a [] a
grows_none None = refl
grows_none (Some l) = ap Some (sym (append-nil l))

-- one frame more, with its fate
abbrev pub handling : Frame → Fate → Handling
handling frame outcome = record { frame = frame; fate = outcome }

count_of-push : (test : Fate → Bool) (hs : List Handling) (frame : Frame) (outcome : Fate) → count_of test (hs ++ handling frame outcome ∷ []) ≡ count_of test hs + one_if (test outcome)
count_of-push test hs frame outcome =
    let one : Handling → ℕ = λ (h : Handling). cond (test h.fate) 1 0 in
    omega (arith, sum_by-append one hs (handling frame outcome ∷ []), sum_by-cons one (handling frame outcome) [])

-- a fate is one of the seven
one_of_seven : (outcome : Fate)
    → one_if (is_published outcome) + one_if (is_pinned outcome) + one_if (is_oversize outcome) + one_if (is_worn outcome) + one_if (is_unkept outcome) + one_if (is_bad_rtp outcome) + one_if (is_stranger outcome) ≡ 1
one_of_seven (fate.Published tag) = refl
one_of_seven fate.Pinned = refl
one_of_seven fate.Oversize = refl
one_of_seven fate.Worn = refl
one_of_seven fate.Unkept = refl
one_of_seven fate.BadRtp = refl
one_of_seven fate.Stranger = refl

-- the sum grows by one
pub total_one : (old : InReport) (outcome : Fate) (new : InReport) → CountsOne old outcome new → total new ≡ total old + 1
total_one old outcome new one = omega (arith, one.published, one.pinned, one.oversize, one.worn, one.unkept, one.bad_rtp, one.strangers, one_of_seven outcome)

pub counts_more : (hs : List Handling) (frame : Frame) (outcome : Fate) (old new : InReport) → AreCounted hs old → CountsOne old outcome new → AreCounted (hs ++ handling frame outcome ∷ []) new
counts_more hs frame outcome old new before one = record {
  published = omega (arith, before.published, one.published, count_of-push is_published hs frame outcome);
  pinned = omega (arith, before.pinned, one.pinned, count_of-push is_pinned hs frame outcome);
  oversize = omega (arith, before.oversize, one.oversize, count_of-push is_oversize hs frame outcome);
  worn = omega (arith, before.worn, one.worn, count_of-push is_worn hs frame outcome);
  unkept = omega (arith, before.unkept, one.unkept, count_of-push is_unkept hs frame outcome);
  bad_rtp = omega (arith, before.bad_rtp, one.bad_rtp, count_of-push is_bad_rtp hs frame outcome);
  strangers = omega (arith, before.strangers, one.strangers, count_of-push is_stranger hs frame outcome);
  all = omega (arith, before.all, total_one old outcome new one, length-append hs (handling frame outcome ∷ []));
}

-- where no frame may have a fate that passes the test, none is counted
none_such : (pairs : List (Option ChannelPair)) (room : ℕ) (may : Refusal → Type 0) (test : Fate → Bool)
    → ((frame : Frame) (outcome : Fate) → HasFate pairs room may frame outcome → test outcome ≡ false)
    → (hs : List Handling) → HaveFates pairs room may hs → count_of test hs ≡ 0
none_such pairs room may test never [] all = refl
none_such pairs room may test never (h ∷ hs) all =
    let one : Handling → ℕ = λ (x : Handling). cond (test x.fate) 1 0 in
    let first : one h ≡ 0 = ap (λ b. cond b 1 0) (never h.frame h.fate (all zero h (omega arith))) in
    omega (arith, sum_by-cons one h hs, first, none_such pairs room may test never hs (λ k d below. all (suc k) d (omega arith)))

-- one frame more at the feed
pub meet-push : {F : Type 0} (gives : F → Packet → Result ℕ Refusal → F → Type 0) (pairs : List (Option ChannelPair)) (hs : List Handling) (h : Handling) (old now new : F)
    → MeetInTurn gives pairs hs old now → Meets gives pairs h.frame h.fate now new → MeetInTurn gives pairs (hs ++ h ∷ []) old new
meet-push gives pairs [] h old now new same one = (new, subst (λ o. Meets gives pairs h.frame h.fate o new) same one, refl)
meet-push gives pairs (first ∷ hs) h old now new met one = (met.0, met.1, meet-push gives pairs hs h met.0 now new met.2 one)

-- one frame more for an observer
pub see-push : {O : Type 0} (observes : O → Fate → ℕ → O → Type 0) (hs : List Handling) (h : Handling) (old now new : O)
    → SeesInTurn observes hs old now → observes now h.fate (length h.frame.payload) new → SeesInTurn observes (hs ++ h ∷ []) old new
see-push observes [] h old now new same one = (new, subst (λ o. observes o h.fate (length h.frame.payload) new) same one, refl)
see-push observes (first ∷ hs) h old now new seen one = (seen.0, seen.1, see-push observes hs h seen.0 now new seen.2 one)

module _ {S F : Type 0} (incoming : S → Option (List ℕ)) (gives : F → Packet → Result ℕ Refusal → F → Type 0) (pairs : List (Option ChannelPair)) (room : ℕ) (may : Refusal → Type 0) where
  -- nothing happened yet, or these units were handed out
  abbrev pub HasHanded : (old now : IntakeState S) → List StreamUnit → Type 0
  HasHanded old now units = (now ≡ old) × (units ≡ []) ⊎ HandsOut incoming old now units

  handed_more : (old now new : IntakeState S) (us vs : List StreamUnit) → HasHanded old now us → HandsOut incoming now new vs → HandsOut incoming old new (us ++ vs)
  handed_more old now new us vs (inl same) out = subst (λ o. HandsOut incoming o new (us ++ vs)) same.0 (subst (λ l. HandsOut incoming now new (l ++ vs)) (sym same.1) out)
  handed_more old now new us vs (inr so_far) out = HandsOut-trans incoming old now new us vs so_far out

  -- the frames that an intake has handed out, and what became of them
  pub record SoFar (old now : IntakeState S) (old_feed feed : F) (old_log log : Option (List Packet)) (old_points points : List (Option Point)) (report : InReport) : Type 0 where
    pub handlings : List Handling
    pub hands_out : HasHanded old now (frames_of handlings)
    pub fates : HaveFates pairs room may handlings
    pub met : MeetInTurn gives pairs handlings old_feed feed
    pub counts : AreCounted handlings report
    pub grown : GrowsBy old_log (published handlings) log
    pub moved : ArePointsAfter old_points (published handlings) points

  pub none_so_far : (old : IntakeState S) (feed : F) (log : Option (List Packet)) (points : List (Option Point)) (report : InReport) → AreCounted [] report → SoFar old old feed feed log log points points report
  none_so_far old feed log points report counts = record {
    handlings = [];
    hands_out = inl (refl, refl);
    fates = λ k d below. absurd (omega arith);
    met = refl;
    counts = counts;
    grown = grows_none log;
    moved = λ track within. inl (λ k d below. absurd (omega arith), refl);
  }

  pub one_more : (old now new : IntakeState S) (old_feed feed new_feed : F) (old_log log new_log : Option (List Packet)) (old_points points new_points : List (Option Point)) (report new_report : InReport) (frame : Frame) (outcome : Fate)
      → SoFar old now old_feed feed old_log log old_points points report → length points ≡ length old_points
      → HandsOut incoming now new (content.Frame frame ∷ []) → HasFate pairs room may frame outcome → Meets gives pairs frame outcome feed new_feed → CountsOne report outcome new_report
      → GrowsBy log (published_as frame outcome) new_log → ArePointsAfter points (published_as frame outcome) new_points
      → SoFar old new old_feed new_feed old_log new_log old_points new_points new_report
  one_more old now new old_feed feed new_feed old_log log new_log old_points points new_points report new_report frame outcome so long out has meets counted grown moved =
      let hs = so.handlings in
      let one = handling frame outcome in
      let as_packets : Handling → List Packet = λ (h : Handling). published_as h.frame h.fate in
      let packets : published (hs ++ one ∷ []) ≡ published hs ++ published_as frame outcome =
      flat_map-append as_packets hs (one ∷ []) ∙ ap (λ ps. published hs ++ ps) (append-nil (published_as frame outcome)) in
      record {
        handlings = hs ++ one ∷ [];
        hands_out = inr (subst (HandsOut incoming old new) (sym (map-append (λ (h : Handling). content.Frame h.frame) hs (one ∷ []))) (handed_more old now new (frames_of hs) _ so.hands_out out));
        fates = All-append (λ (h : Handling). HasFate pairs room may h.frame h.fate) hs (one ∷ []) so.fates (All-cons (λ (h : Handling). HasFate pairs room may h.frame h.fate) one [] has (λ k d below. absurd (omega arith)));
        met = meet-push gives pairs hs one old_feed feed new_feed so.met meets;
        counts = counts_more hs frame outcome report new_report so.counts counted;
        grown = subst (λ ps. GrowsBy old_log ps new_log) (sym packets) (grows-trans old_log log new_log (published hs) (published_as frame outcome) so.grown grown);
        moved = λ track within.
            subst (λ ps. IsPointAfter track (get_or old_points track None) ps (get_or new_points track None)) (sym packets)
            (point-trans track _ (get_or points track None) _ (published hs) (published_as frame outcome) (so.moved track within) (moved track (omega (arith, long))));
      }

  -- the same, with an observer that has seen them
  pub record SoFarSeen {O : Type 0} (observes : O → Fate → ℕ → O → Type 0) (old now : IntakeState S) (old_feed feed : F) (old_log log : Option (List Packet)) (old_points points : List (Option Point)) (old_observer observer : O) (report : InReport) : Type 0 where
    pub met : SoFar old now old_feed feed old_log log old_points points report
    pub seen : SeesInTurn observes met.handlings old_observer observer

  -- the answer that ends the frames
  pub ends : (failed : S → Bool) (old now new : IntakeState S) (old_feed feed : F) (old_log log : Option (List Packet)) (old_points points : List (Option Point)) (report : InReport) (stop : InStop)
      → SoFar old now old_feed feed old_log log old_points points report
      → HandsOut incoming now new (handed (answer_of stop)) → Tells incoming failed new (answer_of stop) → Lasts failed new (answer_of stop)
      → RelaysIn incoming failed gives pairs room may old new old_feed feed old_log log old_points points (record report { stop = stop })
  ends failed old now new old_feed feed old_log log old_points points report stop so out tells lasts = record {
    handlings = so.handlings;
    hands_out = handed_more old now new (frames_of so.handlings) (handed (answer_of stop)) so.hands_out out;
    tells = tells;
    lasts = lasts;
    fates = so.fates;
    feed = so.met;
    counts = record {
      published = so.counts.published;
      pinned = so.counts.pinned;
      oversize = so.counts.oversize;
      worn = so.counts.worn;
      unkept = so.counts.unkept;
      bad_rtp = so.counts.bad_rtp;
      strangers = so.counts.strangers;
      all = so.counts.all;
    };
    log = so.grown;
    points = so.moved;
  }

  module _ {O : Type 0} (observes : O → Fate → ℕ → O → Type 0) where
    pub none_seen : (old : IntakeState S) (feed : F) (log : Option (List Packet)) (points : List (Option Point)) (observer : O) (report : InReport) → AreCounted [] report → SoFarSeen observes old old feed feed log log points points observer observer report
    unfolding none_so_far
    none_seen old feed log points observer report counts = record { met = none_so_far old feed log points report counts; seen = refl }

    pub one_more_seen : (old now new : IntakeState S) (old_feed feed new_feed : F) (old_log log new_log : Option (List Packet)) (old_points points new_points : List (Option Point)) (old_observer observer new_observer : O) (report new_report : InReport) (frame : Frame) (outcome : Fate)
        → SoFarSeen observes old now old_feed feed old_log log old_points points old_observer observer report → length points ≡ length old_points
        → HandsOut incoming now new (content.Frame frame ∷ []) → HasFate pairs room may frame outcome → Meets gives pairs frame outcome feed new_feed → CountsOne report outcome new_report
        → GrowsBy log (published_as frame outcome) new_log → ArePointsAfter points (published_as frame outcome) new_points
        → observes observer outcome (length frame.payload) new_observer
        → SoFarSeen observes old new old_feed new_feed old_log new_log old_points new_points old_observer new_observer new_report
    unfolding one_more
    one_more_seen old now new old_feed feed new_feed old_log log new_log old_points points new_points old_observer observer new_observer report new_report frame outcome so long out has meets counted grown moved sees = record {
      met = one_more old now new old_feed feed new_feed old_log log new_log old_points points new_points report new_report frame outcome so.met long out has meets counted grown moved;
      seen = see-push observes so.met.handlings (handling frame outcome) old_observer observer new_observer so.seen sees;
    }

    pub ends_seen : (failed : S → Bool) (old now new : IntakeState S) (old_feed feed : F) (old_log log : Option (List Packet)) (old_points points : List (Option Point)) (old_observer observer : O) (report : InReport) (stop : InStop)
        → SoFarSeen observes old now old_feed feed old_log log old_points points old_observer observer report
        → HandsOut incoming now new (handed (answer_of stop)) → Tells incoming failed new (answer_of stop) → Lasts failed new (answer_of stop)
        → RelaysSeen incoming failed gives observes pairs room may old new old_feed feed old_log log old_points points old_observer observer (record report { stop = stop })
    unfolding ends
    ends_seen failed old now new old_feed feed old_log log old_points points old_observer observer report stop so out tells lasts = record {
      relays = ends failed old now new old_feed feed old_log log old_points points report stop so.met out tells lasts;
      seen = so.seen;
    }

-- an intake that was over gives its answer for good
pub stays : {S : Type 0} (failed : S → Bool) (old now : IntakeState S) (report : InReport) (stop : InStop)
    → ((answer : Next) → IsOver failed old answer → IsOver failed now answer × (total report ≡ 0))
    → ((answer : Next) → IsOver failed now answer → answer_of stop ≡ answer)
    → StaysOver failed old (record report { stop = stop })
stays failed old now report stop over gives answer is = ((over answer is).1, gives answer (over answer is).0)

module _ (pairs : List (Option ChannelPair)) (room : ℕ) (may : Refusal → Type 0) (hs : List Handling) (fates : HaveFates pairs room may hs) where
  -- what a feed never answers is never counted
  pub none_pinned : ((pins : ℕ) → ¬ may (refused.Pinned pins)) → count_of is_pinned hs ≡ 0
  none_pinned never = none_such pairs room may is_pinned each hs fates
    where
      each : (frame : Frame) (outcome : Fate) → HasFate pairs room may frame outcome → is_pinned outcome ≡ false
      each frame (fate.Published tag) has = refl
      each frame fate.Pinned has = absurd (never has.0 has.1.may_be)
      each frame fate.Oversize has = refl
      each frame fate.Worn has = refl
      each frame fate.Unkept has = refl
      each frame fate.BadRtp has = refl
      each frame fate.Stranger has = refl

  pub none_worn : ¬ may refused.Worn → count_of is_worn hs ≡ 0
  none_worn never = none_such pairs room may is_worn each hs fates
    where
      each : (frame : Frame) (outcome : Fate) → HasFate pairs room may frame outcome → is_worn outcome ≡ false
      each frame (fate.Published tag) has = refl
      each frame fate.Pinned has = refl
      each frame fate.Oversize has = refl
      each frame fate.Worn has = absurd (never has.may_be)
      each frame fate.Unkept has = refl
      each frame fate.BadRtp has = refl
      each frame fate.Stranger has = refl

  pub none_unkept : ¬ may refused.OutOfMemory → count_of is_unkept hs ≡ 0
  none_unkept never = none_such pairs room may is_unkept each hs fates
    where
      each : (frame : Frame) (outcome : Fate) → HasFate pairs room may frame outcome → is_unkept outcome ≡ false
      each frame (fate.Published tag) has = refl
      each frame fate.Pinned has = refl
      each frame fate.Oversize has = refl
      each frame fate.Worn has = refl
      each frame fate.Unkept has = absurd (never has.may_be)
      each frame fate.BadRtp has = refl
      each frame fate.Stranger has = refl
