-- The frames that an intake has handed out so far, and what became of them.
use Rattle.std.proofs.Common.{◌≡◌, ℕ, ◌+◌, ◌≤◌, ◌⊎◌, Bool, List, [], ◌∷◌, ◌++◌, Option, length, refl, sym, ap, subst, ◌∙◌, arith, append_assoc, append-nil, length-append, inl, inr}
use Rattle.std.proofs.lemmas.Grind.{flat_map-append}
use Rattle.std.proofs.lemmas.List.{map-append}
use Rattle.std.proofs.lemmas.List.Elements.{All-append, All-cons, All-nil}
use Rattle.interleaved.specs.declared.frame.Frame.{Frame}
use Rattle.rtsp_message.specs.declared.unit.Unit.{Unit as StreamUnit}
use Rattle.rtsp_message.specs.Intakes.{IntakeState, HandsOut}
use Rattle.rtsp_message.proofs.HandingOut.{HandsOut-trans}
use Rattle.transport_header.specs.declared.spec.ChannelPair.{ChannelPair}
use Rattle.cursor.specs.declared.packets.Packet.{Packet}
use Rattle.packet_ring.specs.Calls.{NeverPinned, PublishesNext}
use Rattle.packet_ring.specs.Views.{Publishing, Subscribing, packet_bytes_of}
use Rattle.publisher.specs.declared.fate.Fate.{Fate}
use Rattle.publisher.specs.declared.fate.Fate.TheVariants as fate
use Rattle.publisher.specs.Fates.{AreCounted, CountsOne, Handling, HasFate, published, published_as}
use Rattle.publisher.specs.FramesIn.{HaveFates, Meets, MeetInTurn}
use Rattle.publisher.proofs.Incoming.{counts_more, handling}
use Rattle.relay_pass.specs.declared.report.FrameCounts.{FrameCounts}
use Rattle.relay_pass.specs.declared.frames.Incoming.{Incoming}
use Rattle.relay_pass.specs.declared.frames.Incoming.TheVariants as incoming
use Rattle.relay_pass.specs.Came.{Comes, frame_in, frames_among, frames_of_incoming}
use Rattle.relay_pass.specs.Counts.{counts_of}
use Rattle.relay_pass.specs.Publishes.{MeetFates, Publishes, frames_of}
use Rattle.relay_pass.specs.Ring.{LearnsLog}
use Rattle.relay_pass.proofs.Learning.{learns-none, learns-trans}

-- ---- one frame

pub frames-append : (us vs : List StreamUnit) → frames_among (us ++ vs) ≡ frames_among us ++ frames_among vs
frames-append us vs = flat_map-append frame_in us vs

module _ {S : Type 0} (of_source : S → Option (List ℕ)) where
  -- nothing happened yet, or these units were handed out
  abbrev pub Handed : (old now : IntakeState S) → List StreamUnit → Type 0
  Handed old now units = ((now ≡ old) × (units ≡ [])) ⊎ HandsOut of_source old now units

  pub handed-more : (old now new : IntakeState S) (us vs : List StreamUnit) → Handed old now us → HandsOut of_source now new vs → HandsOut of_source old new (us ++ vs)
  handed-more old now new us vs (inl same) out = subst (λ (o : IntakeState S). HandsOut of_source o new (us ++ vs)) same.0 (subst (λ (l : List StreamUnit). HandsOut of_source now new (l ++ vs)) (sym same.1) out)
  handed-more old now new us vs (inr so_far) out = HandsOut-trans of_source old now new us vs so_far out

  -- messages were skipped, and no frame came
  pub record Skipped (old now : IntakeState S) : Type 0 where
    pub units : List StreamUnit
    pub handed : Handed old now units
    pub none : frames_among units ≡ []

  pub skips-on : (old now new : IntakeState S) (vs : List StreamUnit) → Skipped old now → HandsOut of_source now new vs → frames_among vs ≡ [] → Skipped old new
  skips-on old now new vs so out none = record {
    units = so.units ++ vs;
    handed = inr (handed-more old now new so.units vs so.handed out);
    none = frames-append so.units vs ∙ ap (λ (l : List Frame). l ++ frames_among vs) so.none ∙ none;
  }

  pub comes-at : (failed : S → Bool) (old now new : IntakeState S) (vs : List StreamUnit) (came : Incoming) → Skipped old now → HandsOut of_source now new vs → frames_among vs ≡ frames_of_incoming came
      → Rattle.relay_pass.specs.Came.EndsWith of_source failed new came → Comes of_source failed old new came
  comes-at failed old now new vs came so out is ended = record {
    units = so.units ++ vs;
    hands_out = handed-more old now new so.units vs so.handed out;
    frames = frames-append so.units vs ∙ ap (λ (l : List Frame). l ++ frames_among vs) so.none ∙ is;
    ended = ended;
  }

-- ---- at the ring

module _ (from : List (Option ChannelPair)) where
  -- one fate leaves the ring and appends what was published
  pub record Grew (packets : List Packet) (old new : Publishing) : Type 0 where
    pub log : new.log ≡ old.log ++ packets
    pub ring : new.ring ≡ old.ring

  not-grown : (old new : Publishing) → new.log ≡ old.log → new.ring ≡ old.ring → Grew [] old new
  not-grown old new log ring = record { log = log ∙ sym (append-nil old.log); ring = ring }

  pub one-grew : (frame : Frame) (outcome : Fate) (old new : Publishing) → Meets PublishesNext from frame outcome old new → Grew (published_as frame outcome) old new
  one-grew frame (fate.Published tag) old new m = record { log = ap (λ (p : Publishing). p.log) m.1.1.after; ring = ap (λ (p : Publishing). p.ring) m.1.1.after }
  one-grew frame fate.Pinned old new m = let same = m.1.2.4 in not-grown old new (ap (λ (p : Publishing). p.log) same) (ap (λ (p : Publishing). p.ring) same)
  one-grew frame fate.Oversize old new m = let same = m.2.1 in not-grown old new (ap (λ (p : Publishing). p.log) same) (ap (λ (p : Publishing). p.ring) same)
  one-grew frame fate.Worn old new m = let same = m.2.2 in not-grown old new (ap (λ (p : Publishing). p.log) same) (ap (λ (p : Publishing). p.ring) same)
  one-grew frame fate.Unkept old new m = absurd m.2
  one-grew frame fate.BadRtp old new m = not-grown old new (ap (λ (p : Publishing). p.log) m) (ap (λ (p : Publishing). p.ring) m)
  one-grew frame fate.Stranger old new m = not-grown old new (ap (λ (p : Publishing). p.log) m) (ap (λ (p : Publishing). p.ring) m)

  pub all-grew : (hs : List Handling) (old new : Publishing) → MeetInTurn PublishesNext from hs old new → Grew (published hs) old new
  all-grew [] old new m = not-grown old new (ap (λ (p : Publishing). p.log) m) (ap (λ (p : Publishing). p.ring) m)
  all-grew (h ∷ hs) old new m =
      let first = one-grew h.frame h.fate old m.0 m.1 in
      let others = all-grew hs m.0 new m.2 in
      record {
        log = others.log ∙ ap (λ (l : List Packet). l ++ published hs) first.log ∙ append_assoc old.log (published_as h.frame h.fate) (published hs);
        ring = others.ring ∙ first.ring;
      }

  pub meet-append : (hs ks : List Handling) (old mid new : Publishing) → MeetInTurn PublishesNext from hs old mid → MeetInTurn PublishesNext from ks mid new → MeetInTurn PublishesNext from (hs ++ ks) old new
  meet-append [] ks old mid new same m = subst (λ (o : Publishing). MeetInTurn PublishesNext from ks o new) same m
  meet-append (h ∷ hs) ks old mid new m n = (m.0, m.1, meet-append hs ks m.0 mid new m.2 n)

  pub met-append : (hs ks : List Handling) (old mid new : Publishing) → MeetFates from hs old mid → MeetFates from ks mid new → MeetFates from (hs ++ ks) old new
  met-append hs ks old mid new p q =
      let room = λ (n : ℕ). HaveFates from n NeverPinned ks in
      record {
        fates = All-append (λ (h : Handling). HasFate from (packet_bytes_of old.ring) NeverPinned h.frame h.fate) hs ks p.fates
            (subst room (ap packet_bytes_of (all-grew hs old mid p.meets).ring) q.fates);
        meets = meet-append hs ks old mid new p.meets q.meets;
      }

  pub met-none : (p : Publishing) → MeetFates from [] p p
  met-none p = record { fates = All-nil _; meets = refl }

  pub met-one : (frame : Frame) (outcome : Fate) (old new : Publishing) → HasFate from (packet_bytes_of old.ring) NeverPinned frame outcome → Meets PublishesNext from frame outcome old new
      → MeetFates from (handling frame outcome ∷ []) old new
  met-one frame outcome old new has meets = record {
    fates = All-cons (λ (h : Handling). HasFate from (packet_bytes_of old.ring) NeverPinned h.frame h.fate) (handling frame outcome) [] has (All-nil _);
    meets = (new, meets, refl);
  }

  -- ---- the frames of a turn so far, `count` of them
  pub record Published {S : Type 0} (of_source : S → Option (List ℕ)) (old now : IntakeState S) (publisher publisher' : Publishing) (seat seat' : Subscribing) (came came' : FrameCounts) (count : ℕ) : Type 0 where
    pub units : List StreamUnit
    pub handed : ((count ≡ 0) × (now ≡ old) × (units ≡ [])) ⊎ HandsOut of_source old now units
    pub handlings : List Handling
    pub frames : frames_among units ≡ frames_of handlings
    pub met : MeetFates from handlings publisher publisher'
    pub learns : LearnsLog publisher.log publisher'.log seat seat'
    pub counts : (before : List Handling) → AreCounted before (counts_of came) → AreCounted (before ++ handlings) (counts_of came')

  module _ {S : Type 0} (of_source : S → Option (List ℕ)) (failed : S → Bool) where
    pub none-published : (old : IntakeState S) (publisher : Publishing) (seat : Subscribing) (came : FrameCounts) → Published of_source old old publisher publisher seat seat came came 0
    none-published old publisher seat came = record {
      units = [];
      handed = inl (refl, refl, refl);
      handlings = [];
      frames = refl;
      met = met-none publisher;
      learns = learns-none publisher.log publisher.log seat seat refl refl;
      counts = λ before counted. subst (λ (hs : List Handling). AreCounted hs (counts_of came)) (sym (append-nil before)) counted;
    }

    plain : (old now : IntakeState S) (units : List StreamUnit) (count : ℕ) → ((count ≡ 0) × (now ≡ old) × (units ≡ [])) ⊎ HandsOut of_source old now units → Handed of_source old now units
    plain old now units count (inl none) = inl (none.1, none.2)
    plain old now units count (inr out) = inr out

    pub publishes-one : (old now new : IntakeState S) (publisher now_publisher publisher' : Publishing) (seat now_seat seat' : Subscribing) (came now_came came' : FrameCounts) (count : ℕ) (frame : Frame) (outcome : Fate)
        → Published of_source old now publisher now_publisher seat now_seat came now_came count
        → Comes of_source failed now new (incoming.Frame frame)
        → HasFate from (packet_bytes_of now_publisher.ring) NeverPinned frame outcome → Meets PublishesNext from frame outcome now_publisher publisher' → LearnsLog now_publisher.log publisher'.log now_seat seat'
        → CountsOne (counts_of now_came) outcome (counts_of came')
        → Published of_source old new publisher publisher' seat seat' came came' (count + 1)
    publishes-one old now new publisher now_publisher publisher' seat now_seat seat' came now_came came' count frame outcome so comes has meets learns counted =
        let one = handling frame outcome in
        record {
          units = so.units ++ comes.units;
          handed = inr (handed-more of_source old now new so.units comes.units (plain old now so.units count so.handed) comes.hands_out);
          handlings = so.handlings ++ one ∷ [];
          frames =
              frames-append so.units comes.units ∙ ap (λ (l : List Frame). l ++ frames_among comes.units) so.frames ∙ ap (λ (l : List Frame). frames_of so.handlings ++ l) comes.frames
              ∙ sym (map-append (λ (h : Handling). h.frame) so.handlings (one ∷ []));
          met = met-append so.handlings (one ∷ []) publisher now_publisher publisher' so.met (met-one frame outcome now_publisher publisher' has meets);
          learns = learns-trans publisher.log now_publisher.log publisher'.log seat now_seat seat' so.learns learns;
          counts = λ before first.
              subst (λ (hs : List Handling). AreCounted hs (counts_of came')) (append_assoc before so.handlings (one ∷ []))
              (counts_more (before ++ so.handlings) frame outcome (counts_of now_came) (counts_of came') (so.counts before first) counted);
        }

    -- the stream has ended
    pub publishes-last : (old now new : IntakeState S) (publisher publisher' : Publishing) (seat seat' : Subscribing) (came came' : FrameCounts) (count : ℕ)
        → Published of_source old now publisher publisher' seat seat' came came' count → (came_last : Incoming) → frames_of_incoming came_last ≡ [] → Comes of_source failed now new came_last
        → Publishes of_source from old new publisher publisher' seat seat' came came'
    publishes-last old now new publisher publisher' seat seat' came came' count so last none comes = record {
      units = so.units ++ comes.units;
      hands_out = handed-more of_source old now new so.units comes.units (plain old now so.units count so.handed) comes.hands_out;
      handlings = so.handlings;
      frames =
          frames-append so.units comes.units ∙ ap (λ (l : List Frame). l ++ frames_among comes.units) so.frames ∙ ap (λ (l : List Frame). frames_of so.handlings ++ l) (comes.frames ∙ none)
          ∙ append-nil (frames_of so.handlings);
      met = so.met;
      learns = so.learns;
      counts = so.counts;
    }

published-most : (frame : Frame) (outcome : Fate) → length (published_as frame outcome) ≤ 1
published-most frame (fate.Published tag) = omega arith
published-most frame fate.Pinned = omega arith
published-most frame fate.Oversize = omega arith
published-most frame fate.Worn = omega arith
published-most frame fate.Unkept = omega arith
published-most frame fate.BadRtp = omega arith
published-most frame fate.Stranger = omega arith

-- a frame adds at most one packet
pub one-longer : (from : List (Option ChannelPair)) (frame : Frame) (outcome : Fate) (old new : Publishing) → Meets PublishesNext from frame outcome old new → length new.log ≤ length old.log + 1
one-longer from frame outcome old new m =
    omega (arith, ap length (one-grew from frame outcome old new m).log, length-append old.log (published_as frame outcome), published-most frame outcome)
