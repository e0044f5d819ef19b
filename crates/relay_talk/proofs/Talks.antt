-- A talk so far, and how it ends.
use Rattle.std.proofs.Common.{◌≡◌, ℕ, ◌+◌, ◌<◌, Bool, true, List, [], ◌∷◌, ◌++◌, ◌⊎◌, inl, inr, Option, None, length, take, refl, sym, ap, subst, arith, append_assoc, append-nil, length-append}
use Rattle.std.specs.Io.KnownBytes.{Appends}
use Rattle.std.proofs.KnownBytes.{Appends-trans, Appends-nil, Consumes-nil}
use Rattle.std.proofs.Math.Seq.{take-append-add}
use Rattle.rtsp_message.specs.declared.request.Request.{Request}
use Rattle.rtsp_message.specs.declared.unit.Unit.{Unit as StreamUnit}
use Rattle.rtsp_message.specs.declared.unit.Unit.TheVariants.{Message}
use Rattle.rtsp_message.specs.declared.peer.Peer.TheVariants.{Client}
use Rattle.rtsp_message.specs.Stream.{Fails, Waits, Reads}
use Rattle.rtsp_message.specs.Intakes.{IntakeState, HandsOut, fresh, handed}
use Rattle.rtsp_message.proofs.Compose.{nothing_reads}
use Rattle.rtsp_message.proofs.HandingOut.{HandsOut-trans}
use Rattle.session_state.specs.declared.given.Given.{Given}
use Rattle.publisher.specs.declared.report.InStop.{InStop}
use Rattle.publisher.specs.declared.report.InStop.TheVariants as stops
use Rattle.publisher.specs.FramesIn.{answer_of}
use Rattle.relay_talk.specs.declared.talker.Talker.{Talker}
use Rattle.relay_talk.specs.declared.talk.TalkEnd.{TalkEnd}
use Rattle.relay_talk.specs.declared.talk.TalkEnd.TheVariants as ends
use Rattle.relay_talk.specs.Exchange.{AreAnswers, AreDrawn, Standing, beginning, opening, standing_of}
use Rattle.relay_talk.specs.Publishing.{units_of}
use Rattle.relay_talk.specs.Taking.{EndsWith, MayClose, TakesAll, TakesIn, TakesMessage, TakesStretch, TakesWith, TalkState, TalksOn, past_frames}
use Rattle.relay_talk.specs.Talk.{closing_of, refusal, IsRefused, Talk, IsTalk, Talks}
use Rattle.relay_talk.proofs.Exchanges.{AreDrawn-append, answers_open, opening_legal, opens_itself, stands_so}
use Rattle.relay_talk.proofs.Taking.{frames_more, message_more, takes_answers}

-- the state after a stretch, by its parts
passes : {R : Type 0} {incoming : R → Option (List ℕ)} {failed : R → Bool} {intake new : IntakeState R} {stop : InStop} (state now : TalkState) → now.standing.history ≡ state.standing.history
    → (p : TakesStretch incoming failed state.standing.history intake new state.standing.heard now.standing.heard state.publishing now.publishing stop)
    → past_frames p.fetches.frames now.publishing state ≡ now
passes state now same p =
    ap (λ (s : Standing). let t : TalkState = record { standing = s; publishing = now.publishing } in t)
    (stands_so p.fetches.frames state.standing now.standing.history now.standing.heard same p.fetches.heard_is)

-- a talker that came and heard nothing
pub stands_at_first : (talker : Talker) → talker.book.history ≡ opening → talker.heard ≡ None → standing_of talker ≡ beginning
stands_at_first talker opens unheard = cc

module _ {R D : Type 0} (incoming : R → Option (List ℕ)) (gives : D → Given → D → Type 0) where
  -- These units were taken, and what is handed out next comes after them.
  pub record Taken (old : IntakeState R) (first : D) (from : TalkState) (intake : IntakeState R) (drawn : D) (state : TalkState) (text : List ℕ) : Type 0 where
    pub units : List StreamUnit
    pub given : List Given
    pub then : (new : IntakeState R) (us : List StreamUnit) → HandsOut incoming intake new us → HandsOut incoming old new (units ++ us)
    pub are_drawn : AreDrawn gives first given drawn
    pub takes : TakesAll from units given state text

  pub nothing_taken : (old : IntakeState R) (first : D) (from : TalkState) → Taken old first from old first from []
  nothing_taken old first from = record { units = []; given = []; then = λ new us out. out; are_drawn = refl; takes = (refl, refl, refl) }

  module _ (failed : R → Bool) (old : IntakeState R) (first : D) (from : TalkState) (intake new : IntakeState R) (drawn : D) (state now : TalkState) (text : List ℕ)
      (p : Taken old first from intake drawn state text) (same : now.standing.history ≡ state.standing.history) where
    -- a stretch that no message ends
    pub frames_in : (stop : InStop) → handed (answer_of stop) ≡ [] → TakesStretch incoming failed state.standing.history intake new state.standing.heard now.standing.heard state.publishing now.publishing stop
        → TakesIn incoming gives old new first drawn from now text
    frames_in stop none stretch = record {
      units = p.units ++ (units_of stretch.fetches.frames ++ []);
      given = p.given;
      hands_out = p.then new (units_of stretch.fetches.frames ++ []) (subst (λ (l : List StreamUnit). HandsOut incoming intake new (units_of stretch.fetches.frames ++ l)) none stretch.fetches.hands_out);
      are_drawn = p.are_drawn;
      takes = subst (λ (s : TalkState). TakesAll from (p.units ++ (units_of stretch.fetches.frames ++ [])) p.given s text) (passes state now same stretch)
          (frames_more from p.units p.given state text stretch.fetches.frames now.publishing p.takes stretch.takes);
    }

    module _ (request : Request) (then : D) (after : TalkState) (more : List ℕ)
        (stretch : TakesStretch incoming failed state.standing.history intake new state.standing.heard now.standing.heard state.publishing now.publishing (stops.Message request))
        (takes : TakesWith gives drawn then now request after more) where
      drawn_more : AreDrawn gives first (p.given ++ takes.0 ∷ []) then
      drawn_more = AreDrawn-append gives first drawn then p.given (takes.0 ∷ []) p.are_drawn (then, takes.1, refl)

      takes_more : TakesAll from (p.units ++ (units_of stretch.fetches.frames ++ Message request ∷ [])) (p.given ++ takes.0 ∷ []) after (text ++ more)
      takes_more =
          message_more from p.units p.given state text stretch.fetches.frames now.publishing request takes.0 after more p.takes stretch.takes
          (subst (λ (s : TalkState). TakesMessage s request takes.0 after more) (sym (passes state now same stretch)) takes.2)

      -- a stretch that a message ends
      pub message_in : TakesIn incoming gives old new first then from after (text ++ more)
      message_in = record {
        units = p.units ++ (units_of stretch.fetches.frames ++ Message request ∷ []);
        given = p.given ++ takes.0 ∷ [];
        hands_out = p.then new (units_of stretch.fetches.frames ++ Message request ∷ []) stretch.fetches.hands_out;
        are_drawn = drawn_more;
        takes = takes_more;
      }

      -- the same, after which more may come
      pub message_taken : Taken old first from new then after (text ++ more)
      message_taken = record {
        units = p.units ++ (units_of stretch.fetches.frames ++ Message request ∷ []);
        given = p.given ++ takes.0 ∷ [];
        then = λ last us out.
            let front = units_of stretch.fetches.frames ++ Message request ∷ [] in
            subst (HandsOut incoming old last) (sym (append_assoc p.units front us)) (p.then last (front ++ us) (HandsOut-trans incoming intake new last front us stretch.fetches.hands_out out));
        are_drawn = drawn_more;
        takes = takes_more;
      }

module _ {R W D : Type 0} (incoming : R → Option (List ℕ)) (written : W → Option (List ℕ)) (gives : D → Given → D → Type 0) where
  -- the talk so far: what was taken, and the answers that were written
  pub record SoFar (old : IntakeState R) (begin : W) (first : D) (from : TalkState) (intake : IntakeState R) (now : W) (drawn : D) (state : TalkState) : Type 0 where
    pub text : List ℕ
    pub taken : Taken incoming gives old first from intake drawn state text
    pub wrote : Appends (written begin) (written now) text

  pub nothing_so_far : (old : IntakeState R) (begin : W) (first : D) (from : TalkState) → SoFar old begin first from old begin first from
  nothing_so_far old begin first from = record { text = []; taken = nothing_taken incoming gives old first from; wrote = Appends-nil (written begin) }

module _ {W : Type 0} (written : W → Option (List ℕ)) where
  -- a text that was cut off in the middle of what was due
  pub cut_off : (old now after : W) (front due : List ℕ) (k : ℕ) → k < length due → Appends (written old) (written now) front → Appends (written now) (written after) (take k due)
      → (n : ℕ) × (n < length (front ++ due)) × Appends (written old) (written after) (take n (front ++ due))
  cut_off old now after front due k less wrote part = (
    length front + k,
    omega (arith, less, length-append front due),
    subst (Appends (written old) (written after)) (sym (take-append-add front due k)) (Appends-trans (written old) (written now) (written after) front (take k due) wrote part),
  )

  IsCut : W → W → List ℕ → Type 0
  IsCut old after whole = (n : ℕ) × (n < length whole) × Appends (written old) (written after) (take n whole)

  -- cut off in the last answer, which nothing closes
  pub cut_answer : (old now after : W) (front due : List ℕ) (k : ℕ) → k < length due → Appends (written old) (written now) front → Appends (written now) (written after) (take k due)
      → (n : ℕ) × (n < length (front ++ due ++ [])) × Appends (written old) (written after) (take n (front ++ due ++ []))
  unfolding IsCut
  cut_answer old now after front due k less wrote part = subst (IsCut old after) (sym (append-nil (front ++ due))) (cut_off old now after front due k less wrote part)

module _ {R W D : Type 0} (incoming : R → Option (List ℕ)) (read_failed : R → Bool) (written : W → Option (List ℕ)) (write_failed : W → Bool) (gives : D → Given → D → Type 0) where
  module _ (reader : R) (first : D) (new : IntakeState R) (drawn : D) (before after : TalkState) (begins : before.standing ≡ beginning) (text : List ℕ) (p : TakesIn incoming gives (fresh reader) new first drawn before after text) where
    -- the talk in which these units were handed out, this answers them, and this closes it
    talk_of : (closing : List ℕ) → Talk
    talk_of closing = record {
      read = p.hands_out.read;
      taken = p.hands_out.taken;
      held = new.held;
      units = p.units;
      unanswered = new.queue;
      ending = new.reading;
      given = p.given;
      standing = after.standing;
      answers = text;
      closing = closing;
    }

    are_answers : AreAnswers beginning p.units p.given after.standing text
    are_answers = subst (λ (s : Standing). AreAnswers s p.units p.given after.standing text) begins (takes_answers before p.units p.given after text p.takes)

    is_talk : (closing : List ℕ) → MayClose new closing → IsTalk incoming gives reader new.source first drawn (talk_of closing)
    unfolding talk_of
    is_talk closing closes = record {
      consumed = p.hands_out.given;
      parts = p.hands_out.kept;
      reads = subst (λ (l : List StreamUnit). Reads p.hands_out.taken l new.reading) p.hands_out.order p.hands_out.reads;
      are_drawn = p.are_drawn;
      are_answers = are_answers;
      legal = (answers_open beginning.history beginning p.units p.given after.standing text are_answers (opens_itself beginning.history refl)).legal opening_legal;
      closing_is = told closes;
    }
      where
        told : MayClose new closing → (closing ≡ []) ⊎ ((new.queue ≡ []) × ((closing ≡ closing_of new.reading) ⊎ ((closing ≡ refusal) × IsRefused p.hands_out.read new.held)))
        told (inl none) = inl none
        told (inr (empty, inl closing_is)) = inr (empty, inl closing_is)
        told (inr (empty, inr (is_refusal, holds))) = inr (empty, inr (is_refusal, inl holds))

    -- how it ended
    talks_so : (old last : W) (end : TalkEnd) → EndsWith incoming read_failed written write_failed new text old last end
        → Talks incoming read_failed written write_failed gives reader new.source first drawn old last end
    unfolding talk_of
    talks_so old last ends.Done (wrote, (drained, at_end)) = (
      talk_of [],
      is_talk [] (inl refl),
      ((drained.0, subst (Appends (written old) (written last)) (sym (append-nil text)) wrote), drained.2, refl, drained.1, at_end),
    )
    talks_so old last (ends.StreamFault fault) (wrote, (empty, fails)) =
        let closes = ap closing_of (sym fails) in (talk_of (closing_of (Fails fault)), is_talk (closing_of (Fails fault)) (inr (empty, inl closes)), ((empty, wrote), fails, closes))
    talks_so old last ends.ReadFailed (wrote, (drained, failed)) = (
      talk_of [],
      is_talk [] (inl refl),
      ((drained.0, subst (Appends (written old) (written last)) (sym (append-nil text)) wrote), drained.2, refl, drained.1, failed),
    )
    talks_so old last ends.OutOfMemory (wrote, (empty, waits, holds)) = (talk_of refusal, is_talk refusal (inr (empty, inr (refl, holds))), ((empty, wrote), waits, refl, inl holds))
    talks_so old last ends.WriteFailed (failed, closing, may, n, less, part) = (talk_of closing, is_talk closing may, (failed, n, less, part))

  -- a talk from its beginning
  pub talks_of : (reader : R) (old new : IntakeState R) (first drawn : D) (before after : TalkState) (begin last : W) (end : TalkEnd) → old ≡ fresh reader → before.standing ≡ beginning
      → TalksOn incoming read_failed written write_failed gives old new first drawn before after begin last end → Talks incoming read_failed written write_failed gives reader new.source first drawn begin last end
  talks_of reader old new first drawn before after begin last end is_fresh begins on =
      let x : (text : List ℕ) × TakesIn incoming gives (fresh reader) new first drawn before after text × EndsWith incoming read_failed written write_failed new text begin last end =
      subst (λ (i : IntakeState R). TalksOn incoming read_failed written write_failed gives i new first drawn before after begin last end) is_fresh on in
      talks_so reader first new drawn before after begins x.0 x.1 begin last end x.2

  -- the talk of a connection that can't come: nothing was read
  at_once : Talk
  at_once = record {
    read = [];
    taken = [];
    held = [];
    units = [];
    unanswered = [];
    ending = Waits [];
    given = [];
    standing = beginning;
    answers = [];
    closing = refusal;
  }

  is_at_once : (reader : R) (first : D) → IsTalk incoming gives reader reader first first at_once
  unfolding at_once
  is_at_once reader first = record {
    consumed = Consumes-nil (incoming reader);
    parts = refl;
    reads = nothing_reads Client;
    are_drawn = refl;
    are_answers = (refl, refl, refl);
    legal = opening_legal;
    closing_is = inr (refl, inr (refl, inr refl));
  }

  pub refused_at_once : (reader : R) (old after : W) (first : D) → Appends (written old) (written after) refusal
      → Talks incoming read_failed written write_failed gives reader reader first first old after ends.OutOfMemory
  unfolding at_once
  refused_at_once reader old after first wrote = (at_once, is_at_once reader first, ((refl, wrote), refl, refl, inr refl))

  pub refused_in_part : (reader : R) (old after : W) (first : D) (k : ℕ) → k < length refusal → Appends (written old) (written after) (take k refusal) → write_failed after ≡ true
      → Talks incoming read_failed written write_failed gives reader reader first first old after ends.WriteFailed
  unfolding at_once
  refused_in_part reader old after first k less part failed = (at_once, is_at_once reader first, (failed, k, less, part))
