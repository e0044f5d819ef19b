-- What success of a request to the target leads to.
use Rattle.std.proofs.Common.{◌≡◌, refl, sym, ap, subst, ℕ, arith, add-one, inl, inr, Bool, true, false, if◌then◌else◌, nat_lt, List, Option, Some, None, IsSome, Result, Ok, Err, ◌+◌, ◌<◌, ◌∙◌}
use Rattle.std.specs.Prelude.{option_map}
use Rattle.std.proofs.lemmas.Bool.{ltb-false}
use Rattle.rtsp_client.specs.Clients.{State, asked_pair, session_at, waiting_at}
use Rattle.rtsp_client.specs.Connections.{open_fault, opened_on}
use Rattle.rtsp_client.specs.Keepalives.{by_options}
use Rattle.rtsp_client.specs.Passages.{with_pair}
use Rattle.rtsp_client.specs.Replies.{IsNext, StepIsDone}
use Rattle.rtsp_client.specs.ReplyChannels.{pair_by}
use Rattle.rtsp_client.specs.SettingUp.{IsEnd, SetsChannels, SetsPair, SetsUpAfter, opened_at}
use Rattle.rtsp_client.specs.Steps.{FitsStep, Place, asked_at, behind_target, done_at, done_from, place_in, track_in}
use Rattle.rtsp_client.specs.TargetCourse.{AreInOrder, Asking, IsCourse, SettingUp, Stage}
use Rattle.transport_header.specs.declared.spec.ChannelPair.{ChannelPair}
use Rattle.rtsp_client.specs.declared.asked.Asked.{Asked}
use Rattle.rtsp_client.specs.declared.asked.Asked.TheVariants as asks
use Rattle.rtsp_client.specs.declared.asked.Side.{Side}
use Rattle.rtsp_client.specs.declared.asked.Side.TheVariants.{Source, Target}
use Rattle.rtsp_client.specs.declared.awaits.Awaits.{Awaits}
use Rattle.rtsp_client.specs.declared.awaits.Awaits.TheVariants as waits
use Rattle.rtsp_client.specs.declared.connection.Connection.{Connection}
use Rattle.rtsp_client.specs.declared.end.End.{End}
use Rattle.rtsp_client.specs.declared.end.End.TheVariants as ends
use Rattle.rtsp_client.specs.declared.keepalive.Keepalive.{Keepalive}
use Rattle.rtsp_client.specs.declared.opened.Opened.{Opened}
use Rattle.rtsp_client.specs.declared.opened.SessionFault.{SessionFault}
use Rattle.rtsp_client.specs.declared.passage.Passage.{Passage}
use Rattle.rtsp_client.specs.declared.reply_channels.ChannelFault.{ChannelFault}
use Rattle.rtsp_client.specs.declared.reply_channels.ChannelFault.TheVariants.{OfAnotherTrack}
use Rattle.rtsp_client.specs.declared.reply_facts.ReplyFacts.{ReplyFacts}
use Rattle.rtsp_client.specs.declared.requests.Outstanding.{Outstanding}
use Rattle.rtsp_client.specs.declared.requests.Requests.{Requests}
use Rattle.rtsp_client.specs.declared.step.Step.{Step}
use Rattle.rtsp_client.specs.declared.step.Step.TheVariants as steps
use Rattle.rtsp_client.specs.declared.turn.Turn.{Turn}
use Rattle.rtsp_client.proofs.TargetStages.{AwaitsAt, Fits, Heard, Held, Keeps, OfSource, OpenAt, OpenFor, WaitsAt, course_order, ended, held, stage_after, stage_at}

-- a session that is opened stays
opens_on : (already : Option (List ℕ)) (session : Result Opened SessionFault) (side : Side) (has : Bool) (now : ℕ) (c : Connection) → c.session ≡ already → (o : List ℕ) → c.session ≡ Some o → (opened_on already session side has now c).session ≡ Some o
opens_on (Some id) session side has now c is o h = h
opens_on None (Ok opened) side has now c is o h = absurd (cc)
opens_on None (Err fault) side has now c is o h = absurd (cc)

pub opened_requests : (already : Option (List ℕ)) (session : Result Opened SessionFault) (side : Side) (has : Bool) (now : ℕ) (c : Connection) → (opened_on already session side has now c).requests ≡ c.requests
opened_requests (Some id) session side has now c = refl
opened_requests None (Ok opened) side has now c = refl
opened_requests None (Err fault) side has now c = refl

-- without a fault it is open
is_opened : (already : Option (List ℕ)) (session : Result Opened SessionFault) (side : Side) (has : Bool) (now : ℕ) (c : Connection) → c.session ≡ already → open_fault already session ≡ None
    → IsSome (opened_on already session side has now c).session
is_opened (Some id) session side has now c is sound = subst (λ (o : Option (List ℕ)). IsSome o) (sym is) refl
is_opened None (Ok opened) side has now c is sound = refl
is_opened None (Err fault) side has now c is sound = absurd (cc)

keeps_opened : (already : Option (List ℕ)) (session : Result Opened SessionFault) (has : Bool) (now : ℕ) (c : Connection) → c.session ≡ already → Keeps c.session c.keepalive
    → Keeps (opened_on already session Target has now c).session (opened_on already session Target has now c).keepalive
keeps_opened (Some id) session has now c is h = h
keeps_opened None (Ok opened) has now c is h = refl
keeps_opened None (Err fault) has now c is h = h

pub kept_options : (session : Option (List ℕ)) (keepalive : Option Keepalive) → Keeps session keepalive → Keeps session (option_map by_options keepalive)
kept_options None None h = refl
kept_options None (Some keepalive) h = absurd (cc)
kept_options (Some id) None h = refl
kept_options (Some id) (Some keepalive) h = refl

-- the step after a track
behind_open : (track kept : ℕ) (session : Option (List ℕ)) → IsSome session → OpenAt (behind_target track kept) session
behind_open track kept session opens = go (nat_lt (track + 1) kept) where
  go : (b : Bool) → OpenAt (if b then steps.SetUpTarget (track + 1) else steps.Record) session
  go true = subst (λ (n : ℕ). OpenFor n session) (sym (add-one track)) opens
  go false = opens

behind_stage : (track kept : ℕ) → track < kept → stage_at (behind_target track kept) kept ≡ SettingUp (track + 1)
behind_stage track kept few = go (nat_lt (track + 1) kept) refl where
  go : (b : Bool) → nat_lt (track + 1) kept ≡ b → stage_at (if b then steps.SetUpTarget (track + 1) else steps.Record) kept ≡ SettingUp (track + 1)
  go true e = refl
  go false e = let most = ltb-false (track + 1) kept e in let all : kept ≡ track + 1 = omega (arith, most, few) in ap (λ (n : ℕ). SettingUp n) all

behind_heard : (H : Bool → Type 0) (track kept : ℕ) → H true → Heard H (behind_target track kept)
behind_heard H track kept h = go (nat_lt (track + 1) kept) where
  go : (b : Bool) → Heard H (if b then steps.SetUpTarget (track + 1) else steps.Record)
  go true = h
  go false = h

awaits_on : (awaits : Awaits) (step next : Step) (waiting : Option Outstanding) → (step ≡ steps.Describe → ⊥) → AwaitsAt awaits step waiting → AwaitsAt awaits next waiting
awaits_on waits.Nothing step next waiting other h = tt
awaits_on waits.Description step next waiting other h = tt
awaits_on waits.Connection step next waiting other h = absurd (other h.0)
awaits_on (waits.Password asked) step next waiting other h = h
awaits_on (waits.Again asked) step next waiting other h = h

target_step : (step : Step) (asked : Asked) → asked_at Target step ≡ Some asked → step ≡ steps.Describe → ⊥
target_step step asked at is = let none : asked_at Target steps.Describe ≡ Some asked = subst (λ (st : Step). asked_at Target st ≡ Some asked) is at in cc

-- a client whose target said that what its step asked for is done
pub record Answered (I : Bool → Type 0) (askings : List Asking) (s : State) : Type 0 where
  pub source : OfSource (waiting_at Source s)
  pub awaits : AwaitsAt s.awaits s.place.step (waiting_at Source s)
  pub keeps : Keeps (session_at Target s) s.target.keepalive
  pub free : waiting_at Target s ≡ None
  pub stage : Stage
  pub stage_is : stage ≡ stage_after s.place.step s.place.kept
  pub course : (id : List ℕ) → Fits (session_at Target s) id → IsCourse s.place.kept id askings stage
  pub heard : I true
  pub begun : (open_id : List ℕ) → session_at Target s ≡ Some open_id → I false

module _ (I : Bool → Type 0) (askings : List Asking) where
  -- the next step is due
  advance : (s : State) (step : Step) (passage : Passage) → Answered I askings s → (s.place.step ≡ steps.Describe → ⊥) → stage_after s.place.step s.place.kept ≡ stage_at step s.place.kept
      → OpenAt step (session_at Target s) → Heard I step → Held I askings (record s { place = record s.place { step = step }; passage = passage })
  advance s step passage a other on opened heard = held I askings (record s { place = record s.place { step = step }; passage = passage }) (record {
    source = a.source;
    awaits = awaits_on s.awaits s.place.step step (waiting_at Source s) other a.awaits;
    keeps = a.keeps;
    target = inl (record {
      stage = a.stage;
      waits = subst (λ (w : Option Outstanding). WaitsAt step s.place.kept w a.stage) (sym a.free) (a.stage_is ∙ on);
      course = a.course;
      opened = opened;
      heard = λ none. heard;
      begun = a.begun;
    });
  })

  pub by_end : (s new : State) (turn : Turn) (end : End) → AreInOrder askings s → IsEnd end s new turn → Held I askings new
  by_end s new turn end o (is, _) = subst (λ (t : State). Held I askings t) (sym is) (ended I askings end s o)

  -- a track has its channels
  pair_held : (track : ℕ) (pair : ChannelPair) (s new : State) (turn : Turn) → Answered I askings s → s.place.step ≡ steps.SetUpTarget track → track < s.place.kept → IsSome (session_at Target s)
      → SetsPair Target pair s new turn → Held I askings new
  pair_held track pair s new turn a is few opens (inl (may, new_is, _)) =
      let at : done_from s.place ≡ record s.place { step = behind_target track s.place.kept } = ap (λ (st : Step). done_at st s.place) is in
      let passage = with_pair Target (place_in s.place) (track_in s.place.step) pair s.passage in
      let on : stage_after s.place.step s.place.kept ≡ stage_at (behind_target track s.place.kept) s.place.kept =
      ap (λ (st : Step). stage_after st s.place.kept) is ∙ sym (behind_stage track s.place.kept few) in
      let other : s.place.step ≡ steps.Describe → ⊥ = λ describes. let both : steps.SetUpTarget track ≡ steps.Describe = sym is ∙ describes in cc in
      subst (λ (t : State). Held I askings t) (sym new_is)
      (subst (λ (p : Place). Held I askings (record s { place = p; passage = passage })) (sym at)
      (advance s (behind_target track s.place.kept) passage a other on (behind_open track s.place.kept (session_at Target s) opens) (behind_heard I track s.place.kept a.heard)))
  pair_held track pair s new turn a is few opens (inr (may, h)) = by_end s new turn (ends.Channels Target OfAnotherTrack) (course_order askings s a.stage a.course) h

  channels_held : (given : Result ChannelPair ChannelFault) (track : ℕ) (s new : State) (turn : Turn) → Answered I askings s → s.place.step ≡ steps.SetUpTarget track → track < s.place.kept → IsSome (session_at Target s)
      → SetsChannels given Target s new turn → Held I askings new
  channels_held (Ok pair) track s new turn a is few opens h = pair_held track pair s new turn a is few opens h
  channels_held (Err fault) track s new turn a is few opens h = by_end s new turn (ends.Channels Target fault) (course_order askings s a.stage a.course) h

  -- the session that the reply opens
  opened_answered : I false → (facts : ReplyFacts) (now : ℕ) (s : State) → Answered I askings s → Answered I askings (opened_at Target facts.session now s)
  opened_answered begins facts now s a =
      let already = session_at Target s in
      let requests = opened_requests already facts.session Target s.has_get_parameter now s.target in
      record {
        source = a.source;
        awaits = a.awaits;
        keeps = keeps_opened already facts.session s.has_get_parameter now s.target refl a.keeps;
        free = ap (λ (r : Requests). r.outstanding) requests ∙ a.free;
        stage = a.stage;
        stage_is = a.stage_is;
        course = λ id fits. a.course id (λ o h. fits o (opens_on already facts.session Target s.has_get_parameter now s.target refl o h));
        heard = a.heard;
        begun = λ o h. begins;
      }

  session_held : I false → (fault : Option SessionFault) (track : ℕ) (facts : ReplyFacts) (now : ℕ) (s new : State) (turn : Turn) → Answered I askings s → s.place.step ≡ steps.SetUpTarget track → track < s.place.kept
      → open_fault (session_at Target s) facts.session ≡ fault → SetsUpAfter fault Target facts now s new turn → Held I askings new
  session_held begins (Some fault) track facts now s new turn a is few fault_is h =
      let opened = opened_answered begins facts now s a in
      by_end (opened_at Target facts.session now s) new turn (ends.Session Target fault) (course_order askings (opened_at Target facts.session now s) opened.stage opened.course) h
  session_held begins None track facts now s new turn a is few fault_is h =
      channels_held (pair_by facts.channels (asked_pair (track_in s.place.step))) track (opened_at Target facts.session now s) new turn (opened_answered begins facts now s a) is few
      (is_opened (session_at Target s) facts.session Target s.has_get_parameter now s.target refl fault_is) h

  next_held : (s new : State) (step : Step) (turn : Turn) → Answered I askings s → (s.place.step ≡ steps.Describe → ⊥) → done_from s.place ≡ record s.place { step = step }
      → stage_after s.place.step s.place.kept ≡ stage_at step s.place.kept → OpenAt step (session_at Target s) → Heard I step → IsNext s new turn → Held I askings new
  next_held s new step turn a other at on opened heard (is, _) =
      subst (λ (t : State). Held I askings t) (sym is)
      (subst (λ (p : Place). Held I askings (record s { place = p })) (sym at) (advance s step s.passage a other on opened heard))

  pub done_held : (step : Step) (asked : Asked) → (asked ≡ asks.SetUpTarget → I false) → (facts : ReplyFacts) (now : ℕ) (s new : State) (turn : Turn) → s.place.step ≡ step → asked_at Target step ≡ Some asked → FitsStep step s.place.tracks s.place.kept
      → OpenAt step (session_at Target s) → Answered I askings s → StepIsDone step facts now s new turn → Held I askings new
  done_held steps.Options asked begins facts now s new turn is at fit opened a h = absurd (cc)
  done_held steps.Describe asked begins facts now s new turn is at fit opened a h = absurd (cc)
  done_held (steps.SetUp track) asked begins facts now s new turn is at fit opened a h = absurd (cc)
  done_held steps.Announce asked begins facts now s new turn is at fit opened a h =
      next_held s new (steps.SetUpTarget 0) turn a (λ describes. let both : steps.Announce ≡ steps.Describe = sym is ∙ describes in cc) (ap (λ (st : Step). done_at st s.place) is)
      (ap (λ (st : Step). stage_after st s.place.kept) is) opened a.heard h
  done_held (steps.SetUpTarget track) asked begins facts now s new turn is at fit opened a h =
      session_held (begins (cc)) (open_fault (session_at Target s) facts.session) track facts now s new turn a is fit refl h
  done_held steps.Record asked begins facts now s new turn is at fit opened a h =
      next_held s new steps.Play turn a (λ describes. let both : steps.Record ≡ steps.Describe = sym is ∙ describes in cc) (ap (λ (st : Step). done_at st s.place) is)
      (ap (λ (st : Step). stage_after st s.place.kept) is) opened tt h
  done_held steps.Play asked begins facts now s new turn is at fit opened a h = absurd (cc)
  done_held steps.Passing asked begins facts now s new turn is at fit opened a h = absurd (cc)
