-- Only ANNOUNCE begins a mount, and then with its ring.
use Rattle.std.proofs.Common.{◌≡◌, ℕ, Bool, true, false, if◌then◌else◌, ◌∷◌, inl, inr, Option, None, Some, IsSomeAnd, refl, sym, ap, subst}
use Rattle.std.specs.Prelude.{unwrap_or}
use Rattle.rtsp_message.specs.declared.request.Request as messages
use Rattle.rtsp_message.specs.declared.reply.Reply.{Reply}
use Rattle.session_state.specs.declared.act.Act.{Act}
use Rattle.session_state.specs.declared.act.Act.TheVariants as acts
use Rattle.session_state.specs.declared.entry.Entry.TheVariants as entries
use Rattle.session_state.specs.declared.given.Given.{Given}
use Rattle.session_state.specs.declared.method.Method.{Method}
use Rattle.session_state.specs.declared.method.Method.TheVariants as methods
use Rattle.session_state.specs.declared.session.Session.{Session}
use Rattle.session_state.specs.declared.session.State.{State}
use Rattle.session_state.specs.declared.session.State.TheVariants.{Ready, Playing, Recording}
use Rattle.session_state.specs.Checks.{Asked, state_in}
use Rattle.session_state.specs.History.{History}
use Rattle.session_state.specs.Legal.{IsAnswered, IsExpiry, IsReplyOf}
use Rattle.session_state.specs.Methods.{method_of}
use Rattle.session_state.specs.Replies.{IsAccepted, IsPlayAct, pause_act, record_act, stop_in, teardown_act}
use Rattle.packet_ring.specs.Views.{Passing, Publishing}
use Rattle.relay_talk.specs.Exchange.{IsExpired, IsSettled, heard_at}
use Rattle.relay_talk.specs.Publishing.{ActsOn, ExpiresPublishing, IsNewRing, publishing_after}
use Rattle.relay_talk.specs.Seat.{SeatAfterExpiry, seat_after}

abbrev opens : Act → Bool
opens acts.Open = true
opens act = false

not_open : (act other : Act) → act ≡ other → opens other ≡ false → opens act ≡ true → ⊥
not_open act other is none begins = let same = ap opens is in absurd (cc)

records : (state : Option State) → opens (record_act state) ≡ false
records None = refl
records (Some Ready) = refl
records (Some (Playing seat)) = refl
records (Some Recording) = refl

stops : (mount : ℕ) (state : State) → opens (stop_in mount state) ≡ false
stops mount Ready = refl
stops mount (Playing seat) = refl
stops mount Recording = refl

pauses : (session : Option Session) → opens (pause_act session) ≡ false
pauses None = refl
pauses (Some session) = stops session.mount session.state

tears_down : (session : Option Session) → opens (teardown_act session) ≡ false
tears_down None = refl
tears_down (Some session) = by session.recording
  where
    by : (recording : Bool) → opens (if recording then acts.End else pause_act (Some session)) ≡ false
    by true = refl
    by false = pauses (Some session)

plays : (asked : Asked) (mount : ℕ) (state : State) (act : Act) → IsPlayAct asked mount state act → opens act ≡ true → ⊥
plays asked mount Ready act (seat, few, free, is) begins = not_open act (acts.Play mount seat) is refl begins
plays asked mount (Playing seat) act is begins = not_open act acts.None is refl begins
plays asked mount Recording act is begins = not_open act acts.None is refl begins

accepted : (asked : Asked) (method : Method) (given : Given) (reply : Reply) (act : Act) → IsAccepted asked method given reply act → opens act ≡ true → method ≡ methods.Announce
accepted asked methods.Options given reply act is begins = absurd (not_open act acts.None is.1 refl begins)
accepted asked methods.GetParameter given reply act is begins = absurd (not_open act acts.None is.1 refl begins)
accepted asked methods.Describe given reply act is begins = absurd (not_open act acts.None is.1 refl begins)
accepted asked methods.Announce given reply act is begins = refl
accepted asked methods.Setup given reply act is begins = absurd (not_open act acts.None is.1 refl begins)
accepted asked methods.Play given reply act is begins = absurd (plays asked is.session.mount is.session.state act is.does begins)
accepted asked methods.Record given reply act is begins = absurd (not_open act (record_act (state_in asked.session)) is.1 (records (state_in asked.session)) begins)
accepted asked methods.Pause given reply act is begins = absurd (not_open act (pause_act asked.session) is.1 (pauses asked.session) begins)
accepted asked methods.Teardown given reply act is begins = absurd (not_open act (teardown_act asked.session) is.1 (tears_down asked.session) begins)

answered : (asked : Asked) (given : Given) (reply : Reply) (act : Act) → IsAnswered asked given reply act → opens act ≡ true → method_of asked.request.method ≡ Some methods.Announce
answered asked given reply act (inl (check, fails, is, none)) begins = absurd (not_open act acts.None none refl begins)
answered asked given reply act (inr (method, named, passes, is)) begins = let same = ap (λ (m : Method). Some m) (accepted asked method given reply act is begins) in cc

pub opens_by_announce : (seats : ℕ) (history : History) (conn : ℕ) (request : messages.Request) (given : Given) (reply : Reply) → IsReplyOf seats history conn request given reply acts.Open
    → method_of request.method ≡ Some methods.Announce
opens_by_announce seats history conn request given reply is =
    answered (record { seats = seats; history = history; conn = conn; request = request; mounts = is.mounts; session = is.session }) given reply acts.Open is.answered refl

-- no mount begins where a session expires
pub expiry_opens_none : (seats : ℕ) (history : History) (conn heard now : ℕ) (act : Act) → IsExpiry seats history conn heard now act → act ≡ acts.Open → ⊥
expiry_opens_none seats history conn heard now act is begins = not_open act (teardown_act (Some is.session)) is.does (tears_down (Some is.session)) (ap opens begins)

-- what is published after an act is what the act does
pub acts_on : (act : Act) (offered old new : Option Publishing) → (act ≡ acts.Open → IsSomeAnd offered IsNewRing) → new ≡ publishing_after act offered old → ActsOn act old new
acts_on acts.Open offered old new ring is = subst (λ (o : Option Publishing). IsSomeAnd o IsNewRing) (sym is) (ring refl)
acts_on acts.End offered old new ring is = is
acts_on acts.None offered old new ring is = is
acts_on acts.Record offered old new ring is = is
acts_on (acts.Play mount seat) offered old new ring is = is
acts_on (acts.Stop mount seat) offered old new ring is = is

-- when a connection was last heard, as the code reckons it
pub heard_is : (last : Option ℕ) (now : ℕ) → unwrap_or last now ≡ heard_at last now
heard_is None now = refl
heard_is (Some moment) now = refl

module _ (seats : ℕ) (history : History) (last : Option ℕ) (heard now : ℕ) (one : seats ≡ 1) (is : heard ≡ heard_at last now) where
  -- a session that has expired
  pub has_expired : (after : History) (act : Act) → IsExpiry seats history 1 heard now act → IsSettled act (entries.Expire 1 heard now act ∷ history) after → IsExpired history (heard_at last now) now after
  has_expired after act expiry settled =
      subst (λ (h : ℕ). IsExpired history h now after) is (inl (act, subst (λ (s : ℕ). IsExpiry s history 1 heard now act) one expiry, settled))

  -- what it published
  pub has_ended : (act : Act) (old new : Option Publishing) → IsExpiry seats history 1 heard now act → new ≡ publishing_after act None old → ExpiresPublishing history (heard_at last now) now old new
  has_ended act old new expiry after =
      subst (λ (h : ℕ). ExpiresPublishing history h now old new) is
      (inl (
        act,
        subst (λ (s : ℕ). IsExpiry s history 1 heard now act) one expiry,
        acts_on act None old new (λ begins. absurd (expiry_opens_none seats history 1 heard now act expiry begins)) after,
      ))

  -- the seat that it played from
  pub has_left : (act : Act) (old new : Option Passing) → IsExpiry seats history 1 heard now act → new ≡ seat_after act None old → SeatAfterExpiry history (heard_at last now) now old new
  has_left act old new expiry after =
      subst (λ (h : ℕ). SeatAfterExpiry history h now old new) is (inl (act, subst (λ (s : ℕ). IsExpiry s history 1 heard now act) one expiry, after))

  module _ (none : (act : Act) → IsExpiry seats history 1 heard now act → ⊥) where
    -- none that has expired
    pub lives_on : (act : Act) → IsExpiry 1 history 1 (heard_at last now) now act → ⊥
    lives_on act expiry =
        none act
        (subst (λ (s : ℕ). IsExpiry s history 1 heard now act) (sym one) (subst (λ (h : ℕ). IsExpiry 1 history 1 h now act) (sym is) expiry))
