-- What a connection's session is after its own accepted request.
use Rattle.std.proofs.Common.{◌≡◌, ◌≢◌, ℕ, zero, suc, ◌+◌, ◌<◌, ◌≤◌, ◌==◌, Bool, true, false, cond, not, List, [], ◌∷◌, length, replicate, slice_set, is_some, inl, inr, Option, None, Some, refl, ap, sym, ◌∙◌, subst, arith, length-set}
use Rattle.std.specs.Option.{option_and_then, option_or}
use Rattle.std.proofs.lemmas.Bool.{eqb-true, eq-eqb}
use Rattle.rtsp_message.specs.declared.request.Request as messages
use Rattle.rtsp_message.specs.declared.reply.Reply.{Reply}
use Rattle.transport_header.specs.declared.chosen.Chosen.{Chosen}
use Rattle.transport_header.specs.declared.spec.ChannelPair.{ChannelPair}
use Rattle.transport_header.specs.Chosen.{transport_text}
use Rattle.transport_header.specs.Tracks.{pair_at}
use Rattle.mounts.specs.declared.mount.Mount.{Mount}
use Rattle.session_state.specs.declared.act.Act.{Act}
use Rattle.session_state.specs.declared.given.Given.{Given}
use Rattle.session_state.specs.declared.entry.Entry.{Entry}
use Rattle.session_state.specs.declared.entry.Entry.TheVariants.{Request}
use Rattle.session_state.specs.declared.method.Method.{Method}
use Rattle.session_state.specs.declared.method.Method.TheVariants as methods
use Rattle.session_state.specs.declared.session.Session.{Session}
use Rattle.session_state.specs.declared.session.State.{State}
use Rattle.session_state.specs.declared.session.State.TheVariants.{Ready}
use Rattle.session_state.specs.Methods.{is_setup, is_teardown, moves}
use Rattle.session_state.specs.History.{History, IsLast, Moment, accepts_from}
use Rattle.session_state.specs.Legal.{IsLegal}
use Rattle.session_state.specs.Lookups.{AreChannels, IsSession, SetUpAt, ToldLast, beginning, has_session, last_seat, session_part, sessions_begun, state_by, state_of}
use Rattle.session_state.specs.Stands.{in_state, with_channels}
use Rattle.session_state.specs.Streams.{AreLive, SetsUp}
use Rattle.session_state.proofs.AcceptedEntries.{IsAcceptedEntry, begins_so, of_own, part_moves}
use Rattle.session_state.proofs.Listed.{one_set_up}
use Rattle.session_state.proofs.Parts.{beginning_on}

-- what the newest request's method leaves
state_on : (conn : ℕ) (method : Method) (here : Moment) (moments : List Moment) → IsAcceptedEntry conn method here.entry → state_of (here ∷ moments) ≡ state_by method (last_seat (here ∷ moments))
state_on conn method here moments is = ap (λ found. option_and_then (λ (one : ℕ × Method). state_by one.1 (last_seat (here ∷ moments))) found) is.is

module _ (seats : ℕ) (history : History) (conn : ℕ) (method : Method) (entry : Entry) (is : IsAcceptedEntry conn method entry) (plain : is_teardown method ≡ false) (moving : moves method ≡ true) where
  abbrev pub here : Moment
  here = record { entry = entry; before = history }

  abbrev pub part : List Moment
  part = session_part conn history

  more : session_part conn (entry ∷ history) ≡ here ∷ part
  more = part_moves conn method entry is history plain moving

  first_stays : (begin : Moment) → beginning conn part ≡ Some begin → beginning conn (session_part conn (entry ∷ history)) ≡ Some begin
  first_stays begin first =
      ap (beginning conn) more ∙ beginning_on conn here part
      ∙ ap (λ found. option_or found (cond (accepts_from conn is_setup entry) (Some here) None)) first

  -- a request that sets no track up puts the session into another state
  pub in_other_state : (session : Session) (state : State) → IsSession seats conn history session → is_setup method ≡ false → state_by method (last_seat (here ∷ part)) ≡ Some state
      → IsSession seats conn (entry ∷ history) (in_state state session)
  in_other_state session state so none leaves = record {
    begin = so.begin;
    first = first_stays so.begin so.first;
    number = so.number;
    word = so.word;
    mount = so.mount;
    track = so.track;
    set_up = so.set_up;
    mount_is = so.mount_is;
    name_is = so.name_is;
    recording = so.recording;
    tracks = so.tracks;
    channels = λ of. subst (λ moments. AreChannels seats conn moments of (pair_at session.channels of)) (sym more) (still of (so.channels of));
    state = ap state_of more ∙ state_on conn method here part is ∙ leaves;
  }
    where
      not_here : (of : ℕ) → (mount : Mount) × SetUpAt seats conn mount of here → ⊥
      not_here of (mount, at) = let sets = at.accepts in let own = of_own conn method entry is is_setup in absurd (cc)

      still : (of : ℕ) → AreChannels seats conn part of (pair_at session.channels of) → AreChannels seats conn (here ∷ part) of (pair_at session.channels of)
      still of (last, earlier, told) = (last, inr (not_here of, earlier), told)

-- what is read where a pair was written, and elsewhere
pair_there : (pairs : List (Option ChannelPair)) (track : ℕ) (pair : ChannelPair) → track < length pairs → pair_at (slice_set pairs track (Some pair)) track ≡ Some pair
pair_there [] track pair low = absurd (omega (arith, low))
pair_there (one ∷ pairs) zero pair low = refl
pair_there (one ∷ pairs) (suc track) pair low = pair_there pairs track pair (omega (arith, low))

pair_elsewhere : (pairs : List (Option ChannelPair)) (track of : ℕ) (pair : ChannelPair) → of ≢ track → pair_at (slice_set pairs track (Some pair)) of ≡ pair_at pairs of
pair_elsewhere [] track of pair other = refl
pair_elsewhere (one ∷ pairs) zero zero pair other = absurd (other refl)
pair_elsewhere (one ∷ pairs) zero (suc of) pair other = refl
pair_elsewhere (one ∷ pairs) (suc track) zero pair other = refl
pair_elsewhere (one ∷ pairs) (suc track) (suc of) pair other = pair_elsewhere pairs track of pair (λ e. other (ap suc e))

no_pair : (count of : ℕ) → pair_at (replicate count None) of ≡ None
no_pair zero of = refl
no_pair (suc count) zero = refl
no_pair (suc count) (suc of) = no_pair count of

-- The reply tells the channels of a pair.
pub record Tells (reply : Reply) (pair : ChannelPair) : Type 0 where
  pub chosen : Chosen
  pub transport : reply.fields.transport ≡ Some (transport_text chosen)
  pub rtp : chosen.rtp ≡ pair.first
  pub rtcp : chosen.rtcp ≡ pair.second

module _ (seats : ℕ) (history : History) (conn : ℕ) (request : messages.Request) (given : Given) (reply : Reply) (act : Act) (legal : IsLegal seats history)
    (is : IsAcceptedEntry conn methods.Setup (Request conn request given reply act)) (mounts : List Mount) (live : AreLive seats history mounts) (mount : Mount) (track : ℕ) (low : track < 16)
    (few : length mount.description.tracks ≤ 16) (sets : SetsUp mounts conn request.uri mount track) (pair : ChannelPair) (tells : Tells reply pair) where
  abbrev pub entry : Entry
  entry = Request conn request given reply act

  abbrev pub at : Moment
  at = record { entry = entry; before = history }

  abbrev pub moments : List Moment
  moments = session_part conn history

  grown : session_part conn (entry ∷ history) ≡ at ∷ moments
  grown = part_moves conn methods.Setup entry is history refl refl

  here_set_up : SetUpAt seats conn mount track at
  here_set_up = record { request = request; given = given; reply = reply; act = act; is = refl; accepts = of_own conn methods.Setup entry is is_setup; mounts = mounts; live = live; sets_up = sets }

  -- the request sets up this track alone
  this_alone : (of : ℕ) → (other : Mount) × SetUpAt seats conn other of at → of ≡ track
  this_alone of (other, up) =
      let both = up.is in
      let uri : up.request ≡ request = cc in
      sym (one_set_up seats history legal mounts up.mounts live up.live conn request.uri mount other track of sets (subst (λ (r : messages.Request). SetsUp up.mounts conn r.uri other of) uri up.sets_up)).1

  channels_after : (before : ℕ → Option ChannelPair) (of : ℕ) (after : Option ChannelPair) → AreChannels seats conn moments of (before of) → (of ≡ track → after ≡ Some pair) → (of ≢ track → after ≡ before of)
      → AreChannels seats conn (session_part conn (entry ∷ history)) of after
  channels_after before of after earlier same other = subst (λ ms. AreChannels seats conn ms of after) (sym grown) (by (of == track) refl)
    where
      by : (is_track : Bool) → (of == track) ≡ is_track → AreChannels seats conn (at ∷ moments) of after
      by true so =
          let of_is = eqb-true of track so in
          (Some at, inl ((mount, subst (λ t. SetUpAt seats conn mount t at) (sym of_is) here_set_up), refl), subst (ToldLast (Some at)) (sym (same of_is)) (tells.chosen, tells.transport, tells.rtp, tells.rtcp))
      by false apart =
          let differs : of ≢ track = λ e. let so = eq-eqb of track e in absurd (cc) in
          (earlier.0, inr ((λ up. differs (this_alone of up)), earlier.1), subst (ToldLast earlier.0) (sym (other differs)) earlier.2)

  -- a SETUP in a session gives a track of it channels
  pub with_new_channels : (session : Session) → IsSession seats conn history session → session.state ≡ Ready → IsSession seats conn (entry ∷ history) (with_channels track pair session)
  with_new_channels session so ready = record {
    begin = so.begin;
    first = first_stays seats history conn methods.Setup entry is refl refl so.begin so.first;
    number = so.number;
    word = so.word;
    mount = so.mount;
    track = so.track;
    set_up = so.set_up;
    mount_is = so.mount_is;
    name_is = so.name_is;
    recording = so.recording;
    tracks = length-set session.channels track (Some pair) ∙ so.tracks;
    channels = λ of. channels_after (pair_at session.channels) of (pair_at (slice_set session.channels track (Some pair)) of) (so.channels of)
        (λ e. ap (pair_at (slice_set session.channels track (Some pair))) e ∙ pair_there session.channels track pair (subst (λ n. track < n) (sym so.tracks) low))
        (pair_elsewhere session.channels track of pair);
    state = ap state_of grown ∙ state_on conn methods.Setup at moments is ∙ ap Some (sym ready);
  }

  -- where nothing was set up, no track has channels
  none_set_up : (of : ℕ) (ms : List Moment) → beginning conn ms ≡ None → IsLast (λ moment. (other : Mount) × SetUpAt seats conn other of moment) ms None
  none_set_up of [] none = refl
  none_set_up of (one ∷ ms) none = by (beginning conn ms) refl (accepts_from conn is_setup one.entry) refl (sym (beginning_on conn one ms) ∙ none) (none_set_up of ms)
    where
      by : (found : Option Moment) → beginning conn ms ≡ found → (set : Bool) → accepts_from conn is_setup one.entry ≡ set → option_or found (cond set (Some one) None) ≡ None
          → (beginning conn ms ≡ None → IsLast (λ moment. (other : Mount) × SetUpAt seats conn other of moment) ms None)
          → IsLast (λ moment. (other : Mount) × SetUpAt seats conn other of moment) (one ∷ ms) None
      by (Some first) at_first set is_set nothing later = absurd (cc)
      by None at_first true is_set nothing later = absurd (cc)
      by None at_first false is_set nothing later = inr ((λ up. let accepts = up.1.accepts in absurd (cc)), later at_first)

  none_first : has_session conn history ≡ false → beginning conn moments ≡ None
  none_first none = by (beginning conn moments) none
    where
      by : (found : Option Moment) → is_some found ≡ false → found ≡ None
      by None is_none = refl
      by (Some first) is_none = absurd (cc)

  abbrev begun : Session
  begun = record { number = sessions_begun history + 1; word = given.word; mount = mount.number; name = mount.name; recording = mount.owner == conn; channels = slice_set (replicate 16 None) track (Some pair); state = Ready }

  -- a SETUP without a session begins one
  pub session_begins : has_session conn history ≡ false → IsSession seats conn (entry ∷ history) begun
  session_begins none = record {
    begin = at;
    first = ap (beginning conn) grown ∙ beginning_on conn at moments ∙ ap (λ found. option_or found (cond (accepts_from conn is_setup entry) (Some at) None)) (none_first none)
        ∙ ap (λ b. cond b (Some at) None) (of_own conn methods.Setup entry is is_setup);
    number = let one : sessions_begun (entry ∷ history) ≡ suc (sessions_begun history) = begins_so conn methods.Setup entry is history ∙ ap (λ b. cond (not b) (suc (sessions_begun history)) (sessions_begun history)) none in omega (arith, one);
    word = refl;
    mount = mount;
    track = track;
    set_up = here_set_up;
    mount_is = refl;
    name_is = refl;
    recording = refl;
    tracks = length-set (replicate 16 None) track (Some pair);
    channels = λ of. channels_after (λ _. None) of (pair_at (slice_set (replicate 16 None) track (Some pair)) of) (None, none_set_up of moments (none_first none), refl)
        (λ e. ap (pair_at (slice_set (replicate 16 None) track (Some pair))) e ∙ pair_there (replicate 16 None) track pair low)
        (λ other. pair_elsewhere (replicate 16 None) track of pair other ∙ no_pair 16 of);
    state = ap state_of grown ∙ state_on conn methods.Setup at moments is;
  }
