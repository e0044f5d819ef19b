-- A legal history tells one session of a connection, channels included.
use Rattle.std.proofs.Common.{◌≡◌, ℕ, suc, ◌==◌, Bool, true, false, cond, List, [], ◌∷◌, ◌++◌, length, is_some, inl, inr, Option, None, Some, refl, ap, sym, ◌∙◌, subst}
use Rattle.std.specs.List.{AllByRecursion}
use Rattle.rtsp_message.specs.declared.request.Request as messages
use Rattle.rtsp_message.specs.declared.reply.Reply.{Reply}
use Rattle.transport_header.specs.declared.chosen.Chosen.{Chosen}
use Rattle.transport_header.specs.declared.spec.ChannelPair.{ChannelPair}
use Rattle.transport_header.specs.Chosen.{transport_text}
use Rattle.transport_header.specs.Tracks.{pair_at}
use Rattle.mounts.specs.declared.mount.Mount.{Mount}
use Rattle.session_state.specs.declared.act.Act.{Act}
use Rattle.session_state.specs.declared.entry.Entry.{Entry}
use Rattle.session_state.specs.declared.entry.Entry.TheVariants.{Request}
use Rattle.session_state.specs.declared.given.Given.{Given}
use Rattle.session_state.specs.declared.method.Method.{Method}
use Rattle.session_state.specs.declared.method.Method.TheVariants as methods
use Rattle.session_state.specs.declared.session.Session.{Session}
use Rattle.session_state.specs.declared.session.State.{State}
use Rattle.session_state.specs.Checks.{Asked}
use Rattle.session_state.specs.History.{History, IsLast, Moment, accepts_from, since_last}
use Rattle.session_state.specs.Legal.{IsLegal, IsReplyOf}
use Rattle.session_state.specs.Lookups.{AreChannels, IsSession, IsSessionOf, SetUpAt, ToldBy, ToldLast, session_part, sessions_begun, word_of}
use Rattle.session_state.specs.Methods.{is_setup, moves}
use Rattle.session_state.specs.Replies.{channels_in}
use Rattle.session_state.specs.Streams.{SetsUp, ends_of}
use Rattle.session_state.proofs.Among.{each_filtered}
use Rattle.session_state.proofs.Announced.{accepted_as, accepted_of}
use Rattle.session_state.proofs.FewChannels.{AreLow, low_chosen}
use Rattle.session_state.proofs.Identifiers.{is_beginning}
use Rattle.session_state.proofs.Listed.{one_set_up}
use Rattle.session_state.proofs.ToldChannels.{one_text}

-- the last of some moments is one
one_last : (That : Moment → Type 0) (moments : List Moment) (one other : Option Moment) → IsLast That moments one → IsLast That moments other → one ≡ other
one_last That [] one other a b = a ∙ sym b
one_last That (moment ∷ moments) one other (inl (that, is)) (inl (also, so)) = is ∙ sym so
one_last That (moment ∷ moments) one other (inl (that, is)) (inr (none, later)) = absurd (none that)
one_last That (moment ∷ moments) one other (inr (none, later)) (inl (that, is)) = absurd (none that)
one_last That (moment ∷ moments) one other (inr (none, later)) (inr (also, last)) = one_last That moments one other later last

-- what holds of each moment holds of the last
last_holds : (P That : Moment → Type 0) (moments : List Moment) (found : Option Moment) (moment : Moment) → AllByRecursion P moments → IsLast That moments found → found ≡ Some moment → P moment × That moment
last_holds P That [] found moment each is at = absurd (cc)
last_holds P That (one ∷ moments) found moment each (inl (that, is)) at = let same : one ≡ moment = cc in subst (λ m. P m × That m) same (each.0, that)
last_holds P That (one ∷ moments) found moment each (inr (none, later)) at = last_holds P That moments found moment each.1 later at

-- the history up to a moment is legal
abbrev IsLegalAt : ℕ → Moment → Type 0
IsLegalAt seats moment = IsLegal seats (moment.entry ∷ moment.before)

legal_since : (seats : ℕ) (ends : Entry → Bool) (history : History) → IsLegal seats history → AllByRecursion (IsLegalAt seats) (since_last ends history)
legal_since seats ends [] legal = tt
legal_since seats ends (entry ∷ before) legal = by (ends entry) (legal_since seats ends before legal.0)
  where
    by : (is : Bool) → AllByRecursion (IsLegalAt seats) (since_last ends before) → AllByRecursion (IsLegalAt seats) (cond is [] (record { entry = entry; before = before } ∷ since_last ends before))
    by true rest = tt
    by false rest = (legal, rest)

legal_part : (seats conn : ℕ) (history : History) → IsLegal seats history → AllByRecursion (IsLegalAt seats) (session_part conn history)
legal_part seats conn history legal = each_filtered (IsLegalAt seats) (λ moment. accepts_from conn moves moment.entry) (since_last (ends_of conn) history) (legal_since seats (ends_of conn) history legal)

only_setup : (method : Method) → is_setup method ≡ true → method ≡ methods.Setup
only_setup methods.Setup is = refl
only_setup method is = absurd (cc)

sixteen : (seats conn : ℕ) (history : History) (session : Option Session) → IsSessionOf seats conn history session → length (channels_in session) ≡ 16
sixteen seats conn history None is = refl
sixteen seats conn history (Some session) is = is.tracks

-- The reply tells channels below 256.
record TellsLow (reply : Reply) : Type 0 where
  chosen : Chosen
  text : reply.fields.transport ≡ Some (transport_text chosen)
  low : AreLow chosen.rtp chosen.rtcp

tells_low : (seats : ℕ) (before : History) (conn : ℕ) (request : messages.Request) (given : Given) (reply : Reply) (act : Act) → IsReplyOf seats before conn request given reply act → accepts_from conn is_setup (Request conn request given reply act) ≡ true → TellsLow reply
tells_low seats before conn request given reply act is accepted =
    let asked : Asked = record { seats = seats; history = before; conn = conn; request = request; mounts = is.mounts; session = is.session } in
    let of = accepted_of is_setup methods.Setup only_setup conn conn request given reply act accepted in
    let sets = (accepted_as asked given reply act methods.Setup is.answered of.ok of.method).1.0 in
    record {
      chosen = record sets.chosen { recording = sets.mount.owner == conn };
      text = ap (λ (r : Reply). r.fields.transport) sets.is;
      low = low_chosen (channels_in is.session) sets.track (sixteen seats conn before is.session is.looks_up.session) sets.used sets.others sets.text sets.chosen sets.is_chosen;
    }

same_pair : (one other : ChannelPair) → one.first ≡ other.first → one.second ≡ other.second → one ≡ other
same_pair one other first second =
    let make : ℕ → ℕ → ChannelPair = λ a b. record { first = a; second = b } in
    ap (λ a. make a one.second) first ∙ ap (λ b. make other.first b) second

-- a reply tells one pair
one_pair : (conn : ℕ) (request : messages.Request) (given : Given) (reply : Reply) (act : Act) (one other : ChannelPair) → TellsLow reply
    → ToldBy (Request conn request given reply act) one → ToldBy (Request conn request given reply act) other → one ≡ other
one_pair conn request given reply act one other tells (first, a, rtp, rtcp) (second, b, also, too) =
    let text = tells.text in
    let first_text : transport_text first ≡ transport_text tells.chosen = cc in
    let second_text : transport_text second ≡ transport_text tells.chosen = cc in
    let is = one_text first tells.chosen tells.low.0 tells.low.1 first_text in
    let so = one_text second tells.chosen tells.low.0 tells.low.1 second_text in
    same_pair one other (sym rtp ∙ is.0 ∙ sym so.0 ∙ also) (sym rtcp ∙ is.1 ∙ sym so.1 ∙ too)

module _ (seats conn : ℕ) where
  -- a SETUP of a track
  abbrev IsSetUpOf : (track : ℕ) → Moment → Type 0
  IsSetUpOf track moment = (mount : Mount) × SetUpAt seats conn mount track moment

  one_told : (mount : Mount) (track : ℕ) (moment : Moment) (one other : ChannelPair) → IsLegalAt seats moment → SetUpAt seats conn mount track moment → ToldBy moment.entry one → ToldBy moment.entry other → one ≡ other
  one_told mount track moment one other legal at a b =
      let legal_there = subst (λ entry. IsLegal seats (entry ∷ moment.before)) at.is legal in
      let accepted = ap (accepts_from conn is_setup) (sym at.is) ∙ at.accepts in
      one_pair conn at.request at.given at.reply at.act one other (tells_low seats moment.before conn at.request at.given at.reply at.act legal_there.1 accepted)
      (subst (λ entry. ToldBy entry one) at.is a) (subst (λ entry. ToldBy entry other) at.is b)

  one_told_last : (moments : List Moment) → AllByRecursion (IsLegalAt seats) moments → (track : ℕ) (one other : Option ChannelPair) → AreChannels seats conn moments track one → AreChannels seats conn moments track other → one ≡ other
  one_told_last moments legal track one other (last, is, told) (second, also, tells) =
      of last is one other told (subst (λ m. ToldLast m other) (one_last (IsSetUpOf track) moments second last also is) tells)
    where
      of : (last : Option Moment) → IsLast (IsSetUpOf track) moments last → (one other : Option ChannelPair) → ToldLast last one → ToldLast last other → one ≡ other
      of None is one other a b = a ∙ sym b
      of (Some moment) is None other a b = absurd (a)
      of (Some moment) is (Some one) None a b = absurd (b)
      of (Some moment) is (Some one) (Some other) a b =
          let (legal_there, at) = last_holds (IsLegalAt seats) (IsSetUpOf track) moments (Some moment) moment legal is refl in
          ap Some (one_told at.0 track moment one other legal_there at.1 a b)

legal_before : (seats : ℕ) (later : History) (entry : Entry) (before : History) → IsLegal seats (later ++ entry ∷ before) → IsLegal seats before
legal_before seats [] entry before legal = legal.0
legal_before seats (one ∷ later) entry before legal = legal_before seats later entry before legal.0

same_pairs : (pairs others : List (Option ChannelPair)) → length pairs ≡ length others → ((of : ℕ) → pair_at pairs of ≡ pair_at others of) → pairs ≡ others
same_pairs [] [] long each = refl
same_pairs [] (other ∷ others) long each = absurd (cc)
same_pairs (pair ∷ pairs) [] long each = absurd (cc)
same_pairs (pair ∷ pairs) (other ∷ others) long each =
    let head : pair ≡ other = each 0 in
    let shorter : length pairs ≡ length others = cc in
    let tail : pairs ≡ others = same_pairs pairs others shorter (λ of. each (suc of)) in
    cc

make : (number word mount : ℕ) → List ℕ → Bool → List (Option ChannelPair) → State → Session
make number word mount name recording channels state = record { number = number; word = word; mount = mount; name = name; recording = recording; channels = channels; state = state }

module _ (seats conn : ℕ) (history : History) (legal : IsLegal seats history) where
  pub one_session : (one other : Session) → IsSession seats conn history one → IsSession seats conn history other → one ≡ other
  unfolding make
  one_session one other a b =
      let first = a.first in
      let second = b.first in
      let begin : b.begin ≡ a.begin = cc in
      let begun = is_beginning conn history a.begin a.first in
      let before = legal_before seats begun.later a.begin.entry a.begin.before (subst (IsLegal seats) begun.cut legal) in
      let set_up = subst (SetUpAt seats conn b.mount b.track) begin b.set_up in
      let same_entry = sym a.set_up.is ∙ set_up.is in
      let request : set_up.request ≡ a.set_up.request = cc in
      let sets = subst (λ (r : messages.Request). SetsUp set_up.mounts conn r.uri b.mount b.track) request set_up.sets_up in
      let same = (one_set_up seats a.begin.before before a.set_up.mounts set_up.mounts a.set_up.live set_up.live conn a.set_up.request.uri a.mount b.mount a.track b.track a.set_up.sets_up sets).0 in
      let number = a.number ∙ ap (λ (m : Moment). sessions_begun (m.entry ∷ m.before)) (sym begin) ∙ sym b.number in
      let word_told = a.word in
      let other_word : word_of a.begin.entry ≡ Some other.word = ap (λ (m : Moment). word_of m.entry) (sym begin) ∙ b.word in
      let word : one.word ≡ other.word = cc in
      let mount = a.mount_is ∙ ap (λ (m : Mount). m.number) same ∙ sym b.mount_is in
      let name = a.name_is ∙ ap (λ (m : Mount). m.name) same ∙ sym b.name_is in
      let recording = a.recording ∙ ap (λ (m : Mount). m.owner == conn) same ∙ sym b.recording in
      let state_told = a.state in
      let other_state = b.state in
      let state : one.state ≡ other.state = cc in
      let channels : one.channels ≡ other.channels = same_pairs one.channels other.channels (a.tracks ∙ sym b.tracks)
      (λ of. one_told_last seats conn (session_part conn history) (legal_part seats conn history legal) of (pair_at one.channels of) (pair_at other.channels of) (a.channels of) (b.channels of)) in
      let made : make one.number one.word one.mount one.name one.recording one.channels one.state ≡ make other.number other.word other.mount other.name other.recording other.channels other.state = cc in
      made

  pub one_session_of : (one other : Option Session) → IsSessionOf seats conn history one → IsSessionOf seats conn history other → one ≡ other
  one_session_of None None a b = refl
  one_session_of None (Some other) a b = let some = ap is_some b.first in absurd (cc)
  one_session_of (Some one) None a b = let some = ap is_some a.first in absurd (cc)
  one_session_of (Some one) (Some other) a b = ap Some (one_session one other a b)
