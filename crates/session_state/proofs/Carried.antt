-- What is answered by a judged request, and what the tables stand for when its change was carried out.
use Rattle.std.proofs.Common.{◌≡◌, ◌≢◌, ℕ, suc, ◌+◌, ◌<◌, ◌≤◌, ◌==◌, ◌&&◌, Bool, true, false, cond, not, if◌then◌else◌, List, [], ◌∷◌, length, slice_get, slice_set, replicate, is_some, IsSome, inl, inr, Option, None, Some, refl, ap, sym, ◌∙◌, subst, arith}
use Rattle.std.specs.Option.{option_and_then, option_map}
use Rattle.std.proofs.lemmas.Bool.{eqb-true, eq-eqb}
use Rattle.std.proofs.lemmas.Option.{slice_get_within}
use Rattle.rtsp_message.specs.declared.request.Request as messages
use Rattle.rtsp_message.specs.declared.reply.Reply.{Reply}
use Rattle.rtsp_message.specs.Reply.{code_of}
use Rattle.sdp.specs.declared.track.Track.{Track}
use Rattle.transport_header.specs.declared.spec.ChannelPair.{ChannelPair}
use Rattle.mounts.specs.declared.mount.Mount.{Mount}
use Rattle.mounts.specs.declared.target.Target.{Target}
use Rattle.mounts.specs.Mounts.{IsSeat, announced, numbered, owned_by, with_seat_of}
use Rattle.mounts.specs.Tracks.{IsNamedBy}
use Rattle.mounts.proofs.Firsts.{found_all, found_passes}
use Rattle.mounts.proofs.Sound.{sound_announced, sound_seat}
use Rattle.session_state.specs.declared.act.Act.{Act}
use Rattle.session_state.specs.declared.act.Act.TheVariants as acts
use Rattle.session_state.specs.declared.world.change.Change.{Change}
use Rattle.session_state.specs.declared.world.change.Change.TheVariants as changes
use Rattle.session_state.specs.declared.checks.Check.{Check}
use Rattle.session_state.specs.declared.given.Given.{Given}
use Rattle.session_state.specs.declared.entry.Entry.{Entry}
use Rattle.session_state.specs.declared.entry.Entry.TheVariants.{Request}
use Rattle.session_state.specs.declared.method.Method.{Method}
use Rattle.session_state.specs.declared.method.Method.TheVariants as methods
use Rattle.session_state.specs.declared.session.Session.{Session}
use Rattle.session_state.specs.declared.session.State.{State}
use Rattle.session_state.specs.declared.world.connection.Connection.{Connection}
use Rattle.session_state.specs.declared.session.State.TheVariants.{Ready, Playing, Recording}
use Rattle.session_state.specs.Applied.{IsApplied}
use Rattle.session_state.specs.Methods.{is_announce, is_setup, is_teardown, method_of, moves}
use Rattle.session_state.specs.History.{History, Moment, accepted, accepts, how_many, is_play_of}
use Rattle.session_state.specs.Checks.{Asked, FailsFirst, PassesAll, checks_of, fits, state_in}
use Rattle.session_state.specs.Judged.{CanTake, IsAcceptedWith, IsJudged, IsSettingUp, asked_of, play_change}
use Rattle.session_state.specs.Legal.{IsAnswered, IsLegal, IsReplyOf}
use Rattle.session_state.specs.Lookups.{IsSessionOf, beginning, has_session, last_seat, session_part, sessions_begun, state_by, state_of}
use Rattle.session_state.specs.Replies.{IsAccepted, IsPlayAct, IsPlayed, pause_act, record_act, refusal, status_of, teardown_act}
use Rattle.session_state.specs.Stands.{ChangesSession, IsHeard, Recalls, Stands, Tables, TakesSeat, connection_of, in_state, kept_of, session_kept, with_channels, without_owned}
use Rattle.session_state.specs.Streams.{IsLive, IsLiveMount, IsTrackOf, is_out}
use Rattle.session_state.proofs.AcceptedEntries.{IsAcceptedEntry, accepted_entry, announces_so, begins_so, of_conn, of_method, of_own, ends_none}
use Rattle.session_state.proofs.After.{Leaves, LeavesSo, accepted_stands, heard_then, leaves_mounts, refused_stands, unchanged}
use Rattle.session_state.proofs.Announced.{refused_otherwise}
use Rattle.session_state.proofs.Answering.{kept_with_session}
use Rattle.session_state.proofs.Announcing.{mount_made}
use Rattle.session_state.proofs.Backs.{seat_in_history, seat_in_table}
use Rattle.session_state.proofs.Going.{mounts_after, same_next, same_seats, sound_after}
use Rattle.session_state.proofs.Moving.{seat_moves}
use Rattle.session_state.proofs.OneAnswer.{few_tracks}
use Rattle.session_state.proofs.Parts.{part_ends, part_still, session_still}
use Rattle.session_state.proofs.Plays.{pauses, records, tears_down}
use Rattle.session_state.proofs.Refusals.{accepted_ok}
use Rattle.session_state.proofs.Sessioning.{Tells, in_other_state, session_begins, with_new_channels}

-- a track that is named is one of the first sixteen
track_low : (mount : Mount) (conn : ℕ) (target : Target) (rest : Option (List ℕ)) (track : ℕ) → length mount.description.tracks ≤ 16 → IsTrackOf mount conn target rest track → track < 16
track_low mount conn target None track few is = let first = is.1 in omega (arith, first)
track_low mount conn target (Some rest) track few is = by (mount.owner == conn) is
  where
    low : (number : ℕ) (one : Track) → slice_get mount.description.tracks number ≡ Some one → number < 16
    low number one there = let within = slice_get_within mount.description.tracks number one there in omega (arith, within, few)

    by : (owns : Bool) → IsNamedBy owns target rest mount.description.tracks track → track < 16
    by false named = low track named.track named.there
    by true (inl called) = low track called.track called.there
    by true (inr numbered) = low track numbered.track numbered.there

-- who plays has the seat that was taken last
last_playing : (moments : List Moment) (seat : ℕ) → state_of moments ≡ Some (Playing seat) → last_seat moments ≡ Some seat
last_playing [] seat is = absurd (cc)
last_playing (moment ∷ moments) seat is = by (accepted moment.entry) (last_seat (moment ∷ moments)) is
  where
    by : (found : Option (ℕ × Method)) (last : Option ℕ) → option_and_then (λ (one : ℕ × Method). state_by one.1 last) found ≡ Some (Playing seat) → last ≡ Some seat
    by None last at = absurd (cc)
    by (Some (conn, methods.Play)) None at = absurd (cc)
    by (Some (conn, methods.Play)) (Some taken) at = cc
    by (Some (conn, methods.Setup)) last at = absurd (cc)
    by (Some (conn, methods.Pause)) last at = absurd (cc)
    by (Some (conn, methods.Record)) last at = absurd (cc)
    by (Some (conn, methods.Options)) last at = absurd (cc)
    by (Some (conn, methods.Describe)) last at = absurd (cc)
    by (Some (conn, methods.Announce)) last at = absurd (cc)
    by (Some (conn, methods.Teardown)) last at = absurd (cc)
    by (Some (conn, methods.GetParameter)) last at = absurd (cc)

module _ (history : History) (old new : Tables) (conn : ℕ) (request : messages.Request) (given : Given) (reply : Reply) (legal : IsLegal old.mounts.seats history) (stands : Recalls history old)
    (was : kept_of conn old.connections ≡ Some (session_kept old conn)) where
  abbrev asked : Asked
  asked = asked_of old history conn request

  abbrev mine : Option Session
  mine = session_kept old conn

  abbrev entry : Act → Entry
  entry act = Request conn request given reply act

  -- what is shown of each answer
  abbrev Goes : Act → Type 0
  Goes act = IsReplyOf old.mounts.seats history conn request given reply act × Leaves (Request conn request given reply act) history old new

  replies : (act : Act) → IsAnswered asked given reply act → IsReplyOf old.mounts.seats history conn request given reply act
  replies act answered = record {
    is_there = sym (stands.are_open conn) ∙ ap is_some was;
    mounts = old.mounts.mounts;
    session = mine;
    looks_up = record { mounts = stands.mounts; session = stands.sessions conn mine was };
    answered = answered;
  }

  refuses : (check : Check) → FailsFirst asked (checks_of (method_of request.method)) check → reply ≡ refusal asked check → (act : Act) → act ≡ acts.None → new ≡ old → Goes act
  refuses check fails is act none same =
      let so = replies act (inl (check, fails, is, none)) in
      (so, subst (Leaves (entry act) history old) (sym same) (refused_stands history old conn request given reply act stands so not_ok))
    where
      not_ok : code_of reply.status ≢ 200
      not_ok ok = let one = eq-eqb (code_of (status_of check)) 200 (sym (ap (λ (r : Reply). code_of r.status) is) ∙ ok) in let other = refused_otherwise check in absurd (cc)

  module _ (method : Method) (named : method_of request.method ≡ Some method) (passes : PassesAll asked (checks_of (Some method))) where
    answers : (act : Act) → IsAccepted asked method given reply act → IsReplyOf old.mounts.seats history conn request given reply act
    answers act is = replies act (inr (method, named, passes, is))

    by_method : (act : Act) → IsAccepted asked method given reply act → IsAcceptedEntry conn method (Request conn request given reply act)
    by_method act is = accepted_entry conn request given reply act method (accepted_ok asked method given reply act is) named

    -- a request that changes nothing
    leaves_all : (act : Act) → IsAccepted asked method given reply act → act ≡ acts.None → new ≡ old → is_announce method ≡ false → is_teardown method ≡ false → is_setup method ≡ false → moves method ≡ false → Goes act
    leaves_all act is none same announces ends sets moving =
        let by = by_method act is in (
          answers act is,
          accepted_stands history old old new conn request given reply act method by stands mine was (λ s. s)
              (leaves_mounts history old old new conn request given reply act method by stands mine was (λ s. s) old.begun announces ends (λ mount seat. ap (is_play_of mount seat) none)
              (stands.begun_is ∙ sym (begins_so conn method (entry act) by history ∙ ap (λ b. cond (b && not (has_session conn history)) (suc (sessions_begun history)) (sessions_begun history)) sets)))
              (unchanged conn old new same)
              (session_still old.mounts.seats conn history (entry act ∷ history) mine (part_still conn (entry act) history (ends_none conn method (entry act) by conn ends) (of_own conn method (entry act) by moves ∙ moving)) (stands.sessions conn mine was)),
        )

    -- a request of a session that puts it into another state, and moves no seat
    changes_state : (act : Act) → IsAccepted asked method given reply act → (session : Session) → mine ≡ Some session → (state : State) → ((mount seat : ℕ) → is_play_of mount seat act ≡ false)
        → is_announce method ≡ false → is_teardown method ≡ false → is_setup method ≡ false → moves method ≡ true
        → state_by method (last_seat (record { entry = Request conn request given reply act; before = history } ∷ session_part conn history)) ≡ Some state
        → ChangesSession conn (option_map (in_state state)) old new → Goes act
    changes_state act is session has state plays announces ends sets moving leaves change =
        let by = by_method act is in
        let so = subst (IsSessionOf old.mounts.seats conn history) has (stands.sessions conn mine was) in (
          answers act is,
          accepted_stands history old old new conn request given reply act method by stands (Some session) (was ∙ ap Some has) (option_map (in_state state))
              (leaves_mounts history old old new conn request given reply act method by stands mine was (λ s. s) old.begun announces ends plays
              (stands.begun_is ∙ sym (begins_so conn method (entry act) by history ∙ ap (λ b. cond (b && not (has_session conn history)) (suc (sessions_begun history)) (sessions_begun history)) sets)))
              change
              (in_other_state old.mounts.seats history conn method (entry act) by ends moving session state so sets leaves),
        )

  announces : method_of request.method ≡ Some methods.Announce → PassesAll asked (checks_of (Some methods.Announce)) → (change : Change) → CanTake old conn change → IsAcceptedWith asked methods.Announce given reply change
      → (act : Act) → IsApplied conn change old act new → Goes act
  announces named passes change can (is, making) act applied =
      let so = subst (λ c. IsApplied conn c old act new) making.is applied in
      let place = subst (CanTake old conn) making.is can in
      let mid : Tables = record old { mounts = announced old.mounts conn making.target.path making.description } in
      let grown = sound_announced old.mounts conn making.target.path making.description stands.sound place.room place.name_is place.no_track place.free place.first in
      let by = by_method methods.Announce named passes acts.Open is in
      subst Goes (sym so.0) (
        answers methods.Announce named passes acts.Open is,
        accepted_stands history old mid new conn request given reply acts.Open methods.Announce by stands mine was (λ s. s)
            (record {
              connections = refl;
              came = refl;
              seats = refl;
              sound = grown;
              mounts = mount_made history old.mounts conn request given reply legal by making.target making.description making.uri making.body stands.next stands.sound grown stands.mounts;
              next = let one : how_many (accepts is_announce) (entry acts.Open ∷ history) ≡ suc (how_many (accepts is_announce) history) = announces_so conn methods.Announce (entry acts.Open) by history in let next = stands.next in omega (arith, one, next);
              begun = stands.begun_is ∙ sym (begins_so conn methods.Announce (entry acts.Open) by history);
            })
            (unchanged conn mid new so.1)
            (session_still old.mounts.seats conn history (entry acts.Open ∷ history) mine
            (part_still conn (entry acts.Open) history (ends_none conn methods.Announce (entry acts.Open) by conn refl) (of_own conn methods.Announce (entry acts.Open) by moves)) (stands.sessions conn mine was)),
      )

  sets_up : method_of request.method ≡ Some methods.Setup → PassesAll asked (checks_of (Some methods.Setup)) → (change : Change) → IsAcceptedWith asked methods.Setup given reply change
      → (act : Act) → IsApplied conn change old act new → Goes act
  sets_up named passes change (is, setting) act applied = by mine refl setting
    where
      none : IsAccepted asked methods.Setup given reply acts.None
      none = (is, refl)

      method : IsAcceptedEntry conn methods.Setup (Request conn request given reply acts.None)
      method = by_method methods.Setup named passes acts.None none

      pair : ChannelPair
      pair = record { first = is.chosen.rtp; second = is.chosen.rtcp }

      tells : Tells reply pair
      tells = record { chosen = record is.chosen { recording = is.mount.owner == conn }; transport = ap (λ (r : Reply). r.fields.transport) is.is; rtp = refl; rtcp = refl }

      lives : IsLiveMount old.mounts.seats history is.mount
      lives = found_all (IsLiveMount old.mounts.seats history) (λ one. one.number == is.mount.number) old.mounts.mounts is.mount stands.mounts.each is.sets_up.is

      few : length is.mount.description.tracks ≤ 16
      few = few_tracks old.mounts.seats history legal is.mount lives

      low : is.track < 16
      low = track_low is.mount conn is.sets_up.target is.sets_up.rest is.track few is.sets_up.track_is

      leaves : (begun : ℕ) → begun ≡ sessions_begun (entry acts.None ∷ history) → LeavesSo history (entry acts.None) old (record old { begun = begun })
      leaves begun is_so = leaves_mounts history old old new conn request given reply acts.None methods.Setup method stands mine was (λ s. s) begun refl refl (λ mount seat. refl) is_so

      by : (session : Option Session) → mine ≡ session → IsSettingUp asked given is.mount is.track pair session change → Goes act
      by None has setting =
          let so = subst (λ c. IsApplied conn c old act new) setting applied in
          let no_session : has_session conn history ≡ false = subst (IsSessionOf old.mounts.seats conn history) has (stands.sessions conn mine was) in
          let one : sessions_begun (entry acts.None ∷ history) ≡ suc (sessions_begun history) = begins_so conn methods.Setup (entry acts.None) method history ∙ ap (λ b. cond (not b) (suc (sessions_begun history)) (sessions_begun history)) no_session in
          let begun = stands.begun_is in
          subst Goes (sym so.0) (
            answers methods.Setup named passes acts.None none,
            accepted_stands history old (record old { begun = old.begun + 1 }) new conn request given reply acts.None methods.Setup method stands None (was ∙ ap Some has) (λ _. Some (begun_session))
                (leaves (old.begun + 1) (omega (arith, one, begun))) so.1
                (session_begins old.mounts.seats history conn request given reply acts.None legal method old.mounts.mounts stands.mounts is.mount is.track low few is.sets_up pair tells no_session),
          )
        where
          begun_session : Session
          begun_session = record { number = sessions_begun history + 1; word = given.word; mount = is.mount.number; name = is.mount.name; recording = is.mount.owner == conn; channels = slice_set (replicate 16 None) is.track (Some pair); state = Ready }
      by (Some session) has setting =
          let so = subst (λ c. IsApplied conn c old act new) setting applied in
          let old_session = subst (IsSessionOf old.mounts.seats conn history) has (stands.sessions conn mine was) in
          let had : has_session conn history ≡ true = ap is_some old_session.first in
          let none_begins : sessions_begun (entry acts.None ∷ history) ≡ sessions_begun history = begins_so conn methods.Setup (entry acts.None) method history ∙ ap (λ b. cond (not b) (suc (sessions_begun history)) (sessions_begun history)) had in
          let fits_so : fits methods.Setup (Some session.state) ≡ true = subst (λ s. fits methods.Setup (state_in s) ≡ true) has passes.1.1.1.1.1.1.1.0 in
          subst Goes (sym so.0) (
            answers methods.Setup named passes acts.None none,
            accepted_stands history old old new conn request given reply acts.None methods.Setup method stands (Some session) (was ∙ ap Some has) (option_map (with_channels is.track pair))
                (leaves old.begun (stands.begun_is ∙ sym none_begins)) so.1
                (with_new_channels old.mounts.seats history conn request given reply acts.None legal method old.mounts.mounts stands.mounts is.mount is.track low few is.sets_up pair tells session old_session (ready session.state fits_so)),
          )
        where
          ready : (state : State) → fits methods.Setup (Some state) ≡ true → state ≡ Ready
          ready Ready fit = refl
          ready (Playing seat) fit = absurd (cc)
          ready Recording fit = absurd (cc)

  tears_down_all : method_of request.method ≡ Some methods.Teardown → PassesAll asked (checks_of (Some methods.Teardown)) → (act : Act) → IsAccepted asked methods.Teardown given reply act → act ≡ teardown_act mine
      → ChangesSession conn (λ _. None) (record old { mounts = without_owned (owned_by conn old.mounts.mounts) old.mounts }) new → Goes act
  tears_down_all named passes act is does change =
      let by = by_method methods.Teardown named passes act is in
      let owned = owned_by conn old.mounts.mounts in
      let ended = of_own conn methods.Teardown (entry act) by is_teardown in (
        answers methods.Teardown named passes act is,
        accepted_stands history old (record old { mounts = without_owned owned old.mounts }) new conn request given reply act methods.Teardown by stands mine was (λ _. None)
            (record {
              connections = refl;
              came = refl;
              seats = same_seats old.mounts owned;
              sound = sound_after old.mounts owned stands.sound;
              mounts = mounts_after old.mounts.seats history conn (entry act) old.mounts owned
                  (record { plain = of_method conn methods.Teardown (entry act) by is_announce; seats = λ mount seat. ap (is_play_of mount seat) does ∙ tears_down mount seat mine })
                  (λ owner. by.ends owner ∙ of_conn conn methods.Teardown (entry act) by owner is_teardown ∙ and_true (conn == owner)) stands.sound refl stands.mounts;
              next = same_next old.mounts owned ∙ stands.next ∙ ap (λ n. n + 1) (sym (announces_so conn methods.Teardown (entry act) by history));
              begun = stands.begun_is ∙ sym (begins_so conn methods.Teardown (entry act) by history);
            })
            change
            (ap (λ part. is_some (beginning conn part)) (part_ends conn (entry act) history (by.ends conn ∙ ended))),
      )
    where
      and_true : (b : Bool) → (b && true) ≡ b
      and_true true = refl
      and_true false = refl

  plays : method_of request.method ≡ Some methods.Play → PassesAll asked (checks_of (Some methods.Play)) → (change : Change) → IsAcceptedWith asked methods.Play given reply change
      → (act : Act) → IsApplied conn change old act new → Goes act
  plays named passes change (is, makes) act applied = by mine refl
    where
      names_mount : (session : Session) → mine ≡ Some session → IsSome (numbered session.mount old.mounts.mounts)
      names_mount session has =
          let names = passes.1.1.1.1.1.1.0 in
          let also = names.3.has in
          let same : names.0 ≡ session = cc in
          subst (λ (s : Session). IsSome (numbered s.mount old.mounts.mounts)) same names.4

      free_seat : (session : Session) (found : Option Mount) → numbered session.mount old.mounts.mounts ≡ found → IsSome found → (seat : ℕ) → seat < old.mounts.seats → is_out session.mount seat history ≡ false
          → IsSeat old.mounts session.mount seat false
      free_seat session None at some seat below free = absurd (cc)
      free_seat session (Some found) at some seat below free =
          let lives = found_all (IsLiveMount old.mounts.seats history) (λ one. one.number == session.mount) old.mounts.mounts found stands.mounts.each at in
          let number = eqb-true found.number session.mount (found_passes (λ one. one.number == session.mount) old.mounts.mounts found at) in
          seat_in_table history old session.mount found.owner seat false stands (record { live = subst (λ n. IsLive history n found.owner) number lives.live; out = free; below = below })

      taken : (session : Session) → mine ≡ Some session → session.state ≡ Ready → TakesSeat conn session old act new → Goes act
      taken session has ready takes =
          let seat = takes.seat in
          let told = seat_in_history history old session.mount seat false stands takes.free in
          let state_is : IsPlayAct asked session.mount session.state act = subst (λ state. IsPlayAct asked session.mount state act) (sym ready) (seat, told.below, told.out, takes.does) in
          let so : IsPlayed asked given reply act = is session act has state_is in
          let play = subst (IsPlayed asked given reply) takes.does so in
          let by = by_method methods.Play named passes (acts.Play session.mount seat) play in
          let old_session = subst (IsSessionOf old.mounts.seats conn history) has (stands.sessions conn mine was) in
          subst Goes (sym takes.does) (
            answers methods.Play named passes (acts.Play session.mount seat) play,
            accepted_stands history old (record old { mounts = with_seat_of session.mount seat true old.mounts }) new conn request given reply (acts.Play session.mount seat) methods.Play by stands (Some session) (was ∙ ap Some has) (option_map (in_state (Playing seat)))
                (record {
                  connections = refl;
                  came = refl;
                  seats = refl;
                  sound = sound_seat session.mount seat true old.mounts stands.sound;
                  mounts = seat_moves old.mounts.seats history (entry (acts.Play session.mount seat)) session.mount seat true
                      (record {
                        plain = of_method conn methods.Play (entry (acts.Play session.mount seat)) by is_announce;
                        on = λ owner. ends_none conn methods.Play (entry (acts.Play session.mount seat)) by owner refl;
                        moves = λ of given_seat. refl;
                        leaves = ap (λ b. b && seat == seat) (eq-eqb session.mount session.mount refl) ∙ eq-eqb seat seat refl;
                      }) old.mounts.mounts stands.mounts;
                  next = stands.next ∙ ap (λ n. n + 1) (sym (announces_so conn methods.Play (entry (acts.Play session.mount seat)) by history));
                  begun = stands.begun_is ∙ sym (begins_so conn methods.Play (entry (acts.Play session.mount seat)) by history);
                })
                takes.changes
                (in_other_state old.mounts.seats history conn methods.Play (entry (acts.Play session.mount seat)) by refl refl session (Playing seat) old_session refl refl),
          )

      keeps : (session : Session) → mine ≡ Some session → (seat : ℕ) → session.state ≡ Playing seat → change ≡ changes.Nothing → Goes act
      keeps session has seat playing nothing =
          let so = subst (λ c. IsApplied conn c old act new) nothing applied in
          let old_session = subst (IsSessionOf old.mounts.seats conn history) has (stands.sessions conn mine was) in
          let last = last_playing (session_part conn history) seat (old_session.state ∙ ap Some playing) in
          let kept : IsPlayAct asked session.mount session.state acts.None = subst (λ state. IsPlayAct asked session.mount state acts.None) (sym playing) refl in
          let play = is session acts.None has kept in
          subst Goes (sym so.0) (changes_state methods.Play named passes acts.None play session has (Playing seat) (λ mount given_seat. refl) refl refl refl refl
          (ap (λ found. option_map (λ taken. Playing taken) found) last) (same_state so.1))
        where
          still : Connection → Connection
          still kept = record kept { session = option_map (in_state (Playing seat)) kept.session }

          found : (kept : Option Connection) → option_map (λ (k : Connection). k.session) kept ≡ Some (Some session) → kept ≡ option_map still kept
          found None is = absurd (cc)
          found (Some kept) is =
              let so : kept.session ≡ Some session = cc in
              ap (λ (s : Option Session). Some (record kept { session = s })) (so ∙ ap (λ state. Some (in_state state session)) playing ∙ sym (ap (option_map (in_state (Playing seat))) so))

          at : (other : ℕ) → (same : Bool) → (conn == other) ≡ same → connection_of other old.connections ≡ (if same then option_map still (connection_of other old.connections) else connection_of other old.connections)
          at other true same = found (connection_of other old.connections) (ap (λ c. kept_of c old.connections) (sym (eqb-true conn other same)) ∙ was ∙ ap Some has)
          at other false apart = refl

          same_state : new ≡ old → ChangesSession conn (option_map (in_state (Playing seat))) old new
          same_state same = subst (ChangesSession conn (option_map (in_state (Playing seat))) old) (sym same)
              (record { mounts = refl; each = λ other. at other (conn == other) refl; count = refl; came = refl; begun = refl })

      in_state_of : (session : Session) → mine ≡ Some session → (state : State) → session.state ≡ state → change ≡ play_change (Some state) → fits methods.Play (Some state) ≡ true → Goes act
      in_state_of session has Ready ready makes_so fit =
          let so = subst (λ c. IsApplied conn c old act new) makes_so applied in
          let free = passes.1.1.1.1.1.1.1.1.1.1.0 session has ready in
          taken session has ready (so session free.0 has (free_seat session (numbered session.mount old.mounts.mounts) refl (names_mount session has) free.0 free.1 free.2))
      in_state_of session has (Playing seat) playing makes_so fit = keeps session has seat playing makes_so
      in_state_of session has Recording recording makes_so fit = absurd (cc)

      by : (session : Option Session) → mine ≡ session → Goes act
      by None has = let fit : fits methods.Play None ≡ true = subst (λ s. fits methods.Play (state_in s) ≡ true) has passes.1.1.1.1.1.1.1.0 in absurd (cc)
      by (Some session) has =
          in_state_of session has session.state refl (makes ∙ ap (λ s. play_change (state_in s)) has) (subst (λ s. fits methods.Play (state_in s) ≡ true) has passes.1.1.1.1.1.1.1.0)

  accepted_goes : (method : Method) → method_of request.method ≡ Some method → PassesAll asked (checks_of (Some method)) → (change : Change) → CanTake old conn change → IsAcceptedWith asked method given reply change
      → (act : Act) → IsApplied conn change old act new → Goes act
  accepted_goes methods.Options named passes change can (is, nothing) act applied = plainly (subst (λ c. IsApplied conn c old act new) nothing applied)
    where
      plainly : (act ≡ acts.None) × (new ≡ old) → Goes act
      plainly (none, same) = leaves_all methods.Options named passes act (subst (IsAccepted asked methods.Options given reply) (sym none) is) none same refl refl refl refl
  accepted_goes methods.GetParameter named passes change can (is, nothing) act applied = plainly (subst (λ c. IsApplied conn c old act new) nothing applied)
    where
      plainly : (act ≡ acts.None) × (new ≡ old) → Goes act
      plainly (none, same) = leaves_all methods.GetParameter named passes act (subst (IsAccepted asked methods.GetParameter given reply) (sym none) is) none same refl refl refl refl
  accepted_goes methods.Describe named passes change can (is, nothing) act applied = plainly (subst (λ c. IsApplied conn c old act new) nothing applied)
    where
      plainly : (act ≡ acts.None) × (new ≡ old) → Goes act
      plainly (none, same) = leaves_all methods.Describe named passes act (subst (IsAccepted asked methods.Describe given reply) (sym none) is) none same refl refl refl refl
  accepted_goes methods.Announce named passes change can is act applied = announces named passes change can is act applied
  accepted_goes methods.Setup named passes change can is act applied = sets_up named passes change is act applied
  accepted_goes methods.Play named passes change can is act applied = plays named passes change is act applied
  accepted_goes methods.Record named passes change can (is, makes) act applied = by mine refl
    where
      so : (act ≡ record_act (state_in mine)) × ChangesSession conn (option_map (in_state Recording)) old new
      so = subst (λ c. IsApplied conn c old act new) makes applied

      by : (session : Option Session) → mine ≡ session → Goes act
      by None has = let fit : fits methods.Record None ≡ true = subst (λ s. fits methods.Record (state_in s) ≡ true) has passes.1.1.1.1.1.1.1.0 in absurd (cc)
      by (Some session) has =
          changes_state methods.Record named passes act (is act so.0) session has Recording (λ mount seat. ap (is_play_of mount seat) so.0 ∙ records mount seat (state_in mine)) refl refl refl refl refl so.1
  accepted_goes methods.Pause named passes change can (is, makes) act applied = by mine refl
    where
      so : (act ≡ pause_act mine) × ChangesSession conn (option_map (in_state Ready)) old new
      so = subst (λ c. IsApplied conn c old act new) makes applied

      by : (session : Option Session) → mine ≡ session → Goes act
      by None has = let fit : fits methods.Pause None ≡ true = subst (λ s. fits methods.Pause (state_in s) ≡ true) has passes.1.1.1.1.1.1.1.0 in absurd (cc)
      by (Some session) has =
          changes_state methods.Pause named passes act (is act so.0) session has Ready (λ mount seat. ap (is_play_of mount seat) so.0 ∙ pauses mount seat mine) refl refl refl refl refl so.1
  accepted_goes methods.Teardown named passes change can (is, makes) act applied =
      let so = subst (λ c. IsApplied conn c old act new) makes applied in
      tears_down_all named passes act (is act so.0) so.0 so.1

  judged_goes : (change : Change) → CanTake old conn change → IsJudged (asked_of old history conn request) given reply change → (act : Act) → IsApplied conn change old act new → Goes act
  judged_goes change can (inl ((check, fails, is, none), nothing)) act applied =
      let so = subst (λ c. IsApplied conn c old act new) nothing applied in
      refuses check fails is act so.0 so.1
  judged_goes change can (inr (method, named, passes, is)) act applied = accepted_goes method named passes change can is act applied

-- a judged request is answered so, and the tables stand for what has happened then
pub carried : (history : History) (old new later : Tables) (conn : ℕ) (request : messages.Request) (given : Given) (reply : Reply) → IsLegal old.mounts.seats history → Stands history old
    → IsSome (kept_of conn old.connections) → (change : Change) → CanTake old conn change → IsJudged (asked_of old history conn request) given reply change → (act : Act) → IsApplied conn change old act new
    → IsHeard conn given.now new later → IsReplyOf old.mounts.seats history conn request given reply act × Stands (Request conn request given reply act ∷ history) later
carried history old new later conn request given reply legal stands there change can judged act applied heard =
    let goes = judged_goes history old new conn request given reply legal stands.recalls (kept_with_session old conn there) change can judged act applied in
    (goes.0, heard_then history old new later conn request given reply act stands goes.1 heard)
