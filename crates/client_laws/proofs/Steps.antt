-- What an accepted request of a client that publishes leads to.
use Rattle.std.proofs.Common.{◌≡◌, ◌<◌, ℕ, suc, ◌+◌, true, false, cond, not, List, [], ◌∷◌, is_some, Option, None, Some, refl, ap, sym, subst, ◌∙◌, arith}
use Rattle.std.specs.Option.{option_and_then, option_map, option_or, unwrap_or}
use Rattle.rtsp_message.specs.declared.request.Request as messages
use Rattle.rtsp_message.specs.declared.reply.Reply.{Reply}
use Rattle.rtsp_message.specs.Reply.{code_of}
use Rattle.sdp.specs.Readings.{Reads}
use Rattle.transport_header.specs.Session.{identifier_text}
use Rattle.mounts.specs.declared.mount.Mount.{Mount}
use Rattle.mounts.specs.declared.uri.Uri.TheVariants.{At}
use Rattle.mounts.specs.Uri.{IsUri}
use Rattle.session_state.specs.declared.act.Act.{Act}
use Rattle.session_state.specs.declared.given.Given.{Given}
use Rattle.session_state.specs.declared.entry.Entry.{Entry}
use Rattle.session_state.specs.declared.entry.Entry.TheVariants.{Request}
use Rattle.session_state.specs.declared.method.Method.{Method}
use Rattle.session_state.specs.declared.method.Method.TheVariants as methods
use Rattle.session_state.specs.declared.session.State.{State}
use Rattle.session_state.specs.declared.session.State.TheVariants.{Ready}
use Rattle.session_state.specs.History.{History, Moment, accepts, accepts_from, how_many}
use Rattle.session_state.specs.Legal.{IsLegal, IsReplyOf}
use Rattle.session_state.specs.Lookups.{SetUpAt, beginning, has_session, last_seat, session_part, sessions_begun, state_by, state_of}
use Rattle.session_state.specs.Methods.{is_announce, is_setup, is_teardown, moves}
use Rattle.session_state.specs.Replies.{IsSetUp, identifier_of}
use Rattle.session_state.specs.Streams.{SetsUp}
use Rattle.session_state.proofs.AcceptedEntries.{IsAcceptedEntry, accepted_entry, begins_so, ends_none, of_method, of_own, part_moves}
use Rattle.session_state.proofs.Announced.{accepted_as}
use Rattle.session_state.proofs.Parts.{beginning_on, part_still}
use Rattle.request_text.specs.declared.request_text.RequestText.{RequestText}
use Rattle.request_text.specs.Methods.{body_of}
use Rattle.request_text.specs.Texts.{request_of}
use Rattle.client_laws.specs.Phases.{IsAnnounced, IsInSession, IsMountOf, Owns}
use Rattle.client_laws.specs.Publishing.{AsksAnnounce, AsksOptions, AsksSetup, CanBePublished, Publication, track_count}
use Rattle.client_laws.proofs.Accepting.{none_kept}
use Rattle.client_laws.proofs.Keeping.{Spares, owns_still}
use Rattle.client_laws.proofs.Naming.{sets_own}
use Rattle.client_laws.proofs.OwnMount.{found_own}
use Rattle.client_laws.proofs.Named.{announce_named, asked_for, options_named, setup_named}

none_there : (found : Option Moment) → is_some found ≡ false → found ≡ None
none_there None is = refl
none_there (Some moment) is = absurd (cc)

module _ (seats conn : ℕ) (publication : Publication) (can : CanBePublished publication) (history : History) (request : RequestText) (given : Given) (reply : Reply) (act : Act) (ok : code_of reply.status ≡ 200) where
  abbrev entry : Entry
  entry = Request conn (request_of request) given reply act

  abbrev here : Moment
  here = record { entry = entry; before = history }

  -- ANNOUNCE: the mount lives
  pub announced_now : AsksAnnounce publication request → has_session conn history ≡ false → IsAnnounced conn publication (Request conn (request_of request) given reply act ∷ history)
  announced_now asks none =
      let is = accepted_entry conn (request_of request) given reply act methods.Announce ok (announce_named request publication asks) in
      record {
        owns = record {
          number = how_many (accepts is_announce) history + 1;
          live = record {
            later = [];
            moment = here;
            nth = record { cut = refl; is = of_method conn methods.Announce entry is is_announce; counted = refl };
            owned = of_own conn methods.Announce entry is is_announce;
            unended = tt;
          };
          announced = record {
            asks = record { request = request_of request; given = given; reply = reply; act = act; is = refl };
            target = publication.target;
            uri = subst (λ text. IsUri text (At publication.target)) (sym asks.2.uri_is) can.uri;
            path = refl;
            body = subst (λ text. Reads text publication.description) (sym (ap body_of asks.2.kind_is ∙ asks.1)) can.body;
          };
        };
        no_session = ap (λ moments. is_some (beginning conn moments)) (part_still conn entry history (ends_none conn methods.Announce entry is conn refl) (of_own conn methods.Announce entry is moves)) ∙ none;
      }

  -- a request that moves the session leaves it on its mount, in the state that its method leads to
  module _ (method : Method) (is : IsAcceptedEntry conn method (Request conn (request_of request) given reply act)) (plain : is_teardown method ≡ false) (moving : moves method ≡ true) where
    more : session_part conn (entry ∷ history) ≡ here ∷ session_part conn history
    more = part_moves conn method entry is history plain moving

    state_then : (state : State) → state_by method (last_seat (here ∷ session_part conn history)) ≡ Some state → state_of (session_part conn (entry ∷ history)) ≡ Some state
    state_then state leaves = ap state_of more ∙ ap (λ found. option_and_then (λ (one : ℕ × Method). state_by one.1 (last_seat (here ∷ session_part conn history))) found) is.is ∙ leaves

    owns_then : Owns conn publication history → Owns conn publication (entry ∷ history)
    owns_then owns = owns_still conn publication history entry (ends_none conn method entry is conn plain) owns

    pub moved : (told : Option (List ℕ)) (before state : State) → state_by method (last_seat (record { entry = Request conn (request_of request) given reply act; before = history } ∷ session_part conn history)) ≡ Some state
        → IsInSession seats conn publication told before history → IsInSession seats conn publication told state (Request conn (request_of request) given reply act ∷ history)
    unfolding owns_then owns_still
    moved told before state leaves was = record {
      owns = owns_then was.owns;
      begin = was.begin;
      first = ap (beginning conn) more ∙ beginning_on conn here (session_part conn history) ∙ ap (λ found. option_or found (cond (accepts_from conn is_setup entry) (Some here) None)) was.first;
      of_mount = was.of_mount;
      word = was.word;
      word_is = was.word_is;
      told_is = was.told_is;
      state_is = state_then state leaves;
    }

    -- where there was no session, it begins
    begun_first : has_session conn history ≡ false → is_setup method ≡ true → beginning conn (session_part conn (entry ∷ history)) ≡ Some here
    begun_first none sets =
        ap (beginning conn) more ∙ beginning_on conn here (session_part conn history)
        ∙ ap (λ found. option_or found (cond (accepts_from conn is_setup entry) (Some here) None)) (none_there (beginning conn (session_part conn history)) none)
        ∙ ap (λ b. cond b (Some here) None) (of_own conn method entry is is_setup ∙ sets)

  -- the first SETUP: the session begins
  pub begun : (track : ℕ) (told : Option (List ℕ)) → IsLegal seats history → (was : IsAnnounced conn publication history) → track < track_count publication → AsksSetup publication track told request
      → IsReplyOf seats history conn (request_of request) given reply act → IsInSession seats conn publication reply.fields.session Ready (Request conn (request_of request) given reply act ∷ history)
  unfolding owns_then owns_still
  begun track told legal was there asks answer = record {
    owns = owns_then methods.Setup is refl refl was.owns;
    begin = here;
    first = begun_first methods.Setup is refl refl was.no_session refl;
    of_mount = mounted;
    word = given.word;
    word_is = refl;
    told_is = ap (λ (r : Reply). r.fields.session) set.is ∙ ap (λ s. Some (unwrap_or (option_map identifier_of s) (identifier_text (sessions_begun history + 1) given.word))) none
        ∙ ap (λ n. Some (identifier_text n given.word)) (sym counted);
    state_is = state_then methods.Setup is refl refl Ready refl;
  }
    where
      is : IsAcceptedEntry conn methods.Setup entry
      is = accepted_entry conn (request_of request) given reply act methods.Setup ok (setup_named request publication track told asks)

      set : IsSetUp (asked_for seats conn history request answer.mounts answer.session) given reply
      set = (accepted_as (asked_for seats conn history request answer.mounts answer.session) given reply act methods.Setup answer.answered ok (setup_named request publication track told asks)).1.0

      none : answer.session ≡ None
      none = none_kept seats conn history answer.session answer.looks_up.session was.no_session

      one_more : suc (sessions_begun history) ≡ sessions_begun history + 1
      one_more = omega arith

      counted : sessions_begun (entry ∷ history) ≡ sessions_begun history + 1
      counted = begins_so conn methods.Setup entry is history ∙ ap (λ has. cond (not has) (suc (sessions_begun history)) (sessions_begun history)) was.no_session ∙ one_more

      mounted : (mount : Mount) (of : ℕ) → SetUpAt seats conn mount of here → IsMountOf conn publication was.owns.number mount
      mounted mount of at =
          let same_entry = at.is in
          let same : at.request ≡ request_of request = cc in
          let found = found_own seats conn publication history legal was.owns at.mounts at.live in
          let sets = subst (λ (r : messages.Request). SetsUp at.mounts conn r.uri mount of) same at.sets_up in
          let one = sets_own conn publication can request at.mounts was.owns.number track told found there asks mount of sets in
          subst (IsMountOf conn publication was.owns.number) (sym one) found.is.of

  -- OPTIONS changes nothing
  pub options_spare : (told : Option (List ℕ)) → AsksOptions publication told request → Spares conn (Request conn (request_of request) given reply act)
  options_spare told asks =
      let is = accepted_entry conn (request_of request) given reply act methods.Options ok (options_named request publication told asks) in
      record {
        mount = ends_none conn methods.Options entry is conn refl;
        session = ends_none conn methods.Options entry is conn refl;
        state = of_own conn methods.Options entry is moves;
        no_announce = of_own conn methods.Options entry is is_announce;
      }
