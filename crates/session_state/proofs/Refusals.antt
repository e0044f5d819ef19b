-- What a refused request leaves: everything.
use Rattle.std.proofs.Common.{◌≡◌, ◌≢◌, ℕ, suc, ◌==◌, ◌&&◌, Bool, false, cond, not, List, ◌∷◌, inl, inr, Option, None, ap}
use Rattle.std.specs.Option.{option_map, option_map_or}
use Rattle.rtsp_message.specs.declared.request.Request as messages
use Rattle.rtsp_message.specs.declared.reply.Reply.{Reply}
use Rattle.rtsp_message.specs.Reply.{code_of}
use Rattle.mounts.specs.declared.mount.Mount.{Mount}
use Rattle.mounts.proofs.Differing.{unequal}
use Rattle.session_state.specs.declared.act.Act.{Act}
use Rattle.session_state.specs.declared.act.Act.TheVariants as acts
use Rattle.session_state.specs.declared.given.Given.{Given}
use Rattle.session_state.specs.declared.entry.Entry.{Entry}
use Rattle.session_state.specs.declared.entry.Entry.TheVariants.{Request}
use Rattle.session_state.specs.declared.method.Method.{Method}
use Rattle.session_state.specs.declared.method.Method.TheVariants as methods
use Rattle.session_state.specs.declared.session.Session.{Session}
use Rattle.session_state.specs.Methods.{is_announce, is_setup, is_teardown, method_of, moves}
use Rattle.session_state.specs.History.{History, accepted, accepts, accepts_from, how_many, is_play_of}
use Rattle.session_state.specs.Checks.{Asked}
use Rattle.session_state.specs.Legal.{IsAnswered, IsReplyOf}
use Rattle.session_state.specs.Lookups.{IsSessionOf, has_session, sessions_begun}
use Rattle.session_state.specs.Replies.{IsAccepted}
use Rattle.session_state.specs.Streams.{AreLive, ends_mount_of, is_out, takes_or_gives_back}
use Rattle.session_state.proofs.Living.{each_of, mounts_still, out_still}
use Rattle.session_state.proofs.Parts.{part_still, session_still}

-- what accepts a request has status 200
pub accepted_ok : (asked : Asked) (method : Method) (given : Given) (reply : Reply) (act : Act) → IsAccepted asked method given reply act → code_of reply.status ≡ 200
accepted_ok asked methods.Options given reply act is = ap (λ (r : Reply). code_of r.status) is.0
accepted_ok asked methods.GetParameter given reply act is = ap (λ (r : Reply). code_of r.status) is.0
accepted_ok asked methods.Describe given reply act is = ap (λ (r : Reply). code_of r.status) is.0.3
accepted_ok asked methods.Announce given reply act is = ap (λ (r : Reply). code_of r.status) is.0
accepted_ok asked methods.Setup given reply act is = ap (λ (r : Reply). code_of r.status) is.0.is
accepted_ok asked methods.Play given reply act is = ap (λ (r : Reply). code_of r.status) is.is
accepted_ok asked methods.Record given reply act is = ap (λ (r : Reply). code_of r.status) is.0
accepted_ok asked methods.Pause given reply act is = ap (λ (r : Reply). code_of r.status) is.0
accepted_ok asked methods.Teardown given reply act is = ap (λ (r : Reply). code_of r.status) is.0

answered_none : (asked : Asked) (given : Given) (reply : Reply) (act : Act) → IsAnswered asked given reply act → code_of reply.status ≢ 200 → act ≡ acts.None
answered_none asked given reply act (inl (check, fails, is, none)) refused = none
answered_none asked given reply act (inr (method, named, passes, is)) refused = absurd (refused (accepted_ok asked method given reply act is))

module _ (seats : ℕ) (before : History) (conn : ℕ) (request : messages.Request) (given : Given) (reply : Reply) (act : Act) (is : IsReplyOf seats before conn request given reply act)
    (refused : code_of reply.status ≢ 200) where
  abbrev entry : Entry
  entry = Request conn request given reply act

  pub does_nothing : act ≡ acts.None
  does_nothing = answered_none (record { seats = seats; history = before; conn = conn; request = request; mounts = is.mounts; session = is.session }) given reply act is.answered refused

  none_accepted : accepted entry ≡ None
  none_accepted = ap (λ b. cond b (option_map (λ method. (conn, method)) (method_of request.method)) None) (unequal (code_of reply.status) 200 refused)

  accepts_none : (such : Method → Bool) → accepts such entry ≡ false
  accepts_none such = ap (λ found. option_map_or (λ (one : ℕ × Method). such one.1) found false) none_accepted

  accepts_none_from : (who : ℕ) (such : Method → Bool) → accepts_from who such entry ≡ false
  accepts_none_from who such = ap (λ found. option_map_or (λ (one : ℕ × Method). one.0 == who && such one.1) found false) none_accepted

  moves_none : (mount seat : ℕ) → takes_or_gives_back mount seat entry ≡ false
  moves_none mount seat = ap (is_play_of mount seat) does_nothing

  pub keeps_mounts : (mounts : List Mount) → AreLive seats before mounts → AreLive seats (Request conn request given reply act ∷ before) mounts
  keeps_mounts mounts are =
      mounts_still seats before entry mounts (record { plain = accepts_none is_announce; seats = moves_none }) (each_of (λ mount. ends_mount_of mount.owner entry ≡ false) mounts (λ mount. accepts_none_from mount.owner is_teardown)) are

  pub keeps_sessions : (who : ℕ) (session : Option Session) → IsSessionOf seats who before session → IsSessionOf seats who (Request conn request given reply act ∷ before) session
  keeps_sessions who session so = session_still seats who before (entry ∷ before) session (part_still who entry before (accepts_none_from who is_teardown) (accepts_none_from who moves)) so

  pub keeps_seats : (mount seat : ℕ) → is_out mount seat (Request conn request given reply act ∷ before) ≡ is_out mount seat before
  keeps_seats mount seat = out_still before entry mount seat (moves_none mount seat)

  pub begins_none : sessions_begun (Request conn request given reply act ∷ before) ≡ sessions_begun before
  begins_none = ap (λ found. cond (option_map_or (λ (one : ℕ × Method). is_setup one.1 && not (has_session one.0 before)) found false) (suc (sessions_begun before)) (sessions_begun before)) none_accepted

  pub announces_none : how_many (accepts is_announce) (Request conn request given reply act ∷ before) ≡ how_many (accepts is_announce) before
  announces_none = ap (λ is. cond is (suc (how_many (accepts is_announce) before)) (how_many (accepts is_announce) before)) (accepts_none is_announce)
