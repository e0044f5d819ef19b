-- What an accepted request has passed and is answered; of an ANNOUNCE: its connection owned no mount, and its name was no mount's.
use Rattle.std.proofs.Common.{◌≡◌, ◌≢◌, ℕ, ◌==◌, ◌&&◌, Bool, true, false, cond, inl, inr, Option, None, Some, refl, ap, sym, subst, ◌∙◌}
use Rattle.std.specs.List.{position_or_len}
use Rattle.std.specs.Option.{option_map, option_map_or}
use Rattle.std.proofs.lemmas.Bool.{eq-eqb, eqb-true}
use Rattle.std.proofs.lemmas.List.Folds.{find_at}
use Rattle.rtsp_message.specs.declared.request.Request as messages
use Rattle.rtsp_message.specs.declared.reply.Reply.{Reply}
use Rattle.rtsp_message.specs.Reply.{code_of}
use Rattle.mounts.specs.declared.mount.Mount.{Mount}
use Rattle.mounts.specs.Mounts.{named}
use Rattle.mounts.proofs.Differing.{key_at, none_has}
use Rattle.session_state.specs.declared.act.Act.{Act}
use Rattle.session_state.specs.declared.given.Given.{Given}
use Rattle.session_state.specs.declared.entry.Entry.TheVariants.{Request}
use Rattle.session_state.specs.declared.method.Method.{Method}
use Rattle.session_state.specs.declared.method.Method.TheVariants as methods
use Rattle.session_state.specs.Methods.{is_announce, method_of}
use Rattle.session_state.specs.History.{History, accepts_from}
use Rattle.session_state.specs.declared.checks.Check.{Check}
use Rattle.session_state.specs.declared.checks.Check.TheVariants.{HasCSeq, HasVersion, HasMethod, RequiresNothing, HasUri, HasItsSession, NamesAStream, FitsState, HasNoBody, AcceptsSdp, MayAnnounce, HasSdpType, IsDescription, HasFewTracks, HasRoomForMount, OwnsNoOther, NamesATrack, HasTransport, MayRecord, HasRoomForSession, IsForPlaying, IsForRecording, IsAggregate, HasFreeSeat}
use Rattle.session_state.specs.Checks.{Asked, Passes, PassesAll, checks_of}
use Rattle.session_state.specs.Legal.{IsAnswered, IsReplyOf}
use Rattle.session_state.specs.Replies.{IsAccepted, status_of}
use Rattle.session_state.specs.Streams.{IsLive}

-- no refusal has status 200
pub refused_otherwise : (check : Check) → (code_of (status_of check) == 200) ≡ false
refused_otherwise HasCSeq = refl
refused_otherwise HasVersion = refl
refused_otherwise HasMethod = refl
refused_otherwise RequiresNothing = refl
refused_otherwise (HasUri method) = refl
refused_otherwise (HasItsSession method) = refl
refused_otherwise (NamesAStream method) = refl
refused_otherwise (FitsState method) = refl
refused_otherwise HasNoBody = refl
refused_otherwise AcceptsSdp = refl
refused_otherwise MayAnnounce = refl
refused_otherwise HasSdpType = refl
refused_otherwise IsDescription = refl
refused_otherwise HasFewTracks = refl
refused_otherwise HasRoomForMount = refl
refused_otherwise OwnsNoOther = refl
refused_otherwise NamesATrack = refl
refused_otherwise HasTransport = refl
refused_otherwise MayRecord = refl
refused_otherwise HasRoomForSession = refl
refused_otherwise IsForPlaying = refl
refused_otherwise IsForRecording = refl
refused_otherwise IsAggregate = refl
refused_otherwise HasFreeSeat = refl

-- An accepted request of a connection, of this method.
pub record IsAcceptedOf (conn : ℕ) (request : messages.Request) (reply : Reply) (who : ℕ) (asks : Method) : Type 0 where
  pub by : who ≡ conn
  pub ok : code_of reply.status ≡ 200
  pub method : method_of request.method ≡ Some asks

pub accepted_of : (such : Method → Bool) (asks : Method) → ((method : Method) → such method ≡ true → method ≡ asks) → (conn who : ℕ) (request : messages.Request) (given : Given) (reply : Reply) (act : Act)
    → accepts_from conn such (Request who request given reply act) ≡ true → IsAcceptedOf conn request reply who asks
accepted_of such asks only conn who request given reply act is = by (code_of reply.status == 200) refl (method_of request.method) refl is
  where
    by : (ok : Bool) → (code_of reply.status == 200) ≡ ok → (method : Option Method) → method_of request.method ≡ method
        → option_map_or (λ (one : ℕ × Method). one.0 == conn && such one.1) (cond ok (option_map (λ one. (who, one)) method) None) false ≡ true → IsAcceptedOf conn request reply who asks
    by true ok None named is = absurd (cc)
    by true ok (Some method) named is = of (who == conn) refl is
      where
        of : (same : Bool) → (who == conn) ≡ same → (same && such method) ≡ true → IsAcceptedOf conn request reply who asks
        of true same is = record { by = eqb-true who conn same; ok = eqb-true (code_of reply.status) 200 ok; method = named ∙ ap Some (only method is) }
        of false same is = absurd (cc)
    by false ok method named is = absurd (cc)

pub is_announce_of : (conn who : ℕ) (request : messages.Request) (given : Given) (reply : Reply) (act : Act) → accepts_from conn is_announce (Request who request given reply act) ≡ true
    → IsAcceptedOf conn request reply who methods.Announce
is_announce_of = accepted_of is_announce methods.Announce only_announce
  where
    only_announce : (method : Method) → is_announce method ≡ true → method ≡ methods.Announce
    only_announce methods.Announce is = refl
    only_announce method is = absurd (cc)

-- a request that is answered 200 has passed its method's checks, and is answered as the method has it
pub accepted_as : (asked : Asked) (given : Given) (reply : Reply) (act : Act) (method : Method) → IsAnswered asked given reply act → code_of reply.status ≡ 200 → method_of asked.request.method ≡ Some method
    → PassesAll asked (checks_of (Some method)) × IsAccepted asked method given reply act
accepted_as asked given reply act method (inl (check, fails, is, none)) ok named =
    let same = eq-eqb (code_of (status_of check)) 200 (sym (ap (λ (r : Reply). code_of r.status) is) ∙ ok) in let other = refused_otherwise check in absurd (cc)
accepted_as asked given reply act method (inr (asks, by, passes, is)) ok named = subst (λ m. PassesAll asked (checks_of (Some m)) × IsAccepted asked m given reply act) one (passes, is)
  where
    one : asks ≡ method
    one = let same = sym by ∙ named in cc

-- what an accepted ANNOUNCE has passed
pub passed : (asked : Asked) (given : Given) (reply : Reply) (act : Act) → IsAnswered asked given reply act → code_of reply.status ≡ 200 → method_of asked.request.method ≡ Some methods.Announce
    → Passes asked MayAnnounce
passed asked given reply act is ok named = (accepted_as asked given reply act methods.Announce is ok named).0.1.1.1.1.1.1.1.1.0

-- a connection that announces a mount owned none
pub owned_none : (seats : ℕ) (before : History) (who conn : ℕ) (request : messages.Request) (given : Given) (reply : Reply) (act : Act) (number : ℕ)
    → IsReplyOf seats before who request given reply act → accepts_from conn is_announce (Request who request given reply act) ≡ true → IsLive before number conn → ⊥
owned_none seats before who conn request given reply act number is announces live =
    let of = is_announce_of conn who request given reply act announces in
    let free = passed (record { seats = seats; history = before; conn = who; request = request; mounts = is.mounts; session = is.session }) given reply act is.answered of.ok of.method in
    let found = is.looks_up.mounts.all number conn live in
    let there = sym (find_at (λ mount. mount.number == number) is.mounts) ∙ found.1 in
    let others = none_has (λ (mount : Mount). mount.owner) who is.mounts free.1.first in
    key_at (λ (mount : Mount). mount.owner) (λ owner. owner ≢ who) is.mounts (position_or_len (λ mount. mount.number == number) is.mounts) found.0 others there (found.2 ∙ sym of.by)
