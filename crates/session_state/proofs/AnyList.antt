-- What a request is answered doesn't go by how the mounts that live are listed.
use Rattle.std.proofs.Common.{ℕ, List, [], ◌∷◌, inl, inr, IsSome, Option, None, Some, sym, subst, ◌∙◌, arith}
use Rattle.rtsp_message.specs.declared.request.Request as messages
use Rattle.rtsp_message.specs.declared.reply.Reply.{Reply}
use Rattle.mounts.specs.declared.mount.Mount.{Mount}
use Rattle.mounts.specs.declared.target.Target.{Target}
use Rattle.mounts.specs.Mounts.{named, numbered}
use Rattle.session_state.specs.declared.act.Act.{Act}
use Rattle.session_state.specs.declared.checks.Check.{Check}
use Rattle.session_state.specs.declared.checks.Check.TheVariants.{HasCSeq, HasVersion, HasMethod, RequiresNothing, HasUri, HasItsSession, NamesAStream, FitsState, HasNoBody, AcceptsSdp, MayAnnounce, HasSdpType, IsDescription, HasFewTracks, HasRoomForMount, OwnsNoOther, NamesATrack, HasTransport, MayRecord, HasRoomForSession, IsForPlaying, IsForRecording, IsAggregate, HasFreeSeat}
use Rattle.session_state.specs.declared.given.Given.{Given}
use Rattle.session_state.specs.declared.method.Method.{Method}
use Rattle.session_state.specs.declared.method.Method.TheVariants as methods
use Rattle.session_state.specs.declared.session.Session.{Session}
use Rattle.session_state.specs.Checks.{Asked, FailsFirst, IsFreeName, NamesForSetup, NamesInSession, NamesMount, NamesOfSession, NamesSome, NamesTrackOf, Passes, PassesAll, checks_of}
use Rattle.session_state.specs.History.{History}
use Rattle.session_state.specs.Legal.{IsAnswered, IsLegal}
use Rattle.session_state.specs.Methods.{method_of}
use Rattle.session_state.specs.Replies.{IsAccepted}
use Rattle.session_state.specs.Streams.{AreLive}
use Rattle.session_state.proofs.Listed.{Agree, agreeing, set_up_on_too, sets_up_too, turned}

module _ (seats : ℕ) (history : History) (conn : ℕ) (request : messages.Request) (session : Option Session) where
  -- the request, with these as the mounts that live
  abbrev pub listing : List Mount → Asked
  listing mounts = record { seats = seats; history = history; conn = conn; request = request; mounts = mounts; session = session }

  module _ (mounts others : List Mount) (agree : Agree mounts others) where
    mount_too : (target : Target) (mount : Mount) → NamesMount (listing mounts) target mount → NamesMount (listing others) target mount
    mount_too target mount is = record { uri = is.uri; is = sym (agree.names target.path) ∙ is.is }

    for_setup_too : (target : Target) (mount : Mount) (rest : Option (List ℕ)) → NamesForSetup (listing mounts) target mount rest → NamesForSetup (listing others) target mount rest
    for_setup_too target mount rest is = record {
      uri = is.uri;
      on = set_up_on_too mounts others agree conn target.path mount.number rest is.on;
      is = sym (agree.numbers mount.number) ∙ is.is;
      track = is.track;
      same = is.same;
    }

    track_too : (one : Session) (target : Target) (rest : List ℕ) (track : ℕ) → NamesTrackOf (listing mounts) one target rest track → NamesTrackOf (listing others) one target rest track
    track_too one target rest track (inl (records, mount, at, names)) = inl (records, mount, sym (agree.numbers one.mount) ∙ at, names)
    track_too one target rest track (inr (plays, is)) = inr (plays, is)

    of_session_too : (one : Session) (target : Target) (track : Option ℕ) → NamesOfSession (listing mounts) one target track → NamesOfSession (listing others) one target track
    of_session_too one target None is = is
    of_session_too one target (Some track) (rest, goes, names, some) = (rest, goes, track_too one target rest track names, some)

    in_session_too : (one : Session) (target : Target) (track : Option ℕ) → NamesInSession (listing mounts) one target track → NamesInSession (listing others) one target track
    in_session_too one target track is = record { has = is.has; uri = is.uri; names = of_session_too one target track is.names }

    there_too : (number : ℕ) → IsSome (numbered number mounts) → IsSome (numbered number others)
    there_too number some = subst (λ (found : Option Mount). IsSome found) (agree.numbers number) some

    some_too : (method : Method) → NamesSome (listing mounts) method → NamesSome (listing others) method
    some_too methods.Describe (target, mount, is) = (target, mount, mount_too target mount is)
    some_too methods.Setup (target, mount, rest, is) = (target, mount, rest, for_setup_too target mount rest is)
    some_too methods.Play (one, target, track, is, some) = (one, target, track, in_session_too one target track is, there_too one.mount some)
    some_too methods.Record (one, target, track, is, some) = (one, target, track, in_session_too one target track is, there_too one.mount some)
    some_too methods.Pause (one, target, track, is) = (one, target, track, in_session_too one target track is)
    some_too methods.Teardown (one, target, track, is) = (one, target, track, in_session_too one target track is)
    some_too methods.Options is = tt
    some_too methods.Announce is = tt
    some_too methods.GetParameter is = tt

    free_too : (target : Target) → IsFreeName (listing mounts) target → IsFreeName (listing others) target
    free_too target is = record { uri = is.uri; first = sym (agree.owners conn) ∙ is.first; name = is.name; plain = is.plain; free = sym (agree.names target.path) ∙ is.free }

  module _ (mounts others : List Mount) (agree : Agree mounts others) where
    back : Agree others mounts
    back = turned mounts others agree

    passes_too : (check : Check) → Passes (listing mounts) check → Passes (listing others) check
    passes_too HasCSeq is = is
    passes_too HasVersion is = is
    passes_too HasMethod is = is
    passes_too RequiresNothing is = is
    passes_too (HasUri method) is = is
    passes_too (HasItsSession method) is = record { named = is.named; needed = is.needed }
    passes_too (NamesAStream method) is = some_too mounts others agree method is
    passes_too (FitsState method) is = is
    passes_too HasNoBody is = is
    passes_too AcceptsSdp is = is
    passes_too MayAnnounce (target, is) = (target, free_too mounts others agree target is)
    passes_too HasSdpType is = is
    passes_too IsDescription is = is
    passes_too HasFewTracks is = is
    passes_too HasRoomForMount is = record { few = let few = is.few in let count = agree.count in omega (arith, few, count); left = is.left }
    passes_too OwnsNoOther is = λ target mount rest own names owned. is target mount rest own (for_setup_too others mounts back target mount rest names) (agree.owners conn ∙ owned)
    passes_too NamesATrack (mount, track, is) = (mount, track, sets_up_too mounts others agree conn request.uri mount track is)
    passes_too HasTransport is = is
    passes_too MayRecord is = λ target mount rest spec names asks records. is target mount rest spec (for_setup_too others mounts back target mount rest names) asks records
    passes_too HasRoomForSession is = is
    passes_too IsForPlaying is = is
    passes_too IsForRecording is = is
    passes_too IsAggregate (one, target, track, is, all) = (one, target, track, in_session_too mounts others agree one target track is, all)
    passes_too HasFreeSeat is = is

    all_too : (checks : List Check) → PassesAll (listing mounts) checks → PassesAll (listing others) checks
    all_too [] passes = tt
    all_too (check ∷ checks) passes = (passes_too check passes.0, all_too checks passes.1)

    accepted_too : (method : Method) (given : Given) (reply : Reply) (act : Act) → IsAccepted (listing mounts) method given reply act → IsAccepted (listing others) method given reply act
    accepted_too methods.Options given reply act is = is
    accepted_too methods.GetParameter given reply act is = is
    accepted_too methods.Describe given reply act ((target, mount, names, is), none) = ((target, mount, mount_too mounts others agree target mount names, is), none)
    accepted_too methods.Announce given reply act is = is
    accepted_too methods.Setup given reply act (is, none) = (
      record {
        mount = is.mount;
        track = is.track;
        sets_up = sets_up_too mounts others agree conn request.uri is.mount is.track is.sets_up;
        text = is.text;
        transport = is.transport;
        used = is.used;
        others = is.others;
        chosen = is.chosen;
        is_chosen = is.is_chosen;
        is = is.is;
      },
      none,
    )
    accepted_too methods.Play given reply act is = record {
      session = is.session;
      target = is.target;
      track = is.track;
      names = in_session_too mounts others agree is.session is.target is.track is.names;
      is = is.is;
      does = is.does;
    }
    accepted_too methods.Record given reply act is = is
    accepted_too methods.Pause given reply act is = is
    accepted_too methods.Teardown given reply act is = is

  fails_too : (mounts others : List Mount) → Agree mounts others → (checks : List Check) (check : Check) → FailsFirst (listing mounts) checks check → FailsFirst (listing others) checks check
  fails_too mounts others agree [] check fails = absurd (fails)
  fails_too mounts others agree (one ∷ checks) check (inl (is, fails)) = inl (is, λ passes. fails (passes_too others mounts (turned mounts others agree) one passes))
  fails_too mounts others agree (one ∷ checks) check (inr (passes, later)) = inr (passes_too mounts others agree one passes, fails_too mounts others agree checks check later)

  pub answered_too : (mounts others : List Mount) → IsLegal seats history → AreLive seats history mounts → AreLive seats history others → (given : Given) (reply : Reply) (act : Act)
      → IsAnswered (listing mounts) given reply act → IsAnswered (listing others) given reply act
  answered_too mounts others legal are also given reply act = by
    where
      agree : Agree mounts others
      agree = agreeing seats history legal mounts others are also

      by : IsAnswered (listing mounts) given reply act → IsAnswered (listing others) given reply act
      by (inl (check, fails, is, none)) = inl (check, fails_too mounts others agree (checks_of (method_of request.method)) check fails, is, none)
      by (inr (method, named, passes, is)) = inr (method, named, all_too mounts others agree (checks_of (Some method)) passes, accepted_too mounts others agree method given reply act is)
