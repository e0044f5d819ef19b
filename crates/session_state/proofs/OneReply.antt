-- A request gets one reply, whatever seat it takes.
use Rattle.std.proofs.Common.{◌≡◌, ℕ, zero, suc, ◌+◌, ◌<◌, ◌==◌, ◌↔◌, true, List, [], ◌∷◌, length, inl, inr, IsSome, Option, None, Some, refl, ap, sym, subst, ◌∙◌, arith}
use Rattle.std.specs.List.{Contains}
use Rattle.rtsp_message.specs.declared.reply.Reply.{Reply}
use Rattle.sdp.specs.Written.{description_text}
use Rattle.transport_header.specs.declared.chosen.Chosen.{Chosen}
use Rattle.transport_header.specs.declared.spec.ChannelPair.{ChannelPair}
use Rattle.transport_header.specs.declared.spec.Spec.{Spec}
use Rattle.transport_header.specs.Chosen.{AreUnused, IsChosen, IsGiven, IsLeastFree, transport_text}
use Rattle.transport_header.specs.Tracks.{IsOfOther, pair_at}
use Rattle.transport_header.specs.Transport.{specs_of}
use Rattle.transport_header.proofs.OneChoice.{one_choice}
use Rattle.mounts.specs.declared.mount.Mount.{Mount}
use Rattle.mounts.specs.declared.target.Target.{Target}
use Rattle.mounts.specs.declared.uri.Uri.TheVariants.{At}
use Rattle.mounts.specs.Mounts.{named}
use Rattle.mounts.specs.Tracks.{IsNamedByOwner}
use Rattle.mounts.specs.Uri.{IsUri}
use Rattle.mounts.proofs.Controls.{control_injective}
use Rattle.mounts.proofs.Firsts.{found_all}
use Rattle.mounts.proofs.OneAnswer.{named_once, one_rest, one_uri}
use Rattle.session_state.specs.declared.act.Act.{Act}
use Rattle.session_state.specs.declared.checks.Check.{Check}
use Rattle.session_state.specs.declared.given.Given.{Given}
use Rattle.session_state.specs.declared.method.Method.{Method}
use Rattle.session_state.specs.declared.method.Method.TheVariants as methods
use Rattle.session_state.specs.declared.session.Session.{Session}
use Rattle.session_state.specs.Methods.{method_of}
use Rattle.session_state.specs.Checks.{Asked, FailsFirst, LooksUp, NamesOfSession, NamesTrackOf, PassesAll, checks_of}
use Rattle.session_state.specs.Fields.{sdp_type}
use Rattle.session_state.specs.Legal.{IsAcceptedBy, IsAnswered, IsLegal, IsRefusedBy}
use Rattle.session_state.specs.Lookups.{IsSessionOf}
use Rattle.session_state.specs.Replies.{IsAccepted, IsDescribed, IsPlayed, IsSetUp, accepting, channels_in, identifier_told, info_at, info_field, infos, no_fields, refusal, told_session, url_for}
use Rattle.session_state.specs.Streams.{IsLiveMount}
use Rattle.session_state.proofs.CheckedNames.{one_behind}
use Rattle.session_state.proofs.Listed.{one_set_up}
use Rattle.session_state.proofs.OneAnswer.{few_tracks}

-- the first check that isn't passed is one
one_failure : (asked : Asked) (checks : List Check) (one other : Check) → FailsFirst asked checks one → FailsFirst asked checks other → one ≡ other
one_failure asked [] one other a b = absurd (a)
one_failure asked (check ∷ checks) one other (inl (is, fails)) (inl (so, also)) = is ∙ sym so
one_failure asked (check ∷ checks) one other (inl (is, fails)) (inr (passes, later)) = absurd (fails passes)
one_failure asked (check ∷ checks) one other (inr (passes, later)) (inl (so, fails)) = absurd (fails passes)
one_failure asked (check ∷ checks) one other (inr (passes, later)) (inr (also, last)) = one_failure asked checks one other later last

pub fails_or_passes : (asked : Asked) (checks : List Check) (one : Check) → FailsFirst asked checks one → PassesAll asked checks → ⊥
fails_or_passes asked [] one fails passes = fails
fails_or_passes asked (check ∷ checks) one (inl (is, fails)) passes = fails passes.0
fails_or_passes asked (check ∷ checks) one (inr (also, later)) passes = fails_or_passes asked checks one later passes.1

-- what is chosen goes by which channels are used, and not by how they are listed
module _ (used other : List ℕ) (same : (channel : ℕ) → Contains used channel ↔ Contains other channel) where
  unused_too : (a b : ℕ) → AreUnused used a b → AreUnused other a b
  unused_too a b is = ((λ has. is.0 ((same a).1 has)), (λ has. is.1 ((same b).1 has)))

  unused_back : (a b : ℕ) → AreUnused other a b → AreUnused used a b
  unused_back a b is = ((λ has. is.0 ((same a).0 has)), (λ has. is.1 ((same b).0 has)))

  least_too : (rtp rtcp : ℕ) → IsLeastFree used rtp rtcp → IsLeastFree other rtp rtcp
  least_too rtp rtcp is = (is.0, (is.1.0, unused_too rtp (rtp + 1) is.1.1), (λ e free. is.2 e (free.0, unused_back e (e + 1) free.1)))

  given_too : (asks : Option ChannelPair) (rtp rtcp : ℕ) → IsGiven used asks rtp rtcp → IsGiven other asks rtp rtcp
  given_too None rtp rtcp is = least_too rtp rtcp is
  given_too (Some pair) rtp rtcp is = (
    (λ usable. is.0 (usable.0, unused_back pair.first pair.second usable.1)),
    (λ not_usable. least_too rtp rtcp (is.1 (λ usable. not_usable (usable.0, unused_too pair.first pair.second usable.1)))),
  )

  chosen_too : (specs : List Spec) (chosen : Chosen) → IsChosen specs used (Some chosen) → IsChosen specs other (Some chosen)
  chosen_too specs chosen is = (is.0, is.1, given_too is.0.interleaved chosen.rtp chosen.rtcp is.2, is.3)

-- who has channels is one of the tracks
below : (pairs : List (Option ChannelPair)) (track : ℕ) → IsSome (pair_at pairs track) → track < length pairs
below [] track some = absurd (cc)
below (pair ∷ pairs) zero some = omega arith
below (pair ∷ pairs) (suc track) some = let less = below pairs track some in omega (arith, less)

module _ (asked : Asked) (looks : LooksUp asked) (legal : IsLegal asked.seats asked.history) where
  one_target : (target other : Target) → IsUri asked.request.uri (At target) → IsUri asked.request.uri (At other) → target ≡ other
  one_target target other a b = let is = one_uri asked.request.uri (At target) (At other) a b in cc

  of_rest : (session : Session) (target : Target) (rest : List ℕ) (track other : ℕ) → track < 16 → other < 16 → NamesTrackOf asked session target rest track → NamesTrackOf asked session target rest other → track ≡ other
  of_rest session target rest track other low small (inl (records, mount, at, names)) (inl (also, second, there, calls)) =
      let same : second ≡ mount = cc in
      let lives = found_all (IsLiveMount asked.seats asked.history) (λ m. m.number == session.mount) asked.mounts mount looks.mounts.each at in
      named_once true target rest mount.description.tracks track other (few_tracks asked.seats asked.history legal mount lives) names
      (subst (λ (m : Mount). IsNamedByOwner target rest m.description.tracks other) same calls)
  of_rest session target rest track other low small (inl (records, mount, at, names)) (inr (plays, is)) = absurd (cc)
  of_rest session target rest track other low small (inr (plays, is)) (inl (records, mount, at, names)) = absurd (cc)
  of_rest session target rest track other low small (inr (plays, is)) (inr (also, so)) = control_injective track other (omega (arith, low)) (omega (arith, small)) (sym is ∙ so)

  one_track : (session : Session) → asked.session ≡ Some session → (target : Target) (track other : Option ℕ) → NamesOfSession asked session target track → NamesOfSession asked session target other → track ≡ other
  one_track session has target None None a b = refl
  one_track session has target None (Some other) a (rest, goes, names, some) = let both = one_behind target.path session.name None (Some rest) a goes in absurd (cc)
  one_track session has target (Some track) None (rest, goes, names, some) b = let both = one_behind target.path session.name (Some rest) None goes b in absurd (cc)
  one_track session has target (Some track) (Some other) (rest, goes, names, some) (behind, on, calls, too) =
      let tracks = (subst (IsSessionOf asked.seats asked.conn asked.history) has looks.session).tracks in
      let low = below session.channels track some in
      let small = below session.channels other too in
      let same = one_rest target.path session.name rest behind goes on in
      ap Some (of_rest session target rest track other (omega (arith, low, tracks)) (omega (arith, small, tracks)) names (subst (λ r. NamesTrackOf asked session target r other) (sym same) calls))

  one_description : (given : Given) (one other : Reply) → IsDescribed asked one → IsDescribed asked other → one ≡ other
  one_description given one other (target, mount, names, is) (second, found, calls, so) =
      let same = one_target target second names.uri calls.uri in
      let at = names.is in
      let there : named target.path asked.mounts ≡ Some found = ap (λ (t : Target). named t.path asked.mounts) same ∙ calls.is in
      let mount_is : mount ≡ found = cc in
      is ∙ ap (λ (t : Target). accepting asked (record no_fields { session = told_session asked; content_base = Some t.base; content_type = Some sdp_type }) (description_text mount.description)) same
      ∙ ap (λ (m : Mount). accepting asked (record no_fields { session = told_session asked; content_base = Some second.base; content_type = Some sdp_type }) (description_text m.description)) mount_is ∙ sym so

  one_transport : (given : Given) (one other : Reply) → IsSetUp asked given one → IsSetUp asked given other → one ≡ other
  one_transport given one other a b =
      let same = one_set_up asked.seats asked.history legal asked.mounts asked.mounts looks.mounts looks.mounts asked.conn asked.request.uri a.mount b.mount a.track b.track a.sets_up b.sets_up in
      let first = a.transport in
      let second = b.transport in
      let text : b.text ≡ a.text = cc in
      let others : (channel : ℕ) → Contains b.used channel ↔ IsOfOther (channels_in asked.session) a.track channel =
      subst (λ t. (channel : ℕ) → Contains b.used channel ↔ IsOfOther (channels_in asked.session) t channel) (sym same.1) b.others in
      let chosen = chosen_too b.used a.used (λ channel. ((λ has. (a.others channel).1 ((others channel).0 has)), (λ has. (others channel).1 ((a.others channel).0 has))))
      (specs_of a.text) b.chosen (subst (λ t. IsChosen (specs_of t) b.used (Some b.chosen)) text b.is_chosen) in
      let one_chosen = one_choice (specs_of a.text) a.used (Some a.chosen) (Some b.chosen) a.is_chosen chosen in
      let chosen_is : a.chosen ≡ b.chosen = cc in
      a.is ∙ ap (λ (c : Chosen). accepting asked (record no_fields { session = Some (identifier_told asked given); transport = Some (transport_text (record c { recording = a.mount.owner == asked.conn })) }) []) chosen_is
      ∙ ap (λ owner. accepting asked (record no_fields { session = Some (identifier_told asked given); transport = Some (transport_text (record b.chosen { recording = owner == asked.conn })) }) []) (ap (λ (m : Mount). m.owner) same.0) ∙ sym b.is

  one_play : (given : Given) (one other : Reply) (act behind : Act) → IsPlayed asked given one act → IsPlayed asked given other behind → one ≡ other
  one_play given one other act behind a b =
      let first = a.names.has in
      let second = b.names.has in
      let session : b.session ≡ a.session = cc in
      let target = one_target a.target b.target a.names.uri b.names.uri in
      let track = one_track a.session first a.target a.track b.track a.names.names
      (subst (λ (t : Target). NamesOfSession asked a.session t b.track) (sym target) (subst (λ (s : Session). NamesOfSession asked s b.target b.track) session b.names.names)) in
      let reply : Session → Target → Option ℕ → Reply =
      λ s t which. accepting asked (record no_fields { session = told_session asked; rtp_info = info_field (infos (info_at s (url_for asked.request.uri t which) given.points) 0 16) }) [] in
      a.is ∙ ap (λ s. reply s a.target a.track) (sym session) ∙ ap (λ t. reply b.session t a.track) target ∙ ap (reply b.session b.target) track ∙ sym b.is

  one_accepted : (method : Method) (given : Given) (one other : Reply) (act behind : Act) → IsAccepted asked method given one act → IsAccepted asked method given other behind → one ≡ other
  one_accepted methods.Options given one other act behind a b = a.0 ∙ sym b.0
  one_accepted methods.GetParameter given one other act behind a b = a.0 ∙ sym b.0
  one_accepted methods.Describe given one other act behind a b = one_description given one other a.0 b.0
  one_accepted methods.Announce given one other act behind a b = a.0 ∙ sym b.0
  one_accepted methods.Setup given one other act behind a b = one_transport given one other a.0 b.0
  one_accepted methods.Play given one other act behind a b = one_play given one other act behind a b
  one_accepted methods.Record given one other act behind a b = a.0 ∙ sym b.0
  one_accepted methods.Pause given one other act behind a b = a.0 ∙ sym b.0
  one_accepted methods.Teardown given one other act behind a b = a.0 ∙ sym b.0

  pub no_both : (given : Given) (one other : Reply) (act behind : Act) → IsRefusedBy asked one act → IsAcceptedBy asked given other behind → ⊥
  no_both given one other act behind (check, fails, is, none) (method, named, passes, so) = fails_or_passes asked (checks_of (Some method)) check (subst (λ m. FailsFirst asked (checks_of m) check) named fails) passes

  pub one_reply : (given : Given) (one other : Reply) (act behind : Act) → IsAnswered asked given one act → IsAnswered asked given other behind → one ≡ other
  one_reply given one other act behind (inl (check, fails, is, none)) (inl (second, breaks, so, nothing)) =
      is ∙ ap (refusal asked) (one_failure asked (checks_of (method_of asked.request.method)) check second fails breaks) ∙ sym so
  one_reply given one other act behind (inl refused) (inr accepted) = absurd (no_both given one other act behind refused accepted)
  one_reply given one other act behind (inr accepted) (inl refused) = absurd (no_both given other one behind act refused accepted)
  one_reply given one other act behind (inr (method, named, passes, is)) (inr (second, called, also, so)) =
      let same : second ≡ method = cc in
      one_accepted method given one other act behind is (subst (λ m. IsAccepted asked m given other behind) same so)
