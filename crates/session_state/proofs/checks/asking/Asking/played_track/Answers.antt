use Rattle.std.proofs.Common.{◌≡◌, Some, IsSome, unwrap_or, rules, sym, subst, ◌∙◌}
use Rattle.mounts.specs.Names.{GoesOn}
use Rattle.transport_header.specs.Tracks.{pair_at}
use Rattle.session_state.specs.Asking.{asked_in}
use Rattle.session_state.specs.Checks.{NamesOfSession}
use Rattle.session_state.proofs.CheckedSession.{played_alone, played_named}
use Rattle.session_state.proofs.checks.asking.Asking.played_track.Goals as goal

pub returns-then-is_none : goal.returns-then-is_none
returns-then-is_none c =
    let on : GoesOn c.args.target.now.path c.args.session.now.name (Some c.in_ok-rest.rest.now) = search rules in
    let read = c.track_number.ensures in
    λ history told other h.
    let same : other ≡ unwrap_or c.track_number.result 16 =
    played_alone (asked_in c.args.self.now history) c.args.session.now c.args.target.now c.in_ok-rest.rest.now c.track_number.result other c.requires on c.pair_of.ensures.tracks read.below read.some read.none h in
    let number = c.unwrap_or-track.ensures in
    let set_up : IsSome (pair_at c.args.session.now.channels c.unwrap_or-track.result) = subst (λ t. IsSome (pair_at c.args.session.now.channels t)) (same ∙ sym number) h.3 in
    let value = c.pair_of.ensures.value in
    let none = c.if-is_none.ensures in
    absurd (cc)

pub returns : goal.returns
returns c =
    let on : GoesOn c.args.target.now.path c.args.session.now.name (Some c.in_ok-rest.rest.now) = search rules in
    let read = c.track_number.ensures in
    let number = c.unwrap_or-track.ensures in
    let set_up : IsSome (pair_at c.args.session.now.channels c.unwrap_or-track.result) = subst IsSome c.pair_of.ensures.value c.if-is_none.ensures in
    λ history told. (
      subst (λ t. NamesOfSession (asked_in c.args.self.now history) c.args.session.now c.args.target.now (Some t)) (sym number)
          (played_named (asked_in c.args.self.now history) c.args.session.now c.args.target.now c.in_ok-rest.rest.now c.track_number.result c.requires on c.pair_of.ensures.tracks read.some
          (subst (λ t. IsSome (pair_at c.args.session.now.channels t)) number set_up)),
      (λ other h.
          played_alone (asked_in c.args.self.now history) c.args.session.now c.args.target.now c.in_ok-rest.rest.now c.track_number.result other c.requires on c.pair_of.ensures.tracks read.below read.some read.none h
          ∙ sym number),
    )
