use Rattle.std.proofs.Common.{◌≡◌, ℕ, List, [], ◌∷◌, ◌++◌, ◌+◌, Option, MatchOption, ap, sym, subst, ◌∙◌, arith}
use Rattle.transport_header.specs.declared.rtp_info.InfoEntry.{InfoEntry}
use Rattle.session_state.specs.Replies.{info_at, url_for}
use Rattle.session_state.proofs.Infos.{Gathered, none_more, one_more}
use Rattle.session_state.proofs.replies.playing.infos_of.Goals as goal
use Rattle.session_state.proofs.replies.playing.infos_of.Goals.{in-Some+in_ok-push, in_default}

pub loop-track-preserved : goal.loop-track-preserved
loop-track-preserved c =
    let info : ℕ → List InfoEntry = info_at c.args.session.now (url_for c.args.request.now.uri c.args.target.now c.args.named) c.args.given.now.points in
    let track : ℕ = c.loop-track.track in
    let low = c.loop-track-test.true in
    elim c.match-branch-2.branch [
      | in-Some+in_ok-push w ↦
          let is : info track ≡ w.in-Some.entry ∷ [] = subst (λ (o : Option InfoEntry). MatchOption o (info track ≡ []) (λ entry. info track ≡ entry ∷ [])) w.in-Some.is c.in_ok-entry.ensures in
          let pushed = w.in_ok-push.ensures in
          let grown : c.match-branch-2.entries.items ≡ c.loop-track.entries.items ++ w.in-Some.entry ∷ [] = ap (λ e. e.items) w.entries-is ∙ pushed.items in
          subst (λ entries. Gathered info entries (track + 1)) (sym grown) (one_more info c.loop-track.entries.items w.in-Some.entry track (omega (arith, low)) is c.loop-track.invariant)
      | in_default w ↦
          let is : info track ≡ [] = subst (λ (o : Option InfoEntry). MatchOption o (info track ≡ []) (λ entry. info track ≡ entry ∷ [])) w.in_default.is c.in_ok-entry.ensures in
          subst (λ entries. Gathered info entries (track + 1)) (sym (ap (λ e. e.items) w.entries-is)) (none_more info c.loop-track.entries.items track (omega (arith, low)) is c.loop-track.invariant)
    ]
