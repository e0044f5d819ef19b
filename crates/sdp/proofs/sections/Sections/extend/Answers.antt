use Rattle.std.proofs.Common.{arith, List, ℕ, [], ◌∷◌, ◌++◌, length, ◌==◌, sym, ap, ◌∙◌}
use Rattle.sdp.specs.declared.track.Track.{Track}
use Rattle.std.proofs.lemmas.Result.{on_ok_weaker}
use Rattle.sdp.proofs.Goods.{good_push, tracks_kept, last_tracks, last_length, session_pushed, nothing_in}
use Rattle.sdp.proofs.sections.Sections.extend.Goals as goal

pub returns-in_ok-from_slice-clause-good : goal.returns-in_ok-from_slice-clause-good
returns-in_ok-from_slice-clause-good c =
    on_ok_weaker c.push.result
    (λ e. (session_pushed {old = c.args.self.now} c.args.line.now c.push.new.self c.requires.good
    (nothing_in _ (ap (λ (ts : List Track). length ts == 0) (sym c.as_slice.ensures) ∙ sym c.is_empty.ensures ∙ c.if-is_empty.true))
    c.requires.first c.requires.field c.requires.plain (e ∙ ap (λ (l : List ℕ). c.args.self.now.session ++ l ∷ []) c.in_ok-from_slice.ensures)).1)
    c.push.ensures.ok

pub returns-in_ok-from_slice-clause-kept : goal.returns-in_ok-from_slice-clause-kept
returns-in_ok-from_slice-clause-kept c =
    on_ok_weaker c.push.result
    (λ e. (session_pushed {old = c.args.self.now} c.args.line.now c.push.new.self c.requires.good
    (nothing_in _ (ap (λ (ts : List Track). length ts == 0) (sym c.as_slice.ensures) ∙ sym c.is_empty.ensures ∙ c.if-is_empty.true))
    c.requires.first c.requires.field c.requires.plain (e ∙ ap (λ (l : List ℕ). c.args.self.now.session ++ l ∷ []) c.in_ok-from_slice.ensures)).0)
    c.push.ensures.ok

pub returns-else-is_empty-clause-good : goal.returns-else-is_empty-clause-good
returns-else-is_empty-clause-good c =
    on_ok_weaker c.extend_last.result
    (λ e. good_push {old = c.args.self.now} {line = c.args.line.now} c.requires.good (tracks_kept c.args.self.now.session c.args.line.now e) c.requires.first c.requires.field c.requires.good.session_part
    (last_tracks c.args.line.now e c.requires.good.track_parts c.requires.plain)
    (omega (arith, c.requires.good.few, last_length c.args.line.now e)))
    c.extend_last.ensures

pub returns-else-is_empty-clause-kept : goal.returns-else-is_empty-clause-kept
returns-else-is_empty-clause-kept c =
    on_ok_weaker c.extend_last.result (λ e. tracks_kept c.args.self.now.session c.args.line.now e) c.extend_last.ensures
