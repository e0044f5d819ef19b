use Rattle.std.proofs.Common.{[], ◌∷◌, IsSome, refl, sym, subst}
use Rattle.std.proofs.lemmas.Result.{err_from_is_err_and}
use Rattle.session_state.specs.declared.checks.Check.TheVariants.{FitsState, HasFreeSeat, HasItsSession, HasUri, IsAggregate, IsForPlaying, NamesAStream, RequiresNothing}
use Rattle.session_state.specs.declared.method.Method.TheVariants.{Play}
use Rattle.session_state.proofs.Checked.{passing_both, refused_within}
use Rattle.session_state.proofs.checks.asking.Asking.play.Goals as goal

pub returns-in_err-for_playing : goal.returns-in_err-for_playing
returns-in_err-for_playing c =
    let p = err_from_is_err_and c.from_residual-in_err-for_playing.result c.from_residual-in_err-for_playing.ensures.1 in
    let named = passing_both c.args.self.now (RequiresNothing ∷ HasUri Play ∷ HasItsSession Play ∷ []) (NamesAStream Play ∷ FitsState Play ∷ []) c.in_ok-target.ensures.1 c.in_ok-named.ensures.named.1 in
    rw (p.1, p.2) (refused_within c.args.self.now (RequiresNothing ∷ HasUri Play ∷ HasItsSession Play ∷ NamesAStream Play ∷ FitsState Play ∷ []) (IsForPlaying ∷ []) (IsAggregate ∷ HasFreeSeat ∷ []) _ named c.in_err-for_playing.ensures)

pub returns-in_err-on_all_tracks : goal.returns-in_err-on_all_tracks
returns-in_err-on_all_tracks c =
    let p = err_from_is_err_and c.from_residual-in_err-on_all_tracks.result c.from_residual-in_err-on_all_tracks.ensures.1 in
    let named = passing_both c.args.self.now (RequiresNothing ∷ HasUri Play ∷ HasItsSession Play ∷ []) (NamesAStream Play ∷ FitsState Play ∷ []) c.in_ok-target.ensures.1 c.in_ok-named.ensures.named.1 in
    let playing = passing_both c.args.self.now (RequiresNothing ∷ HasUri Play ∷ HasItsSession Play ∷ NamesAStream Play ∷ FitsState Play ∷ []) (IsForPlaying ∷ []) named c.in_ok-for_playing.ensures in
    rw (p.1, p.2) (refused_within c.args.self.now (RequiresNothing ∷ HasUri Play ∷ HasItsSession Play ∷ NamesAStream Play ∷ FitsState Play ∷ IsForPlaying ∷ []) (IsAggregate ∷ []) (HasFreeSeat ∷ []) _ playing c.in_err-on_all_tracks.ensures)

pub returns-in_err-with_free_seat : goal.returns-in_err-with_free_seat
returns-in_err-with_free_seat c =
    let p = err_from_is_err_and c.from_residual-in_err-with_free_seat.result c.from_residual-in_err-with_free_seat.ensures.1 in
    let named = passing_both c.args.self.now (RequiresNothing ∷ HasUri Play ∷ HasItsSession Play ∷ []) (NamesAStream Play ∷ FitsState Play ∷ []) c.in_ok-target.ensures.1 c.in_ok-named.ensures.named.1 in
    let playing = passing_both c.args.self.now (RequiresNothing ∷ HasUri Play ∷ HasItsSession Play ∷ NamesAStream Play ∷ FitsState Play ∷ []) (IsForPlaying ∷ []) named c.in_ok-for_playing.ensures in
    let all = passing_both c.args.self.now (RequiresNothing ∷ HasUri Play ∷ HasItsSession Play ∷ NamesAStream Play ∷ FitsState Play ∷ IsForPlaying ∷ []) (IsAggregate ∷ []) playing c.in_ok-on_all_tracks.ensures in
    rw (p.1, p.2) (refused_within c.args.self.now (RequiresNothing ∷ HasUri Play ∷ HasItsSession Play ∷ NamesAStream Play ∷ FitsState Play ∷ IsForPlaying ∷ IsAggregate ∷ []) (HasFreeSeat ∷ []) [] _ all c.in_err-with_free_seat.ensures)

pub with_free_seat-requires-clause-live : goal.with_free_seat-requires-clause-live
with_free_seat-requires-clause-live c = c.in_ok-named.ensures.live refl

pub returns : goal.returns
returns c =
    let named = passing_both c.args.self.now (RequiresNothing ∷ HasUri Play ∷ HasItsSession Play ∷ []) (NamesAStream Play ∷ FitsState Play ∷ []) c.in_ok-target.ensures.1 c.in_ok-named.ensures.named.1 in
    let playing = passing_both c.args.self.now (RequiresNothing ∷ HasUri Play ∷ HasItsSession Play ∷ NamesAStream Play ∷ FitsState Play ∷ []) (IsForPlaying ∷ []) named c.in_ok-for_playing.ensures in
    let all = passing_both c.args.self.now (RequiresNothing ∷ HasUri Play ∷ HasItsSession Play ∷ NamesAStream Play ∷ FitsState Play ∷ IsForPlaying ∷ []) (IsAggregate ∷ []) playing c.in_ok-on_all_tracks.ensures in
    let is = c.in_ok-named.ensures.named.0 in
    record {
      method_is = refl;
      passes = passing_both c.args.self.now (RequiresNothing ∷ HasUri Play ∷ HasItsSession Play ∷ NamesAStream Play ∷ FitsState Play ∷ IsForPlaying ∷ IsAggregate ∷ []) (HasFreeSeat ∷ []) all c.in_ok-with_free_seat.ensures;
      finds = λ history told. (c.in_ok-named.named.session.now, is.names history told);
      there = subst IsSome (sym is.has) refl;
    }
