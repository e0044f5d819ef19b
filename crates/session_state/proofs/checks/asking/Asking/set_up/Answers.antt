use Rattle.std.proofs.Common.{[], ◌∷◌, IsSome, refl, sym, subst}
use Rattle.std.proofs.lemmas.Result.{err_from_is_err_and}
use Rattle.session_state.specs.declared.checks.Check.TheVariants.{FitsState, HasItsSession, HasRoomForSession, HasTransport, HasUri, MayRecord, NamesAStream, NamesATrack, OwnsNoOther, RequiresNothing}
use Rattle.session_state.specs.declared.method.Method.TheVariants.{Setup}
use Rattle.session_state.proofs.Checked.{passing_both, refused_within}
use Rattle.session_state.proofs.CheckedMethods.{session_fits, sets_up}
use Rattle.session_state.proofs.checks.asking.Asking.set_up.Goals as goal

pub returns-in_err-in_fitting_state : goal.returns-in_err-in_fitting_state
returns-in_err-in_fitting_state c =
    let p = err_from_is_err_and c.from_residual-in_err-in_fitting_state.result c.from_residual-in_err-in_fitting_state.ensures.1 in
    let named = passing_both c.args.self.now (RequiresNothing ∷ HasUri Setup ∷ HasItsSession Setup ∷ []) (NamesAStream Setup ∷ []) c.in_ok-target.ensures.1 (sets_up c.args.self.now c.in_ok-target.target c.in_ok-named.named.mount.now c.in_ok-named.named.track c.in_ok-named.ensures) in
    rw (p.1, p.2) (refused_within c.args.self.now (RequiresNothing ∷ HasUri Setup ∷ HasItsSession Setup ∷ NamesAStream Setup ∷ []) (FitsState Setup ∷ []) (OwnsNoOther ∷ NamesATrack ∷ HasTransport ∷ MayRecord ∷ HasRoomForSession ∷ []) _ named c.in_err-in_fitting_state.ensures)

pub returns-in_err-track : goal.returns-in_err-track
returns-in_err-track c =
    let p = err_from_is_err_and c.from_residual-in_err-track.result c.from_residual-in_err-track.ensures.1 in
    let named = passing_both c.args.self.now (RequiresNothing ∷ HasUri Setup ∷ HasItsSession Setup ∷ []) (NamesAStream Setup ∷ []) c.in_ok-target.ensures.1 (sets_up c.args.self.now c.in_ok-target.target c.in_ok-named.named.mount.now c.in_ok-named.named.track c.in_ok-named.ensures) in
    let fits = passing_both c.args.self.now (RequiresNothing ∷ HasUri Setup ∷ HasItsSession Setup ∷ NamesAStream Setup ∷ []) (FitsState Setup ∷ []) named c.in_ok-in_fitting_state.ensures in
    rw (p.1, p.2) (refused_within c.args.self.now (RequiresNothing ∷ HasUri Setup ∷ HasItsSession Setup ∷ NamesAStream Setup ∷ FitsState Setup ∷ []) (OwnsNoOther ∷ NamesATrack ∷ []) (HasTransport ∷ MayRecord ∷ HasRoomForSession ∷ []) _ fits c.in_err-track.ensures)

pub returns-in_err-specs : goal.returns-in_err-specs
returns-in_err-specs c =
    let p = err_from_is_err_and c.from_residual-in_err-specs.result c.from_residual-in_err-specs.ensures.1 in
    let named = passing_both c.args.self.now (RequiresNothing ∷ HasUri Setup ∷ HasItsSession Setup ∷ []) (NamesAStream Setup ∷ []) c.in_ok-target.ensures.1 (sets_up c.args.self.now c.in_ok-target.target c.in_ok-named.named.mount.now c.in_ok-named.named.track c.in_ok-named.ensures) in
    let fits = passing_both c.args.self.now (RequiresNothing ∷ HasUri Setup ∷ HasItsSession Setup ∷ NamesAStream Setup ∷ []) (FitsState Setup ∷ []) named c.in_ok-in_fitting_state.ensures in
    let track = passing_both c.args.self.now (RequiresNothing ∷ HasUri Setup ∷ HasItsSession Setup ∷ NamesAStream Setup ∷ FitsState Setup ∷ []) (OwnsNoOther ∷ NamesATrack ∷ []) fits c.in_ok-track.ensures.2 in
    rw (p.1, p.2) (refused_within c.args.self.now (RequiresNothing ∷ HasUri Setup ∷ HasItsSession Setup ∷ NamesAStream Setup ∷ FitsState Setup ∷ OwnsNoOther ∷ NamesATrack ∷ []) (HasTransport ∷ MayRecord ∷ []) (HasRoomForSession ∷ []) _ track c.in_err-specs.ensures)

pub returns : goal.returns
returns c =
    let named = passing_both c.args.self.now (RequiresNothing ∷ HasUri Setup ∷ HasItsSession Setup ∷ []) (NamesAStream Setup ∷ []) c.in_ok-target.ensures.1 (sets_up c.args.self.now c.in_ok-target.target c.in_ok-named.named.mount.now c.in_ok-named.named.track c.in_ok-named.ensures) in
    let fits = passing_both c.args.self.now (RequiresNothing ∷ HasUri Setup ∷ HasItsSession Setup ∷ NamesAStream Setup ∷ []) (FitsState Setup ∷ []) named c.in_ok-in_fitting_state.ensures in
    let track = passing_both c.args.self.now (RequiresNothing ∷ HasUri Setup ∷ HasItsSession Setup ∷ NamesAStream Setup ∷ FitsState Setup ∷ []) (OwnsNoOther ∷ NamesATrack ∷ []) fits c.in_ok-track.ensures.2 in
    let specs = passing_both c.args.self.now (RequiresNothing ∷ HasUri Setup ∷ HasItsSession Setup ∷ NamesAStream Setup ∷ FitsState Setup ∷ OwnsNoOther ∷ NamesATrack ∷ []) (HasTransport ∷ MayRecord ∷ []) track c.in_ok-specs.ensures.2 in
    let set_up = c.in_ok-track.ensures.0 in
    let text = c.in_ok-specs.ensures.0 in
    record {
      method_is = refl;
      passes = passing_both c.args.self.now (RequiresNothing ∷ HasUri Setup ∷ HasItsSession Setup ∷ NamesAStream Setup ∷ FitsState Setup ∷ OwnsNoOther ∷ NamesATrack ∷ HasTransport ∷ MayRecord ∷ []) (HasRoomForSession ∷ []) specs (session_fits c.args.self.now c.in_ok-with_number_for_session.ensures);
      finds = λ history told. (c.in_ok-named.named.mount.now, refl, set_up, text.0, text.1, text.2);
      there = (subst IsSome (sym set_up.is) refl, c.in_ok-track.ensures.1, c.in_ok-specs.ensures.1, c.in_ok-with_number_for_session.ensures);
    }
