use Rattle.std.proofs.Common.{ℕ, Option, inl, refl, subst}
use Rattle.session_state.specs.Asking.{IsNamedInSession}
use Rattle.session_state.proofs.CheckedPlay.{not_aggregate}
use Rattle.session_state.proofs.checks.asking.Asking.on_all_tracks.Goals as goal

pub returns-else-is_only : goal.returns-else-is_only
returns-else-is_only c =
    let named = subst (λ (track : Option ℕ). IsNamedInSession c.args.self.now c.requires.0 c.args.named.session.now track) c.in-Some.is c.requires.1 in
    λ history told. inl (refl, not_aggregate c.args.self.now c.requires.0 c.args.named.session.now c.in-Some.track named c.if-is_only.ensures history told)
