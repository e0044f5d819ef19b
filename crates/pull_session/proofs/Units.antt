-- What becomes of what a source sends, unit by unit.
use Rattle.std.proofs.Common.{ℕ, List, [], ◌∷◌, ◌++◌, refl, subst}
use Rattle.rtsp_message.specs.declared.unit.Unit.{Unit as StreamUnit}
use Rattle.pull_session.specs.Passing.{PassState, TakesUnit, TakesUnits}

-- one more unit comes
pub takes_more : (units : List StreamUnit) (unit : StreamUnit) (now : ℕ) (a b c : PassState)
    → TakesUnits units now a b → TakesUnit unit now b c → TakesUnits (units ++ unit ∷ []) now a c
takes_more [] unit now a b c same takes = (c, subst (λ (state : PassState). TakesUnit unit now state c) same takes, refl)
takes_more (first ∷ units) unit now a b c takes next = (takes.0, takes.1, takes_more units unit now takes.0 b c takes.2 next)
