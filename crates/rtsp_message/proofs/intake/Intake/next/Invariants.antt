use Rattle.std.proofs.Common.{◌≡◌, ◌⊎◌, ◌+◌, ◌≤◌, length}
use Rattle.rtsp_message.specs.declared.intake.Next.{Next}
use Rattle.rtsp_message.specs.Intakes.{IsOver, weight}
use Rattle.rtsp_message.proofs.Prompting.{SoFar}
use Rattle.rtsp_message.proofs.intake.Intake.next.Given as goal

-- no unit is handed out yet, and where it was over it still is
abbrev pub invariant-loop-unit : goal.invariant-loop-unit
invariant-loop-unit g l =
    ((l.self ≡ l.fn.self) ⊎ SoFar g.S.Source.gives g.S.Source.incoming l.fn.self l.self)
    × ((answer : Next) → IsOver g.S.Source.failed l.fn.self answer → IsOver g.S.Source.failed l.self answer)
    × (weight g.S.Source.bound l.self ≤ weight g.S.Source.bound l.fn.self)

abbrev pub decreases-loop-unit : goal.decreases-loop-unit
decreases-loop-unit g l = g.S.Source.bound l.self.source + length l.self.held
