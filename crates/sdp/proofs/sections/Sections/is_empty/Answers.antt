use Rattle.std.proofs.Common.{List, length, ◌==◌, sym, ap, ◌∙◌}
use Rattle.sdp.specs.declared.track.Track.{Track}
use Rattle.sdp.proofs.Cuts.{not_zero}
use Rattle.sdp.proofs.Goods.{announced_some}
use Rattle.sdp.proofs.sections.Sections.is_empty.Goals as goal

pub returns-then-is_empty-clause-no : goal.returns-then-is_empty-clause-no
returns-then-is_empty-clause-no c h =
    announced_some c.args.self.now.session c.args.self.now.tracks c.requires.track_parts
    (not_zero _ (ap (λ (ts : List Track). length ts == 0) (sym c.as_slice-then-is_empty.ensures) ∙ sym c.is_empty-then-is_empty.ensures ∙ h))
