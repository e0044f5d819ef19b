use Rattle.std.proofs.Common.{◌≡◌, rules, ap, sym, subst}
use Rattle.source_sdp.specs.declared.sorting.Sorted.{Sorted}
use Rattle.source_sdp.specs.Usable.{AreUsable}
use Rattle.source_sdp.specs.Readings.{sorted_in}
use Rattle.source_sdp.proofs.Usables.{usable_in}
use Rattle.source_sdp.proofs.reading.read_text.Goals as goal

pub invariant_of-result : goal.invariant_of-result
invariant_of-result c =
    let same : c.in_ok-tracks.field-0 ≡ sorted_in c.args.bytes.now = search rules in
    record { usable = subst AreUsable (sym (ap (λ (sorted : Sorted). sorted.tracks) same)) (usable_in c.args.bytes.now) }
