use Rattle.sdp.specs.Written.{without_controls}
use Rattle.sdp.proofs.Texts.{with_control}
use Rattle.sdp.proofs.writing.write_track.Goals as goal

pub returns : goal.returns
returns c =
    rw (c.in_ok-extend_from_slice-3.ensures.items, c.in_ok-extend_from_slice-2.ensures.items, c.as_bytes.ensures.value, c.format.ensures.text, c.in_ok-extend_from_slice.ensures.items, c.in_ok-write_lines.ensures, c.as_slice.ensures)
    (with_control c.args.out.now.items (without_controls c.args.track.now.lines) c.args.number)
