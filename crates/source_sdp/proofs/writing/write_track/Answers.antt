use Rattle.source_sdp.specs.Announced.{media_line, control_line}
use Rattle.source_sdp.proofs.Texts.{track_text}
use Rattle.source_sdp.proofs.writing.write_track.Goals as goal

pub returns : goal.returns
returns c =
    rw (c.in_ok-write_control.ensures, c.in_ok-write_lines.ensures, c.as_slice.ensures, c.in_ok-write_media_line.ensures)
    (track_text c.args.out.now.items (media_line c.args.track.now) c.args.track.now.attributes (control_line c.args.number))
