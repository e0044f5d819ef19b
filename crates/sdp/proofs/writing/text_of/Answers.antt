use Rattle.sdp.proofs.Texts.{whole_text}
use Rattle.sdp.proofs.writing.text_of.Goals as goal

pub returns : goal.returns
returns c =
    rw (c.in_ok-write_tracks.ensures, c.as_slice-2.ensures, c.in_ok-write_control.ensures, c.in_ok-write_lines.ensures, c.as_slice.ensures, c.in_ok-out.ensures.items)
    (whole_text c.args.sections.now)
