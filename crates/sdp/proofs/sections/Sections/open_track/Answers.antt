use Rattle.std.proofs.Common.{arith, inr, ◌<◌, length}
use Rattle.sdp.specs.Media.{MediaLine, media_line}
use Rattle.sdp.proofs.Goods.{opened}
use Rattle.sdp.proofs.MediaForms.{media_tells, no_media_named}
use Rattle.sdp.proofs.sections.Sections.open_track.Goals as goal

pub returns-in_default-clause-fault : goal.returns-in_default-clause-fault
returns-in_default-clause-fault c = inr (record {
  opens = record { later = c.requires.later; field = c.requires.field; begins = c.requires.opens };
  nothing = no_media_named c.args.line.now c.in_default.ensures.none;
})

pub returns-then-is_full-clause-fault : goal.returns-then-is_full-clause-fault
returns-then-is_full-clause-fault c =
    let named : MediaLine = media_line c.in-Some.media.now c.in-Some.formats.now in inr (record {
      opens = record { later = c.requires.later; field = c.requires.field; begins = c.requires.opens };
      named = named;
      names = media_tells c.args.line.now named c.in-Some.ensures.some;
      sixteen = omega (arith, c.requires.good.few, c.if-is_full.true, c.len-is_full.ensures);
    })

pub returns-clause-good : goal.returns-clause-good
returns-clause-good c =
    let few : length c.args.self.now.tracks < 16 = omega (arith, c.if-is_full.false, c.len-is_full.ensures) in
    (opened {old = c.args.self.now} c.args.line.now c.in_ok-track.track (media_line c.in-Some.media.now c.in-Some.formats.now) c.push.new.self c.requires.good c.requires.later c.requires.field c.requires.opens
    c.in-Some.ensures.some c.in_ok-track.ensures.media c.in_ok-track.ensures.formats c.in_ok-track.ensures.control c.in_ok-track.ensures.lines few c.in_ok-push.ensures.ok).1

pub returns-clause-kept : goal.returns-clause-kept
returns-clause-kept c =
    let few : length c.args.self.now.tracks < 16 = omega (arith, c.if-is_full.false, c.len-is_full.ensures) in
    (opened {old = c.args.self.now} c.args.line.now c.in_ok-track.track (media_line c.in-Some.media.now c.in-Some.formats.now) c.push.new.self c.requires.good c.requires.later c.requires.field c.requires.opens
    c.in-Some.ensures.some c.in_ok-track.ensures.media c.in_ok-track.ensures.formats c.in_ok-track.ensures.control c.in_ok-track.ensures.lines few c.in_ok-push.ensures.ok).0
