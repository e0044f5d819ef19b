use Rattle.rtsp_message.specs.Knowns.{looks_for}
use Rattle.rtsp_message.proofs.Keeping.{pad_step, frame_step, message_step}
use Rattle.rtsp_message.proofs.peer_reader.read_units.Goals as goal

pub loop-len-preserved-in-Pad : goal.loop-len-preserved-in-Pad
loop-len-preserved-in-Pad c =
    pad_step c.args.peer c.args.store.now c.loop-len.store c.look.new.store c.loop-len.units.items c.loop-len.len (looks_for c.args.known) c.loop-len.known c.loop-len.invariant.0 c.loop-len.invariant.2 c.in-Pad.ensures.counts c.in-Pad.ensures.found

pub loop-len-preserved-in-Frame : goal.loop-len-preserved-in-Frame
loop-len-preserved-in-Frame c =
    frame_step c.args.peer c.args.store.now c.loop-len.store c.look.new.store c.loop-len.units.items c.push.new.self.items c.loop-len.len c.in-Frame.size (looks_for c.args.known) c.loop-len.known c.in_ok-frame-in-Frame.frame
    c.loop-len.invariant.0 c.loop-len.invariant.2 c.in-Frame.ensures.counts c.in-Frame.ensures.found c.in_ok-frame-in-Frame.ensures c.in_ok-push-in-Frame.ensures.items

pub loop-len-preserved : goal.loop-len-preserved
loop-len-preserved c =
    message_step c.args.peer c.args.store.now c.loop-len.store c.look.new.store c.cut_message.new.store c.loop-len.units.items c.push-in-Message.new.self.items c.loop-len.len c.in-Message.head c.in-Message.size (looks_for c.args.known) c.loop-len.known
    c.in_ok-request-in-Message.request c.loop-len.invariant.0 c.loop-len.invariant.2 c.in-Message.ensures.counts c.in_ok-request-in-Message.ensures.counts c.in-Message.ensures.found c.in_ok-request-in-Message.ensures.ok c.in_ok-push-in-Message.ensures.items
