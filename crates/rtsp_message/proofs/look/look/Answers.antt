use Rattle.std.proofs.Common.{◌-◌, drop, subst, arith, length-drop}
use Rattle.rtsp_message.specs.Knowns.{IsKnown}
use Rattle.rtsp_message.proofs.Looking.{frame_looked, message_looked}
use Rattle.rtsp_message.proofs.look.look.Goals as goal

pub returns-in-Dollar-clause-found : goal.returns-in-Dollar-clause-found
returns-in-Dollar-clause-found c = c.look_frame_head.ensures.found c.args.peer

pub returns-in-Frame-clause-found : goal.returns-in-Frame-clause-found
returns-in-Frame-clause-found c =
    let bytes = drop c.args.from c.args.store.now.bytes in
    frame_looked c.args.peer bytes c.in-Frame.len (c.len.result - c.args.from) c.look_frame.result (subst (IsKnown c.args.peer bytes) c.in-Frame.is c.requires.known) (omega (arith, length-drop c.args.from c.args.store.now.bytes)) c.look_frame.ensures.whole c.look_frame.ensures.waits

pub returns-in-Message-clause-found : goal.returns-in-Message-clause-found
returns-in-Message-clause-found c =
    let bytes = drop c.args.from c.args.store.now.bytes in
    message_looked c.args.peer bytes c.in-Message.head c.in-Message.len (c.len.result - c.args.from) c.look_message.result (subst (IsKnown c.args.peer bytes) c.in-Message.is c.requires.known) (omega (arith, length-drop c.args.from c.args.store.now.bytes)) c.look_message.ensures.whole c.look_message.ensures.waits
