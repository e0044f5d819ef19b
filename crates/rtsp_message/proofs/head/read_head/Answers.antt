use Rattle.std.proofs.Common.{inl, inr, subst}
use Rattle.rtsp_message.specs.Heads.{GoesOn, LeavesHeaders, HasBadStartLine}
use Rattle.rtsp_message.specs.Fronts.{IsBlock}
use Rattle.rtsp_message.proofs.HeadParts.{bad_first, good_first, bad_after, whole_head}
use Rattle.rtsp_message.proofs.head.read_head.Goals as goal

pub unfinished-requires : goal.unfinished-requires
unfinished-requires c = subst (GoesOn c.args.peer) c.head_window-window.ensures (inl c.in_default.ensures.none)

pub returns-in_default-read_start_line : goal.returns-in_default-read_start_line
returns-in_default-read_start_line c = subst (HasBadStartLine c.args.peer) c.head_window-window.ensures (bad_first c.args.peer c.in-Some.ensures.some c.in_default-read_start_line.ensures.none)

pub unfinished-requires-in-Unfinished : goal.unfinished-requires-in-Unfinished
unfinished-requires-in-Unfinished c =
    let leaves = subst (IsBlock c.in-Some.rest.now) c.in-Unfinished.is c.in_ok-headers.ensures in
    subst (GoesOn c.args.peer) c.head_window-window.ensures (inr (good_first c.args.peer LeavesHeaders _ _ _ c.in-Some.ensures.some c.in-Some-read_start_line.ensures.some leaves))

pub returns-in_ok-request-in-Ended : goal.returns-in_ok-request-in-Ended
returns-in_ok-request-in-Ended c =
    let block = subst (IsBlock c.in-Some.rest.now) c.in-Ended.is c.in_ok-headers.ensures in
    whole_head c.args.peer c.args.bytes.now c.in-Ended.len c.head_window-window.ensures c.in-Some.ensures.some c.in-Some-read_start_line.ensures.some block
    (record {
      method = c.in_ok-request-in-Ended.ensures.method;
      uri = c.in_ok-request-in-Ended.ensures.uri;
      version = c.in_ok-request-in-Ended.ensures.version;
      cseq = c.in_ok-request-in-Ended.ensures.cseq;
      headers = c.in_ok-request-in-Ended.ensures.headers;
    })

pub returns-in-Bad : goal.returns-in-Bad
returns-in-Bad c =
    let bad = subst (IsBlock c.in-Some.rest.now) c.in-Bad.is c.in_ok-headers.ensures in
    bad_after c.args.peer c.args.bytes.now _ _ _ c.in-Bad.fault c.head_window-window.ensures c.in-Some.ensures.some c.in-Some-read_start_line.ensures.some bad
