use Rattle.std.proofs.Common.{◌≡◌, ◌+◌, ◌-◌, List, ℕ, drop, ap, ◌∙◌, arith, length-drop}
use Rattle.std.specs.Prelude.{slice_index}
use Rattle.rtsp_message.specs.Stores.{StoreState}
use Rattle.rtsp_message.proofs.Looking.{dollar_waits, frame_looked, frame_start}
use Rattle.rtsp_message.proofs.look.look_frame_head.Goals as goal

pub returns-then-size-lt-FRAME_HEAD-clause-found : goal.returns-then-size-lt-FRAME_HEAD-clause-found
returns-then-size-lt-FRAME_HEAD-clause-found c peer =
    dollar_waits peer (drop c.args.from c.args.store.now.bytes) c.requires.begins (omega (arith, length-drop c.args.from c.args.store.now.bytes))

pub returns-clause-found : goal.returns-clause-found
returns-clause-found c peer =
    let bytes = c.args.store.now.bytes in
    let first : c.at-channel.new.self.bytes ≡ bytes = ap (λ (s : StoreState). s.bytes) c.at-channel.ensures.counts in
    let second : c.at-high.new.self.bytes ≡ bytes = ap (λ (s : StoreState). s.bytes) c.at-high.ensures.counts ∙ first in
    let high = c.at-high.ensures.byte ∙ ap (λ (l : List ℕ). slice_index l (c.args.from + 2)) first in
    let low = c.at-low.ensures.byte ∙ ap (λ (l : List ℕ). slice_index l (c.args.from + 3)) second in
    let start = frame_start bytes c.args.from c.frame_len.result c.at-high.result c.at-low.result c.requires.begins (omega arith) high low c.frame_len.ensures.value c.frame_len.ensures.most in
    frame_looked peer (drop c.args.from bytes) c.frame_len.result (c.len.result - c.args.from) c.look_frame.result start (omega (arith, length-drop c.args.from bytes)) c.look_frame.ensures.whole c.look_frame.ensures.waits
