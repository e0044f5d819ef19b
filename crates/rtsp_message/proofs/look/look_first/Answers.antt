use Rattle.std.proofs.Common.{List, ℕ, drop, ap, subst}
use Rattle.rtsp_message.specs.Stores.{StoreState}
use Rattle.rtsp_message.specs.Knowns.{IsLook}
use Rattle.rtsp_message.proofs.look.look_first.Goals as goal

pub returns-then-first-eq36-clause-found : goal.returns-then-first-eq36-clause-found
returns-then-first-eq36-clause-found c =
    subst (λ (l : List ℕ). IsLook c.args.peer (drop c.args.from l) c.look_frame_head.result) (ap (λ (s : StoreState). s.bytes) c.at-first.ensures.counts) (c.look_frame_head.ensures.found c.args.peer)

pub returns-else-first-eq36-clause-found : goal.returns-else-first-eq36-clause-found
returns-else-first-eq36-clause-found c =
    subst (λ (l : List ℕ). IsLook c.args.peer (drop c.args.from l) c.look_first_line.result) (ap (λ (s : StoreState). s.bytes) c.at-first.ensures.counts) c.look_first_line.ensures.found
