use Rattle.std.proofs.Common.{rules, ◌≡◌, ◌∙◌, ◌+◌, ◌-◌, ◌^◌, ℕ}
use Rattle.std.specs.Prelude.{fold}
use Prim.Native.Nat.{min}
use Rattle.relay_accounts.specs.declared.handover.WaitingFrame.{WaitingFrame}
use Rattle.relay_accounts.proofs.Summing.{capped_sum}
use Rattle.relay_accounts.proofs.handover.with_bytes_of.Goals as goal

pub returns : goal.returns
returns c =
    let run : c.fold.result ≡ fold (λ (sum : ℕ) (frame : WaitingFrame). min (sum + frame.bytes) (2 ^ 64 - 1)) c.args.bytes c.args.frames.now = search rules in
    run ∙ capped_sum c.args.frames.now c.args.bytes (search rules)
