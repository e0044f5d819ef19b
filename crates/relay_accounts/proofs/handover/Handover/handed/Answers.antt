use Rattle.std.proofs.Common.{rules, ◌≡◌, ◌≤◌, ◌-◌, ◌^◌}
use Rattle.std.specs.Prelude.{filter}
use Rattle.relay_accounts.specs.Handing.{is_sent, with_bytes_of}
use Rattle.relay_accounts.proofs.Summing.{capped_sum}
use Rattle.relay_accounts.proofs.handover.Handover.handed.Goals as goal

pub returns : goal.returns
returns c =
    let frames = filter (is_sent c.args.taken) c.args.self.now.waiting in
    let within : c.args.self.now.bytes ≤ 2 ^ 64 - 1 = search rules in
    let sum = capped_sum frames c.args.self.now.bytes within in
    let bytes : c.with_bytes_passed.result ≡ with_bytes_of c.args.self.now.bytes frames = search (rules, sum) in
    search (rules, bytes)
