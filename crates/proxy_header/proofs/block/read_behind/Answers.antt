use Rattle.std.proofs.Common.{List, ℕ, ◌++◌, sym, subst, inl, inr}
use Rattle.proxy_header.specs.Blocks.{signature}
use Rattle.proxy_header.specs.Readings.{IsReadBlock}
use Rattle.proxy_header.proofs.Blocks.{need_command, need_family}
use Rattle.proxy_header.proofs.Lists.{uncons_two}
use Rattle.proxy_header.proofs.block.read_behind.Goals as goal
use Rattle.proxy_header.proofs.block.read_behind.Goals.{else-command-ne-LOCAL-via-then-command-ne-LOCAL+else-command-ne-PROXY, else-command-ne-LOCAL-via-else-command-ne-LOCAL}

pub returns-in_default : goal.returns-in_default
returns-in_default c = need_command c.args.rest.now c.in_default.len_below

pub returns-in_default-rest : goal.returns-in_default-rest
returns-in_default-rest c = need_family c.args.rest.now c.in-len1-up.len_at_least c.in_default-rest.len_below (elim c.else-command-ne-LOCAL.branch [
  | else-command-ne-LOCAL-via-then-command-ne-LOCAL+else-command-ne-PROXY w ↦ inr w.if-command-ne-PROXY.false
  | else-command-ne-LOCAL-via-else-command-ne-LOCAL w ↦ inl w.if-command-ne-LOCAL.false
])

pub returns-in-Some : goal.returns-in-Some
returns-in-Some c =
    let whole = uncons_two c.args.rest.now c.in-len1-up.len_at_least c.in-len1-up-rest.len_at_least in
    subst (λ (l : List ℕ). IsReadBlock (signature ++ l) c.read_body.result) (sym whole) (c.read_body.ensures _ _ c.in-Some.ensures)
