use Rattle.std.proofs.Common.{◌≡◌, ◌&&◌, not, is_some, unwrap_or, rules}
use Rattle.pacing.specs.Patiences.{later}
use Rattle.waking.specs.declared.player_state.PlayerState.{PlayerState}
use Rattle.waking.specs.Looks.{attention_looked, closes, tried}
use Rattle.waking.proofs.AfterLooks.{Decided, Rests, decided, rests_at}
use Rattle.waking.proofs.player_state.PlayerState.looked.Goals as goal

-- what the look left
abbrev left : goal.Else-is_over → PlayerState
left c = record {
  attention = c.attention.result;
  patience = c.patience_after.result;
  is_paced = c.if-old.is_paced;
  ended_at = c.args.self.now.ended_at;
  ending = c.ending_after-ending.result;
  after_end = c.args.self.now.after_end;
}

-- what it decided
decisions : (c : goal.Else-is_over)
    → Decided c.args.found.answer c.args.found.is_left (left c).ending c.args.found.player_wakeups c.args.self.now (left c) c.next-next.result
decisions c =
    let old = c.args.self.now in
    let found = c.args.found in
    let rests : Rests found.answer found.is_left c.patience_after.result c.ending_after-ending.result =
    rw (c.patience_after.ensures, c.ending_after-ending.ensures)
    (rests_at found.answer found.is_left old.ending c.is_given_up-is_given_up.result (closes old found)
    (later c.args.now (unwrap_or old.after_end 0)) (tried old.patience found c.args.now)) in
    let attention : c.attention.result ≡ attention_looked found.answer (not found.is_left && not (is_some c.ending_after-ending.result)) found.player_wakeups old.attention =
    search rules in
    rw c.next-next.ensures (decided found.answer found.is_left found.player_wakeups c.args.now old (left c) rests attention)

pub returns-else-is_over-clause-sleep : goal.returns-else-is_over-clause-sleep
returns-else-is_over-clause-sleep c = (decisions c).sleep

pub returns-else-is_over-clause-step : goal.returns-else-is_over-clause-step
returns-else-is_over-clause-step c = (decisions c).step

pub returns-else-is_over-clause-over : goal.returns-else-is_over-clause-over
returns-else-is_over-clause-over c = (decisions c).over
