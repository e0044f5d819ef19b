-- A writer's look at a player that had its line.
use Rattle.std.proofs.Common.{◌≡◌, ◌≢◌, ℕ, ◌-◌, ◌&&◌, not, Bool, true, false, nat_lt, Option, None, Some, is_some, if◌then◌else◌, refl, rules, ◌||◌, ◌⊎◌, inl, inr, max}
use Rattle.pacing.specs.declared.patience.Patience.{Patience}
use Rattle.waking.specs.declared.attention.Attention.{Attention}
use Rattle.waking.specs.declared.ending.Answer.{Answer}
use Rattle.waking.specs.declared.ending.Answer.TheVariants as answer
use Rattle.waking.specs.declared.ending.Ending.{Ending}
use Rattle.waking.specs.declared.ending.Ending.TheVariants.{WithMount, Closing, Failed}
use Rattle.waking.specs.declared.ending.Failure.{Failure}
use Rattle.waking.specs.declared.ending.Failure.TheVariants.{WriteFailed}
use Rattle.waking.specs.declared.player_state.PlayerState.{PlayerState}
use Rattle.waking.specs.declared.sweep.Next.{Next}
use Rattle.waking.specs.declared.sweep.Next.TheVariants.{Sleep, Again, Later, Over}
use Rattle.waking.specs.Attentions.{emptied}
use Rattle.waking.specs.Endings.{ending_after, has_failed, is_closing}
use Rattle.waking.specs.Looks.{attention_looked, next_after, next_tried}
use Rattle.waking.specs.PlayerStates.{waits}
use Rattle.waking.specs.Steps.{IsStep, step_after}

-- what a look leaves of the patience and the ending, after this answer, where bytes are left or not
pub record Rests (given : Answer) (is_left : Bool) (patience : Option Patience) (ending : Option Ending) : Type 0 where
  pub moved : ending ≡ None → is_left ≡ false → patience ≡ None
  pub kept : ending ≡ None → is_left ≡ true → is_some patience ≡ true
  pub ended : ending ≡ None → given ≢ answer.Ended
  pub failed : ending ≡ None → (failure : Failure) → given ≢ answer.Failed failure
  pub over : has_failed ending ≡ true → patience ≡ None

none_given_up : (are_left : Bool) (tried : Patience) → (if are_left && not true then Some tried else None) ≡ None
none_given_up true tried = refl
none_given_up false tried = refl

none_failed : (is_left has_failed : Bool) (tried : Patience) → has_failed ≡ true → (if (is_left && not has_failed) && not false then Some tried else None) ≡ None
none_failed true true tried is = refl
none_failed false true tried is = refl
none_failed is_left false tried is = absurd (cc)

-- frames that had ended have ended after each answer
stays_ended : (given : Answer) (ended : Ending) → ending_after given (Some ended) ≢ None
stays_ended answer.More ended is = absurd (cc)
stays_ended answer.Empty ended is = absurd (cc)
stays_ended answer.Ended ended is = absurd (cc)
stays_ended (answer.Failed failure) WithMount is = absurd (cc)
stays_ended (answer.Failed failure) (Closing moment) is = absurd (cc)
stays_ended (answer.Failed failure) (Failed other) is = absurd (cc)

-- what a look leaves
pub rests_at : (given : Answer) (is_left : Bool) (old : Option Ending) (is_given_up closes : Bool) (moment : ℕ) (tried : Patience)
    → Rests given is_left (if (is_left && not (has_failed (ending_after given old))) && not is_given_up then Some tried else None)
    (if is_given_up then Some (Failed WriteFailed) else if closes then Some (Closing moment) else ending_after given old)
rests_at given is_left old true closes moment tried = record {
  moved = λ none left. absurd (cc);
  kept = λ none left. absurd (cc);
  ended = λ none is. absurd (cc);
  failed = λ none failure is. absurd (cc);
  over = λ failed. none_given_up (is_left && not (has_failed (ending_after given old))) tried;
}
rests_at given is_left old false true moment tried = record {
  moved = λ none left. absurd (cc);
  kept = λ none left. absurd (cc);
  ended = λ none is. absurd (cc);
  failed = λ none failure is. absurd (cc);
  over = λ failed. absurd (cc);
}
rests_at given is_left (Some ended) false false moment tried = record {
  moved = λ none left. absurd (stays_ended given ended none);
  kept = λ none left. absurd (stays_ended given ended none);
  ended = λ none is. absurd (stays_ended given ended none);
  failed = λ none failure is. absurd (stays_ended given ended none);
  over = λ failed. none_failed is_left (has_failed (ending_after given (Some ended))) tried failed;
}
rests_at answer.More is_left None false false moment tried = search rules
rests_at answer.Empty is_left None false false moment tried = search rules
rests_at answer.Ended is_left None false false moment tried = search rules
rests_at (answer.Failed failure) is_left None false false moment tried = record {
  moved = λ none left. absurd (cc);
  kept = λ none left. absurd (cc);
  ended = λ none is. absurd (cc);
  failed = λ none other is. absurd (cc);
  over = λ failed. none_failed is_left true tried refl;
}

-- who is looked at again at once may have more to take, and waits for nothing
again_at : (given : Answer) (is_quiet : Bool) (woken : ℕ) (attention : Attention) → (attention_looked given is_quiet woken attention).again ≡ true
    → (given ≡ answer.More) × (is_quiet ≡ true)
again_at answer.More true woken attention is = (refl, refl)
again_at answer.More false woken attention is = absurd (cc)
again_at answer.Empty is_quiet woken attention is = absurd (cc)
again_at answer.Ended is_quiet woken attention is = absurd (cc)
again_at (answer.Failed failure) is_quiet woken attention is = absurd (cc)

-- another answer, or one after which the player waits, leaves it as it was held
not_again_at : (given : Answer) (is_quiet : Bool) (woken : ℕ) (attention : Attention) → (attention_looked given is_quiet woken attention).again ≡ false
    → attention_looked given is_quiet woken attention ≡ attention_looked given false woken attention
not_again_at answer.More true woken attention is = absurd (cc)
not_again_at answer.More false woken attention is = refl
not_again_at answer.Empty is_quiet woken attention is = refl
not_again_at answer.Ended is_quiet woken attention is = refl
not_again_at (answer.Failed failure) is_quiet woken attention is = refl

-- bytes wait, or a connection is to be disconnected
rest_step : (given : Answer) (time woken : ℕ) (old new : PlayerState) → new.attention ≡ attention_looked given false woken old.attention → waits new ≡ true
    → IsStep (step_after given (Later time)) woken old new (Later time)
rest_step answer.More time woken old new is waiting = search rules
rest_step answer.Empty time woken old new is waiting = search rules
rest_step answer.Ended time woken old new is waiting = search rules
rest_step (answer.Failed failure) time woken old new is waiting = search rules

-- there is nothing more to do
over_step : (given : Answer) (woken : ℕ) (old new : PlayerState) → IsStep (step_after given Over) woken old new Over
over_step given woken old new = search rules

-- the peer is disconnected then, or is now
closing_step : (given : Answer) (is_soon : Bool) (time woken : ℕ) (old new : PlayerState) → new.attention ≡ attention_looked given false woken old.attention
    → waits new ≡ true
    → IsStep (step_after given (if is_soon then Later time else Over)) woken old new (if is_soon then Later time else Over)
closing_step given true time woken old new is waiting = rest_step given time woken old new is waiting
closing_step given false time woken old new is waiting = over_step given woken old new

-- nothing waits
quiet_step : (given : Answer) (is_left : Bool) (woken : ℕ) (old new : PlayerState) → Rests given is_left None None
    → new.attention ≡ attention_looked given (not is_left && not false) woken old.attention → new.attention.again ≡ false → waits new ≡ false
    → (given ≡ answer.Empty) × (is_left ≡ false) × (new.attention ≡ emptied woken) × IsStep (step_after given Sleep) woken old new Sleep
quiet_step given true woken old new rests is still waiting = absurd (cc (rests.kept refl refl))
quiet_step answer.More false woken old new rests is still waiting = absurd (cc)
quiet_step answer.Empty false woken old new rests is still waiting = (refl, refl, is, search rules)
quiet_step answer.Ended false woken old new rests is still waiting = absurd (rests.ended refl refl)
quiet_step (answer.Failed failure) false woken old new rests is still waiting = absurd (rests.failed refl failure refl)

-- what waits, by what is left of the patience and the ending
waits_by : (player : PlayerState) (patience : Option Patience) (ending : Option Ending) → player.patience ≡ patience → player.ending ≡ ending
    → waits player ≡ (is_some patience || is_closing ending)
waits_by player patience ending patience_is ending_is = rw (patience_is, ending_is) refl

-- the takes were used up
again_step : (given : Answer) (is_left : Bool) (patience : Option Patience) (ending : Option Ending) (woken : ℕ) (old new : PlayerState)
    → Rests given is_left patience ending → new.attention ≡ attention_looked given (not is_left && not (is_some ending)) woken old.attention
    → new.attention.again ≡ true → waits new ≡ (is_some patience || is_closing ending)
    → (ending ≡ None) × IsStep (step_after given Again) woken old new Again
again_step answer.More false None None woken old new rests is again waiting = (refl, search rules)
again_step answer.More false (Some patience) None woken old new rests is again waiting = absurd (cc (rests.moved refl refl))
again_step answer.More false patience (Some ending) woken old new rests is again waiting = absurd (cc)
again_step answer.More true patience ending woken old new rests is again waiting = absurd (cc)
again_step answer.Empty is_left patience ending woken old new rests is again waiting = absurd (cc)
again_step answer.Ended is_left patience ending woken old new rests is again waiting = absurd (cc)
again_step (answer.Failed failure) is_left patience ending woken old new rests is again waiting = absurd (cc)

-- what a look that left this decides
pub record Decided (given : Answer) (is_left : Bool) (ending : Option Ending) (woken : ℕ) (old new : PlayerState) (next : Next) : Type 0 where
  pub step : IsStep (step_after given next) woken old new next
  pub sleep : next ≡ Sleep → (given ≡ answer.Empty) × (is_left ≡ false) × (new.attention ≡ emptied woken) × (waits new ≡ false)
  pub over : has_failed ending ≡ true → next ≡ Over

closing_decided : (given : Answer) (is_left is_soon : Bool) (moment time woken : ℕ) (old new : PlayerState)
    → new.attention ≡ attention_looked given false woken old.attention → waits new ≡ true
    → Decided given is_left (Some (Closing moment)) woken old new (if is_soon then Later time else Over)
closing_decided given is_left true moment time woken old new is waiting = record {
  step = rest_step given time woken old new is waiting;
  sleep = λ sleeps. absurd (cc);
  over = λ failed. absurd (cc);
}
closing_decided given is_left false moment time woken old new is waiting = record {
  step = over_step given woken old new;
  sleep = λ sleeps. absurd (cc);
  over = λ failed. absurd (cc);
}

decided_with : (given : Answer) (is_left again : Bool) (patience : Option Patience) (ending : Option Ending) (woken now : ℕ) (old new : PlayerState)
    → Rests given is_left patience ending → new.attention ≡ attention_looked given (not is_left && not (is_some ending)) woken old.attention
    → new.attention.again ≡ again → waits new ≡ (is_some patience || is_closing ending)
    → new.attention ≡ attention_looked given false woken old.attention ⊎ (new.attention.again ≡ true)
    → Decided given is_left ending woken old new (if again then Again else next_tried patience ending now)
decided_with given is_left true patience ending woken now old new rests is again waiting held = record {
  step = (again_step given is_left patience ending woken old new rests is again waiting).1;
  sleep = λ sleeps. absurd (cc);
  over = λ failed. absurd (cc (again_step given is_left patience ending woken old new rests is again waiting).0);
}
decided_with given is_left false patience ending woken now old new rests is again waiting (inr still) = absurd (cc)
decided_with given is_left false (Some patience) ending woken now old new rests is again waiting (inl held) = record {
  step = rest_step given (max (patience.due - now) 1) woken old new held waiting;
  sleep = λ sleeps. absurd (cc);
  over = λ failed. absurd (cc (rests.over failed));
}
decided_with given is_left false None (Some (Closing moment)) woken now old new rests is again waiting (inl held) =
    closing_decided given is_left (nat_lt now moment) moment (moment - now) woken old new held waiting
decided_with given is_left false None (Some WithMount) woken now old new rests is again waiting (inl held) = record {
  step = over_step given woken old new;
  sleep = λ sleeps. absurd (cc);
  over = λ failed. absurd (cc);
}
decided_with given is_left false None (Some (Failed failure)) woken now old new rests is again waiting (inl held) = record {
  step = over_step given woken old new;
  sleep = λ sleeps. absurd (cc);
  over = λ failed. refl;
}
decided_with given is_left false None None woken now old new rests is again waiting (inl held) =
    let quiet = quiet_step given is_left woken old new rests is again waiting in
    record {
      step = quiet.3;
      sleep = λ sleeps. (quiet.0, quiet.1, quiet.2, waiting);
      over = λ failed. absurd (cc);
    }

held_or_again : (given : Answer) (is_quiet again : Bool) (woken : ℕ) (attention : Attention) → (attention_looked given is_quiet woken attention).again ≡ again
    → attention_looked given is_quiet woken attention ≡ attention_looked given false woken attention
    ⊎ ((attention_looked given is_quiet woken attention).again ≡ true)
held_or_again given is_quiet true woken attention is = inr is
held_or_again given is_quiet false woken attention is = inl (not_again_at given is_quiet woken attention is)

-- what a look decides that left this
pub decided : (given : Answer) (is_left : Bool) (woken now : ℕ) (old new : PlayerState) → Rests given is_left new.patience new.ending
    → new.attention ≡ attention_looked given (not is_left && not (is_some new.ending)) woken old.attention
    → Decided given is_left new.ending woken old new (next_after new now)
decided given is_left woken now old new rests is =
    decided_with given is_left new.attention.again new.patience new.ending woken now old new rests is refl refl
    (rw is (held_or_again given (not is_left && not (is_some new.ending)) (attention_looked given (not is_left && not (is_some new.ending)) woken old.attention).again woken old.attention refl))
