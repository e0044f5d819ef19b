-- What each event moves.
use Rattle.std.proofs.Common.{min, ◌≡◌, refl, sym, ap, subst, ℕ, suc, zero, arith, inl, inr, Bool, true, false, Option, Some, None, ◌∙◌}
use Rattle.rtsp_client.specs.Clients.{State, asked_of, number_at, unless_ended, with_end}
use Rattle.rtsp_client.specs.Lateness.{Ticks, free_at}
use Rattle.rtsp_client.specs.Runs.{Event, Goes, sends, runs_out, takes, is_described, is_undescribed, is_redirected, is_answered, is_ended, is_stopped, frame_comes, frames_leave, ticks, idles}
use Rattle.rtsp_client.specs.Sending.{after_sent, with_alive, with_fewer_waiting}
use Rattle.rtsp_client.specs.Stopping.{StopsAt}
use Rattle.rtsp_client.specs.Told.{answered_at, bad_at, described_at, redirected_at, tracks_at, tracks_in}
use Rattle.rtsp_client.specs.declared.asked.Asked.{Asked}
use Rattle.rtsp_client.specs.declared.asked.Side.{Side}
use Rattle.rtsp_client.specs.declared.asked.Side.TheVariants.{Source, Target}
use Rattle.rtsp_client.specs.declared.awaits.Awaits.{Awaits}
use Rattle.rtsp_client.specs.declared.awaits.Awaits.TheVariants as waits
use Rattle.rtsp_client.specs.declared.end.End.{End}
use Rattle.rtsp_client.specs.declared.end.End.TheVariants as ends
use Rattle.rtsp_client.specs.declared.step.Step.{Step}
use Rattle.rtsp_client.specs.declared.step.Step.TheVariants as steps
use Rattle.rtsp_client.specs.declared.turn.Turn.{Turn}
use Rattle.rtsp_client.specs.declared.turn.Turn.TheVariants as turns
use Rattle.rtsp_client.proofs.Changes.{by_closing, by_lack, same_free}
use Rattle.rtsp_client.proofs.Mapping.{mapped_described, mapped_start}
use Rattle.rtsp_client.proofs.Moves.{IsFor, Moved, Same, after_same, by_same, moved_by_same, moved_end, moved_same}
use Rattle.rtsp_client.proofs.StepChanges.{by_taken}

-- a request is sent
moved_sent : (event : Event) (side : Side) (asked : Asked) (now : ℕ) (s : State) → Moved event s (asked_of side asked now s)
moved_sent event Source asked now s = record {
  source = λ other. omega arith;
  target = omega arith;
  end = λ ended. refl;
  awaits = λ a h. absurd h;
  records = λ h. inl h;
  sets_up = λ h. inl h;
  mapped = λ h. h;
}
moved_sent event Target asked now s = record {
  source = λ other. omega arith;
  target = omega arith;
  end = λ ended. refl;
  awaits = λ a h. inl h;
  records = λ h. inl h;
  sets_up = λ h. inl h;
  mapped = λ h. h;
}

-- after its end nothing changes
unless : (event : Event) (end : Option End) (next s : State) → s.end ≡ end → (s.end ≡ None → Moved event s next) → Moved event s (unless_ended end next s)
unless event (Some end) next s is moves = moved_same event s
unless event None next s is moves = moves is

-- the end itself
moved_to_end : (event : Event) (s : State) (end : End) → Moved event s (unless_ended s.end (with_end end s) s)
moved_to_end event s end = unless event s.end (with_end end s) s refl (λ going. moved_end event s end going)

moved_tracks : (tracks known : ℕ) (s : State) → s.place.step ≡ steps.Describe → s.end ≡ None → Moved (is_described known) s (tracks_at tracks s)
moved_tracks zero known s step_is going = moved_end (is_described known) s ends.NoUsableTrack going
moved_tracks (suc others) known s step_is going = record {
  source = λ other. omega arith;
  target = omega arith;
  end = λ ended. refl;
  awaits = λ a h. absurd h;
  records = λ h. absurd (cc);
  sets_up = λ h. inr (known, refl);
  mapped = λ h. mapped_described others s.place s.passage.map step_is h;
}

moved_in : (step : Step) (tracks : ℕ) (s : State) → s.place.step ≡ step → s.end ≡ None → Moved (is_described tracks) s (tracks_in step tracks s)
moved_in steps.Options tracks s step_is going = moved_same (is_described tracks) s
moved_in steps.Describe tracks s step_is going = moved_tracks tracks tracks s step_is going
moved_in (steps.SetUp track) tracks s step_is going = moved_same (is_described tracks) s
moved_in steps.Announce tracks s step_is going = moved_same (is_described tracks) s
moved_in (steps.SetUpTarget track) tracks s step_is going = moved_same (is_described tracks) s
moved_in steps.Record tracks s step_is going = moved_same (is_described tracks) s
moved_in steps.Play tracks s step_is going = moved_same (is_described tracks) s
moved_in steps.Passing tracks s step_is going = moved_same (is_described tracks) s

moved_described : (awaits : Awaits) (tracks : ℕ) (s : State) → s.end ≡ None → Moved (is_described tracks) s (described_at awaits tracks s)
moved_described waits.Nothing tracks s going = moved_same (is_described tracks) s
moved_described waits.Description tracks s going = moved_in s.place.step tracks s refl going
moved_described waits.Connection tracks s going = moved_same (is_described tracks) s
moved_described (waits.Password asked) tracks s going = moved_same (is_described tracks) s
moved_described (waits.Again asked) tracks s going = moved_same (is_described tracks) s

moved_bad : (awaits : Awaits) (s : State) → s.end ≡ None → Moved is_undescribed s (bad_at awaits s)
moved_bad waits.Nothing s going = moved_same is_undescribed s
moved_bad waits.Description s going = moved_end is_undescribed s ends.DescriptionUnusable going
moved_bad waits.Connection s going = moved_same is_undescribed s
moved_bad (waits.Password asked) s going = moved_same is_undescribed s
moved_bad (waits.Again asked) s going = moved_same is_undescribed s

moved_redirected : (awaits : Awaits) (s : State) → Moved is_redirected s (redirected_at awaits s)
moved_redirected waits.Nothing s = moved_same is_redirected s
moved_redirected waits.Description s = moved_same is_redirected s
moved_redirected waits.Connection s = record {
  source = λ other. absurd (other refl);
  target = omega arith;
  end = λ ended. refl;
  awaits = λ a h. absurd h;
  records = λ h. absurd (cc);
  sets_up = λ h. absurd h;
  mapped = λ h. mapped_start s.passage.map h.source_long h.target_long;
}
moved_redirected (waits.Password asked) s = moved_same is_redirected s
moved_redirected (waits.Again asked) s = moved_same is_redirected s

moved_answered : (awaits : Awaits) (has : Bool) (s : State) → s.awaits ≡ awaits → s.end ≡ None → Moved (is_answered has) s (answered_at awaits has s)
moved_answered waits.Nothing has s is going = moved_same (is_answered has) s
moved_answered waits.Description has s is going = moved_same (is_answered has) s
moved_answered waits.Connection has s is going = moved_same (is_answered has) s
moved_answered (waits.Password asked) true s is going = record {
  source = λ other. omega arith;
  target = omega arith;
  end = λ ended. refl;
  awaits = λ a h. inl (subst (λ (w : Awaits). IsFor a w) (sym is) h);
  records = λ h. inl h;
  sets_up = λ h. inl h;
  mapped = λ h. h;
}
moved_answered (waits.Password asked) false s is going = moved_end (is_answered false) s ends.PasswordRefused going
moved_answered (waits.Again asked) has s is going = moved_same (is_answered has) s

moved_stopping : (end : Option End) (old new : State) (turn : Turn) → old.end ≡ end → StopsAt end old new turn → Moved is_stopped old new
moved_stopping (Some end) old new turn is h = by_same is_stopped old new turn turns.GoesOn h
moved_stopping None old new turn is h =
    let mid = record old { is_stopping = true } in
    after_same is_stopped old mid new (record { source = refl; target = refl; end = refl; awaits = refl; place = refl; map = refl }) (by_closing is_stopped mid new turn is h)

same_alive : (taken now : ℕ) (s : State) → Same s (with_alive taken now s)
same_alive zero now s = record { source = refl; target = refl; end = refl; awaits = refl; place = refl; map = refl }
same_alive (suc others) now s = record { source = refl; target = refl; end = refl; awaits = refl; place = refl; map = refl }

same_sent : (frames now : ℕ) (s : State) → Same s (after_sent frames now s)
same_sent frames now s =
    let p = same_alive (min frames s.passage.account.unsent) now (with_fewer_waiting frames s) in
    record { source = p.source; target = p.target; end = p.end; awaits = p.awaits; place = p.place; map = p.map }

moved_ticking : (side : Side) (now : ℕ) (old new : State) (turn : Turn) → old.end ≡ None → Ticks side now old new turn → Moved (ticks side) old new
moved_ticking side now old new turn going (inl (asked, late, (overdue, lacks))) =
    let s = same_free side old in
    after_same (ticks side) old (free_at side old) new s (by_lack (ticks side) late asked side (free_at side old) new turn (s.end ∙ going) lacks)
moved_ticking side now old new turn going (inr (on_time, is, _)) = subst (λ (s : State). Moved (ticks side) old s) (sym is) (moved_same (ticks side) old)

pub moves : (event : Event) (old new : State) → Goes event old new → Moved event old new
moves (sends side asked number) old new (now, has_due, is_number, is) =
    subst (λ (s : State). Moved (sends side asked number) old s) (sym is) (moved_sent (sends side asked number) side asked now old)
moves (runs_out side) old new (going, is) =
    subst (λ (s : State). Moved (runs_out side) old s) (sym is) (moved_end (runs_out side) old (ends.NumbersUsedUp side) going)
moves (takes side reply) old new (facts, now, turn, (going, is_reply, h)) = by_taken side reply facts now old new turn going h
moves (is_described tracks) old new is =
    subst (λ (s : State). Moved (is_described tracks) old s) (sym is)
    (unless (is_described tracks) old.end (described_at old.awaits tracks old) old refl (λ going. moved_described old.awaits tracks old going))
moves is_undescribed old new is =
    subst (λ (s : State). Moved is_undescribed old s) (sym is)
    (unless is_undescribed old.end (bad_at old.awaits old) old refl (λ going. moved_bad old.awaits old going))
moves is_redirected old new (going, waiting, is) =
    subst (λ (s : State). Moved is_redirected old s) (sym is)
    (unless is_redirected old.end (redirected_at old.awaits old) old refl (λ going. moved_redirected old.awaits old))
moves (is_answered has) old new is =
    subst (λ (s : State). Moved (is_answered has) old s) (sym is)
    (unless (is_answered has) old.end (answered_at old.awaits has old) old refl (λ going. moved_answered old.awaits has old refl going))
moves (is_ended end) old new is = subst (λ (s : State). Moved (is_ended end) old s) (sym is) (moved_to_end (is_ended end) old end)
moves is_stopped old new (turn, h) = moved_stopping old.end old new turn refl h
moves frame_comes old new (is, same_map, _) =
    moved_by_same frame_comes old new
    (record {
      source = ap (λ (s : State). number_at Source s) is;
      target = ap (λ (s : State). number_at Target s) is;
      end = ap (λ (s : State). s.end) is;
      awaits = ap (λ (s : State). s.awaits) is;
      place = ap (λ (s : State). s.place) is;
      map = same_map;
    })
moves (frames_leave frames) old new (now, is) =
    subst (λ (s : State). Moved (frames_leave frames) old s) (sym is)
    (moved_by_same (frames_leave frames) old (after_sent frames now old) (same_sent frames now old))
moves (ticks side) old new (now, turn, going, h) = moved_ticking side now old new turn going h
moves idles old new is = subst (λ (s : State). Moved idles old s) (sym is) (moved_same idles old)
