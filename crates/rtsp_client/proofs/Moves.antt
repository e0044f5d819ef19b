-- What an event changes of a client.
use Rattle.std.proofs.Common.{◌≡◌, refl, sym, subst, ℕ, ◌≤◌, arith, ◌⊎◌, inl, Bool, true, false, MatchBool, Option, Some, None, IsSome, ◌∙◌}
use Rattle.rtsp_client.specs.Clients.{State, number_at, with_end}
use Rattle.rtsp_client.specs.Runs.{Event, is_described, is_redirected, takes}
use Rattle.rtsp_client.specs.SettingUp.{IsEnd, IsSame}
use Rattle.rtsp_client.specs.Steps.{IsSetUp, Place, asked_at, asked_in, is_recording}
use Rattle.rtsp_client.specs.declared.asked.Asked.{Asked}
use Rattle.rtsp_client.specs.declared.asked.Asked.TheVariants as asks
use Rattle.rtsp_client.specs.declared.asked.Side.{Side}
use Rattle.rtsp_client.specs.declared.asked.Side.TheVariants.{Source, Target}
use Rattle.rtsp_client.specs.declared.awaits.Awaits.{Awaits}
use Rattle.rtsp_client.specs.declared.awaits.Awaits.TheVariants as waits
use Rattle.rtsp_client.specs.declared.end.End.{End}
use Rattle.rtsp_client.specs.declared.frame_map.FrameMap.{FrameMap}
use Rattle.rtsp_client.specs.declared.requests.Reply.TheVariants.{Of}
use Rattle.rtsp_client.specs.declared.step.Step.{Step}
use Rattle.rtsp_client.specs.declared.step.Step.TheVariants as steps
use Rattle.rtsp_client.specs.declared.turn.Turn.{Turn}
use Rattle.rtsp_client.specs.declared.verdict.Verdict.TheVariants.{GoesOn}
use Rattle.rtsp_client.proofs.Mapping.{IsMapped}

-- the program is to say whether there is a password for this request, or has said so
abbrev pub IsFor : Asked → Awaits → Type 0
IsFor a waits.Nothing = ⊥
IsFor a waits.Description = ⊥
IsFor a waits.Connection = ⊥
IsFor a (waits.Password asked) = asked ≡ a
IsFor a (waits.Again asked) = asked ≡ a

-- it keeps a session alive, or ends one
abbrev pub IsOfSession : Asked → Type 0
IsOfSession asks.Options = ⊥
IsOfSession asks.Describe = ⊥
IsOfSession asks.SetUp = ⊥
IsOfSession asks.Announce = ⊥
IsOfSession asks.SetUpTarget = ⊥
IsOfSession asks.Record = ⊥
IsOfSession asks.Play = ⊥
IsOfSession (asks.KeepAlive side) = Unit {0}
IsOfSession (asks.TearDown side) = Unit {0}

abbrev pub IsRecorded : Event → Type 0
IsRecorded event = event ≡ takes Target (Of asks.Record GoesOn)

abbrev pub IsDescription : Event → Type 0
IsDescription event = (tracks : ℕ) × (event ≡ is_described tracks)

-- what an event leaves as it is
pub record Moved (event : Event) (old new : State) : Type 0 where
  pub source : (event ≡ is_redirected → ⊥) → number_at Source old ≤ number_at Source new
  pub target : number_at Target old ≤ number_at Target new
  pub end : IsSome old.end → new.end ≡ old.end
  pub awaits : (a : Asked) → IsFor a new.awaits → IsFor a old.awaits ⊎ (IsOfSession a ⊎ (asked_in old.place.step ≡ Some a))
  pub records : is_recording new.place.step ≡ true → (is_recording old.place.step ≡ true) ⊎ IsRecorded event
  pub sets_up : IsSetUp new.place.step → IsSetUp old.place.step ⊎ IsDescription event
  pub mapped : IsMapped old.place old.passage.map → IsMapped new.place new.passage.map

-- what counts here is the same
pub record Same (old new : State) : Type 0 where
  pub source : number_at Source new ≡ number_at Source old
  pub target : number_at Target new ≡ number_at Target old
  pub end : new.end ≡ old.end
  pub awaits : new.awaits ≡ old.awaits
  pub place : new.place ≡ old.place
  pub map : new.passage.map ≡ old.passage.map

pub moved_same : (event : Event) (s : State) → Moved event s s
moved_same event s = record {
  source = λ other. omega arith;
  target = omega arith;
  end = λ ended. refl;
  awaits = λ a h. inl h;
  records = λ h. inl h;
  sets_up = λ h. inl h;
  mapped = λ h. h;
}

pub same : (s : State) → Same s s
same s = record { source = refl; target = refl; end = refl; awaits = refl; place = refl; map = refl }

-- what comes after a change that doesn't count
pub after_same : (event : Event) (old mid new : State) → Same old mid → Moved event mid new → Moved event old new
after_same event old mid new s m = record {
  source = λ other. subst (λ (n : ℕ). n ≤ number_at Source new) s.source (m.source other);
  target = subst (λ (n : ℕ). n ≤ number_at Target new) s.target m.target;
  end = λ ended. m.end (subst (λ (e : Option End). IsSome e) (sym s.end) ended) ∙ s.end;
  awaits = λ a h. subst (λ (w : Awaits). IsFor a w ⊎ (IsOfSession a ⊎ (asked_in old.place.step ≡ Some a))) s.awaits
      (subst (λ (p : Place). IsFor a mid.awaits ⊎ (IsOfSession a ⊎ (asked_in p.step ≡ Some a))) s.place (m.awaits a h));
  records = λ h. subst (λ (p : Place). (is_recording p.step ≡ true) ⊎ IsRecorded event) s.place (m.records h);
  sets_up = λ h. subst (λ (p : Place). IsSetUp p.step ⊎ IsDescription event) s.place (m.sets_up h);
  mapped = λ h. m.mapped (subst (λ (p : Place). IsMapped p mid.passage.map) (sym s.place) (subst (λ (map : FrameMap). IsMapped old.place map) (sym s.map) h));
}

pub moved_by_same : (event : Event) (old new : State) → Same old new → Moved event old new
moved_by_same event old new s = after_same event old new new s (moved_same event new)

pub untrue : false ≡ true → ⊥
untrue h = cc

-- it ends
pub moved_end : (event : Event) (s : State) (end : End) → s.end ≡ None → Moved event s (with_end end s)
moved_end event s end going = record {
  source = λ other. omega arith;
  target = omega arith;
  end = λ ended. absurd (untrue (subst (λ (e : Option End). IsSome e) going ended));
  awaits = λ a h. inl h;
  records = λ h. inl h;
  sets_up = λ h. inl h;
  mapped = λ h. h;
}

pub by_end : (event : Event) (old new : State) (turn : Turn) (end : End) → old.end ≡ None → IsEnd end old new turn → Moved event old new
by_end event old new turn end going (is, _) = subst (λ (s : State). Moved event old s) (sym is) (moved_end event old end going)

pub by_same : (event : Event) (old new : State) (turn is : Turn) → IsSame old new turn is → Moved event old new
by_same event old new turn it (is, _) = subst (λ (s : State). Moved event old s) (sym is) (moved_same event old)

-- it ends or is the same
pub by_test : (event : Event) (old new : State) (turn is : Turn) (end : End) (test : Bool) → old.end ≡ None
    → MatchBool test (IsSame old new turn is) (IsEnd end old new turn) → Moved event old new
by_test event old new turn is end true going h = by_same event old new turn is h
by_test event old new turn is end false going h = by_end event old new turn end going h

-- what a step asks a side for is what it asks for
pub asked_somewhere : (side : Side) (step : Step) (asked : Asked) → asked_at side step ≡ Some asked → asked_in step ≡ Some asked
asked_somewhere Source steps.Options asked h = h
asked_somewhere Source steps.Describe asked h = h
asked_somewhere Source (steps.SetUp track) asked h = h
asked_somewhere Source steps.Announce asked h = absurd (cc)
asked_somewhere Source (steps.SetUpTarget track) asked h = absurd (cc)
asked_somewhere Source steps.Record asked h = absurd (cc)
asked_somewhere Source steps.Play asked h = h
asked_somewhere Source steps.Passing asked h = absurd (cc)
asked_somewhere Target steps.Options asked h = absurd (cc)
asked_somewhere Target steps.Describe asked h = absurd (cc)
asked_somewhere Target (steps.SetUp track) asked h = absurd (cc)
asked_somewhere Target steps.Announce asked h = h
asked_somewhere Target (steps.SetUpTarget track) asked h = h
asked_somewhere Target steps.Record asked h = h
asked_somewhere Target steps.Play asked h = absurd (cc)
asked_somewhere Target steps.Passing asked h = absurd (cc)
