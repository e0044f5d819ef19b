-- The tracks that are set up have channels.
use Rattle.std.proofs.Common.{◌≡◌, refl, sym, ap, subst, ℕ, suc, arith, ◌+◌, ◌<◌, ◌≤◌, ◌⊎◌, inl, inr, Bool, true, false, if◌then◌else◌, nat_lt, List, Option, Some, None, IsSome, is_some, length, get_or, set, min, ◌∙◌}
use Rattle.std.proofs.lemmas.Bool.{cases_eq, ltb-true, ltb-false}
use Rattle.std.proofs.lemmas.List.{get_or-set_same, get_or-set_other, length-set}
use Rattle.transport_header.specs.declared.spec.ChannelPair.{ChannelPair}
use Rattle.rtsp_client.specs.Mapped.{AreGiven}
use Rattle.rtsp_client.specs.Steps.{FitsStep, IsPlace, IsSetUp, Place, described_from, done_at, is_recording, left_out_at, place_at, start}
use Rattle.rtsp_client.specs.declared.asked.Side.{Side}
use Rattle.rtsp_client.specs.declared.asked.Side.TheVariants.{Source, Target}
use Rattle.rtsp_client.specs.declared.frame_map.FrameMap.{FrameMap}
use Rattle.rtsp_client.specs.declared.step.Step.{Step}
use Rattle.rtsp_client.specs.declared.step.Step.TheVariants.{Options, Describe, SetUp, Announce, SetUpTarget, Record, Play, Passing}

-- how many tracks have channels at the target
abbrev pub AreTargetsGiven : Step → (kept : ℕ) → List (Option ChannelPair) → Type 0
AreTargetsGiven Options kept target = Unit {0}
AreTargetsGiven Describe kept target = Unit {0}
AreTargetsGiven (SetUp track) kept target = Unit {0}
AreTargetsGiven Announce kept target = Unit {0}
AreTargetsGiven (SetUpTarget track) kept target = AreGiven target track
AreTargetsGiven Record kept target = AreGiven target kept
AreTargetsGiven Play kept target = AreGiven target kept
AreTargetsGiven Passing kept target = AreGiven target kept

-- the tracks that are set up have channels, at the source and as far as they are asked for at the target
pub record IsMapped (place : Place) (map : FrameMap) : Type 0 where
  pub source_long : length map.source ≡ 16
  pub target_long : length map.target ≡ 16
  pub fits : IsPlace place.step place.tracks place.kept
  pub source : AreGiven map.source place.kept
  pub target : AreTargetsGiven place.step place.kept map.target

-- one more has channels
given_more : (pairs : List (Option ChannelPair)) (n : ℕ) (pair : ChannelPair) → n < length pairs → AreGiven pairs n → AreGiven (set pairs n (Some pair)) (n + 1)
given_more pairs n pair few was place below = elim (cases_eq place n) [
  | inl is ↦ subst (λ (k : ℕ). IsSome (get_or (set pairs n (Some pair)) k None)) (sym is)
      (ap (λ (o : Option ChannelPair). is_some o) (get_or-set_same pairs n (Some pair) None few))
  | inr other ↦ subst (λ (o : Option ChannelPair). IsSome o) (sym (get_or-set_other pairs n place (Some pair) None other))
      (was place (omega (arith, below, other)))
]

-- the channels of the track that is set up at a side
abbrev pub with_given : Side → (place : ℕ) → ChannelPair → FrameMap → FrameMap
with_given Source place pair map = record map { source = set map.source place (Some pair) }
with_given Target place pair map = record map { target = set map.target place (Some pair) }

-- a track is set up at this side
abbrev pub IsAt : Side → Step → Type 0
IsAt Source step = IsSetUp step
IsAt Target Options = ⊥
IsAt Target Describe = ⊥
IsAt Target (SetUp track) = ⊥
IsAt Target Announce = ⊥
IsAt Target (SetUpTarget track) = Unit {0}
IsAt Target Record = ⊥
IsAt Target Play = ⊥
IsAt Target Passing = ⊥

-- the step after a track of the source
after_track : (b : Bool) (track tracks kept : ℕ) (target : List (Option ChannelPair)) → nat_lt (track + 1) tracks ≡ b → track < tracks → kept ≤ track
    → FitsStep (if b then SetUp (track + 1) else Announce) tracks (kept + 1) × AreTargetsGiven (if b then SetUp (track + 1) else Announce) (kept + 1) target
after_track true track tracks kept target e below few = ((ltb-true (track + 1) tracks e, omega (arith, few)), tt)
after_track false track tracks kept target e below few = (omega arith, tt)

mapped_source : (track : ℕ) (place : Place) (map : FrameMap) (pair : ChannelPair) → place.step ≡ SetUp track → IsMapped place map
    → IsMapped (done_at (SetUp track) place) (with_given Source place.kept pair map)
mapped_source track place map pair is h =
    let fits : FitsStep (SetUp track) place.tracks place.kept = subst (λ (step : Step). FitsStep step place.tracks place.kept) is h.fits.2 in
    let most : place.tracks ≤ 16 = h.fits.0 in
    let below : track < place.tracks = fits.0 in
    let few : place.kept ≤ track = fits.1 in
    let next = after_track (nat_lt (track + 1) place.tracks) track place.tracks place.kept map.target refl below few in
    record {
      source_long = length-set map.source place.kept (Some pair) ∙ h.source_long;
      target_long = h.target_long;
      fits = (most, omega (arith, below, few), next.0);
      source = given_more map.source place.kept pair (omega (arith, h.source_long, most, below, few)) h.source;
      target = next.1;
    }

-- the step after a track of the target
after_target : (b : Bool) (track tracks kept : ℕ) (target : List (Option ChannelPair)) → nat_lt (track + 1) kept ≡ b → track < kept → AreGiven target (track + 1)
    → FitsStep (if b then SetUpTarget (track + 1) else Record) tracks kept × AreTargetsGiven (if b then SetUpTarget (track + 1) else Record) kept target
after_target true track tracks kept target e below given = (ltb-true (track + 1) kept e, given)
after_target false track tracks kept target e below given =
    let all : kept ≤ track + 1 = ltb-false (track + 1) kept e in
    (omega (arith, below), λ place less. given place (omega (arith, all, less)))

mapped_target : (track : ℕ) (place : Place) (map : FrameMap) (pair : ChannelPair) → place.step ≡ SetUpTarget track → IsMapped place map
    → IsMapped (done_at (SetUpTarget track) place) (with_given Target track pair map)
mapped_target track place map pair is h =
    let below : track < place.kept = subst (λ (step : Step). FitsStep step place.tracks place.kept) is h.fits.2 in
    let given : AreGiven map.target track = subst (λ (step : Step). AreTargetsGiven step place.kept map.target) is h.target in
    let most : place.tracks ≤ 16 = h.fits.0 in
    let kept : place.kept ≤ place.tracks = h.fits.1 in
    let more : AreGiven (set map.target track (Some pair)) (track + 1) = given_more map.target track pair (omega (arith, h.target_long, most, kept, below)) given in
    let next = after_target (nat_lt (track + 1) place.kept) track place.tracks place.kept (set map.target track (Some pair)) refl below more in
    record {
      source_long = h.source_long;
      target_long = length-set map.target track (Some pair) ∙ h.target_long;
      fits = (most, kept, next.0);
      source = h.source;
      target = next.1;
    }

pub mapped_pair : (side : Side) (step : Step) (place : Place) (map : FrameMap) (pair : ChannelPair) → place.step ≡ step → IsAt side step → IsMapped place map
    → IsMapped (done_at step place) (with_given side (place_at step place.kept) pair map)
mapped_pair Source Options place map pair is at h = absurd at
mapped_pair Source Describe place map pair is at h = absurd at
mapped_pair Source (SetUp track) place map pair is at h = mapped_source track place map pair is h
mapped_pair Source Announce place map pair is at h = absurd at
mapped_pair Source (SetUpTarget track) place map pair is at h = absurd at
mapped_pair Source Record place map pair is at h = absurd at
mapped_pair Source Play place map pair is at h = absurd at
mapped_pair Source Passing place map pair is at h = absurd at
mapped_pair Target Options place map pair is at h = absurd at
mapped_pair Target Describe place map pair is at h = absurd at
mapped_pair Target (SetUp track) place map pair is at h = absurd at
mapped_pair Target Announce place map pair is at h = absurd at
mapped_pair Target (SetUpTarget track) place map pair is at h = mapped_target track place map pair is h
mapped_pair Target Record place map pair is at h = absurd at
mapped_pair Target Play place map pair is at h = absurd at
mapped_pair Target Passing place map pair is at h = absurd at

-- no track is set up
abbrev pub IsPlain : Step → Type 0
IsPlain Options = Unit {0}
IsPlain Describe = ⊥
IsPlain (SetUp track) = ⊥
IsPlain Announce = Unit {0}
IsPlain (SetUpTarget track) = ⊥
IsPlain Record = Unit {0}
IsPlain Play = Unit {0}
IsPlain Passing = ⊥

pub mapped_done : (step : Step) (place : Place) (map : FrameMap) → place.step ≡ step → IsPlain step → IsMapped place map → IsMapped (done_at step place) map
mapped_done Options place map is plain h = record {
  source_long = h.source_long;
  target_long = h.target_long;
  fits = (h.fits.0, h.fits.1, subst (λ (step : Step). FitsStep step place.tracks place.kept) is h.fits.2);
  source = h.source;
  target = tt;
}
mapped_done Describe place map is plain h = absurd plain
mapped_done (SetUp track) place map is plain h = absurd plain
mapped_done Announce place map is plain h = record {
  source_long = h.source_long;
  target_long = h.target_long;
  fits = (h.fits.0, h.fits.1, subst (λ (step : Step). FitsStep step place.tracks place.kept) is h.fits.2);
  source = h.source;
  target = λ place less. absurd (omega (arith, less));
}
mapped_done (SetUpTarget track) place map is plain h = absurd plain
mapped_done Record place map is plain h = record {
  source_long = h.source_long;
  target_long = h.target_long;
  fits = (h.fits.0, h.fits.1, subst (λ (step : Step). FitsStep step place.tracks place.kept) is h.fits.2);
  source = h.source;
  target = subst (λ (step : Step). AreTargetsGiven step place.kept map.target) is h.target;
}
mapped_done Play place map is plain h = record {
  source_long = h.source_long;
  target_long = h.target_long;
  fits = (h.fits.0, h.fits.1, subst (λ (step : Step). FitsStep step place.tracks place.kept) is h.fits.2);
  source = h.source;
  target = subst (λ (step : Step). AreTargetsGiven step place.kept map.target) is h.target;
}
mapped_done Passing place map is plain h = absurd plain

-- a track is left out, and there is another one or some are set up
after_left : (b : Bool) (track tracks kept : ℕ) (target : List (Option ChannelPair)) → nat_lt (track + 1) tracks ≡ b → kept ≤ track
    → (0 < kept) ⊎ IsSetUp (if b then SetUp (track + 1) else Announce)
    → FitsStep (if b then SetUp (track + 1) else Announce) tracks kept × AreTargetsGiven (if b then SetUp (track + 1) else Announce) kept target
after_left true track tracks kept target e few goes = ((ltb-true (track + 1) tracks e, omega (arith, few)), tt)
after_left false track tracks kept target e few (inl some) = (some, tt)
after_left false track tracks kept target e few (inr other) = absurd other

pub mapped_left : (step : Step) (place : Place) (map : FrameMap) → place.step ≡ step → (0 < place.kept) ⊎ IsSetUp (left_out_at step place).step → IsMapped place map
    → IsMapped (left_out_at step place) map
mapped_left Options place map is goes h = h
mapped_left Describe place map is goes h = h
mapped_left (SetUp track) place map is goes h =
    let fits : FitsStep (SetUp track) place.tracks place.kept = subst (λ (step : Step). FitsStep step place.tracks place.kept) is h.fits.2 in
    let next = after_left (nat_lt (track + 1) place.tracks) track place.tracks place.kept map.target refl fits.1 goes in
    record {
      source_long = h.source_long;
      target_long = h.target_long;
      fits = (h.fits.0, h.fits.1, next.0);
      source = h.source;
      target = next.1;
    }
mapped_left Announce place map is goes h = h
mapped_left (SetUpTarget track) place map is goes h = h
mapped_left Record place map is goes h = h
mapped_left Play place map is goes h = h
mapped_left Passing place map is goes h = h

-- the description came
pub mapped_described : (others : ℕ) (place : Place) (map : FrameMap) → place.step ≡ Describe → IsMapped place map → IsMapped (described_from (min (suc others) 16) place) map
mapped_described others place map is h =
    let none : place.kept ≡ 0 = subst (λ (step : Step). FitsStep step place.tracks place.kept) is h.fits.2 in
    record {
      source_long = h.source_long;
      target_long = h.target_long;
      fits = (omega arith, omega (arith, none), (omega arith, omega (arith, none)));
      source = h.source;
      target = tt;
    }

-- the beginning, and a new connection to the source
pub mapped_start : (map : FrameMap) → length map.source ≡ 16 → length map.target ≡ 16 → IsMapped start map
mapped_start map source target = record {
  source_long = source;
  target_long = target;
  fits = (omega arith, omega arith, refl);
  source = λ place less. absurd (omega (arith, less));
  target = tt;
}

-- once the target records, all have channels
pub all_given : (step : Step) (place : Place) (map : FrameMap) → place.step ≡ step → is_recording step ≡ true → IsMapped place map → AreGiven map.target place.kept
all_given Options place map is h m = absurd (cc)
all_given Describe place map is h m = absurd (cc)
all_given (SetUp track) place map is h m = absurd (cc)
all_given Announce place map is h m = absurd (cc)
all_given (SetUpTarget track) place map is h m = absurd (cc)
all_given Record place map is h m = absurd (cc)
all_given Play place map is h m = subst (λ (step : Step). AreTargetsGiven step place.kept map.target) is m.target
all_given Passing place map is h m = subst (λ (step : Step). AreTargetsGiven step place.kept map.target) is m.target
