-- The tracks that go on, place by place.
use Rattle.std.proofs.Common.{◌≡◌, ℕ, zero, suc, ◌+◌, ◌<◌, ◌≤◌, Bool, true, false, if◌then◌else◌, List, [], ◌∷◌, Some, length, get_or, drop, take, unwrap_or, slice_get, refl, sym, ap, ◌∙◌, inl, inr, arith}
use Rattle.std.specs.List.{list_all}
use Rattle.std.proofs.lemmas.Bool.{and_parts, cases_lt}
use Rattle.std.proofs.lemmas.List.{at_drop_more, drop_all, get_or_past}
use Rattle.std.proofs.lemmas.List.Sums.{sum_by-cons}
use Rattle.std.proofs.lemmas.Option.{unwrap_or-slice_get}
use Rattle.source_sdp.specs.declared.track.SourceTrack.{SourceTrack}
use Rattle.source_sdp.specs.Usable.{is_usable, AreUsable}
use Rattle.source_sdp.specs.Kept.{kept_among, kept_count, number_of}

-- whether the track of a place goes on
abbrev pub goes_on_at : List Bool → ℕ → Bool
goes_on_at kept place = unwrap_or (slice_get kept place) false

-- those from a place on
abbrev pub kept_from : ℕ → List SourceTrack → List Bool → List SourceTrack
kept_from place tracks kept = kept_among (drop place tracks) (drop place kept)

-- a track, if it goes on, and others
abbrev with_first : Bool → SourceTrack → List SourceTrack → List SourceTrack
with_first goes_on track others = if goes_on then track ∷ others else others

unflagged : (tracks : List SourceTrack) → kept_among tracks [] ≡ []
unflagged [] = refl
unflagged (track ∷ tracks) = refl

-- the flag of a place, and those after it
next_flag : (tracks : List SourceTrack) (kept : List Bool) (place : ℕ) (track : SourceTrack)
    → kept_among (track ∷ tracks) (drop place kept) ≡ with_first (goes_on_at kept place) track (kept_among tracks (drop (place + 1) kept))
next_flag tracks kept place track = elim (cases_lt place (length kept)) [
  | inl within ↦
      at_drop_more (kept_among (track ∷ tracks)) kept place false within
      ∙ ap (λ b. with_first b track (kept_among tracks (drop (place + 1) kept))) (sym (unwrap_or-slice_get kept place false))
  | inr past ↦
      let none : goes_on_at kept place ≡ false = unwrap_or-slice_get kept place false ∙ get_or_past kept place false past in
      let later : length kept ≤ place + 1 = omega arith in
      ap (kept_among (track ∷ tracks)) (drop_all place kept past)
      ∙ sym (unflagged tracks) ∙ ap (kept_among tracks) (sym (drop_all (place + 1) kept later))
      ∙ ap (λ b. with_first b track (kept_among tracks (drop (place + 1) kept))) (sym none)
]

next_kept : (tracks : List SourceTrack) (kept : List Bool) (place : ℕ) (track : SourceTrack) → place < length tracks
    → kept_from place tracks kept ≡ with_first (goes_on_at kept place) (get_or tracks place track) (kept_from (place + 1) tracks kept)
next_kept tracks kept place track within =
    at_drop_more (λ (ts : List SourceTrack). kept_among ts (drop place kept)) tracks place track within
    ∙ next_flag (drop (place + 1) tracks) kept place (get_or tracks place track)

-- a track that goes on is the first of those from its place on
pub kept_one : (tracks : List SourceTrack) (kept : List Bool) (place : ℕ) (track : SourceTrack) → place < length tracks → goes_on_at kept place ≡ true
    → kept_from place tracks kept ≡ get_or tracks place track ∷ kept_from (place + 1) tracks kept
kept_one tracks kept place track within e =
    next_kept tracks kept place track within ∙ ap (λ b. with_first b (get_or tracks place track) (kept_from (place + 1) tracks kept)) e

-- one that doesn't isn't among them
pub kept_none : (tracks : List SourceTrack) (kept : List Bool) (place : ℕ) → place < length tracks → goes_on_at kept place ≡ false
    → kept_from place tracks kept ≡ kept_from (place + 1) tracks kept
kept_none [] kept place within e = absurd (omega arith)
kept_none (track ∷ tracks) kept place within e =
    let all : List SourceTrack = track ∷ tracks in
    next_kept all kept place track within ∙ ap (λ b. with_first b (get_or all place track) (kept_from (place + 1) all kept)) e

pub kept_end : (tracks : List SourceTrack) (kept : List Bool) (place : ℕ) → length tracks ≤ place → kept_from place tracks kept ≡ []
kept_end tracks kept place past = ap (λ (ts : List SourceTrack). kept_among ts (drop place kept)) (drop_all place tracks past)

pub some_kept : (tracks : List SourceTrack) (kept : List Bool) (place : ℕ) → place < length tracks → goes_on_at kept place ≡ true → 0 < length (kept_from place tracks kept)
some_kept [] kept place within e = absurd (omega arith)
some_kept (track ∷ tracks) kept place within e = let all : List SourceTrack = track ∷ tracks in omega (arith, ap length (kept_one all kept place track within e))

each_kept : (p : SourceTrack → Bool) (tracks : List SourceTrack) (kept : List Bool) → list_all p tracks ≡ true → list_all p (kept_among tracks kept) ≡ true
each_kept p [] kept h = refl
each_kept p (track ∷ tracks) [] h = refl
each_kept p (track ∷ tracks) (false ∷ kept) h = each_kept p tracks kept (and_parts (p track) (list_all p tracks) h).1
each_kept p (track ∷ tracks) (true ∷ kept) h = let parts = and_parts (p track) (list_all p tracks) h in rw parts.0 (each_kept p tracks kept parts.1)

fewer_kept : (tracks : List SourceTrack) (kept : List Bool) → length (kept_among tracks kept) ≤ length tracks
fewer_kept [] kept = omega arith
fewer_kept (track ∷ tracks) [] = omega arith
fewer_kept (track ∷ tracks) (false ∷ kept) = omega (arith, fewer_kept tracks kept)
fewer_kept (track ∷ tracks) (true ∷ kept) = omega (arith, fewer_kept tracks kept)

pub usable_kept : (tracks : List SourceTrack) (kept : List Bool) → AreUsable tracks → AreUsable (kept_among tracks kept)
usable_kept tracks kept p = record { each = each_kept is_usable tracks kept p.each; few = omega (arith, p.few, fewer_kept tracks kept) }

next_count : (goes_on : Bool) (kept : List Bool) → kept_count (goes_on ∷ kept) ≡ (if goes_on then 1 else 0) + kept_count kept
next_count goes_on kept = sum_by-cons (λ b. if b then 1 else 0) goes_on kept

pub count_kept : (tracks : List SourceTrack) (kept : List Bool) → length kept ≡ length tracks → length (kept_among tracks kept) ≡ kept_count kept
count_kept [] [] h = refl
count_kept [] (goes_on ∷ kept) h = absurd (omega arith)
count_kept (track ∷ tracks) [] h = absurd (omega arith)
count_kept (track ∷ tracks) (false ∷ kept) h = let same : length kept ≡ length tracks = omega arith in omega (arith, count_kept tracks kept same, next_count false kept)
count_kept (track ∷ tracks) (true ∷ kept) h = let same : length kept ≡ length tracks = omega arith in omega (arith, count_kept tracks kept same, next_count true kept)

pub all_kept : (tracks : List SourceTrack) (kept : List Bool) → length kept ≡ length tracks → list_all (λ goes_on. goes_on) kept ≡ true → kept_among tracks kept ≡ tracks
all_kept [] kept h all = refl
all_kept (track ∷ tracks) [] h all = absurd (omega arith)
all_kept (track ∷ tracks) (false ∷ kept) h all = absurd (cc)
all_kept (track ∷ tracks) (true ∷ kept) h all = let same : length kept ≡ length tracks = omega arith in ap (λ (ts : List SourceTrack). track ∷ ts) (all_kept tracks kept same all)

pub place_kept : (tracks : List SourceTrack) (kept : List Bool) (place : ℕ) (track : SourceTrack) → slice_get kept place ≡ Some true → slice_get tracks place ≡ Some track
    → slice_get (kept_among tracks kept) (number_of place kept) ≡ Some track
place_kept [] kept place track flag is = absurd (cc)
place_kept (t ∷ tracks) [] place track flag is = absurd (cc)
place_kept (t ∷ tracks) (false ∷ kept) zero track flag is = absurd (cc)
place_kept (t ∷ tracks) (true ∷ kept) zero track flag is = is
place_kept (t ∷ tracks) (false ∷ kept) (suc place) track flag is =
    let number : number_of (suc place) (false ∷ kept) ≡ number_of place kept = next_count false (take place kept) ∙ omega arith in
    ap (slice_get (kept_among tracks kept)) number ∙ place_kept tracks kept place track flag is
place_kept (t ∷ tracks) (true ∷ kept) (suc place) track flag is =
    let number : number_of (suc place) (true ∷ kept) ≡ suc (number_of place kept) = next_count true (take place kept) ∙ omega arith in
    ap (slice_get (t ∷ kept_among tracks kept)) number ∙ place_kept tracks kept place track flag is
