-- Tags by channel, where the channels of one track change.
use Rattle.std.proofs.Common.{◌≡◌, ◌≢◌, ◌<◌, ◌+◌, ◌*◌, ◌/◌, ℕ, ◌⊎◌, inl, inr, List, Option, None, Some, length, get_or, set, replicate, refl, sym, ap, ◌∙◌, arith}
use Rattle.std.proofs.lemmas.List.{get_or-set_same, get_or-set_other, get_or-replicate, get_or_past, length-set, length-replicate}
use Rattle.std.proofs.lemmas.Bool.{cases_eq, cases_lt}
use Rattle.std.proofs.lemmas.Bool.Decides.{nat_tests}
use Rattle.std.specs.Prelude.{option_map}
use Rattle.transport_header.specs.declared.spec.ChannelPair.{ChannelPair}
use Rattle.transport_header.specs.Tracks.{pair_at, channel_in, channel_of, MayHave, AreTagsOf}

abbrev Pairs : Type 0
Pairs = List (Option ChannelPair)

-- tags are those of a track by twos: RTP first
in_even : (track : ℕ) (pair : ChannelPair) → channel_in (2 * track) pair ≡ pair.first
in_even track pair = grind (arith, nat_tests)

in_odd : (track : ℕ) (pair : ChannelPair) → channel_in (2 * track + 1) pair ≡ pair.second
in_odd track pair = grind (arith, nat_tests)

by_twos : (tag track : ℕ) → tag / 2 ≡ track → (tag ≡ 2 * track) ⊎ (tag ≡ 2 * track + 1)
by_twos tag track e = elim (cases_eq tag (2 * track)) [ inl even ↦ inl even | inr odd ↦ inr (omega arith) ]

-- the channel of a tag of a track whose pair is known
at_pair : (pairs : Pairs) (tag track : ℕ) (pair : Option ChannelPair) → pair_at pairs track ≡ pair → tag / 2 ≡ track → channel_of pairs tag ≡ option_map (channel_in tag) pair
at_pair pairs tag track pair is half = ap (λ t. option_map (channel_in tag) (pair_at pairs t)) half ∙ ap (option_map (channel_in tag)) is

pub first_at : (pairs : Pairs) (track : ℕ) (pair : ChannelPair) → pair_at pairs track ≡ Some pair → channel_of pairs (2 * track) ≡ Some pair.first
first_at pairs track pair is = at_pair pairs (2 * track) track (Some pair) is (omega arith) ∙ ap Some (in_even track pair)

pub second_at : (pairs : Pairs) (track : ℕ) (pair : ChannelPair) → pair_at pairs track ≡ Some pair → channel_of pairs (2 * track + 1) ≡ Some pair.second
second_at pairs track pair is = at_pair pairs (2 * track + 1) track (Some pair) is (omega arith) ∙ ap Some (in_odd track pair)

-- a tag of the track, whose channel is known, is the RTP one or the RTCP one
pub on_pair : (pairs : Pairs) (tag track channel : ℕ) (pair : ChannelPair) → pair_at pairs track ≡ Some pair → tag / 2 ≡ track → channel_of pairs tag ≡ Some channel
    → ((tag ≡ 2 * track) × (channel ≡ pair.first)) ⊎ ((tag ≡ 2 * track + 1) × (channel ≡ pair.second))
on_pair pairs tag track channel pair is half e =
    elim (by_twos tag track half) [
      | inl even ↦
          let here : Some channel ≡ Some pair.first = sym e ∙ ap (channel_of pairs) even ∙ first_at pairs track pair is in
          let same : channel ≡ pair.first = cc in
          inl (even, same)
      | inr odd ↦
          let here : Some channel ≡ Some pair.second = sym e ∙ ap (channel_of pairs) odd ∙ second_at pairs track pair is in
          let same : channel ≡ pair.second = cc in
          inr (odd, same)
    ]

-- after one track's pair has changed
changed : (pairs : Pairs) (tag track : ℕ) (pair : Option ChannelPair) → track < length pairs → tag / 2 ≡ track → channel_of (set pairs track pair) tag ≡ option_map (channel_in tag) pair
changed pairs tag track pair within half = at_pair (set pairs track pair) tag track pair (get_or-set_same pairs track pair None within) half

unchanged : (pairs : Pairs) (tag track : ℕ) (pair : Option ChannelPair) → tag / 2 ≢ track → channel_of (set pairs track pair) tag ≡ channel_of pairs tag
unchanged pairs tag track pair other = ap (option_map (channel_in tag)) (get_or-set_other pairs track (tag / 2) pair None other)

-- what stands in a list after two writes
data Read (tags : List (Option ℕ)) (i j : ℕ) (a b : Option ℕ) (c : ℕ) (got : Option ℕ) : Type 0 where
  Second : c ≡ j → got ≡ b → Read tags i j a b c got
  First : c ≢ j → c ≡ i → got ≡ a → Read tags i j a b c got
  Other : c ≢ j → c ≢ i → got ≡ get_or tags c None → Read tags i j a b c got

read : (tags : List (Option ℕ)) (i j c : ℕ) (a b : Option ℕ) → i < length tags → j < length tags → Read tags i j a b c (get_or (set (set tags i a) j b) c None)
read tags i j c a b within_i within_j =
    let long : j < length (set tags i a) = rw (length-set tags i a) within_j in
    elim (cases_eq c j) [
      | inl here ↦ Second here (ap (λ k. get_or (set (set tags i a) j b) k None) here ∙ get_or-set_same (set tags i a) j b None long)
      | inr not_j ↦
          let past = get_or-set_other (set tags i a) j c b None not_j in
          elim (cases_eq c i) [
            | inl here ↦ First not_j here (past ∙ ap (λ k. get_or (set tags i a) k None) here ∙ get_or-set_same tags i a None within_i)
            | inr not_i ↦ Other not_j not_i (past ∙ get_or-set_other tags i c a None not_i)
          ]
    ]

-- no track is set up, and no channel has a tag
nothing : {X : Type 0} (n k : ℕ) → get_or (replicate n (let none : Option X = None in none)) k None ≡ None
nothing n k = elim (cases_lt k n) [ inl below ↦ get_or-replicate n k None None below | inr past ↦ get_or_past (replicate n None) k None (rw (length-replicate n) past) ]

pub none_set_up : AreTagsOf (replicate 16 None) (replicate 256 None)
none_set_up = record {
  tracks = refl;
  channels = refl;
  fits = λ tag channel e. let no : None ≡ Some channel = sym (ap (option_map (channel_in tag)) (nothing 16 (tag / 2))) ∙ e in cc;
  same = λ channel tag. (
    λ e. let no : None ≡ Some tag = sym (nothing 256 channel) ∙ e in cc,
    λ e. let no : None ≡ Some channel = sym (ap (option_map (channel_in tag)) (nothing 16 (tag / 2))) ∙ e in cc,
  );
}

-- what a track may have doesn't hang on what it has
pub may_still : (pairs : Pairs) (track : ℕ) (pair : ChannelPair) → MayHave pairs track pair → MayHave (set pairs track None) track pair
may_still pairs track pair may = record {
  apart = may.apart;
  first = λ tag other e. may.first tag other (sym (unchanged pairs tag track None other) ∙ e);
  second = λ tag other e. may.second tag other (sym (unchanged pairs tag track None other) ∙ e);
}

module _ (pairs : Pairs) (tags : List (Option ℕ)) (track : ℕ) (pair : ChannelPair) (are : AreTagsOf pairs tags) (within : track < 16) where
  long : track < length pairs
  long = omega (arith, are.tracks)

  -- a tag that was there has the channel that it had, unless it was of the track
  kept : (new : Option ChannelPair) (tag channel : ℕ) → tag / 2 ≢ track → channel_of (set pairs track new) tag ≡ Some channel → channel_of pairs tag ≡ Some channel
  kept new tag channel other e = sym (unchanged pairs tag track new other) ∙ e

  module _ (is : pair_at pairs track ≡ Some pair) where
    pub first_fits : pair.first < 256
    first_fits = are.fits (2 * track) pair.first (first_at pairs track pair is)

    pub second_fits : pair.second < 256
    second_fits = are.fits (2 * track + 1) pair.second (second_at pairs track pair is)

    -- a tag of another track isn't on these channels
    not_here : (tag channel own : ℕ) → own / 2 ≡ track → tag / 2 ≢ track → channel_of pairs own ≡ Some channel → channel_of pairs tag ≡ Some channel → ⊥
    not_here tag channel own half other mine e =
        let one : Some own ≡ Some tag = sym ((are.same channel own).1 mine) ∙ (are.same channel tag).1 e in
        let same : own ≡ tag = cc in
        other (sym (ap (λ t. t / 2) same) ∙ half)

    left : (tag channel : ℕ) → channel_of (set pairs track None) tag ≡ Some channel → (tag / 2 ≢ track) × (channel_of pairs tag ≡ Some channel)
    left tag channel e =
        elim (cases_eq (tag / 2) track) [
          | inl half ↦ let no : None ≡ Some channel = sym (changed pairs tag track None long half) ∙ e in absurd (cc)
          | inr other ↦ (other, kept None tag channel other e)
        ]

    pub removed : AreTagsOf (set pairs track None) (set (set tags pair.first None) pair.second None)
    removed = record {
      tracks = rw (length-set pairs track None) are.tracks;
      channels = rw (length-set (set tags pair.first None) pair.second None, length-set tags pair.first None) are.channels;
      fits = λ tag channel e. are.fits tag channel (left tag channel e).1;
      same = λ channel tag. (removed_tag channel tag, removed_channel channel tag);
    }
      where
        got : ℕ → Option ℕ
        got c = get_or (set (set tags pair.first None) pair.second None) c None

        read_at : (c : ℕ) → Read tags pair.first pair.second None None c (got c)
        read_at c = read tags pair.first pair.second c None None (rw are.channels first_fits) (rw are.channels second_fits)

        removed_tag : (channel tag : ℕ) → got channel ≡ Some tag → channel_of (set pairs track None) tag ≡ Some channel
        removed_tag channel tag e =
            elim (read_at channel) [
              | Second here is ↦ let no : None ≡ Some tag = sym is ∙ e in absurd (cc)
              | First not_second here is ↦ let no : None ≡ Some tag = sym is ∙ e in absurd (cc)
              | Other not_second not_first is_old ↦
                  let old = (are.same channel tag).0 (sym is_old ∙ e) in
                  elim (cases_eq (tag / 2) track) [
                    | inl half ↦ elim (on_pair pairs tag track channel pair is half old) [ inl at ↦ absurd (not_first at.1) | inr at ↦ absurd (not_second at.1) ]
                    | inr other ↦ unchanged pairs tag track None other ∙ old
                  ]
            ]

        removed_channel : (channel tag : ℕ) → channel_of (set pairs track None) tag ≡ Some channel → got channel ≡ Some tag
        removed_channel channel tag e =
            let was = left tag channel e in
            elim (read_at channel) [
              | Second here is_none ↦ absurd (not_here tag channel (2 * track + 1) (omega arith) was.0 (second_at pairs track pair is ∙ ap Some (sym here)) was.1)
              | First not_second here is_none ↦ absurd (not_here tag channel (2 * track) (omega arith) was.0 (first_at pairs track pair is ∙ ap Some (sym here)) was.1)
              | Other not_second not_first is_old ↦ is_old ∙ (are.same channel tag).1 was.1
            ]

  -- a track that isn't set up is given two channels
  module _ (is_none : pair_at pairs track ≡ None) (may : MayHave pairs track pair) (first_fits : pair.first < 256) (second_fits : pair.second < 256) where
    pub given : AreTagsOf (set pairs track (Some pair)) (set (set tags pair.first (Some (2 * track))) pair.second (Some (2 * track + 1)))
    given = record {
      tracks = rw (length-set pairs track (Some pair)) are.tracks;
      channels = rw (length-set (set tags pair.first (Some (2 * track))) pair.second (Some (2 * track + 1)), length-set tags pair.first (Some (2 * track))) are.channels;
      fits = given_fits;
      same = λ channel tag. (given_tag channel tag, given_channel channel tag);
    }
      where
        new : Pairs
        new = set pairs track (Some pair)

        got : ℕ → Option ℕ
        got c = get_or (set (set tags pair.first (Some (2 * track))) pair.second (Some (2 * track + 1))) c None

        read_at : (c : ℕ) → Read tags pair.first pair.second (Some (2 * track)) (Some (2 * track + 1)) c (got c)
        read_at c = read tags pair.first pair.second c (Some (2 * track)) (Some (2 * track + 1)) (rw are.channels first_fits) (rw are.channels second_fits)

        is_new : pair_at new track ≡ Some pair
        is_new = get_or-set_same pairs track (Some pair) None long

        given_fits : (tag channel : ℕ) → channel_of new tag ≡ Some channel → channel < 256
        given_fits tag channel e =
            elim (cases_eq (tag / 2) track) [
              | inl half ↦ elim (on_pair new tag track channel pair is_new half e) [ inl at ↦ rw at.1 first_fits | inr at ↦ rw at.1 second_fits ]
              | inr other ↦ are.fits tag channel (kept (Some pair) tag channel other e)
            ]

        given_tag : (channel tag : ℕ) → got channel ≡ Some tag → channel_of new tag ≡ Some channel
        given_tag channel tag e =
            elim (read_at channel) [
              | Second here is ↦
                  let both : Some tag ≡ Some (2 * track + 1) = sym e ∙ is in
                  let same : tag ≡ 2 * track + 1 = cc in
                  ap (channel_of new) same ∙ second_at new track pair is_new ∙ ap Some (sym here)
              | First not_second here is ↦
                  let both : Some tag ≡ Some (2 * track) = sym e ∙ is in
                  let same : tag ≡ 2 * track = cc in
                  ap (channel_of new) same ∙ first_at new track pair is_new ∙ ap Some (sym here)
              | Other not_second not_first is_old ↦
                  let old = (are.same channel tag).0 (sym is_old ∙ e) in
                  elim (cases_eq (tag / 2) track) [
                    | inl half ↦ let no : None ≡ Some channel = sym (at_pair pairs tag track None is_none half) ∙ old in absurd (cc)
                    | inr other ↦ unchanged pairs tag track (Some pair) other ∙ old
                  ]
            ]

        given_channel : (channel tag : ℕ) → channel_of new tag ≡ Some channel → got channel ≡ Some tag
        given_channel channel tag e =
            elim (cases_eq (tag / 2) track) [
              | inl half ↦
                  elim (on_pair new tag track channel pair is_new half e) [
                    | inl at ↦
                        elim (read_at channel) [
                          | Second here is ↦ absurd (may.apart (sym at.1 ∙ here))
                          | First not_second here is ↦ is ∙ ap Some (sym at.0)
                          | Other not_second not_first is_old ↦ absurd (not_first at.1)
                        ]
                    | inr at ↦
                        elim (read_at channel) [
                          | Second here is ↦ is ∙ ap Some (sym at.0)
                          | First not_second here is ↦ absurd (not_second at.1)
                          | Other not_second not_first is_old ↦ absurd (not_second at.1)
                        ]
                  ]
              | inr other ↦
                  let old = kept (Some pair) tag channel other e in
                  elim (read_at channel) [
                    | Second here is ↦ absurd (may.second tag other (old ∙ ap Some here))
                    | First not_second here is ↦ absurd (may.first tag other (old ∙ ap Some here))
                    | Other not_second not_first is_old ↦ is_old ∙ (are.same channel tag).1 old
                  ]
            ]
