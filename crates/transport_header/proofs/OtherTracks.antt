-- The channels of the other tracks, track by track.
use Rattle.std.proofs.Common.{◌≡◌, ◌≢◌, ◌<◌, ◌+◌, ◌*◌, ◌/◌, ℕ, inl, inr, List, [], ◌∷◌, ◌++◌, Option, None, Some, length, sym, ap, ◌∙◌, arith}
use Rattle.std.specs.Prelude.{◌↔◌, option_map}
use Rattle.std.specs.List.{Contains}
use Rattle.std.proofs.lemmas.Bool.{cases_lt}
use Rattle.std.proofs.lemmas.List.{get_or_past}
use Rattle.std.proofs.lemmas.List.Elements.{Contains-push, Contains-push_cases, Contains-append_left}
use Rattle.transport_header.specs.declared.spec.ChannelPair.{ChannelPair}
use Rattle.transport_header.specs.Chosen.{AreUnused}
use Rattle.transport_header.specs.Tracks.{pair_at, channel_in, channel_of, IsOfOther, MayHave}
use Rattle.transport_header.proofs.TagTables.{first_at, second_at, on_pair}

-- a track below n, and another one, has this channel
abbrev pub IsOtherBelow : List (Option ChannelPair) → (track n channel : ℕ) → Type 0
IsOtherBelow pairs track n channel = (tag : ℕ) × (tag / 2 < n) × (tag / 2 ≢ track) × (channel_of pairs tag ≡ Some channel)

-- used are the channels of the other tracks below n
pub record AreOthersBelow (pairs : List (Option ChannelPair)) (track n : ℕ) (used : List ℕ) : Type 0 where
  pub sound : (channel : ℕ) → Contains used channel → IsOtherBelow pairs track n channel
  pub all : (channel : ℕ) → IsOtherBelow pairs track n channel → Contains used channel

pub none_below : (pairs : List (Option ChannelPair)) (track : ℕ) → AreOthersBelow pairs track 0 []
none_below pairs track = record {
  sound = λ channel at. absurd (omega (arith, at.1));
  all = λ channel has. absurd (omega (arith, has.1));
}

module _ (pairs : List (Option ChannelPair)) (track n : ℕ) (used : List ℕ) (before : AreOthersBelow pairs track n used) where
  still : (channel : ℕ) → IsOtherBelow pairs track n channel → IsOtherBelow pairs track (n + 1) channel
  still channel has = (has.0, omega (arith, has.1), has.2, has.3)

  -- a track that has no channel, or isn't another one
  pub passes : ((tag channel : ℕ) → tag / 2 ≡ n → tag / 2 ≢ track → channel_of pairs tag ≡ Some channel → ⊥) → AreOthersBelow pairs track (n + 1) used
  passes none = record {
    sound = λ channel at. still channel (before.sound channel at);
    all = λ channel has. elim (cases_lt (has.0 / 2) n) [
      | inl below ↦ before.all channel (has.0, below, has.2, has.3)
      | inr past ↦ absurd (none has.0 channel (omega (arith, has.1, past)) has.2 has.3)
    ];
  }

  -- the track itself
  pub passes_own : n ≡ track → AreOthersBelow pairs track (n + 1) used
  passes_own own = passes (λ tag channel here other is. other (here ∙ own))

  -- a track that isn't set up
  pub passes_none : pair_at pairs n ≡ None → AreOthersBelow pairs track (n + 1) used
  passes_none is_none = passes (λ tag channel here other is.
      let none : None ≡ Some channel = sym (ap (λ t. option_map (channel_in tag) (pair_at pairs t)) here ∙ ap (option_map (channel_in tag)) is_none) ∙ is in
      cc)

  -- another track, whose two channels are put in
  pub puts : (pair : ChannelPair) → pair_at pairs n ≡ Some pair → n ≢ track → AreOthersBelow pairs track (n + 1) ((used ++ pair.first ∷ []) ++ pair.second ∷ [])
  puts pair is_pair other = record {
    sound = λ channel at. elim (Contains-push_cases (used ++ pair.first ∷ []) pair.second channel at) [
      | inl front ↦ elim (Contains-push_cases used pair.first channel front) [
        | inl old ↦ still channel (before.sound channel old)
        | inr is ↦ (2 * n, omega arith, λ own. other (omega (arith, own)), first_at pairs n pair is_pair ∙ ap Some is)
      ]
      | inr is ↦ (2 * n + 1, omega arith, λ own. other (omega (arith, own)), second_at pairs n pair is_pair ∙ ap Some is)
    ];
    all = λ channel has. elim (cases_lt (has.0 / 2) n) [
      | inl below ↦ Contains-append_left (used ++ pair.first ∷ []) (pair.second ∷ []) channel
          (Contains-append_left used (pair.first ∷ []) channel (before.all channel (has.0, below, has.2, has.3)))
      | inr past ↦ elim (on_pair pairs has.0 n channel pair is_pair (omega (arith, has.1, past)) has.3) [
        | inl at ↦ Contains-append_left (used ++ pair.first ∷ []) (pair.second ∷ []) channel (rw at.1 (Contains-push used pair.first))
        | inr at ↦ rw at.1 (Contains-push (used ++ pair.first ∷ []) pair.second)
      ]
    ];
  }

-- no track is at 16 or beyond
pub are_others : (pairs : List (Option ChannelPair)) (track : ℕ) (used : List ℕ) → length pairs ≡ 16 → AreOthersBelow pairs track 16 used → (channel : ℕ) → Contains used channel ↔ IsOfOther pairs track channel
are_others pairs track used long are channel = (
  λ at. let has = are.sound channel at in (has.0, has.2, has.3),
  λ has. elim (cases_lt (has.0 / 2) 16) [
    | inl below ↦ are.all channel (has.0, below, has.1, has.2)
    | inr past ↦
        let none : None ≡ Some channel = sym (ap (option_map (channel_in has.0)) (get_or_past pairs (has.0 / 2) None (omega (arith, long, past)))) ∙ has.2 in
        cc
  ],
)

-- two channels that no other track uses are such as the track may have
pub may_have_unused : (pairs : List (Option ChannelPair)) (track : ℕ) (used : List ℕ) (pair : ChannelPair) → ((channel : ℕ) → Contains used channel ↔ IsOfOther pairs track channel)
    → pair.first ≢ pair.second → AreUnused used pair.first pair.second → MayHave pairs track pair
may_have_unused pairs track used pair are apart unused = record {
  apart = apart;
  first = λ tag other is. unused.0 ((are pair.first).1 (tag, other, is));
  second = λ tag other is. unused.1 ((are pair.second).1 (tag, other, is));
}
