-- The channels that a SETUP is given are numbers below 256.
use Rattle.std.proofs.Common.{◌≡◌, ℕ, zero, suc, ◌+◌, ◌*◌, ◌<◌, ◌≤◌, ◌⊎◌, ◌↔◌, inl, inr, List, [], ◌∷◌, ◌++◌, length, length-append, map, Option, None, Some, refl, sym, subst, arith}
use Rattle.std.specs.List.{Contains}
use Rattle.std.specs.Prelude.{nat_lt}
use Rattle.std.proofs.lemmas.Bool.{cases_eq}
use Rattle.std.proofs.lemmas.List.Sums.{count_by-le-length}
use Rattle.base_syntax.specs.Quotes.{parts}
use Rattle.transport_header.specs.declared.chosen.Chosen.{Chosen}
use Rattle.transport_header.specs.declared.spec.ChannelPair.{ChannelPair}
use Rattle.transport_header.specs.declared.spec.Spec.{Spec}
use Rattle.transport_header.specs.Chosen.{IsChosen, IsFirstAcceptable, IsFreeAt, IsGiven, IsLeastFree, IsUsable}
use Rattle.transport_header.specs.Interleaved.{AsksFor}
use Rattle.transport_header.specs.Separators.{comma}
use Rattle.transport_header.specs.SpecForm.{AsksChannels, IsSpec}
use Rattle.transport_header.specs.Tracks.{IsOfOther, pair_at}
use Rattle.transport_header.specs.Transport.{spec_of, specs_of}
use Rattle.transport_header.proofs.Free.{Spoiled, spoils}
use Rattle.transport_header.proofs.OtherTracks.{AreOthersBelow, are_others, none_below, passes_none, passes_own, puts}
use Rattle.transport_header.proofs.SpecForms.{spec_told}
use Rattle.session_state.proofs.Among.{is_or_not}

-- the channels of the other tracks, two for each at most
record AreFewBelow (pairs : List (Option ChannelPair)) (track n : ℕ) : Type 0 where
  used : List ℕ
  are : AreOthersBelow pairs track n used
  few : length used ≤ 2 * n

module _ (pairs : List (Option ChannelPair)) (track : ℕ) where
  one_more : (n : ℕ) → AreFewBelow pairs track n → AreFewBelow pairs track (n + 1)
  one_more n below = by (cases_eq n track)
    where
      of : (n ≡ track → ⊥) → (pair : Option ChannelPair) → pair_at pairs n ≡ pair → AreFewBelow pairs track (n + 1)
      of other None at = let few = below.few in record { used = below.used; are = passes_none pairs track n below.used below.are at; few = omega (arith, few) }
      of other (Some pair) at =
          let few = below.few in
          let first = length-append below.used (pair.first ∷ []) in
          let second = length-append (below.used ++ pair.first ∷ []) (pair.second ∷ []) in
          record { used = (below.used ++ pair.first ∷ []) ++ pair.second ∷ []; are = puts pairs track n below.used below.are pair at other; few = omega (arith, few, first, second) }

      by : (n ≡ track) ⊎ (n ≡ track → ⊥) → AreFewBelow pairs track (n + 1)
      by (inl own) = let few = below.few in record { used = below.used; are = passes_own pairs track n below.used below.are own; few = omega (arith, few) }
      by (inr other) = of other (pair_at pairs n) refl

  few_below : (n : ℕ) → AreFewBelow pairs track n
  few_below zero = record { used = []; are = none_below pairs track; few = omega arith }
  few_below (suc n) = let more : n + 1 ≡ suc n = omega arith in subst (AreFewBelow pairs track) more (one_more n (few_below n))

-- A free pair that isn't far up.
record IsLowFree (used : List ℕ) : Type 0 where
  at : ℕ
  free : IsFreeAt used at
  low : at ≤ 2 * length used

-- among the pairs from one on
low_from : (left half : ℕ) (used : List ℕ) → Spoiled used half → left + half ≡ suc (length used) → IsLowFree used
low_from zero half used spoiled all =
    let counted = spoiled.counted in
    let most = count_by-le-length (λ c. nat_lt c (2 * half)) used in
    absurd (omega (arith, all, counted, most))
low_from (suc left) half used spoiled all =
    by (is_or_not used (2 * half)) (is_or_not used (2 * half + 1)) (λ taken. low_from left (half + 1) used (spoils used half (2 * half) spoiled refl taken) (omega (arith, all)))
  where
    by : Contains used (2 * half) ⊎ (Contains used (2 * half) → ⊥) → Contains used (2 * half + 1) ⊎ (Contains used (2 * half + 1) → ⊥)
        → (Contains used (2 * half) ⊎ Contains used (2 * half + 1) → IsLowFree used) → IsLowFree used
    by (inl taken) second on = on (inl taken)
    by (inr free) (inl taken) on = on (inr taken)
    by (inr free) (inr also) on = record { at = 2 * half; free = (omega arith, (free, also)); low = omega (arith, all) }

low_free : (used : List ℕ) → IsLowFree used
low_free used = low_from (suc (length used)) 0 used (record { passed = λ e free. omega arith; counted = omega arith }) (omega arith)

-- two channels below 256
abbrev pub AreLow : (first second : ℕ) → Type 0
AreLow first second = (first < 256) × (second < 256)

module _ (pairs : List (Option ChannelPair)) (track : ℕ) (tracks : length pairs ≡ 16) (used : List ℕ) (others : (channel : ℕ) → Contains used channel ↔ IsOfOther pairs track channel) where
  low_least : (rtp rtcp : ℕ) → IsLeastFree used rtp rtcp → AreLow rtp rtcp
  low_least rtp rtcp least =
      let below = few_below pairs track 16 in
      let same = are_others pairs track below.used tracks below.are in
      let free = low_free below.used in
      let unused : (channel : ℕ) → (Contains below.used channel → ⊥) → Contains used channel → ⊥ = λ channel none has. none ((same channel).1 ((others channel).0 has)) in
      let most = least.2 free.at (free.free.0, (unused free.at free.free.1.0, unused (free.at + 1) free.free.1.1)) in
      let next = least.0 in
      let low = free.low in
      let few = below.few in
      (omega (arith, most, low, few), omega (arith, next, most, low, few))

  usable_or_not : (pair : ChannelPair) → IsUsable used pair ⊎ (IsUsable used pair → ⊥)
  usable_or_not pair = by (cases_eq pair.first pair.second) (is_or_not used pair.first) (is_or_not used pair.second)
    where
      by : (pair.first ≡ pair.second) ⊎ (pair.first ≡ pair.second → ⊥) → Contains used pair.first ⊎ (Contains used pair.first → ⊥) → Contains used pair.second ⊎ (Contains used pair.second → ⊥)
          → IsUsable used pair ⊎ (IsUsable used pair → ⊥)
      by (inl same) first second = inr (λ usable. usable.0 same)
      by (inr apart) (inl taken) second = inr (λ usable. usable.1.0 taken)
      by (inr apart) (inr free) (inl taken) = inr (λ usable. usable.1.1 taken)
      by (inr apart) (inr free) (inr also) = inl (apart, (free, also))

  low_given : (asks : Option ChannelPair) (rtp rtcp : ℕ) → ((pair : ChannelPair) → asks ≡ Some pair → AreLow pair.first pair.second) → IsGiven used asks rtp rtcp → AreLow rtp rtcp
  low_given None rtp rtcp low is = low_least rtp rtcp is
  low_given (Some pair) rtp rtcp low is = by (usable_or_not pair)
    where
      by : IsUsable used pair ⊎ (IsUsable used pair → ⊥) → AreLow rtp rtcp
      by (inl usable) =
          let given = is.0 usable in
          let first = given.0 in
          let second = given.1 in
          let asked = low pair refl in
          let one = asked.0 in
          let other = asked.1 in
          (omega (arith, first, one), omega (arith, second, other))
      by (inr not_usable) = low_least rtp rtcp (is.1 not_usable)

-- what an element of a list's image comes from
source : (read : List ℕ → Spec) (texts : List (List ℕ)) (before after : List Spec) (spec : Spec) → map read texts ≡ before ++ spec ∷ after → (text : List ℕ) × (spec ≡ read text)
source read [] [] after spec is = absurd (cc)
source read [] (one ∷ before) after spec is = absurd (cc)
source read (text ∷ texts) [] after spec is = let here : spec ≡ read text = cc in (text, here)
source read (text ∷ texts) (one ∷ before) after spec is = let rest : map read texts ≡ before ++ spec ∷ after = cc in source read texts before after spec rest

low_asked : (value : List ℕ) (pair : ChannelPair) → AsksFor value pair → AreLow pair.first pair.second
low_asked value pair (inl (first, next, low)) = let most = first.most in (omega (arith, most), low)
low_asked value pair (inr (a, b, is, first, second)) = let one = first.most in let other = second.most in (omega (arith, one), omega (arith, other))

low_spec : (text : List ℕ) (spec : Spec) → IsSpec text spec → (pair : ChannelPair) → spec.interleaved ≡ Some pair → AreLow pair.first pair.second
low_spec text spec is pair at = let asks = subst (AsksChannels is.parameters) at is.interleaved in low_asked asks.0 pair asks.2

low_first : (text : List ℕ) (spec : Spec) → IsFirstAcceptable (specs_of text) spec → (pair : ChannelPair) → spec.interleaved ≡ Some pair → AreLow pair.first pair.second
unfolding specs_of
low_first text spec (before, after, is, none, ok) pair at =
    let from = source spec_of (parts comma text) before after spec is in
    low_spec from.0 spec (subst (IsSpec from.0) (sym from.1) (spec_told from.0)) pair at

pub low_chosen : (pairs : List (Option ChannelPair)) (track : ℕ) → length pairs ≡ 16 → (used : List ℕ) → ((channel : ℕ) → Contains used channel ↔ IsOfOther pairs track channel)
    → (text : List ℕ) (chosen : Chosen) → IsChosen (specs_of text) used (Some chosen) → AreLow chosen.rtp chosen.rtcp
low_chosen pairs track tracks used others text chosen is = low_given pairs track tracks used others is.0.interleaved chosen.rtp chosen.rtcp (low_first text is.0 is.1) is.2
