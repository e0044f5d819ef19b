-- `interleaved` is read where its value is as the grammar says, and nowhere else.
use Rattle.std.proofs.Common.{◌≡◌, ◌<◌, ◌+◌, ◌==◌, ℕ, Bool, true, false, cond, nat_lt, List, ◌∷◌, ◌++◌, Option, Some, None, inl, inr, refl, ap, sym, ◌∙◌, arith, lit≤}
use Rattle.std.specs.List.{before_first}
use Rattle.std.specs.Option.{option_map, option_and_then}
use Rattle.std.proofs.lemmas.Bool.{cond-true, lt-ltb, ltb-true}
use Rattle.base_syntax.specs.Cuts.{HasNone, IsCut, behind_first}
use Rattle.base_syntax.proofs.Cuts.{is_cut, cut_behind, uncut}
use Rattle.base_syntax.proofs.Digits.{none_in_digits, number_read, number_only}
use Rattle.transport_header.specs.declared.spec.ChannelPair.{ChannelPair}
use Rattle.transport_header.specs.Transport.{channel_of, next_channel, second_of, channels_of}
use Rattle.transport_header.specs.Interleaved.{IsChannel, AsksAlone, AsksFor}

-- digits hold no dash
no_dashes : {digits : List ℕ} {channel : ℕ} → IsChannel digits channel → HasNone 45 digits
no_dashes {digits = digits} p = none_in_digits 45 (lit≤ tt) digits p.numeral.1

-- what the grammar has is read
abbrev paired : ℕ → ℕ → ChannelPair
paired a b = record { first = a; second = b }

abbrev front : List ℕ → List ℕ
front value = before_first (λ b. b == 45) value

joins : (value : List ℕ) (pair : ChannelPair) → channel_of (front value) ≡ Some pair.first → second_of (behind_first 45 value) pair.first ≡ Some pair.second → channels_of value ≡ Some pair
unfolding channels_of
joins value pair first second =
    ap (λ o. option_and_then (λ a. option_map (λ b. paired a b) (second_of (behind_first 45 value) a)) o) first ∙ ap (λ o. option_map (λ b. paired pair.first b) o) second

read_alone : (value : List ℕ) (pair : ChannelPair) → AsksAlone value pair → channels_of value ≡ Some pair
read_alone value pair (channel, next, small) =
    let whole = uncut 45 value (no_dashes channel) in
    joins value pair (ap channel_of whole.0 ∙ number_read 255 value pair.first channel)
    (ap (λ rest. second_of rest pair.first) whole.1 ∙ cond-true _ _ _ (lt-ltb pair.first 255 (omega arith)) ∙ ap Some (sym next))

read_pair : (a b : List ℕ) (pair : ChannelPair) → IsChannel a pair.first → IsChannel b pair.second → channels_of (a ++ 45 ∷ b) ≡ Some pair
read_pair a b pair at_a at_b =
    let halves = cut_behind 45 a b (no_dashes at_a) in
    joins (a ++ 45 ∷ b) pair (ap channel_of halves.0 ∙ number_read 255 a pair.first at_a)
    (ap (λ rest. second_of rest pair.first) halves.1 ∙ number_read 255 b pair.second at_b)

pub reads : (value : List ℕ) (pair : ChannelPair) → AsksFor value pair → channels_of value ≡ Some pair
reads value pair (inl alone) = read_alone value pair alone
reads value pair (inr (a, b, at, at_a, at_b)) = ap channels_of at ∙ read_pair a b pair at_a at_b

-- what is read is in the grammar
abbrev Splits : List ℕ → ChannelPair → Option (List ℕ) → Type 0
Splits value pair rest = (channel_of (front value) ≡ Some pair.first) × (second_of rest pair.first ≡ Some pair.second)

splits : (value : List ℕ) (pair : ChannelPair) → channels_of value ≡ Some pair → Splits value pair (behind_first 45 value)
unfolding channels_of
splits value pair = go (channel_of (front value)) refl
  where
    found : (a b : ℕ) → Some (paired a b) ≡ Some pair → channel_of (front value) ≡ Some a → second_of (behind_first 45 value) a ≡ Some b → Splits value pair (behind_first 45 value)
    found a b h first second =
        let same : paired a b ≡ pair = cc in
        let at_a : a ≡ pair.first = ap (λ p. p.first) same in
        let at_b : b ≡ pair.second = ap (λ p. p.second) same in
        (first ∙ ap Some at_a, ap (second_of (behind_first 45 value)) (sym at_a) ∙ second ∙ ap Some at_b)

    then : (a : ℕ) → channel_of (front value) ≡ Some a → (o : Option ℕ) → second_of (behind_first 45 value) a ≡ o → option_map (λ b. paired a b) o ≡ Some pair → Splits value pair (behind_first 45 value)
    then a first None e h = cc
    then a first (Some b) e h = found a b h first e

    go : (o : Option ℕ) → channel_of (front value) ≡ o → option_and_then (λ a. option_map (λ b. paired a b) (second_of (behind_first 45 value) a)) o ≡ Some pair → Splits value pair (behind_first 45 value)
    go None e h = cc
    go (Some a) e h = then a e (second_of (behind_first 45 value) a) refl h

next_to : (a b : ℕ) → next_channel a ≡ Some b → (b ≡ a + 1) × (b < 256)
next_to a b = go (nat_lt a 255) refl
  where
    go : (test : Bool) → nat_lt a 255 ≡ test → cond test (Some (a + 1)) None ≡ Some b → (b ≡ a + 1) × (b < 256)
    go false e h = cc
    go true e h = let same : a + 1 ≡ b = cc in (sym same, omega (arith, ltb-true a 255 e, same))

by_rest : (value : List ℕ) (pair : ChannelPair) (rest : Option (List ℕ)) → IsCut 45 value (front value) rest → Splits value pair rest → AsksFor value pair
by_rest value pair None cut (first, second) =
    let next = next_to _ _ second in
    inl (number_only 255 value pair.first (ap channel_of cut.0 ∙ first), next.0, next.1)
by_rest value pair (Some rest) cut (first, second) =
    inr (front value, rest, cut.0, number_only 255 (front value) pair.first first, number_only 255 rest pair.second second)

pub only : (value : List ℕ) (pair : ChannelPair) → channels_of value ≡ Some pair → AsksFor value pair
only value pair h = by_rest value pair (behind_first 45 value) (is_cut 45 value) (splits value pair h)
