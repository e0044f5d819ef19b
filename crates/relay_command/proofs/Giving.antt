-- The channels of a text, one track after another.
use Rattle.std.proofs.Common.{◌≡◌, ◌==◌, ◌<◌, ◌+◌, ℕ, Option, None, Some, List, refl, subst, replicate, slice_set, sym}
use Rattle.std.specs.List.{before_first}
use Rattle.base_syntax.specs.Cuts.{behind_first}
use Rattle.networks.proofs.Parts.{first_part, parts_left}
use Rattle.transport_header.specs.declared.spec.ChannelPair.{ChannelPair}
use Rattle.transport_header.specs.Tracks.{MayHave}
use Rattle.relay_command.specs.Channels.{GivesChannels, GivesFrom, WritesPair}

-- what the rest of a text gives from this track on is what the text gives
abbrev pub GoesOn : (text : List ℕ) → (track : ℕ) → (before : List (Option ChannelPair)) → (rest : Option (List ℕ)) → Type 0
GoesOn text track before rest = (after : List (Option ChannelPair)) → GivesFrom track before (parts_left rest) after → GivesChannels text after

pub goes_on_first : (text : List ℕ) → GoesOn text 0 (replicate 16 None) (Some text)
goes_on_first text after h = h

-- one track more has its pair
pub goes_on_next : (text left : List ℕ) (track : ℕ) (before : List (Option ChannelPair)) (part : List ℕ) (others : Option (List ℕ)) (pair : ChannelPair)
    → GoesOn text track before (Some left) → part ≡ before_first (λ b. b == 44) left → others ≡ behind_first 44 left → track < 16 → WritesPair part pair → MayHave before track pair
    → GoesOn text (track + 1) (slice_set before track (Some pair)) others
goes_on_next text left track before part others pair on e f small writes may after h =
    on after (subst (λ (ps : List (List ℕ)). GivesFrom track before ps after) (sym (first_part left))
    (small, pair, rw (← e) writes, may, subst (λ (o : Option (List ℕ)). GivesFrom (track + 1) (slice_set before track (Some pair)) (parts_left o) after) f h))

-- nothing is left
pub goes_on_all : (text : List ℕ) (track : ℕ) (before : List (Option ChannelPair)) → GoesOn text track before None → GivesChannels text before
goes_on_all text track before on = on before refl
