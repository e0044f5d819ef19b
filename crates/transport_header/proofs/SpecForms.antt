-- A spec is read as its parts say, and no other way.
use Rattle.std.proofs.Common.{◌≡◌, ℕ, Bool, true, false, cond, List, [], ◌∷◌, map, Option, None, Some, refl, ap, sym, ◌∙◌, codes}
use Rattle.std.specs.Prelude.{is_some}
use Rattle.std.specs.List.{join_with_byte}
use Rattle.std.specs.Option.{option_and_then, option_map_or}
use Rattle.base_syntax.specs.Blanks.{trimmed}
use Rattle.base_syntax.specs.Names.{same_name}
use Rattle.base_syntax.specs.Quotes.{parts, AreParts}
use Rattle.base_syntax.proofs.AreParts as quotes
use Rattle.base_syntax.proofs.Trims.{is_core, only_core}
use Rattle.transport_header.specs.declared.spec.Spec.{Spec}
use Rattle.transport_header.specs.declared.spec.ChannelPair.{ChannelPair}
use Rattle.transport_header.specs.declared.spec.Protocol.{Protocol}
use Rattle.transport_header.specs.declared.spec.Protocol.TheVariants.{Tcp, Other}
use Rattle.transport_header.specs.declared.spec.Mode.{Mode}
use Rattle.transport_header.specs.declared.spec.Mode.TheVariants.{Play, Record}
use Rattle.transport_header.specs.SpecForm.{AreTrimsOf, NamesProtocol, IsNamed, AsksChannels, AsksMode, IsSpec}
use Rattle.transport_header.specs.Transport.{protocol_of, value_named, channels_of, mode_of, channels_in, mode_in, spec_of_parts, spec_of}
use Rattle.transport_header.proofs.FirstNamed.{first_found, found_first, nothing_named, none_has_name}
use Rattle.transport_header.proofs.Grammar.{reads, only}
use Rattle.transport_header.proofs.Modes.{mode_read, mode_only}

same_some : {X : Type 0} {x y : X} → Some x ≡ Some y → x ≡ y
same_some e = cc

none_is_some : {X : Type 0} {x : X} {P : Type 0} → None ≡ Some x → P
none_is_some e = absurd (cc)

play_is_record : {P : Type 0} → Play ≡ Record → P
play_is_record e = absurd (cc)

-- the transport
protocol_told : (transport : List ℕ) → NamesProtocol transport (protocol_of transport)
protocol_told transport = go (same_name transport (codes "RTP/AVP/TCP")) refl
  where
    go : (test : Bool) → same_name transport (codes "RTP/AVP/TCP") ≡ test → NamesProtocol transport (cond test Tcp Other)
    go true e = e
    go false e = e

protocol_only : (transport : List ℕ) (protocol : Protocol) → NamesProtocol transport protocol → protocol ≡ protocol_of transport
protocol_only transport Tcp h = rw h refl
protocol_only transport Other h = rw h refl

-- a parameter without a value that counts
named_told : (parameters : List (List ℕ)) (name : List ℕ) → IsNamed parameters name (is_some (value_named name parameters))
named_told parameters name = go (value_named name parameters) refl
  where
    go : (found : Option (List ℕ)) → value_named name parameters ≡ found → IsNamed parameters name (is_some found)
    go None e = none_has_name parameters name e
    go (Some value) e = (value, found_first parameters name value e)

named_only : (parameters : List (List ℕ)) (name : List ℕ) (told : Bool) → IsNamed parameters name told → told ≡ is_some (value_named name parameters)
named_only parameters name true h = sym (ap is_some (first_found parameters name h.0 h.1))
named_only parameters name false h = sym (ap is_some (nothing_named parameters name h))

-- the channels
channels_told : (parameters : List (List ℕ)) → AsksChannels parameters (channels_in parameters)
channels_told parameters = go (value_named (codes "interleaved") parameters) refl
  where
    asked : (value : List ℕ) → value_named (codes "interleaved") parameters ≡ Some value → (channels : Option ChannelPair) → channels_of value ≡ channels → AsksChannels parameters channels
    asked value e None h = λ other pair first asks.
        let same : other ≡ value = same_some (sym (first_found parameters (codes "interleaved") other first) ∙ e) in
        none_is_some (sym h ∙ ap channels_of (sym same) ∙ reads other pair asks)
    asked value e (Some pair) h = (value, found_first parameters (codes "interleaved") value e, only value pair h)

    go : (found : Option (List ℕ)) → value_named (codes "interleaved") parameters ≡ found → AsksChannels parameters (option_and_then channels_of found)
    go None e = λ value pair first asks. none_is_some (sym e ∙ first_found parameters (codes "interleaved") value first)
    go (Some value) e = asked value e (channels_of value) refl

channels_only : (parameters : List (List ℕ)) (channels : Option ChannelPair) → AsksChannels parameters channels → channels ≡ channels_in parameters
channels_only parameters (Some pair) (value, first, asks) =
    sym (ap (option_and_then channels_of) (first_found parameters (codes "interleaved") value first) ∙ reads value pair asks)
channels_only parameters None h = go (channels_in parameters) (channels_told parameters)
  where
    go : (channels : Option ChannelPair) → AsksChannels parameters channels → None ≡ channels
    go None told = refl
    go (Some pair) (value, first, asks) = absurd (h value pair first asks)

-- the mode
mode_told : (parameters : List (List ℕ)) → AsksMode parameters (mode_in parameters)
mode_told parameters = go (value_named (codes "mode") parameters) refl
  where
    asked : (value : List ℕ) → value_named (codes "mode") parameters ≡ Some value → (mode : Mode) → mode_of value ≡ mode → AsksMode parameters mode
    asked value e Play h = λ other first asks.
        let same : other ≡ value = same_some (sym (first_found parameters (codes "mode") other first) ∙ e) in
        play_is_record (sym h ∙ ap mode_of (sym same) ∙ mode_read other asks)
    asked value e Record h = (value, found_first parameters (codes "mode") value e, mode_only value h)

    go : (found : Option (List ℕ)) → value_named (codes "mode") parameters ≡ found → AsksMode parameters (option_map_or mode_of found Play)
    go None e = λ value first asks. none_is_some (sym e ∙ first_found parameters (codes "mode") value first)
    go (Some value) e = asked value e (mode_of value) refl

mode_is : (parameters : List (List ℕ)) (mode : Mode) → AsksMode parameters mode → mode ≡ mode_in parameters
mode_is parameters Record (value, first, asks) = sym (ap (λ o. option_map_or mode_of o Play) (first_found parameters (codes "mode") value first) ∙ mode_read value asks)
mode_is parameters Play h = go (mode_in parameters) (mode_told parameters)
  where
    go : (mode : Mode) → AsksMode parameters mode → Play ≡ mode
    go Play told = refl
    go Record (value, first, asks) = absurd (h value first asks)

-- the parts
trims : (texts : List (List ℕ)) → AreTrimsOf texts (map trimmed texts)
trims [] = tt
trims (text ∷ texts) = (is_core text, trims texts)

only_trims : (texts cores : List (List ℕ)) → AreTrimsOf texts cores → cores ≡ map trimmed texts
only_trims [] [] h = refl
only_trims [] (core ∷ cores) h = absurd h
only_trims (text ∷ texts) [] h = absurd h
only_trims (text ∷ texts) (core ∷ cores) h = let first = only_core text core h.0 in let rest = only_trims texts cores h.1 in cc

told_parts : (text : List ℕ) (all : List (List ℕ)) → AreParts 59 all → join_with_byte 59 all ≡ text → IsSpec text (spec_of_parts (map trimmed all))
told_parts text [] cut joined = absurd cut
told_parts text (first ∷ others) cut joined = record {
  transport = trimmed first;
  parameters = map trimmed others;
  parts = record { first = first; others = others; cut = cut; joined = joined; transport_is = is_core first; parameters_are = trims others };
  protocol = protocol_told (trimmed first);
  multicast = named_told (map trimmed others) (codes "multicast");
  interleaved = channels_told (map trimmed others);
  mode = mode_told (map trimmed others);
}

pub spec_told : (text : List ℕ) → IsSpec text (spec_of text)
unfolding spec_of
spec_told text = told_parts text (parts 59 text) (quotes.are_parts 59 text) (quotes.joined 59 text)

spec_eq : (a b : Spec) → a.protocol ≡ b.protocol → a.multicast ≡ b.multicast → a.interleaved ≡ b.interleaved → a.mode ≡ b.mode → a ≡ b
spec_eq a b protocol multicast interleaved mode = rw (protocol, multicast, interleaved, mode) refl

pub spec_only : (text : List ℕ) (spec : Spec) → IsSpec text spec → spec ≡ spec_of text
unfolding spec_of
spec_only text spec p =
    let whole : parts 59 text ≡ p.parts.first ∷ p.parts.others = ap (parts 59) (sym p.parts.joined) ∙ quotes.only 59 (p.parts.first ∷ p.parts.others) p.parts.cut in
    let first = only_core p.parts.first p.transport p.parts.transport_is in
    let others = only_trims p.parts.others p.parameters p.parts.parameters_are in
    let all : map trimmed (parts 59 text) ≡ p.transport ∷ p.parameters = ap (map trimmed) whole ∙ cc in
    spec_eq spec (spec_of_parts (p.transport ∷ p.parameters)) (protocol_only p.transport spec.protocol p.protocol) (named_only p.parameters (codes "multicast") spec.multicast p.multicast)
    (channels_only p.parameters spec.interleaved p.interleaved) (mode_is p.parameters spec.mode p.mode)
    ∙ ap spec_of_parts (sym all)
