-- The spec that the Transport header of a reply holds (RFC 2326, 12.39).
use Rattle.std.specs.Prelude.{Bool, true, false, Some}
use Rattle.transport_header.specs.declared.spec.Spec.{Spec}
use Rattle.transport_header.specs.declared.spec.Protocol.TheVariants.{Tcp}
use Rattle.transport_header.specs.declared.spec.Mode.{Mode}
use Rattle.transport_header.specs.declared.spec.Mode.TheVariants.{Play, Record}
use Rattle.transport_header.specs.declared.chosen.Chosen.{Chosen}

abbrev pub mode_chosen : Bool → Mode
mode_chosen true = Record
mode_chosen false = Play

-- over TCP, with the channels and the mode that were chosen
abbrev pub answered : Chosen → Spec
answered chosen = record {
  protocol = Tcp;
  multicast = false;
  interleaved = Some (record { first = chosen.rtp; second = chosen.rtcp });
  mode = mode_chosen chosen.recording;
}
