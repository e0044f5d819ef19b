-- The Transport field that a client sends.
use Rattle.std.proofs.Common.{◌≡◌, ◌<◌, true, [], refl, ap}
use Rattle.std.proofs.lemmas.List.Elements.{All-nil}
use Rattle.transport_header.specs.declared.chosen.Chosen.{Chosen}
use Rattle.transport_header.specs.declared.spec.Spec.{Spec}
use Rattle.transport_header.specs.Answered.{answered, mode_chosen}
use Rattle.transport_header.specs.Chosen.{IsAcceptable, transport_text}
use Rattle.transport_header.proofs.RoundTrip.{round_trip}
use Rattle.client_laws.specs.Publishing.{AsksToRecord}

-- as `put_transport` writes it, of a session that records
pub asks_to_record : (chosen : Chosen) → chosen.rtp < 256 → chosen.rtcp < 256 → chosen.recording ≡ true → AsksToRecord (transport_text chosen)
asks_to_record chosen small small' records =
    (answered chosen, ([], [], round_trip chosen small small', All-nil (λ (spec : Spec). IsAcceptable spec → ⊥), (refl, refl)), ap mode_chosen records)
