-- The Transport fields of a client's tracks.
use Rattle.std.proofs.Common.{◌≡◌, ◌<◌, ℕ, zero, suc, false, List, [], ◌∷◌, Some, refl, arith}
use Rattle.std.specs.Fmt.{digits}
use Rattle.std.proofs.lemmas.List.Elements.{All-nil}
use Rattle.transport_header.specs.declared.spec.Mode.TheVariants.{Record}
use Rattle.transport_header.specs.declared.spec.Protocol.TheVariants.{Tcp}
use Rattle.transport_header.specs.declared.spec.Spec.{Spec}
use Rattle.transport_header.specs.Chosen.{IsAcceptable}
use Rattle.transport_header.specs.Transport.{channels_of, mode_of, spec_of, specs_of}
use Rattle.client_laws.specs.Publishing.{AsksToRecord, track_transport}

abbrev recorded : (first second : ℕ) → Spec
recorded first second = record { protocol = Tcp; multicast = false; interleaved = Some (record { first = first; second = second }); mode = Record }

as_spec : (text : List ℕ) (first second : ℕ) → specs_of text ≡ recorded first second ∷ [] → AsksToRecord text
as_spec text first second is = (recorded first second, ([], [], is, All-nil (λ (spec : Spec). IsAcceptable spec → ⊥), (refl, refl)), refl)

pub of_track : (track : ℕ) → track < 16 → AsksToRecord (track_transport track)
unfolding digits channels_of mode_of spec_of specs_of
of_track zero low = as_spec (track_transport zero) 0 1 refl
of_track (suc zero) low = as_spec (track_transport (suc zero)) 2 3 refl
of_track (suc (suc zero)) low = as_spec (track_transport (suc (suc zero))) 4 5 refl
of_track (suc (suc (suc zero))) low = as_spec (track_transport (suc (suc (suc zero)))) 6 7 refl
of_track (suc (suc (suc (suc zero)))) low = as_spec (track_transport (suc (suc (suc (suc zero))))) 8 9 refl
of_track (suc (suc (suc (suc (suc zero))))) low = as_spec (track_transport (suc (suc (suc (suc (suc zero)))))) 10 11 refl
of_track (suc (suc (suc (suc (suc (suc zero)))))) low = as_spec (track_transport (suc (suc (suc (suc (suc (suc zero))))))) 12 13 refl
of_track (suc (suc (suc (suc (suc (suc (suc zero))))))) low = as_spec (track_transport (suc (suc (suc (suc (suc (suc (suc zero)))))))) 14 15 refl
of_track (suc (suc (suc (suc (suc (suc (suc (suc zero)))))))) low = as_spec (track_transport (suc (suc (suc (suc (suc (suc (suc (suc zero))))))))) 16 17 refl
of_track (suc (suc (suc (suc (suc (suc (suc (suc (suc zero))))))))) low = as_spec (track_transport (suc (suc (suc (suc (suc (suc (suc (suc (suc zero)))))))))) 18 19 refl
of_track (suc (suc (suc (suc (suc (suc (suc (suc (suc (suc zero)))))))))) low = as_spec (track_transport (suc (suc (suc (suc (suc (suc (suc (suc (suc (suc zero))))))))))) 20 21 refl
of_track (suc (suc (suc (suc (suc (suc (suc (suc (suc (suc (suc zero))))))))))) low = as_spec (track_transport (suc (suc (suc (suc (suc (suc (suc (suc (suc (suc (suc zero)))))))))))) 22 23 refl
of_track (suc (suc (suc (suc (suc (suc (suc (suc (suc (suc (suc (suc zero)))))))))))) low = as_spec (track_transport (suc (suc (suc (suc (suc (suc (suc (suc (suc (suc (suc (suc zero))))))))))))) 24 25 refl
of_track (suc (suc (suc (suc (suc (suc (suc (suc (suc (suc (suc (suc (suc zero))))))))))))) low = as_spec (track_transport (suc (suc (suc (suc (suc (suc (suc (suc (suc (suc (suc (suc (suc zero)))))))))))))) 26 27 refl
of_track (suc (suc (suc (suc (suc (suc (suc (suc (suc (suc (suc (suc (suc (suc zero)))))))))))))) low = as_spec (track_transport (suc (suc (suc (suc (suc (suc (suc (suc (suc (suc (suc (suc (suc (suc zero))))))))))))))) 28 29 refl
of_track (suc (suc (suc (suc (suc (suc (suc (suc (suc (suc (suc (suc (suc (suc (suc zero))))))))))))))) low = as_spec (track_transport (suc (suc (suc (suc (suc (suc (suc (suc (suc (suc (suc (suc (suc (suc (suc zero)))))))))))))))) 30 31 refl
of_track (suc (suc (suc (suc (suc (suc (suc (suc (suc (suc (suc (suc (suc (suc (suc (suc track)))))))))))))))) low = absurd (omega (arith, low))
