-- Which track the URI of a track names, for the owner of its mount.
use Rattle.std.proofs.Common.{◌≡◌, ◌<◌, ◌≤◌, ℕ, zero, suc, ◌+◌, List, [], ◌∷◌, inl, inr, length, slice_get, take, None, Some, Err, refl, ap, subst, ◌∙◌, arith}
use Rattle.url.specs.Parser.{parse_url}
use Rattle.url.specs.declared.error.ParseError.TheVariants.{RelativeUrlWithoutBase}
use Rattle.url.proofs.OnLiterals.{url_on_literals}
use Rattle.sdp.specs.declared.track.Track.{Track}
use Rattle.sdp.specs.Written.{track_control}
use Rattle.mounts.specs.declared.target.Target.{Target}
use Rattle.mounts.specs.Tracks.{IsCalledBy, IsControlOf, IsNamedByOwner, NoneIsCalledBy}
use Rattle.mounts.proofs.Controls.{control_injective}
use Rattle.client_laws.specs.Publishing.{AreNumbered}

-- the control of a track is no URL
no_url : (j : ℕ) → j < 16 → parse_url None (track_control j) ≡ Err RelativeUrlWithoutBase
unfolding url_on_literals
no_url zero low = refl
no_url (suc zero) low = refl
no_url (suc (suc zero)) low = refl
no_url (suc (suc (suc zero))) low = refl
no_url (suc (suc (suc (suc zero)))) low = refl
no_url (suc (suc (suc (suc (suc zero))))) low = refl
no_url (suc (suc (suc (suc (suc (suc zero)))))) low = refl
no_url (suc (suc (suc (suc (suc (suc (suc zero))))))) low = refl
no_url (suc (suc (suc (suc (suc (suc (suc (suc zero)))))))) low = refl
no_url (suc (suc (suc (suc (suc (suc (suc (suc (suc zero))))))))) low = refl
no_url (suc (suc (suc (suc (suc (suc (suc (suc (suc (suc zero)))))))))) low = refl
no_url (suc (suc (suc (suc (suc (suc (suc (suc (suc (suc (suc zero))))))))))) low = refl
no_url (suc (suc (suc (suc (suc (suc (suc (suc (suc (suc (suc (suc zero)))))))))))) low = refl
no_url (suc (suc (suc (suc (suc (suc (suc (suc (suc (suc (suc (suc (suc zero))))))))))))) low = refl
no_url (suc (suc (suc (suc (suc (suc (suc (suc (suc (suc (suc (suc (suc (suc zero)))))))))))))) low = refl
no_url (suc (suc (suc (suc (suc (suc (suc (suc (suc (suc (suc (suc (suc (suc (suc zero))))))))))))))) low = refl
no_url (suc (suc (suc (suc (suc (suc (suc (suc (suc (suc (suc (suc (suc (suc (suc (suc j)))))))))))))))) low = absurd (omega (arith, low))

module _ (target : Target) (track : ℕ) (low : track < 16) (no_query : target.query ≡ None) where
  -- the control of another track isn't what is asked for
  another : (j : ℕ) → j < track → IsControlOf target (track_control track) (track_control j) → ⊥
  another j less (inl same) = let one = control_injective j track (omega (arith, low, less)) (omega (arith, low)) same in absurd (omega (arith, less, one))
  another j less (inr (inl (query, some, is))) = absurd (cc)
  another j less (inr (inr path)) = let parsed = path.is.parsed in let refused = no_url j (omega (arith, low, less)) in absurd (cc)

  none_before : (tracks : List Track) (first n : ℕ) → first + n ≤ track → AreNumbered first tracks → NoneIsCalledBy target (track_control track) (take n tracks)
  none_before [] first zero before are = tt
  none_before [] first (suc n) before are = tt
  none_before (one ∷ tracks) first zero before are = tt
  none_before (one ∷ tracks) first (suc n) before are = (
    (λ (calls : IsCalledBy target (track_control track) one).
        let given = calls.1 in
        let own = are.0 in
        let same : calls.0 ≡ track_control first = cc in
        another first (omega (arith, before)) (subst (IsControlOf target (track_control track)) same calls.2)),
    none_before tracks (first + 1) n (omega (arith, before)) are.1,
  )

  pub named_track : (tracks : List Track) → track < length tracks → AreNumbered 0 tracks → IsNamedByOwner target (track_control track) tracks track
  named_track tracks there are =
      let found = numbered_at tracks 0 track track (omega arith) there are in
      inl (record {
        track = found.0;
        there = found.1;
        called = (track_control track, found.2, inl refl);
        first = none_before tracks 0 track (omega arith) are;
      })
    where
      numbered_at : (list : List Track) (first i at : ℕ) → first + i ≡ at → i < length list → AreNumbered first list → (one : Track) × (slice_get list i ≡ Some one) × (one.control ≡ Some (track_control at))
      numbered_at [] first i at sum within all = absurd (omega (arith, within))
      numbered_at (one ∷ list) first zero at sum within all = let same : first ≡ at = omega (arith, sum) in (one, refl, all.0 ∙ ap (λ n. Some (track_control n)) same)
      numbered_at (one ∷ list) first (suc i) at sum within all = numbered_at list (first + 1) i at (omega (arith, sum)) (omega (arith, within)) all.1
