-- What RTP-Info says of the tracks from one on.
use Rattle.std.proofs.Common.{◌≡◌, ℕ, suc, ◌+◌, ◌-◌, ◌<◌, List, [], ◌∷◌, ◌++◌, ap, sym, ◌∙◌, arith}
use Rattle.std.proofs.lemmas.List.{append_assoc, append-nil}
use Rattle.transport_header.specs.declared.rtp_info.InfoEntry.{InfoEntry}
use Rattle.session_state.specs.Replies.{infos}

module _ (info : ℕ → List InfoEntry) where
  next : (track : ℕ) → track < 16 → infos info track (16 - track) ≡ info track ++ infos info (track + 1) (16 - (track + 1))
  next track low = let left : 16 - track ≡ suc (16 - (track + 1)) = omega (arith, low) in ap (infos info track) left

  -- what was gathered up to a track, and what comes after it, is all
  abbrev pub Gathered : List InfoEntry → (track : ℕ) → Type 0
  Gathered entries track = infos info 0 16 ≡ entries ++ infos info track (16 - track)

  pub none_more : (entries : List InfoEntry) (track : ℕ) → track < 16 → info track ≡ [] → Gathered entries track → Gathered entries (track + 1)
  none_more entries track low none so = so ∙ ap (λ more. entries ++ more) (next track low ∙ ap (λ here. here ++ infos info (track + 1) (16 - (track + 1))) none)

  pub one_more : (entries : List InfoEntry) (entry : InfoEntry) (track : ℕ) → track < 16 → info track ≡ entry ∷ [] → Gathered entries track → Gathered (entries ++ entry ∷ []) (track + 1)
  one_more entries entry track low is so =
      so ∙ ap (λ more. entries ++ more) (next track low ∙ ap (λ here. here ++ infos info (track + 1) (16 - (track + 1))) is)
      ∙ sym (append_assoc entries (entry ∷ []) (infos info (track + 1) (16 - (track + 1))))

  pub all_gathered : (entries : List InfoEntry) (track : ℕ) → track ≡ 16 → Gathered entries track → entries ≡ infos info 0 16
  all_gathered entries track end so =
      let none : 16 - track ≡ 0 = omega (arith, end) in
      sym (so ∙ ap (λ left. entries ++ infos info track left) none ∙ append-nil entries)
