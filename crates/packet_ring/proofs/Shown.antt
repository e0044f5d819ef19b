-- A `&` to the block holds its invariant, and shows that the block's lifetime lasts. Assumes `Logic`.
use Rattle.std.proofs.Common.{[], ◌∷◌}
use seplogic.Ra.Ura.{Ura}
use base.Logic.{sep, wand, apply∗, snd∗}
use base.Fraction.{full_share}
use base.Stored.{Coded}
use base.Fml.{Lft, Share, Fml, fsep, fbor, flft, fshr_bor}
use types.Logic.{Logic, sem, lfts}
use types.Kit.{‵, raw, ◌⊛◌, later, ◌$◌, !, qed, move, drop, split, fsplit, fjoin, use1, use2, updating, await, now, done}
use types.Tokens.{bor_fracture}
use denote.RawPtr.{Ptr}
use denote.Sharing.{ShrLaws, one, said}
use denote.SharingLaws.{beside_shr_laws, one_shr_laws}
use denote.Struct.Lending.{Lends, Lends-both}
use Rattle.packet_ring.specs.Table.{State}
use Rattle.packet_ring.specs.Lent.{BlockId, block_life, common, rights, block_owns, block_shares}
use Rattle.packet_ring.proofs.Moves.{common_twice}

module _ {V E : Type 0} (cv : Coded V) (ce : Coded E) (holds : State V E → Type 0) (p : Ptr) (z : BlockId) where
  abbrev C : Fml
  C = common cv.code ce holds p z

  abbrev Φ : Share → Fml
  Φ q = flft (block_life z) q

  pub shown_laws : ShrLaws (block_shares cv.code ce holds p z)
  unfolding Rattle.packet_ring.specs.Lent.seal
  shown_laws = beside_shr_laws (one Φ) (said C) (one_shr_laws Φ)
      record { contraction = λ M 𝓤 𝓛 ν. common_twice 𝓛 cv ce holds p z; mono = λ M 𝓤 𝓛 μ ν. snd∗ 𝓤 (sem 𝓛 (base.Before.before μ ν)) (sem 𝓛 C) }

  module _ {M : Type 1} {𝓤 : Ura M} (𝓛 : Logic 𝓤) (l : Lft) where
    open 𝓛 use {H, A}

    token : Lends 𝓛 (Φ full_share) (one Φ) l
    token ν ts inc sp = qed 𝓛 (‵ (fbor ν (Φ full_share)) ∷ raw (lfts 𝓛 ts) ∷ []) {P = H.⇛ (sep 𝓤 (sem 𝓛 (fshr_bor ν Φ)) (lfts 𝓛 ts))} (updating ! $ bor_fracture ! tt Φ full_share $ now ! $ done !)

    knowledge : Lends 𝓛 (fsep C (rights cv.code ce holds p z)) (said C) l
    knowledge ν ts inc sp = let P : Fml = fsep C (rights cv.code ce holds p z) in let Back = H.⇛ (sep 𝓤 (A.bor ν P) (lfts 𝓛 ts)) in
        qed 𝓛 (‵ (fbor ν P) ∷ raw (lfts 𝓛 ts) ∷ []) {P = H.⇛ (sep 𝓤 (sem 𝓛 C) (lfts 𝓛 ts))} (
        updating ! $ use2 𝓛 (later (‵ P ⊛ raw (wand 𝓤 (sem 𝓛 P) Back))) (𝓛.more.bor_acc_by ν ts P sp) $ await ! tt $ split ! $ fsplit ! $
        use1 𝓛 (‵ C ⊛ ‵ C) (common_twice 𝓛 cv ce holds p z) $ split ! $ move ! (0 ∷ 2 ∷ []) $ fjoin ! $ move ! (0 ∷ 2 ∷ []) $
        use2 𝓛 (later (‵ (fbor ν P) ⊛ raw (lfts 𝓛 ts))) (apply∗ 𝓤 (sem 𝓛 P) Back) $ await ! tt $ split ! $ drop ! $ move ! (1 ∷ 0 ∷ []) $ now ! $ done !)

    pub lends_shown : Lends 𝓛 (block_owns cv.code ce holds p z) (block_shares cv.code ce holds p z) l
    unfolding Rattle.packet_ring.specs.Lent.seal
    lends_shown = Lends-both 𝓛 (Φ full_share) (fsep C (rights cv.code ce holds p z)) (one Φ) (said C) l token knowledge
