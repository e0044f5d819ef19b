-- A token's right to end a round becomes its right to write. Assumes `Logic`.
use Rattle.std.proofs.Common.{ℕ, List, [], ◌∷◌}
use seplogic.Ra.Ura.{Ura}
use base.Stored.{Coded}
use base.Share.{three_quarters}
use base.Logic.{SProp, ent, sep}
use base.Fml.{Share, flft}
use base.Growing.{prefixes, at_least}
use types.Logic.{Logic, sem}
use types.Kit.{‵, ◌⊛◌, later, split, split3, use2, fjoin3, ◌$◌, ◌∵◌, !, qed, move, use1, fjoin, updating, await, now, done}
use Rattle.atomic_table.specs.Seated.{fact, seen}
use Rattle.packet_ring.specs.Table.{Me, Right, no_right, may_read, may_end, may_write, settled, settled_right, renewed, renewed_right}
use Rattle.packet_ring.specs.Lent.{BlockId, block_life, spot, tracked, round, mine}
use Rattle.packet_ring.proofs.Cells.{ended, freshly}
use Rattle.std.proofs.Common.{◌<◌}

module _ {M : Type 1} {𝓤 : Ura M} (𝓛 : Logic 𝓤) {V E : Type 0} (cv : Coded V) (ce : Coded E) (z : BlockId) (id : ℕ) (v : V) (l : List E) where
  abbrev sat : Right → SProp 𝓤
  sat r = sem 𝓛 (mine cv.code ce z id (record { view = v; right = r; seen = l }))

  settles_right : (r : Right) → ent 𝓤 (sat r) (𝓛.H.⇛ (sat (settled_right r)))
  settles_right no_right = 𝓛.laws.⇛_intro _
  settles_right (may_read k x) = 𝓛.laws.⇛_intro _
  settles_right (may_write k x) = 𝓛.laws.⇛_intro _
  settles_right (may_end k x) = qed 𝓛 (‵ (seen cv.code z.views_name id three_quarters v) ∷ ‵ (at_least (prefixes ce) z.log_name l) ∷ ‵ (fact (k < z.units)) ∷ ‵ (round (spot z k) x) ∷ []) ∵ updating ! $ move ! (3 ∷ []) $
      use1 𝓛 (later (‵ (tracked (spot z k) x))) (ended 𝓛 (spot z k) x) $ await ! tt $ now ! $ move ! (1 ∷ 2 ∷ 3 ∷ 0 ∷ []) $ done !

pub settles : {M : Type 1} {𝓤 : Ura M} (𝓛 : Logic 𝓤) {V E : Type 0} (cv : Coded V) (ce : Coded E) (z : BlockId) (id : ℕ) (me : Me V E)
    → ent 𝓤 (sem 𝓛 (mine cv.code ce z id me)) (𝓛.H.⇛ (sem 𝓛 (mine cv.code ce z id (settled me))))
settles 𝓛 cv ce z id me = settles_right 𝓛 cv ce z id me.view me.seen me.right

module _ {M : Type 1} {𝓤 : Ura M} (𝓛 : Logic 𝓤) {V E : Type 0} (cv : Coded V) (ce : Coded E) (z : BlockId) (id : ℕ) (v : V) (l : List E) (s : Share) where
  open 𝓛 use {H, A}

  abbrev held : Right → SProp 𝓤
  held r = sep 𝓤 (sem 𝓛 (mine cv.code ce z id (record { view = v; right = r; seen = l }))) (A.lft (block_life z) s)

  renews_right : (r : Right) → ent 𝓤 (held r) (H.⇛ (held (renewed_right r)))
  renews_right no_right = 𝓛.laws.⇛_intro _
  renews_right (may_read k x) = 𝓛.laws.⇛_intro _
  renews_right (may_end k x) = 𝓛.laws.⇛_intro _
  renews_right (may_write k x) = qed 𝓛 ((‵ (seen cv.code z.views_name id three_quarters v) ⊛ ‵ (at_least (prefixes ce) z.log_name l) ⊛ (‵ (fact (k < z.units)) ⊛ ‵ (tracked (spot z k) x))) ∷ ‵ (flft (block_life z) s) ∷ []) ∵ updating ! $ split3 ! $ move ! (2 ∷ []) $ split ! $ move ! (1 ∷ 4 ∷ []) $
      use2 𝓛 (later (‵ (round (spot z k) x) ⊛ ‵ (flft (block_life z) s))) (freshly 𝓛 (spot z k) x s) $ await ! tt $ split ! $ move ! (2 ∷ 0 ∷ []) $ fjoin ! $ move ! (2 ∷ 3 ∷ 0 ∷ []) $ fjoin3 ! $ now ! $ done !

pub renews : {M : Type 1} {𝓤 : Ura M} (𝓛 : Logic 𝓤) {V E : Type 0} (cv : Coded V) (ce : Coded E) (z : BlockId) (id : ℕ) (me : Me V E) (s : Share)
    → ent 𝓤 (sep 𝓤 (sem 𝓛 (mine cv.code ce z id me)) (𝓛.A.lft (block_life z) s)) (𝓛.H.⇛ (sep 𝓤 (sem 𝓛 (mine cv.code ce z id (renewed me))) (𝓛.A.lft (block_life z) s)))
renews 𝓛 cv ce z id me s = renews_right 𝓛 cv ce z id me.view me.seen s me.right
