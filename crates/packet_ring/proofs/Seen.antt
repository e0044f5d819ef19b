-- A `&` to a token that may read shows what it may read. Assumes `Logic`.
use Rattle.std.proofs.Common.{ℕ, ◌<◌, List, [], ◌∷◌, ◌++◌}
use seplogic.Ra.Ura.{Ura}
use base.Stored.{Coded}
use base.FractionLaws.{Counts}
use base.Share.{three_quarters}
use base.Logic.{SProp, ent, sep, upd_i, id⊢}
use base.Fml.{Lft, Share, Fml, ftrue, fsep, fseps, fwand, fupd, fdead, fbor, flft, fshr_bor}
use base.Before.{before}
use base.Growing.{prefixes, at_least}
use contract.BorrowLft.{meet_⊑_left}
use types.Logic.{Logic, sem}
use types.Kit.{‵, ◌⊛◌, ◌$◌, ◌∵◌, !, qed, by, move, keep, drop, use0, use1, use2, split, group, fsplit, fsplit3, fjoin, fjoin3, fpick, fpack, assume, suffices, updating, now, done}
use types.Na.{before-Incl, before_lent}
use types.Tokens.{bor_open, obor_alter, bor_fracture}
use denote.Sharing.{ShrLaws}
use denote.SharingLaws.{contraction, nothing_shr_laws, within_shr_laws}
use denote.Steps.{nothing}
use denote.Struct.Lending.{Lends, Lends-nothing}
use Rattle.core.proofs.cell.Borrows.{by_one}
use Rattle.counted_slot.specs.Counting.{tag, parts}
use Rattle.counted_slot.proofs.Parts.{parts_in}
use Rattle.atomic_table.specs.Seated.{seen}
use Rattle.packet_ring.specs.Table.{Me, Right, no_right, may_read, may_end, may_write}
use Rattle.packet_ring.specs.Lent.{BlockId, Spot, block_life, spot, sight, shown, carried_shows, mine}
use Rattle.packet_ring.proofs.Cells.{sight_laws}

module _ {M : Type 1} {𝓤 : Ura M} (𝓛 : Logic 𝓤) {V E : Type 0} (cv : Coded V) (ce : Coded E) (z : BlockId) (id : ℕ) (v : V) (l : List E) (k : ℕ) (x : List ℕ) where
  open 𝓛 use {H, A}

  abbrev ⟦◌⟧ : Fml → SProp 𝓤
  ⟦ P ⟧ = sem 𝓛 P

  abbrev t : Spot
  t = spot z k

  abbrev α : Lft
  α = block_life z

  abbrev P : Fml
  P = mine cv.code ce z id (record { view = v; right = may_read k x; seen = l })

  abbrev S : Fml
  S = seen cv.code z.views_name id three_quarters v

  abbrev L : Fml
  L = at_least (prefixes ce) z.log_name l

  abbrev Q : ℕ → Share → Fml
  Q a f = flft (a ∷ []) f

  packs : (κ : Lft) (a : ℕ) (f : Share) → Counts 63 f 1 → k < z.units → ent 𝓤 (sep 𝓤 ⟦ tag t.round_name f a ⟧ (sep 𝓤 ⟦ shown t a x ⟧ (sep 𝓤 ⟦ S ⟧ ⟦ L ⟧))) ⟦ fwand (fsep (fdead κ) (fseps (Q a f ∷ []))) (fupd P) ⟧
  unfolding fseps
  packs κ a f c near = qed 𝓛 (‵ (tag t.round_name f a) ∷ ‵ (shown t a x) ∷ ‵ S ∷ ‵ L ∷ []) ∵ assume ! (‵ (fsep (fdead κ) (fsep (Q a f) ftrue))) $ suffices ! ⟦ P ⟧ (upd_i 𝓤 ⟦ P ⟧) $ fsplit3 ! $ move ! (1 ∷ 3 ∷ []) $ fjoin ! $
      use1 𝓛 (‵ (parts t.round_name a 1)) (parts_in 𝓛 t.round_name a 1 f c) $ move ! (0 ∷ 3 ∷ []) $ fjoin ! $ fpack ! ℕ (λ d. fsep (parts t.round_name d 1) (shown t d x)) a $
      nothing ! $ fpack ! (k < z.units) (λ _. ftrue) near $ fjoin ! $ move ! (3 ∷ 4 ∷ 0 ∷ []) $ fjoin3 ! $ keep ! (0 ∷ []) $ done !

  -- what is shown in a round is shown while its token is lent
  lasting_sight : (κ : Lft) (a : ℕ) → ent 𝓤 (sep 𝓤 (A.shr_bor κ (λ q. flft (a ∷ []) q)) ⟦ shown t a x ⟧) ⟦ sight t x (κ ++ α) ⟧
  lasting_sight κ a = let ρ : Lft = a ∷ [] in qed 𝓛 (‵ (fshr_bor κ (λ q. flft ρ q)) ∷ ‵ (shown t a x) ∷ []) ∵ use0 𝓛 (‵ (before (ρ ++ κ) ρ)) (before-Incl 𝓛 (ρ ++ κ) ρ (meet_⊑_left ρ κ)) $ move ! (1 ∷ 0 ∷ []) $
      use2 𝓛 (‵ (before κ ρ)) (before_lent 𝓛 κ ρ ρ) $ by ! ((within_shr_laws α (sight t x) (sight_laws t x)).mono M 𝓤 𝓛 κ ρ)

  reads : (κ : Lft) (q : Share) → ent 𝓤 (sep 𝓤 (A.bor κ P) (A.lft κ q)) (H.⇛ (sep 𝓤 ⟦ sight t x (κ ++ α) ⟧ (A.lft κ q)))
  unfolding fseps
  reads κ q = qed 𝓛 (‵ (fbor κ P) ∷ ‵ (flft κ q) ∷ []) ∵ updating ! $ bor_open ! tt $ move ! (1 ∷ []) $ fsplit3 ! $ move ! (2 ∷ []) $ fsplit ! $ fpick ! (λ near. drop ! $ fpick ! (λ a. fsplit ! $ move ! (1 ∷ []) $
      use1 𝓛 (‵ (shown t a x) ⊛ ‵ (shown t a x)) (contraction 𝓛 (sight t x) (sight_laws t x) (a ∷ α)) $ split ! $ move ! (2 ∷ []) $ fpick ! (λ f. fpick ! (λ c. fsplit ! $
      move ! (1 ∷ 2 ∷ 4 ∷ 5 ∷ []) $ group ! 4 $ use1 𝓛 (‵ (fwand (fsep (fdead κ) (fseps (Q a f ∷ []))) (fupd P))) (packs κ a f c near) $
      nothing ! $ move ! (2 ∷ 0 ∷ []) $ fjoin ! $ move ! (3 ∷ 0 ∷ 1 ∷ []) $ obor_alter ! tt (Q a f ∷ []) $
      use1 𝓛 (‵ (fbor κ (Q a f)) ⊛ ‵ ftrue) (id⊢ 𝓤 _) $ split ! $ bor_fracture ! tt (λ s. flft (a ∷ []) s) f $ now ! $ move ! (0 ∷ 3 ∷ []) $
      use2 𝓛 (‵ (sight t x (κ ++ α))) (lasting_sight κ a) $ keep ! (0 ∷ 2 ∷ []) $ done !))))

module _ {M : Type 1} {𝓤 : Ura M} (𝓛 : Logic 𝓤) {V E : Type 0} (cv : Coded V) (ce : Coded E) (z : BlockId) (id : ℕ) (v : V) (s : List E) (l : Lft) where
  open 𝓛 use {H, A}

  lends_right : (r : Right) → let me : Me V E = record { view = v; right = r; seen = s } in Lends 𝓛 (mine cv.code ce z id me) (carried_shows z me.right) l
  lends_right no_right = Lends-nothing 𝓛 _ l
  lends_right (may_end k x) = Lends-nothing 𝓛 _ l
  lends_right (may_write k x) = Lends-nothing 𝓛 _ l
  lends_right (may_read k x) = λ κ ts inc sp.
      let P : Fml = mine cv.code ce z id (record { view = v; right = may_read k x; seen = s }) in
      by_one 𝓛 κ ts sp (A.bor κ P) (sem 𝓛 (sight (spot z k) x (κ ++ block_life z))) (reads 𝓛 cv ce z id v s k x κ)

pub lends_mine : {M : Type 1} {𝓤 : Ura M} (𝓛 : Logic 𝓤) {V E : Type 0} (cv : Coded V) (ce : Coded E) (z : BlockId) (id : ℕ) (me : Me V E) (l : Lft) → Lends 𝓛 (mine cv.code ce z id me) (carried_shows z me.right) l
lends_mine 𝓛 cv ce z id me l = lends_right 𝓛 cv ce z id me.view me.seen l me.right

pub shows_laws : (z : BlockId) (r : Right) → ShrLaws (carried_shows z r)
shows_laws z no_right = nothing_shr_laws
shows_laws z (may_end k x) = nothing_shr_laws
shows_laws z (may_write k x) = nothing_shr_laws
shows_laws z (may_read k x) = within_shr_laws (block_life z) (sight (spot z k) x) (sight_laws (spot z k) x)
