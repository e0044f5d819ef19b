-- A unit's contents: a round begins and ends, and its parts go out and come back. Assumes `Logic`.
use Rattle.std.proofs.Common.{◌≡◌, ℕ, suc, ◌+◌, ◌-◌, ◌^◌, ◌<◌, ◌≤◌, List, [], ◌∷◌, length, take, drop, refl, arith, w8, w64}
use seplogic.Ra.Ura.{Ura}
use base.Fraction.{full_share}
use base.FractionLaws.{Counts-all}
use base.Logic.{SProp, ent, sep, upd, upd_i, id⊢}
use base.Fml.{Lft, Share, Incl, Incl-refl, Fml, ftrue, fsep, fseps, fwand, fupd, fdead, fbor, flft, fobs, fauth}
use contract.BorrowLft.{meet_⊑_left, meet_⊑_right, ⊑_static}
use ghost.Rules.{Toks, span}
use types.Logic.{Logic, sem, lfts}
use types.Kit.{‵, raw, ◌⊛◌, given, later, ◌$◌, ◌∵◌, !, qed, move, keep, use1, use2, split, split3, group, join, fsplit, fsplit3, fjoin, fjoin3, fpick, fpack, learn, assume, suffices, settle, rewrite, frame, await, updating, now, done}
use types.Tokens.{lft_new, lft_end, lent_back, obor_alter}
use types.Mut.{open_ref}
use types.SemTy.{cells}
use denote.RattleType.{RattleType, RowLaws}
use denote.Array.{Array-row_laws}
use denote.Builtin.{u8, u64}
use denote.Memory.{part_at, shared_of, mem}
use denote.Sharing.{ShrLaws}
use denote.Slice.{elements_shared, elements_shr_laws}
use denote.Struct.Lending.{Lends, Lends-both, Lends-first, Lends-nothing}
use denote.Shares.{Shares, Shares-Array}
use denote.Param.Shared.{copy_shared}
use denote.Struct.Field.{u8-field, u64-field}
use denote.Struct.Laws.{u8-copy, u64-copy}
use denote.Plain.{uint_row_laws}
use denote.SharingLaws.{contraction, beside_shr_laws}
use denote.Steps.{nothing}
use Rattle.core.proofs.cell.Borrows.{by_one}
use Rattle.counted_slot.specs.Counting.{tag, share, parts}
use Rattle.counted_slot.proofs.Parts.{parts_in, parts_cut, parts_glue, parts_whole, parts_agree, renames}
use Rattle.packet_ring.specs.Table.{exclusive, readable}
use Rattle.packet_ring.specs.Lent.{Spot, cells_row, blank, bytes_lie, contents, held, tracked, sight, shown, waits, lasting, round, reader, access_at}
use Rattle.atomic_table.specs.Seated.{fact}

row_laws : (t : Spot) → RowLaws (cells_row t)
row_laws t = Array-row_laws u64 (uint_row_laws w64) t.width

pub sight_laws : (t : Spot) (x : List ℕ) → ShrLaws (sight t x)
sight_laws t x = let b : ℕ = t.block in let y : List ℕ = take t.width x in let bs : List ℕ = drop t.width x in
    beside_shr_laws (shared_of (cells_row t) y b t.offset) (elements_shared u8 bs b t.bytes) (row_laws t y b t.offset) (elements_shr_laws u8 (uint_row_laws w8) bs b t.bytes)

module _ {M : Type 1} {𝓤 : Ura M} (𝓛 : Logic 𝓤) (t : Spot) where
  open 𝓛 use {H, A}

  abbrev Pr : Type 2
  Pr = SProp 𝓤

  abbrev ◌⊢◌ : Pr → Pr → Type 1
  P ⊢ Q = ent 𝓤 P Q

  abbrev ◌∗◌ : Pr → Pr → Pr
  P ∗ Q = sep 𝓤 P Q

  abbrev ⟦◌⟧ : Fml → Pr
  ⟦ P ⟧ = sem 𝓛 P

  infix 26 ◌⊢◌
  infixr 35 ◌∗◌
  abbrev R : RattleType
  R = cells_row t

  abbrev α : Lft
  α = t.life

  abbrev obs : List ℕ → Fml
  obs x = fobs t.value_name ((contents t).coded.code x)

  abbrev auth : List ℕ → Fml
  auth x = fauth t.value_name ((contents t).coded.code x)

  abbrev at : List ℕ → Fml
  at x = (contents t).own_at x t.block t.offset

  cells_lend : Shares 𝓛 R []
  cells_lend = Shares-Array 𝓛 u64 tt t.width [] ((copy_shared u64-field u64-copy).shares M 𝓤 𝓛)

  byte_lends : Shares 𝓛 u8 []
  byte_lends = (copy_shared u8-field u8-copy).shares M 𝓤 𝓛

  bytes_lend : (bs : List ℕ) (b o : ℕ) → Lends 𝓛 (cells (mem u8) bs b o) (elements_shared u8 bs b o) []
  bytes_lend [] b o = Lends-nothing 𝓛 ftrue []
  bytes_lend (y ∷ bs) b o = Lends-both 𝓛 (part_at u8 full_share y b o) (cells (mem u8) bs b (o + 1)) (shared_of u8 y b o) (elements_shared u8 bs b (o + 1)) [] (λ κ ts. byte_lends y κ ts b o) (bytes_lend bs b (o + 1))

  whole_lends : (x : List ℕ) → Lends 𝓛 (at x) (sight t x) []
  whole_lends x = let bs : List ℕ = drop t.width x in let b : ℕ = t.block in let rest : Fml = fsep (blank (t.room - length bs) b (t.bytes + length bs)) (fact (length bs ≤ t.room)) in
      Lends-both 𝓛 (part_at R full_share (take t.width x) b t.offset) (bytes_lie t bs) (shared_of R (take t.width x) b t.offset) (elements_shared u8 bs b t.bytes) [] (λ κ ts. cells_lend (take t.width x) κ ts b t.offset)
      (Lends-first 𝓛 (cells (mem u8) bs b t.bytes) rest (elements_shared u8 bs b t.bytes) [] (bytes_lend bs b t.bytes))

  packs : (κ : Lft) (x : List ℕ) → ⟦ auth x ⟧ ⊢ ⟦ fwand (fsep (fdead κ) (fseps (at x ∷ []))) (fupd (held t)) ⟧
  unfolding fseps
  packs κ x = qed 𝓛 (‵ (auth x) ∷ []) ∵ assume ! (‵ (fsep (fdead κ) (fsep (at x) ftrue))) $ suffices ! ⟦ held t ⟧ (upd_i 𝓤 ⟦ held t ⟧) $ fsplit3 ! $ move ! (1 ∷ 3 ∷ []) $ fjoin ! $
      fpack ! (List ℕ) (λ y. fsep (at y) (auth y)) x $ keep ! (0 ∷ []) $ done !

  abbrev fixed : Lft → List ℕ → Pr
  fixed κ x = ⟦ obs x ⟧ ∗ A.bor κ (at x)

  -- a borrow of the cells is one of just this value
  value_at : (κ : Lft) (x : List ℕ) (q : Share) → (⟦ obs x ⟧ ∗ A.bor κ (held t)) ∗ A.lft κ q ⊢ H.⇛ (fixed κ x ∗ A.lft κ q)
  unfolding fseps
  value_at κ x q = qed 𝓛 ((‵ (obs x) ⊛ ‵ (fbor κ (held t))) ∷ ‵ (flft κ q) ∷ []) ∵ updating ! $ split ! $ open_ref ! tt (contents t) $ move ! (3 ∷ []) $
      use1 𝓛 (‵ (fwand (fsep (fdead κ) (fseps (at x ∷ []))) (fupd (held t)))) (packs κ x) $ nothing ! $ move ! (2 ∷ 0 ∷ []) $ fjoin ! $ move ! (2 ∷ 0 ∷ 1 ∷ []) $ obor_alter ! tt (at x ∷ []) $
      use1 𝓛 (‵ (fbor κ (at x)) ⊛ ‵ ftrue) (id⊢ 𝓤 _) $ split ! $ now ! $ move ! (3 ∷ 0 ∷ []) $ join ! $ keep ! (0 ∷ 2 ∷ []) $ done !

  -- a round begins
  pub freshly : (x : List ℕ) (s : Share) → ⟦ tracked t x ⟧ ∗ A.lft α s ⊢ H.⇛ (⟦ round t x ⟧ ∗ A.lft α s)
  freshly x s =
      qed 𝓛 ((‵ (obs x) ⊛ ‵ (fbor α (held t))) ∷ ‵ (flft α s) ∷ []) ∵ updating ! $ split ! $ lft_new ! tt (λ a.
      let ts : Toks = (a ∷ [], full_share) ∷ (α, s) ∷ [] in
      let sp : Incl (span ts) (a ∷ α) = Incl-refl (a ∷ α) in
      move ! (2 ∷ []) $ use1 𝓛 (later (‵ (fbor (a ∷ α) (held t)) ⊛ ‵ (waits t a))) (𝓛.more.bor_reborrow α (a ∷ α) (held t) (meet_⊑_right (a ∷ []) α)) $ await ! tt $ split ! $
      move ! (2 ∷ 4 ∷ []) $ group ! 2 $ move ! (3 ∷ 1 ∷ []) $ join ! $ move ! (0 ∷ 1 ∷ []) $
      use2 𝓛 (later ((‵ (obs x) ⊛ ‵ (fbor (a ∷ α) (at x))) ⊛ raw (lfts 𝓛 ts))) (by_one 𝓛 (a ∷ α) ts sp (⟦ obs x ⟧ ∗ A.bor (a ∷ α) (held t)) (fixed (a ∷ α) x) (value_at (a ∷ α) x)) $ await ! tt $ split ! $ split ! $
      move ! (1 ∷ 2 ∷ []) $ use2 𝓛 (later (‵ (shown t a x) ⊛ ‵ (flft (a ∷ []) full_share) ⊛ ‵ (flft α s))) (whole_lends x (a ∷ α) ts (⊑_static (span ts)) sp) $ await ! tt $ split3 ! $
      move ! (0 ∷ 4 ∷ 3 ∷ []) $ fjoin3 ! $ move ! (1 ∷ 0 ∷ []) $ fjoin ! $ fpack ! ℕ (λ b. fsep (flft (b ∷ []) full_share) (lasting t b x)) a $ now ! $ done !)

  -- and ends
  pub ended : (x : List ℕ) → ⟦ round t x ⟧ ⊢ H.⇛ ⟦ tracked t x ⟧
  ended x = qed 𝓛 (‵ (round t x) ∷ []) ∵ updating ! $ fpick ! (λ a. fsplit ! $ move ! (1 ∷ []) $ fsplit3 ! $ move ! (3 ∷ []) $ lft_end ! tt $
      use1 𝓛 (‵ (fdead (a ∷ α))) (𝓛.lfts.dead-incl (a ∷ α) (a ∷ []) (meet_⊑_left (a ∷ []) α)) $ move ! (0 ∷ 2 ∷ []) $ lent_back ! tt $ move ! (2 ∷ 0 ∷ []) $ fjoin ! $ now ! $ keep ! (0 ∷ []) $ done !)

  abbrev with_parts : ℕ → List ℕ → ℕ → Fml
  with_parts m x a = fsep (parts t.round_name a (2 ^ 63 - m)) (lasting t a x)

  -- one part of the round goes to a reader
  pub pinned : (m : ℕ) (x : List ℕ) → suc m < 2 ^ 63 → ⟦ access_at t (readable m x) ⟧ ⊢ ⟦ access_at t (readable (suc m) x) ⟧ ∗ ⟦ reader t x ⟧
  pinned m x small = qed 𝓛 (‵ (access_at t (readable m x)) ∷ []) ∵ fpick ! (λ a. fsplit ! $
      use1 𝓛 (‵ (parts t.round_name a 1) ⊛ ‵ (parts t.round_name a (2 ^ 63 - suc m))) (parts_cut 𝓛 t.round_name a (2 ^ 63 - m) 1 (2 ^ 63 - suc m) (omega arith) (omega arith) (omega arith) (omega arith)) $ split ! $
      move ! (2 ∷ []) $ fsplit ! $ use1 𝓛 (‵ (shown t a x) ⊛ ‵ (shown t a x)) (contraction 𝓛 (sight t x) (sight_laws t x) (a ∷ α)) $ split ! $
      move ! (0 ∷ 2 ∷ []) $ fjoin ! $ move ! (3 ∷ 0 ∷ []) $ fjoin ! $ fpack ! ℕ (with_parts (suc m) x) a $ move ! (0 ∷ 2 ∷ 1 ∷ []) $ frame ! $ fjoin ! $
      fpack ! ℕ (λ b. fsep (parts t.round_name b 1) (shown t b x)) a $ done !)

  -- and comes back
  pub unpinned : (m : ℕ) (x y : List ℕ) → suc m < 2 ^ 63 → ⟦ access_at t (readable (suc m) x) ⟧ ∗ ⟦ reader t y ⟧ ⊢ ⟦ access_at t (readable m x) ⟧
  unpinned m x y small = qed 𝓛 (‵ (access_at t (readable (suc m) x)) ∷ ‵ (reader t y) ∷ []) ∵ fpick ! (λ a. fsplit ! $ move ! (2 ∷ []) $ fpick ! (λ b. fsplit ! $ move ! (0 ∷ 2 ∷ []) $
      use2 𝓛 (given (b ≡ a) (‵ (parts t.round_name b 1) ⊛ ‵ (parts t.round_name a (2 ^ 63 - suc m)))) (parts_agree 𝓛 t.round_name b a 1 (2 ^ 63 - suc m)) $ learn ! (λ same. split ! $
      rewrite ! 0 (λ (c : ℕ). ‵ (parts t.round_name c 1)) same refl $
      use2 𝓛 (‵ (parts t.round_name a (1 + (2 ^ 63 - suc m)))) (parts_glue 𝓛 t.round_name a 1 (2 ^ 63 - suc m) (omega arith) (omega arith)) $
      rewrite ! 0 (λ (c : ℕ). ‵ (parts t.round_name a c)) (let e : 1 + (2 ^ 63 - suc m) ≡ 2 ^ 63 - m = omega arith in e) refl $
      move ! (0 ∷ 2 ∷ []) $ fjoin ! $ fpack ! ℕ (with_parts m x) a $ keep ! (0 ∷ []) $ done !)))

  -- the whole round goes to a writer
  pub begun : (x : List ℕ) → ⟦ access_at t (readable 0 x) ⟧ ⊢ ⟦ access_at t exclusive ⟧ ∗ ⟦ round t x ⟧
  begun x = qed 𝓛 (‵ (access_at t (readable 0 x)) ∷ []) ∵ fpick ! (λ a. fsplit ! $
      use1 𝓛 (‵ (share t.round_name a full_share)) (parts_whole 𝓛 t.round_name a) $ fsplit ! $ move ! (1 ∷ []) $
      fpack ! ℕ (tag t.round_name full_share) a $ frame ! $ fjoin ! $ fpack ! ℕ (λ b. fsep (flft (b ∷ []) full_share) (lasting t b x)) a $ done !)

  -- and a round comes back
  pub finished : (x : List ℕ) → ⟦ access_at t exclusive ⟧ ∗ ⟦ round t x ⟧ ⊢ upd 𝓤 ⟦ access_at t (readable 0 x) ⟧
  finished x = let Z : Pr = ⟦ access_at t (readable 0 x) ⟧ in qed 𝓛 (‵ (access_at t exclusive) ∷ ‵ (round t x) ∷ []) ∵ fpick ! (λ c. move ! (1 ∷ []) $ fpick ! (λ a. fsplit ! $ move ! (2 ∷ []) $
      use1 𝓛 (raw (upd 𝓤 ⟦ tag t.round_name full_share a ⟧)) (renames 𝓛 t.round_name c a) $ settle 𝓛 Z (‵ (tag t.round_name full_share a)) $ suffices ! _ (upd_i 𝓤 Z) $
      move ! (1 ∷ 0 ∷ []) $ fjoin ! $ use1 𝓛 (‵ (parts t.round_name a (2 ^ 63 - 0))) (parts_in 𝓛 t.round_name a (2 ^ 63) full_share (Counts-all 63)) $
      fjoin ! $ fpack ! ℕ (with_parts 0 x) a $ done !))
