-- One cell of a unit, as a reader looks into it and as a writer changes it. Assumes `Logic`.
use Rattle.std.proofs.Common.{◌≡◌, ℕ, zero, suc, ◌+◌, ◌*◌, ◌<◌, ◌≤◌, List, [], ◌∷◌, length, get_or, set, take, sym, refl, ◌∙◌, subst, arith, w64, length-set, length-take, get_or-take}
use native.Mathlib.Nat.{le_of_suc-le-suc, not-suc-le-zero}
use seplogic.Ra.Ura.{Ura}
use mir.Syntax.{ty_int}
use mir.Val.{vint}
use base.Fraction.{full_share}
use base.FractionLaws.{common}
use base.Logic.{SProp, ent, sep, wand, ex, guard, apply∗}
use base.Fml.{Lft, Share, Fml, fsep, flft, fat}
use types.Logic.{Logic, sem}
use types.Kit.{‵, raw, ◌⊛◌, ◌$◌, ◌∵◌, !, qed, by, move, keep, drop as drop_one, use1, use2, split, fsplit, fjoin, fpick, fpack, feq_l, feq_i, rewrite, frame, assume, show, check, done}
use types.Tokens.{lft-common}
use types.Share.{arr_parts}
use denote.ArrayMemory.{Array-apart, Array-whole}
use denote.Builtin.{u64}
use denote.Copied.{uint_Copied}
use denote.Index.{others, takes, puts, place, place_is, row}
use denote.Memory.{part_at, shared_of, shares, hidden_shr, each_shared}
use denote.Opens.{Opens, hide}
use denote.Plain.{uint_out, uint_in}
use denote.SharingLaws.{contraction}
use Rattle.counted_slot.specs.Counting.{parts}
use Rattle.counted_slot.proofs.Parts.{parts_in}
use Rattle.packet_ring.specs.Lent.{Spot, cells_row, sight, shown, reader}
use Rattle.packet_ring.proofs.Cells.{sight_laws}

module _ {M : Type 1} {𝓤 : Ura M} (𝓛 : Logic 𝓤) where
  open 𝓛 use {H, A}

  abbrev Pr : Type 2
  Pr = SProp 𝓤

  abbrev ◌⊢◌ : Pr → Pr → Type 1
  P ⊢ Q = ent 𝓤 P Q

  abbrev ◌∗◌ : Pr → Pr → Pr
  P ∗ Q = sep 𝓤 P Q

  abbrev ⟦◌⟧ : Fml → Pr
  ⟦ P ⟧ = sem 𝓛 P

  infix 26 ◌⊢◌
  infixr 35 ◌∗◌
  pub cell_opens : Opens 𝓛 u64
  cell_opens = (uint_Copied 𝓛 w64).opens

  -- of cells that are shown, one is
  one_shown : (κ : Lft) (xs : List ℕ) (i b o : ℕ) → i < length xs → ⟦ each_shared xs (shared_of u64) 8 b o κ ⟧ ⊢ ⟦ shared_of u64 (get_or xs i 0) b (place 8 o i) κ ⟧
  one_shown κ [] i b o l = absurd (not-suc-le-zero l)
  one_shown κ (x ∷ xs) zero b o l = qed 𝓛 (‵ (shared_of u64 x b o κ) ∷ ‵ (each_shared xs (shared_of u64) 8 b (o + 8) κ) ∷ []) ∵ keep ! (0 ∷ []) $ done !
  one_shown κ (x ∷ xs) (suc i) b o l = qed 𝓛 (‵ (shared_of u64 x b o κ) ∷ ‵ (each_shared xs (shared_of u64) 8 b (o + 8) κ) ∷ []) ∵ drop_one ! $ by ! (one_shown κ xs i b (o + 8) (le_of_suc-le-suc l))

  module _ (t : Spot) (x : List ℕ) (i : ℕ) where
    abbrev α : Lft
    α = t.life

    abbrev n : ℕ
    n = get_or x i 0

    abbrev e : ℕ
    e = i * 8 + t.offset

    module _ (s : Share) where
      abbrev Whole : Pr
      Whole = ⟦ reader t x ⟧ ∗ A.lft α s

      abbrev pub Sight : ℕ × Share → Pr
      Sight u = ⟦ hidden_shr u64 (u.0 ∷ α) n t.block e ⟧ ∗ (A.lft (u.0 ∷ α) u.1 ∗ wand 𝓤 (A.lft (u.0 ∷ α) u.1) Whole)

      -- a reader looks into a cell while the block is there
      pub sighted : i < t.width → Whole ⊢ guard 𝓤 (t.width ≤ length x) (ex 𝓤 Sight)
      sighted inside = let y : List ℕ = take t.width x in let same : get_or y i 0 ≡ n = get_or-take t.width x i 0 inside in
          qed 𝓛 (‵ (reader t x) ∷ ‵ (flft α s) ∷ []) ∵ fpick ! (λ a. fsplit ! $ move ! (1 ∷ []) $
          use1 𝓛 (‵ (shown t a x) ⊛ ‵ (shown t a x)) (contraction 𝓛 (sight t x) (sight_laws t x) (a ∷ α)) $ split ! $
          fsplit ! $ move ! (1 ∷ []) $ drop_one ! $ fsplit ! $ feq_l ! (λ long. let m = length-take t.width x in check ! (omega arith) $
          use1 𝓛 (‵ (shared_of u64 (get_or y i 0) t.block (place 8 t.offset i) (a ∷ α))) (one_shown (a ∷ α) y i t.block t.offset (subst (λ (m : ℕ). i < m) (sym long) inside)) $
          rewrite ! 0 (λ (k : ℕ × ℕ). ‵ (shared_of u64 k.0 t.block k.1 (a ∷ α))) (λ j. (same j, place_is 8 t.offset i j)) refl $ move ! (2 ∷ []) $
          fpick ! (λ f. fpick ! (λ c. fsplit ! $ move ! (0 ∷ 4 ∷ []) $ let r : Share = (common f s).0 in let Both : Pr = A.lft (a ∷ []) f ∗ A.lft α s in
          use2 𝓛 (‵ (flft (a ∷ α) r) ⊛ raw (wand 𝓤 (A.lft (a ∷ α) r) Both)) (lft-common 𝓛 (a ∷ []) α f s) $ split ! $ show ! Sight (a, r) $
          move ! (3 ∷ []) $ hide ! $ frame ! $ frame ! $ assume ! (‵ (flft (a ∷ α) r)) $ use2 𝓛 (‵ (flft (a ∷ []) f) ⊛ ‵ (flft α s)) (apply∗ 𝓤 (A.lft (a ∷ α) r) Both) $ split ! $
          move ! (0 ∷ 2 ∷ []) $ fjoin ! $ use1 𝓛 (‵ (parts t.round_name a 1)) (parts_in 𝓛 t.round_name a 1 f c) $ move ! (0 ∷ 2 ∷ []) $ fjoin ! $
          fpack ! ℕ (λ d. fsep (parts t.round_name d 1) (shown t d x)) a $ done !))))

    abbrev pub rest : Fml
    rest = others (shares u64) full_share x i t.block t.offset

    abbrev pub cell : ℕ → Fml
    cell m = fat full_share (ty_int w64) t.block e (vint w64 m)

    -- a cell is taken out of the others
    pub cell_out : i < t.width → ⟦ part_at (cells_row t) full_share x t.block t.offset ⟧ ⊢ guard 𝓤 (length x ≡ t.width) (⟦ cell n ⟧ ∗ ⟦ rest ⟧)
    cell_out inside = qed 𝓛 (‵ (part_at (cells_row t) full_share x t.block t.offset) ∷ []) ∵
        use1 𝓛 (‵ ((arr_parts (shares u64) t.width).part full_share x t.block t.offset)) (Array-apart 𝓛 u64 full_share tt t.width x t.block t.offset) $ fsplit ! $ feq_l ! (λ long. check ! long $
        use1 𝓛 (‵ (part_at u64 full_share n t.block (place 8 t.offset i)) ⊛ ‵ rest) (takes (shares u64) full_share 𝓛 x i 0 t.block t.offset (subst (λ (m : ℕ). i < m) (sym long) inside)) $ split ! $
        rewrite ! 0 (λ (k : ℕ). ‵ (part_at u64 full_share n t.block k)) (place_is 8 t.offset i) refl $ use1 𝓛 (‵ (cell n)) (uint_out 𝓛 full_share w64 n t.block e) $ done !)

    -- and put back with another number
    pub cell_in : (m : ℕ) → i < t.width → length x ≡ t.width → ⟦ cell m ⟧ ∗ ⟦ rest ⟧ ⊢ ⟦ part_at (cells_row t) full_share (set x i m) t.block t.offset ⟧
    cell_in m inside long = qed 𝓛 (‵ (cell m) ∷ ‵ rest ∷ []) ∵ use1 𝓛 (‵ (part_at u64 full_share m t.block e)) (uint_in 𝓛 full_share w64 m t.block e) $
        rewrite ! 0 (λ (k : ℕ). ‵ (part_at u64 full_share m t.block k)) (sym (place_is 8 t.offset i)) refl $
        use2 𝓛 (‵ (row u64 full_share (set x i m) t.block t.offset)) (puts (shares u64) full_share 𝓛 x i m t.block t.offset (subst (λ (k : ℕ). i < k) (sym long) inside)) $
        feq_i ! ℕ (length (set x i m)) t.width (length-set x i m ∙ long) $ fjoin ! $ by ! (Array-whole 𝓛 u64 full_share t.width (set x i m) t.block t.offset)
