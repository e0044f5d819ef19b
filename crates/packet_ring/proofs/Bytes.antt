-- One byte more of a unit is written, and its bytes are seen. Assumes `Logic`.
use Rattle.std.proofs.Common.{◌≡◌, ℕ, zero, suc, ◌+◌, ◌-◌, ◌<◌, ◌≤◌, List, [], ◌∷◌, ◌++◌, length, take, drop as drop_l, refl, arith, w8, length-append, length-take, length-drop}
use seplogic.Ra.Ura.{Ura}
use mir.Syntax.{ty_int}
use mir.Val.{vint}
use base.Fraction.{full_share}
use base.Logic.{SProp, ent, sep, id⊢}
use base.Fml.{Lft, Fml, ftrue, fat, froom, flft, fshr_bor}
use base.Before.{before}
use contract.BorrowLft.{meet_⊑_left, meet_⊑_right, ⊑_meet}
use types.Logic.{Logic, sem}
use types.Na.{before-Incl, before_lent}
use types.Kit.{‵, ◌⊛◌, ◌$◌, ◌∵◌, !, qed, by, move, keep, drop, use0, use1, use2, split, fsplit, fsplit3, fjoin, fpick, fpack, rewrite, frame, done}
use types.SemTy.{cells}
use denote.Builtin.{u8}
use denote.Memory.{mem, part_at, shared_of}
use denote.Plain.{uint_in}
use denote.Slice.{elements_shared}
use denote.Steps.{nothing}
use Rattle.packet_ring.specs.Lent.{Spot, blank, bytes_lie, sight}
use Rattle.packet_ring.proofs.Grounds.{blank_glue, bytes_blank}
use Rattle.packet_ring.proofs.Cells.{sight_laws}

module _ {M : Type 1} {𝓤 : Ura M} (𝓛 : Logic 𝓤) where
  abbrev Pr : Type 2
  Pr = SProp 𝓤

  abbrev ◌⊢◌ : Pr → Pr → Type 1
  P ⊢ Q = ent 𝓤 P Q

  abbrev ◌∗◌ : Pr → Pr → Pr
  P ∗ Q = sep 𝓤 P Q

  abbrev ⟦◌⟧ : Fml → Pr
  ⟦ P ⟧ = sem 𝓛 P

  infix 26 ◌⊢◌
  infixr 35 ◌∗◌
  abbrev side : List ℕ → ℕ → ℕ → Fml
  side bs b o = cells (mem u8) bs b o

  -- bytes side by side, cut in two
  cut : (j : ℕ) (bs : List ℕ) (b o : ℕ) → j ≤ length bs → ⟦ side bs b o ⟧ ⊢ ⟦ side (take j bs) b o ⟧ ∗ ⟦ side (drop_l j bs) b (o + j) ⟧
  cut zero bs b o le = let same : o ≡ o + 0 = omega arith in qed 𝓛 (‵ (side bs b o) ∷ []) ∵ rewrite ! 0 (λ (k : ℕ). ‵ (side bs b k)) same refl $ nothing ! $ done !
  cut (suc j) [] b o le = absurd (omega arith)
  cut (suc j) (y ∷ bs) b o le = let same : o + 1 + j ≡ o + suc j = omega arith in qed 𝓛 (‵ (part_at u8 full_share y b o) ∷ ‵ (side bs b (o + 1)) ∷ []) ∵ move ! (1 ∷ []) $
      use1 𝓛 (‵ (side (take j bs) b (o + 1)) ⊛ ‵ (side (drop_l j bs) b (o + 1 + j))) (cut j bs b (o + 1) (omega arith)) $ split ! $ rewrite ! 1 (λ (k : ℕ). ‵ (side (drop_l j bs) b k)) same refl $ move ! (2 ∷ 0 ∷ []) $ fjoin ! $ done !

  -- one more behind them
  snoc : (bs : List ℕ) (m b o e : ℕ) → e ≡ o + length bs → ⟦ side bs b o ⟧ ∗ ⟦ part_at u8 full_share m b e ⟧ ⊢ ⟦ side (bs ++ m ∷ []) b o ⟧
  snoc [] m b o e is = let same : e ≡ o = omega arith in qed 𝓛 (‵ ftrue ∷ ‵ (part_at u8 full_share m b e) ∷ []) ∵ drop ! $ rewrite ! 0 (λ (k : ℕ). ‵ (part_at u8 full_share m b k)) same refl $ nothing ! $ move ! (1 ∷ 0 ∷ []) $ fjoin ! $ done !
  snoc (y ∷ bs) m b o e is = qed 𝓛 ((‵ (part_at u8 full_share y b o) ⊛ ‵ (side bs b (o + 1))) ∷ ‵ (part_at u8 full_share m b e) ∷ []) ∵ split ! $ frame ! $ by ! (snoc bs m b (o + 1) e (omega arith))

  module _ (t : Spot) (bs : List ℕ) (j : ℕ) (le : j ≤ length bs) (near : j < t.room) where
    abbrev b : ℕ
    b = t.block

    abbrev e : ℕ
    e = t.bytes + j

    abbrev pub before_place : Fml
    before_place = side (take j bs) b t.bytes

    abbrev pub behind_place : Fml
    behind_place = blank (t.room - suc j) b (e + 1)

    -- the place j, and what lies before and behind it
    pub place_out : ⟦ bytes_lie t bs ⟧ ⊢ ⟦ froom (ty_int w8) b e ⟧ ∗ (⟦ before_place ⟧ ∗ ⟦ behind_place ⟧)
    place_out = let n : ℕ = length bs in let m : ℕ = length (drop_l j bs) in let long : m ≡ n - j = length-drop j bs in
        qed 𝓛 (‵ (bytes_lie t bs) ∷ []) ∵ fsplit3 ! $ move ! (2 ∷ []) $ fpick ! (λ fits. drop ! $
        use1 𝓛 (‵ before_place ⊛ ‵ (side (drop_l j bs) b e)) (cut j bs b t.bytes le) $ split ! $ move ! (1 ∷ []) $ use1 𝓛 (‵ (blank m b e)) (bytes_blank 𝓛 (drop_l j bs) b e) $ move ! (2 ∷ []) $
        rewrite ! 0 (λ (k : ℕ). ‵ (blank (t.room - n) b k)) (let s : t.bytes + n ≡ e + m = omega arith in s) refl $ move ! (1 ∷ 0 ∷ []) $
        use2 𝓛 (‵ (blank (m + (t.room - n)) b e)) (blank_glue 𝓛 m (t.room - n) b e) $ rewrite ! 0 (λ (k : ℕ). ‵ (blank k b e)) (let s : m + (t.room - n) ≡ suc (t.room - suc j) = omega arith in s) refl $
        use1 𝓛 (‵ (froom (ty_int w8) b e) ⊛ ‵ behind_place) (𝓛.laws.room_uncons (ty_int w8) (t.room - suc j) b e) $ split ! $ move ! (0 ∷ 2 ∷ 1 ∷ []) $ done !)

    -- a byte is there
    pub place_in : (m : ℕ) → ⟦ fat full_share (ty_int w8) b e (vint w8 m) ⟧ ∗ (⟦ before_place ⟧ ∗ ⟦ behind_place ⟧) ⊢ ⟦ bytes_lie t (take j bs ++ m ∷ []) ⟧
    place_in m = let ys : List ℕ = take j bs ++ m ∷ [] in let short : length (take j bs) ≡ j = (let l = length-take j bs in omega arith) in let long : length ys ≡ suc j = (let a = length-append (take j bs) (m ∷ []) in omega arith) in
        let left : t.room - suc j ≡ t.room - length ys = omega arith in let next : e + 1 ≡ t.bytes + length ys = omega arith in let same : (t.room - suc j, e + 1) ≡ (t.room - length ys, t.bytes + length ys) = (λ i. (left i, next i)) in
        qed 𝓛 (‵ (fat full_share (ty_int w8) b e (vint w8 m)) ∷ (‵ before_place ⊛ ‵ behind_place) ∷ []) ∵ use1 𝓛 (‵ (part_at u8 full_share m b e)) (uint_in 𝓛 full_share w8 m b e) $ move ! (1 ∷ []) $ split ! $
        rewrite ! 1 (λ (k : ℕ × ℕ). ‵ (blank k.0 b k.1)) same refl $ move ! (0 ∷ 2 ∷ []) $
        use2 𝓛 (‵ (side ys b t.bytes)) (snoc (take j bs) m b t.bytes e (omega arith)) $ nothing ! $ fpack ! (length ys ≤ t.room) (λ _. ftrue) (omega arith) $ move ! (2 ∷ 0 ∷ []) $ fjoin ! $ move ! (1 ∷ 0 ∷ []) $ fjoin ! $ done !

  -- the first of bytes that are shown
  shown_first : (n : ℕ) (bs : List ℕ) (b o : ℕ) (κ : Lft) → ⟦ elements_shared u8 bs b o κ ⟧ ⊢ ⟦ elements_shared u8 (take n bs) b o κ ⟧
  shown_first zero bs b o κ = qed 𝓛 (‵ (elements_shared u8 bs b o κ) ∷ []) ∵ keep ! [] $ done !
  shown_first (suc n) [] b o κ = id⊢ 𝓤 _
  shown_first (suc n) (y ∷ bs) b o κ = qed 𝓛 (‵ (shared_of u8 y b o κ) ∷ ‵ (elements_shared u8 bs b (o + 1) κ) ∷ []) ∵ frame ! $ by ! (shown_first n bs b (o + 1) κ)

  -- of the contents that are shown as long as a lifetime lasts, the first bytes are shown while it does
  pub bytes_seen : (t : Spot) (x : List ℕ) (n : ℕ) (κ : Lft) → ⟦ fshr_bor κ (λ q. flft t.life q) ⟧ ∗ ⟦ sight t x (κ ++ t.life) ⟧ ⊢ ⟦ elements_shared u8 (take n (drop_l t.width x)) t.block t.bytes κ ⟧
  bytes_seen t x n κ = let α : Lft = t.life in let bs : List ℕ = drop_l t.width x in
      qed 𝓛 (‵ (fshr_bor κ (λ q. flft α q)) ∷ ‵ (sight t x (κ ++ α)) ∷ []) ∵
      use0 𝓛 (‵ (before (α ++ κ) (κ ++ α))) (before-Incl 𝓛 (α ++ κ) (κ ++ α) (⊑_meet (α ++ κ) κ α (meet_⊑_right α κ) (meet_⊑_left α κ))) $ move ! (1 ∷ 0 ∷ []) $
      use2 𝓛 (‵ (before κ (κ ++ α))) (before_lent 𝓛 κ α (κ ++ α)) $ use2 𝓛 (‵ (sight t x κ)) ((sight_laws t x).mono M 𝓤 𝓛 κ (κ ++ α)) $
      fsplit ! $ drop ! $ by ! (shown_first n bs t.block t.bytes κ)
