-- A row of places, of which the first hold words and the others are empty, as words side by side and room behind them; and
-- room for bytes, cut and put together, and what bytes leave. Assumes `Logic`.
use Rattle.std.proofs.Common.{◌≡◌, ℕ, zero, suc, ◌+◌, ◌-◌, ◌*◌, ◌^◌, ◌<◌, ◌≤◌, List, [], ◌∷◌, ◌++◌, map, length, replicate, set, Option, Some, None, sym, refl, ap, subst, arith, w8, w64, length-append}
use lib.ListN.{length-map, length-replicate}
use seplogic.Ra.Ura.{Ura}
use mir.Syntax.{ty_int, ty_array}
use mir.Val.{vint}
use base.Fraction.{full_share}
use base.Logic.{SProp, ent, sep, guard, never_e}
use base.Fml.{Fml, ftrue, fat, froom}
use types.Logic.{Logic, sem}
use types.Kit.{‵, ◌⊛◌, ◌$◌, ◌∵◌, !, qed, by, move, keep, drop, use1, use2, split, fsplit, fsplit3, fjoin, fpick, fpack, flt_l, flt_i, check, rewrite, frame, done}
use types.SemTy.{cells}
use denote.Builtin.{u8, u64}
use denote.Memory.{mem, part_at}
use denote.Plain.{uint_out}
use denote.RawPtr.{Ptr, block_ptr, null_ptr, block_of, count_of, InBlock}
use denote.RawPtr.Room.{past_bytes, room_cut, room_glue}
use denote.Steps.{nothing}
use Rattle.core.proofs.tally.Steps.{word_out}
use Rattle.atomic_table.specs.Seated.{word, strip}
use Rattle.circular_buffer.specs.Ownership.{slots, cells_own}
use Rattle.packet_ring.specs.Lent.{Spot, blank, bytes_lie}

abbrev nones : ℕ → List (Option ℕ)
nones n = replicate n None

abbrev pub front : List ℕ → ℕ → List (Option ℕ)
front xs m = map Some xs ++ nones m

length_front : (xs : List ℕ) (m : ℕ) → length (front xs m) ≡ length xs + m
length_front xs m = let none : Option ℕ = None in let a = length-append (map Some xs) (nones m) in let b = length-map xs Some in let c = length-replicate m none in omega arith

-- the first of the places that are as they were is changed
pub one_changed : {X : Type 0} (x d : X) (i m : ℕ) → set (replicate i x ++ replicate (suc m) d) i x ≡ replicate (suc i) x ++ replicate m d
one_changed x d zero m = refl
one_changed x d (suc i) m = ap (λ (xs : List _). x ∷ xs) (one_changed x d i m)

module _ {M : Type 1} {𝓤 : Ura M} (𝓛 : Logic 𝓤) where
  abbrev Pr : Type 2
  Pr = SProp 𝓤

  abbrev ◌⊢◌ : Pr → Pr → Type 1
  P ⊢ Q = ent 𝓤 P Q

  abbrev ◌∗◌ : Pr → Pr → Pr
  P ∗ Q = sep 𝓤 P Q

  abbrev ⟦◌⟧ : Fml → Pr
  ⟦ P ⟧ = sem 𝓛 P

  infix 26 ◌⊢◌
  infixr 35 ◌∗◌
  -- room for words
  abbrev pub spare : ℕ → ℕ → ℕ → Fml
  spare m b o = froom (ty_array (ty_int w64) m) b o

  spared : (m b o : ℕ) → ⟦ slots u64 b o (nones m) ⟧ ⊢ ⟦ spare m b o ⟧
  spared zero b o = 𝓛.laws.room_nil (ty_int w64) b o
  spared (suc m) b o = qed 𝓛 (‵ (froom (ty_int w64) b o) ∷ ‵ (slots u64 b (o + 8) (nones m)) ∷ []) ∵ move ! (1 ∷ []) $ use1 𝓛 (‵ (spare m b (o + 8))) (spared m b (o + 8)) $ move ! (1 ∷ 0 ∷ []) $ by ! (𝓛.laws.room_cons (ty_int w64) m b o)

  placed : (m b o : ℕ) → ⟦ spare m b o ⟧ ⊢ ⟦ slots u64 b o (nones m) ⟧
  placed zero b o = qed 𝓛 (‵ (spare zero b o) ∷ []) ∵ keep ! [] $ done !
  placed (suc m) b o = qed 𝓛 (‵ (spare (suc m) b o) ∷ []) ∵ use1 𝓛 (‵ (froom (ty_int w64) b o) ⊛ ‵ (spare m b (o + 8))) (𝓛.laws.room_uncons (ty_int w64) m b o) $ split ! $ frame ! $ by ! (placed m b (o + 8))

  filled : (xs : List ℕ) (m b o e : ℕ) → e ≡ length xs * 8 + o → ⟦ slots u64 b o (front xs m) ⟧ ⊢ ⟦ cells (mem u64) xs b o ⟧ ∗ ⟦ spare m b e ⟧
  filled [] m b o e is = let same : o ≡ e = omega arith in qed 𝓛 (‵ (slots u64 b o (nones m)) ∷ []) ∵ use1 𝓛 (‵ (spare m b o)) (spared m b o) $ rewrite ! 0 (λ (k : ℕ). ‵ (spare m b k)) same refl $ nothing ! $ done !
  filled (x ∷ xs) m b o e is = qed 𝓛 (‵ (part_at u64 full_share x b o) ∷ ‵ (slots u64 b (o + 8) (front xs m)) ∷ []) ∵ move ! (1 ∷ []) $
      use1 𝓛 (‵ (cells (mem u64) xs b (o + 8)) ⊛ ‵ (spare m b e)) (filled xs m b (o + 8) e (omega arith)) $ split ! $ move ! (2 ∷ 0 ∷ []) $ fjoin ! $ done !

  emptied : (xs : List ℕ) (m b o e : ℕ) → e ≡ length xs * 8 + o → ⟦ cells (mem u64) xs b o ⟧ ∗ ⟦ spare m b e ⟧ ⊢ ⟦ slots u64 b o (nones (length xs + m)) ⟧
  emptied [] m b o e is = let same : e ≡ o = omega arith in let zero_more : m ≡ 0 + m = omega arith in
      qed 𝓛 (‵ ftrue ∷ ‵ (spare m b e) ∷ []) ∵ drop ! $ rewrite ! 0 (λ (k : ℕ). ‵ (spare m b k)) same refl $ rewrite ! 0 (λ (k : ℕ). ‵ (spare k b o)) zero_more refl $ by ! (placed (0 + m) b o)
  emptied (x ∷ xs) m b o e is = let more : suc (length xs + m) ≡ suc (length xs) + m = omega arith in subst (λ (k : ℕ). ⟦ cells (mem u64) (x ∷ xs) b o ⟧ ∗ ⟦ spare m b e ⟧ ⊢ ⟦ slots u64 b o (nones k) ⟧) more
      (qed 𝓛 ((‵ (part_at u64 full_share x b o) ⊛ ‵ (cells (mem u64) xs b (o + 8))) ∷ ‵ (spare m b e) ∷ []) ∵ split ! $ use1 𝓛 (‵ (word b o x)) (word_out 𝓛 b o x) $
      use1 𝓛 (‵ (froom (ty_int w64) b o)) (𝓛.laws.at_room (ty_int w64) b o (vint w64 x)) $ frame ! $ by ! (emptied xs m b (o + 8) e (omega arith)))

  abbrev Fit : Ptr → List ℕ → ℕ → Type 0
  Fit p xs m = InBlock p × (length xs * 8 + m * 8 < 2 ^ 63)

  pub stripped : (p : Ptr) (xs : List ℕ) (m : ℕ) → ⟦ cells_own u64 p (front xs m) ⟧ ⊢ guard 𝓤 (Fit p xs m) (⟦ strip u64 p xs ⟧ ∗ ⟦ spare m (block_of p) (length xs * 8 + count_of p) ⟧)
  stripped (block_ptr b o) xs m = qed 𝓛 (‵ (cells_own u64 (block_ptr b o) (front xs m)) ∷ []) ∵ fsplit ! $ flt_l ! (λ fit. let long = length_front xs m in let small : length xs * 8 + m * 8 < 2 ^ 63 = omega arith in let few : length xs * 8 < 2 ^ 63 = omega arith in
      check ! (tt, small) $ use1 𝓛 (‵ (cells (mem u64) xs b o) ⊛ ‵ (spare m b (length xs * 8 + o))) (filled xs m b o (length xs * 8 + o) refl) $ split ! $
      nothing ! $ fpack ! (Unit {0} × (length xs * 8 < 2 ^ 63)) (λ _. ftrue) (tt, few) $ fjoin ! $ done !)
  stripped null_ptr xs m = never_e 𝓤 _

  pub cleared : (p : Ptr) (xs : List ℕ) (m : ℕ) → Fit p xs m → ⟦ strip u64 p xs ⟧ ∗ ⟦ spare m (block_of p) (length xs * 8 + count_of p) ⟧ ⊢ ⟦ cells_own u64 p (nones (length xs + m)) ⟧
  cleared (block_ptr b o) xs m fit = let none : Option ℕ = None in let long = length-replicate (length xs + m) none in
      qed 𝓛 (‵ (strip u64 (block_ptr b o) xs) ∷ ‵ (spare m b (length xs * 8 + o)) ∷ []) ∵ fsplit ! $ drop ! $
      use2 𝓛 (‵ (slots u64 b o (nones (length xs + m)))) (emptied xs m b o (length xs * 8 + o) refl) $
      flt_i ! (length (nones (length xs + m)) * 8) (2 ^ 63) (let small = fit.1 in omega arith) $ done !
  cleared null_ptr xs m fit = absurd fit.0

  -- room for bytes is cut in two
  pub blank_cut : (m n b o : ℕ) → ⟦ blank (m + n) b o ⟧ ⊢ ⟦ blank m b o ⟧ ∗ ⟦ blank n b (o + m) ⟧
  blank_cut m n b o = subst (λ (k : ℕ). ⟦ blank (m + n) b o ⟧ ⊢ ⟦ blank m b o ⟧ ∗ ⟦ blank n b k ⟧) (past_bytes m o) (room_cut 𝓛 (ty_int w8) m n b o)

  -- and put together
  pub blank_glue : (m n b o : ℕ) → ⟦ blank m b o ⟧ ∗ ⟦ blank n b (o + m) ⟧ ⊢ ⟦ blank (m + n) b o ⟧
  blank_glue m n b o = subst (λ (k : ℕ). ⟦ blank m b o ⟧ ∗ ⟦ blank n b k ⟧ ⊢ ⟦ blank (m + n) b o ⟧) (past_bytes m o) (room_glue 𝓛 (ty_int w8) m n b o)

  -- bytes are given up
  pub bytes_blank : (bs : List ℕ) (b o : ℕ) → ⟦ cells (mem u8) bs b o ⟧ ⊢ ⟦ blank (length bs) b o ⟧
  bytes_blank [] b o = 𝓛.laws.room_nil (ty_int w8) b o
  bytes_blank (x ∷ bs) b o = qed 𝓛 (‵ (part_at u8 full_share x b o) ∷ ‵ (cells (mem u8) bs b (o + 1)) ∷ []) ∵ use1 𝓛 (‵ (fat full_share (ty_int w8) b o (vint w8 x))) (uint_out 𝓛 full_share w8 x b o) $
      use1 𝓛 (‵ (froom (ty_int w8) b o)) (𝓛.laws.at_room (ty_int w8) b o (vint w8 x)) $ move ! (1 ∷ []) $ use1 𝓛 (‵ (blank (length bs) b (o + 1))) (bytes_blank bs b (o + 1)) $ move ! (1 ∷ 0 ∷ []) $ by ! (𝓛.laws.room_cons (ty_int w8) (length bs) b o)

  pub blanked : (t : Spot) (bs : List ℕ) → ⟦ bytes_lie t bs ⟧ ⊢ ⟦ blank t.room t.block t.bytes ⟧
  blanked t bs = let n : ℕ = length bs in let b : ℕ = t.block in qed 𝓛 (‵ (bytes_lie t bs) ∷ []) ∵ fsplit3 ! $ move ! (2 ∷ []) $ fpick ! (λ le. drop ! $ use1 𝓛 (‵ (blank n b t.bytes)) (bytes_blank bs b t.bytes) $
      use2 𝓛 (‵ (blank (n + (t.room - n)) b t.bytes)) (blank_glue n (t.room - n) b t.bytes) $ rewrite ! 0 (λ (k : ℕ). ‵ (blank k b t.bytes)) (let e : n + (t.room - n) ≡ t.room = omega arith in e) refl $ done !)

  -- none is written yet
  pub unwritten : (t : Spot) (bs : List ℕ) → bs ≡ [] → ⟦ blank t.room t.block t.bytes ⟧ ⊢ ⟦ bytes_lie t bs ⟧
  unwritten t bs none = let b : ℕ = t.block in let all : t.room ≡ t.room - 0 = omega arith in let start : t.bytes ≡ t.bytes + 0 = omega arith in let same : (t.room, t.bytes) ≡ (t.room - 0, t.bytes + 0) = (λ i. (all i, start i)) in
      qed 𝓛 (‵ (blank t.room b t.bytes) ∷ []) ∵ rewrite ! 0 (λ (k : ℕ × ℕ). ‵ (blank k.0 b k.1)) same refl $ nothing ! $ fpack ! (0 ≤ t.room) (λ _. ftrue) (omega arith) $ move ! (1 ∷ 0 ∷ []) $ fjoin ! $ nothing ! $ fjoin ! $
      rewrite ! 0 (λ (xs : List ℕ). ‵ (bytes_lie t xs)) (sym none) refl $ done !
