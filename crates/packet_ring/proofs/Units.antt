-- The words and the cells under the invariant, one unit at a time. Assumes `Logic`.
use Rattle.std.proofs.Common.{◌≡◌, ℕ, zero, suc, ◌+◌, ◌*◌, ◌<◌, List, [], ◌∷◌, length, get_or, set, sym, refl, ap, ◌∙◌, subst, arith, suc-mul, zero-mul, length-set}
use mathlib.Core.Option.{some, some-injective, some-ne-none}
use lib.ListN.{get_elem?}
use seplogic.Ra.Ura.{Ura}
use base.Logic.{SProp, ent, sep, wand, all, guard, upd, guard_i, apply∗, all_e, upd_i, via}
use base.Fml.{Fml, ftrue}
use types.Logic.{Logic, sem}
use types.Kit.{‵, raw, ◌⊛◌, given, ◌$◌, ◌∵◌, !, qed, move, keep, drop, split, fpack, learn, check, frame, each, assume, suffices, settle, done, use1, use2, rewrite}
use denote.Steps.{nothing}
use Rattle.atomic_table.specs.Seated.{word, fact}
use Rattle.packet_ring.specs.Table.{Access, exclusive, readable, Right, no_right, may_read, may_end, Act, keeps, pins, unpins, begins, finishes, accesses_after, right_after, Valid}
use Rattle.packet_ring.specs.Lent.{BlockId, spot, row, reader, round, access_at, accesses_row, carried}
use Rattle.packet_ring.proofs.Cells.{pinned, unpinned, begun, finished}

module _ {M : Type 1} {𝓤 : Ura M} (𝓛 : Logic 𝓤) where
  abbrev Pr : Type 2
  Pr = SProp 𝓤

  abbrev ◌⊢◌ : Pr → Pr → Type 1
  P ⊢ Q = ent 𝓤 P Q

  abbrev ◌∗◌ : Pr → Pr → Pr
  P ∗ Q = sep 𝓤 P Q

  infix 26 ◌⊢◌
  infixr 35 ◌∗◌
  abbrev ◌-∗◌ : Pr → Pr → Pr
  P -∗ Q = wand 𝓤 P Q

  abbrev ⟦◌⟧ : Fml → Pr
  ⟦ P ⟧ = sem 𝓛 P

  infixr 30 ◌-∗◌
  abbrev pub Reset : ℕ → ℕ → ℕ → ℕ → List ℕ → ℕ → ℕ → Pr
  Reset d b o p ns i m = ⟦ word b p m ⟧ -∗ ⟦ row d b o (set ns i m) ⟧

  -- one word of a row
  pub row_at : (d b o p : ℕ) (ns : List ℕ) (i : ℕ) → i < length ns → p ≡ i * d + o → ⟦ row d b o ns ⟧ ⊢ ⟦ word b p (get_or ns i 0) ⟧ ∗ all 𝓤 (Reset d b o p ns i)
  row_at d b o p [] i l e = absurd (omega arith)
  row_at d b o p (n ∷ ns) zero l e = let same : o ≡ p = sym (e ∙ ap (λ (k : ℕ). k + o) (zero-mul d) ∙ (let r : 0 + o ≡ o = omega arith in r)) in
      subst (λ (x : ℕ). ⟦ row d b o (n ∷ ns) ⟧ ⊢ ⟦ word b x n ⟧ ∗ all 𝓤 (Reset d b o x (n ∷ ns) zero)) same
      (qed 𝓛 (‵ (word b o n) ∷ ‵ (row d b (o + d) ns) ∷ []) ∵ frame ! $ each ! (Reset d b o o (n ∷ ns) zero) (λ m. assume ! (‵ (word b o m)) $ done !))
  row_at d b o p (n ∷ ns) (suc i) l e = let at : p ≡ i * d + (o + d) = e ∙ (let x : ℕ = i * d in let m : suc i * d ≡ x + d = suc-mul i d in let r : suc i * d + o ≡ x + (o + d) = omega arith in r) in
      qed 𝓛 (‵ (word b o n) ∷ ‵ (row d b (o + d) ns) ∷ []) ∵ move ! (1 ∷ []) $ use1 𝓛 (‵ (word b p (get_or ns i 0)) ⊛ raw (all 𝓤 (Reset d b (o + d) p ns i))) (row_at d b (o + d) p ns i (omega arith) at) $ split ! $ frame ! $
      each ! (Reset d b o p (n ∷ ns) (suc i)) (λ m. use1 𝓛 (raw (Reset d b (o + d) p ns i m)) (all_e 𝓤 (Reset d b (o + d) p ns i) m) $ assume ! (‵ (word b p m)) $
      use2 𝓛 (‵ (row d b (o + d) (set ns i m))) (apply∗ 𝓤 ⟦ word b p m ⟧ ⟦ row d b (o + d) (set ns i m) ⟧) $ move ! (1 ∷ 0 ∷ []) $ done !)

  module _ (z : BlockId) where
    abbrev at : ℕ → Access → Fml
    at k h = access_at (spot z k) h

    abbrev Refill : ℕ → List Access → ℕ → ℕ → Access → Pr
    Refill k hs i j h = ⟦ at j h ⟧ -∗ ⟦ accesses_row z k (set hs i h) ⟧

    -- one unit's cells
    accesses_row_at : (hs : List Access) (k i j : ℕ) (h : Access) → j ≡ k + i → get_elem? hs i ≡ some h → ⟦ accesses_row z k hs ⟧ ⊢ guard 𝓤 (i < length hs) (⟦ at j h ⟧ ∗ all 𝓤 (Refill k hs i j))
    accesses_row_at [] k i j h e is = absurd (some-ne-none h (sym is))
    accesses_row_at (x ∷ hs) k zero j h e is = let same : k ≡ j = omega arith in qed 𝓛 (‵ (at k x) ∷ ‵ (accesses_row z (suc k) hs) ∷ []) ∵ check ! (let r : zero < suc (length hs) = omega arith in r) $
        rewrite ! 0 (λ (y : Access). ‵ (at k y)) (some-injective x h is) refl $ rewrite ! 0 (λ (m : ℕ). ‵ (at m h)) same refl $ frame ! $
        each ! (Refill k (x ∷ hs) zero j) (λ y. assume ! (‵ (at j y)) $ rewrite ! 0 (λ (m : ℕ). ‵ (at m y)) (sym same) refl $ done !)
    accesses_row_at (x ∷ hs) k (suc i) j h e is = qed 𝓛 (‵ (at k x) ∷ ‵ (accesses_row z (suc k) hs) ∷ []) ∵ move ! (1 ∷ []) $
        use1 𝓛 (given (i < length hs) (‵ (at j h) ⊛ raw (all 𝓤 (Refill (suc k) hs i j)))) (accesses_row_at hs (suc k) i j h (omega arith) is) $ learn ! (λ near. check ! (let r : suc i < suc (length hs) = omega arith in r) $ split ! $ frame ! $
        each ! (Refill k (x ∷ hs) (suc i) j) (λ y. use1 𝓛 (raw (Refill (suc k) hs i j y)) (all_e 𝓤 (Refill (suc k) hs i j) y) $ assume ! (‵ (at j y)) $
        use2 𝓛 (‵ (accesses_row z (suc k) (set hs i y))) (apply∗ 𝓤 ⟦ at j y ⟧ ⟦ accesses_row z (suc k) (set hs i y) ⟧) $ move ! (1 ∷ 0 ∷ []) $ done !))

    abbrev pub Acted : List Access → Right → Act → Pr
    Acted hs r a = guard 𝓤 (length (accesses_after hs r a) ≡ z.units) (⟦ accesses_row z 0 (accesses_after hs r a) ⟧ ∗ ⟦ carried z (right_after r a) ⟧)

    -- an act moves cells, or a part of the right to read them, between the block and a token
    pub acts : (hs : List Access) (r : Right) (a : Act) → length hs ≡ z.units → Valid hs r a → ⟦ accesses_row z 0 hs ⟧ ∗ ⟦ carried z r ⟧ ⊢ upd 𝓤 (Acted hs r a)
    acts hs r keeps long ok = via 𝓤 _ (guard_i 𝓤 (length hs ≡ z.units) _ long) (upd_i 𝓤 (Acted hs r keeps))
    acts hs no_right (pins k m x) long ok = let a : Act = pins k m x in let h' : Access = readable (suc m) x in
        qed 𝓛 (‵ (accesses_row z 0 hs) ∷ ‵ ftrue ∷ []) ∵ suffices ! _ (upd_i 𝓤 (Acted hs no_right a)) $ check ! (length-set hs k h' ∙ long) $
        use1 𝓛 (given (k < length hs) (‵ (at k (readable m x)) ⊛ raw (all 𝓤 (Refill 0 hs k k)))) (accesses_row_at hs 0 k k (readable m x) (omega arith) ok.0) $ learn ! (λ near. split ! $
        use1 𝓛 (‵ (at k h') ⊛ ‵ (reader (spot z k) x)) (pinned 𝓛 (spot z k) m x ok.1) $ split ! $ move ! (2 ∷ []) $ use1 𝓛 (raw (Refill 0 hs k k h')) (all_e 𝓤 (Refill 0 hs k k) h') $ move ! (1 ∷ 0 ∷ []) $
        use2 𝓛 (‵ (accesses_row z 0 (set hs k h'))) (apply∗ 𝓤 ⟦ at k h' ⟧ ⟦ accesses_row z 0 (set hs k h') ⟧) $ frame ! $ nothing ! $ fpack ! (k < z.units) (λ _. ftrue) (subst (λ (n : ℕ). k < n) long near) $ keep ! (0 ∷ 1 ∷ []) $ done !)
    acts hs (may_read k x) (unpins m y) long ok = let a : Act = unpins m y in let h' : Access = readable m y in
        qed 𝓛 (‵ (accesses_row z 0 hs) ∷ (‵ (fact (k < z.units)) ⊛ ‵ (reader (spot z k) x)) ∷ []) ∵ suffices ! _ (upd_i 𝓤 (Acted hs (may_read k x) a)) $ check ! (length-set hs k h' ∙ long) $
        use1 𝓛 (given (k < length hs) (‵ (at k (readable (suc m) y)) ⊛ raw (all 𝓤 (Refill 0 hs k k)))) (accesses_row_at hs 0 k k (readable (suc m) y) (omega arith) ok.0) $ learn ! (λ near. split ! $ move ! (2 ∷ []) $ split ! $ drop ! $ move ! (1 ∷ 0 ∷ []) $
        use2 𝓛 (‵ (at k h')) (unpinned 𝓛 (spot z k) m y x ok.1) $ move ! (1 ∷ []) $ use1 𝓛 (raw (Refill 0 hs k k h')) (all_e 𝓤 (Refill 0 hs k k) h') $ move ! (1 ∷ 0 ∷ []) $
        use2 𝓛 (‵ (accesses_row z 0 (set hs k h'))) (apply∗ 𝓤 ⟦ at k h' ⟧ ⟦ accesses_row z 0 (set hs k h') ⟧) $ nothing ! $ move ! (1 ∷ 0 ∷ []) $ done !)
    acts hs no_right (begins k x) long ok = let a : Act = begins k x in
        qed 𝓛 (‵ (accesses_row z 0 hs) ∷ ‵ ftrue ∷ []) ∵ suffices ! _ (upd_i 𝓤 (Acted hs no_right a)) $ check ! (length-set hs k exclusive ∙ long) $
        use1 𝓛 (given (k < length hs) (‵ (at k (readable 0 x)) ⊛ raw (all 𝓤 (Refill 0 hs k k)))) (accesses_row_at hs 0 k k (readable 0 x) (omega arith) ok) $ learn ! (λ near. split ! $
        use1 𝓛 (‵ (at k exclusive) ⊛ ‵ (round (spot z k) x)) (begun 𝓛 (spot z k) x) $ split ! $ move ! (2 ∷ []) $ use1 𝓛 (raw (Refill 0 hs k k exclusive)) (all_e 𝓤 (Refill 0 hs k k) exclusive) $ move ! (1 ∷ 0 ∷ []) $
        use2 𝓛 (‵ (accesses_row z 0 (set hs k exclusive))) (apply∗ 𝓤 ⟦ at k exclusive ⟧ ⟦ accesses_row z 0 (set hs k exclusive) ⟧) $ frame ! $ nothing ! $ fpack ! (k < z.units) (λ _. ftrue) (subst (λ (n : ℕ). k < n) long near) $ keep ! (0 ∷ 1 ∷ []) $ done !)
    acts hs (may_end k x) finishes long ok = let h' : Access = readable 0 x in let Z : Pr = Acted hs (may_end k x) finishes in
        qed 𝓛 (‵ (accesses_row z 0 hs) ∷ (‵ (fact (k < z.units)) ⊛ ‵ (round (spot z k) x)) ∷ []) ∵
        use1 𝓛 (given (k < length hs) (‵ (at k exclusive) ⊛ raw (all 𝓤 (Refill 0 hs k k)))) (accesses_row_at hs 0 k k exclusive (omega arith) ok) $ learn ! (λ near. split ! $ move ! (2 ∷ []) $ split ! $ drop ! $ move ! (1 ∷ 0 ∷ []) $
        use2 𝓛 (raw (upd 𝓤 ⟦ at k h' ⟧)) (finished 𝓛 (spot z k) x) $ settle 𝓛 Z (‵ (at k h')) $ suffices ! _ (upd_i 𝓤 Z) $ check ! (length-set hs k h' ∙ long) $
        move ! (1 ∷ []) $ use1 𝓛 (raw (Refill 0 hs k k h')) (all_e 𝓤 (Refill 0 hs k k) h') $ move ! (1 ∷ 0 ∷ []) $
        use2 𝓛 (‵ (accesses_row z 0 (set hs k h'))) (apply∗ 𝓤 ⟦ at k h' ⟧ ⟦ accesses_row z 0 (set hs k h') ⟧) $ nothing ! $ move ! (1 ∷ 0 ∷ []) $ done !)
    acts hs r a long ok = absurd ok
