-- What a token, and what was told of the log, say of the block, without a step. Assumes `Logic`.
use Rattle.std.proofs.Common.{◌≡◌, ℕ, List, [], ◌∷◌, arith}
use mathlib.Core.Option as maybe
use mathlib.Core.List.{IsPrefix, not-mem-nil}
use lib.ListN.{get_elem?}
use seplogic.Ra.Ura.{Ura}
use base.Fraction.{full_share}
use base.Share.{three_quarters}
use base.Stored.{Coded}
use base.Logic.{SProp, ent, sep, all, guard, emp, via, upd_i, id⊢}
use base.Fml.{Share, Fml, ftrue, fbor, fnamed, flft}
use base.Growing.{prefixes}
use types.Growing.{latest_bounds}
use types.Logic.{Logic, sem}
use types.Kit.{‵, raw, ◌⊛◌, some, given, ◌$◌, ◌∵◌, !, qed, by, move, keep, drop, split, fsplit, fsplit3, fjoin, fjoin3, fpick, fpack, pick, learn, check, frame, assume, suffices, done, use0, use1, use2}
use contract.Monad.{fact_i, fact_use}
use base.Logic.{guard_i}
use denote.RawPtr.{Ptr}
use denote.Steps.{nothing}
use Rattle.atomic_table.specs.Seated.{seen, roster}
use Rattle.atomic_table.proofs.Roster.{Moved, moves}
use Rattle.packet_ring.specs.Table.{State, Me, IsSighted}
use Rattle.packet_ring.specs.Lent.{BlockId, block_life, mine, Keeps, standing, inner, common, reached}

module _ {M : Type 1} {𝓤 : Ura M} (𝓛 : Logic 𝓤) {V : Type 0} (cv : Coded V) (γ : ℕ) where
  abbrev part : ℕ → V → Fml
  part id v = seen cv.code γ id three_quarters v

  abbrev Both : List V → ℕ → V → SProp 𝓤
  Both vs id v = sep 𝓤 (sem 𝓛 (roster cv.code γ 0 vs)) (sem 𝓛 (part id v))

  -- a token's view is the block's
  pub view_there : (vs : List V) (id : ℕ) (v : V) → ent 𝓤 (Both vs id v) (guard 𝓤 (get_elem? vs id ≡ maybe.some v) (Both vs id v))
  view_there vs id v = let φ : Type 0 = get_elem? vs id ≡ maybe.some v in
      fact_use 𝓤 _ (qed 𝓛 (‵ (roster cv.code γ 0 vs) ∷ ‵ (part id v) ∷ []) ∵ use2 𝓛 (given φ (raw (all 𝓤 (Moved 𝓛 cv γ 0 vs id id)))) (moves 𝓛 cv γ vs 0 id id v (omega arith)) $ learn ! (λ at. keep ! [] $ by ! (fact_i 𝓤 φ (emp 𝓤) at))) (guard_i 𝓤 φ (Both vs id v))

module _ {M : Type 1} {𝓤 : Ura M} (𝓛 : Logic 𝓤) {V E : Type 0} (cv : Coded V) (ce : Coded E) (holds : State V E → Type 0) (p : Ptr) (z : BlockId) (q : Share) where
  open 𝓛 use {H, A}

  abbrev I : Fml
  I = inner cv.code ce holds p z

  abbrev sat : ℕ → Me V E → Fml
  sat = mine cv.code ce z

  abbrev Shown : ℕ → Me V E → List E → SProp 𝓤
  Shown id me l = guard 𝓤 (IsSighted holds id me.view l) (sem 𝓛 (sat id me))

  pub compares : (id : ℕ) (me : Me V E) (l : List E)
      → ent 𝓤 (sep 𝓤 (sem 𝓛 (common cv.code ce holds p z)) (sep 𝓤 (A.lft (block_life z) q) (sep 𝓤 (sem 𝓛 (sat id me)) (sem 𝓛 (reached ce z l))))) (H.⇛ (sep 𝓤 (Shown id me l) (A.lft (block_life z) q)))
  compares id me l = let κ = block_life z in let Q : SProp 𝓤 = Shown id me l in let G : SProp 𝓤 = sep 𝓤 (sem 𝓛 I) (sep 𝓤 (emp 𝓤) Q) in
      qed 𝓛 (‵ (common cv.code ce holds p z) ∷ ‵ (flft κ q) ∷ ‵ (sat id me) ∷ ‵ (reached ce z l) ∷ []) ∵ fsplit ! $ drop ! $
      use1 𝓛 (some (λ (j : ℕ). ‵ (fnamed j (fbor κ I)))) (𝓛.invs.inv_named (fbor κ I)) $ pick ! (λ j.
      by ! (via 𝓤 _ (qed 𝓛 (‵ (fnamed j (fbor κ I)) ∷ ‵ (flft κ q) ∷ ‵ (sat id me) ∷ ‵ (reached ce z l) ∷ []) ∵ use0 𝓛 (‵ ftrue) (id⊢ 𝓤 (emp 𝓤)) $ move ! (1 ∷ 0 ∷ []) $ fjoin ! $ frame ! $ frame ! $ assume ! (‵ I ⊛ ‵ ftrue) $ suffices ! _ (upd_i 𝓤 G) $ split ! $
      fpick ! (λ s. fsplit3 ! $ move ! (2 ∷ []) $ fpick ! (λ so. drop ! $ move ! (1 ∷ []) $ fsplit ! $ move ! (1 ∷ []) $ fsplit ! $
      -- [roster; now; accesses; row; true; token; told]
      move ! (1 ∷ 6 ∷ []) $ use2 𝓛 (given (IsPrefix l s.log) (‵ (base.Growing.latest (prefixes ce) full_share z.log_name s.log) ⊛ ‵ (reached ce z l))) (latest_bounds (prefixes ce) 𝓛 full_share z.log_name s.log l) $ learn ! (λ pre. split ! $
      move ! (6 ∷ []) $ fsplit3 ! $ move ! (5 ∷ 0 ∷ []) $
      use2 𝓛 (given (get_elem? s.views id ≡ maybe.some me.view) (‵ (roster cv.code z.views_name 0 s.views) ⊛ ‵ (seen cv.code z.views_name id three_quarters me.view))) (view_there 𝓛 cv z.views_name s.views id me.view) $ learn ! (λ at. split ! $
      -- [roster; view; seen; right; now; told; accesses; row; true]
      move ! (6 ∷ 0 ∷ 4 ∷ []) $ fjoin3 ! $ nothing ! $ fpack ! (Keeps cv.code ce holds p z s) (λ _. ftrue) so $ move ! (6 ∷ 1 ∷ 0 ∷ []) $ fjoin3 ! $ fpack ! (State V E) (standing cv.code ce holds p z) s $
      frame ! $ move ! (4 ∷ []) $ frame ! $ check ! (record { block = s; kept = so.0; at = at; begins = pre }) $ keep ! (0 ∷ 1 ∷ 2 ∷ []) $ fjoin3 ! $ done !))))) (𝓛.invs.invs_bor_acc j κ q I [] Q ((λ m. not-mem-nil m), tt))))
