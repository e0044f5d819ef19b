-- One step on a word of the block, under its invariant. Assumes `Logic`.
use Rattle.std.proofs.Common.{◌≡◌, ℕ, ◌<◌, T, List, [], ◌∷◌, length, get_or, set, sym, refl, ◌∙◌, subst, arith, length-set, w64}
use mathlib.Core.Option as maybe
use mathlib.Core.List.{IsPrefix}
use lib.ListN.{get_elem?}
use seplogic.Ra.Ura.{Ura}
use mir.Syntax.{ty_int}
use mir.Val.{vint, has_ty, WT}
use base.Fraction.{full_share}
use base.Share.{three_quarters}
use base.Stored.{Coded}
use base.Logic.{SProp, ent, sep, wand, ex, all, guard, upd, apply∗, all_e, upd_i}
use base.Fml.{Lft, Share, Fml, ftrue, fsep, fex, fbor, finv, flft}
use base.Growing.{Order, prefixes, latest, at_least}
use types.Growing.{latest_grows, latest_shows, latest_bounds}
use types.Logic.{Logic, sem}
use types.Kit.{‵, raw, ◌⊛◌, some, given, ◌$◌, ◌∵◌, !, qed, by, move, keep, drop, split, split3, join, fsplit, fsplit3, fjoin, fjoin3, fpick, fpack, pick, learn, show, check, frame, each, assume, suffices, settle, done, use1, use2, use3, rewrite}
use contract.Monad.{fact as known}
use denote.RawPtr.{Ptr, block_ptr}
use denote.Steps.{nothing}
use Rattle.core.specs.Sync.RawAtomic.{asks, always}
use Rattle.core.proofs.raw_atomic.Asked.{borrowed, Lies, Again}
use Rattle.atomic_table.specs.Seated.{word, fact, seen, roster}
use Rattle.atomic_table.proofs.Roster.{Moved, moves}
use Rattle.packet_ring.specs.Table.{State, Me, Act, right_after, stepped, Goes, Allows, AllowsBeside}
use Rattle.packet_ring.specs.Lent.{BlockId, block_life, unit_at, stride, row, accesses_row, carried, Placed, mine, Keeps, standing, inner, common}
use Rattle.packet_ring.proofs.Comparing.{view_there}
use Rattle.packet_ring.proofs.Units.{Reset, row_at, Acted, acts}

module _ {M : Type 1} {𝓤 : Ura M} (𝓛 : Logic 𝓤) {V E : Type 0} (cv : Coded V) (ce : Coded E) (holds : State V E → Type 0) (p : Ptr) (z : BlockId) where
  open 𝓛 use {H, A}

  abbrev Pr : Type 2
  Pr = SProp 𝓤

  abbrev ◌⊢◌ : Pr → Pr → Type 1
  P ⊢ Q = ent 𝓤 P Q

  abbrev ◌∗◌ : Pr → Pr → Pr
  P ∗ Q = sep 𝓤 P Q

  infix 26 ◌⊢◌
  infixr 35 ◌∗◌
  abbrev ◌-∗◌ : Pr → Pr → Pr
  P -∗ Q = wand 𝓤 P Q

  abbrev ⟦◌⟧ : Fml → Pr
  ⟦ P ⟧ = sem 𝓛 P

  infixr 30 ◌-∗◌
  abbrev κ : Lft
  κ = block_life z

  abbrev C : Fml
  C = common cv.code ce holds p z

  abbrev I : Fml
  I = inner cv.code ce holds p z

  abbrev O : Order (List E)
  O = prefixes ce

  abbrev half : ℕ → V → Fml
  half id v = seen cv.code z.views_name id three_quarters v

  abbrev now : List E → Fml
  now l = latest O full_share z.log_name l

  abbrev past : List E → Fml
  past l = at_least O z.log_name l

  abbrev sat : ℕ → Me V E → Fml
  sat = mine cv.code ce z

  pub common_twice : ⟦ C ⟧ ⊢ ⟦ C ⟧ ∗ ⟦ C ⟧
  common_twice = let J : Fml = finv (fbor κ I) in qed 𝓛 (‵ C ∷ []) ∵ fsplit ! $ fpick ! (λ at. drop ! $ use1 𝓛 (‵ J ⊛ ‵ J) (𝓛.invs.inv_dup (fbor κ I)) $ split ! $
      nothing ! $ fpack ! (Placed p z) (λ _. ftrue) at $ fjoin ! $ frame ! $ nothing ! $ fpack ! (Placed p z) (λ _. ftrue) at $ done !)

  pub placed : ⟦ C ⟧ ⊢ known 𝓤 (Placed p z)
  placed = qed 𝓛 (‵ C ∷ []) ∵ fsplit ! $ keep ! (0 ∷ []) $ done !

  abbrev Rest : State V E → Fml
  Rest s = fsep (accesses_row z 0 s.accesses) (fsep (roster cv.code z.views_name 0 s.views) (now s.log))

  module _ (q : Share) where
    abbrev Next : ℕ → (ℕ → ℕ) → (ℕ → Fml) → State V E → State V E → Pr
    Next i f after s t = guard 𝓤 ((t.words ≡ set s.words i (f (get_or s.words i 0))) × holds t × (length t.accesses ≡ z.units)) (⟦ Rest t ⟧ ∗ ⟦ after (get_or s.words i 0) ⟧)

    -- the word i becomes f of what it was, where the rest of the block and the token can follow
    opened : (i : ℕ) (f : ℕ → ℕ) (after : ℕ → Fml) (K : Fml) → i < z.units
        → ((s : State V E) → Keeps cv.code ce holds p z s → get_or s.words i 0 < 18446744073709551616 → ⟦ Rest s ⟧ ∗ ⟦ K ⟧ ⊢ upd 𝓤 (ex 𝓤 (Next i f after s)))
        → ⟦ C ⟧ ∗ A.lft κ q ∗ ⟦ K ⟧ ⊢ asks 𝓛 (block_ptr z.block (unit_at z i)) f always (λ n. fsep (flft κ q) (after n))
    opened i f after K inside law =
        let b : ℕ = z.block in let d : ℕ = stride z in let e : ℕ = unit_at z i in let X = ‵ K in let G : Pr = ex 𝓤 (Lies 𝓛 κ q I b e f always after) in
        qed 𝓛 (‵ C ∷ ‵ (flft κ q) ∷ ‵ K ∷ []) ∵ fsplit ! $ drop ! $
        by ! (borrowed 𝓛 κ q I b e f always after (types.Kit.mean 𝓛 X) (qed 𝓛 (‵ I ∷ X ∷ []) ∵ suffices ! _ (upd_i 𝓤 G) $ fpick ! (λ s. fsplit3 ! $ move ! (2 ∷ []) $ fpick ! (λ so. drop ! $
        let ns : List ℕ = s.words in let n : ℕ = get_or ns i 0 in let long : length ns ≡ z.units = so.1 in let Z : Pr = ⟦ I ⟧ ∗ ⟦ after n ⟧ in
        use1 𝓛 (‵ (word b e n) ⊛ raw (all 𝓤 (Reset 𝓛 d b z.offset e ns i))) (row_at 𝓛 d b z.offset e ns i (omega arith) refl) $ split ! $
        use1 𝓛 (given (T (has_ty (ty_int w64) (vint w64 n)) × WT (vint w64 n)) (‵ (word b e n))) (𝓛.laws.at_wt full_share (ty_int w64) b e (vint w64 n)) $ learn ! (λ typed.
        show ! (Lies 𝓛 κ q I b e f always after) n $ frame ! $ each ! (λ (_ : Unit {0}). Again 𝓛 κ q I b e f always after n) (λ _.
        use1 𝓛 (raw (Reset 𝓛 d b z.offset e ns i (f n))) (all_e 𝓤 (Reset 𝓛 d b z.offset e ns i) (f n)) $ assume ! (‵ (word b e (f n))) $ use2 𝓛 (‵ (row d b z.offset (set ns i (f n)))) (apply∗ 𝓤 ⟦ word b e (f n) ⟧ ⟦ row d b z.offset (set ns i (f n)) ⟧) $ move ! (1 ∷ 2 ∷ []) $
        use2 𝓛 (raw (upd 𝓤 (ex 𝓤 (Next i f after s)))) (law s so typed.1.fits) $
        settle 𝓛 Z (some (λ (t : State V E). given ((t.words ≡ set ns i (f n)) × holds t × (length t.accesses ≡ z.units)) (‵ (Rest t) ⊛ ‵ (after n)))) $ pick ! (λ t. learn ! (λ good. split ! $
        rewrite ! 2 (λ (ms : List ℕ). ‵ (row d b z.offset ms)) (sym good.0) refl $ nothing ! $ fpack ! (Keeps cv.code ce holds p z t) (λ _. ftrue) (good.1, subst (λ (ms : List ℕ). length ms ≡ z.units) (sym good.0) (length-set ns i (f n) ∙ long), good.2) $
        move ! (3 ∷ 1 ∷ 0 ∷ []) $ fjoin3 ! $ fpack ! (State V E) (standing cv.code ce holds p z) t $ suffices ! _ (upd_i 𝓤 Z) $ done !))))))))

    module _ (id : ℕ) (me : Me V E) (i : ℕ) (f : ℕ → ℕ) (then : ℕ → Me V E → Type 0) where
      abbrev pub next : ℕ → Me V E → Fml
      next n u = fsep (fact (then n u)) (sat id u)

      abbrev pub after : ℕ → Fml
      after n = fex (Me V E) (next n)

      -- a step of the token on the word, where it can be made
      stepped_by : (does : ℕ → State V E → State V E → Type 0) (s : State V E) → Keeps cv.code ce holds p z s → (get_elem? s.views id ≡ maybe.some me.view → IsPrefix me.seen s.log → Goes holds does s id me i f then) → ⟦ Rest s ⟧ ∗ ⟦ sat id me ⟧ ⊢ upd 𝓤 (ex 𝓤 (Next i f after s))
      stepped_by does s so law = let Z : Pr = ex 𝓤 (Next i f after s) in let γ : ℕ = z.views_name in let n : ℕ = get_or s.words i 0 in
          qed 𝓛 ((‵ (accesses_row z 0 s.accesses) ⊛ ‵ (roster cv.code γ 0 s.views) ⊛ ‵ (now s.log)) ∷ ‵ (half id me.view) ∷ ‵ (past me.seen) ∷ ‵ (carried z me.right) ∷ []) ∵ split3 ! $ move ! (2 ∷ 4 ∷ []) $
          use2 𝓛 (given (IsPrefix me.seen s.log) (‵ (now s.log) ⊛ ‵ (past me.seen))) (latest_bounds O 𝓛 full_share z.log_name s.log me.seen) $ learn ! (λ pre. split ! $ move ! (3 ∷ 4 ∷ []) $
          use2 𝓛 (given (get_elem? s.views id ≡ maybe.some me.view) (raw (all 𝓤 (Moved 𝓛 cv γ 0 s.views id id)))) (moves 𝓛 cv γ s.views 0 id id me.view (omega arith)) $ learn ! (λ at.
          let r = law at pre in let u : V = r.0 in let a : Act = r.1 in let log' : List E = r.2 in let seen' : List E = r.3 in
          let t : State V E = stepped s i (f n) id me.right u a log' in let me' : Me V E = record { view = u; right = right_after me.right a; seen = seen' } in
          use1 𝓛 (raw (Moved 𝓛 cv γ 0 s.views id id u)) (all_e 𝓤 (Moved 𝓛 cv γ 0 s.views id id) u) $ settle 𝓛 Z (‵ (roster cv.code γ 0 t.views) ⊛ ‵ (half id u)) $ split ! $ move ! (2 ∷ []) $
          use1 𝓛 (raw (upd 𝓤 ⟦ now log' ⟧)) (latest_grows O 𝓛 z.log_name s.log log' r.5) $ settle 𝓛 Z (‵ (now log')) $
          use1 𝓛 (‵ (now log') ⊛ ‵ (past seen')) (latest_shows O 𝓛 full_share z.log_name log' seen' r.6) $ split ! $ move ! (5 ∷ 6 ∷ []) $
          use2 𝓛 (raw (upd 𝓤 (Acted 𝓛 z s.accesses me.right a))) (acts 𝓛 z s.accesses me.right a so.2 r.4) $ settle 𝓛 Z (given (length t.accesses ≡ z.units) (‵ (accesses_row z 0 t.accesses) ⊛ ‵ (carried z me'.right))) $ learn ! (λ long. split ! $
          suffices ! _ (upd_i 𝓤 Z) $ show ! (Next i f after s) t $ check ! (refl, r.7, long) $ move ! (0 ∷ 4 ∷ 2 ∷ []) $ fjoin3 ! $ frame ! $ show ! (λ (x : Me V E). ⟦ next n x ⟧) me' $
          nothing ! $ fpack ! (then n me') (λ _. ftrue) r.9 $ move ! (0 ∷ 3 ∷ 2 ∷ 1 ∷ []) $ keep ! (0 ∷ 1 ∷ 2 ∷ 3 ∷ []) $ done !)))

      pub steps : (does : ℕ → State V E → State V E → Type 0) → i < z.units → Allows holds does z.units id me i f then → ⟦ C ⟧ ∗ A.lft κ q ∗ ⟦ sat id me ⟧ ⊢ asks 𝓛 (block_ptr z.block (unit_at z i)) f always (λ n. fsep (flft κ q) (after n))
      steps does inside law = opened i f after (sat id me) inside (λ s so small. stepped_by does s so (λ at pre. law s so.0 so.1 so.2 at pre small))

      -- a step beside another token, which stays as it is
      module _ (other : ℕ) (its : Me V E) where
        abbrev pub both : ℕ → Fml
        both n = fsep (sat other its) (after n)

        beside : (does : ℕ → State V E → State V E → Type 0) (s : State V E) → Keeps cv.code ce holds p z s → (get_elem? s.views id ≡ maybe.some me.view → get_elem? s.views other ≡ maybe.some its.view → IsPrefix me.seen s.log → Goes holds does s id me i f then)
            → ⟦ Rest s ⟧ ∗ ⟦ fsep (sat id me) (sat other its) ⟧ ⊢ upd 𝓤 (ex 𝓤 (Next i f both s))
        beside does s so law = let Z : Pr = ex 𝓤 (Next i f both s) in let n : ℕ = get_or s.words i 0 in let R : Fml = roster cv.code z.views_name 0 s.views in
            qed 𝓛 ((‵ (accesses_row z 0 s.accesses) ⊛ ‵ R ⊛ ‵ (now s.log)) ∷ ‵ (sat id me) ∷ ‵ (half other its.view) ∷ ‵ (past its.seen) ∷ ‵ (carried z its.right) ∷ []) ∵ split3 ! $ move ! (1 ∷ 4 ∷ []) $
            use2 𝓛 (given (get_elem? s.views other ≡ maybe.some its.view) (‵ R ⊛ ‵ (half other its.view))) (view_there 𝓛 cv z.views_name s.views other its.view) $ learn ! (λ there. split ! $ move ! (2 ∷ 0 ∷ 3 ∷ []) $ fjoin3 ! $ move ! (0 ∷ 2 ∷ []) $
            use2 𝓛 (raw (upd 𝓤 (ex 𝓤 (Next i f after s)))) (stepped_by does s so (λ at pre. law at there pre)) $
            settle 𝓛 Z (some (λ (t : State V E). given ((t.words ≡ set s.words i (f n)) × holds t × (length t.accesses ≡ z.units)) (‵ (Rest t) ⊛ ‵ (after n)))) $ pick ! (λ t. learn ! (λ good. split ! $ suffices ! _ (upd_i 𝓤 Z) $
            show ! (Next i f both s) t $ check ! good $ frame ! $ move ! (1 ∷ 2 ∷ 3 ∷ 0 ∷ []) $ fjoin3 ! $ done !)))

        pub steps_beside : (does : ℕ → State V E → State V E → Type 0) (r : Ptr) → r ≡ block_ptr z.block (unit_at z i) → i < z.units → AllowsBeside holds does z.units id me other its.view i f then
            → ⟦ C ⟧ ∗ A.lft κ q ∗ ⟦ fsep (sat id me) (sat other its) ⟧ ⊢ asks 𝓛 r f always (λ n. fsep (flft κ q) (both n))
        steps_beside does r is inside law = subst (λ (x : Ptr). ⟦ C ⟧ ∗ A.lft κ q ∗ ⟦ fsep (sat id me) (sat other its) ⟧ ⊢ asks 𝓛 x f always (λ n. fsep (flft κ q) (both n))) (sym is)
            (opened i f both (fsep (sat id me) (sat other its)) inside (λ s so small. beside does s so (λ at there pre. law s so.0 so.1 so.2 at there pre small)))

      -- the same at the pointer by which the code reaches the word
      pub steps_at : (does : ℕ → State V E → State V E → Type 0) (r : Ptr) → r ≡ block_ptr z.block (unit_at z i) → i < z.units → Allows holds does z.units id me i f then → ⟦ C ⟧ ∗ A.lft κ q ∗ ⟦ sat id me ⟧ ⊢ asks 𝓛 r f always (λ n. fsep (flft κ q) (after n))
      steps_at does r is inside law = subst (λ (x : Ptr). ⟦ C ⟧ ∗ A.lft κ q ∗ ⟦ sat id me ⟧ ⊢ asks 𝓛 x f always (λ n. fsep (flft κ q) (after n))) (sym is) (steps does inside law)
