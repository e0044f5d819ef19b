-- `read` looks into one cell of a unit through the token's part of the right to read it.
use Rattle.atomic_table.proofs.Names.{◌≡◌, ℕ, ◌+◌, ◌*◌, ◌^◌, ◌<◌, List, [], ◌∷◌, sym, refl, ap, w64, named, Val, vint, vptr, SProp, emp, Lft, Share, Fml, ftrue, flft, sem, ‵, raw, ◌⊛◌, some, given, at_ret, ◌$◌, ◌∵◌, !, qed, by, move, keep, drop, split, split3, join, fsplit, fsplit3, fjoin, fjoin3, fpick, fpack, pick, learn, use0, use1, use2, rewrite, feq_i, flt_i, stop, fld, load, lit, of_opd, bin, first, blocks, exec, look_raw, returns, enter, alloc_all, pass_all, free_all, look_at, get, through, sets, sets_last, is, env, sub, whole, look_in, tables, yes, RattleType, owns, types_at, plain, Ptr, block_ptr, ptr_val, nothing, Stays, stay_dropped, walk_of, Goes-dropped, fact, fact_i, fact_use, Is, shows, cell_at, hidden_shr, peeks, block_of, count_of, at_block, guard_i, RefOf, usize, u64, mut_vals, mut_Tells, shr_vals, shr_Tells, uint_vals, uint_Tells, opens, closes, stay_ref, Goes-ref, unhide, looks, shuts, lent_out, shr_bor-open, obor_close, tokens_halve, length, apply∗, sep, wand}
use Rattle.std.proofs.Common.{get_or, ◌≤◌, subst}
use Rattle.atomic_table.proofs.Walks.{proved, leaves}
use Rattle.core.proofs.atomic.Steps.{tail}
use Rattle.packet_ring.specs.Table.{Right, may_read, cells_of}
use Rattle.packet_ring.specs.Lent.{BlockId, Spot, block_life, spot, unit_at, Placed, common, carried, reader, mine}
use Rattle.packet_ring.specs.Rule.{Knows, view_coded, packet_coded, Holds}
use Rattle.packet_ring.specs.Steps.{MayRead}
use Rattle.packet_ring.specs.contracts.block.Shared as block
use Rattle.packet_ring.specs.contracts.block.Token as token
use Rattle.packet_ring.proofs.Fields.{strip_of, BlockData, block_told, block_opens}
use Rattle.packet_ring.proofs.Moves.{placed}
use Rattle.packet_ring.proofs.OneCell.{cell_opens, sighted}
use Rattle.packet_ring.proofs.Reach.{reached_cell, cell_in_reach, in_block}
use Rattle.packet_ring.specs.contracts.block.Shared.read as f
use Rattle.packet_ring.proofs.block.Shared.read.Statement.{statement}
use Rattle.packet_ring.proofs.block.Shared.read.Code as code

pub read_spec : {M : Type 1} → statement M
unfolding Rattle.packet_ring.specs.Lent.seal
read_spec 𝓤 𝓛 𝓜 𝓡 wired =
    let H = 𝓛.H in let 𝓣 = tables 𝓤 H 𝓜 𝓡 𝓡.env in let En = f.ended in let fn = code.function in let c = f.clauses 𝓛 𝓜.mem 𝓡.returns in
    let Row : RattleType = block.the_row in let Sr : RattleType = token.the_row in let D : RattleType = BlockData in let self = RefOf (0 ∷ []) tt (plain (λ _. Row)) (λ _. tt) in let sitter = plain (λ _. Sr) in
    let gone = stay_dropped (plain (λ _. usize)) yes in let number = Goes-dropped 𝓛 2 (plain (λ _. usize)) yes (λ κs x f. refl) in
    let hs : Stays En.signature.params En.kept = (stay_dropped self yes, (stay_ref (1 ∷ []) tt sitter, (gone, (gone, (gone, tt))))) in
    proved 𝓛 En hs c 𝓜 𝓡 (Goes-dropped 𝓛 2 self yes (λ κs x f. refl), (Goes-ref 𝓛 2 1 tt sitter, (number, (number, (number, tt))))) f.Key.name fn (code.unfolded 𝓤 H 𝓜 𝓡 wired)
    (λ κs. (shr_vals, (mut_vals, (uint_vals w64, (uint_vals w64, (uint_vals w64, tt)))))) (λ κs. (shr_Tells (named 0) κs.0 Row, (mut_Tells (named 1) κs.1.0 Sr, (uint_Tells w64, (uint_Tells w64, (uint_Tells w64, tt)))))) (λ κs qs bounds a gh are.
    let b : ℕ = a.0.ref_ptr.0 in let o : ℕ = a.0.ref_ptr.1 in let κ : Lft = κs.0 in let t : Row.Denot = a.0.now in let p : Ptr = t.base in let z : BlockId = t.id in let α : Lft = block_life z in
    let us : List Val = strip_of p ∷ [] in let C : Fml = common view_coded.code packet_coded (Holds z.limits) p z in
    let b' : ℕ = a.1.0.ref_ptr.0 in let o' : ℕ = a.1.0.ref_ptr.1 in let h : Sr.Denot = a.1.0.now in let id : ℕ = h.number in let v : Knows = h.me in let i : ℕ = a.1.1.0 in let k : ℕ = a.1.1.1.0 in let j : ℕ = a.1.1.1.1.0 in
    let y : (walk_of 𝓛 En hs c).Ghost = ((κs, qs, bounds, a, (vptr a.0.ref_ptr.0 a.0.ref_ptr.1 ∷ [], (vptr a.1.0.ref_ptr.0 a.1.0.ref_ptr.1 ∷ [], (vint w64 i ∷ [], (vint w64 k ∷ [], (vint w64 j ∷ [], tt)))))), gh) in let Post : Val → SProp 𝓤 = (walk_of 𝓛 En hs c).post y in
    qed 𝓛 (((‵ (flft κs.0 qs.0) ⊛ ‵ (flft κs.1.0 qs.1.0) ⊛ ‵ ftrue) ⊛ ‵ (owns (types_at En.signature.params κs) a y.0.4)) ∷ given ((h.id ≡ z) × MayRead v.right i × (j < z.width) × (k ≡ i * (z.width + 1) + 1 + j)) (‵ ftrue) ∷ []) ∵
    move ! (1 ∷ []) $ learn ! (λ asked. drop ! $ split ! $ split3 ! $ move ! (3 ∷ []) $ fsplit3 ! $ fsplit ! $ move ! (2 ∷ []) $ fsplit3 ! $ keep ! (4 ∷ 6 ∷ 1 ∷ 2 ∷ 7 ∷ 8 ∷ []) $
    let x : List ℕ = asked.1.0 in let may : v.right ≡ may_read i x = asked.1.1 in let n : ℕ = get_or x j 0 in let here : Spot = spot z i in
    enter ! 𝓣.C 𝓣.Λ fn (vptr a.0.ref_ptr.0 a.0.ref_ptr.1 ∷ vptr a.1.0.ref_ptr.0 a.1.0.ref_ptr.1 ∷ vint w64 i ∷ vint w64 k ∷ vint w64 j ∷ []) Post $ alloc_all ! (λ l. pass_all ! refl ((tt, tt), ((tt, tt), ((tt, record { fits = are.1.1.0.1 }), ((tt, record { fits = are.1.1.1.0.1 }), ((tt, record { fits = are.1.1.1.1.0.1 }), tt))))) $ let Ev = env fn.locals l in
    use1 𝓛 (‵ (hidden_shr D κ (p, tt) b o) ⊛ ‵ (base.Fml.fhide (block.the_lent t (block_ptr b o) κ))) (lent_out 𝓛 block.struct block.the_codes block.the_heap block.the_lent κ t b o) $
    split ! $ move ! (1 ∷ []) $ unhide ! $ fsplit ! $ move ! (1 ∷ []) $
    use1 𝓛 (given (Placed p z) (‵ C)) (fact_use 𝓤 _ (placed 𝓛 view_coded packet_coded (Holds z.limits) p z) (guard_i 𝓤 (Placed p z) (sem 𝓛 C))) $ learn ! (λ at. drop ! $ move ! (3 ∷ 4 ∷ 5 ∷ []) $
    opens ! tt Sr b' o' (λ ts. move ! (1 ∷ []) $ fsplit ! $ rewrite ! 1 (λ (w : BlockId). ‵ (mine view_coded.code packet_coded w id v)) asked.0 refl $ move ! (1 ∷ []) $ fsplit3 ! $
    rewrite ! 2 (λ (r : Right). ‵ (carried z r)) may refl $ move ! (2 ∷ []) $ fsplit ! $ fpick ! (λ near. drop ! $ move ! (9 ∷ 10 ∷ []) $
    -- [the block's field; its token; the reader; what else the token has; the open token; the block's lifetime]
    looks ! tt D (block_opens 𝓛) (p, tt) b o (λ q' vs. move ! (1 ∷ []) $ peeks ! D (Is D) (shows 𝓛 D) (p, tt) vs (λ is-so. let ev : vs ≡ us = block_told p vs is-so in
    rewrite ! 1 (λ (ws : List Val). ‵ (cell_at q' D.mir ws b o)) ev refl $ let small : k * 8 < 2 ^ 64 = cell_in_reach p z i j k at asked.3 asked.2 near in let e : ℕ = k * 8 + count_of p in first ! $ blocks ! $
    sets ! (is ! (of_opd ! (load ! (through ! refl (fld ! refl (stop !))) (look_in ! 1 (sub ! 0 refl (whole !))))) (ap ptr_val (at_block p (in_block p z at)))) refl (tt, tt) $
    sets ! (bin ! (get ! refl) (lit ! tt) (record { fits = small })) refl (tt, record { fits = small }) $ sets ! (bin ! (get ! refl) (get ! refl) tt) refl (tt, tt) $
    rewrite ! 1 (λ (ws : List Val). ‵ (cell_at q' D.mir ws b o)) (sym ev) refl $ move ! (1 ∷ 0 ∷ 2 ∷ []) $ shuts ! tt D q' (p, tt) vs b o $ move ! (10 ∷ 0 ∷ []) $
    shr_bor-open ! tt (tokens_halve 𝓛 α) (λ s. move ! (3 ∷ 1 ∷ []) $ let Whole : SProp 𝓤 = sep 𝓤 (sem 𝓛 (reader here x)) (𝓛.A.lft α s) in
    use2 𝓛 (given (z.width ≤ length x) (some (λ (u : ℕ × Share). ‵ (hidden_shr u64 (u.0 ∷ α) n z.block (j * 8 + (unit_at z i + 8))) ⊛ ‵ (flft (u.0 ∷ α) u.1) ⊛ raw (wand 𝓤 (𝓛.A.lft (u.0 ∷ α) u.1) Whole)))) (sighted 𝓛 here x j s asked.2) $ learn ! (λ long. pick ! (λ u. split3 ! $
    rewrite ! 0 (λ (w : Ptr). ‵ (hidden_shr u64 (u.0 ∷ α) n (block_of w) (count_of w))) (sym (reached_cell p z i j k at asked.3)) refl $
    looks ! tt u64 (cell_opens 𝓛) n (block_of p) e (λ q'' ws. move ! (1 ∷ []) $ peeks ! u64 (Is u64) (shows 𝓛 u64) n ws (λ told. rewrite ! 1 (λ (vs : List Val). ‵ (cell_at q'' u64.mir vs (block_of p) e)) told.0 refl $
    sets_last ! (of_opd ! (load ! (through ! refl (stop !)) (look_raw ! 1 refl))) refl (tt, record { fits = told.1 }) $ exec ! 𝓣.C 𝓣.Λ Ev (tail fn.body) (at_ret Ev Post) $ sets ! (of_opd ! (get ! refl)) refl (tt, record { fits = told.1 }) $
    rewrite ! 1 (λ (vs : List Val). ‵ (cell_at q'' u64.mir vs (block_of p) e)) (sym told.0) refl $ move ! (1 ∷ 0 ∷ 2 ∷ []) $ shuts ! tt u64 q'' n ws (block_of p) e $ move ! (1 ∷ []) $ drop ! $
    use2 𝓛 (‵ (reader here x) ⊛ ‵ (flft α s)) (apply∗ 𝓤 (𝓛.A.lft (u.0 ∷ α) u.1) Whole) $ split ! $ move ! (2 ∷ 1 ∷ []) $ obor_close ! tt $ drop ! $ move ! (1 ∷ []) $
    nothing ! $ fpack ! (i < z.units) (λ _. ftrue) near $ fjoin ! $ rewrite ! 0 (λ (r : Right). ‵ (carried z r)) (sym may) refl $ move ! (3 ∷ 4 ∷ 0 ∷ []) $ fjoin3 ! $
    rewrite ! 0 (λ (w : BlockId). ‵ (mine view_coded.code packet_coded w id v)) (sym asked.0) refl $ move ! (3 ∷ 0 ∷ []) $ fjoin ! $ move ! (3 ∷ 0 ∷ 4 ∷ 5 ∷ 6 ∷ []) $
    let Told : Type 0 = (h ≡ h) × (z.width ≤ length (cells_of v.right)) × (n ≡ get_or (cells_of v.right) j 0) in let same : cells_of v.right ≡ x = ap cells_of may in
    closes ! tt Sr h ts b' o' $ feq_i ! (List Val) (vptr b' o' ∷ []) (vptr b' o' ∷ []) refl $ fjoin3 ! $
    nothing ! $ nothing ! $ fjoin ! $ nothing ! $ fjoin ! $ nothing ! $ fjoin ! $ move ! (1 ∷ 0 ∷ []) $ fjoin ! $ nothing ! $ fjoin ! $ move ! (1 ∷ 4 ∷ []) $ join ! $ move ! (2 ∷ 0 ∷ []) $ join ! $
    use0 𝓛 (raw (fact 𝓤 Told)) (fact_i 𝓤 Told (emp 𝓤) (refl, subst (λ (xs : List ℕ). z.width ≤ length xs) (sym same) long, ap (λ (xs : List ℕ). get_or xs j 0) (sym same))) $ flt_i ! n (2 ^ 64) told.1 $ feq_i ! (List Val) (vint w64 n ∷ []) (vint w64 n ∷ []) refl $ fjoin ! $
    returns ! (look_at ! 0 refl) $ free_all ! refl $ keep ! (2 ∷ 3 ∷ 0 ∷ 1 ∷ []) $ by ! (leaves 𝓛 En hs c y (vint w64 n) n (tt, (h, (tt, (tt, (tt, tt))))) (tt, (tt, (tt, (tt, (tt, tt)))))))))))))))))))
