-- `lend` shows the first bytes of a unit while the token's part of the right to read it is lent.
use Rattle.atomic_table.proofs.Names.{◌≡◌, ℕ, ◌+◌, ◌*◌, ◌^◌, ◌<◌, List, [], ◌∷◌, sym, refl, ap, w64, named, Val, vint, vptr, SProp, emp, Lft, Fml, ftrue, flft, sem, ‵, raw, ◌⊛◌, given, at_ret, ◌$◌, ◌∵◌, !, qed, by, move, keep, drop, split, join, fsplit, fsplit3, fjoin, learn, use0, use1, use2, rewrite, feq_i, flt_i, stop, fld, load, of_opd, bin, no_more, and_then, first, blocks, exec, returns, enter, alloc_all, pass_all, free_all, look_at, get, through, sets, sets_last, agg, is, env, sub, whole, look_in, tables, yes, RattleType, owns, types_at, plain, Ptr, block_ptr, ptr_val, nothing, Stays, stay_dropped, walk_of, Goes-dropped, fact, fact_i, fact_use, Is, shows, cell_at, hidden_shr, peeks, block_of, count_of, at_block, guard_i, RefOf, usize, u64, shr_vals, shr_Tells, uint_vals, uint_Tells, unhide, looks, shuts, lent_out, length}
use Rattle.std.proofs.Common.{take, drop as drop_l, ◌≤◌, subst, arith, length-take, length-drop}
use denote.Builtin.{u8}
use denote.Opens.{hide}
use denote.Slice.{slice_val, elements_shared}
use Rattle.core.specs.contracts.marker.PhantomData as marker
use Rattle.atomic_table.proofs.Walks.{proved, leaves}
use Rattle.core.proofs.atomic.Steps.{tail}
use Rattle.packet_ring.specs.Table.{Right, may_read, cells_of}
use Rattle.packet_ring.specs.Lent.{BlockId, Spot, block_life, spot, stride, bytes_at, bytes_from, Placed, common, lasts, carried_shows, sight}
use Rattle.packet_ring.specs.Rule.{Knows, view_coded, packet_coded, Holds}
use Rattle.packet_ring.specs.Steps.{MayRead}
use Rattle.packet_ring.specs.contracts.block.Shared as block
use Rattle.packet_ring.specs.contracts.block.Token as token
use Rattle.packet_ring.proofs.Fields.{strip_of, BlockData, TokenData, block_told, block_opens}
use Rattle.packet_ring.proofs.Moves.{placed}
use Rattle.packet_ring.proofs.Bytes.{bytes_seen}
use Rattle.packet_ring.proofs.Reach.{reached_start, bytes_fit, in_block}
use Rattle.packet_ring.specs.contracts.block.Shared.lend as f
use Rattle.packet_ring.proofs.block.Shared.lend.Statement.{statement}
use Rattle.packet_ring.proofs.block.Shared.lend.Code as code

pub lend_spec : {M : Type 1} → statement M
unfolding Rattle.packet_ring.specs.Lent.seal
lend_spec 𝓤 𝓛 𝓜 𝓡 wired =
    let H = 𝓛.H in let 𝓣 = tables 𝓤 H 𝓜 𝓡 𝓡.env in let En = f.ended in let fn = code.function in let c = f.clauses 𝓛 𝓜.mem 𝓡.returns in
    let Row : RattleType = block.the_row in let Sr : RattleType = token.the_row in let D : RattleType = BlockData in let self = RefOf (0 ∷ []) tt (plain (λ _. Row)) (λ _. tt) in let reader = RefOf (0 ∷ []) tt (plain (λ _. Sr)) (λ _. tt) in
    let gone = stay_dropped (plain (λ _. usize)) yes in let number = Goes-dropped 𝓛 1 (plain (λ _. usize)) yes (λ κs x f. refl) in
    let hs : Stays En.signature.params En.kept = (stay_dropped self yes, (stay_dropped reader yes, (gone, (gone, (gone, tt))))) in
    proved 𝓛 En hs c 𝓜 𝓡 (Goes-dropped 𝓛 1 self yes (λ κs x f. refl), (Goes-dropped 𝓛 1 reader yes (λ κs x f. refl), (number, (number, (number, tt))))) f.Key.name fn (code.unfolded 𝓤 H 𝓜 𝓡 wired)
    (λ κs. (shr_vals, (shr_vals, (uint_vals w64, (uint_vals w64, (uint_vals w64, tt)))))) (λ κs. (shr_Tells (named 0) κs.0 Row, (shr_Tells (named 0) κs.0 Sr, (uint_Tells w64, (uint_Tells w64, (uint_Tells w64, tt)))))) (λ κs qs bounds a gh are.
    let b : ℕ = a.0.ref_ptr.0 in let o : ℕ = a.0.ref_ptr.1 in let κ : Lft = κs.0 in let t : Row.Denot = a.0.now in let p : Ptr = t.base in let z : BlockId = t.id in let α : Lft = block_life z in
    let us : List Val = strip_of p ∷ [] in let C : Fml = common view_coded.code packet_coded (Holds z.limits) p z in
    let b' : ℕ = a.1.0.ref_ptr.0 in let o' : ℕ = a.1.0.ref_ptr.1 in let h : Sr.Denot = a.1.0.now in let v : Knows = h.me in let i : ℕ = a.1.1.0 in let k : ℕ = a.1.1.1.0 in let n : ℕ = a.1.1.1.1.0 in
    let y : (walk_of 𝓛 En hs c).Ghost = ((κs, qs, bounds, a, (vptr a.0.ref_ptr.0 a.0.ref_ptr.1 ∷ [], (vptr a.1.0.ref_ptr.0 a.1.0.ref_ptr.1 ∷ [], (vint w64 i ∷ [], (vint w64 k ∷ [], (vint w64 n ∷ [], tt)))))), gh) in let Post : Val → SProp 𝓤 = (walk_of 𝓛 En hs c).post y in
    qed 𝓛 (((‵ (flft κs.0 qs.0) ⊛ ‵ ftrue) ⊛ ‵ (owns (types_at En.signature.params κs) a y.0.4)) ∷ given ((h.id ≡ z) × MayRead v.right i) (‵ ftrue) ∷ given ((i < z.units) × (n ≤ z.room * 8) × (k ≡ bytes_from z i) × (z.width + n ≤ length (cells_of v.right))) (‵ ftrue) ∷ []) ∵
    move ! (1 ∷ []) $ learn ! (λ right. drop ! $ move ! (1 ∷ []) $ learn ! (λ asked. drop ! $ split ! $ split ! $ move ! (2 ∷ []) $ fsplit3 ! $ fsplit ! $ move ! (2 ∷ []) $ fsplit ! $ keep ! (3 ∷ 1 ∷ 5 ∷ 6 ∷ []) $
    let x : List ℕ = right.1.0 in let may : v.right ≡ may_read i x = right.1.1 in let here : Spot = spot z i in let ys : List ℕ = take n (drop_l z.width x) in
    let have : cells_of v.right ≡ x = ap cells_of may in let long : length ys ≡ n = (let d = length-drop z.width x in let m = length-take n (drop_l z.width x) in let l : length (cells_of v.right) ≡ length x = ap length have in let w = asked.3 in omega arith) in
    enter ! 𝓣.C 𝓣.Λ fn (vptr a.0.ref_ptr.0 a.0.ref_ptr.1 ∷ vptr a.1.0.ref_ptr.0 a.1.0.ref_ptr.1 ∷ vint w64 i ∷ vint w64 k ∷ vint w64 n ∷ []) Post $ alloc_all ! (λ l. pass_all ! refl ((tt, tt), ((tt, tt), ((tt, record { fits = are.1.1.0.1 }), ((tt, record { fits = are.1.1.1.0.1 }), ((tt, record { fits = are.1.1.1.1.0.1 }), tt))))) $ let Ev = env fn.locals l in
    use1 𝓛 (‵ (hidden_shr D κ (p, tt) b o) ⊛ ‵ (base.Fml.fhide (block.the_lent t (block_ptr b o) κ))) (lent_out 𝓛 block.struct block.the_codes block.the_heap block.the_lent κ t b o) $
    split ! $ move ! (1 ∷ []) $ unhide ! $ fsplit ! $ move ! (1 ∷ []) $
    use1 𝓛 (given (Placed p z) (‵ C)) (fact_use 𝓤 _ (placed 𝓛 view_coded packet_coded (Holds z.limits) p z) (guard_i 𝓤 (Placed p z) (sem 𝓛 C))) $ learn ! (λ at. drop ! $ move ! (2 ∷ []) $
    use1 𝓛 (‵ (hidden_shr TokenData κ (tt, tt) b' o') ⊛ ‵ (base.Fml.fhide (token.the_lent h (block_ptr b' o') κ))) (lent_out 𝓛 token.struct (token.the_codes (marker.the_row u64).coded) token.the_heap token.the_lent κ h b' o') $
    split ! $ drop ! $ unhide ! $ rewrite ! 0 (λ (u : BlockId × Right). ‵ (carried_shows u.0 u.1 κ)) (λ j. (right.0 j, may j)) refl $ move ! (1 ∷ 0 ∷ []) $
    use2 𝓛 (‵ (elements_shared u8 ys z.block (bytes_at z i) κ)) (bytes_seen 𝓛 here x n κ) $ move ! (1 ∷ 2 ∷ []) $
    -- [the block's field; the lifetime's token; the bytes]
    looks ! tt D (block_opens 𝓛) (p, tt) b o (λ q' vs. move ! (1 ∷ []) $ peeks ! D (Is D) (shows 𝓛 D) (p, tt) vs (λ is-so. let ev : vs ≡ us = block_told p vs is-so in
    rewrite ! 1 (λ (ws : List Val). ‵ (cell_at q' D.mir ws b o)) ev refl $ let e : ℕ = k + count_of p in first ! $ blocks ! $
    sets ! (is ! (of_opd ! (load ! (through ! refl (fld ! refl (stop !))) (look_in ! 1 (sub ! 0 refl (whole !))))) (ap ptr_val (at_block p (in_block p z at)))) refl (tt, tt) $
    sets ! (of_opd ! (get ! refl)) refl (tt, tt) $ sets ! (bin ! (get ! refl) (get ! refl) tt) refl (tt, tt) $
    rewrite ! 1 (λ (ws : List Val). ‵ (cell_at q' D.mir ws b o)) (sym ev) refl $ move ! (1 ∷ 0 ∷ 2 ∷ []) $ shuts ! tt D q' (p, tt) vs b o $ move ! (2 ∷ []) $
    let there = reached_start p z i k at asked.2 in let place : ℕ × ℕ = (block_of p, e) in rewrite ! 0 (λ (w : Ptr). ‵ (elements_shared u8 ys (block_of w) (count_of w) κ)) (sym there) refl $ hide ! $
    sets_last ! (agg ! (and_then ! (get ! refl) (and_then ! (get ! refl) (no_more !)))) refl (tt, (tt, (record { fits = are.1.1.1.1.0.1 }, tt))) $
    exec ! 𝓣.C 𝓣.Λ Ev (tail fn.body) (at_ret Ev Post) $ sets ! (of_opd ! (get ! refl)) refl (tt, (tt, (record { fits = are.1.1.1.1.0.1 }, tt))) $
    flt_i ! (length ys * 1) (2 ^ 63) (bytes_fit p z i n (length ys) at asked.0 asked.1 long) $ flt_i ! (length ys) (2 ^ 64) (subst (λ (m : ℕ). m < 2 ^ 64) (sym long) are.1.1.1.1.0.1) $ fjoin ! $
    feq_i ! (List Val) (slice_val place n ∷ []) (slice_val place (length ys) ∷ []) (ap (λ (m : ℕ). slice_val place m ∷ []) (sym long)) $ fjoin ! $ fjoin ! $
    move ! (1 ∷ 3 ∷ []) $ join ! $ nothing ! $ nothing ! $ fjoin ! $ nothing ! $ fjoin ! $ nothing ! $ fjoin ! $ nothing ! $ fjoin ! $ nothing ! $ fjoin ! $
    let Told : Type 0 = ys ≡ take n (drop_l z.width (cells_of v.right)) in use0 𝓛 (raw (fact 𝓤 Told)) (fact_i 𝓤 Told (emp 𝓤) (ap (λ (xs : List ℕ). take n (drop_l z.width xs)) (sym have))) $
    returns ! (look_at ! 0 refl) $ free_all ! refl $ keep ! (2 ∷ 1 ∷ 3 ∷ 0 ∷ []) $ by ! (leaves 𝓛 En hs c y (slice_val place n) (record { ref_ptr = place; now = ys }) (tt, (tt, (tt, (tt, (tt, tt))))) (tt, (tt, (tt, (tt, (tt, tt)))))))))))))
