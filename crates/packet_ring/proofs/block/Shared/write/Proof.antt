-- `write` changes one cell of a unit that the token may write.
use Rattle.atomic_table.proofs.Names.{◌≡◌, ℕ, ◌+◌, ◌*◌, ◌^◌, ◌<◌, List, [], ◌∷◌, sym, refl, ap, w64, named, Val, vint, vptr, SProp, emp, Lft, Fml, ftrue, flft, sem, ‵, raw, ◌⊛◌, given, at_ret, ◌$◌, ◌∵◌, !, qed, by, move, keep, drop, split, split3, join, fsplit, fsplit3, fjoin, fjoin3, fpick, fpack, learn, use0, use1, use2, rewrite, feq_i, stop, fld, load, lit, of_opd, bin, first, blocks, exec, returns, enter, alloc_all, pass_all, free_all, look_at, get, through, sets, is, env, sub, whole, look_in, tables, yes, RattleType, owns, types_at, plain, part_at, full_share, vunit, unit_lit, Ptr, block_ptr, ptr_val, nothing, Stays, stay_dropped, walk_of, Goes-dropped, fact, fact_i, fact_use, Is, shows, cell_at, hidden_shr, peeks, block_of, count_of, at_block, guard_i, RefOf, usize, u64, mut_vals, mut_Tells, shr_vals, shr_Tells, uint_vals, uint_Tells, opens, closes, stay_ref, Goes-ref, unhide, looks, shuts, lent_out, shr_bor-open, obor_close, tokens_halve, length}
use Rattle.std.proofs.Common.{get_or, set, take, ◌≤◌, arith, length-take}
use Rattle.packet_ring.proofs.Contents.{take_set, drop_set}
use mir.Syntax.{ty_int}
use base.Fml.{fat}
use types.Run.{store, assigns_last}
use types.Mut.{open_ref, close_ref}
use Rattle.atomic_table.proofs.Walks.{proved, leaves}
use Rattle.core.proofs.atomic.Steps.{tail}
use Rattle.packet_ring.specs.Table.{Right, may_write, cells_of, written, written_right}
use Rattle.packet_ring.specs.Lent.{BlockId, Spot, block_life, spot, unit_at, Placed, common, cells_row, contents, bytes_lie, held, tracked, carried, mine}
use Rattle.packet_ring.specs.Rule.{Knows, view_coded, packet_coded, Holds}
use Rattle.packet_ring.specs.Steps.{MayWrite}
use Rattle.packet_ring.specs.contracts.block.Shared as block
use Rattle.packet_ring.specs.contracts.block.Token as token
use Rattle.packet_ring.proofs.Fields.{strip_of, BlockData, block_told, block_opens}
use Rattle.packet_ring.proofs.Moves.{placed}
use Rattle.packet_ring.proofs.OneCell.{cell, rest, cell_out, cell_in}
use Rattle.packet_ring.proofs.Reach.{reached_cell, cell_in_reach, in_block}
use Rattle.packet_ring.specs.contracts.block.Shared.write as f
use Rattle.packet_ring.proofs.block.Shared.write.Statement.{statement}
use Rattle.packet_ring.proofs.block.Shared.write.Code as code

pub write_spec : {M : Type 1} → statement M
unfolding Rattle.packet_ring.specs.Lent.seal
write_spec 𝓤 𝓛 𝓜 𝓡 wired =
    let H = 𝓛.H in let 𝓣 = tables 𝓤 H 𝓜 𝓡 𝓡.env in let En = f.ended in let fn = code.function in let c = f.clauses 𝓛 𝓜.mem 𝓡.returns in
    let Row : RattleType = block.the_row in let Sr : RattleType = token.the_row in let D : RattleType = BlockData in let self = RefOf (0 ∷ []) tt (plain (λ _. Row)) (λ _. tt) in let sitter = plain (λ _. Sr) in
    let gone = stay_dropped (plain (λ _. usize)) yes in let number = Goes-dropped 𝓛 2 (plain (λ _. usize)) yes (λ κs x f. refl) in
    let hs : Stays En.signature.params En.kept = (stay_dropped self yes, (stay_ref (1 ∷ []) tt sitter, (gone, (gone, (gone, (stay_dropped (plain (λ _. u64)) yes, tt)))))) in
    proved 𝓛 En hs c 𝓜 𝓡 (Goes-dropped 𝓛 2 self yes (λ κs x f. refl), (Goes-ref 𝓛 2 1 tt sitter, (number, (number, (number, (Goes-dropped 𝓛 2 (plain (λ _. u64)) yes (λ κs x f. refl), tt)))))) f.Key.name fn (code.unfolded 𝓤 H 𝓜 𝓡 wired)
    (λ κs. (shr_vals, (mut_vals, (uint_vals w64, (uint_vals w64, (uint_vals w64, (uint_vals w64, tt))))))) (λ κs. (shr_Tells (named 0) κs.0 Row, (mut_Tells (named 1) κs.1.0 Sr, (uint_Tells w64, (uint_Tells w64, (uint_Tells w64, (uint_Tells w64, tt))))))) (λ κs qs bounds a gh are.
    let b : ℕ = a.0.ref_ptr.0 in let o : ℕ = a.0.ref_ptr.1 in let κ : Lft = κs.0 in let t : Row.Denot = a.0.now in let p : Ptr = t.base in let z : BlockId = t.id in let α : Lft = block_life z in
    let us : List Val = strip_of p ∷ [] in let C : Fml = common view_coded.code packet_coded (Holds z.limits) p z in
    let b' : ℕ = a.1.0.ref_ptr.0 in let o' : ℕ = a.1.0.ref_ptr.1 in let h : Sr.Denot = a.1.0.now in let id : ℕ = h.number in let v : Knows = h.me in let i : ℕ = a.1.1.0 in let k : ℕ = a.1.1.1.0 in let j : ℕ = a.1.1.1.1.0 in let m : ℕ = a.1.1.1.1.1.0 in
    let y : (walk_of 𝓛 En hs c).Ghost = ((κs, qs, bounds, a, (vptr a.0.ref_ptr.0 a.0.ref_ptr.1 ∷ [], (vptr a.1.0.ref_ptr.0 a.1.0.ref_ptr.1 ∷ [], (vint w64 i ∷ [], (vint w64 k ∷ [], (vint w64 j ∷ [], (vint w64 m ∷ [], tt))))))), gh) in let Post : Val → SProp 𝓤 = (walk_of 𝓛 En hs c).post y in
    qed 𝓛 (((‵ (flft κs.0 qs.0) ⊛ ‵ (flft κs.1.0 qs.1.0) ⊛ ‵ ftrue) ⊛ ‵ (owns (types_at En.signature.params κs) a y.0.4)) ∷ given ((h.id ≡ z) × MayWrite v.right i × (j < z.width) × (k ≡ i * (z.width + 1) + 1 + j)) (‵ ftrue) ∷ []) ∵
    move ! (1 ∷ []) $ learn ! (λ asked. drop ! $ split ! $ split3 ! $ move ! (3 ∷ []) $ fsplit3 ! $ fsplit ! $ move ! (2 ∷ []) $ fsplit3 ! $ keep ! (4 ∷ 6 ∷ 1 ∷ 2 ∷ 7 ∷ 8 ∷ []) $
    let x : List ℕ = asked.1.0 in let may : v.right ≡ may_write i x = asked.1.1 in let y' : List ℕ = take z.width x in let n : ℕ = get_or y' j 0 in let here : Spot = spot z i in let R : RattleType = cells_row here in
    enter ! 𝓣.C 𝓣.Λ fn (vptr a.0.ref_ptr.0 a.0.ref_ptr.1 ∷ vptr a.1.0.ref_ptr.0 a.1.0.ref_ptr.1 ∷ vint w64 i ∷ vint w64 k ∷ vint w64 j ∷ vint w64 m ∷ []) Post $ alloc_all ! (λ l. pass_all ! refl ((tt, tt), ((tt, tt), ((tt, record { fits = are.1.1.0.1 }), ((tt, record { fits = are.1.1.1.0.1 }), ((tt, record { fits = are.1.1.1.1.0.1 }), ((tt, record { fits = are.1.1.1.1.1.0.1 }), tt)))))) $ let Ev = env fn.locals l in
    use1 𝓛 (‵ (hidden_shr D κ (p, tt) b o) ⊛ ‵ (base.Fml.fhide (block.the_lent t (block_ptr b o) κ))) (lent_out 𝓛 block.struct block.the_codes block.the_heap block.the_lent κ t b o) $
    split ! $ move ! (1 ∷ []) $ unhide ! $ fsplit ! $ move ! (1 ∷ []) $
    use1 𝓛 (given (Placed p z) (‵ C)) (fact_use 𝓤 _ (placed 𝓛 view_coded packet_coded (Holds z.limits) p z) (guard_i 𝓤 (Placed p z) (sem 𝓛 C))) $ learn ! (λ at. drop ! $ move ! (3 ∷ 4 ∷ 5 ∷ []) $
    opens ! tt Sr b' o' (λ ts. move ! (1 ∷ []) $ fsplit ! $ rewrite ! 1 (λ (w : BlockId). ‵ (mine view_coded.code packet_coded w id v)) asked.0 refl $ move ! (1 ∷ []) $ fsplit3 ! $
    rewrite ! 2 (λ (r : Right). ‵ (carried z r)) may refl $ move ! (2 ∷ []) $ fsplit ! $ fpick ! (λ near. drop ! $ move ! (9 ∷ 10 ∷ []) $
    -- [the block's field; its token; the cells' borrow; what else the token has; the open token; the block's lifetime]
    looks ! tt D (block_opens 𝓛) (p, tt) b o (λ q' vs. move ! (1 ∷ []) $ peeks ! D (Is D) (shows 𝓛 D) (p, tt) vs (λ is-so. let ev : vs ≡ us = block_told p vs is-so in
    rewrite ! 1 (λ (ws : List Val). ‵ (cell_at q' D.mir ws b o)) ev refl $ let small : k * 8 < 2 ^ 64 = cell_in_reach p z i j k at asked.3 asked.2 near in let e : ℕ = k * 8 + count_of p in first ! $ blocks ! $
    sets ! (is ! (of_opd ! (load ! (through ! refl (fld ! refl (stop !))) (look_in ! 1 (sub ! 0 refl (whole !))))) (ap ptr_val (at_block p (in_block p z at)))) refl (tt, tt) $
    sets ! (bin ! (get ! refl) (lit ! tt) (record { fits = small })) refl (tt, record { fits = small }) $ sets ! (bin ! (get ! refl) (get ! refl) tt) refl (tt, tt) $
    rewrite ! 1 (λ (ws : List Val). ‵ (cell_at q' D.mir ws b o)) (sym ev) refl $ move ! (1 ∷ 0 ∷ 2 ∷ []) $ shuts ! tt D q' (p, tt) vs b o $ move ! (10 ∷ 0 ∷ []) $
    shr_bor-open ! tt (tokens_halve 𝓛 α) (λ s. move ! (3 ∷ 1 ∷ []) $ fsplit ! $ open_ref ! tt (contents here) $ fsplit ! $
    use1 𝓛 (given (length y' ≡ z.width) (‵ (cell 𝓛 here y' j n) ⊛ ‵ (rest 𝓛 here y' j))) (cell_out 𝓛 here y' j asked.2) $ learn ! (λ long. split ! $ let there = reached_cell p z i j k at asked.3 in
    let lies : Ptr → ℕ → Fml = λ w d. fat full_share (ty_int w64) (block_of w) (count_of w) (vint w64 d) in rewrite ! 0 (λ (w : Ptr). ‵ (lies w n)) (sym there) refl $
    assigns_last ! (of_opd ! (get ! refl)) (through ! refl (stop !)) (store ! 0 refl (tt, record { fits = are.1.1.1.1.1.0.1 })) $
    exec ! 𝓣.C 𝓣.Λ Ev (tail fn.body) (at_ret Ev Post) $ sets ! (of_opd ! (unit_lit !)) refl (tt, tt) $
    rewrite ! 0 (λ (w : Ptr). ‵ (lies w m)) there refl $ use2 𝓛 (‵ (part_at R full_share (set y' j m) z.block (unit_at z i + 8))) (cell_in 𝓛 here y' j m asked.2 long) $
    rewrite ! 0 (λ (xs : List ℕ). ‵ (part_at R full_share xs z.block (unit_at z i + 8))) (take_set z.width x j m) refl $ rewrite ! 1 (λ (bs : List ℕ). ‵ (bytes_lie here bs)) (drop_set z.width x j m asked.2) refl $ fjoin ! $
    close_ref ! tt (contents here) (set x j m) $ fjoin ! $ move ! (2 ∷ 1 ∷ []) $ obor_close ! tt $ drop ! $ move ! (1 ∷ []) $
    nothing ! $ fpack ! (i < z.units) (λ _. ftrue) near $ fjoin ! $ rewrite ! 0 (λ (r : Right). ‵ (carried z (written_right r j m))) (sym may) refl $ move ! (3 ∷ 4 ∷ 0 ∷ []) $ fjoin3 ! $ move ! (3 ∷ 0 ∷ []) $ fjoin ! $ move ! (3 ∷ 0 ∷ 4 ∷ 5 ∷ 6 ∷ []) $
    let v' : Knows = written v j m in let h' : Sr.Denot = record { marker = h.marker; id = z; number = id; me = v' } in let Told : Type 0 = (z ≡ h.id) × (id ≡ id) × (z.width ≤ length (cells_of v.right)) × (v' ≡ v') in
    closes ! tt Sr h' ts b' o' $ feq_i ! (List Val) (vptr b' o' ∷ []) (vptr b' o' ∷ []) refl $ fjoin3 ! $
    nothing ! $ nothing ! $ fjoin ! $ nothing ! $ fjoin ! $ nothing ! $ fjoin ! $ nothing ! $ fjoin ! $ move ! (1 ∷ 0 ∷ []) $ fjoin ! $ nothing ! $ fjoin ! $ move ! (1 ∷ 4 ∷ []) $ join ! $ move ! (2 ∷ 0 ∷ []) $ join ! $
    use0 𝓛 (raw (fact 𝓤 Told)) (fact_i 𝓤 Told (emp 𝓤) (sym asked.0, refl, (let a = length-take z.width x in let e : length (cells_of v.right) ≡ length x = ap (λ (r : Right). length (cells_of r)) may in omega arith), refl)) $ feq_i ! (List Val) (vunit ∷ []) (vunit ∷ []) refl $
    returns ! (look_at ! 0 refl) $ free_all ! refl $ keep ! (2 ∷ 3 ∷ 0 ∷ 1 ∷ []) $ by ! (leaves 𝓛 En hs c y vunit tt (tt, (h', (tt, (tt, (tt, (tt, tt)))))) (tt, (tt, (tt, (tt, (tt, (tt, tt)))))))))))))))))
