-- `put` writes one byte more of a unit that the token may write.
use Rattle.atomic_table.proofs.Names.{◌≡◌, ℕ, ◌+◌, ◌*◌, ◌<◌, List, [], ◌∷◌, ◌++◌, sym, refl, ap, w64, named, Val, vint, vptr, SProp, emp, Lft, Fml, ftrue, flft, sem, ‵, raw, ◌⊛◌, given, at_ret, ◌$◌, ◌∵◌, !, qed, by, move, keep, drop, split, split3, join, fsplit, fsplit3, fjoin, fjoin3, fpick, fpack, learn, use0, use1, use2, rewrite, feq_i, stop, fld, of_opd, bin, first, blocks, exec, returns, enter, alloc_all, pass_all, free_all, look_at, get, get_in, through, sets, is, env, sub, whole, tables, yes, RattleType, owns, types_at, plain, part_at, full_share, vunit, unit_lit, Ptr, block_ptr, ptr_val, nothing, Stays, stay_dropped, walk_of, Goes-dropped, fact, fact_i, fact_use, hidden_shr, block_of, count_of, at_block, guard_i, RefOf, usize, mut_vals, mut_Tells, shr_vals, shr_Tells, uint_vals, uint_Tells, opens, closes, stay_ref, Goes-ref, unhide, lent_out, shr_bor-open, obor_close, tokens_halve, length}
use Rattle.std.proofs.Common.{take, drop as drop_l, ◌≤◌, arith, length-drop, w8}
use mir.Syntax.{ty_int}
use base.Fml.{fat, froom}
use denote.Builtin.{u8}
use types.Run.{init, assigns_last}
use types.Mut.{open_ref, close_ref}
use Rattle.atomic_table.proofs.Walks.{proved, leaves}
use Rattle.core.proofs.atomic.Steps.{tail}
use Rattle.packet_ring.specs.Table.{Right, may_write, cells_of, grown, grown_right}
use Rattle.packet_ring.specs.Lent.{BlockId, Spot, block_life, spot, unit_at, bytes_at, bytes_from, Placed, common, cells_row, contents, bytes_lie, held, tracked, carried, mine}
use Rattle.packet_ring.specs.Rule.{Knows, view_coded, packet_coded, Holds}
use Rattle.packet_ring.specs.Steps.{MayWrite}
use Rattle.packet_ring.specs.contracts.block.Shared as block
use Rattle.packet_ring.specs.contracts.block.Token as token
use Rattle.std_alloc.proofs.RcSteps.{word-Good}
use denote.Builtin.{u64}
use Rattle.std.proofs.Common.{◌∙◌}
use Rattle.packet_ring.specs.contracts.places.Base as base_of
use Rattle.packet_ring.proofs.Fields.{strip_of, base_told, BlockData}
use Rattle.packet_ring.proofs.Moves.{placed}
use Rattle.packet_ring.proofs.Contents.{take_grown, drop_grown}
use Rattle.packet_ring.proofs.Bytes.{before_place, behind_place, place_out, place_in}
use Rattle.packet_ring.proofs.Reach.{reached_byte, in_block}
use Rattle.packet_ring.specs.contracts.block.Shared.put as f
use Rattle.packet_ring.proofs.block.Shared.put.Statement.{statement}
use Rattle.packet_ring.proofs.block.Shared.put.Code as code

pub put_spec : {M : Type 1} → statement M
unfolding Rattle.packet_ring.specs.Lent.seal
put_spec 𝓤 𝓛 𝓜 𝓡 wired =
    let H = 𝓛.H in let 𝓣 = tables 𝓤 H 𝓜 𝓡 𝓡.env in let En = f.ended in let fn = code.function in let c = f.clauses 𝓛 𝓜.mem 𝓡.returns in
    let Row : RattleType = block.the_row in let Sr : RattleType = token.the_row in let D : RattleType = BlockData in let self = RefOf (0 ∷ []) tt (plain (λ _. Row)) (λ _. tt) in let sitter = plain (λ _. Sr) in
    let gone = stay_dropped (plain (λ _. usize)) yes in let number = Goes-dropped 𝓛 2 (plain (λ _. usize)) yes (λ κs x f. refl) in
    let Bs : RattleType = base_of.the_row u64 in
    let hs : Stays En.signature.params En.kept = (stay_dropped self yes, (stay_ref (1 ∷ []) tt sitter, (stay_dropped (plain (λ _. Bs)) yes, (gone, (gone, (gone, (stay_dropped (plain (λ _. u8)) yes, tt))))))) in
    proved 𝓛 En hs c 𝓜 𝓡 (Goes-dropped 𝓛 2 self yes (λ κs x f. refl), (Goes-ref 𝓛 2 1 tt sitter, (Goes-dropped 𝓛 2 (plain (λ _. Bs)) yes (λ κs x f. refl), (number, (number, (number, (Goes-dropped 𝓛 2 (plain (λ _. u8)) yes (λ κs x f. refl), tt))))))) f.Key.name fn (code.unfolded 𝓤 H 𝓜 𝓡 wired)
    (λ κs. (shr_vals, (mut_vals, ((λ x. strip_of x.ptr ∷ []), (uint_vals w64, (uint_vals w64, (uint_vals w64, (uint_vals w8, tt)))))))) (λ κs. (shr_Tells (named 0) κs.0 Row, (mut_Tells (named 1) κs.1.0 Sr, ((λ x vs so. base_told x.ptr vs so), (uint_Tells w64, (uint_Tells w64, (uint_Tells w64, (uint_Tells w8, tt)))))))) (λ κs qs bounds a gh are.
    let b : ℕ = a.0.ref_ptr.0 in let o : ℕ = a.0.ref_ptr.1 in let κ : Lft = κs.0 in let t : Row.Denot = a.0.now in let p : Ptr = t.base in let z : BlockId = t.id in let α : Lft = block_life z in
    let us : List Val = strip_of p ∷ [] in let C : Fml = common view_coded.code packet_coded (Holds z.limits) p z in
    let b' : ℕ = a.1.0.ref_ptr.0 in let o' : ℕ = a.1.0.ref_ptr.1 in let h : Sr.Denot = a.1.0.now in let id : ℕ = h.number in let v : Knows = h.me in let r : Ptr = a.1.1.0.ptr in let i : ℕ = a.1.1.1.0 in let k : ℕ = a.1.1.1.1.0 in let j : ℕ = a.1.1.1.1.1.0 in let m : ℕ = a.1.1.1.1.1.1.0 in
    let y : (walk_of 𝓛 En hs c).Ghost = ((κs, qs, bounds, a, (vptr a.0.ref_ptr.0 a.0.ref_ptr.1 ∷ [], (vptr a.1.0.ref_ptr.0 a.1.0.ref_ptr.1 ∷ [], (strip_of r ∷ [], (vint w64 i ∷ [], (vint w64 k ∷ [], (vint w64 j ∷ [], (vint w8 m ∷ [], tt)))))))), gh) in let Post : Val → SProp 𝓤 = (walk_of 𝓛 En hs c).post y in
    qed 𝓛 (((‵ (flft κs.0 qs.0) ⊛ ‵ (flft κs.1.0 qs.1.0) ⊛ ‵ ftrue) ⊛ ‵ (owns (types_at En.signature.params κs) a y.0.4)) ∷ given ((h.id ≡ z) × MayWrite v.right i × (r ≡ p)) (‵ ftrue) ∷ given ((j < z.room * 8) × (z.width + j ≤ length (cells_of v.right)) × (k ≡ bytes_from z i + j)) (‵ ftrue) ∷ []) ∵
    move ! (1 ∷ []) $ learn ! (λ right. drop ! $ move ! (1 ∷ []) $ learn ! (λ asked. drop ! $ split ! $ split3 ! $ move ! (3 ∷ []) $ fsplit3 ! $ fsplit ! $ move ! (2 ∷ []) $ fsplit3 ! $ keep ! (4 ∷ 6 ∷ 1 ∷ 2 ∷ 7 ∷ 8 ∷ []) $
    let x : List ℕ = right.1.0 in let may : v.right ≡ may_write i x = right.1.1 in let here : Spot = spot z i in let R : RattleType = cells_row here in let bs : List ℕ = drop_l z.width x in
    let have : cells_of v.right ≡ x = ap cells_of may in let le : j ≤ length bs = (let d = length-drop z.width x in let l : length (cells_of v.right) ≡ length x = ap length have in let w = asked.1 in omega arith) in
    enter ! 𝓣.C 𝓣.Λ fn (vptr a.0.ref_ptr.0 a.0.ref_ptr.1 ∷ vptr a.1.0.ref_ptr.0 a.1.0.ref_ptr.1 ∷ strip_of r ∷ vint w64 i ∷ vint w64 k ∷ vint w64 j ∷ vint w8 m ∷ []) Post $ alloc_all ! (λ l. pass_all ! refl ((tt, tt), ((tt, tt), (word-Good [] r, ((tt, record { fits = are.1.1.1.0.1 }), ((tt, record { fits = are.1.1.1.1.0.1 }), ((tt, record { fits = are.1.1.1.1.1.0.1 }), ((tt, record { fits = are.1.1.1.1.1.1.0.1 }), tt))))))) $ let Ev = env fn.locals l in
    use1 𝓛 (‵ (hidden_shr D κ (p, tt) b o) ⊛ ‵ (base.Fml.fhide (block.the_lent t (block_ptr b o) κ))) (lent_out 𝓛 block.struct block.the_codes block.the_heap block.the_lent κ t b o) $
    split ! $ move ! (1 ∷ []) $ unhide ! $ fsplit ! $ move ! (1 ∷ []) $
    use1 𝓛 (given (Placed p z) (‵ C)) (fact_use 𝓤 _ (placed 𝓛 view_coded packet_coded (Holds z.limits) p z) (guard_i 𝓤 (Placed p z) (sem 𝓛 C))) $ learn ! (λ at. drop ! $ move ! (3 ∷ 4 ∷ 5 ∷ []) $
    opens ! tt Sr b' o' (λ ts. move ! (1 ∷ []) $ fsplit ! $ rewrite ! 1 (λ (w : BlockId). ‵ (mine view_coded.code packet_coded w id v)) right.0 refl $ move ! (1 ∷ []) $ fsplit3 ! $
    rewrite ! 2 (λ (r : Right). ‵ (carried z r)) may refl $ move ! (2 ∷ []) $ fsplit ! $ fpick ! (λ near. drop ! $ first ! $ blocks ! $
    sets ! (is ! (of_opd ! (get_in ! (fld ! refl (stop !)) (sub ! 0 refl (whole !)))) (ap ptr_val (right.2 ∙ at_block p (in_block p z at)))) refl (tt, tt) $ sets ! (bin ! (get ! refl) (get ! refl) tt) refl (tt, tt) $ move ! (8 ∷ 10 ∷ 9 ∷ []) $
    -- [the block's lifetime; its token; the block's field; the contents' borrow; what else the token has; the open token]
    shr_bor-open ! tt (tokens_halve 𝓛 α) (λ s. move ! (3 ∷ 1 ∷ []) $ fsplit ! $ open_ref ! tt (contents here) $ fsplit ! $ move ! (1 ∷ []) $
    use1 𝓛 (‵ (froom (ty_int w8) z.block (bytes_at z i + j)) ⊛ (‵ (before_place 𝓛 here bs j le asked.0) ⊛ ‵ (behind_place 𝓛 here bs j le asked.0))) (place_out 𝓛 here bs j le asked.0) $ split ! $ let there = reached_byte p z i j k at asked.2 in
    rewrite ! 0 (λ (w : Ptr). ‵ (froom (ty_int w8) (block_of w) (count_of w))) (sym there) refl $
    assigns_last ! (of_opd ! (get ! refl)) (through ! refl (stop !)) (init ! 0 refl (tt, record { fits = are.1.1.1.1.1.1.0.1 })) $
    exec ! 𝓣.C 𝓣.Λ Ev (tail fn.body) (at_ret Ev Post) $ sets ! (of_opd ! (unit_lit !)) refl (tt, tt) $
    rewrite ! 0 (λ (w : Ptr). ‵ (fat full_share (ty_int w8) (block_of w) (count_of w) (vint w8 m))) there refl $ use2 𝓛 (‵ (bytes_lie here (take j bs ++ m ∷ []))) (place_in 𝓛 here bs j le asked.0 m) $
    rewrite ! 0 (λ (xs : List ℕ). ‵ (bytes_lie here xs)) (drop_grown z.width x j m (let l : length (cells_of v.right) ≡ length x = ap length have in let w = asked.1 in omega arith)) refl $
    rewrite ! 1 (λ (xs : List ℕ). ‵ (part_at R full_share xs z.block (unit_at z i + 8))) (take_grown z.width x j m (let l : length (cells_of v.right) ≡ length x = ap length have in let w = asked.1 in omega arith)) refl $ move ! (1 ∷ 0 ∷ []) $ fjoin ! $
    close_ref ! tt (contents here) (take (z.width + j) x ++ m ∷ []) $ fjoin ! $ move ! (2 ∷ 1 ∷ []) $ obor_close ! tt $ drop ! $ move ! (1 ∷ []) $
    nothing ! $ fpack ! (i < z.units) (λ _. ftrue) near $ fjoin ! $ rewrite ! 0 (λ (r : Right). ‵ (carried z (grown_right r (z.width + j) m))) (sym may) refl $ move ! (3 ∷ 4 ∷ 0 ∷ []) $ fjoin3 ! $ move ! (3 ∷ 0 ∷ []) $ fjoin ! $ move ! (3 ∷ 0 ∷ 4 ∷ 5 ∷ 6 ∷ []) $
    let v' : Knows = grown v (z.width + j) m in let h' : Sr.Denot = record { marker = h.marker; id = z; number = id; me = v' } in let Told : Type 0 = (z ≡ h.id) × (id ≡ id) × (v' ≡ v') in
    closes ! tt Sr h' ts b' o' $ feq_i ! (List Val) (vptr b' o' ∷ []) (vptr b' o' ∷ []) refl $ fjoin3 ! $
    nothing ! $ nothing ! $ fjoin ! $ nothing ! $ fjoin ! $ nothing ! $ fjoin ! $ nothing ! $ fjoin ! $ nothing ! $ fjoin ! $ move ! (1 ∷ 0 ∷ []) $ fjoin ! $ nothing ! $ fjoin ! $ move ! (1 ∷ 4 ∷ []) $ join ! $ move ! (2 ∷ 0 ∷ []) $ join ! $
    use0 𝓛 (raw (fact 𝓤 Told)) (fact_i 𝓤 Told (emp 𝓤) (sym right.0, refl, refl)) $ feq_i ! (List Val) (vunit ∷ []) (vunit ∷ []) refl $
    returns ! (look_at ! 0 refl) $ free_all ! refl $ keep ! (2 ∷ 3 ∷ 0 ∷ 1 ∷ []) $ by ! (leaves 𝓛 En hs c y vunit tt (tt, (h', (tt, (tt, (tt, (tt, (tt, tt))))))) (tt, (tt, (tt, (tt, (tt, (tt, (tt, tt))))))))))))))))
