-- `compare_exchange_beside` is one step on a word of the block, and the token goes with it; the other token stays.
use Rattle.atomic_table.proofs.Names.{◌≡◌, ℕ, ◌+◌, ◌*◌, ◌^◌, ◌<◌, List, [], ◌∷◌, sym, refl, ap, w64, a_type, dcons, dnil, named, Val, vint, vptr, inst_fn, SProp, emp, Lft, Fml, ftrue, fsep, flft, sem, ‵, raw, ◌⊛◌, given, mean, at_ret, ◌$◌, ◌∵◌, !, qed, by, move, keep, drop, split, split3, join, fsplit, fsplit3, fjoin, fjoin3, fpick, learn, use0, use1, use3, rewrite, feq_i, flt_i, stop, fld, load, lit, of_opd, bin, no_more, and_then, first, blocks, exec, Calls-last, returns, enter, alloc_all, pass_all, free_all, look_at, get, through, sets, lands_last, is, env, sub, whole, look_in, tables, yes, RattleType, owns, types_at, plain, Ptr, block_ptr, ptr_val, nothing, bounded, Stays, stay_dropped, walk_of, Goes-dropped, fact, fact_i, fact_use, Is, shows, cell_at, peeks, block_of, count_of, at_block, via, guard_i, RefOf, u64, usize, mut_vals, mut_Tells, shr_vals, shr_Tells, uint_vals, uint_Tells, opens, closes, stay_ref, Goes-ref, unhide, hidden_shr, looks, shuts, lent_out, shr_bor-open, obor_close, tokens_halve}
use Rattle.atomic_table.proofs.Walks.{proved, leaves}
use Rattle.atomic_table.proofs.Calls.{fm, found, finds, exchanges}
use Rattle.core.proofs.atomic.Steps.{tail}
use Rattle.packet_ring.specs.Table.{AllowsBeside}
use Rattle.packet_ring.specs.Operation.{Operation}
use Rattle.packet_ring.specs.Steps.{step}
use Rattle.packet_ring.specs.Lent.{BlockId, block_life, unit_at, Placed, common, mine}
use Rattle.packet_ring.specs.Rule.{Knows, view_coded, packet_coded, Holds}
use Rattle.packet_ring.specs.contracts.block.Shared as block
use Rattle.packet_ring.specs.contracts.block.Token as token
use Rattle.packet_ring.proofs.Fields.{strip_of, BlockData, block_told, block_opens}
use Rattle.packet_ring.proofs.Moves.{placed, steps_beside, both}
use Rattle.packet_ring.proofs.Reach.{reached, in_reach, in_block}
use Rattle.packet_ring.specs.contracts.block.Shared.compare_exchange_beside.{ended, clauses}
use Rattle.packet_ring.specs.contracts.block.Shared.compare_exchange_beside.Key.{name as #self}
use Rattle.packet_ring.proofs.block.Shared.compare_exchange_beside.Statement.{statement}
use Rattle.packet_ring.proofs.block.Shared.compare_exchange_beside.Code as code

pub compare_exchange_beside_spec : {M : Type 1} → statement M
unfolding Rattle.packet_ring.specs.Lent.seal
compare_exchange_beside_spec 𝓤 𝓛 𝓜 𝓡 wired Mv _ g d _ =
    let H = 𝓛.H in let 𝓣 = tables 𝓤 H 𝓜 𝓡 𝓡.env in let En = ended Mv g d in
    let inst = bounded (a_type ∷ []) (Mv, tt) (dcons d dnil) in let fn = inst_fn inst code.function in let c = clauses Mv g d 𝓛 𝓜.mem 𝓡.returns in
    let Row : RattleType = block.the_row in let Sr : RattleType = token.the_row in let D : RattleType = BlockData in let self = RefOf (0 ∷ []) tt (plain (λ _. Row)) (λ _. tt) in let sitter = plain (λ _. Sr) in let number = Goes-dropped 𝓛 4 (plain (λ _. usize)) yes (λ κs x f. refl) in let word = Goes-dropped 𝓛 4 (plain (λ _. u64)) yes (λ κs x f. refl) in
    let hs : Stays En.signature.params En.kept = (stay_dropped self yes, (stay_ref (1 ∷ []) tt sitter, (stay_ref (2 ∷ []) tt sitter, (stay_dropped (plain (λ _. usize)) yes, (stay_dropped (plain (λ _. usize)) yes, (stay_dropped (plain (λ _. u64)) yes, (stay_dropped (plain (λ _. u64)) yes, tt))))))) in
    proved 𝓛 En hs c 𝓜 𝓡 (Goes-dropped 𝓛 4 self yes (λ κs x f. refl), (Goes-ref 𝓛 4 1 tt sitter, (Goes-ref 𝓛 4 2 tt sitter, (number, (number, (word, (word, tt))))))) (#self inst) fn (code.unfolded 𝓤 H 𝓜 𝓡 wired (Mv, tt) d)
    (λ κs. (shr_vals, (mut_vals, (mut_vals, (uint_vals w64, (uint_vals w64, (uint_vals w64, (uint_vals w64, tt)))))))) (λ κs. (shr_Tells (named 0) κs.0 Row, (mut_Tells (named 1) κs.1.0 Sr, (mut_Tells (named 2) κs.1.1.0 Sr, (uint_Tells w64, (uint_Tells w64, (uint_Tells w64, (uint_Tells w64, tt)))))))) (λ κs qs bounds a gh are.
    let b : ℕ = a.0.ref_ptr.0 in let o : ℕ = a.0.ref_ptr.1 in let κ : Lft = κs.0 in let t : Row.Denot = a.0.now in let p : Ptr = t.base in let z : BlockId = t.id in let α : Lft = block_life z in
    let us : List Val = strip_of p ∷ [] in let C : Fml = common view_coded.code packet_coded (Holds z.limits) p z in
    let b' : ℕ = a.1.0.ref_ptr.0 in let o' : ℕ = a.1.0.ref_ptr.1 in let h : Sr.Denot = a.1.0.now in let id : ℕ = h.number in let v : Knows = h.me in
    let b'' : ℕ = a.1.1.0.ref_ptr.0 in let o'' : ℕ = a.1.1.0.ref_ptr.1 in let g' : Sr.Denot = a.1.1.0.now in let id' : ℕ = g'.number in let w : Knows = g'.me in
    let i : ℕ = a.1.1.1.0 in let k : ℕ = a.1.1.1.1.0 in let m0 : ℕ = a.1.1.1.1.1.0 in let m1 : ℕ = a.1.1.1.1.1.1.0 in
    let f : ℕ → ℕ = λ n. prog.Atomic.either (lib.Dec.eqb n m0) m1 n in let then : ℕ → Knows → Type 0 = g.then (step z.limits z.units i m0 m1) v in
    let y : (walk_of 𝓛 En hs c).Ghost = ((κs, qs, bounds, a, (vptr b o ∷ [], (vptr b' o' ∷ [], (vptr b'' o'' ∷ [], (vint w64 i ∷ [], (vint w64 k ∷ [], (vint w64 m0 ∷ [], (vint w64 m1 ∷ [], tt)))))))), gh) in let Post : Val → SProp 𝓤 = (walk_of 𝓛 En hs c).post y in
    let others : Fml = fsep (flft κs.1.1.1.0 qs.1.1.1.0) ftrue in
    qed 𝓛 (((‵ (flft κs.0 qs.0) ⊛ ‵ (flft κs.1.0 qs.1.0) ⊛ ‵ (flft κs.1.1.0 qs.1.1.0) ⊛ ‵ others) ⊛ ‵ (owns (types_at En.signature.params κs) a y.0.4)) ∷ raw (fact 𝓤 _) ∷ given ((h.id ≡ z) × (g'.id ≡ z) × (i < z.units) × (k ≡ i * (z.width + 1)) × AllowsBeside (Holds z.limits) (Operation z.limits) z.units id v id' w.view i f then) (‵ ftrue) ∷ []) ∵
    keep ! (2 ∷ 0 ∷ []) $ learn ! (λ asked. drop ! $ split ! $ split3 ! $ move ! (2 ∷ []) $ split ! $ move ! (4 ∷ []) $ fsplit3 ! $ fsplit ! $ move ! (2 ∷ []) $ fsplit3 ! $ move ! (5 ∷ []) $ fsplit ! $ fsplit3 ! $ keep ! (8 ∷ 11 ∷ 5 ∷ 6 ∷ 12 ∷ 10 ∷ 1 ∷ 2 ∷ 9 ∷ []) $
    enter ! 𝓣.C 𝓣.Λ fn (vptr b o ∷ vptr b' o' ∷ vptr b'' o'' ∷ vint w64 i ∷ vint w64 k ∷ vint w64 m0 ∷ vint w64 m1 ∷ []) Post $ alloc_all ! (λ l. pass_all ! refl ((tt, tt), ((tt, tt), ((tt, tt), ((tt, record { fits = are.1.1.1.0.1 }), ((tt, record { fits = are.1.1.1.1.0.1 }), ((tt, record { fits = are.1.1.1.1.1.0.1 }), ((tt, record { fits = are.1.1.1.1.1.1.0.1 }), tt))))))) $ let Ev = env fn.locals l in
    use1 𝓛 (‵ (hidden_shr D κ (p, tt) b o) ⊛ ‵ (base.Fml.fhide (block.the_lent t (block_ptr b o) κ))) (lent_out 𝓛 block.struct block.the_codes block.the_heap block.the_lent κ t b o) $
    split ! $ move ! (1 ∷ []) $ unhide ! $ fsplit ! $ move ! (1 ∷ []) $
    use1 𝓛 (given (Placed p z) (‵ C)) (fact_use 𝓤 _ (placed 𝓛 view_coded packet_coded (Holds z.limits) p z) (guard_i 𝓤 (Placed p z) (sem 𝓛 C))) $ learn ! (λ at. move ! (2 ∷ 3 ∷ []) $
    looks ! tt D (block_opens 𝓛) (p, tt) b o (λ q' vs. move ! (1 ∷ []) $ peeks ! D (Is D) (shows 𝓛 D) (p, tt) vs (λ is-so. let ev : vs ≡ us = block_told p vs is-so in
    rewrite ! 1 (λ (ws : List Val). ‵ (cell_at q' D.mir ws b o)) ev refl $ let small : k * 8 < 2 ^ 64 = in_reach p z i k at asked.3 asked.2 in let e : ℕ = k * 8 + count_of p in first ! $ blocks ! $
    sets ! (is ! (of_opd ! (load ! (through ! refl (fld ! refl (stop !))) (look_in ! 1 (sub ! 0 refl (whole !))))) (ap ptr_val (at_block p (in_block p z at)))) refl (tt, tt) $
    sets ! (bin ! (get ! refl) (lit ! tt) (record { fits = small })) refl (tt, record { fits = small }) $ sets ! (bin ! (get ! refl) (get ! refl) tt) refl (tt, tt) $
    rewrite ! 1 (λ (ws : List Val). ‵ (cell_at q' D.mir ws b o)) (sym ev) refl $ move ! (1 ∷ 0 ∷ 2 ∷ []) $ shuts ! tt D q' (p, tt) vs b o $ move ! (3 ∷ 0 ∷ []) $
    shr_bor-open ! tt (tokens_halve 𝓛 α) (λ s. let pair : ℕ → Fml = both 𝓛 view_coded packet_coded (Holds z.limits) p z s id v i f then id' w in let out : ℕ → Fml = λ n. fsep (flft α s) (pair n) in
    move ! (8 ∷ 9 ∷ 10 ∷ []) $ opens ! tt Sr b'' o'' (λ us'. move ! (1 ∷ []) $ fsplit ! $ rewrite ! 1 (λ (x : BlockId). ‵ (mine view_coded.code packet_coded x id' w)) asked.1 refl $
    move ! (10 ∷ 11 ∷ 12 ∷ []) $ opens ! tt Sr b' o' (λ ts. move ! (1 ∷ []) $ fsplit ! $ rewrite ! 1 (λ (x : BlockId). ‵ (mine view_coded.code packet_coded x id v)) asked.0 refl $ move ! (1 ∷ 7 ∷ []) $ fjoin ! $ move ! (14 ∷ 12 ∷ 0 ∷ []) $
    use3 𝓛 (raw (𝓣.C _ (vptr (block_of p) e ∷ vint w64 m0 ∷ vint w64 m1 ∷ []) (λ u. mean 𝓛 (found out u))))
    (via 𝓤 _ (steps_beside 𝓛 view_coded packet_coded (Holds z.limits) p z s id v i f then id' w (Operation z.limits) (block_ptr (block_of p) e) (reached p z i k at asked.3) asked.2 asked.4) (exchanges 𝓛 𝓜 𝓡 (code.calls-atomic_table::exchange 𝓡.env wired) (block_ptr (block_of p) e) m0 m1 are.1.1.1.1.1.0.1 are.1.1.1.1.1.1.0.1 out)) $
    Calls-last ! (fm 𝓛 𝓜 𝓡) (found out) (and_then ! (get ! refl) (and_then ! (get ! refl) (and_then ! (get ! refl) (no_more !)))) (λ u. finds ! out (λ n fits.
    lands_last ! refl (tt, record { fits = fits }) $ exec ! 𝓣.C 𝓣.Λ Ev (tail fn.body) (at_ret Ev Post) $ sets ! (of_opd ! (get ! refl)) refl (tt, record { fits = fits }) $
    fsplit ! $ move ! (12 ∷ 0 ∷ []) $ obor_close ! tt $ drop ! $ move ! (1 ∷ []) $ fsplit ! $ rewrite ! 0 (λ (x : BlockId). ‵ (mine view_coded.code packet_coded x id' w)) (sym asked.1) refl $
    move ! (8 ∷ 0 ∷ []) $ fjoin ! $ move ! (8 ∷ 0 ∷ 9 ∷ 10 ∷ 11 ∷ []) $ closes ! tt Sr g' us' b'' o'' $ feq_i ! (List Val) (vptr b'' o'' ∷ []) (vptr b'' o'' ∷ []) refl $ fjoin3 ! $
    move ! (2 ∷ []) $ fpick ! (λ v'. fsplit ! $ fpick ! (λ so. drop ! $
    let h' : Sr.Denot = record { marker = h.marker; id = z; number = id; me = v' } in let Told : Type 0 = (g' ≡ g') × (z ≡ h.id) × (id ≡ id) × then n v' in
    move ! (4 ∷ 0 ∷ []) $ fjoin ! $ move ! (4 ∷ 0 ∷ 5 ∷ 6 ∷ 7 ∷ []) $ closes ! tt Sr h' ts b' o' $ feq_i ! (List Val) (vptr b' o' ∷ []) (vptr b' o' ∷ []) refl $ fjoin3 ! $
    nothing ! $ nothing ! $ fjoin ! $ nothing ! $ fjoin ! $ nothing ! $ fjoin ! $ nothing ! $ fjoin ! $ move ! (3 ∷ 0 ∷ []) $ fjoin ! $ move ! (1 ∷ 0 ∷ []) $ fjoin ! $ nothing ! $ fjoin ! $
    move ! (2 ∷ 5 ∷ []) $ join ! $ move ! (2 ∷ 0 ∷ []) $ join ! $ move ! (2 ∷ 0 ∷ []) $ join ! $
    use0 𝓛 (raw (fact 𝓤 Told)) (fact_i 𝓤 Told (emp 𝓤) (refl, sym asked.0, refl, so)) $ flt_i ! n (2 ^ 64) fits $ feq_i ! (List Val) (vint w64 n ∷ []) (vint w64 n ∷ []) refl $ fjoin ! $
    returns ! (look_at ! 0 refl) $ free_all ! refl $ keep ! (2 ∷ 3 ∷ 0 ∷ 1 ∷ []) $ by ! (leaves 𝓛 En hs c y (vint w64 n) n (tt, (h', (g', (tt, (tt, (tt, (tt, tt))))))) (tt, (tt, (tt, (tt, (tt, (tt, (tt, tt)))))))))))))))))))))
