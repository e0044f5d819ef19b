-- `compare` looks at the block under its invariant, without a step.
use Rattle.atomic_table.proofs.Names.{◌≡◌, ℕ, List, [], ◌∷◌, sym, refl, named, Val, vptr, SProp, emp, Lft, Fml, ftrue, flft, ‵, raw, ◌⊛◌, given, ◌$◌, ◌∵◌, !, qed, by, move, keep, drop, split, split3, join, fsplit, fsplit3, fjoin, fjoin3, learn, use0, use1, use3, await, later, unit_lit, vunit, rewrite, feq_i, of_opd, returns, enter, alloc_all, pass_all, free_all, look_at, sets, tables, yes, RattleType, owns, types_at, plain, Ptr, block_ptr, nothing, Stays, stay_dropped, walk_of, Goes-dropped, fact, fact_i, fsep, RefOf, mut_vals, mut_Tells, shr_vals, shr_Tells, opens, closes, stay_ref, Goes-ref, unhide, hidden_shr, lent_out, shr_bor-open, obor_close, tokens_halve}
use denote.Builtin.{u64}
use Rattle.core.specs.contracts.marker.PhantomData as marker
use Rattle.atomic_table.proofs.Walks.{proved, leaves}
use Rattle.packet_ring.specs.Lent.{BlockId, block_life, common, mine, reached}
use Rattle.packet_ring.specs.Rule.{Knows, Holds, view_coded, packet_coded}
use Rattle.packet_ring.specs.Table.{IsSighted}
use Rattle.packet_ring.specs.contracts.block.Shared as block
use Rattle.packet_ring.specs.contracts.block.Token as token
use Rattle.packet_ring.specs.contracts.reached.Reached as told
use Rattle.packet_ring.proofs.Fields.{BlockData}
use Rattle.packet_ring.proofs.Telling.{ToldData}
use Rattle.packet_ring.proofs.Comparing.{compares}
use Rattle.packet_ring.specs.contracts.block.Shared.compare as f
use Rattle.packet_ring.proofs.block.Shared.compare.Statement.{statement}
use Rattle.packet_ring.proofs.block.Shared.compare.Code as code

pub compare_spec : {M : Type 1} → statement M
unfolding Rattle.packet_ring.specs.Lent.seal
compare_spec 𝓤 𝓛 𝓜 𝓡 wired =
    let H = 𝓛.H in let 𝓣 = tables 𝓤 H 𝓜 𝓡 𝓡.env in let En = f.ended in let fn = code.function in let c = f.clauses 𝓛 𝓜.mem 𝓡.returns in
    let Row : RattleType = block.the_row in let Sr : RattleType = token.the_row in let Tr : RattleType = told.the_row in let D : RattleType = BlockData in let self = RefOf (0 ∷ []) tt (plain (λ _. Row)) (λ _. tt) in let sitter = plain (λ _. Sr) in let shown = RefOf (2 ∷ []) tt (plain (λ _. Tr)) (λ _. tt) in
    let hs : Stays En.signature.params En.kept = (stay_dropped self yes, (stay_ref (1 ∷ []) tt sitter, (stay_dropped shown yes, tt))) in
    proved 𝓛 En hs c 𝓜 𝓡 (Goes-dropped 𝓛 3 self yes (λ κs x f. refl), (Goes-ref 𝓛 3 1 tt sitter, (Goes-dropped 𝓛 3 shown yes (λ κs x f. refl), tt))) f.Key.name fn (code.unfolded 𝓤 H 𝓜 𝓡 wired)
    (λ κs. (shr_vals, (mut_vals, (shr_vals, tt)))) (λ κs. (shr_Tells (named 0) κs.0 Row, (mut_Tells (named 1) κs.1.0 Sr, (shr_Tells (named 2) κs.1.1.0 Tr, tt)))) (λ κs qs bounds a gh are.
    let b : ℕ = a.0.ref_ptr.0 in let o : ℕ = a.0.ref_ptr.1 in let κ : Lft = κs.0 in let t : Row.Denot = a.0.now in let p : Ptr = t.base in let z : BlockId = t.id in let α : Lft = block_life z in let C : Fml = common view_coded.code packet_coded (Holds z.limits) p z in
    let b' : ℕ = a.1.0.ref_ptr.0 in let o' : ℕ = a.1.0.ref_ptr.1 in let h : Sr.Denot = a.1.0.now in let id : ℕ = h.number in let v : Knows = h.me in
    let b'' : ℕ = a.1.1.0.ref_ptr.0 in let o'' : ℕ = a.1.1.0.ref_ptr.1 in let κ' : Lft = κs.1.1.0 in let r : Tr.Denot = a.1.1.0.now in
    let y : (walk_of 𝓛 En hs c).Ghost = ((κs, qs, bounds, a, (vptr b o ∷ [], (vptr b' o' ∷ [], (vptr b'' o'' ∷ [], tt)))), gh) in let Post : Val → SProp 𝓤 = (walk_of 𝓛 En hs c).post y in
    let others : Fml = fsep (flft κs.1.1.0 qs.1.1.0) ftrue in let Same : Type 0 = h ≡ h in let Sighted : Type 0 = IsSighted (Holds z.limits) id v.view r.log in
    qed 𝓛 (((‵ (flft κs.0 qs.0) ⊛ ‵ (flft κs.1.0 qs.1.0) ⊛ ‵ others) ⊛ ‵ (owns (types_at En.signature.params κs) a y.0.4)) ∷ given ((h.id ≡ z) × (r.id ≡ z)) (‵ ftrue) ∷ []) ∵
    move ! (1 ∷ []) $ learn ! (λ asked. drop ! $ split ! $ split3 ! $ move ! (3 ∷ []) $ fsplit3 ! $ fsplit ! $ move ! (2 ∷ []) $ fsplit3 ! $ move ! (5 ∷ []) $ fsplit ! $ fsplit ! $ keep ! (7 ∷ 8 ∷ 4 ∷ 5 ∷ 9 ∷ 10 ∷ 1 ∷ []) $
    enter ! 𝓣.C 𝓣.Λ fn (vptr b o ∷ vptr b' o' ∷ vptr b'' o'' ∷ []) Post $ alloc_all ! (λ l. pass_all ! refl ((tt, tt), ((tt, tt), ((tt, tt), tt))) $
    use1 𝓛 (‵ (hidden_shr D κ (p, tt) b o) ⊛ ‵ (base.Fml.fhide (block.the_lent t (block_ptr b o) κ))) (lent_out 𝓛 block.struct block.the_codes block.the_heap block.the_lent κ t b o) $
    split ! $ move ! (1 ∷ []) $ unhide ! $ fsplit ! $ move ! (8 ∷ []) $
    use1 𝓛 (‵ (hidden_shr ToldData κ' (tt, tt) b'' o'') ⊛ ‵ (base.Fml.fhide (reached packet_coded r.id r.log))) (lent_out 𝓛 told.struct (told.the_codes (marker.the_row u64).coded) told.the_heap told.the_lent κ' r b'' o'') $
    split ! $ drop ! $ unhide ! $ rewrite ! 0 (λ (x : BlockId). ‵ (reached packet_coded x r.log)) asked.1 refl $ move ! (1 ∷ 4 ∷ []) $
    shr_bor-open ! tt (tokens_halve 𝓛 α) (λ s. move ! (5 ∷ 6 ∷ 7 ∷ []) $ opens ! tt Sr b' o' (λ ts. move ! (1 ∷ []) $ fsplit ! $ rewrite ! 1 (λ (x : BlockId). ‵ (mine view_coded.code packet_coded x id v)) asked.0 refl $ move ! (1 ∷ 8 ∷ []) $ join ! $ move ! (8 ∷ 7 ∷ 0 ∷ []) $
    use3 𝓛 (later (given Sighted (‵ (mine view_coded.code packet_coded z id v)) ⊛ ‵ (flft α s))) (compares 𝓛 view_coded packet_coded (Holds z.limits) p z s id v r.log) $ await ! tt $ split ! $ learn ! (λ so. move ! (7 ∷ 1 ∷ []) $ obor_close ! tt $ drop ! $ move ! (1 ∷ 0 ∷ []) $
    rewrite ! 0 (λ (x : BlockId). ‵ (mine view_coded.code packet_coded x id v)) (sym asked.0) refl $ move ! (2 ∷ 0 ∷ []) $ fjoin ! $ move ! (2 ∷ 0 ∷ 3 ∷ 4 ∷ 5 ∷ []) $ closes ! tt Sr h ts b' o' $ feq_i ! (List Val) (vptr b' o' ∷ []) (vptr b' o' ∷ []) refl $ fjoin3 ! $
    nothing ! $ nothing ! $ fjoin ! $ move ! (1 ∷ 0 ∷ []) $ fjoin ! $ nothing ! $ fjoin ! $ move ! (1 ∷ 4 ∷ []) $ join ! $ move ! (2 ∷ 0 ∷ []) $ join ! $
    sets ! (of_opd ! (unit_lit !)) refl (tt, tt) $ use0 𝓛 (raw (fact 𝓤 Sighted)) (fact_i 𝓤 Sighted (emp 𝓤) so) $ use0 𝓛 (raw (fact 𝓤 Same)) (fact_i 𝓤 Same (emp 𝓤) refl) $ join ! $ feq_i ! (List Val) (vunit ∷ []) (vunit ∷ []) refl $
    returns ! (look_at ! 0 refl) $ free_all ! refl $ keep ! (2 ∷ 3 ∷ 0 ∷ 1 ∷ []) $ by ! (leaves 𝓛 En hs c y vunit tt (tt, (h, (tt, tt))) (tt, (tt, (tt, tt))))))))))
