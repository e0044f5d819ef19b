-- `learn` joins what the token has seen with what was told.
use Rattle.atomic_table.proofs.Names.{◌≡◌, ℕ, List, [], ◌∷◌, refl, named, Val, vunit, vptr, SProp, emp, Lft, ftrue, flft, ‵, raw, ◌⊛◌, given, ◌$◌, ◌∵◌, !, qed, by, move, keep, drop, split, split3, join, fsplit, fsplit3, fjoin, fjoin3, learn, use0, use1, use2, unit_lit, rewrite, feq_i, of_opd, returns, enter, alloc_all, pass_all, free_all, look_at, sets, tables, yes, owns, types_at, plain, nothing, Stays, stay_dropped, walk_of, Goes-dropped, fact, fact_i, RefOf, mut_vals, mut_Tells, shr_vals, shr_Tells, opens, closes, stay_ref, Goes-ref, unhide, hidden_shr, lent_out}
use mathlib.Core.List.{IsPrefix}
use types.Kit.{some, pick}
use denote.Builtin.{u64}
use Rattle.core.specs.contracts.marker.PhantomData as marker
use Rattle.atomic_table.proofs.Walks.{proved, leaves}
use Rattle.packet_ring.specs.Lent.{BlockId, mine, reached}
use Rattle.packet_ring.specs.Rule.{Knows, view_coded, packet_coded}
use Rattle.packet_ring.specs.contracts.block.Token as token
use Rattle.packet_ring.specs.contracts.reached.Reached as told
use Rattle.packet_ring.proofs.Telling.{ToldData, learns}
use Rattle.packet_ring.specs.contracts.block.Token.learn as f
use Rattle.packet_ring.proofs.block.Token.learn.Statement.{statement}
use Rattle.packet_ring.proofs.block.Token.learn.Code as code

pub learn_spec : {M : Type 1} → statement M
learn_spec 𝓤 𝓛 𝓜 𝓡 wired =
    let H = 𝓛.H in let 𝓣 = tables 𝓤 H 𝓜 𝓡 𝓡.env in let En = f.ended in let fn = code.function in let Sr = token.the_row in let Tr = told.the_row in let sitter = plain (λ _. Sr) in let shown = RefOf (1 ∷ []) tt (plain (λ _. Tr)) (λ _. tt) in
    let hs : Stays En.signature.params En.kept = (stay_ref (0 ∷ []) tt sitter, (stay_dropped shown yes, tt)) in let c = f.clauses 𝓛 𝓜.mem 𝓡.returns in
    proved 𝓛 En hs c 𝓜 𝓡 (Goes-ref 𝓛 2 0 tt sitter, (Goes-dropped 𝓛 2 shown yes (λ κs x f. refl), tt)) f.Key.name fn (code.unfolded 𝓤 H 𝓜 𝓡 wired)
    (λ κs. (mut_vals, (shr_vals, tt))) (λ κs. (mut_Tells (named 0) κs.0 Sr, (shr_Tells (named 1) κs.1.0 Tr, tt))) (λ κs qs bounds a gh are.
    let b : ℕ = a.0.ref_ptr.0 in let o : ℕ = a.0.ref_ptr.1 in let h : Sr.Denot = a.0.now in let z : BlockId = h.id in let id : ℕ = h.number in let v : Knows = h.me in
    let b' : ℕ = a.1.0.ref_ptr.0 in let o' : ℕ = a.1.0.ref_ptr.1 in let κ : Lft = κs.1.0 in let r : Tr.Denot = a.1.0.now in
    let y : (walk_of 𝓛 En hs c).Ghost = ((κs, qs, bounds, a, (vptr b o ∷ [], (vptr b' o' ∷ [], tt))), gh) in let Post : Val → SProp 𝓤 = (walk_of 𝓛 En hs c).post y in
    qed 𝓛 (((‵ (flft κs.0 qs.0) ⊛ ‵ (flft κs.1.0 qs.1.0) ⊛ ‵ ftrue) ⊛ ‵ (owns (types_at En.signature.params κs) a y.0.4)) ∷ given (r.id ≡ z) (‵ ftrue) ∷ []) ∵
    move ! (1 ∷ []) $ learn ! (λ asked. drop ! $ split ! $ split3 ! $ move ! (3 ∷ []) $ fsplit3 ! $ fsplit3 ! $ move ! (3 ∷ []) $ fsplit ! $ keep ! (1 ∷ 7 ∷ 3 ∷ 4 ∷ 6 ∷ 8 ∷ []) $
    enter ! 𝓣.C 𝓣.Λ fn (vptr b o ∷ vptr b' o' ∷ []) Post $ alloc_all ! (λ l. pass_all ! refl ((tt, tt), ((tt, tt), tt)) $
    use1 𝓛 (‵ (hidden_shr ToldData κ (tt, tt) b' o') ⊛ ‵ (base.Fml.fhide (reached packet_coded r.id r.log))) (lent_out 𝓛 told.struct (told.the_codes (marker.the_row u64).coded) told.the_heap told.the_lent κ r b' o') $
    split ! $ drop ! $ unhide ! $ rewrite ! 0 (λ (x : BlockId). ‵ (reached packet_coded x r.log)) asked refl $ move ! (2 ∷ 3 ∷ 4 ∷ []) $
    opens ! tt Sr b o (λ ts. move ! (1 ∷ []) $ fsplit ! $ move ! (1 ∷ 6 ∷ []) $
    use2 𝓛 (some (λ (all : List (List ℕ)). given (IsPrefix v.seen all × IsPrefix r.log all) (‵ (mine view_coded.code packet_coded z id (record v { seen = all }))))) (learns 𝓛 view_coded packet_coded z id v r.log) $ pick ! (λ all. learn ! (λ so. move ! (1 ∷ 0 ∷ []) $ fjoin ! $ move ! (1 ∷ 0 ∷ []) $
    let v' : Knows = record v { seen = all } in let h' : Sr.Denot = record { marker = h.marker; id = z; number = id; me = v' } in
    let Same : Type 0 = (z ≡ z) × (id ≡ id) × (v'.view ≡ v.view) × (v'.right ≡ v.right) in let More : Type 0 = IsPrefix v.seen all × IsPrefix r.log all in
    closes ! tt Sr h' ts b o $ feq_i ! (List Val) (vptr b o ∷ []) (vptr b o ∷ []) refl $ fjoin3 ! $
    nothing ! $ nothing ! $ fjoin ! $ move ! (1 ∷ 0 ∷ []) $ fjoin ! $ move ! (2 ∷ 3 ∷ []) $ join ! $ move ! (2 ∷ 0 ∷ []) $ join ! $
    sets ! (of_opd ! (unit_lit !)) refl (tt, tt) $ use0 𝓛 (raw (fact 𝓤 More)) (fact_i 𝓤 More (emp 𝓤) so) $ use0 𝓛 (raw (fact 𝓤 Same)) (fact_i 𝓤 Same (emp 𝓤) (refl, refl, refl, refl)) $ join ! $ feq_i ! (List Val) (vunit ∷ []) (vunit ∷ []) refl $
    returns ! (look_at ! 0 refl) $ free_all ! refl $ keep ! (2 ∷ 3 ∷ 0 ∷ 1 ∷ []) $ by ! (leaves 𝓛 En hs c y vunit tt (h', (tt, tt)) (tt, (tt, tt)))))))))
