-- `settle` ends the round that the token may end.
use Rattle.atomic_table.proofs.Names.{◌≡◌, ℕ, List, [], ◌∷◌, refl, named, Val, vunit, vptr, SProp, emp, ftrue, flft, ‵, raw, ◌⊛◌, later, ◌$◌, ◌∵◌, !, qed, by, move, keep, split, join, fsplit, fsplit3, fjoin, fjoin3, use0, use1, await, feq_i, unit_lit, of_opd, returns, enter, alloc_all, pass_all, free_all, look_at, sets, tables, owns, types_at, plain, nothing, Stays, walk_of, fact, fact_i, mut_vals, mut_Tells, opens, closes, stay_ref, Goes-ref}
use Rattle.atomic_table.proofs.Walks.{proved, leaves}
use Rattle.packet_ring.specs.Table.{settled}
use Rattle.packet_ring.specs.Lent.{BlockId, mine}
use Rattle.packet_ring.specs.Rule.{Knows, view_coded, packet_coded}
use Rattle.packet_ring.specs.contracts.block.Token as token
use Rattle.packet_ring.proofs.Settling.{settles}
use Rattle.packet_ring.specs.contracts.block.Token.settle as f
use Rattle.packet_ring.proofs.block.Token.settle.Statement.{statement}
use Rattle.packet_ring.proofs.block.Token.settle.Code as code

pub settle_spec : {M : Type 1} → statement M
settle_spec 𝓤 𝓛 𝓜 𝓡 wired =
    let H = 𝓛.H in let 𝓣 = tables 𝓤 H 𝓜 𝓡 𝓡.env in let En = f.ended in let fn = code.function in let Sr = token.the_row in let sitter = plain (λ _. Sr) in
    let hs : Stays En.signature.params En.kept = (stay_ref (0 ∷ []) tt sitter, tt) in let c = f.clauses 𝓛 𝓜.mem 𝓡.returns in
    proved 𝓛 En hs c 𝓜 𝓡 (Goes-ref 𝓛 1 0 tt sitter, tt) f.Key.name fn (code.unfolded 𝓤 H 𝓜 𝓡 wired)
    (λ κs. (mut_vals, tt)) (λ κs. (mut_Tells (named 0) κs.0 Sr, tt)) (λ κs qs bounds a gh are.
    let b : ℕ = a.0.ref_ptr.0 in let o : ℕ = a.0.ref_ptr.1 in let h : Sr.Denot = a.0.now in let z : BlockId = h.id in let id : ℕ = h.number in let v : Knows = h.me in
    let v' : Knows = settled v in let h' : Sr.Denot = record { marker = h.marker; id = z; number = id; me = v' } in let Told : Type 0 = (z ≡ z) × (id ≡ id) × (v' ≡ v') in
    let y : (walk_of 𝓛 En hs c).Ghost = ((κs, qs, bounds, a, (vptr b o ∷ [], tt)), gh) in let Post : Val → SProp 𝓤 = (walk_of 𝓛 En hs c).post y in
    qed 𝓛 (((‵ (flft κs.0 qs.0) ⊛ ‵ ftrue) ⊛ ‵ (owns (types_at En.signature.params κs) a y.0.4)) ∷ raw ((c κs a).requires gh) ∷ []) ∵
    split ! $ split ! $ move ! (2 ∷ []) $ fsplit ! $ fsplit3 ! $ keep ! (1 ∷ 2 ∷ 4 ∷ 5 ∷ []) $
    enter ! 𝓣.C 𝓣.Λ fn (vptr b o ∷ []) Post $ alloc_all ! (λ l. pass_all ! refl ((tt, tt), tt) $
    opens ! tt Sr b o (λ ts. move ! (1 ∷ []) $ fsplit ! $ move ! (1 ∷ []) $ use1 𝓛 (later (‵ (mine view_coded.code packet_coded z id v'))) (settles 𝓛 view_coded packet_coded z id v) $ await ! tt $ move ! (1 ∷ 0 ∷ []) $ fjoin ! $ move ! (1 ∷ 0 ∷ []) $
    closes ! tt Sr h' ts b o $ feq_i ! (List Val) (vptr b o ∷ []) (vptr b o ∷ []) refl $ fjoin3 ! $ nothing ! $ move ! (1 ∷ 0 ∷ []) $ fjoin ! $ move ! (1 ∷ 2 ∷ []) $ join ! $
    sets ! (of_opd ! (unit_lit !)) refl (tt, tt) $ use0 𝓛 (raw (fact 𝓤 Told)) (fact_i 𝓤 Told (emp 𝓤) (refl, refl, refl)) $ feq_i ! (List Val) (vunit ∷ []) (vunit ∷ []) refl $
    returns ! (look_at ! 0 refl) $ free_all ! refl $ keep ! (2 ∷ 3 ∷ 0 ∷ 1 ∷ []) $ by ! (leaves 𝓛 En hs c y vunit tt (h', tt) (tt, tt)))))
