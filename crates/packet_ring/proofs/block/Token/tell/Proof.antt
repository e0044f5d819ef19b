-- `tell` copies what the token has seen.
use Rattle.atomic_table.proofs.Names.{◌≡◌, ℕ, List, [], ◌∷◌, refl, named, Val, vptr, SProp, emp, ftrue, flft, ‵, raw, ◌⊛◌, ◌$◌, ◌∵◌, !, qed, by, move, keep, split, join, fsplit, fsplit3, fjoin, fjoin3, use0, use1, feq_i, no_more, and_then, returns, enter, alloc_all, pass_all, free_all, look_at, get, sets, agg, tables, owns, types_at, plain, nothing, Stays, walk_of, fact, fact_i, mut_vals, mut_Tells, opens, closes, stay_ref, Goes-ref}
use Rattle.atomic_table.proofs.Walks.{proved, leaves}
use Rattle.packet_ring.specs.Lent.{BlockId, mine, reached}
use Rattle.packet_ring.specs.Rule.{Knows, view_coded, packet_coded}
use Rattle.packet_ring.specs.contracts.block.Token as token
use Rattle.packet_ring.specs.contracts.reached.Reached as told
use Rattle.packet_ring.proofs.Fields.{token_val}
use Rattle.packet_ring.proofs.Telling.{ToldData, told_made, tells}
use Rattle.packet_ring.specs.contracts.block.Token.tell as f
use Rattle.packet_ring.proofs.block.Token.tell.Statement.{statement}
use Rattle.packet_ring.proofs.block.Token.tell.Code as code

pub tell_spec : {M : Type 1} → statement M
tell_spec 𝓤 𝓛 𝓜 𝓡 wired =
    let H = 𝓛.H in let 𝓣 = tables 𝓤 H 𝓜 𝓡 𝓡.env in let En = f.ended in let fn = code.function in let Sr = token.the_row in let Tr = told.the_row in let sitter = plain (λ _. Sr) in
    let hs : Stays En.signature.params En.kept = (stay_ref (0 ∷ []) tt sitter, tt) in let c = f.clauses 𝓛 𝓜.mem 𝓡.returns in
    proved 𝓛 En hs c 𝓜 𝓡 (Goes-ref 𝓛 1 0 tt sitter, tt) f.Key.name fn (code.unfolded 𝓤 H 𝓜 𝓡 wired)
    (λ κs. (mut_vals, tt)) (λ κs. (mut_Tells (named 0) κs.0 Sr, tt)) (λ κs qs bounds a gh are.
    let b : ℕ = a.0.ref_ptr.0 in let o : ℕ = a.0.ref_ptr.1 in let h : Sr.Denot = a.0.now in let z : BlockId = h.id in let id : ℕ = h.number in let v : Knows = h.me in
    let t : Tr.Denot = record { marker = record {}; id = z; log = v.seen } in let Told : Type 0 = (h ≡ h) × (z ≡ z) × (v.seen ≡ v.seen) in
    let y : (walk_of 𝓛 En hs c).Ghost = ((κs, qs, bounds, a, (vptr b o ∷ [], tt)), gh) in let Post : Val → SProp 𝓤 = (walk_of 𝓛 En hs c).post y in
    qed 𝓛 (((‵ (flft κs.0 qs.0) ⊛ ‵ ftrue) ⊛ ‵ (owns (types_at En.signature.params κs) a y.0.4)) ∷ raw ((c κs a).requires gh) ∷ []) ∵
    split ! $ split ! $ move ! (2 ∷ []) $ fsplit ! $ fsplit3 ! $ keep ! (1 ∷ 2 ∷ 4 ∷ 5 ∷ []) $
    enter ! 𝓣.C 𝓣.Λ fn (vptr b o ∷ []) Post $ alloc_all ! (λ l. pass_all ! refl ((tt, tt), tt) $
    opens ! tt Sr b o (λ ts. move ! (1 ∷ []) $ fsplit ! $ move ! (1 ∷ []) $ use1 𝓛 (‵ (mine view_coded.code packet_coded z id v) ⊛ ‵ (reached packet_coded z v.seen)) (tells 𝓛 view_coded packet_coded z id v) $ split ! $ move ! (2 ∷ 0 ∷ []) $ fjoin ! $ move ! (2 ∷ 0 ∷ 3 ∷ 4 ∷ 5 ∷ []) $
    closes ! tt Sr h ts b o $ feq_i ! (List Val) (vptr b o ∷ []) (vptr b o ∷ []) refl $ fjoin3 ! $ nothing ! $ move ! (1 ∷ 0 ∷ []) $ fjoin ! $ move ! (1 ∷ 3 ∷ []) $ join ! $
    use0 𝓛 (‵ (ToldData.own_val (tt, tt) (token_val ∷ []))) (told_made 𝓛) $ move ! (0 ∷ 3 ∷ []) $ fjoin ! $
    sets ! (agg ! (no_more !)) refl (tt, tt) $ sets ! (agg ! (and_then ! (get ! refl) (no_more !))) refl (tt, (tt, tt)) $ use0 𝓛 (raw (fact 𝓤 Told)) (fact_i 𝓤 Told (emp 𝓤) (refl, refl, refl)) $
    returns ! (look_at ! 0 refl) $ free_all ! refl $ keep ! (2 ∷ 3 ∷ 1 ∷ 0 ∷ []) $ by ! (leaves 𝓛 En hs c y token_val t (h, tt) (tt, tt)))))
