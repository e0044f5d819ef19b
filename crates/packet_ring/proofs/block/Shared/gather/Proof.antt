-- The block's lifetime ends, and what it lent comes back.
use Rattle.atomic_table.proofs.Names.{◌≡◌, ℕ, ◌+◌, ◌*◌, List, [], ◌∷◌, ◌++◌, length, refl, Val, SProp, emp, Fml, ‵, raw, ◌⊛◌, some, given, later, ◌$◌, ◌∵◌, !, qed, by, move, keep, split, fsplit, fjoin, pick, learn, use0, use1, await, stop, fld, of_opd, no_more, and_then, returns, enter, alloc_all, pass_all, free_all, look_at, get, get_in, sets, agg, sub, whole, tables, yes, owns, types_at, plain, Ptr, nothing, alive, Stays, stay_dropped, walk_of, Goes-dropped, fact, fact_i, u64, InBlock, block_of, count_of}
use Rattle.atomic_table.proofs.Walks.{proved, leaves}
use Rattle.atomic_table.specs.Seated.{strip}
use Rattle.packet_ring.specs.Lent.{BlockId, block_owns}
use Rattle.packet_ring.specs.Rule.{view_coded, packet_coded, Holds}
use Rattle.packet_ring.specs.contracts.block.Shared as block
use Rattle.packet_ring.specs.contracts.places.Base as base_of
use Rattle.packet_ring.specs.contracts.places.Places as places
use Rattle.circular_buffer.specs.Ownership.{cells_own}
use Rattle.packet_ring.proofs.Grounds.{cleared, spare}
use Rattle.std.proofs.Common.{None, Option, replicate}
use Rattle.std.proofs.Common.{◌^◌, ◌<◌}
use Rattle.atomic_table.proofs.Names.{use2, fjoin3, fpack, feq_i, fsep, Valss, vstruct, of_list, rewrite}
use Rattle.packet_ring.proofs.Fields.{strip_of, strip_good, Ptr-Good, PlacesData, base_made, places_made, block_told, token_val, pair_of, dealt_good}
use Rattle.packet_ring.proofs.Dealing.{owns_lies, gathers}
use Rattle.packet_ring.specs.contracts.block.Shared.gather as f
use Rattle.packet_ring.proofs.block.Shared.gather.Statement.{statement}
use Rattle.packet_ring.proofs.block.Shared.gather.Code as code

pub gather_spec : {M : Type 1} → statement M
gather_spec 𝓤 𝓛 𝓜 𝓡 wired =
    let H = 𝓛.H in let 𝓣 = tables 𝓤 H 𝓜 𝓡 𝓡.env in let fn = code.function in let c = f.clauses 𝓛 𝓜.mem 𝓡.returns in let En = f.ended in let Row = block.the_row in let Bs = base_of.the_row u64 in let Cr = places.the_row u64 in
    let hs : Stays En.signature.params En.kept = (stay_dropped (plain (λ _. Row)) yes, tt) in
    proved 𝓛 En hs c 𝓜 𝓡 (Goes-dropped 𝓛 0 (plain (λ _. Row)) yes (λ κs x f. refl), tt) f.Key.name fn (code.unfolded 𝓤 H 𝓜 𝓡 wired)
    (λ κs. ((λ x. strip_of x.base ∷ []), tt)) (λ κs. ((λ x vs so. block_told x.base vs so.0), tt)) (λ κs qs bounds a gh are.
    let p : Ptr = a.0.base in let z : BlockId = a.0.id in let Owns : Fml = block_owns view_coded.code packet_coded (Holds z.limits) p z in
    let y : (walk_of 𝓛 En hs c).Ghost = ((κs, qs, bounds, a, (strip_of p ∷ [], tt)), gh) in let Post : Val → SProp 𝓤 = (walk_of 𝓛 En hs c).post y in
    qed 𝓛 ((raw (alive 𝓛 En.signature κs qs) ⊛ ‵ (owns (types_at En.signature.params κs) a y.0.4)) ∷ raw ((c κs a).requires gh) ∷ []) ∵
    split ! $ move ! (1 ∷ []) $ fsplit ! $ fsplit ! $ keep ! (1 ∷ 3 ∷ []) $
    use1 𝓛 (given (InBlock p) (‵ Owns)) (owns_lies 𝓛 view_coded packet_coded (Holds z.limits) p z) $ learn ! (λ at.
    enter ! 𝓣.C 𝓣.Λ fn (strip_of p ∷ []) Post $ alloc_all ! (λ l. pass_all ! refl (strip_good p at, tt) $
    let k : ℕ = z.units * z.room in
    use1 𝓛 (later (some (λ (xs : List ℕ). given ((length xs ≡ z.units * (z.width + 1)) × InBlock p × (length xs * 8 + k * 8 < 2 ^ 63)) (‵ (strip u64 p xs) ⊛ ‵ (spare 𝓛 k (block_of p) (length xs * 8 + count_of p)))))) (gathers 𝓛 view_coded packet_coded (Holds z.limits) p z) $ await ! tt $ pick ! (λ xs. learn ! (λ so. split ! $
    let n : ℕ = z.units * (z.width + 1) + k in let r : Bs.Denot = record { ptr = p } in let r' : Cr.Denot = record { mark = record {}; at = p; slots = replicate n None } in let u : Val = pair_of (strip_of p) token_val in
    let ns : List (Option ℕ) = replicate n None in let Told : Type 0 = (p ≡ p) × (p ≡ p) × (ns ≡ ns) in
    use2 𝓛 (‵ (cells_own u64 p (replicate (length xs + k) None))) (cleared 𝓛 p xs k (so.1, so.2)) $ rewrite ! 0 (λ (l : ℕ). ‵ (cells_own u64 p (replicate (l + k) None))) so.0 refl $
    use0 𝓛 (‵ (PlacesData.own_val (tt, tt) (token_val ∷ []))) (places_made 𝓛) $ fjoin ! $ use0 𝓛 (‵ (Bs.own_val r (strip_of p ∷ []))) (base_made 𝓛 p) $ nothing ! $ move ! (1 ∷ 2 ∷ 0 ∷ []) $ fjoin3 ! $ feq_i ! (List Val) (u ∷ []) (u ∷ []) refl $ fjoin ! $
    fpack ! (Valss (Bs ∷ Cr ∷ [])) (λ vss. fsep (base.Fml.feq (List Val) (u ∷ []) (vstruct (of_list (vss.0 ++ (vss.1.0 ++ []))) ∷ [])) (owns (Bs ∷ Cr ∷ []) (r, (r', tt)) vss)) (strip_of p ∷ [], (token_val ∷ [], tt)) $
    sets ! (of_opd ! (get_in ! (fld ! refl (stop !)) (sub ! 0 refl (whole !)))) refl (Ptr-Good p at) $ sets ! (agg ! (and_then ! (get ! refl) (no_more !))) refl (strip_good p at) $
    sets ! (agg ! (no_more !)) refl (tt, tt) $ sets ! (agg ! (and_then ! (get ! refl) (no_more !))) refl (tt, (tt, tt)) $ sets ! (agg ! (and_then ! (get ! refl) (and_then ! (get ! refl) (no_more !)))) refl (dealt_good p at) $
    use0 𝓛 (raw (fact 𝓤 Told)) (fact_i 𝓤 Told (emp 𝓤) (refl, refl, refl)) $ nothing ! $ nothing ! $ fjoin ! $
    returns ! (look_at ! 0 refl) $ free_all ! refl $ keep ! (3 ∷ 0 ∷ 2 ∷ 1 ∷ []) $ by ! (leaves 𝓛 En hs c y u (r, r') (tt, tt) (tt, tt)))))))
