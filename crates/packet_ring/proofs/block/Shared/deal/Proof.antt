-- The filled places go under the block's invariant, and the block's tokens are made.
use Rattle.atomic_table.proofs.Names.{sym, ◌≡◌, ℕ, ◌+◌, ◌*◌, ◌^◌, ◌<◌, ◌≤◌, List, [], ◌∷◌, ◌++◌, length, refl, ◌∙◌, w64, Val, vint, vstruct, SProp, emp, ftrue, fsep, ‵, raw, ◌⊛◌, some, given, later, ◌$◌, ◌∵◌, !, qed, by, move, keep, drop, split, join, fsplit, fjoin, fjoin3, fpack, pick, learn, use0, use1, await, rewrite, feq_i, stop, fld, of_opd, no_more, and_then, returns, enter, alloc_all, pass_all, free_all, look_at, get, get_in, sets, agg, sub, whole, tables, yes, owns, Valss, types_at, plain, Ptr, nothing, alive, Stays, stay_dropped, walk_of, Goes-dropped, fact, fact_i, usize, u64, uint_vals, uint_Tells, of_list, InBlock, length-replicate}
use Rattle.atomic_table.proofs.Walks.{proved, leaves}
use Rattle.atomic_table.specs.Seated.{strip}
use mathlib.Core.Logic.{inl}
use Rattle.ring_steps.specs.Ring.{new_publisher}
use Rattle.packet_ring.specs.Table.{flat}
use Rattle.packet_ring.specs.Lent.{BlockId, block_owns, waiting}
use Rattle.packet_ring.specs.Rule.{View, view_coded, packet_coded, Holds, fresh_units, fresh_views}
use Rattle.packet_ring.specs.contracts.block.Shared as block
use Rattle.packet_ring.specs.contracts.block.Spares as spares
use Rattle.packet_ring.specs.contracts.places.Base as base_of
use Rattle.packet_ring.specs.contracts.places.Places as places
use Rattle.circular_buffer.specs.Ownership.{cells_own}
use Rattle.packet_ring.proofs.Grounds.{stripped, front, spare}
use Rattle.std.proofs.Common.{Option, ap, subst}
use Rattle.atomic_table.proofs.Names.{block_of, count_of, use2}
use Rattle.packet_ring.proofs.Fields.{strip_of, strip_good, Ptr-Good, base_told, places_told, BlockData, block_made, token_val, SparesData, spares_made, pair_of, dealt_good}
use Rattle.packet_ring.proofs.Dealing.{deals}
use Rattle.packet_ring.proofs.Rule.{fresh_holds, fresh_wide, fresh_count}
use Rattle.packet_ring.specs.contracts.block.Shared.deal as f
use Rattle.packet_ring.proofs.block.Shared.deal.Statement.{statement}
use Rattle.packet_ring.proofs.block.Shared.deal.Code as code

pub deal_spec : {M : Type 1} → statement M
deal_spec 𝓤 𝓛 𝓜 𝓡 wired =
    let H = 𝓛.H in let 𝓣 = tables 𝓤 H 𝓜 𝓡 𝓡.env in let fn = code.function in let cl = f.clauses 𝓛 𝓜.mem 𝓡.returns in let En = f.ended in let Row = block.the_row in let Sr = spares.the_row in let Bs = base_of.the_row u64 in let Cr = places.the_row u64 in
    let number = Goes-dropped 𝓛 0 (plain (λ _. usize)) yes (λ κs x f. refl) in
    let hs : Stays En.signature.params En.kept = (stay_dropped (plain (λ _. Bs)) yes, (stay_dropped (plain (λ _. Cr)) yes, (stay_dropped (plain (λ _. usize)) yes, (stay_dropped (plain (λ _. usize)) yes, (stay_dropped (plain (λ _. usize)) yes, (stay_dropped (plain (λ _. usize)) yes, (stay_dropped (plain (λ _. usize)) yes, tt))))))) in
    proved 𝓛 En hs cl 𝓜 𝓡 (Goes-dropped 𝓛 0 (plain (λ _. Bs)) yes (λ κs x f. refl), (Goes-dropped 𝓛 0 (plain (λ _. Cr)) yes (λ κs x f. refl), (number, (number, (number, (number, (number, tt))))))) f.Key.name fn (code.unfolded 𝓤 H 𝓜 𝓡 wired)
    (λ κs. ((λ x. strip_of x.ptr ∷ []), ((λ x. token_val ∷ []), (uint_vals w64, (uint_vals w64, (uint_vals w64, (uint_vals w64, (uint_vals w64, tt)))))))) (λ κs. ((λ x vs so. base_told x.ptr vs so), ((λ x vs so. places_told vs so.0), (uint_Tells w64, (uint_Tells w64, (uint_Tells w64, (uint_Tells w64, (uint_Tells w64, tt)))))))) (λ κs qs bounds a gh are.
    let p : Ptr = a.0.ptr in let c : Cr.Denot = a.1.0 in let keep' : ℕ = a.1.1.0 in let seats : ℕ = a.1.1.1.0 in let w : ℕ = a.1.1.1.1.0 in let room : ℕ = a.1.1.1.1.1.0 in let most : ℕ = a.1.1.1.1.1.1.0 in let m : ℕ = (keep' + 2) * room in let us : List (ℕ × List ℕ) = fresh_units keep' w in let vs : List View = fresh_views seats in let u : Val = pair_of (strip_of p) token_val in
    let y : (walk_of 𝓛 En hs cl).Ghost = ((κs, qs, bounds, a, (strip_of p ∷ [], (token_val ∷ [], (vint w64 keep' ∷ [], (vint w64 seats ∷ [], (vint w64 w ∷ [], (vint w64 room ∷ [], (vint w64 most ∷ [], tt)))))))), gh) in let Post : Val → SProp 𝓤 = (walk_of 𝓛 En hs cl).post y in
    qed 𝓛 ((raw (alive 𝓛 En.signature κs qs) ⊛ ‵ (owns (types_at En.signature.params κs) a y.0.4)) ∷ given ((1 ≤ keep') × (seats ≤ 1024)) (‵ ftrue) ∷ given ((c.at ≡ p) × (c.slots ≡ front (flat us) m)) (‵ ftrue) ∷ []) ∵
    move ! (1 ∷ []) $ learn ! (λ sizes. drop ! $ move ! (1 ∷ []) $ learn ! (λ zeros. drop ! $ split ! $ move ! (1 ∷ []) $ fsplit ! $ move ! (1 ∷ []) $ fsplit ! $ fsplit ! $ keep ! (1 ∷ 4 ∷ []) $
    rewrite ! 0 (λ (u : Ptr × List (Option ℕ)). ‵ (cells_own u64 u.0 u.1)) (λ i. (zeros.0 i, zeros.1 i)) refl $ use1 𝓛 (given (InBlock p × (length (flat us) * 8 + m * 8 < 2 ^ 63)) (‵ (strip u64 p (flat us)) ⊛ ‵ (spare 𝓛 m (block_of p) (length (flat us) * 8 + count_of p)))) (stripped 𝓛 p (flat us) m) $ learn ! (λ fp. split ! $
    let all : length us ≡ keep' + 2 = fresh_count keep' w in let most_of : m ≡ length us * room = ap (λ (n : ℕ). n * room) (sym all) in move ! (1 ∷ 0 ∷ []) $ rewrite ! 0 (λ (n : ℕ). ‵ (spare 𝓛 n (block_of p) (length (flat us) * 8 + count_of p))) most_of refl $ move ! (1 ∷ 0 ∷ []) $
    enter ! 𝓣.C 𝓣.Λ fn (strip_of p ∷ token_val ∷ vint w64 keep' ∷ vint w64 seats ∷ vint w64 w ∷ vint w64 room ∷ vint w64 most ∷ []) Post $ alloc_all ! (λ l. pass_all ! refl (strip_good p fp.0, ((tt, (tt, tt)), ((tt, record { fits = are.1.1.0.1 }), ((tt, record { fits = are.1.1.1.0.1 }), ((tt, record { fits = are.1.1.1.1.0.1 }), ((tt, record { fits = are.1.1.1.1.1.0.1 }), ((tt, record { fits = are.1.1.1.1.1.1.0.1 }), tt))))))) $
    use2 𝓛 (later (some (λ (z : BlockId). given ((z.units ≡ length us) × (z.width ≡ w) × (z.room ≡ room) × InBlock p × (z.limits ≡ (seats, most))) (‵ (block_owns view_coded.code packet_coded (Holds (seats, most)) p z) ⊛ ‵ (waiting view_coded.code packet_coded z 0 vs)))))
    (deals 𝓛 view_coded packet_coded (Holds (seats, most)) p w room (seats, most) us vs (inl ([], new_publisher)) (length-replicate w 0, fresh_wide w (keep' + 1)) (fresh_holds keep' seats w most sizes.0 sizes.1) (subst (λ (n : ℕ). length (flat us) * 8 + n * 8 < 2 ^ 63) most_of fp.1)) $ await ! tt $ pick ! (λ z. learn ! (λ so. split ! $ rewrite ! 0 (λ (L : ℕ × ℕ). ‵ (block_owns view_coded.code packet_coded (Holds L) p z)) (sym so.4) refl $
    let t : Row.Denot = record { base = p; id = z } in let r : Sr.Denot = record { marker = record {}; id = z; next = 0; views = vs } in
    let many : z.units ≡ keep' + 2 = so.0 ∙ all in
    let A₁ : Type 0 = (p ≡ p) × (z.units ≡ keep' + 2) × (z.width ≡ w) × (z.room ≡ room) × (z.limits ≡ (seats, most)) in let A₂ : Type 0 = (z ≡ z) × (0 ≡ 0) × (vs ≡ vs) in
    use0 𝓛 (‵ (BlockData.own_val (p, tt) (strip_of p ∷ []))) (block_made 𝓛 p) $ fjoin ! $ move ! (1 ∷ []) $
    use0 𝓛 (‵ (SparesData.own_val (tt, tt) (token_val ∷ []))) (spares_made 𝓛) $ fjoin ! $ nothing ! $ move ! (2 ∷ 1 ∷ 0 ∷ []) $ fjoin3 ! $ feq_i ! (List Val) (u ∷ []) (u ∷ []) refl $ fjoin ! $
    fpack ! (Valss (Row ∷ Sr ∷ [])) (λ vss. fsep (base.Fml.feq (List Val) (u ∷ []) (vstruct (of_list (vss.0 ++ (vss.1.0 ++ []))) ∷ [])) (owns (Row ∷ Sr ∷ []) (t, (r, tt)) vss)) (strip_of p ∷ [], (token_val ∷ [], tt)) $
    sets ! (of_opd ! (get_in ! (fld ! refl (stop !)) (sub ! 0 refl (whole !)))) refl (Ptr-Good p fp.0) $
    sets ! (agg ! (and_then ! (get ! refl) (no_more !))) refl (strip_good p fp.0) $ sets ! (agg ! (no_more !)) refl (tt, tt) $ sets ! (agg ! (and_then ! (get ! refl) (no_more !))) refl (tt, (tt, tt)) $
    sets ! (agg ! (and_then ! (get ! refl) (and_then ! (get ! refl) (no_more !)))) refl (dealt_good p fp.0) $
    use0 𝓛 (raw (fact 𝓤 A₂)) (fact_i 𝓤 A₂ (emp 𝓤) (refl, refl, refl)) $ use0 𝓛 (raw (fact 𝓤 A₁)) (fact_i 𝓤 A₁ (emp 𝓤) (refl, many, so.1, so.2, so.4)) $ join ! $
    nothing ! $ nothing ! $ fjoin ! $ nothing ! $ fjoin ! $ nothing ! $ fjoin ! $ nothing ! $ fjoin ! $ nothing ! $ fjoin ! $ nothing ! $ fjoin ! $ nothing ! $ fjoin ! $ returns ! (look_at ! 0 refl) $ free_all ! refl $ keep ! (3 ∷ 0 ∷ 2 ∷ 1 ∷ []) $ by ! (leaves 𝓛 En hs cl y u (t, r) (tt, (tt, (tt, (tt, (tt, (tt, (tt, tt))))))) (tt, (tt, (tt, (tt, (tt, (tt, (tt, tt)))))))))))))))
