-- The first of the tokens that wait is handed out.
use Rattle.atomic_table.proofs.Names.{◌≡◌, suc, ◌+◌, List, [], ◌∷◌, ◌++◌, refl, arith, Val, vstruct, SProp, emp, Fml, ftrue, fsep, ‵, raw, ◌⊛◌, given, ◌$◌, ◌∵◌, !, qed, by, move, keep, drop, split, join, fsplit, fjoin, fjoin3, fpack, learn, use0, rewrite, feq_i, no_more, and_then, returns, enter, alloc_all, pass_all, free_all, look_at, get, sets, agg, tables, yes, owns, Valss, types_at, plain, nothing, alive, Stays, stay_dropped, walk_of, Goes-dropped, fact, fact_i, of_list}
use Rattle.atomic_table.proofs.Walks.{proved, leaves}
use Rattle.packet_ring.specs.Table.{no_right}
use Rattle.packet_ring.specs.Lent.{mine, waiting}
use Rattle.packet_ring.specs.Rule.{Knows, View, view_coded, packet_coded}
use Rattle.packet_ring.specs.contracts.block.Token as token
use Rattle.packet_ring.specs.contracts.block.Spares as spares
use Rattle.packet_ring.proofs.Fields.{token_val, TokenData, token_made, SparesData, spares_told, spares_made, pair_of, tokens_good}
use Rattle.packet_ring.specs.contracts.block.Spares.take as f
use Rattle.packet_ring.proofs.block.Spares.take.Statement.{statement}
use Rattle.packet_ring.proofs.block.Spares.take.Code as code

pub take_spec : {M : Type 1} → statement M
take_spec 𝓤 𝓛 𝓜 𝓡 wired =
    let H = 𝓛.H in let 𝓣 = tables 𝓤 H 𝓜 𝓡 𝓡.env in let fn = code.function in let c = f.clauses 𝓛 𝓜.mem 𝓡.returns in let En = f.ended in let Tr = token.the_row in let Sr = spares.the_row in
    let hs : Stays En.signature.params En.kept = (stay_dropped (plain (λ _. Sr)) yes, tt) in
    proved 𝓛 En hs c 𝓜 𝓡 (Goes-dropped 𝓛 0 (plain (λ _. Sr)) yes (λ κs x f. refl), tt) f.Key.name fn (code.unfolded 𝓤 H 𝓜 𝓡 wired)
    (λ κs. ((λ x. token_val ∷ []), tt)) (λ κs. ((λ x vs so. spares_told vs so.0), tt)) (λ κs qs bounds a gh are.
    let h : Sr.Denot = a.0 in let u : Val = pair_of token_val token_val in
    let y : (walk_of 𝓛 En hs c).Ghost = ((κs, qs, bounds, a, (token_val ∷ [], tt)), gh) in let Post : Val → SProp 𝓤 = (walk_of 𝓛 En hs c).post y in
    qed 𝓛 ((raw (alive 𝓛 En.signature κs qs) ⊛ ‵ (owns (types_at En.signature.params κs) a y.0.4)) ∷ given ((v : View) × (vs : List View) × (h.views ≡ v ∷ vs)) (‵ ftrue) ∷ []) ∵
    move ! (1 ∷ []) $ learn ! (λ asked. drop ! $ let v : View = asked.0 in let vs : List View = asked.1 in split ! $ move ! (1 ∷ []) $ fsplit ! $ fsplit ! $ keep ! (1 ∷ 3 ∷ []) $
    let me : Knows = record { view = v; right = no_right; seen = [] } in let Mine : Fml = mine view_coded.code packet_coded h.id h.next me in let Rest : Fml = waiting view_coded.code packet_coded h.id (suc h.next) vs in
    rewrite ! 0 (λ (ws : List View). ‵ (waiting view_coded.code packet_coded h.id h.next ws)) asked.2 refl $ fsplit ! $
    let t : Tr.Denot = record { marker = record {}; id = h.id; number = h.next; me = me } in let r : Sr.Denot = record { marker = record {}; id = h.id; next = suc h.next; views = vs } in
    let A₁ : Type 0 = (h.id ≡ h.id) × (h.next ≡ h.next) × (no_right ≡ no_right) × (me.seen ≡ []) in let A₂ : Type 0 = (h.id ≡ h.id) × (suc h.next ≡ h.next + 1) × (h.views ≡ v ∷ vs) in
    enter ! 𝓣.C 𝓣.Λ fn (token_val ∷ []) Post $ alloc_all ! (λ l. pass_all ! refl ((tt, (tt, tt)), tt) $
    use0 𝓛 (‵ (TokenData.own_val (tt, tt) (token_val ∷ []))) (token_made 𝓛) $ fjoin ! $ move ! (1 ∷ []) $
    use0 𝓛 (‵ (SparesData.own_val (tt, tt) (token_val ∷ []))) (spares_made 𝓛) $ fjoin ! $ nothing ! $ move ! (2 ∷ 1 ∷ 0 ∷ []) $ fjoin3 ! $ feq_i ! (List Val) (u ∷ []) (u ∷ []) refl $ fjoin ! $
    fpack ! (Valss (Tr ∷ Sr ∷ [])) (λ vss. fsep (base.Fml.feq (List Val) (u ∷ []) (vstruct (of_list (vss.0 ++ (vss.1.0 ++ []))) ∷ [])) (owns (Tr ∷ Sr ∷ []) (t, (r, tt)) vss)) (token_val ∷ [], (token_val ∷ [], tt)) $
    sets ! (agg ! (no_more !)) refl (tt, tt) $ sets ! (agg ! (and_then ! (get ! refl) (no_more !))) refl (tt, (tt, tt)) $ sets ! (agg ! (no_more !)) refl (tt, tt) $ sets ! (agg ! (and_then ! (get ! refl) (no_more !))) refl (tt, (tt, tt)) $
    sets ! (agg ! (and_then ! (get ! refl) (and_then ! (get ! refl) (no_more !)))) refl tokens_good $
    use0 𝓛 (raw (fact 𝓤 A₂)) (fact_i 𝓤 A₂ (emp 𝓤) (refl, (let r : suc h.next ≡ h.next + 1 = omega arith in r), asked.2)) $ use0 𝓛 (raw (fact 𝓤 A₁)) (fact_i 𝓤 A₁ (emp 𝓤) (refl, refl, refl, refl)) $ join ! $
    nothing ! $ nothing ! $ fjoin ! $ returns ! (look_at ! 0 refl) $ free_all ! refl $ keep ! (3 ∷ 0 ∷ 2 ∷ 1 ∷ []) $ by ! (leaves 𝓛 En hs c y u (t, r) (tt, tt) (tt, tt)))))
