-- The machine values of a block's owner, of where it begins and of the right to free it. Assumes `Logic`.
use mathlib.Core.Path.{◌≡◌, refl, subst}
use mathlib.Core.List.{List, [], ◌∷◌, ◌++◌}
use seplogic.Ra.Ura.{Ura}
use mir.Val.{Val, vstruct, vcons, vnil, of_list}
use base.Logic.{ent, emp}
use types.Logic.{Logic, sem}
use types.Kit.{Item, Goal, Seq, ‵, ◌$◌, fpick, fsplit, feq_l, drop as skip}
use denote.RattleType.{RattleType}
use denote.Shadow.{makes_shadow}
use denote.Param.Send.{IsSend, Frees, AllSend, owning_send, struct_send, sendable}
use denote.Struct.Struct.{Struct, exits_of}
use denote.Struct.Owning.{shape, fields, to}
use Rattle.core.specs.declared.alloc.Allocator.{Ghosts}
use Rattle.std_alloc.proofs.SendSync.{quiet}
use Rattle.core.proofs.mem.Param.{El, R}
use Rattle.packet_ring.specs.contracts.places.Places as P-type
use Rattle.packet_ring.specs.contracts.places.Base as B-type
use Rattle.packet_ring.specs.contracts.places.Deed as D-type

module _ (E : El) where
  abbrev pub Cr : RattleType
  Cr = P-type.the_row (R E)

  abbrev pub Bs : RattleType
  Bs = B-type.the_row (R E)

  -- the one field of `Places`, which takes no bytes
  abbrev pub Mark : RattleType
  Mark = Struct (shape (P-type.the_type (R E)))

abbrev pub mark : Val
mark = vstruct (vcons (vstruct vnil) vnil)

pub mark_made : (E : El) {M : Type 1} {𝓤 : Ura M} (𝓛 : Logic 𝓤) → ent 𝓤 (emp 𝓤) (sem 𝓛 ((Mark E).own_val (tt, tt) (mark ∷ [])))
mark_made E 𝓛 = makes_shadow 𝓛 ((Mark E).own_val (tt, tt) (mark ∷ [])) (λ vss. (tt, ((λ uss. (tt, tt)), tt))) ((vstruct vnil ∷ [], tt), (refl, ((tt, (refl, tt)), tt)))

module _ {M : Type 1} {𝓤 : Ura M} {𝓛 : Logic 𝓤} {K : Type 0} {Γ : List (Item 𝓤)} {G : Goal 𝓤 𝓛.H} where
  pub mark_had : K → (E : El) (vs : List Val) → (vs ≡ mark ∷ [] → Seq K 𝓛 Γ G) → Seq K 𝓛 (‵ ((Mark E).own_val (tt, tt) vs) ∷ Γ) G
  mark_had t E vs k = fpick t (λ vss. fsplit t $ feq_l t (λ ev. fsplit t $ fpick t (λ uss. fsplit t $ feq_l t (λ e. skip t $ skip t $
      k (subst (λ (ws : List Val). vs ≡ vstruct (of_list (ws ++ [])) ∷ []) e ev)))))

pub Deed-send : (R A : RattleType) (g : Ghosts A.Denot) → Frees g g.dealloc_token → IsSend (D-type.the_row R A g)
Deed-send R A g f =
    let O = D-type.the_type R A g in let all : AllSend (fields O) = (search sendable, tt) in
    owning_send O all (λ d. f.frees d.alloc _ d.at) (λ k. quiet (to O) (exits_of k (fields O)) ((struct_send (shape O) all).leaving k))
