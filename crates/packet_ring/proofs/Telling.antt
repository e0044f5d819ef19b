-- What a token has seen can be told, and learned by another. Assumes `Logic`.
use Rattle.std.proofs.Common.{ℕ, List, [], ◌∷◌, refl}
use mathlib.Core.List.{IsPrefix}
use seplogic.Ra.Ura.{Ura}
use mir.Val.{vstruct, vnil}
use base.Stored.{Coded}
use base.Logic.{SProp, ent, sep, ex, guard, emp, wand, apply∗}
use base.Fml.{Lft, Fml, fbor}
use base.Growing.{Order, Least, prefixes, at_least}
use base.Shift.{Keyless}
use types.Growing.{at_least_dup, at_least_join}
use types.Logic.{Logic, sem, lfts}
use types.Kit.{‵, raw, ◌⊛◌, some, given, later, ◌$◌, ◌∵◌, !, qed, move, drop, split, fsplit3, fjoin3, pick, learn, show, check, use1, use2, updating, await, now, done}
use denote.RattleType.{RattleType}
use denote.Shadow.{makes_shadow}
use denote.Sharing.{said}
use denote.Struct.Struct.{Struct}
use denote.Struct.Owning.{shape}
use denote.Struct.Lending.{Lends}
use Rattle.packet_ring.specs.Table.{Me}
use Rattle.packet_ring.specs.Lent.{BlockId, mine, reached}
use Rattle.packet_ring.specs.contracts.reached.Reached as told
use Rattle.packet_ring.proofs.Fields.{token_val}

-- it has no bytes
abbrev pub ToldData : RattleType
ToldData = Struct (shape told.the_type)

pub told_made : {M : Type 1} {𝓤 : Ura M} (𝓛 : Logic 𝓤) → ent 𝓤 (emp 𝓤) (sem 𝓛 (ToldData.own_val (tt, tt) (token_val ∷ [])))
told_made 𝓛 = makes_shadow 𝓛 (ToldData.own_val (tt, tt) (token_val ∷ [])) (λ vss. (tt, ((λ uss. (tt, tt)), tt))) ((vstruct vnil ∷ [], tt), (refl, ((tt, (refl, tt)), tt)))

pub reached_keyless : {E : Type 0} (ce : Coded E) (z : BlockId) (l : List E) → Keyless (reached ce z l)
unfolding at_least
reached_keyless ce z l = tt

module _ {M : Type 1} {𝓤 : Ura M} (𝓛 : Logic 𝓤) where
  -- what can be had twice may be shared
  pub lends_twice : (P : Fml) → ent 𝓤 (sem 𝓛 P) (sep 𝓤 (sem 𝓛 P) (sem 𝓛 P)) → (l : Lft) → Lends 𝓛 P (said P) l
  lends_twice P twice l κ ts inc sp = let Back = 𝓛.H.⇛ (sep 𝓤 (𝓛.A.bor κ P) (lfts 𝓛 ts)) in
      qed 𝓛 (‵ (fbor κ P) ∷ raw (lfts 𝓛 ts) ∷ []) ∵ updating ! $ use2 𝓛 (later (‵ P ⊛ raw (wand 𝓤 (sem 𝓛 P) Back))) (𝓛.more.bor_acc_by κ ts P sp) $ await ! tt $ split ! $ use1 𝓛 (‵ P ⊛ ‵ P) twice $ split ! $ move ! (0 ∷ 2 ∷ []) $
      use2 𝓛 (later (‵ (fbor κ P) ⊛ raw (lfts 𝓛 ts))) (apply∗ 𝓤 (sem 𝓛 P) Back) $ await ! tt $ split ! $ drop ! $ move ! (1 ∷ 0 ∷ []) $ now ! $ done !

  module _ {V E : Type 0} (cv : Coded V) (ce : Coded E) (z : BlockId) where
    abbrev past : List E → Fml
    past l = reached ce z l

    pub reached_twice : (l : List E) → ent 𝓤 (sem 𝓛 (past l)) (sep 𝓤 (sem 𝓛 (past l)) (sem 𝓛 (past l)))
    reached_twice l = at_least_dup (prefixes ce) 𝓛 z.log_name l

    abbrev sat : ℕ → Me V E → Fml
    sat id me = mine cv.code ce z id me

    pub tells : (id : ℕ) (me : Me V E) → ent 𝓤 (sem 𝓛 (sat id me)) (sep 𝓤 (sem 𝓛 (sat id me)) (sem 𝓛 (past me.seen)))
    tells id me = qed 𝓛 (‵ (sat id me) ∷ []) ∵ fsplit3 ! $ move ! (1 ∷ []) $ use1 𝓛 (‵ (past me.seen) ⊛ ‵ (past me.seen)) (reached_twice me.seen) $ split ! $ move ! (2 ∷ 0 ∷ 3 ∷ []) $ fjoin3 ! $ done !

    abbrev pub Learned : (id : ℕ) → Me V E → List E → List E → SProp 𝓤
    Learned id me l all = guard 𝓤 (IsPrefix me.seen all × IsPrefix l all) (sem 𝓛 (sat id (record me { seen = all })))

    pub learns : (id : ℕ) (me : Me V E) (l : List E) → ent 𝓤 (sep 𝓤 (sem 𝓛 (sat id me)) (sem 𝓛 (past l))) (ex 𝓤 (Learned id me l))
    learns id me l = let O : Order (List E) = prefixes ce in qed 𝓛 (‵ (sat id me) ∷ ‵ (past l) ∷ []) ∵ fsplit3 ! $ move ! (1 ∷ 3 ∷ []) $
        use2 𝓛 (some (λ (all : List E). given (Least O.le me.seen l all) (‵ (past all)))) (at_least_join O 𝓛 z.log_name me.seen l) $ pick ! (λ all. learn ! (λ least.
        show ! (Learned id me l) all $ check ! (least.0, least.1) $ move ! (1 ∷ 0 ∷ 2 ∷ []) $ fjoin3 ! $ done !))
