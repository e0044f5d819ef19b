-- The data fields of a block, of its tokens, and of where it begins. Assumes `Logic`.
use Rattle.std.proofs.Common.{◌≡◌, T, List, [], ◌∷◌, ◌++◌, refl, ap, ◌∙◌}
use seplogic.Ra.Ura.{Ura}
use mir.Syntax.{Ty, ty_ptr, ty_struct, tcons, tnil}
use mir.Val.{Val, vstruct, vcons, vnil, of_list, has_ty, WT}
use base.Logic.{ent, emp}
use types.Logic.{Logic, sem}
use denote.RattleType.{RattleType}
use denote.Builtin.{u64}
use denote.Laws.{Is}
use denote.RawPtr.{Ptr, block_ptr, null_ptr, ptr_val, InBlock}
use denote.Shadow.{makes_shadow}
use denote.Opens.{Opens}
use denote.Copied.{Struct-Copied}
use denote.Struct.Laws.{RawPtr-copy}
use denote.Struct.Struct.{Struct}
use denote.Struct.Owning.{shape}
use Rattle.packet_ring.specs.contracts.block.Shared as block
use Rattle.packet_ring.specs.contracts.block.Token as token
use Rattle.packet_ring.specs.contracts.block.Spares as spares
use Rattle.packet_ring.specs.contracts.places.Base as base_of
use Rattle.packet_ring.specs.contracts.places.Places as places

abbrev pub strip_of : Ptr → Val
strip_of p = vstruct (vcons (ptr_val p) vnil)

abbrev strip_ty : Ty
strip_ty = ty_struct [] (tcons ty_ptr tnil)

pub strip_good : (p : Ptr) → InBlock p → T (has_ty strip_ty (strip_of p)) × WT (strip_of p)
strip_good (block_ptr b o) i = (tt, (tt, tt))
strip_good null_ptr i = absurd i

-- where a block begins is its pointer alone
pub base_told : (p : Ptr) (vs : List Val) → Is (base_of.the_row u64) (record { ptr = p }) vs → vs ≡ strip_of p ∷ []
base_told p vs is = is.1.0 ∙ ap (λ (ws : List Val). vstruct (of_list (ws ++ [])) ∷ []) is.1.1.0

pub base_made : {M : Type 1} {𝓤 : Ura M} (𝓛 : Logic 𝓤) (p : Ptr) → ent 𝓤 (emp 𝓤) (sem 𝓛 ((base_of.the_row u64).own_val (record { ptr = p }) (strip_of p ∷ [])))
base_made 𝓛 p = makes_shadow 𝓛 ((base_of.the_row u64).own_val (record { ptr = p }) (strip_of p ∷ [])) (λ vss. (tt, (tt, tt))) ((ptr_val p ∷ [], tt), (refl, (refl, tt)))

pub Ptr-Good : (p : Ptr) → InBlock p → T (has_ty ty_ptr (ptr_val p)) × WT (ptr_val p)
Ptr-Good (block_ptr b o) i = (tt, tt)
Ptr-Good null_ptr i = absurd i

-- a block's one field is its pointer
abbrev pub BlockData : RattleType
BlockData = Struct (shape block.the_type)

pub block_told : (p : Ptr) (vs : List Val) → Is BlockData (p, tt) vs → vs ≡ strip_of p ∷ []
block_told p vs is = is.1.0 ∙ ap (λ (ws : List Val). vstruct (of_list (ws ++ [])) ∷ []) is.1.1.0

pub block_made : {M : Type 1} {𝓤 : Ura M} (𝓛 : Logic 𝓤) (p : Ptr) → ent 𝓤 (emp 𝓤) (sem 𝓛 (BlockData.own_val (p, tt) (strip_of p ∷ [])))
block_made 𝓛 p = makes_shadow 𝓛 (BlockData.own_val (p, tt) (strip_of p ∷ [])) (λ vss. (tt, (tt, tt))) ((ptr_val p ∷ [], tt), (refl, (refl, tt)))

-- a token has no bytes
abbrev pub token_val : Val
token_val = vstruct (vcons (vstruct vnil) vnil)

abbrev pub TokenData : RattleType
TokenData = Struct (shape token.the_type)

pub token_told : (vs : List Val) → Is TokenData (tt, tt) vs → vs ≡ token_val ∷ []
token_told vs is = is.1.0 ∙ ap (λ (ws : List Val). vstruct (of_list (ws ++ [])) ∷ []) is.1.1.0.1.0

pub token_made : {M : Type 1} {𝓤 : Ura M} (𝓛 : Logic 𝓤) → ent 𝓤 (emp 𝓤) (sem 𝓛 (TokenData.own_val (tt, tt) (token_val ∷ [])))
token_made 𝓛 = makes_shadow 𝓛 (TokenData.own_val (tt, tt) (token_val ∷ [])) (λ vss. (tt, ((λ uss. (tt, tt)), tt))) ((vstruct vnil ∷ [], tt), (refl, ((tt, (refl, tt)), tt)))

abbrev pub SparesData : RattleType
SparesData = Struct (shape spares.the_type)

pub spares_told : (vs : List Val) → Is SparesData (tt, tt) vs → vs ≡ token_val ∷ []
spares_told vs is = is.1.0 ∙ ap (λ (ws : List Val). vstruct (of_list (ws ++ [])) ∷ []) is.1.1.0.1.0

pub spares_made : {M : Type 1} {𝓤 : Ura M} (𝓛 : Logic 𝓤) → ent 𝓤 (emp 𝓤) (sem 𝓛 (SparesData.own_val (tt, tt) (token_val ∷ [])))
spares_made 𝓛 = makes_shadow 𝓛 (SparesData.own_val (tt, tt) (token_val ∷ [])) (λ vss. (tt, ((λ uss. (tt, tt)), tt))) ((vstruct vnil ∷ [], tt), (refl, ((tt, (refl, tt)), tt)))

abbrev pub pair_of : Val → Val → Val
pair_of u v = vstruct (vcons u (vcons v vnil))

pub dealt_good : (p : Ptr) → InBlock p → T (has_ty (ty_struct [] (tcons strip_ty (tcons (ty_struct [] (tcons (ty_struct [] tnil) tnil)) tnil))) (pair_of (strip_of p) token_val)) × WT (pair_of (strip_of p) token_val)
dealt_good (block_ptr b o) i = (tt, ((tt, tt), ((tt, tt), tt)))
dealt_good null_ptr i = absurd i

pub tokens_good : T (has_ty (ty_struct [] (tcons (ty_struct [] (tcons (ty_struct [] tnil) tnil)) (tcons (ty_struct [] (tcons (ty_struct [] tnil) tnil)) tnil))) (pair_of token_val token_val)) × WT (pair_of token_val token_val)
tokens_good = (tt, ((tt, tt), ((tt, tt), tt)))

pub block_opens : {M : Type 1} {𝓤 : Ura M} (𝓛 : Logic 𝓤) → Opens 𝓛 BlockData
block_opens {M} {𝓤 = 𝓤} 𝓛 = (Struct-Copied 𝓛 (shape block.the_type) (refl, tt) (RawPtr-copy.copied M 𝓤 𝓛, tt)).opens

-- and so has the owner of its places
abbrev pub PlacesData : RattleType
PlacesData = Struct (shape (places.the_type u64))

pub places_told : (vs : List Val) → Is PlacesData (tt, tt) vs → vs ≡ token_val ∷ []
places_told vs is = is.1.0 ∙ ap (λ (ws : List Val). vstruct (of_list (ws ++ [])) ∷ []) is.1.1.0.1.0

pub places_made : {M : Type 1} {𝓤 : Ura M} (𝓛 : Logic 𝓤) → ent 𝓤 (emp 𝓤) (sem 𝓛 (PlacesData.own_val (tt, tt) (token_val ∷ [])))
places_made 𝓛 = makes_shadow 𝓛 (PlacesData.own_val (tt, tt) (token_val ∷ [])) (λ vss. (tt, ((λ uss. (tt, tt)), tt))) ((vstruct vnil ∷ [], tt), (refl, ((tt, (refl, tt)), tt)))
