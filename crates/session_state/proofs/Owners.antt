-- In a legal history a connection owns at most one mount that lives.
use Rattle.std.proofs.Common.{◌≡◌, ℕ, ◌+◌, true, false, [], ◌∷◌, ◌++◌, ◌⊎◌, inl, inr, ap, sym, subst, ◌∙◌}
use Rattle.std.specs.List.{AllByRecursion}
use Rattle.session_state.specs.declared.entry.Entry.{Entry}
use Rattle.session_state.specs.declared.entry.Entry.TheVariants.{Connect, Request, HangUp, Back, Expire}
use Rattle.session_state.specs.Methods.{is_announce}
use Rattle.session_state.specs.History.{History, accepts, accepts_from, how_many}
use Rattle.session_state.specs.Legal.{Follows, IsLegal}
use Rattle.session_state.specs.Streams.{IsLive, ends_mount_of}
use Rattle.session_state.proofs.Announced.{owned_none}
use Rattle.session_state.proofs.Coming.{none_lives}

-- The newest entry is the announcement of the mount.
pub record IsNewest (before : History) (entry : Entry) (number owner : ℕ) : Type 0 where
  pub owned : accepts_from owner is_announce entry ≡ true
  pub counted : number ≡ how_many (accepts is_announce) before + 1

pub newest_or_earlier : (before : History) (entry : Entry) (number owner : ℕ) → IsLive (entry ∷ before) number owner → IsNewest before entry number owner ⊎ IsLive before number owner
newest_or_earlier before entry number owner live = by live.later live.nth.cut live.unended
  where
    by : (later : History) → entry ∷ before ≡ later ++ live.moment.entry ∷ live.moment.before → AllByRecursion (λ e. ends_mount_of owner e ≡ false) later → IsNewest before entry number owner ⊎ IsLive before number owner
    by [] cut none =
        let same : live.moment.entry ≡ entry = cc in
        let rest : live.moment.before ≡ before = cc in
        inl (record { owned = subst (λ e. accepts_from owner is_announce e ≡ true) same live.owned; counted = live.nth.counted ∙ ap (λ h. how_many (accepts is_announce) h + 1) rest })
    by (x ∷ later) cut none =
        let rest : before ≡ later ++ live.moment.entry ∷ live.moment.before = cc in
        inr (record { later = later; moment = live.moment; nth = record { cut = rest; is = live.nth.is; counted = live.nth.counted }; owned = live.owned; unended = none.1 })

-- who announces a mount owned none before
first : (seats : ℕ) (before : History) (entry : Entry) (owner number : ℕ) → Follows seats before entry → accepts_from owner is_announce entry ≡ true → IsLive before number owner → ⊥
first seats before (Request who request given reply act) owner number follows announces live = owned_none seats before who owner request given reply act number follows announces live
first seats before (Connect who) owner number follows announces live = absurd (cc)
first seats before (HangUp who act) owner number follows announces live = absurd (cc)
first seats before (Back mount seat) owner number follows announces live = absurd (cc)
first seats before (Expire who heard now act) owner number follows announces live = absurd (cc)

pub owns_one : (seats : ℕ) (history : History) (owner number other : ℕ) → IsLegal seats history → IsLive history number owner → IsLive history other owner → number ≡ other
owns_one seats [] owner number other legal one two = absurd (none_lives number owner one)
owns_one seats (entry ∷ before) owner number other legal one two = by (newest_or_earlier before entry number owner one) (newest_or_earlier before entry other owner two) (owns_one seats before owner number other legal.0)
  where
    by : IsNewest before entry number owner ⊎ IsLive before number owner → IsNewest before entry other owner ⊎ IsLive before other owner → (IsLive before number owner → IsLive before other owner → number ≡ other) → number ≡ other
    by (inl a) (inl b) earlier = a.counted ∙ sym b.counted
    by (inl a) (inr b) earlier = absurd (first seats before entry owner other legal.1 a.owned b)
    by (inr a) (inl b) earlier = absurd (first seats before entry owner number legal.1 b.owned a)
    by (inr a) (inr b) earlier = earlier a b
