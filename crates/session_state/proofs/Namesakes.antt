-- In a legal history no two mounts that live have one name.
use Rattle.std.proofs.Common.{◌≡◌, ◌≢◌, ℕ, ◌+◌, ◌==◌, true, false, List, [], ◌∷◌, ◌++◌, ◌⊎◌, inl, inr, ap, sym, subst, ◌∙◌}
use Rattle.std.specs.List.{AllByRecursion, position_or_len}
use Rattle.std.proofs.lemmas.Bool.{eqb-true}
use Rattle.std.proofs.lemmas.List.Folds.{find_at}
use Rattle.rtsp_message.specs.declared.request.Request as messages
use Rattle.rtsp_message.specs.declared.reply.Reply.{Reply}
use Rattle.sdp.specs.declared.sections.Sections.{Sections}
use Rattle.sdp.specs.Readings.{Reads}
use Rattle.sdp.proofs.OneReading.{one_reading}
use Rattle.mounts.specs.declared.mount.Mount.{Mount}
use Rattle.mounts.specs.declared.target.Target.{Target}
use Rattle.mounts.specs.declared.uri.Uri.TheVariants.{At}
use Rattle.mounts.specs.Uri.{IsUri}
use Rattle.mounts.proofs.Differing.{key_at}
use Rattle.mounts.proofs.Firsts.{found_all, found_passes}
use Rattle.mounts.proofs.OneAnswer.{one_uri}
use Rattle.mounts.proofs.Sound.{names_apart}
use Rattle.session_state.specs.declared.act.Act.{Act}
use Rattle.session_state.specs.declared.given.Given.{Given}
use Rattle.session_state.specs.declared.entry.Entry.{Entry}
use Rattle.session_state.specs.declared.entry.Entry.TheVariants.{Connect, Request, HangUp, Back, Expire}
use Rattle.session_state.specs.Methods.{is_announce}
use Rattle.session_state.specs.History.{History, IsNth, accepts, accepts_from, how_many}
use Rattle.session_state.specs.Legal.{Follows, IsLegal, IsReplyOf}
use Rattle.session_state.specs.Streams.{Announces, IsLive, IsLiveMount, ends_mount_of}
use Rattle.session_state.proofs.Announced.{is_announce_of, passed}
use Rattle.session_state.proofs.Coming.{none_lives}
use Rattle.session_state.proofs.Nth.{one_nth}

-- A mount that lives, and its name.
pub record HasName (history : History) (number owner : ℕ) (name : List ℕ) : Type 0 where
  pub live : IsLive history number owner
  pub description : Sections
  pub announced : Announces live.moment.entry owner name description

-- An announcement announces one thing.
pub record SayOne (owner who : ℕ) (name second : List ℕ) (description other : Sections) : Type 0 where
  pub owner_is : owner ≡ who
  pub name_is : name ≡ second
  pub description_is : description ≡ other

pub one_announcement : (entry also : Entry) (owner who : ℕ) (name second : List ℕ) (description other : Sections) → entry ≡ also → Announces entry owner name description → Announces also who second other
    → SayOne owner who name second description other
one_announcement entry also owner who name second description other same one two =
    let both = sym one.asks.is ∙ same ∙ two.asks.is in
    let request : two.asks.request ≡ one.asks.request = cc in
    let uri : IsUri one.asks.request.uri (At two.target) = subst (λ (r : messages.Request). IsUri r.uri (At two.target)) request two.uri in
    let is = one_uri one.asks.request.uri (At one.target) (At two.target) one.uri uri in
    let target : one.target ≡ two.target = cc in
    record {
      owner_is = cc;
      name_is = sym one.path ∙ ap (λ (t : Target). t.path) target ∙ two.path;
      description_is = one_reading one.body (subst (λ (r : messages.Request). Reads r.body other) request two.body);
    }

-- who announces a mount takes no name of one that lives
new_name : (seats : ℕ) (before : History) (who owner : ℕ) (request : messages.Request) (given : Given) (reply : Reply) (act : Act) (name : List ℕ) (description : Sections) (number other : ℕ)
    → IsReplyOf seats before who request given reply act → accepts_from owner is_announce (Request who request given reply act) ≡ true
    → Announces (Request who request given reply act) owner name description → HasName before number other name → ⊥
new_name seats before who owner request given reply act name description number other is announces says has =
    let of = is_announce_of owner who request given reply act announces in
    let free = passed (record { seats = seats; history = before; conn = who; request = request; mounts = is.mounts; session = is.session }) given reply act is.answered of.ok of.method in
    let asked = says.asks.is in
    let same : says.asks.request ≡ request = cc in
    let uri : IsUri request.uri (At says.target) = subst (λ (r : messages.Request). IsUri r.uri (At says.target)) same says.uri in
    let uris = one_uri request.uri (At free.0) (At says.target) free.1.uri uri in
    let target : free.0 ≡ says.target = cc in
    let path : free.0.path ≡ name = ap (λ (t : Target). t.path) target ∙ says.path in
    let found = is.looks_up.mounts.all number other has.live in
    let lives = found_all (IsLiveMount seats before) (λ mount. mount.number == number) is.mounts found.0 is.looks_up.mounts.each found.1 in
    let numbers = eqb-true found.0.number number (found_passes (λ mount. mount.number == number) is.mounts found.0 found.1) in
    let live : IsLive before number found.0.owner = subst (λ n. IsLive before n found.0.owner) numbers lives.live in
    let nth = subst (λ n. IsNth (accepts is_announce) n before lives.live.later lives.live.moment) numbers lives.live.nth in
    let moment = one_nth (accepts is_announce) number before lives.live.later has.live.later lives.live.moment has.live.moment nth has.live.nth in
    let named = (one_announcement lives.live.moment.entry has.live.moment.entry found.0.owner other found.0.name name found.0.description has.description moment.entry lives.announced has.announced).name_is in
    let there = sym (find_at (λ mount. mount.number == number) is.mounts) ∙ found.1 in
    key_at (λ (mount : Mount). mount.name) (λ n. n ≢ free.0.path) is.mounts (position_or_len (λ mount. mount.number == number) is.mounts) found.0 (names_apart free.0.path is.mounts free.1.free) there
    (named ∙ sym path)

-- The newest entry is the announcement of the mount, by this name.
record IsNewName (before : History) (entry : Entry) (number owner : ℕ) (name : List ℕ) : Type 0 where
  pub owned : accepts_from owner is_announce entry ≡ true
  pub counted : number ≡ how_many (accepts is_announce) before + 1
  pub description : Sections
  pub announced : Announces entry owner name description

new_or_earlier : (before : History) (entry : Entry) (number owner : ℕ) (name : List ℕ) → HasName (entry ∷ before) number owner name → IsNewName before entry number owner name ⊎ HasName before number owner name
new_or_earlier before entry number owner name has = by has.live.later has.live.nth.cut has.live.unended
  where
    by : (later : History) → entry ∷ before ≡ later ++ has.live.moment.entry ∷ has.live.moment.before → AllByRecursion (λ e. ends_mount_of owner e ≡ false) later
        → IsNewName before entry number owner name ⊎ HasName before number owner name
    by [] cut none =
        let same : has.live.moment.entry ≡ entry = cc in
        let rest : has.live.moment.before ≡ before = cc in
        inl (record {
          owned = subst (λ e. accepts_from owner is_announce e ≡ true) same has.live.owned;
          counted = has.live.nth.counted ∙ ap (λ h. how_many (accepts is_announce) h + 1) rest;
          description = has.description;
          announced = subst (λ e. Announces e owner name has.description) same has.announced;
        })
    by (x ∷ later) cut none =
        let rest : before ≡ later ++ has.live.moment.entry ∷ has.live.moment.before = cc in
        inr (record {
          live = record { later = later; moment = has.live.moment; nth = record { cut = rest; is = has.live.nth.is; counted = has.live.nth.counted }; owned = has.live.owned; unended = none.1 };
          description = has.description;
          announced = has.announced;
        })

clash : (seats : ℕ) (before : History) (entry : Entry) (owner who number other : ℕ) (name : List ℕ) → Follows seats before entry → IsNewName before entry number owner name → HasName before other who name → ⊥
clash seats before (Request asks request given reply act) owner who number other name follows new has =
    new_name seats before asks owner request given reply act name new.description other who follows new.owned new.announced has
clash seats before (Connect asks) owner who number other name follows new has = let owned = new.owned in absurd (cc)
clash seats before (HangUp asks act) owner who number other name follows new has = let owned = new.owned in absurd (cc)
clash seats before (Back mount seat) owner who number other name follows new has = let owned = new.owned in absurd (cc)
clash seats before (Expire asks heard now act) owner who number other name follows new has = let owned = new.owned in absurd (cc)

pub one_of_a_name : (seats : ℕ) (history : History) (owner who number other : ℕ) (name : List ℕ) → IsLegal seats history → HasName history number owner name → HasName history other who name → number ≡ other
one_of_a_name seats [] owner who number other name legal one two = absurd (none_lives number owner one.live)
one_of_a_name seats (entry ∷ before) owner who number other name legal one two =
    by (new_or_earlier before entry number owner name one) (new_or_earlier before entry other who name two) (one_of_a_name seats before owner who number other name legal.0)
  where
    by : IsNewName before entry number owner name ⊎ HasName before number owner name → IsNewName before entry other who name ⊎ HasName before other who name
        → (HasName before number owner name → HasName before other who name → number ≡ other) → number ≡ other
    by (inl a) (inl b) earlier = a.counted ∙ sym b.counted
    by (inl a) (inr b) earlier = absurd (clash seats before entry owner who number other name legal.1 a b)
    by (inr a) (inl b) earlier = absurd (clash seats before entry who owner other number name legal.1 b a)
    by (inr a) (inr b) earlier = earlier a b
