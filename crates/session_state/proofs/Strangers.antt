-- Of a connection that isn't open, a legal history has no session, and of one that hasn't come no request.
use Rattle.std.proofs.Common.{◌≡◌, ℕ, suc, ◌<◌, ◌≤◌, ◌==◌, max, Bool, true, false, cond, [], ◌∷◌, is_some, Some, refl, ap, sym, ◌∙◌, arith}
use Rattle.std.specs.Option.{option_map_or}
use Rattle.std.proofs.Math.Nat.{zero-max}
use Rattle.std.proofs.lemmas.Bool.{eqb-true}
use Rattle.session_state.specs.declared.entry.Entry.{Entry}
use Rattle.session_state.specs.declared.entry.Entry.TheVariants.{Connect, Request, HangUp, Back, Expire}
use Rattle.session_state.specs.Methods.{is_teardown, moves}
use Rattle.session_state.specs.History.{History, accepts_from, connects, heard_by, last_heard, last_of}
use Rattle.session_state.specs.Legal.{IsLegal}
use Rattle.session_state.specs.Lookups.{beginning, came, comes_or_goes, has_session, is_open, session_part}
use Rattle.session_state.specs.Streams.{ends_of}
use Rattle.session_state.proofs.Parts.{of_another, part_ends, part_still}

-- whether a connection is open after an entry that is of it, or isn't
abbrev pub after : (is : Bool) → Entry → (conn : ℕ) → History → Bool
after is entry conn before = option_map_or (connects conn) (cond is (Some entry) (last_of (comes_or_goes conn) before)) false

-- a connection that is open has come
pub open_came : (seats : ℕ) (history : History) (conn : ℕ) → IsLegal seats history → is_open conn history ≡ true → conn ≤ came history
open_came seats [] conn legal there = absurd (cc)
open_came seats (Connect who ∷ before) conn legal there = by (who == conn) refl (open_came seats before conn legal.0) there
  where
    by : (is : Bool) → (who == conn) ≡ is → (is_open conn before ≡ true → conn ≤ came before) → after is (Connect who) conn before ≡ true → conn ≤ suc (came before)
    by true same earlier there = let next = legal.1.next in let is = eqb-true who conn same in omega (arith, next, is)
    by false other earlier there = let so = earlier there in omega (arith, so)
open_came seats (Request who request given reply act ∷ before) conn legal there = open_came seats before conn legal.0 there
open_came seats (HangUp who act ∷ before) conn legal there = by (who == conn) (open_came seats before conn legal.0) there
  where
    by : (is : Bool) → (is_open conn before ≡ true → conn ≤ came before) → after is (HangUp who act) conn before ≡ true → conn ≤ came before
    by true earlier there = absurd (cc)
    by false earlier there = earlier there
open_came seats (Back mount seat ∷ before) conn legal there = open_came seats before conn legal.0 there
open_came seats (Expire who heard now act ∷ before) conn legal there = open_came seats before conn legal.0 there

differs : (who conn most : ℕ) → who ≤ most → most < conn → (who == conn) ≡ false
differs who conn most few less = by (who == conn) refl
  where
    by : (is : Bool) → (who == conn) ≡ is → is ≡ false
    by true same = let is = eqb-true who conn same in absurd (omega (arith, is, few, less))
    by false other = refl

-- an entry that ends a session leaves none of what it ends, and where there was nothing, nothing
pub still_none : (who conn : ℕ) (entry : Entry) (before : History) → ends_of conn entry ≡ (who == conn) → accepts_from conn moves entry ≡ false → session_part conn before ≡ []
    → session_part conn (entry ∷ before) ≡ []
still_none who conn entry before ends no_move earlier = by (who == conn) ends
  where
    by : (is : Bool) → ends_of conn entry ≡ is → session_part conn (entry ∷ before) ≡ []
    by true same = part_ends conn entry before same
    by false apart = part_still conn entry before apart no_move ∙ earlier

-- a connection that isn't open has no session
pub closed : (seats : ℕ) (history : History) (conn : ℕ) → IsLegal seats history → is_open conn history ≡ false → session_part conn history ≡ []
closed seats [] conn legal none = refl
closed seats (Connect who ∷ before) conn legal none = by (who == conn) refl (closed seats before conn legal.0) none
  where
    by : (is : Bool) → (who == conn) ≡ is → (is_open conn before ≡ false → session_part conn before ≡ []) → after is (Connect who) conn before ≡ false → session_part conn before ≡ []
    by true same earlier none = absurd (cc)
    by false other earlier none = earlier none
closed seats (Request who request given reply act ∷ before) conn legal none = by (who == conn) refl (closed seats before conn legal.0 none)
  where
    by : (is : Bool) → (who == conn) ≡ is → session_part conn before ≡ [] → session_part conn (Request who request given reply act ∷ before) ≡ []
    by true same earlier = let both : true ≡ false = sym legal.1.is_there ∙ ap (λ c. is_open c before) (eqb-true who conn same) ∙ none in absurd (cc)
    by false other earlier =
        part_still conn (Request who request given reply act) before (of_another who conn is_teardown request given reply act other) (of_another who conn moves request given reply act other) ∙ earlier
closed seats (HangUp who act ∷ before) conn legal none = by (who == conn) refl (closed seats before conn legal.0) none
  where
    by : (is : Bool) → (who == conn) ≡ is → (is_open conn before ≡ false → session_part conn before ≡ []) → after is (HangUp who act) conn before ≡ false
        → session_part conn (HangUp who act ∷ before) ≡ []
    by true same earlier none = part_ends conn (HangUp who act) before same
    by false other earlier none = part_still conn (HangUp who act) before other refl ∙ earlier none
closed seats (Back mount seat ∷ before) conn legal none = closed seats before conn legal.0 none
closed seats (Expire who heard now act ∷ before) conn legal none = still_none who conn (Expire who heard now act) before refl refl (closed seats before conn legal.0 none)

-- so who has a session is open
pub session_open : (seats : ℕ) (history : History) (conn : ℕ) → IsLegal seats history → has_session conn history ≡ true → is_open conn history ≡ true
session_open seats history conn legal has = by (is_open conn history) refl
  where
    by : (is : Bool) → is_open conn history ≡ is → is ≡ true
    by true there = refl
    by false none = let nothing = ap (λ part. is_some (beginning conn part)) (closed seats history conn legal none) in absurd (cc)

-- who has a session after an entry that moves none had it, and the entry doesn't end it
pub had_session : (who conn : ℕ) (entry : Entry) (before : History) → ends_of conn entry ≡ (who == conn) → accepts_from conn moves entry ≡ false → has_session conn (entry ∷ before) ≡ true
    → ((who == conn) ≡ false) × (has_session conn before ≡ true)
had_session who conn entry before ends no_move has = by (who == conn) ends
  where
    by : (is : Bool) → ends_of conn entry ≡ is → (is ≡ false) × (has_session conn before ≡ true)
    by true same = let nothing = ap (λ part. is_some (beginning conn part)) (part_ends conn entry before same) in absurd (cc)
    by false apart = (refl, sym (ap (λ part. is_some (beginning conn part)) (part_still conn entry before apart no_move)) ∙ has)

pub strangers : (seats : ℕ) (history : History) (conn : ℕ) → IsLegal seats history → came history < conn → session_part conn history ≡ []
strangers seats history conn legal less = by (is_open conn history) refl
  where
    by : (is : Bool) → is_open conn history ≡ is → session_part conn history ≡ []
    by true there = let came = open_came seats history conn legal there in absurd (omega (arith, came, less))
    by false none = closed seats history conn legal none

-- an entry that isn't a request of a connection leaves when that was heard
pub still_heard : (conn : ℕ) (entry : Entry) (history : History) → heard_by conn entry ≡ 0 → last_heard conn (entry ∷ history) ≡ last_heard conn history
still_heard conn entry history none = ap (λ n. max n (last_heard conn history)) none ∙ zero-max (last_heard conn history)

-- a connection that hasn't come wasn't heard
pub unheard : (seats : ℕ) (history : History) (conn : ℕ) → IsLegal seats history → came history < conn → last_heard conn history ≡ 0
unheard seats [] conn legal less = refl
unheard seats (Connect who ∷ before) conn legal less = let so = less in still_heard conn (Connect who) before refl ∙ unheard seats before conn legal.0 (omega (arith, so))
unheard seats (Request who request given reply act ∷ before) conn legal less =
    let other = differs who conn (came before) (open_came seats before who legal.0 legal.1.is_there) less in
    still_heard conn (Request who request given reply act) before (ap (λ b. cond b given.now 0) other) ∙ unheard seats before conn legal.0 less
unheard seats (HangUp who act ∷ before) conn legal less = still_heard conn (HangUp who act) before refl ∙ unheard seats before conn legal.0 less
unheard seats (Back mount seat ∷ before) conn legal less = still_heard conn (Back mount seat) before refl ∙ unheard seats before conn legal.0 less
unheard seats (Expire who heard now act ∷ before) conn legal less = still_heard conn (Expire who heard now act) before refl ∙ unheard seats before conn legal.0 less
