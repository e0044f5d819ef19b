-- No two sessions of a history have one number.
use Rattle.std.proofs.Common.{◌≡◌, ℕ, suc, ◌≤◌, ◌==◌, ◌&&◌, Bool, true, false, cond, not, [], ◌∷◌, ◌++◌, is_some, Option, None, Some, refl, ap, sym, ◌∙◌, subst, arith}
use Rattle.std.specs.List.{filter}
use Rattle.std.specs.Option.{option_map_or, option_or}
use Rattle.std.proofs.lemmas.Bool.{cond-true, eqb-true}
use Rattle.session_state.specs.declared.entry.Entry.{Entry}
use Rattle.session_state.specs.declared.method.Method.{Method}
use Rattle.session_state.specs.declared.session.Session.{Session}
use Rattle.session_state.specs.Methods.{is_setup, moves}
use Rattle.session_state.specs.History.{History, Moment, accepted, accepts_from, since_last}
use Rattle.session_state.specs.Lookups.{IsSession, beginning, begins, has_session, session_part, sessions_begun}
use Rattle.session_state.specs.Streams.{ends_of}
use Rattle.session_state.proofs.Nth.{RisesTo, one_rise}
use Rattle.session_state.proofs.Parts.{beginning_on, part_ends, part_still}

-- A moment of a history at which a connection's session begins.
pub record IsBeginning (conn : ℕ) (history : History) (moment : Moment) : Type 0 where
  pub later : History
  pub cut : history ≡ later ++ moment.entry ∷ moment.before
  pub sets_up : accepts_from conn is_setup moment.entry ≡ true
  pub begins_it : begins moment ≡ true

-- a SETUP of a connection without a session begins one
begins_one : (conn : ℕ) (moment : Moment) → accepts_from conn is_setup moment.entry ≡ true → has_session conn moment.before ≡ false → begins moment ≡ true
begins_one conn moment is none = by (accepted moment.entry) is
  where
    by : (found : Option (ℕ × Method)) → option_map_or (λ (one : ℕ × Method). one.0 == conn && is_setup one.1) found false ≡ true
        → option_map_or (λ (one : ℕ × Method). is_setup one.1 && not (has_session one.0 moment.before)) found false ≡ true
    by None is = absurd (cc)
    by (Some one) is = of (one.0 == conn) refl (is_setup one.1) is
      where
        of : (same : Bool) → (one.0 == conn) ≡ same → (setup : Bool) → (same && setup) ≡ true → (setup && not (has_session one.0 moment.before)) ≡ true
        of true same true is = ap (λ c. not (has_session c moment.before)) (eqb-true one.0 conn same) ∙ ap not none
        of true same false is = absurd (cc)
        of false same setup is = absurd (cc)

extended : (conn : ℕ) (entry : Entry) (before : History) (moment : Moment) → IsBeginning conn before moment → IsBeginning conn (entry ∷ before) moment
extended conn entry before moment is = record { later = entry ∷ is.later; cut = ap (λ h. entry ∷ h) is.cut; sets_up = is.sets_up; begins_it = is.begins_it }

pub is_beginning : (conn : ℕ) (history : History) (moment : Moment) → beginning conn (session_part conn history) ≡ Some moment → IsBeginning conn history moment
is_beginning conn [] moment at = absurd (cc)
is_beginning conn (entry ∷ before) moment at = by (ends_of conn entry) refl (accepts_from conn moves entry) refl (is_beginning conn before moment)
  where
    here : Moment
    here = record { entry = entry; before = before }

    setup : Moment → Bool
    setup = λ one. accepts_from conn is_setup one.entry

    found : Option Moment
    found = beginning conn (session_part conn before)

    newest : (first : Option Moment) → found ≡ first → (is : Bool) → setup here ≡ is → option_or first (cond is (Some here) None) ≡ Some moment → (found ≡ Some moment → IsBeginning conn before moment) → IsBeginning conn (entry ∷ before) moment
    newest (Some first) none is sets at earlier = extended conn entry before moment (earlier (none ∙ at))
    newest None none true sets at earlier =
        let same : here ≡ moment = cc in
        subst (IsBeginning conn (entry ∷ before)) same (record { later = []; cut = refl; sets_up = sets; begins_it = begins_one conn here sets (ap is_some none) })
    newest None none false sets at earlier = absurd (cc)

    by : (ends : Bool) → ends_of conn entry ≡ ends → (moved : Bool) → accepts_from conn moves entry ≡ moved → (found ≡ Some moment → IsBeginning conn before moment) → IsBeginning conn (entry ∷ before) moment
    by true ends moved moving earlier =
        let none = part_ends conn entry before ends in
        let nothing : beginning conn [] ≡ Some moment = sym (ap (beginning conn) none) ∙ at in
        absurd (cc)
    by false ends false moving earlier =
        extended conn entry before moment (earlier (sym (ap (beginning conn) (part_still conn entry before ends moving)) ∙ at))
    by false ends true moving earlier =
        let more : session_part conn (entry ∷ before) ≡ here ∷ session_part conn before =
        ap (λ b. filter (λ one. accepts_from conn moves one.entry) (cond b [] (here ∷ since_last (ends_of conn) before))) ends
        ∙ cond-true (accepts_from conn moves entry) (here ∷ session_part conn before) (session_part conn before) moving in
        newest found refl (setup here) refl (sym (beginning_on conn here (session_part conn before)) ∙ sym (ap (beginning conn) more) ∙ at) earlier

begun_more : (entry : Entry) (before : History) → sessions_begun before ≤ sessions_begun (entry ∷ before)
begun_more entry before = by (begins (record { entry = entry; before = before }))
  where
    by : (is : Bool) → sessions_begun before ≤ cond is (suc (sessions_begun before)) (sessions_begun before)
    by true = omega arith
    by false = omega arith

begun_at : (n conn : ℕ) (history : History) (moment : Moment) → (is : IsBeginning conn history moment) → n ≡ sessions_begun (moment.entry ∷ moment.before) → RisesTo sessions_begun begun_more n history is.later moment
begun_at n conn history moment is counted =
    let one : sessions_begun (moment.entry ∷ moment.before) ≡ suc (sessions_begun moment.before) = ap (λ b. cond b (suc (sessions_begun moment.before)) (sessions_begun moment.before)) is.begins_it in
    record { cut = is.cut; rises = omega (arith, one); counted = counted }

same_moment : (one two : Moment) → one.entry ≡ two.entry → one.before ≡ two.before → one ≡ two
same_moment one two entry before = ap (λ e. record { entry = e; before = one.before }) entry ∙ ap (λ b. record { entry = two.entry; before = b }) before

-- who set up is told by the entry
same_conn : (entry : Entry) (conn other : ℕ) → accepts_from conn is_setup entry ≡ true → accepts_from other is_setup entry ≡ true → conn ≡ other
same_conn entry conn other one two = by (accepted entry) one two
  where
    left : (a b : Bool) → (a && b) ≡ true → a ≡ true
    left true b is = refl
    left false b is = absurd (cc)

    by : (found : Option (ℕ × Method)) → option_map_or (λ (one : ℕ × Method). one.0 == conn && is_setup one.1) found false ≡ true
        → option_map_or (λ (one : ℕ × Method). one.0 == other && is_setup one.1) found false ≡ true → conn ≡ other
    by None one two = absurd (cc)
    by (Some found) one two = sym (eqb-true found.0 conn (left (found.0 == conn) (is_setup found.1) one)) ∙ eqb-true found.0 other (left (found.0 == other) (is_setup found.1) two)

extended_by : (conn : ℕ) (later before : History) (moment : Moment) → IsBeginning conn before moment → IsBeginning conn (later ++ before) moment
extended_by conn [] before moment is = is
extended_by conn (entry ∷ later) before moment is = extended conn entry (later ++ before) moment (extended_by conn later before moment is)

pub one_session : (seats conn other : ℕ) (later history : History) (session second : Session) (a : IsSession seats conn history session) (b : IsSession seats other (later ++ history) second)
    → session.number ≡ second.number → (conn ≡ other) × (a.begin ≡ b.begin)
one_session seats conn other later history session second a b same =
    let mine = extended_by conn later history a.begin (is_beginning conn history a.begin a.first) in
    let theirs = is_beginning other (later ++ history) b.begin b.first in
    let moment = one_rise sessions_begun begun_more session.number (later ++ history) mine.later theirs.later a.begin b.begin
    (begun_at session.number conn (later ++ history) a.begin mine a.number) (begun_at session.number other (later ++ history) b.begin theirs (same ∙ b.number)) in
    let entry = moment.entry in
    let before = moment.before in
    (same_conn b.begin.entry conn other (subst (λ e. accepts_from conn is_setup e ≡ true) entry mine.sets_up) theirs.sets_up, same_moment a.begin b.begin entry before)
