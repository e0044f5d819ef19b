-- In a legal history as many connections are open as are counted, and no more than may be.
use Rattle.std.proofs.Common.{◌≡◌, ◌≢◌, ℕ, suc, ◌+◌, ◌≤◌, ◌==◌, Bool, true, false, not, cond, List, [], ◌∷◌, length, refl, ap, sym, ◌∙◌, subst, arith}
use Rattle.std.specs.List.{AllByRecursion, filter}
use Rattle.std.proofs.lemmas.Bool.{eq-eqb, eqb-true}
use Rattle.mounts.specs.Different.{AreDifferent}
use Rattle.mounts.proofs.Differing.{unequal}
use Rattle.session_state.specs.declared.act.Act.{Act}
use Rattle.session_state.specs.declared.entry.Entry.TheVariants.{Connect, Request, HangUp, Back, Expire}
use Rattle.session_state.specs.History.{History, how_many, is_hang_up}
use Rattle.session_state.specs.Legal.{Comes, IsHangUp, IsLegal}
use Rattle.session_state.specs.Lookups.{AreOpen, came, is_open, open_count}
use Rattle.session_state.proofs.Among.{among, among_some, each_filtered, some_among}
use Rattle.session_state.proofs.Strangers.{after, open_came}

-- the others of some connections
abbrev pub left : ℕ → List ℕ → List ℕ
left who conns = filter (λ one. not (one == who)) conns

pub among_left : (who conn : ℕ) (conns : List ℕ) → among conn (left who conns) ≡ cond (who == conn) false (among conn conns)
among_left who conn [] = by (who == conn)
  where
    by : (same : Bool) → false ≡ cond same false false
    by true = refl
    by false = refl
among_left who conn (one ∷ others) = by (one == who) refl (among_left who conn others)
  where
    of : (same : Bool) → (one == conn) ≡ same → cond same false (among conn others) ≡ cond same false (cond (one == conn) true (among conn others))
    of true is = refl
    of false is = ap (λ b. cond b true (among conn others)) (sym is)

    apart : (one == who) ≡ false → (one == conn) ≡ true → (is : Bool) → (who == conn) ≡ is → is ≡ false
    apart other same true is = let back = eq-eqb one who (eqb-true one conn same ∙ sym (eqb-true who conn is)) in absurd (cc)
    apart other same false is = refl

    on : (one == who) ≡ false → among conn (left who others) ≡ cond (who == conn) false (among conn others) → (same : Bool) → (one == conn) ≡ same
        → cond same true (among conn (left who others)) ≡ cond (who == conn) false (cond same true (among conn others))
    on other later true same = sym (ap (λ b. cond b false true) (apart other same (who == conn) refl))
    on other later false differ = later

    by : (gone : Bool) → (one == who) ≡ gone → among conn (left who others) ≡ cond (who == conn) false (among conn others)
        → among conn (cond (not gone) (one ∷ left who others) (left who others)) ≡ cond (who == conn) false (cond (one == conn) true (among conn others))
    by true gone later = later ∙ of (who == conn) (ap (λ n. n == conn) (eqb-true one who gone))
    by false kept later = on kept later (one == conn) refl

-- who is among some is one of them less
pub fewer_left : (who : ℕ) (conns : List ℕ) → among who conns ≡ true → length (left who conns) + 1 ≤ length conns
fewer_left who [] is = absurd (cc)
fewer_left who (one ∷ others) is = by (one == who) is (fewer_left who others) (no_more others)
  where
    no_more : (all : List ℕ) → length (left who all) ≤ length all
    no_more [] = omega arith
    no_more (x ∷ xs) = of (x == who) (no_more xs)
      where
        of : (gone : Bool) → length (left who xs) ≤ length xs → length (cond (not gone) (x ∷ left who xs) (left who xs)) ≤ suc (length xs)
        of true few = omega (arith, few)
        of false few = omega (arith, few)

    by : (gone : Bool) → cond gone true (among who others) ≡ true → (among who others ≡ true → length (left who others) + 1 ≤ length others) → length (left who others) ≤ length others
        → length (cond (not gone) (one ∷ left who others) (left who others)) + 1 ≤ suc (length others)
    by true is later few = omega (arith, few)
    by false is later few = let less = later is in omega (arith, less)

all_left : (who : ℕ) (conns : List ℕ) → AllByRecursion (λ one. one ≢ who) conns → left who conns ≡ conns
all_left who [] none = refl
all_left who (one ∷ others) none = ap (λ b. cond (not b) (one ∷ left who others) (left who others)) (unequal one who none.0) ∙ ap (λ conns. one ∷ conns) (all_left who others none.1)

length_left : (who : ℕ) (conns : List ℕ) → AreDifferent conns → among who conns ≡ true → length (left who conns) + 1 ≡ length conns
length_left who [] once is = absurd (cc)
length_left who (one ∷ others) once is = by (one == who) refl is (length_left who others once.1)
  where
    by : (gone : Bool) → (one == who) ≡ gone → cond gone true (among who others) ≡ true → (among who others ≡ true → length (left who others) + 1 ≡ length others)
        → length (cond (not gone) (one ∷ left who others) (left who others)) + 1 ≡ suc (length others)
    by true gone is later = let same = ap length (all_left who others (subst (λ n. AllByRecursion (λ other. other ≢ n) others) (eqb-true one who gone) once.0)) in omega (arith, same)
    by false kept is later = let less = later is in omega (arith, less)

different_left : (who : ℕ) (conns : List ℕ) → AreDifferent conns → AreDifferent (left who conns)
different_left who [] once = tt
different_left who (one ∷ others) once = by (one == who) (different_left who others once.1)
  where
    by : (gone : Bool) → AreDifferent (left who others) → AreDifferent (cond (not gone) (one ∷ left who others) (left who others))
    by true rest = rest
    by false rest = (each_filtered (λ other. other ≢ one) (λ other. not (other == who)) others once.0, rest)

none_among : (who : ℕ) (conns : List ℕ) → ((conn : ℕ) → among conn conns ≡ true → conn ≢ who) → AllByRecursion (λ one. one ≢ who) conns
none_among who [] differ = tt
none_among who (one ∷ others) differ = (
  differ one (ap (λ b. cond b true (among one others)) (eq-eqb one one refl)),
  none_among who others (λ conn is. differ conn (behind conn (one == conn) is)),
)
  where
    behind : (conn : ℕ) (same : Bool) → among conn others ≡ true → cond same true (among conn others) ≡ true
    behind conn true is = refl
    behind conn false is = is

-- These are the connections that are open, each once, and so many as have come and not gone.
record AreAll (history : History) (conns : List ℕ) : Type 0 where
  each : (conn : ℕ) → among conn conns ≡ is_open conn history
  once : AreDifferent conns
  gone : length conns + how_many is_hang_up history ≡ came history

comes : (seats : ℕ) (before : History) (who : ℕ) (conns : List ℕ) → IsLegal seats before → Comes before who → AreAll before conns → AreAll (Connect who ∷ before) (who ∷ conns)
comes seats before who conns legal next are = record {
  each = λ conn. by conn (who == conn) refl;
  once = (none_among who conns (λ conn is same. let come = open_came seats before conn legal (sym (are.each conn) ∙ is) in let first = next.next in absurd (omega (arith, come, first, same))), are.once);
  gone = let gone = are.gone in omega (arith, gone);
}
  where
    by : (conn : ℕ) (is : Bool) → (who == conn) ≡ is → cond is true (among conn conns) ≡ after is (Connect who) conn before
    by conn true same = sym same
    by conn false other = are.each conn

goes : (seats : ℕ) (before : History) (who : ℕ) (act : Act) (conns : List ℕ) → IsHangUp seats before who act → AreAll before conns → AreAll (HangUp who act ∷ before) (left who conns)
goes seats before who act conns hang are = record {
  each = λ conn. among_left who conn conns ∙ by conn (who == conn);
  once = different_left who conns are.once;
  gone = let gone = are.gone in let less = length_left who conns are.once (are.each who ∙ hang.is_there) in omega (arith, gone, less);
}
  where
    by : (conn : ℕ) (is : Bool) → cond is false (among conn conns) ≡ after is (HangUp who act) conn before
    by conn true = refl
    by conn false = are.each conn

all_open : (seats : ℕ) (history : History) → IsLegal seats history → (conns : List ℕ) × AreAll history conns
all_open seats [] legal = ([], record { each = λ conn. refl; once = tt; gone = refl })
all_open seats (Connect who ∷ before) legal = let (conns, are) = all_open seats before legal.0 in (who ∷ conns, comes seats before who conns legal.0 legal.1 are)
all_open seats (Request who request given reply act ∷ before) legal = let (conns, are) = all_open seats before legal.0 in (conns, record { each = are.each; once = are.once; gone = are.gone })
all_open seats (HangUp who act ∷ before) legal = let (conns, are) = all_open seats before legal.0 in (left who conns, goes seats before who act conns legal.1 are)
all_open seats (Back mount seat ∷ before) legal = let (conns, are) = all_open seats before legal.0 in (conns, record { each = are.each; once = are.once; gone = are.gone })
all_open seats (Expire who heard now act ∷ before) legal = let (conns, are) = all_open seats before legal.0 in (conns, record { each = are.each; once = are.once; gone = are.gone })

pub counted : (seats : ℕ) (history : History) → IsLegal seats history → (conns : List ℕ) × AreOpen history conns × (length conns ≡ open_count history)
counted seats history legal =
    let (conns, are) = all_open seats history legal in
    let gone = are.gone in (
      conns,
      record {
        each = λ conn. ((λ has. sym (are.each conn) ∙ some_among conn conns has.0 has.1 has.2), (λ there. among_some conn conns (are.each conn ∙ there)));
        once = are.once;
      },
      omega (arith, gone),
    )

pub few_open : (seats : ℕ) (history : History) → IsLegal seats history → open_count history ≤ 1024
few_open seats [] legal = omega arith
few_open seats (Connect who ∷ before) legal = let few = legal.1.few in omega (arith, few)
few_open seats (Request who request given reply act ∷ before) legal = few_open seats before legal.0
few_open seats (HangUp who act ∷ before) legal = let few = few_open seats before legal.0 in omega (arith, few)
few_open seats (Back mount seat ∷ before) legal = few_open seats before legal.0
few_open seats (Expire who heard now act ∷ before) legal = few_open seats before legal.0
