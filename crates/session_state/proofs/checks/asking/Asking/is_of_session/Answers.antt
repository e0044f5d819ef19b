use Rattle.std.proofs.Common.{◌≡◌, ℕ, ◌==◌, Bool, true, false, Option, Some, MatchBool, refl, rules, ap, ◌∙◌}
use Rattle.std.specs.Option.{option_copied}
use Rattle.std.proofs.lemmas.Bool.{eqb-false, eqb-true}
use Rattle.session_state.specs.declared.session.Session.{Session}
use Rattle.session_state.proofs.CheckedNames.{same_some}
use Rattle.session_state.proofs.checks.asking.Asking.is_of_session.Goals as goal

by_number : (session : Session) (kept : Option Session) (number : ℕ) → kept ≡ Some session → (v : Bool) → (session.mount == number) ≡ v
    → MatchBool v ((other : Session) → kept ≡ Some other → other.mount ≡ number) (((other : Session) → kept ≡ Some other → other.mount ≡ number) → ⊥)
by_number session kept number has true is = λ other same. ap (λ (s : Session). s.mount) (same_some other session kept same has) ∙ eqb-true session.mount number is
by_number session kept number has false is = λ all. eqb-false session.mount number is (all session has)

pub returns-in-Some : goal.returns-in-Some
returns-in-Some c =
    let has : option_copied c.args.self.now.session ≡ Some c.in-Some.session.now = search rules in
    by_number c.in-Some.session.now (option_copied c.args.self.now.session) c.args.number has _ refl
