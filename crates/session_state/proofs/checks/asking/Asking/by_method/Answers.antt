use Rattle.std.proofs.Common.{sym, subst, MatchResult}
use Rattle.session_state.specs.declared.method.Method.{Method}
use Rattle.session_state.specs.Asking.{IsAcceptedAs, IsRefusedAt, later_checks}
use Rattle.session_state.proofs.checks.asking.Asking.by_method.Goals as goal

pub returns-in-Options : goal.returns-in-Options
returns-in-Options c = subst (λ (m : Method). MatchResult c.options.result (IsAcceptedAs c.args.self.now m) (IsRefusedAt c.args.self.now (later_checks m))) (sym c.in-Options.is) c.options.ensures

pub returns-in-Describe : goal.returns-in-Describe
returns-in-Describe c = subst (λ (m : Method). MatchResult c.describe.result (IsAcceptedAs c.args.self.now m) (IsRefusedAt c.args.self.now (later_checks m))) (sym c.in-Describe.is) c.describe.ensures

pub returns-in-Announce : goal.returns-in-Announce
returns-in-Announce c = subst (λ (m : Method). MatchResult c.announce.result (IsAcceptedAs c.args.self.now m) (IsRefusedAt c.args.self.now (later_checks m))) (sym c.in-Announce.is) c.announce.ensures

pub returns-in-Setup : goal.returns-in-Setup
returns-in-Setup c = subst (λ (m : Method). MatchResult c.set_up.result (IsAcceptedAs c.args.self.now m) (IsRefusedAt c.args.self.now (later_checks m))) (sym c.in-Setup.is) c.set_up.ensures

pub returns-in-Play : goal.returns-in-Play
returns-in-Play c = subst (λ (m : Method). MatchResult c.play.result (IsAcceptedAs c.args.self.now m) (IsRefusedAt c.args.self.now (later_checks m))) (sym c.in-Play.is) c.play.ensures

pub returns-in-Pause : goal.returns-in-Pause
returns-in-Pause c = subst (λ (m : Method). MatchResult c.pause.result (IsAcceptedAs c.args.self.now m) (IsRefusedAt c.args.self.now (later_checks m))) (sym c.in-Pause.is) c.pause.ensures

pub returns-in-Record : goal.returns-in-Record
returns-in-Record c = subst (λ (m : Method). MatchResult c.record.result (IsAcceptedAs c.args.self.now m) (IsRefusedAt c.args.self.now (later_checks m))) (sym c.in-Record.is) c.record.ensures

pub returns-in-Teardown : goal.returns-in-Teardown
returns-in-Teardown c = subst (λ (m : Method). MatchResult c.teardown.result (IsAcceptedAs c.args.self.now m) (IsRefusedAt c.args.self.now (later_checks m))) (sym c.in-Teardown.is) c.teardown.ensures

pub returns-in-GetParameter : goal.returns-in-GetParameter
returns-in-GetParameter c = subst (λ (m : Method). MatchResult c.get_parameter.result (IsAcceptedAs c.args.self.now m) (IsRefusedAt c.args.self.now (later_checks m))) (sym c.in-GetParameter.is) c.get_parameter.ensures
