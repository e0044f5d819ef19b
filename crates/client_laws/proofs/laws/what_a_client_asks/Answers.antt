use Rattle.std.proofs.Common.{sym, subst, ℕ}
use Rattle.rtsp_client.specs.TargetCourse.{IsCourse}
use Rattle.rtsp_client.proofs.TargetRuns.{in_order}
use Rattle.client_laws.proofs.Clients.{publishes, stage_of}
use Rattle.client_laws.proofs.Publishing.{has_come}
use Rattle.client_laws.proofs.laws.what_a_client_asks.Goals as goal

pub returns-clause-course : goal.returns-clause-course
returns-clause-course c = λ seats conn publication events askings client id later start can asked tracks same entries.
    let order = in_order events askings client asked in
    (stage_of id order.stage, publishes seats conn publication can id order.id later start askings order.stage (subst (λ (n : ℕ). IsCourse n order.id askings order.stage) (sym tracks) order.course) same entries)

pub returns-clause-accepted : goal.returns-clause-accepted
returns-clause-accepted c = λ seats conn publication events askings client id later start can fresh legal asked tracks same entries.
    let order = in_order events askings client asked in
    (has_come seats conn publication can start fresh later (stage_of id order.stage) legal
    (publishes seats conn publication can id order.id later start askings order.stage (subst (λ (n : ℕ). IsCourse n order.id askings order.stage) (sym tracks) order.course) same entries)).ok
