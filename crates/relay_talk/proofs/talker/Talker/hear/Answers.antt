use Rattle.std.proofs.Common.{◌≡◌, inr, refl, ◌∙◌}
use Rattle.relay_talk.specs.Exchange.{heard_at}
use Rattle.relay_talk.proofs.Announcing.{has_ended, has_expired, has_left, heard_is, lives_on}
use Rattle.relay_talk.proofs.Leaving.{expires_pass}
use Rattle.relay_talk.proofs.talker.Talker.hear.Goals as goal

pub returns-clause-expired : goal.returns-clause-expired
returns-clause-expired c =
    has_expired c.args.self.now.book.seats c.args.self.now.book.history c.args.self.now.heard c.unwrap_or-heard.result c.args.now c.requires.seats (c.unwrap_or-heard.ensures ∙ heard_is c.args.self.now.heard c.args.now)
    c.carry_out.new.self.book.history c.in-Some.act c.in-Some.ensures.is (rw c.in-Some.ensures.ends at c.carry_out.ensures.settled)

pub returns-clause-publishing : goal.returns-clause-publishing
returns-clause-publishing c =
    has_ended c.args.self.now.book.seats c.args.self.now.book.history c.args.self.now.heard c.unwrap_or-heard.result c.args.now c.requires.seats (c.unwrap_or-heard.ensures ∙ heard_is c.args.self.now.heard c.args.now)
    c.in-Some.act c.args.self.now.publishing c.carry_out.new.self.publishing c.in-Some.ensures.is c.carry_out.ensures.publishing

pub returns-clause-seat : goal.returns-clause-seat
returns-clause-seat c =
    has_left c.args.self.now.book.seats c.args.self.now.book.history c.args.self.now.heard c.unwrap_or-heard.result c.args.now c.requires.seats (c.unwrap_or-heard.ensures ∙ heard_is c.args.self.now.heard c.args.now)
    c.in-Some.act c.args.self.now.seat c.carry_out.new.self.seat c.in-Some.ensures.is c.carry_out.ensures.seat

pub returns-clause-back : goal.returns-clause-back
returns-clause-back c =
    expires_pass c.args.self.now.book c.expire.new.self c.carry_out.new.self.book c.in-Some.act c.args.self.now.seat c.carry_out.ensures.settled c.carry_out.ensures.back
    c.args.self.now.book.seats c.unwrap_or-heard.result (heard_at c.args.self.now.heard c.args.now) c.args.now c.requires.seats (c.unwrap_or-heard.ensures ∙ heard_is c.args.self.now.heard c.args.now)
    c.in-Some.ensures.is c.in-Some.ensures.ends

pub returns-in_default-clause-expired : goal.returns-in_default-clause-expired
returns-in_default-clause-expired c =
    let same : c.expire.new.self.history ≡ c.args.self.now.book.history = rw c.in_default.ensures.unchanged refl in
    inr (
      lives_on c.args.self.now.book.seats c.args.self.now.book.history c.args.self.now.heard c.unwrap_or-heard.result c.args.now c.requires.seats (c.unwrap_or-heard.ensures ∙ heard_is c.args.self.now.heard c.args.now)
          (c.expire.ensures.none c.in_default.is),
      same,
    )

pub returns-in_default-clause-publishing : goal.returns-in_default-clause-publishing
returns-in_default-clause-publishing c =
    inr (
      lives_on c.args.self.now.book.seats c.args.self.now.book.history c.args.self.now.heard c.unwrap_or-heard.result c.args.now c.requires.seats (c.unwrap_or-heard.ensures ∙ heard_is c.args.self.now.heard c.args.now)
          (c.expire.ensures.none c.in_default.is),
      refl,
    )

pub returns-in_default-clause-seat : goal.returns-in_default-clause-seat
returns-in_default-clause-seat c =
    inr (
      lives_on c.args.self.now.book.seats c.args.self.now.book.history c.args.self.now.heard c.unwrap_or-heard.result c.args.now c.requires.seats (c.unwrap_or-heard.ensures ∙ heard_is c.args.self.now.heard c.args.now)
          (c.expire.ensures.none c.in_default.is),
      refl,
    )

pub returns-in_default-clause-back : goal.returns-in_default-clause-back
returns-in_default-clause-back c =
    inr (
      lives_on c.args.self.now.book.seats c.args.self.now.book.history c.args.self.now.heard c.unwrap_or-heard.result c.args.now c.requires.seats (c.unwrap_or-heard.ensures ∙ heard_is c.args.self.now.heard c.args.now)
          (c.expire.ensures.none c.in_default.is),
      c.in_default.ensures.unchanged,
    )
