use Rattle.ring_script.proofs.Drafting.{call_ends, listing_ends, whole_ends}
use Rattle.ring_script.proofs.draft.Draft.add.Goals as goal

pub returns-in-Call-clause-none : goal.returns-in-Call-clause-none
returns-in-Call-clause-none c =
    rw (c.in-Listing.is, c.in-Call.is) (call_ends c.list_call.result c.in-Listing.config c.in-Listing.calls c.in-Call.call c.list_call.ensures.none)

pub returns-in-Listing-clause-none : goal.returns-in-Listing-clause-none
returns-in-Listing-clause-none c =
    rw c.in-Listing.is (listing_ends c.in-Listing.config c.in-Listing.calls c.args.line c.in_default-line-2.not-Go (λ call e below. c.in_default-line-2.not-Call call e))

pub returns-clause-none : goal.returns-clause-none
returns-clause-none c = rw c.in-Whole.is (whole_ends c.in-Whole.field-0 c.args.line)
