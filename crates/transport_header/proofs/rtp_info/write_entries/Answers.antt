use Rattle.std.proofs.Common.{◌≡◌, ◌≤◌, ◌+◌, ◌++◌, length, drop, ◌<◌, vec_len, vec_capacity, [], arith, ap, sym, ◌∙◌, append-nil}
use Rattle.std.proofs.lemmas.List.{at_drop_all}
use Rattle.transport_header.specs.RtpInfo.{item_text, rtp_info_text}
use Rattle.transport_header.proofs.Joined.{items_from, all_items, fits, on_err}
use Rattle.transport_header.proofs.rtp_info.write_entries.Goals as goal

pub returns-in_err-write_item-clause-full : goal.returns-in_err-write_item-clause-full
returns-in_err-write_item-clause-full c =
    let within : length c.loop-i.out.items + length (item_text c.loop-i.i c.index-entries-i.result) ≤ length c.args.out.now.items + length (rtp_info_text c.args.entries.now)
    = fits _ _ _ _ _ c.loop-i-test.true c.index-entries-i.is c.loop-i.invariant.told in
    let bound : vec_capacity c.args.out.now < vec_len c.args.out.now + length (rtp_info_text c.args.entries.now)
    = omega (arith, within, c.in_err-write_item.ensures.full) in
    on_err _ _ bound

pub returns-clause-text : goal.returns-clause-text
returns-clause-text c =
    let nothing : items_from c.loop-i.i (drop c.loop-i.i c.args.entries.now) ≡ items_from c.loop-i.i [] = at_drop_all (items_from c.loop-i.i) c.args.entries.now c.loop-i.i c.loop-i-test.false in
    sym (append-nil _) ∙ ap (λ t. c.loop-i.out.items ++ t) (sym nothing) ∙ c.loop-i.invariant.told ∙ ap (λ t. c.args.out.now.items ++ t) (all_items c.args.entries.now)
