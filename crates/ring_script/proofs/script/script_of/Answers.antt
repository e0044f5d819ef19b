use Rattle.std.proofs.Common.{◌++◌, ◌∷◌, [], rules, sym, ap, ◌∙◌}
use Rattle.std.specs.Vec.Iter.{into_iter_items, into_iter_len}
use Rattle.ring_script.specs.Scripts.{put_call}
use Rattle.ring_script.proofs.Sorting.{one_out, publisher_calls-push, publisher_calls-seat, all_seats-publisher, all_seats-seat, all_seats-none}
use Rattle.ring_script.proofs.script.script_of.Goals as goal

pub loop-line-init : goal.loop-line-init
loop-line-init c = record { going = search rules; publisher = search rules; table = c.in_ok-seats.ensures ∙ all_seats-none c.args.seats }

pub loop-line-preserved-in-Continue-branch-2 : goal.loop-line-preserved-in-Continue-branch-2
loop-line-preserved-in-Continue-branch-2 c =
    let old = c.loop-line.invariant in
    let call = c.in-ByPublisher.call in
    record {
      going = one_out c.in-Some.line (into_iter_items c.next.new.self) (into_iter_len c.next.new.self) old.going c.in-Some.ensures.steps.0 c.in-Some.ensures.steps.1;
      publisher = rw c.in-ByPublisher.is (c.in_ok-push-in-ByPublisher.ensures.items ∙ ap (λ l. l ++ call ∷ []) old.publisher ∙ sym (publisher_calls-push c.loop-line.yielded call));
      table = rw c.in-ByPublisher.is (old.table ∙ sym (all_seats-publisher c.args.seats c.loop-line.yielded call));
    }

pub loop-line-preserved : goal.loop-line-preserved
loop-line-preserved c =
    let old = c.loop-line.invariant in
    let seat = c.in-BySeat.seat in
    let call = c.in-BySeat.call in
    record {
      going = one_out c.in-Some.line (into_iter_items c.next.new.self) (into_iter_len c.next.new.self) old.going c.in-Some.ensures.steps.0 c.in-Some.ensures.steps.1;
      publisher = rw c.in-BySeat.is (old.publisher ∙ sym (publisher_calls-seat c.loop-line.yielded seat call));
      table = rw c.in-BySeat.is (c.in_ok-put_call-in-BySeat.ensures ∙ ap (λ t. put_call t seat call) old.table ∙ sym (all_seats-seat c.args.seats c.loop-line.yielded seat call));
    }
