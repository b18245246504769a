use Rattle.std.proofs.Common.{◌≡◌, ◌+◌, ◌∙◌, drop, ap, sym, arith}
use Rattle.bulk_only.specs.Commands.{commands_of, size_of, with_data}
use Rattle.bulk_only.specs.Contents.{obeyed, obeyed_one}
use Rattle.bulk_only.specs.Replies.{bytes_in}
use Rattle.bulk_only.proofs.Steps.{step, stop, obeyed_more, obeyed_none, data_is, room_after}
use Rattle.bulk_only.proofs.stored.Stored.obey_all.Goals as goal

pub overflow_add-end : goal.overflow_add-end
overflow_add-end c =
    let s = step c.args.bytes.now c.loop-block.at c.in-Some.block c.loop-block.invariant.within (sym c.in-Some.ensures.block) in
    omega (arith, s.whole, c.size.ensures, c.in-Some.ensures.bound)

pub overflow_add-at : goal.overflow_add-at
overflow_add-at c =
    let s = step c.args.bytes.now c.loop-block.at c.in-Some.block c.loop-block.invariant.within (sym c.in-Some.ensures.block) in
    omega (arith, s.whole, c.in-Some.ensures.bound)

pub obey-requires-clause-room : goal.obey-requires-clause-room
obey-requires-clause-room c =
    let s = step c.args.bytes.now c.loop-block.at c.in-Some.block c.loop-block.invariant.within (sym c.in-Some.ensures.block) in
    omega (arith, s.lengths, c.loop-block.invariant.room)

pub loop-block-preserved : goal.loop-block-preserved
loop-block-preserved c =
    let bytes = c.args.bytes.now in
    let at = c.loop-block.at in
    let b = c.in-Some.block in
    let i = c.loop-block.invariant in
    let old = c.loop-block.self in
    let s = step bytes at b i.within (sym c.in-Some.ensures.block) in
    let d = data_is bytes c.part.result.0.now c.part.result.1.now at (at + c.size.result) b (ap (λ n. at + n) c.size.ensures) c.part.ensures.bytes in
    let new : c.obey.new.self ≡ obeyed_one (with_data (drop at bytes) b) old = c.obey.ensures ∙ ap (λ x. obeyed_one x old) d in
    let size = ap (λ x. bytes_in x.replies.packets) new ∙ room_after (with_data (drop at bytes) b) old in
    let room = ap (λ x. x.replies.room) new in
    rw c.size.ensures (record {
      within = s.whole;
      rest = sym s.rest ∙ i.rest;
      room = omega (arith, size, room, s.lengths, i.room);
      after = ap (λ x. obeyed (commands_of (drop (at + size_of b) bytes)) x) new
          ∙ sym (obeyed_more (with_data (drop at bytes) b) (commands_of (drop (at + size_of b) bytes)) old)
          ∙ ap (λ cs. obeyed cs old) (sym s.commands) ∙ i.after;
    })

pub returns-clause-after : goal.returns-clause-after
returns-clause-after c =
    let s = stop c.args.bytes.now c.loop-block.at (sym c.whole_block.ensures.block ∙ c.in_default.is) in
    sym (ap (λ cs. obeyed cs c.loop-block.self) s.commands ∙ obeyed_none c.loop-block.self) ∙ c.loop-block.invariant.after

pub returns-clause-rest : goal.returns-clause-rest
returns-clause-rest c =
    let s = stop c.args.bytes.now c.loop-block.at (sym c.whole_block.ensures.block ∙ c.in_default.is) in
    sym s.rest ∙ c.loop-block.invariant.rest
