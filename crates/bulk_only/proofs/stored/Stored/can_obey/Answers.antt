use Rattle.std.proofs.Common.{◌≡◌, ◌+◌, ◌<◌, ◌∙◌, ◌&&◌, true, ap, sym, arith}
use Rattle.std.proofs.lemmas.Bool.{and_right, lt-leb, le-leb}
use Rattle.bulk_only.specs.Commands.{could_go_on, commands_of}
use Rattle.bulk_only.specs.Contents.{fits, reply_lengths}
use Rattle.bulk_only.specs.Fronts.{is_front}
use Rattle.bulk_only.specs.Replies.{bytes_in}
use Rattle.bulk_only.proofs.Steps.{step, stop, and_true}
use Rattle.bulk_only.proofs.stored.Stored.can_obey.Goals as goal

pub returns-then-left-length : goal.returns-then-left-length
returns-then-left-length c =
    let bytes = c.args.bytes.now in
    let s = step bytes c.loop-block.at c.in-Some.block c.loop-block.invariant.within (sym c.in-Some.ensures.block) in
    let more : c.args.self.now.replies.room < bytes_in c.args.self.now.replies.packets + reply_lengths (commands_of bytes)
    = omega (arith, c.loop-block.invariant.left, s.lengths, c.reply_length-length.ensures, c.if-left-length.true) in
    sym (and_right (could_go_on bytes) (fits (commands_of bytes) c.args.self.now.replies)
    (lt-leb (bytes_in c.args.self.now.replies.packets + reply_lengths (commands_of bytes)) c.args.self.now.replies.room more))

pub overflow_add-at : goal.overflow_add-at
overflow_add-at c =
    let s = step c.args.bytes.now c.loop-block.at c.in-Some.block c.loop-block.invariant.within (sym c.in-Some.ensures.block) in
    omega (arith, s.whole, c.size-at.ensures, c.in-Some.ensures.bound)

pub loop-block-preserved : goal.loop-block-preserved
loop-block-preserved c =
    let s = step c.args.bytes.now c.loop-block.at c.in-Some.block c.loop-block.invariant.within (sym c.in-Some.ensures.block) in
    rw c.size-at.ensures (record {
      within = s.whole;
      rest = sym s.rest ∙ c.loop-block.invariant.rest;
      left = omega (arith, c.loop-block.invariant.left, s.lengths, c.reply_length-length.ensures, c.if-left-length.false);
    })

pub returns : goal.returns
returns c =
    let bytes = c.args.bytes.now in
    let s = stop bytes c.loop-block.at (sym c.whole_block.ensures.block ∙ c.in_default.is) in
    let front : c.is_front.result ≡ could_go_on bytes = c.is_front.ensures ∙ ap is_front (sym s.rest ∙ c.loop-block.invariant.rest) in
    let fit : fits (commands_of bytes) c.args.self.now.replies ≡ true
    = le-leb (bytes_in c.args.self.now.replies.packets + reply_lengths (commands_of bytes)) c.args.self.now.replies.room
    (omega (arith, c.loop-block.invariant.left, s.lengths)) in
    front ∙ and_true (could_go_on bytes) ∙ ap (λ b. could_go_on bytes && b) (sym fit)
