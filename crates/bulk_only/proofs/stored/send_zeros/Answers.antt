use Rattle.std.proofs.Common.{◌≡◌, ◌+◌, ◌-◌, ◌∙◌, ◌++◌, ap, arith}
use Rattle.bulk_only.specs.Contents.{zero_blocks}
use Rattle.bulk_only.specs.Replies.{bytes_in}
use Rattle.bulk_only.proofs.Packets.{one_zero_more, bytes_in_one}
use Rattle.bulk_only.proofs.stored.send_zeros.Goals as goal

pub loop-k-preserved : goal.loop-k-preserved
loop-k-preserved c =
    let i = c.loop-k.invariant in
    let size : bytes_in c.push.new.self.packets ≡ bytes_in c.loop-k.replies.packets + 512 = ap (λ w. bytes_in w.packets) c.push.ensures ∙ bytes_in_one c.loop-k.replies.packets _ in
    record {
      room = ap (λ w. w.room) c.push.ensures ∙ i.room;
      packets = ap (λ w. w.packets ++ zero_blocks (c.args.blocks - (c.loop-k._k + 1))) c.push.ensures
          ∙ one_zero_more c.loop-k._k c.args.blocks c.loop-k.replies.packets c.loop-k-test.true ∙ i.packets;
      size = omega (arith, size, i.size);
    }
