use Rattle.std.proofs.Common.{◌≡◌, ◌+◌, ◌*◌, ◌∙◌, ◌++◌, ap, arith}
use Rattle.bulk_only.specs.Blocks.{block_size, data_length}
use Rattle.bulk_only.specs.Contents.{Stored, data_packets, sent_by, status_packet, stores, with_packets}
use Rattle.bulk_only.specs.Replies.{Waiting, bytes_in, with_packet}
use Rattle.bulk_only.proofs.Steps.{by_parts_is, data_sent}
use Rattle.bulk_only.proofs.stored.Stored.obey.Goals as goal

pub send_status-requires : goal.send_status-requires
send_status-requires c =
    let b = c.args.block.now in
    let p = c.passes-passed.result in
    let old = c.args.self.now in
    let bytes = c.args.front.now ++ c.args.back.now in
    let f : Stored → Stored = λ s. record s { bytes = stores b.operation p (block_size * b.lba) bytes s.bytes } in
    let r : c.store.new.self.replies ≡ with_packets (data_packets b.operation p old.bytes b) old.replies
    = ap (λ (s : Stored). s.replies) (c.store.ensures ∙ ap f c.send_data.ensures) in
    let size : bytes_in c.store.new.self.replies.packets ≡ bytes_in old.replies.packets + sent_by b.operation (data_length b)
    = ap (λ (w : Waiting). bytes_in w.packets) r ∙ data_sent p b old c.passes-passed.ensures in
    let room : c.store.new.self.replies.room ≡ old.replies.room = ap (λ (w : Waiting). w.room) r in
    omega (arith, size, room, c.requires.room)

pub returns : goal.returns
returns c =
    let b = c.args.block.now in
    let p = c.passes-passed.result in
    let bytes = c.args.front.now ++ c.args.back.now in
    let f : Stored → Stored = λ s. record s { bytes = stores b.operation p (block_size * b.lba) bytes s.bytes } in
    let g : Stored → Stored = λ s. record s { replies = with_packet (status_packet p b) s.replies } in
    c.send_status.ensures ∙ ap g (c.store.ensures ∙ ap f c.send_data.ensures)
    ∙ by_parts_is p (record { block = b; bytes = bytes }) c.args.self.now c.passes-passed.ensures
