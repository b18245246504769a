use Rattle.std.proofs.Common.{◌≡◌, ◌+◌, ◌∙◌, ◌++◌, ◌∷◌, [], length, drop, ap, arith, length-drop, length-append}
use Rattle.bulk_only.proofs.Packets.{size_of_waiting, total_more, long_more, few_packets, cut_more}
use Rattle.bulk_only.specs.Replies.{total, are_long, cut_into, with_packet}
use Rattle.std.proofs.lemmas.Bool.{cond-true}
use Rattle.std.proofs.lemmas.List.{drop-append-le}
use Rattle.bulk_only.proofs.replies.Replies.push.Goals as goal

pub make_room-self-inside-requires-clause-fits : goal.make_room-self-inside-requires-clause-fits
make_room-self-inside-requires-clause-fits c =
    let r = c.self.inside in
    let q = rw (← c.self.view_is) at c.requires.room in
    let size = size_of_waiting r.lengths.items r.bytes.items r.sent c.self.invariant.0 in
    omega (arith, q, size, c.self.invariant.0)

pub push_back_reserved-requires : goal.push_back_reserved-requires
push_back_reserved-requires c =
    let r = c.self.inside in
    let few = few_packets r.lengths.items c.self.invariant.1 in
    omega (arith, few, c.self.invariant.0, c.self.invariant.2, c.self.invariant.4, r.lengths.ok.0)

pub invariant_of-self : goal.invariant_of-self
invariant_of-self c =
    let r = c.self.inside in
    let m = c.make_room-self-inside in
    let x = c.extend_from_slice-fits in
    let n = length c.args.packet.now in
    let ok = x.ensures.succeeds (omega (arith, m.ensures.fits, m.ensures.capacity, c.self.invariant.3, m.new.bytes.ok.0)) in
    let items : x.new.self.items ≡ m.new.bytes.items ++ c.args.packet.now = x.ensures.items ∙ cond-true _ _ _ ok in
    let t : total c.push_back_reserved.new.self.items ≡ total r.lengths.items + n = ap total c.push_back_reserved.ensures.items ∙ total_more r.lengths.items n in
    let l : length x.new.self.items ≡ length m.new.bytes.items + n = ap length items ∙ length-append m.new.bytes.items c.args.packet.now in (
      omega (arith, t, l, m.ensures.len, c.self.invariant.0),
      ap are_long c.push_back_reserved.ensures.items ∙ long_more r.lengths.items n c.self.invariant.1 c.requires.shortest,
      omega (arith, l, m.ensures.fits),
      omega (arith, x.ensures.capacity, m.ensures.capacity, c.self.invariant.3),
      omega (arith, c.self.invariant.4, c.push_back_reserved.ensures.capacity),
    )

pub returns : goal.returns
returns c =
    let r = c.self.inside in
    let m = c.make_room-self-inside in
    let x = c.extend_from_slice-fits in
    let n = length c.args.packet.now in
    let ok = x.ensures.succeeds (omega (arith, m.ensures.fits, m.ensures.capacity, c.self.invariant.3, m.new.bytes.ok.0)) in
    let items : x.new.self.items ≡ m.new.bytes.items ++ c.args.packet.now = x.ensures.items ∙ cond-true _ _ _ ok in
    let all : total r.lengths.items ≡ length (drop r.sent r.bytes.items) = rw (length-drop r.sent r.bytes.items) (omega (arith, c.self.invariant.0)) in
    let p = ap (λ ns. cut_into ns (drop m.result x.new.self.items)) c.push_back_reserved.ensures.items
    ∙ ap (λ bs. cut_into (r.lengths.items ++ n ∷ []) bs)
    (ap (λ bs. drop m.result bs) items ∙ drop-append-le m.result m.new.bytes.items c.args.packet.now m.ensures.sent ∙ ap (λ t. t ++ c.args.packet.now) m.ensures.left)
    ∙ cut_more r.lengths.items (drop r.sent r.bytes.items) c.args.packet.now all in
    ap (λ t. record { packets = t; room = r.room }) p ∙ ap (with_packet c.args.packet.now) c.self.view_is
