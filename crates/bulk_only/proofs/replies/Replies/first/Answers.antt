use Rattle.std.proofs.Common.{◌≡◌, ◌+◌, ◌-◌, ◌<◌, ◌∙◌, length, take, drop, get_or, Some, refl, ap, sym, arith}
use Rattle.bulk_only.proofs.Packets.{first_packet, no_packet}
use Rattle.std.proofs.lemmas.Bool.{false≢true}
use Rattle.bulk_only.proofs.replies.Replies.first.Goals as goal

pub returns-in-Some : goal.returns-in-Some
returns-in-Some c =
    let r = c.self.inside in
    let n = c.in-Some.length.now in
    let long : 0 < length r.lengths.items = omega (arith, c.in-Some.ensures.variant.0 refl, r.lengths.ok.0) in
    let size : r.sent + n - r.sent ≡ n = omega arith in
    rw (← c.self.view_is)
    (ap Some (ap (λ k. take k (drop r.sent c.deref.result.now)) (size ∙ c.in-Some.ensures.lookup)
    ∙ ap (λ bs. take (get_or r.lengths.items 0 n) (drop r.sent bs)) c.deref.ensures.value)
    ∙ sym (first_packet r.lengths.items (drop r.sent r.bytes.items) n long))

pub returns-in-None : goal.returns-in-None
returns-in-None c =
    let r = c.self.inside in
    rw (← c.self.view_is) (sym (no_packet r.lengths.items (drop r.sent r.bytes.items)
    (λ (h : 0 < length r.lengths.items). false≢true (c.in-None.ensures.variant.1 (omega (arith, h, r.lengths.ok.0))))))
