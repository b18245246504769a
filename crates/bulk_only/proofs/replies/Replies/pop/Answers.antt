use Rattle.std.proofs.Common.{◌≡◌, ◌+◌, ◌∙◌, ◌∷◌, nat_le, length, drop, ap, sym, arith}
use Rattle.bulk_only.proofs.Packets.{no_first, cut_rest}
use Rattle.bulk_only.specs.Replies.{total, are_long, cut_into, without_first}
use Rattle.std.proofs.lemmas.Bool.{and_parts}
use Rattle.std.proofs.lemmas.List.{drop-drop}
use Rattle.bulk_only.proofs.replies.Replies.pop.Goals as goal

pub invariant_of-self : goal.invariant_of-self
invariant_of-self c =
    let r = c.self.inside in
    let e : r.lengths.items ≡ c.in-Some.length ∷ c.pop_front.new.self.items = c.in-Some.ensures.items in
    let t : total r.lengths.items ≡ c.in-Some.length + total c.pop_front.new.self.items = ap total e in
    let l = and_parts (nat_le 13 c.in-Some.length) (are_long c.pop_front.new.self.items) (sym (ap are_long e) ∙ c.self.invariant.1) in
    (omega (arith, c.self.invariant.0, t), l.1, c.self.invariant.2, c.self.invariant.3, omega (arith, c.self.invariant.4, c.in-Some.ensures.capacity))

pub returns-in-Some : goal.returns-in-Some
returns-in-Some c =
    let r = c.self.inside in
    let e : r.lengths.items ≡ c.in-Some.length ∷ c.pop_front.new.self.items = c.in-Some.ensures.items in
    let p : drop 1 (cut_into r.lengths.items (drop r.sent r.bytes.items)) ≡ cut_into c.pop_front.new.self.items (drop (r.sent + c.in-Some.length) r.bytes.items)
    = ap (λ ns. drop 1 (cut_into ns (drop r.sent r.bytes.items))) e ∙ cut_rest c.in-Some.length c.pop_front.new.self.items (drop r.sent r.bytes.items)
    ∙ ap (λ bs. cut_into c.pop_front.new.self.items bs) (drop-drop c.in-Some.length r.sent r.bytes.items) in
    ap (λ t. record { packets = t; room = r.room }) (sym p) ∙ ap without_first c.self.view_is

pub returns-in-None : goal.returns-in-None
returns-in-None c =
    let r = c.self.inside in
    let old : length r.lengths.items ≡ 0 = omega (arith, c.in-None.ensures.cases.0, r.lengths.ok.0) in
    let new : length c.pop_front.new.self.items ≡ 0 = omega (arith, c.in-None.ensures.cases.1, c.pop_front.new.self.ok.0) in
    ap (λ t. record { packets = t; room = r.room }) (no_first r.lengths.items c.pop_front.new.self.items (drop r.sent r.bytes.items) old new) ∙ ap without_first c.self.view_is
