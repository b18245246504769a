use Rattle.std.proofs.Common.{◌≡◌, ℕ, ◌+◌, ◌-◌, ◌*◌, ◌%◌, List, length, drop, arith, ap, sym, ◌∙◌}
use Rattle.drv_table.specs.Words.{buffer_needs}
use Rattle.drv_table.specs.IsoOffers.{Descriptors, all_descriptors, one_descriptor, slot_runs, total_of}
use Rattle.drv_frames_content.specs.Part.{Held, with_notes}
use Rattle.drv_frames.proofs.Listed.{listed_more, listed_all}
use Rattle.drv_frames.proofs.descriptors.write_descriptors.Goals as goal

pub loop-k-preserved : goal.loop-k-preserved
loop-k-preserved c =
    let k = c.args.book.now in
    let e = c.args.e in
    let x = c.args.desc.now in
    let s = c.args.slots.now in
    let n = c.args.count in
    let i = c.loop-k.k in
    let seed = c.loop-k.first_byte in
    let each = 1 + c.run_count.result in
    let notes = c.write_one.new.periodic.periodic.notes in
    let a : Descriptors = record { notes = c.loop-k.periodic.periodic.notes; transfers = c.loop-k.transfers.items; memory = c.loop-k.mem } in
    let b : Descriptors = record { notes = notes; transfers = c.write_one.new.transfers.items; memory = c.write_one.new.mem } in
    let size : each ≡ 1 + slot_runs s = ap (λ (r : ℕ). 1 + r) (c.run_count.ensures.count ∙ ap (λ (t : ℕ). length (buffer_needs t)) c.total_bytes-total.ensures.total) in
    let next : c.next_seed-first_byte.result ≡ (seed + total_of s) % 256 = c.next_seed-first_byte.ensures ∙ ap (λ (t : ℕ). (seed + t) % 256) c.total_bytes-total.ensures.total in
    let one : b ≡ one_descriptor k e x s seed (drop (each * i) c.args.runs.now) a =
    c.write_one.ensures.written ∙ ap (λ (rs : List ℕ). one_descriptor k e x s seed rs a) c.blocks_from-own.ensures in
    record {
      stands = c.write_one.ensures.stands;
      leads =
          ap (λ (d : Descriptors). all_descriptors k e x s (n - (i + 1)) c.next_seed-first_byte.result (drop (each * (i + 1)) c.args.runs.now) d) one
          ∙ ap (λ (f : ℕ). all_descriptors k e x s (n - (i + 1)) f (drop (each * (i + 1)) c.args.runs.now) (one_descriptor k e x s seed (drop (each * i) c.args.runs.now) a)) next
          ∙ listed_more k e x s n i seed each c.args.runs.now a c.loop-k-test.true size
          ∙ c.loop-k.invariant.leads;
      rest = c.write_one.ensures.rest ∙ ap (λ (h : Held). with_notes h notes) c.loop-k.invariant.rest;
      len = omega (arith, c.write_one.ensures.len, c.loop-k.invariant.len);
      capacity = c.write_one.ensures.capacity ∙ c.loop-k.invariant.capacity;
    }

pub returns-clause-written : goal.returns-clause-written
returns-clause-written c =
    let a : Descriptors = record { notes = c.loop-k.periodic.periodic.notes; transfers = c.loop-k.transfers.items; memory = c.loop-k.mem } in
    sym (listed_all c.args.book.now c.args.e c.args.desc.now c.args.slots.now c.args.count c.loop-k.k c.loop-k.first_byte (drop ((1 + c.run_count.result) * c.loop-k.k) c.args.runs.now) a (omega (arith, c.loop-k-test.false)))
    ∙ c.loop-k.invariant.leads
