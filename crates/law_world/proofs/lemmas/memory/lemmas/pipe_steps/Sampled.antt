-- The endpoints of the sample's driver, as its queues tell them.
use Rattle.std.proofs.Common.{◌≡◌, ℕ, zero, suc, ◌*◌, ◌==◌, Bool, true, false, slice_get, Option, Some, None, ap, refl, sym, subst, ◌∙◌, inl, inr}
use Rattle.std.specs.Prelude.{◌⊎◌}
use Rattle.std.proofs.lemmas.Bool.{false≢true, true≢false, eqb-true}
use Rattle.std.proofs.lemmas.Option.{same_Some}
use Rattle.drv_table.specs.declared.content.Command.{Command}
use Rattle.drv_table.specs.declared.content.Command.TheVariants as unfinished
use Rattle.drv_table.specs.declared.content.Endpoint.{Endpoint}
use Rattle.law_driver.specs.queued_drivers.Queued.{with_queue, queued}
use Rattle.law_driver.specs.queued_drivers.CommandsWorked.{second}
use Rattle.law_controller.specs.controlled_streams.Opened.{with_stream}
use Rattle.law_driver_ring.specs.fed_queues.Places.{IsMet}
use Rattle.law_world.specs.memory.StepSamples.{key_driver}
use Rattle.law_world.specs.memory.pipe_steps.Laws.{IsBegun, as_in}
use Rattle.law_world.specs.memory.pipe_steps.Pipes.{AsksTheWay, AreByWay}
use Rattle.law_world.specs.memory.pipe_steps.Samples.{both_ins, one_in, no_outs, named, unnamed, ends, key_end, key_packets, packets, waits, takes_none}

abbrev Ways : (ℕ → ℕ → Bool) → (ℕ → Bool) → Endpoint → Type 0
Ways sends ins x = AsksTheWay sends unnamed ins no_outs ends (32 * x.queue) x.desc.name.way

by_number : (sends : ℕ → ℕ → Bool) (ins : ℕ → Bool) → (ins 4160 ≡ true) ⊎ (sends 1 1 ≡ false) → (ins 4352 ≡ true) ⊎ (sends 2 1 ≡ false)
    → (e : ℕ) (x : Endpoint) → slice_get (queued key_driver).endpoints e ≡ Some x → IsMet (queued key_driver) e x → Ways sends ins x
by_number sends ins bulk key zero x here met = subst (Ways sends ins) (same_Some _ x here) (refl, bulk)
by_number sends ins bulk key (suc zero) x here met = subst (Ways sends ins) (same_Some _ x here) (refl, key)
by_number sends ins bulk key (suc (suc zero)) x here met =
    absurd (true≢false (ap (λ (y : Endpoint). y.gone) (same_Some _ x here) ∙ met.there.kept))
by_number sends ins bulk key (suc (suc (suc e))) x here met = cc

pub both_ways : AreByWay (queued key_driver) named unnamed both_ins no_outs ends
both_ways = record { each = by_number named both_ins (inl refl) (inl refl); head = (refl, refl) }

pub no_ways : AreByWay (queued key_driver) unnamed unnamed no_outs no_outs ends
no_ways = record { each = by_number unnamed no_outs (inr refl) (inr refl); head = (refl, refl) }

never_opens : (b : ℕ) → ◌≡◌ {A = Option Command} None (Some (unfinished.Open b)) → ⊥
never_opens b is = cc

key_met : IsMet (queued key_driver) 1 (with_queue (record second { next = Some 3 }))
key_met = record { there = record { linked = λ is. never_opens 136 is; kept = refl }; near = refl }

key_way : (sends takes : ℕ → ℕ → Bool) (ins outs : ℕ → Bool) → AreByWay (queued key_driver) sends takes ins outs ends
    → (outs 4352 ≡ false) × ((ins 4352 ≡ true) ⊎ (sends 2 1 ≡ false))
key_way sends takes ins outs k = k.each 1 (with_queue (record second { next = Some 3 })) refl key_met

pub left_out : AreByWay (queued key_driver) named unnamed one_in no_outs ends → ⊥
left_out k = by (key_way named unnamed one_in no_outs k).1
  where
    by : (one_in 4352 ≡ true) ⊎ (named 2 1 ≡ false) → ⊥
    by (inl on) = false≢true on
    by (inr none) = true≢false none

pub turned : AreByWay (queued key_driver) unnamed named no_outs both_ins ends → ⊥
turned k = true≢false (key_way unnamed named no_outs both_ins k).0

pub begins : IsBegun named unnamed packets waits takes_none one_in no_outs ends 0 4352 key_end (with_stream one_in 4352) no_outs
begins = as_in refl refl refl apart (record { sender = record { left = key_packets; sends = false }; is = refl; left = refl; sends = refl })
  where
    apart : (n : ℕ) → (n == 4160) ≡ true → (ends n).addr ≡ 2 → (ends n).ep ≡ 1 → ⊥
    apart n on addr ep = let first : (ends n).addr ≡ 1 = ap (λ (i : ℕ). (ends i).addr) (eqb-true n 4160 on) in one_two (sym first ∙ addr)
      where
        one_two : ◌≡◌ {A = ℕ} 1 2 → ⊥
        one_two e = cc
