-- The worked drivers.
use Rattle.std.proofs.Common.{◌≡◌, ℕ, zero, suc, ◌*◌, [], ◌∷◌, ◌++◌, true, false, slice_get, Option, Some, None, refl, subst, arith, ◌≢◌}
use Rattle.std.proofs.lemmas.Bool.{true≢false}
use Rattle.std.proofs.lemmas.Option.{same_Some}
use Rattle.usb_base.specs.declared.packets.Way.{Way}
use Rattle.usb_base.specs.declared.packets.Way.TheVariants as ways
use Rattle.drv_table.specs.declared.content.Command.{Command}
use Rattle.drv_table.specs.declared.content.Command.TheVariants as unfinished
use Rattle.drv_table.specs.declared.content.Endpoint.{Endpoint}
use Rattle.drv_table.specs.Offers.{new_endpoint}
use Rattle.law_driver.specs.run_owners.Worked.{bulk}
use Rattle.law_structures.specs.lent_structures.Structures.{StructureSets}
use Rattle.law_ring.specs.Hand.{Empty}
use Rattle.claims_driver.specs.Scripts.{receives}
use Rattle.law_queues.specs.whole_sends.Whole.{AreSentWhole}
use Rattle.law_queues.specs.whole_sends.Samples.{order, ahead, behind, working, parts, parts_halted, queue_of, owned, written}
use Rattle.law_queues.proofs.lemmas.whole_sends.Sampled.{sent_whole, halted_whole, written_whole}
use Rattle.law_world.specs.streams.put_laws.SentSamples.{one_endpoint, left_second, Sends}

-- ---- its one endpoint

abbrev it : Way → Endpoint
it way = new_endpoint (record bulk { name = record { addr = 5; num = 2; way = way } }) 2 9

only : (way : Way) (e : ℕ) (x : Endpoint) (P : Endpoint → Type 0) → slice_get (it way ∷ []) e ≡ Some x → P (it way) → P x
only way zero x P here is = subst P (same_Some (it way) x here) is
only way (suc e) x P here is = absurd (cc)

sends_by : (c : Option Command) (parts : StructureSets) → AreSentWhole order (ahead ++ behind) Empty 64 (parts 64) → Sends (one_endpoint ways.Out c) parts
sends_by c parts is e x here met sends = only ways.Out e x (λ (z : Endpoint). AreSentWhole order (ahead ++ behind) Empty (32 * z.queue) (parts (32 * z.queue))) here is

-- ---- the queues

pub at_work : Sends (one_endpoint ways.Out None) parts
at_work = sends_by None parts sent_whole

pub done_too : Sends (one_endpoint ways.Out None) written
done_too = sends_by None written written_whole

pub halted_too : Sends (one_endpoint ways.Out None) parts_halted
halted_too = sends_by None parts_halted halted_whole

no_open : (b : ℕ) → ◌≡◌ {A = Option Command} None (Some (unfinished.Open b)) → ⊥
no_open b same = cc

one_zero : ◌≡◌ {A = ℕ} 1 0 → ⊥
one_zero same = omega (arith, same)

pub never_left : Sends (one_endpoint ways.Out None) (owned (queue_of working left_second)) → ⊥
never_left k = one_zero ((k 0 (it ways.Out) refl (record { there = record { linked = no_open 2; kept = refl }; near = refl }) refl).whole 192 left_second refl refl refl)

pub not_asked : Sends (one_endpoint ways.In None) (owned (queue_of working left_second))
not_asked e x here met sends =
    absurd (true≢false (only ways.In e x (λ (z : Endpoint). receives z.desc.name.way ≡ false → true ≡ false) here (λ same. same) sends))

pub not_met : Sends (one_endpoint ways.Out (Some (unfinished.Open 2))) (owned (queue_of working left_second))
not_met e x here met sends =
    absurd (only ways.Out e x (λ (z : Endpoint). (one_endpoint ways.Out (Some (unfinished.Open 2))).command ≢ Some (unfinished.Open z.queue) → ⊥) here (λ meets. meets refl) met.there.linked)

pub two_of_three : ◌≡◌ {A = ℕ} 2 3 → ⊥
two_of_three same = omega (arith, same)
