-- The worlds of the worked rows.
use Rattle.std.proofs.Common.{◌≡◌, ℕ, zero, suc, ◌*◌, Bool, false, List, [], ◌∷◌, ◌++◌, slice_get, Option, Some, None, ap, refl, sym, subst, ◌∙◌, inr}
use Rattle.std.specs.List.{concat}
use Rattle.std.proofs.lemmas.Option.{same_Some}
use Rattle.claims_base.specs.Prefix.{IsPrefix}
use Rattle.usb_base.specs.declared.endpoints.EndCause.{EndCause}
use Rattle.bus_wire.specs.Bus.{fixed_of}
use Rattle.drv_table.specs.declared.content.Command.{Command}
use Rattle.drv_table.specs.declared.content.Command.TheVariants as unfinished
use Rattle.drv_table.specs.declared.content.Endpoint.{Endpoint}
use Rattle.drv_table.specs.Harvests.{buffer_bytes}
use Rattle.law_driver.specs.endpoint_lives.Lives.{told_end}
use Rattle.law_ring.specs.Hand.{Empty}
use Rattle.law_ring.specs.OutBus.{Taker}
use Rattle.law_devices.specs.scripted_takers.Takers.{taker_of}
use Rattle.law_queues.specs.whole_sends.Whole.{AreSentWhole}
use Rattle.law_queues.specs.whole_sends.Samples.{order, ahead, behind, parts}
use Rattle.law_queues.proofs.lemmas.whole_sends.Sampled.{sent_whole}
use Rattle.law_world.specs.streams.put_laws.Held.{held_bytes}
use Rattle.law_world.specs.streams.put_laws.ByteSamples.{five}
use Rattle.law_world.specs.streams.put_laws.HeldPuts.{HoldsPuts}
use Rattle.law_world.specs.streams.put_laws.Owed.{rest_of, Owes}
use Rattle.law_world.specs.streams.put_laws.OwedSamples.{buffers, pieces, half_sent, driver_of}
use Rattle.law_world.specs.streams.put_laws.TakenPuts.{puts_of}
use Rattle.law_world.specs.streams.put_laws.TakenSamples.{two_puts}
use Rattle.law_world.specs.steps.Streaming.{wired}
use Rattle.law_world.specs.streams.sending_worlds.LeavingSent.{IsSent}
use Rattle.law_world.specs.streams.sending_worlds.LeaveSamples.{going, cancelled, five_put, at_half, world_of}

none_behind : {X : Type 0} (x z : X) (i : ℕ) → slice_get (x ∷ []) (suc i) ≡ Some z → ⊥
none_behind x z i here = cc

-- what is so of the only one is so of all
only_one : {X : Type 0} (P : ℕ → X → Type 0) (y : X) → P 0 y → (e : ℕ) (x : X) → slice_get (y ∷ []) e ≡ Some x → P e x
only_one P y h zero x here = subst (P 0) (same_Some y x here) h
only_one P y h (suc e) x here = absurd (none_behind y x e here)

none_open : (q : ℕ) → ◌≡◌ {A = Option Command} None (Some (unfinished.Open q)) → ⊥
none_open q is = cc

none_some : (cause : EndCause) → ◌≡◌ {A = Option EndCause} None (Some cause) → ⊥
none_some cause is = cc

nine_one : (bs cs : List ℕ) → 9 ∷ bs ≡ 1 ∷ cs → ⊥
nine_one bs cs is = cc

six_last : (bs : List ℕ) → 1 ∷ 2 ∷ 3 ∷ 4 ∷ 5 ∷ 6 ∷ bs ≡ 1 ∷ 2 ∷ 3 ∷ 4 ∷ 5 ∷ [] → ⊥
six_last bs is = cc

holds_five : held_bytes buffers pieces 0 2 ≡ five
unfolding held_bytes buffer_bytes
holds_five = refl

-- whichever endpoint it has
rest_is : (x : Endpoint) → rest_of (driver_of x half_sent) buffers 0 ≡ 3 ∷ 4 ∷ 5 ∷ []
unfolding held_bytes buffer_bytes
rest_is x = refl

abbrev four : List ℕ
four = 1 ∷ 2 ∷ 3 ∷ 4 ∷ []

-- what this taker of the endpoint took begins the endpoint's puts
abbrev TakesOf : Endpoint → Taker → ℕ → Endpoint → Type 0
TakesOf y t e x =
    taker_of (wired (fixed_of two_puts) (world_of y four)) x.desc.name.addr x.desc.name.num ≡ Some t → IsPrefix t.taken (concat (puts_of (driver_of y half_sent) five_put e))

taker_takes : (s t : Taker) (bytes : List ℕ) → IsPrefix s.taken bytes → Some s ≡ Some t → IsPrefix t.taken bytes
taker_takes s t bytes h same = subst (λ (z : Taker). IsPrefix z.taken bytes) (same_Some s t same) h

abbrev its_taker : List ℕ → Taker
its_taker bytes = record { taken = bytes; expects = false }

module _ (c : Option EndCause) (b : Bool) (none : told_end (record going { ended = c; cancelled = b }) ≡ None) where
  abbrev it : Endpoint
  it = record going { ended = c; cancelled = b }

  is_held : HoldsPuts (driver_of it half_sent) buffers five_put
  is_held = record { each = λ t y there put held. only_one (λ u z. held_bytes buffers pieces z.first z.qtds ≡ five_put u) half_sent holds_five t y there }

  is_owed : Owes (driver_of it half_sent) buffers five_put (λ n. 1 ∷ 2 ∷ [])
  is_owed = record {
    going = λ e z here there sends none. only_one (λ i y. 1 ∷ 2 ∷ rest_of (driver_of it half_sent) buffers i ≡ concat (puts_of (driver_of it half_sent) five_put i)) it
        (ap (λ (bs : List ℕ). 1 ∷ 2 ∷ bs) (rest_is it)) e z here;
    over = λ e z cause here there sends ends. absurd (none_some cause (sym (only_one (λ i y. told_end y ≡ None) it none e z here) ∙ ends));
    opening = λ e t z y here alive is there. absurd (none_open z.queue is);
    last = λ t y z there here sends none is held. only_one (λ u v. v.left ≡ 1) half_sent refl t y there;
  }

  is_sent : IsSent (fixed_of two_puts) five_put (at_half (1 ∷ 2 ∷ [])) (world_of it four)
  is_sent = record {
    sent = λ e z here met sends. only_one (λ i y. AreSentWhole order (ahead ++ behind) Empty (32 * y.queue) (parts (32 * y.queue))) it sent_whole e z here;
    ended = λ e z cause here alive sends ends. absurd (none_some cause (sym (only_one (λ i y. told_end y ≡ None) it none e z here) ∙ ends));
    held = is_held;
    owes = is_owed;
    begin = λ e z t here life sends is. only_one (TakesOf it t) it (λ same. taker_takes (its_taker four) t five (5 ∷ [], refl) same) e z here is;
  }

pub going_sent : IsSent (fixed_of two_puts) five_put (at_half (1 ∷ 2 ∷ [])) (world_of going (1 ∷ 2 ∷ 3 ∷ 4 ∷ []))
going_sent = is_sent going.ended going.cancelled refl

pub cancelled_sent : IsSent (fixed_of two_puts) five_put (at_half (1 ∷ 2 ∷ [])) (world_of cancelled (1 ∷ 2 ∷ 3 ∷ 4 ∷ []))
cancelled_sent = is_sent cancelled.ended cancelled.cancelled refl

pub told_otherwise : IsSent (fixed_of two_puts) five_put (at_half (9 ∷ [])) (world_of going (1 ∷ 2 ∷ 3 ∷ 4 ∷ [])) → ⊥
told_otherwise k = nine_one _ _ (k.owes.going 0 going refl (record { linked = λ is. none_open going.queue is; kept = refl }) refl refl)

pub took_another : IsSent (fixed_of two_puts) five_put (at_half (1 ∷ 2 ∷ [])) (world_of going (9 ∷ [])) → ⊥
took_another k =
    let b = k.begin 0 going (its_taker (9 ∷ [])) refl (inr (record { linked = λ is. none_open going.queue is; kept = refl })) refl refl in
    nine_one b.0 _ b.1

pub took_more : IsSent (fixed_of two_puts) five_put (at_half (1 ∷ 2 ∷ [])) (world_of cancelled (1 ∷ 2 ∷ 3 ∷ 4 ∷ 5 ∷ 6 ∷ [])) → ⊥
took_more k =
    let b = k.begin 0 cancelled (its_taker (1 ∷ 2 ∷ 3 ∷ 4 ∷ 5 ∷ 6 ∷ [])) refl (inr (record { linked = λ is. none_open cancelled.queue is; kept = refl })) refl refl in
    six_last b.0 b.1
