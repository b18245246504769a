-- The drivers of the worked rows.
use Rattle.std.proofs.Common.{◌≡◌, ℕ, zero, suc, true, List, [], ◌∷◌, ◌++◌, slice_get, Option, Some, None, ap, refl, sym, ◌∙◌}
use Rattle.std.specs.List.{concat}
use Rattle.std.proofs.lemmas.Option.{same_Some}
use Rattle.claims_base.specs.Prefix.{IsPrefix}
use Rattle.usb_base.specs.declared.endpoints.EndCause.{EndCause}
use Rattle.usb_base.specs.declared.endpoints.EndCause.TheVariants as causes
use Rattle.drv_table.specs.declared.content.Command.{Command}
use Rattle.drv_table.specs.declared.content.Command.TheVariants as unfinished
use Rattle.drv_table.specs.declared.content.Endpoint.{Endpoint}
use Rattle.drv_table.specs.declared.content.Transfer.{Transfer}
use Rattle.drv_table.specs.Harvests.{buffer_bytes}
use Rattle.law_driver.specs.endpoint_lives.Lives.{told_end}
use Rattle.law_world.specs.streams.put_laws.Held.{held_bytes}
use Rattle.law_world.specs.streams.put_laws.ByteSamples.{five}
use Rattle.law_world.specs.streams.put_laws.HeldPuts.{with_put}
use Rattle.law_world.specs.streams.put_laws.TakenPuts.{puts_of}
use Rattle.law_world.specs.streams.put_laws.Owed.{rest_of, Owes}
use Rattle.law_world.specs.streams.put_laws.OwedSamples.{receiver, buffers, half_sent, driver_of, at_half, at_first, at_end, halted, told_bytes}

abbrev its_put : ℕ → List ℕ
its_put = with_put (λ t. []) 0 five

none_behind : {X : Type 0} (x z : X) (i : ℕ) → slice_get (x ∷ []) (suc i) ≡ Some z → ⊥
none_behind x z i here = cc

none_open : (q : ℕ) → ◌≡◌ {A = Option Command} None (Some (unfinished.Open q)) → ⊥
none_open q is = cc

some_none : (cause : EndCause) → ◌≡◌ {A = Option EndCause} None (Some cause) → ⊥
some_none cause is = cc

none_some : (cause : EndCause) → ◌≡◌ {A = Option EndCause} (Some cause) None → ⊥
none_some cause is = cc

-- a driver of one endpoint and one transfer
module _ (x : Endpoint) (y : Transfer) (bytes : List ℕ) (all : told_end x ≡ None → bytes ++ rest_of (driver_of x y) buffers 0 ≡ concat (puts_of (driver_of x y) its_put 0)) (first : (cause : EndCause) → told_end x ≡ Some cause → IsPrefix bytes (concat (puts_of (driver_of x y) its_put 0))) (last : y.reported ≡ true → y.left ≡ 1) where
  goes_on : (e : ℕ) (z : Endpoint) → slice_get (x ∷ []) e ≡ Some z → told_end z ≡ None → bytes ++ rest_of (driver_of x y) buffers e ≡ concat (puts_of (driver_of x y) its_put e)
  goes_on zero z here none = all (ap (λ (v : Endpoint). told_end v) (same_Some x z here) ∙ none)
  goes_on (suc e) z here none = absurd (none_behind x z e here)

  is_over : (e : ℕ) (z : Endpoint) (cause : EndCause) → slice_get (x ∷ []) e ≡ Some z → told_end z ≡ Some cause → IsPrefix bytes (concat (puts_of (driver_of x y) its_put e))
  is_over zero z cause here ends = first cause (ap (λ (v : Endpoint). told_end v) (same_Some x z here) ∙ ends)
  is_over (suc e) z cause here ends = absurd (none_behind x z e here)

  is_last : (t : ℕ) (z : Transfer) → slice_get (y ∷ []) t ≡ Some z → z.reported ≡ true → z.left ≡ 1
  is_last zero z there is = ap (λ (v : Transfer). v.left) (sym (same_Some y z there)) ∙ last (ap (λ (v : Transfer). v.reported) (same_Some y z there) ∙ is)
  is_last (suc t) z there is = absurd (none_behind y z t there)

  one_owes : Owes (driver_of x y) buffers its_put (told_bytes bytes)
  one_owes = record {
    going = λ e z here meets sends none. goes_on e z here none;
    over = λ e z cause here meets sends ends. is_over e z cause here ends;
    opening = λ e t z v here alive is there. absurd (none_open z.queue is);
    last = λ t z v there here sends none is held. is_last t z there is;
  }

pub half_rest : rest_of at_half buffers 0 ≡ 3 ∷ 4 ∷ 5 ∷ []
unfolding held_bytes buffer_bytes
half_rest = refl

pub first_rest : rest_of at_first buffers 0 ≡ five
unfolding held_bytes buffer_bytes
first_rest = refl

pub first_owes : Owes at_first buffers its_put (told_bytes [])
first_owes = one_owes receiver (record half_sent { place = 0; left = 2 }) [] (λ none. first_rest) (λ cause ends. absurd (some_none cause ends)) (λ is. cc)

pub half_owes : Owes at_half buffers its_put (told_bytes (1 ∷ 2 ∷ []))
half_owes = one_owes receiver half_sent (1 ∷ 2 ∷ []) (λ none. ap (λ (bs : List ℕ). 1 ∷ 2 ∷ bs) half_rest) (λ cause ends. absurd (some_none cause ends)) (λ is. cc)

pub end_owes : Owes at_end buffers its_put (told_bytes five)
end_owes = one_owes (record receiver { next = None }) (record half_sent { reported = true }) five (λ none. refl) (λ cause ends. absurd (some_none cause ends)) (λ is. refl)

pub halted_owes : Owes halted buffers its_put (told_bytes (1 ∷ 2 ∷ 3 ∷ []))
halted_owes =
    one_owes (record receiver { ended = Some causes.Stall }) (record half_sent { reported = true }) (1 ∷ 2 ∷ 3 ∷ []) (λ none. absurd (none_some causes.Stall none)) (λ cause ends. (4 ∷ 5 ∷ [], refl))
    (λ is. refl)

nine_first : (bs cs : List ℕ) → 9 ∷ bs ≡ 1 ∷ cs → ⊥
nine_first bs cs is = cc

pub half_wrong : Owes at_half buffers its_put (told_bytes (9 ∷ [])) → ⊥
half_wrong k = nine_first (rest_of at_half buffers 0) (2 ∷ 3 ∷ 4 ∷ 5 ∷ []) (k.going 0 receiver refl (record { linked = λ is. none_open receiver.queue is; kept = refl }) refl refl)
