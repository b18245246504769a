-- What is still to be sent of the puts to an OUT endpoint (EHCI 1.0, 4.10): what a driver has reported of it, and behind that the bytes that its puts hold that
-- aren't reported yet, are all its puts. Once it has ended, what was reported begins them.
--     rest_of d m e              the bytes that the transfers of endpoint e hold that aren't reported, each from its place on
--     AreReadToEnd d             a put that was reported was read to its last qTD, where its endpoint goes on
--     Owes d m puts reported     all this of each OUT endpoint that the walk may meet; `puts` tells the bytes of puts by the number of the transfer
use Rattle.std.specs.Prelude.{◌≡◌, ◌≢◌, ℕ, ◌*◌, true, false, List, [], ◌∷◌, ◌++◌, slice_get, Some, None, if◌then◌else◌}
use Rattle.std.specs.List.{concat}
use Rattle.claims_base.specs.Prefix.{IsPrefix}
use Rattle.usb_base.specs.declared.endpoints.EndCause.{EndCause}
use Rattle.word_mem.specs.Memory.{Mem}
use Rattle.drv_table.specs.declared.content.Command.TheVariants as unfinished
use Rattle.drv_table.specs.declared.content.Endpoint.{Endpoint}
use Rattle.drv_table.specs.declared.content.QtdNote.{QtdNote}
use Rattle.drv_table.specs.declared.content.Transfer.{Transfer}
use Rattle.drv_table.specs.DriverContent.{DriverContent, waits_for}
use Rattle.claims_driver.specs.Scripts.{receives}
use Rattle.law_driver_ring.specs.fed_queues.Places.{IsThere}
use Rattle.law_world.specs.streams.put_laws.TakenPuts.{puts_of}
use Rattle.law_world.specs.streams.put_laws.Held.{held_bytes}
use Rattle.law_driver.specs.endpoint_lives.Lives.{told_end}

abbrev pub rest_from : Mem → List QtdNote → ℕ → List Transfer → List ℕ
rest_from m notes e [] = []
rest_from m notes e (y ∷ ys) = (if waits_for e y then held_bytes m notes y.place y.left else []) ++ rest_from m notes e ys

abbrev pub rest_of : DriverContent → Mem → ℕ → List ℕ
rest_of d m e = rest_from m d.notes e d.transfers

abbrev pub AreReadToEnd : DriverContent → Type 0
AreReadToEnd d = (t : ℕ) (y : Transfer) (x : Endpoint) → slice_get d.transfers t ≡ Some y → slice_get d.endpoints y.endpoint ≡ Some x → receives x.desc.name.way ≡ false → told_end x ≡ None
    → y.reported ≡ true → y.released ≡ false → y.left ≡ 1

pub record Owes (d : DriverContent) (m : Mem) (puts reported : ℕ → List ℕ) : Type 0 where
  pub going : (e : ℕ) (x : Endpoint) → slice_get d.endpoints e ≡ Some x → IsThere d x → receives x.desc.name.way ≡ false → told_end x ≡ None
      → reported (32 * x.queue) ++ rest_of d m e ≡ concat (puts_of d puts e)
  pub over : (e : ℕ) (x : Endpoint) (cause : EndCause) → slice_get d.endpoints e ≡ Some x → IsThere d x → receives x.desc.name.way ≡ false → told_end x ≡ Some cause
      → IsPrefix (reported (32 * x.queue)) (concat (puts_of d puts e))
  -- an endpoint that is being opened has no transfer
  pub opening : (e t : ℕ) (x : Endpoint) (y : Transfer) → slice_get d.endpoints e ≡ Some x → x.gone ≡ false → d.command ≡ Some (unfinished.Open x.queue) → slice_get d.transfers t ≡ Some y
      → y.endpoint ≢ e
  pub last : AreReadToEnd d
