-- An accepted request is that of its command.
use Rattle.std.proofs.Common.{◌≡◌, ℕ, ◌≤◌, Bool, true, false, nat_eq, nat_lt, cond, List, [], ◌∷◌, ◌++◌, length, slice_get, Option, Some, None, unwrap_or, Result, Ok, Err, refl, arith}
use Rattle.std.specs.Prelude.{option_and_then, is_some, not}
use Rattle.std.proofs.lemmas.Bool.Decides.{nat_tests}
use Rattle.law_driver.proofs.Common.{ok_is}
use Rattle.usb_base.specs.declared.commands.Cmd.TheVariants as commands
use Rattle.usb_base.specs.declared.endpoints.EndCause.{EndCause}
use Rattle.usb_base.specs.declared.endpoints.EpName.{EpName}
use Rattle.usb_base.specs.declared.reports.OfferError.{OfferError}
use Rattle.usb_base.specs.declared.reports.OfferError.TheVariants as errors
use Rattle.word_mem.specs.Memory.{Mem}
use Rattle.mem_runs.specs.Book.{Holding, holding}
use Rattle.drv_table.specs.declared.content.Command.{Command}
use Rattle.drv_table.specs.declared.content.Endpoint.{Endpoint}
use Rattle.drv_table.specs.declared.content.Sort.TheVariants as sorts
use Rattle.drv_table.specs.DriverContent.{DriverContent, endpoint_of}
use Rattle.drv_table.specs.Accepting.{Offered, take_runs}
use Rattle.drv_table.specs.Offers.{Asked, taken_transfer, open_transfer, found_transfer, takes_control, offered_next, offered}
use Rattle.drv_table.specs.Words.{is_control, needs, asks_in, request_length, request_stages, setup_stage, data_stage, status_stage}
use Rattle.law_driver.specs.run_owners.Accepts.{Transfers, AreShort}
use Rattle.law_driver.specs.chained_transfers.Asynchronous.{OnlyAsynchronous}
use Rattle.law_driver.proofs.lemmas.chained_transfers.BulkAndControl.{not_iso}

abbrev pub request_of : List ℕ → List ℕ → Asked
request_of setup bytes = record { sort = sorts.Request; stages = request_stages setup; most = request_length setup; bytes = setup ++ bytes }

record CanBeTaken (a : Asked) : Type 0 where
  short : a.most ≤ 20480 → AreShort a.stages
  some : 1 ≤ length a.stages

request_can : (setup bytes : List ℕ) → CanBeTaken (request_of setup bytes)
request_can setup bytes = by (nat_eq (request_length setup) 0)
  where
    by : (b : Bool) → CanBeTaken (record { sort = sorts.Request; stages = cond b (setup_stage ∷ status_stage true ∷ []) (setup_stage ∷ data_stage (asks_in setup) (request_length setup) ∷ status_stage (not (asks_in setup)) ∷ []); most = request_length setup; bytes = setup ++ bytes })
    by true = record { short = λ low. (omega arith, (omega arith, tt)); some = omega arith }
    by false = record { short = λ low. (omega arith, (low, (omega arith, tt))); some = omega arith }

-- of a control endpoint
pub record TakesRequest (d : DriverContent) (m : Mem) (o : Offered) (setup bytes : List ℕ) : Type 0 where
  pub transfers : Transfers d m o
  pub control : is_control transfers.endpoint.desc.kind ≡ true
  pub asked : transfers.asked ≡ request_of setup bytes

module _ (d : DriverContent) (m : Mem) (o : Offered) (idle : d.command ≡ None) (only : OnlyAsynchronous d) (setup bytes : List ℕ) where
  abbrev a : Asked
  a = request_of setup bytes

  taken_one : (e : ℕ) (x : Endpoint) (r : Result Holding OfferError) → slice_get d.endpoints e ≡ Some x → is_control x.desc.kind ≡ true → x.ended ≡ None → a.most ≤ 20480
      → take_runs (holding d.book m) (needs a.stages) ≡ r → taken_transfer d e x a r ≡ Ok o → TakesRequest d m o setup bytes
  taken_one e x (Err why) here taken ended few is f = absurd (cc)
  taken_one e x (Ok h) here taken ended few is f = record {
    transfers = record {
      number = e;
      endpoint = x;
      asked = a;
      holding_after = h;
      idle = idle;
      here = here;
      goes_on = ended;
      queued = not_iso x.desc (only.endpoints e x here).asynchronous;
      sort = refl;
      short = (request_can setup bytes).short few;
      some = (request_can setup bytes).some;
      runs = is;
      is = ok_is _ o f;
    };
    control = taken;
    asked = refl;
  }

  allowed_one : (e : ℕ) (x : Endpoint) (b : Bool) → slice_get d.endpoints e ≡ Some x → is_control x.desc.kind ≡ true → x.ended ≡ None → nat_lt 20480 a.most ≡ b
      → cond b (Err errors.TooLong) (taken_transfer d e x a (take_runs (holding d.book m) (needs a.stages))) ≡ Ok o → TakesRequest d m o setup bytes
  allowed_one e x true here taken ended is f = absurd (cc)
  allowed_one e x false here taken ended is f =
      let low : a.most ≤ 20480 = grind (arith, nat_tests) in
      taken_one e x (take_runs (holding d.book m) (needs a.stages)) here taken ended low refl f

  ended_one : (e : ℕ) (x : Endpoint) (c : Option EndCause) → slice_get d.endpoints e ≡ Some x → is_control x.desc.kind ≡ true → x.ended ≡ c → open_transfer d m e x a c ≡ Ok o → TakesRequest d m o setup bytes
  ended_one e x (Some cause) here taken ended f = absurd (cc)
  ended_one e x None here taken ended f = allowed_one e x (nat_lt 20480 a.most) here taken ended refl f

  takes_one : (e : ℕ) (x : Endpoint) (b : Bool) → slice_get d.endpoints e ≡ Some x → is_control x.desc.kind ≡ b → cond b (open_transfer d m e x a x.ended) (Err errors.NoEndpoint) ≡ Ok o → TakesRequest d m o setup bytes
  takes_one e x false here is f = absurd (cc)
  takes_one e x true here is f = ended_one e x x.ended here is refl f

  found_one : (e : ℕ) (q : Option Endpoint) → slice_get d.endpoints e ≡ q → found_transfer d m takes_control a e q ≡ Ok o → TakesRequest d m o setup bytes
  found_one e None here f = absurd (cc)
  found_one e (Some x) here f = takes_one e x (is_control x.desc.kind) here refl f

  named_one : (q : Option ℕ) → found_transfer d m takes_control a (unwrap_or q 0) (option_and_then (λ e. slice_get d.endpoints e) q) ≡ Ok o → TakesRequest d m o setup bytes
  named_one None f = absurd (cc)
  named_one (Some e) f = found_one e (slice_get d.endpoints e) refl f

busy_one : (d : DriverContent) (m : Mem) (name : EpName) (setup bytes : List ℕ) (o : Offered) (c : Option Command) → OnlyAsynchronous d → d.command ≡ c
    → cond (is_some c) (Err errors.Busy) (offered_next d m (commands.Control name setup bytes)) ≡ Ok o → TakesRequest d m o setup bytes
busy_one d m name setup bytes o (Some c) only is f = absurd (cc)
busy_one d m name setup bytes o None only is f = named_one d m o is only setup bytes (endpoint_of d name) f

pub request_taken : (d : DriverContent) (m : Mem) (name : EpName) (setup bytes : List ℕ) (o : Offered) → OnlyAsynchronous d → offered d m (commands.Control name setup bytes) ≡ Ok o → TakesRequest d m o setup bytes
request_taken d m name setup bytes o only f = busy_one d m name setup bytes o d.command only refl f
