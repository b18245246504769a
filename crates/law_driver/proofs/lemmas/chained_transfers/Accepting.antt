-- Each command of a script of bulk and control endpoints, where it is accepted, opens an endpoint, is a get, a put or a request, or cancels an endpoint.
use Rattle.std.proofs.Common.{◌≡◌, ℕ, ◌≤◌, Bool, true, false, not, cond, nat_eq, nat_lt, List, [], ◌∷◌, ◌++◌, length, get_or, slice_get, Option, Some, None, Result, Ok, Err, unwrap_or, ap, sym, subst, ◌∙◌, inl, inr, refl, arith}
use Rattle.std.specs.Prelude.{option_and_then, is_some, position}
use Rattle.std.proofs.lemmas.Bool.{false≢true}
use Rattle.std.proofs.lemmas.Option.{slice_get-get_or}
use Rattle.std.proofs.lemmas.List.Quantifiers.{position-Some}
use Rattle.std.proofs.lemmas.Bool.Decides.{nat_tests}
use Rattle.law_driver.proofs.Common.{ok_is, control_way}
use Rattle.law_common.proofs.Booleans.{both_second}
use Rattle.usb_base.specs.declared.endpoints.EpDesc.{EpDesc}
use Rattle.usb_base.specs.declared.endpoints.EndCause.{EndCause}
use Rattle.usb_base.specs.declared.endpoints.EndCause.TheVariants as causes
use Rattle.usb_base.specs.declared.commands.Cmd.{Cmd}
use Rattle.usb_base.specs.declared.commands.Cmd.TheVariants as commands
use Rattle.usb_base.specs.declared.reports.OfferError.{OfferError}
use Rattle.usb_base.specs.declared.reports.OfferError.TheVariants as errors
use Rattle.usb_base.specs.declared.packets.Way.{Way}
use Rattle.usb_base.specs.declared.packets.Way.TheVariants as ways
use Rattle.word_mem.specs.Memory.{Mem}
use Rattle.mem_runs.specs.Book.{Holding, holding}
use Rattle.drv_periodic_table.specs.Periodic.{is_periodic, want_of}
use Rattle.bandwidth.specs.declared.placements.Placement.{Placement}
use Rattle.bandwidth.specs.Admission.{answer}
use Rattle.drv_table.specs.declared.content.Endpoint.{Endpoint}
use Rattle.drv_table.specs.declared.content.Command.{Command}
use Rattle.drv_table.specs.declared.content.Sort.TheVariants as sorts
use Rattle.drv_table.specs.Kinds.{is_iso}
use Rattle.drv_table.specs.DriverContent.{DriverContent, is_same_way, endpoint_of, endpoint_named}
use Rattle.drv_table.specs.Words.{request_length, request_stages, setup_stage, data_stage, status_stage, asks_in, needs}
use Rattle.drv_table.specs.Accepting.{Offered, take_runs}
use Rattle.drv_table.specs.Offers.{Asked, taken_open, planned_open, offered_open, taken_transfer, open_transfer, found_transfer, is_queued, takes_get, takes_put, takes_control, offered_next, offered}
use Rattle.drv_table.specs.IsoOffers.{offered_iso}
use Rattle.drv_table.specs.CancelOffers.{cancelled_by, offered_cancel}
use Rattle.claims_driver.specs.Owners.{is_descriptor}
use Rattle.law_driver.specs.run_owners.Accepts.{AreShort, Opens, Transfers, Cancels}
use Rattle.law_driver.specs.chained_transfers.Bulk.{IsDataWay, IsBulk, OpensBulk, OnlyBulk, OpensOrCancelsBulk}
use Rattle.law_driver.specs.chained_transfers.Leaving.{IsAcceptedAs}
use Rattle.law_driver.specs.chained_transfers.Accepted.{move_of, IsAsked, IsAccepted}
use Rattle.law_driver.specs.AsynchronousScripts.{IsAsynchronous, OpensAsynchronous}
use Rattle.law_driver.specs.chained_transfers.Asynchronous.{OnlyAsynchronous, IsRequested, AcceptsAsynchronous}
use Rattle.law_driver.proofs.lemmas.chained_transfers.BulkAndControl.{not_iso, not_periodic, bulk_asynchronous}
use Rattle.law_driver.proofs.lemmas.chained_transfers.Ways.{sort_queued, same_in, same_out, stages_short, stages_some}

-- what an endpoint of this way takes
record IsMove (way : Way) (a : Asked) (most by : ℕ) (bytes : List ℕ) : Type 0 where
  is : a ≡ move_of way most by bytes
  whole : way ≡ ways.Out → length bytes ≡ most

get_move : (way : Way) (len by : ℕ) → way ≡ ways.In → IsMove way (move_of ways.In len by []) len by []
get_move way len by is = record { is = ap (λ (w : Way). move_of w len by []) (sym is); whole = λ out. let e : ways.In ≡ ways.Out = sym is ∙ out in absurd (cc) }

put_move : (way : Way) (bytes : List ℕ) (by : ℕ) → way ≡ ways.Out → IsMove way (move_of ways.Out (length bytes) by bytes) (length bytes) by bytes
put_move way bytes by is = record { is = ap (λ (w : Way). move_of w (length bytes) by bytes) (sym is); whole = λ out. refl }

-- what is asked can be taken on, where it isn't too long
record CanBeTaken (a : Asked) : Type 0 where
  sort : is_descriptor a.sort ≡ false
  short : a.most ≤ 20480 → AreShort a.stages
  some : 1 ≤ length a.stages

move_can : (way : Way) (most by : ℕ) (bytes : List ℕ) → CanBeTaken (move_of way most by bytes)
move_can way most by bytes = record { sort = sort_queued way; short = stages_short way most by; some = stages_some way most by }

abbrev request_of : List ℕ → List ℕ → Asked
request_of setup bytes = record { sort = sorts.Request; stages = request_stages setup; most = request_length setup; bytes = setup ++ bytes }

request_can : (setup bytes : List ℕ) → CanBeTaken (request_of setup bytes)
request_can setup bytes = by (nat_eq (request_length setup) 0)
  where
    by : (b : Bool) → CanBeTaken (record { sort = sorts.Request; stages = cond b (setup_stage ∷ status_stage true ∷ []) (setup_stage ∷ data_stage (asks_in setup) (request_length setup) ∷ status_stage (not (asks_in setup)) ∷ []); most = request_length setup; bytes = setup ++ bytes })
    by true = record { sort = refl; short = λ low. (omega arith, (omega arith, tt)); some = omega arith }
    by false = record { sort = refl; short = λ low. (omega arith, (low, (omega arith, tt))); some = omega arith }

-- each endpoint is a bulk or control one
abbrev pub EachIsAsynchronous : DriverContent → Type 0
EachIsAsynchronous d = (e : ℕ) (x : Endpoint) → slice_get d.endpoints e ≡ Some x → IsAsynchronous x.desc × (x.placement ≡ None)

-- each endpoint is a bulk one
abbrev pub EachIsBulk : DriverContent → Type 0
EachIsBulk d = (e : ℕ) (x : Endpoint) → slice_get d.endpoints e ≡ Some x → IsBulk x.desc × (x.placement ≡ None)

gets_in : (x : Endpoint) → takes_get x ≡ true → x.desc.name.way ≡ ways.In
gets_in x is = same_in x.desc.name.way (both_second (is_queued x.desc.kind) (is_same_way x.desc.name.way ways.In) is)

puts_out : (x : Endpoint) → takes_put x ≡ true → x.desc.name.way ≡ ways.Out
puts_out x is = same_out x.desc.name.way (both_second (is_queued x.desc.kind) (is_same_way x.desc.name.way ways.Out) is)

-- the endpoint is opened as this one
record OpensAs (d : DriverContent) (m : Mem) (o : Offered) (x : EpDesc) : Type 0 where
  opens : Opens d m o
  desc : opens.desc ≡ x

-- this is asked of an endpoint that takes it
record IsTakenBy (d : DriverContent) (m : Mem) (o : Offered) (takes : Endpoint → Bool) (a : Asked) : Type 0 where
  transfers : Transfers d m o
  taken : takes transfers.endpoint ≡ true
  asked : transfers.asked ≡ a

abbrev AcceptsNext : DriverContent → Mem → Offered → Cmd → Type 0
AcceptsNext d m o (commands.OpenEp x) = OpensAs d m o x
AcceptsNext d m o (commands.Get name len by) = IsAsked d m o
AcceptsNext d m o (commands.Put name bytes by) = IsAsked d m o
AcceptsNext d m o (commands.Control name setup bytes) = IsRequested d m o
AcceptsNext d m o (commands.Iso name count len seed) = ⊥
AcceptsNext d m o (commands.Cancel name) = Cancels d m o
AcceptsNext d m o _ = ⊥

abbrev OpensRing : Cmd → Type 0
OpensRing (commands.OpenEp x) = is_periodic x.kind ≡ false
OpensRing _ = Unit {0}

module _ (d : DriverContent) (m : Mem) (o : Offered) (idle : d.command ≡ None) (each : EachIsAsynchronous d) where
  -- ---- a transfer

  module _ (takes : Endpoint → Bool) (a : Asked) (fit : CanBeTaken a) where
    taken_one : (e : ℕ) (x : Endpoint) (r : Result Holding OfferError) → slice_get d.endpoints e ≡ Some x → takes x ≡ true → x.ended ≡ None → a.most ≤ 20480
        → take_runs (holding d.book m) (needs a.stages) ≡ r → taken_transfer d e x a r ≡ Ok o → IsTakenBy d m o takes a
    taken_one e x (Err why) here taken ended few is f = absurd (cc)
    taken_one e x (Ok h) here taken ended few is f = record {
      transfers = record {
        number = e;
        endpoint = x;
        asked = a;
        holding_after = h;
        idle = idle;
        here = here;
        goes_on = ended;
        queued = not_iso x.desc (each e x here).0;
        sort = fit.sort;
        short = fit.short few;
        some = fit.some;
        runs = is;
        is = ok_is _ o f;
      };
      taken = taken;
      asked = refl;
    }

    allowed_one : (e : ℕ) (x : Endpoint) (b : Bool) → slice_get d.endpoints e ≡ Some x → takes x ≡ true → x.ended ≡ None → nat_lt 20480 a.most ≡ b
        → cond b (Err errors.TooLong) (taken_transfer d e x a (take_runs (holding d.book m) (needs a.stages))) ≡ Ok o → IsTakenBy d m o takes a
    allowed_one e x true here taken ended is f = absurd (cc)
    allowed_one e x false here taken ended is f =
        let low : a.most ≤ 20480 = grind (arith, nat_tests) in
        taken_one e x (take_runs (holding d.book m) (needs a.stages)) here taken ended low refl f

    ended_one : (e : ℕ) (x : Endpoint) (c : Option EndCause) → slice_get d.endpoints e ≡ Some x → takes x ≡ true → x.ended ≡ c → open_transfer d m e x a c ≡ Ok o → IsTakenBy d m o takes a
    ended_one e x (Some cause) here taken ended f = absurd (cc)
    ended_one e x None here taken ended f = allowed_one e x (nat_lt 20480 a.most) here taken ended refl f

    takes_one : (e : ℕ) (x : Endpoint) (b : Bool) → slice_get d.endpoints e ≡ Some x → takes x ≡ b → cond b (open_transfer d m e x a x.ended) (Err errors.NoEndpoint) ≡ Ok o → IsTakenBy d m o takes a
    takes_one e x false here is f = absurd (cc)
    takes_one e x true here is f = ended_one e x x.ended here is refl f

    found_one : (e : ℕ) (q : Option Endpoint) → slice_get d.endpoints e ≡ q → found_transfer d m takes a e q ≡ Ok o → IsTakenBy d m o takes a
    found_one e None here f = absurd (cc)
    found_one e (Some x) here f = takes_one e x (takes x) here refl f

    named_one : (q : Option ℕ) → found_transfer d m takes a (unwrap_or q 0) (option_and_then (λ e. slice_get d.endpoints e) q) ≡ Ok o → IsTakenBy d m o takes a
    named_one None f = absurd (cc)
    named_one (Some e) f = found_one e (slice_get d.endpoints e) refl f

  gets : (len by : ℕ) → IsTakenBy d m o takes_get (move_of ways.In len by []) → IsAsked d m o
  gets len by t =
      let is = gets_in t.transfers.endpoint t.taken in
      let move = get_move t.transfers.endpoint.desc.name.way len by is in
      record { most = len; by = by; bytes = []; transfers = t.transfers; way = subst (λ (w : Way). IsDataWay w) (sym is) tt; asked = t.asked ∙ move.is; whole = move.whole }

  puts : (bytes : List ℕ) (by : ℕ) → IsTakenBy d m o takes_put (move_of ways.Out (length bytes) by bytes) → IsAsked d m o
  puts bytes by t =
      let is = puts_out t.transfers.endpoint t.taken in
      let move = put_move t.transfers.endpoint.desc.name.way bytes by is in
      record { most = length bytes; by = by; bytes = bytes; transfers = t.transfers; way = subst (λ (w : Way). IsDataWay w) (sym is) tt; asked = t.asked ∙ move.is; whole = move.whole }

  requests : (setup bytes : List ℕ) → IsTakenBy d m o takes_control (request_of setup bytes) → IsRequested d m o
  requests setup bytes t =
      let x = t.transfers.endpoint in
      record {
        setup = setup;
        bytes = bytes;
        transfers = t.transfers;
        way = control_way x.desc.name.way x.desc.kind (each t.transfers.number x t.transfers.here).0.kind t.taken;
        asked = t.asked;
      }

  -- ---- what no endpoint takes

  iso_at : (e : ℕ) (x : Endpoint) (b : Bool) (r : Result Offered OfferError) → b ≡ false → cond b r (Err errors.NoEndpoint) ≡ Ok o → ⊥
  iso_at e x false r off f = cc
  iso_at e x true r off f = cc

  iso_found : (e n len seed : ℕ) (q : Option Endpoint) → slice_get d.endpoints e ≡ q → offered_iso d m e n len seed q ≡ Ok o → ⊥
  iso_found e n len seed None here f = cc
  iso_found e n len seed (Some x) here f = iso_at e x (is_iso x.desc.kind) _ (not_iso x.desc (each e x here).0) f

  iso_named : (n len seed : ℕ) (q : Option ℕ) → offered_iso d m (unwrap_or q 0) n len seed (option_and_then (λ e. slice_get d.endpoints e) q) ≡ Ok o → ⊥
  iso_named n len seed None f = cc
  iso_named n len seed (Some e) f = iso_found e n len seed (slice_get d.endpoints e) refl f

  -- ---- an open

  found_there : (xs : List Endpoint) (p : Endpoint → Bool) (e : ℕ) → position p xs ≡ Some e → (y : Endpoint) × (slice_get xs e ≡ Some y)
  found_there [] p e f = absurd (cc)
  found_there (x ∷ xs) p e f =
      let at = position-Some p (x ∷ xs) e x f in (get_or (x ∷ xs) e x, slice_get-get_or (x ∷ xs) e x at.0)

  taken_new : (x : EpDesc) (r : Result Holding OfferError) → is_periodic x.kind ≡ false → endpoint_of d x.name ≡ None → take_runs (holding d.book m) (2 ∷ 1 ∷ []) ≡ r → taken_open d x r ≡ Ok o → OpensAs d m o x
  taken_new x (Err why) ring none runs f = absurd (cc)
  taken_new x (Ok h) ring none runs f = record {
    opens = record { desc = x; holding_after = h; idle = idle; new_name = none; ring = ring; runs = runs; is = ok_is _ o f };
    desc = refl;
  }

  new_one : (x : EpDesc) (b : Bool) → is_periodic x.kind ≡ false → endpoint_of d x.name ≡ None → is_periodic x.kind ≡ b
      → cond b (planned_open d m x (answer d.periodic.plan (want_of (length d.endpoints) x))) (taken_open d x (take_runs (holding d.book m) (2 ∷ 1 ∷ []))) ≡ Ok o → OpensAs d m o x
  new_one x true ring none is f = absurd (false≢true (sym ring ∙ is))
  new_one x false ring none is f = taken_new x (take_runs (holding d.book m) (2 ∷ 1 ∷ [])) ring none refl f

  again : (x : EpDesc) (old : Endpoint) (c : Option EndCause) → old.ended ≡ c → offered_open d m x (Some old) ≡ Ok o → ⊥
  again x old (Some cause) is f =
      let e : offered_open d m x (Some old) ≡ Err (errors.Closed cause) = ap (λ (k : Option EndCause). by k) is in cc
    where
      by : Option EndCause → Result Offered OfferError
      by k = elim k [ Some cause ↦ Err (errors.Closed cause) | None ↦ Err errors.AlreadyOpen ]
  again x old None is f =
      let e : offered_open d m x (Some old) ≡ Err errors.AlreadyOpen = ap (λ (k : Option EndCause). by k) is in cc
    where
      by : Option EndCause → Result Offered OfferError
      by k = elim k [ Some cause ↦ Err (errors.Closed cause) | None ↦ Err errors.AlreadyOpen ]

  open_one : (x : EpDesc) (n : Option ℕ) (q : Option Endpoint) → is_periodic x.kind ≡ false → endpoint_of d x.name ≡ n → option_and_then (λ e. slice_get d.endpoints e) n ≡ q
      → ((e : ℕ) → n ≡ Some e → (y : Endpoint) × (slice_get d.endpoints e ≡ Some y)) → offered_open d m x q ≡ Ok o → OpensAs d m o x
  open_one x n (Some old) is named at some f = absurd (again x old old.ended refl f)
  open_one x None None is named at some f = new_one x (is_periodic x.kind) is named refl f
  open_one x (Some e) None is named at some f = let y = some e refl in let w : Some y.0 ≡ None = sym y.1 ∙ at in absurd (cc)

  -- ---- a cancel

  cancelled_ring : (e : ℕ) (x : Endpoint) (p : Option Placement) → slice_get d.endpoints e ≡ Some x → x.cancelled ≡ false → x.placement ≡ p → p ≡ None → ◌≡◌ {A = Result Offered OfferError} (Ok (record { driver = cancelled_by d e x p; memory = m })) (Ok o) → Cancels d m o
  cancelled_ring e x None here fresh is none f = record { number = e; endpoint = x; idle = idle; here = here; fresh = fresh; ring = is; is = ok_is _ o f }
  cancelled_ring e x (Some p) here fresh is none f = absurd (cc)

  cancelled_one : (e : ℕ) (x : Endpoint) (b : Bool) → slice_get d.endpoints e ≡ Some x → x.cancelled ≡ b → cond b (Err (errors.Closed causes.Cancel)) (Ok (record { driver = cancelled_by d e x x.placement; memory = m })) ≡ Ok o → Cancels d m o
  cancelled_one e x true here is f = absurd (cc)
  cancelled_one e x false here is f = cancelled_ring e x x.placement here is refl (each e x here).1 f

  cancelled_at : (e : ℕ) (q : Option Endpoint) → slice_get d.endpoints e ≡ q → offered_cancel d m e q ≡ Ok o → Cancels d m o
  cancelled_at e None here f = absurd (cc)
  cancelled_at e (Some x) here f = cancelled_one e x x.cancelled here refl f

  cancelled_named : (q : Option ℕ) → offered_cancel d m (unwrap_or q 0) (option_and_then (λ e. slice_get d.endpoints e) q) ≡ Ok o → Cancels d m o
  cancelled_named None f = absurd (cc)
  cancelled_named (Some e) f = cancelled_at e (slice_get d.endpoints e) refl f

  -- ---- any command

  next_accepted : (cmd : Cmd) → OpensRing cmd → offered_next d m cmd ≡ Ok o → AcceptsNext d m o cmd
  next_accepted (commands.OpenEp x) ring f = open_one x (endpoint_of d x.name) (endpoint_named d x.name) ring refl refl (λ e at. found_there d.endpoints _ e at) f
  next_accepted (commands.Get name len by) ring f = gets len by (named_one takes_get (move_of ways.In len by []) (move_can ways.In len by []) (endpoint_of d name) f)
  next_accepted (commands.Put name bytes by) ring f = puts bytes by (named_one takes_put (move_of ways.Out (length bytes) by bytes) (move_can ways.Out (length bytes) by bytes) (endpoint_of d name) f)
  next_accepted (commands.Control name setup bytes) ring f = requests setup bytes (named_one takes_control (request_of setup bytes) (request_can setup bytes) (endpoint_of d name) f)
  next_accepted (commands.Iso name count len seed) ring f = iso_named count len seed (endpoint_of d name) f
  next_accepted (commands.Cancel name) ring f = cancelled_named (endpoint_of d name) f
  next_accepted _ ring f = absurd (cc)

busy_accepted : (d : DriverContent) (m : Mem) (cmd : Cmd) (o : Offered) (c : Option Command) → EachIsAsynchronous d → OpensRing cmd → d.command ≡ c → cond (is_some c) (Err errors.Busy) (offered_next d m cmd) ≡ Ok o → AcceptsNext d m o cmd
busy_accepted d m cmd o (Some c) each ring is f = absurd (cc)
busy_accepted d m cmd o None each ring is f = next_accepted d m o is each cmd ring f

-- bulk and control endpoints
opens_ring : (cmd : Cmd) → OpensAsynchronous cmd → OpensRing cmd
opens_ring (commands.OpenEp x) is = not_periodic x is
opens_ring _ is = tt

accepts : (d : DriverContent) (m : Mem) (o : Offered) (cmd : Cmd) → OpensAsynchronous cmd → AcceptsNext d m o cmd → AcceptsAsynchronous d m o cmd
accepts d m o (commands.OpenEp x) is new = record { opens = new.opens; asynchronous = subst (λ (z : EpDesc). IsAsynchronous z) (sym new.desc) is }
accepts d m o _ is why = why

pub asynchronous_command_is_accepted : (d : DriverContent) (m : Mem) (cmd : Cmd) (o : Offered) → OnlyAsynchronous d → OpensAsynchronous cmd → offered d m cmd ≡ Ok o → AcceptsAsynchronous d m o cmd
asynchronous_command_is_accepted d m cmd o only is f =
    accepts d m o cmd is (busy_accepted d m cmd o d.command (λ e x here. let s = only.endpoints e x here in (s.asynchronous, s.placement)) (opens_ring cmd is) refl f)

-- bulk endpoints alone
pub opens_bulk : (cmd : Cmd) → OpensOrCancelsBulk cmd → OpensAsynchronous cmd
opens_bulk (commands.OpenEp x) is = bulk_asynchronous x is
opens_bulk _ is = tt

accepts_bulk : (d : DriverContent) (m : Mem) (o : Offered) (cmd : Cmd) → EachIsBulk d → OpensOrCancelsBulk cmd → AcceptsNext d m o cmd → IsAcceptedAs d m o cmd
accepts_bulk d m o (commands.OpenEp x) each is new = inl (record { opens = new.opens; bulk = subst (λ (z : EpDesc). IsBulk z) (sym new.desc) is })
accepts_bulk d m o (commands.Get name len by) each is why = inr why
accepts_bulk d m o (commands.Put name bytes by) each is why = inr why
accepts_bulk d m o (commands.Control name setup bytes) each is why = absurd (subst (λ (w : Way). IsDataWay w) why.way (each why.transfers.number why.transfers.endpoint why.transfers.here).0.way)
accepts_bulk d m o (commands.Cancel name) each is why = why
accepts_bulk d m o _ each is why = absurd why

pub command_accepted : (d : DriverContent) (m : Mem) (cmd : Cmd) (o : Offered) → EachIsBulk d → OpensOrCancelsBulk cmd → offered d m cmd ≡ Ok o → IsAcceptedAs d m o cmd
command_accepted d m cmd o bulk only f =
    accepts_bulk d m o cmd bulk only
    (busy_accepted d m cmd o d.command (λ e x here. let s = bulk e x here in (bulk_asynchronous x.desc s.0, s.1)) (opens_ring cmd (opens_bulk cmd only)) refl f)

-- a command that may open a bulk endpoint, and is no cancel, is one that may
pub opens_or_cancels : (cmd : Cmd) → OpensBulk cmd → OpensOrCancelsBulk cmd
opens_or_cancels (commands.OpenEp x) is = is
opens_or_cancels (commands.Cancel name) is = absurd is
opens_or_cancels _ is = tt

-- and does what it may
pub accepted_as : (d : DriverContent) (m : Mem) (o : Offered) (cmd : Cmd) → OpensBulk cmd → IsAcceptedAs d m o cmd → IsAccepted d m o
accepted_as d m o (commands.Cancel name) is why = absurd is
accepted_as d m o _ is why = why

pub command_received : (d : DriverContent) (m : Mem) (cmd : Cmd) (o : Offered) → OnlyBulk d → OpensBulk cmd → offered d m cmd ≡ Ok o → IsAccepted d m o
command_received d m cmd o bulk only f =
    accepted_as d m o cmd only (command_accepted d m cmd o (λ e x here. let s = bulk.endpoints e x here in (s.bulk, s.placement)) (opens_or_cancels cmd only) f)
