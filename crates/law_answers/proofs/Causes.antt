-- A command is refused for the first cause that stands, or none stands.
use Rattle.std.proofs.Common.{◌≡◌, ℕ, suc, ◌+◌, ◌<◌, ◌≤◌, Bool, true, false, List, [], ◌∷◌, ◌++◌, Option, Some, None, Result, Ok, Err, option_map, refl, ap, sym, subst, ◌∙◌, arith, ⊎_elim}
use Rattle.std.specs.Prelude.{◌↔◌, ◌&&◌, ◌||◌, not, nat_lt, is_some, length, count_by, find, slice_get, unwrap_or, replicate, if◌then◌else◌}
use Rattle.std.specs.List.{flat_map, position_or_len}
use Rattle.std.specs.Option.{option_and_then, option_map_or}
use Rattle.std.proofs.lemmas.Option.{slice_get_past}
use Rattle.std.proofs.lemmas.Bool.Decides.{nat_tests}
use Rattle.std.proofs.lemmas.Bool.{cases_lt, false≢true}
use Rattle.std.proofs.lemmas.List.Folds.{find_at}
use Rattle.usb_base.specs.declared.commands.Cmd.{Cmd}
use Rattle.usb_base.specs.declared.commands.Cmd.TheVariants as commands
use Rattle.usb_base.specs.declared.endpoints.EndCause.{EndCause}
use Rattle.usb_base.specs.declared.endpoints.EndCause.TheVariants as causes
use Rattle.usb_base.specs.declared.endpoints.EpDesc.{EpDesc}
use Rattle.usb_base.specs.declared.endpoints.EpName.{EpName}
use Rattle.usb_base.specs.declared.packets.EpKind.{EpKind}
use Rattle.usb_base.specs.declared.packets.EpKind.TheVariants as kinds
use Rattle.usb_base.specs.declared.packets.Way.TheVariants as ways
use Rattle.usb_base.specs.declared.reports.OfferError.{OfferError}
use Rattle.usb_base.specs.declared.reports.OfferError.TheVariants as errors
use Rattle.word_mem.specs.declared.blocks.BlockState.TheVariants.{Kept}
use Rattle.word_mem.specs.Free.{lowest_run, longest_run}
use Rattle.word_mem.specs.Memory.{Mem, with_states}
use Rattle.word_mem.specs.Runs.{Run}
use Rattle.mem_runs.specs.Book.{Holding, holding, with_run}
use Rattle.bandwidth.specs.Admission.{answer}
use Rattle.bandwidth.specs.Placements.{below}
use Rattle.bandwidth.specs.declared.placements.Placement.{Placement}
use Rattle.bandwidth.specs.declared.placements.Refused.{Refused}
use Rattle.drv_periodic_table.specs.Periodic.{is_periodic}
use Rattle.drv_table.specs.declared.content.Command.{Command}
use Rattle.drv_table.specs.declared.content.Endpoint.{Endpoint}
use Rattle.drv_table.specs.declared.content.Sort.TheVariants as sorts
use Rattle.drv_table.specs.DriverContent.{DriverContent, endpoint_of, endpoint_named, is_same_way, waits_for}
use Rattle.drv_table.specs.Words.{needs, get_stages, put_stages, request_stages, request_length}
use Rattle.drv_table.specs.Kinds.{is_iso}
use Rattle.drv_table.specs.Accepting.{Offered, take_runs}
use Rattle.drv_table.specs.Offers.{Asked, taken_open, taken_chain, placed_open, planned_open, offered_open, taken_transfer, open_transfer, found_transfer, offered_transfer, takes_get, takes_put, takes_control, offered_next, offered}
use Rattle.drv_table.specs.IsoOffers.{slots_of, iso_needs, taken_iso, open_iso, offered_iso, spans_too_long, has_slots}
use Rattle.drv_table.specs.CancelOffers.{cancelled_by, offered_cancel}
use Rattle.drv_table.specs.PeriodicOpens.{asked, BreaksBudgets}
use Rattle.claims_answers.specs.Refusals.{is_named, name_for, endpoint_for, number_for, is_isochronous, takes, opens, lacks_endpoint, end_for, closed_by, is_open}
use Rattle.claims_answers.specs.Refusals.{outstanding, slot_of, descriptors_too_long, is_too_long, HasNoPlacement, descriptor_runs, runs_for, lacking_run}
use Rattle.claims_answers.specs.Refusals.{HasCause, rank, IsFirstCause, HasNoCause}
use Rattle.law_answers.proofs.Needs.{queued_is, control_is, iso_is, get_runs, put_runs, request_runs, all_are, long_is}
use Rattle.law_answers.specs.RefusalLaws.{PlansExactly, IsAnswered, CommandsAreAnswered}

-- ---- runs that are taken one after the other

abbrev IsFound : Option (ℕ × ℕ) → Result Holding OfferError → Type 0
IsFound None r = (h : Holding) × (r ≡ Ok h)
IsFound (Some p) r = r ≡ Err (errors.NoBlocks p.0 p.1)

or_first : (h : Holding) (n : ℕ) (ns : List ℕ) (q : Option Run)
    → ((r : Run) → IsFound (lacking_run (with_states h.memory r Kept) ns) (take_runs (with_run h r) ns))
    → IsFound (elim q [ None ↦ Some (n, longest_run h.memory.states) | Some r ↦ lacking_run (with_states h.memory r Kept) ns ])
    (elim (option_map (with_run h) q) [ None ↦ Err (errors.NoBlocks n (longest_run h.memory.states)) | Some more ↦ take_runs more ns ])
or_first h n ns None rest = refl
or_first h n ns (Some r) rest = rest r

runs_found : (h : Holding) (ns : List ℕ) → IsFound (lacking_run h.memory ns) (take_runs h ns)
runs_found h [] = (h, refl)
runs_found h (n ∷ ns) = or_first h n ns (lowest_run h.memory.states n) (λ r. runs_found (with_run h r) ns)

-- ---- causes in their order

module _ (d : DriverContent) (m : Mem) (cmd : Cmd) where
  abbrev NoneBelow : ℕ → Type 0
  NoneBelow r = (other : OfferError) → rank other < r → HasCause d m cmd other → ⊥

  abbrev NoneAt : ℕ → Type 0
  NoneAt r = (other : OfferError) → rank other ≡ r → HasCause d m cmd other → ⊥

  none_first : NoneBelow 0
  none_first other less h = absurd (omega arith)

  one_more : (r : ℕ) → NoneBelow r → NoneAt r → NoneBelow (suc r)
  one_more r old here other less h =
      ⊎_elim (λ (lt : rank other < r). old other lt h) (λ (ge : r ≤ rank other). here other (omega arith) h) (cases_lt (rank other) r)

  not_busy : is_some d.command ≡ false → NoneAt 0
  not_busy nay errors.Busy is h = false≢true (sym nay ∙ h)
  not_busy nay _ is h = absurd (omega arith)

  has_endpoint : lacks_endpoint d cmd ≡ false → NoneAt 1
  has_endpoint nay errors.NoEndpoint is h = false≢true (sym nay ∙ h)
  has_endpoint nay _ is h = absurd (omega arith)

  none_some : (c : EndCause) → ◌≡◌ {A = Option EndCause} None (Some c) → ⊥
  none_some c e = cc

  not_closed : closed_by d cmd ≡ None → NoneAt 2
  not_closed nay (errors.Closed cause) is h = none_some cause (sym nay ∙ h)
  not_closed nay _ is h = absurd (omega arith)

  not_open : is_open d cmd ≡ false → NoneAt 3
  not_open nay errors.AlreadyOpen is h = false≢true (sym nay ∙ h)
  not_open nay _ is h = absurd (omega arith)

  not_long : is_too_long d cmd ≡ false → NoneAt 4
  not_long nay errors.TooLong is h = false≢true (sym nay ∙ h)
  not_long nay _ is h = absurd (omega arith)

  has_place : (HasNoPlacement d cmd → ⊥) → NoneAt 5
  has_place nay errors.NoPlacement is h = nay h
  has_place nay _ is h = absurd (omega arith)

  no_pair : (p : ℕ × ℕ) → ◌≡◌ {A = Option (ℕ × ℕ)} None (Some p) → ⊥
  no_pair p e = cc

  lacks_none : lacking_run m (runs_for d cmd) ≡ None → NoneAt 6
  lacks_none nay (errors.NoBlocks need largest) is h = no_pair (need, largest) (sym nay ∙ h)
  lacks_none nay _ is h = absurd (omega arith)

  none_at_all : NoneBelow 7 → HasNoCause d m cmd
  none_at_all below errors.NotEnded h = h
  none_at_all below errors.HubClosed h = h
  none_at_all below errors.Busy h = below errors.Busy (omega arith) h
  none_at_all below errors.NoEndpoint h = below errors.NoEndpoint (omega arith) h
  none_at_all below (errors.Closed cause) h = below (errors.Closed cause) (omega arith) h
  none_at_all below errors.AlreadyOpen h = below errors.AlreadyOpen (omega arith) h
  none_at_all below errors.TooLong h = below errors.TooLong (omega arith) h
  none_at_all below errors.NoPlacement h = below errors.NoPlacement (omega arith) h
  none_at_all below (errors.NoBlocks need largest) h = below (errors.NoBlocks need largest) (omega arith) h

  -- ---- the last of them: what is taken once the runs are there

  record Takes (taken : Result Holding OfferError → Result Offered OfferError) : Type 0 where
    lacks : (why : OfferError) → taken (Err why) ≡ Err why
    has : (h : Holding) → (o : Offered) × (taken (Ok h) ≡ Ok o)

  by_runs : (taken : Result Holding OfferError → Result Offered OfferError) → Takes taken → NoneBelow 6
      → (l : Option (ℕ × ℕ)) (r : Result Holding OfferError) → lacking_run m (runs_for d cmd) ≡ l → IsFound l r → IsAnswered d m cmd
      (taken r)
  by_runs taken t none None r is found =
      subst (IsAnswered d m cmd) (sym (ap taken found.1 ∙ (t.has found.0).1))
      (none_at_all (one_more 6 none (lacks_none is)))
  by_runs taken t none (Some p) r is found =
      subst (IsAnswered d m cmd) (sym (ap taken found ∙ t.lacks (errors.NoBlocks p.0 p.1)))
      (record { stands = is; first = none })

  taken_by_runs : (taken : Result Holding OfferError → Result Offered OfferError) → Takes taken → NoneBelow 6 → (k : Holding) (ns : List ℕ)
      → k.memory ≡ m → runs_for d cmd ≡ ns
      → IsAnswered d m cmd (taken (take_runs k ns))
  taken_by_runs taken t none k ns same is =
      by_runs taken t none (lacking_run k.memory ns) (take_runs k ns)
      (ap (λ (x : Mem). lacking_run x (runs_for d cmd)) (sym same) ∙ ap (lacking_run k.memory) is) (runs_found k ns)

-- ---- names

found_at : (xs : List Endpoint) (i : ℕ) (b : Bool) → nat_lt i (length xs) ≡ b
    → slice_get xs i ≡ option_and_then (λ (k : ℕ). slice_get xs k) (if b then Some i else None)
found_at xs i true is = refl
found_at xs i false is = slice_get_past xs i (grind (arith, nat_tests))

named_is : (d : DriverContent) (name : EpName) → find (is_named name) d.endpoints ≡ endpoint_named d name
named_is d name =
    find_at (is_named name) d.endpoints
    ∙ found_at d.endpoints (position_or_len (is_named name) d.endpoints)
    (nat_lt (position_or_len (is_named name) d.endpoints) (length d.endpoints)) refl

-- ---- transfers

abbrev IsBusyFree : DriverContent → Type 0
IsBusyFree d = is_some d.command ≡ false

module _ (d : DriverContent) (m : Mem) (cmd : Cmd) (idle : IsBusyFree d) (other : opens cmd ≡ false) where
  none_idle : NoneBelow d m cmd 1
  none_idle = one_more d m cmd 0 (none_first d m cmd) (not_busy d m cmd idle)

  lacks_is : (o : Option Endpoint) → endpoint_for d cmd ≡ o → lacks_endpoint d cmd ≡ not (option_map_or (takes cmd) o false)
  lacks_is o at = ap (λ (b : Bool). not b && not (option_map_or (takes cmd) (endpoint_for d cmd) false)) other ∙ ap
      (λ (q : Option Endpoint). not (option_map_or (takes cmd) q false)) at

  open_is : is_open d cmd ≡ false
  open_is = ap (λ (b : Bool). b && is_some (endpoint_for d cmd)) other

  -- no endpoint takes it
  untaken : (b : Bool) → lacks_endpoint d cmd ≡ b → b ≡ true → IsFirstCause d m cmd errors.NoEndpoint
  untaken b is aye = record { stands = is ∙ aye; first = none_idle }

  taken_below : lacks_endpoint d cmd ≡ false → NoneBelow d m cmd 2
  taken_below nay = one_more d m cmd 1 none_idle (has_endpoint d m cmd nay)

  going_below : lacks_endpoint d cmd ≡ false → closed_by d cmd ≡ None → NoneBelow d m cmd 4
  going_below nay going = one_more d m cmd 3 (one_more d m cmd 2 (taken_below nay) (not_closed d m cmd going)) (not_open d m cmd open_is)

  short_below : lacks_endpoint d cmd ≡ false → closed_by d cmd ≡ None → is_too_long d cmd ≡ false → (HasNoPlacement d cmd → ⊥)
      → NoneBelow d m cmd 6
  short_below nay going short place =
      one_more d m cmd 5 (one_more d m cmd 4 (going_below nay going) (not_long d m cmd short)) (has_place d m cmd place)

  module _ (e : ℕ) (takes_it : Endpoint → Bool) (a : Asked) (same : (x : Endpoint) → takes cmd x ≡ takes_it x)
      (ends : (x : Endpoint) → end_for cmd x ≡ x.ended)
      (long : is_too_long d cmd ≡ nat_lt 20480 a.most) (runs : runs_for d cmd ≡ needs a.stages) (place : HasNoPlacement d cmd → ⊥) where
    module _ (x : Endpoint) (at : endpoint_for d cmd ≡ Some x) where
      closed_is : (c : Option EndCause) → x.ended ≡ c → closed_by d cmd ≡ c
      closed_is c is = ap (λ (q : Option Endpoint). option_and_then (end_for cmd) q) at ∙ ends x ∙ is

      takes_is : (b : Bool) → takes_it x ≡ b → lacks_endpoint d cmd ≡ not b
      takes_is b is = lacks_is (Some x) at ∙ ap not (same x ∙ is)

      sized : (b : Bool) → nat_lt 20480 a.most ≡ b → takes_it x ≡ true → x.ended ≡ None
          → IsAnswered d m cmd (if b then Err errors.TooLong else taken_transfer d e x a (take_runs (holding d.book m) (needs a.stages)))
      sized true is aye going = record { stands = long ∙ is; first = going_below (takes_is true aye) (closed_is None going) }
      sized false is aye going =
          taken_by_runs d m cmd (taken_transfer d e x a) (record { lacks = λ why. refl; has = λ h. (_, refl) })
          (short_below (takes_is true aye) (closed_is None going) (long ∙ is) place) (holding d.book m) (needs a.stages) refl runs

      ended_or : (c : Option EndCause) → x.ended ≡ c → takes_it x ≡ true → IsAnswered d m cmd (open_transfer d m e x a c)
      ended_or (Some cause) is aye = record { stands = closed_is (Some cause) is; first = taken_below (takes_is true aye) }
      ended_or None is aye = sized (nat_lt 20480 a.most) refl aye is

      taken_or : (b : Bool) → takes_it x ≡ b → IsAnswered d m cmd (if b then open_transfer d m e x a x.ended else Err errors.NoEndpoint)
      taken_or true is = ended_or x.ended refl is
      taken_or false is = untaken true (takes_is false is) refl

    transfer_answered : (o : Option Endpoint) → endpoint_for d cmd ≡ o → IsAnswered d m cmd (found_transfer d m takes_it a e o)
    transfer_answered None at = untaken true (lacks_is None at) refl
    transfer_answered (Some x) at = taken_or x at (takes_it x) refl

-- ---- each command

module _ (d : DriverContent) (m : Mem) (idle : is_some d.command ≡ false) where
  transfers : (cmd : Cmd) (name : EpName) → name_for cmd ≡ Some name → opens cmd ≡ false → (takes_it : Endpoint → Bool) (a : Asked)
      → ((x : Endpoint) → takes cmd x ≡ takes_it x) → ((x : Endpoint) → end_for cmd x ≡ x.ended) → is_too_long d cmd ≡ nat_lt 20480 a.most
      → runs_for d cmd ≡ needs a.stages → (HasNoPlacement d cmd → ⊥) → IsAnswered d m cmd (offered_transfer d m name takes_it a)
  transfers cmd name named other takes_it a same ends long runs place =
      transfer_answered d m cmd idle other (unwrap_or (endpoint_of d name) 0) takes_it a same ends long runs place (endpoint_named d name)
      (ap (λ (o : Option EpName). option_and_then (λ (n : EpName). find (is_named n) d.endpoints) o) named ∙ named_is d name)

  gets : (name : EpName) (len by : ℕ) → IsAnswered d m (commands.Get name len by) (offered_next d m (commands.Get name len by))
  gets name len by =
      transfers (commands.Get name len by) name refl refl takes_get
      (record { sort = sorts.Get; stages = get_stages len by; most = len; bytes = [] })
      (λ x. ap (λ (b : Bool). b && is_same_way x.desc.name.way ways.In) (queued_is x.desc.kind)) (λ x. refl) refl (get_runs len by) (λ h. h)

  puts : (name : EpName) (bytes : List ℕ) (by : ℕ)
      → IsAnswered d m (commands.Put name bytes by) (offered_next d m (commands.Put name bytes by))
  puts name bytes by =
      transfers (commands.Put name bytes by) name refl refl takes_put
      (record { sort = sorts.Put; stages = put_stages (length bytes) by; most = length bytes; bytes = bytes })
      (λ x. ap (λ (b : Bool). b && is_same_way x.desc.name.way ways.Out) (queued_is x.desc.kind)) (λ x. refl) refl
      (put_runs (length bytes) by) (λ h. h)

  controls : (name : EpName) (setup bytes : List ℕ)
      → IsAnswered d m (commands.Control name setup bytes) (offered_next d m (commands.Control name setup bytes))
  controls name setup bytes =
      transfers (commands.Control name setup bytes) name refl refl takes_control
      (record { sort = sorts.Request; stages = request_stages setup; most = request_length setup; bytes = setup ++ bytes })
      (λ x. control_is x.desc.kind) (λ x. refl) refl (request_runs setup) (λ h. h)

  module _ (name : EpName) where
    module _ (x : Endpoint) (at : endpoint_for d (commands.Cancel name) ≡ Some x) where
      cancel_there : lacks_endpoint d (commands.Cancel name) ≡ false
      cancel_there = lacks_is d m (commands.Cancel name) idle refl (Some x) at

      cancel_closed : (b : Bool) → x.cancelled ≡ b → closed_by d (commands.Cancel name) ≡ (if b then Some causes.Cancel else None)
      cancel_closed b is =
          ap (λ (q : Option Endpoint). option_and_then (end_for (commands.Cancel name)) q) at
          ∙ ap (λ (c : Bool). if c then Some causes.Cancel else None) is

      cancel_by : (b : Bool) → x.cancelled ≡ b
          → IsAnswered d m (commands.Cancel name)
          (if b then Err (errors.Closed causes.Cancel)
          else Ok (record { driver = cancelled_by d (unwrap_or (endpoint_of d name) 0) x x.placement; memory = m }))
      cancel_by true is = record { stands = cancel_closed true is; first = taken_below d m (commands.Cancel name) idle refl cancel_there }
      cancel_by false is =
          none_at_all d m (commands.Cancel name)
          (one_more d m (commands.Cancel name) 6
          (short_below d m (commands.Cancel name) idle refl cancel_there (cancel_closed false is) refl (λ h. h))
          (lacks_none d m (commands.Cancel name) refl))

    cancel_answered : (o : Option Endpoint) → endpoint_for d (commands.Cancel name) ≡ o
        → IsAnswered d m (commands.Cancel name) (offered_cancel d m (unwrap_or (endpoint_of d name) 0) o)
    cancel_answered None at = untaken d m (commands.Cancel name) idle refl true (lacks_is d m (commands.Cancel name) idle refl None at) refl
    cancel_answered (Some x) at = cancel_by x at x.cancelled refl

  -- ---- isochronous descriptors

  module _ (name : EpName) (count len seed : ℕ) where
    module _ (x : Endpoint) (at : endpoint_for d (commands.Iso name count len seed) ≡ Some x) where
      iso_there : (b : Bool) → is_iso x.desc.kind ≡ b → lacks_endpoint d (commands.Iso name count len seed) ≡ not b
      iso_there b is = lacks_is d m (commands.Iso name count len seed) idle refl (Some x) at ∙ ap not (iso_is x.desc.kind ∙ is)

      iso_closed : (c : Option EndCause) → x.ended ≡ c → closed_by d (commands.Iso name count len seed) ≡ c
      iso_closed c is = ap (λ (q : Option Endpoint). option_and_then (end_for (commands.Iso name count len seed)) q) at ∙ is

      iso_long : is_too_long d (commands.Iso name count len seed)
          ≡ (spans_too_long x (count + count_by (waits_for (unwrap_or (endpoint_of d name) 0)) d.transfers) || not
          (has_slots x (slots_of x len)))
      iso_long =
          ap (λ (q : Option Endpoint).
          option_map_or (λ z. descriptors_too_long z (slot_of z len)
          (count + outstanding d (number_for d (commands.Iso name count len seed)))) q false) at
          ∙ long_is x len (count + outstanding d (number_for d (commands.Iso name count len seed)))

      iso_needed : runs_for d (commands.Iso name count len seed) ≡ iso_needs (slots_of x len) count
      iso_needed =
          ap (λ (q : Option Endpoint). option_map_or
          (λ z. flat_map (λ (ns : List ℕ). ns) (replicate count (descriptor_runs z (slot_of z len)))) q []) at
          ∙ all_are x len count

      iso_sized : (b : Bool)
          → (spans_too_long x (count + count_by (waits_for (unwrap_or (endpoint_of d name) 0)) d.transfers) || not
          (has_slots x (slots_of x len))) ≡ b
          → is_iso x.desc.kind ≡ true → x.ended ≡ None
          → IsAnswered d m (commands.Iso name count len seed)
          (if b then Err errors.TooLong
          else taken_iso d (unwrap_or (endpoint_of d name) 0) x (slots_of x len) count seed
          (take_runs (holding d.book m) (iso_needs (slots_of x len) count)))
      iso_sized true is kind_is going = record {
        stands = iso_long ∙ is;
        first = going_below d m (commands.Iso name count len seed) idle refl (iso_there true kind_is) (iso_closed None going);
      }
      iso_sized false is kind_is going =
          taken_by_runs d m (commands.Iso name count len seed)
          (taken_iso d (unwrap_or (endpoint_of d name) 0) x (slots_of x len) count seed)
          (record { lacks = λ why. refl; has = λ h. (_, refl) })
          (short_below d m (commands.Iso name count len seed) idle refl (iso_there true kind_is) (iso_closed None going) (iso_long ∙ is)
          (λ h. h)) (holding d.book m)
          (iso_needs (slots_of x len) count) refl iso_needed

      iso_ended : (c : Option EndCause) → x.ended ≡ c → is_iso x.desc.kind ≡ true
          → IsAnswered d m (commands.Iso name count len seed)
          (open_iso d m (unwrap_or (endpoint_of d name) 0) x (slots_of x len) count seed c)
      iso_ended (Some cause) is kind_is = record {
        stands = iso_closed (Some cause) is;
        first = taken_below d m (commands.Iso name count len seed) idle refl (iso_there true kind_is);
      }
      iso_ended None is kind_is =
          iso_sized (spans_too_long x (count + count_by (waits_for (unwrap_or (endpoint_of d name) 0)) d.transfers) || not
          (has_slots x (slots_of x len))) refl kind_is is

      kind : (b : Bool) → is_iso x.desc.kind ≡ b
          → IsAnswered d m (commands.Iso name count len seed)
          (if b then open_iso d m (unwrap_or (endpoint_of d name) 0) x (slots_of x len) count seed x.ended else Err errors.NoEndpoint)
      kind true is = iso_ended x.ended refl is
      kind false is = untaken d m (commands.Iso name count len seed) idle refl true (iso_there false is) refl

    iso_answered : (o : Option Endpoint) → endpoint_for d (commands.Iso name count len seed) ≡ o
        → IsAnswered d m (commands.Iso name count len seed) (offered_iso d m (unwrap_or (endpoint_of d name) 0) count len seed o)
    iso_answered None at =
        untaken d m (commands.Iso name count len seed) idle refl true (lacks_is d m (commands.Iso name count len seed) idle refl None at)
        refl
    iso_answered (Some x) at = kind x at (is_iso x.desc.kind) refl

  -- ---- an open

  module _ (x : EpDesc) (exactly : PlansExactly d m (commands.OpenEp x)) where
    none_idle_open : NoneBelow d m (commands.OpenEp x) 2
    none_idle_open =
        one_more d m (commands.OpenEp x) 1
        (one_more d m (commands.OpenEp x) 0 (none_first d m (commands.OpenEp x)) (not_busy d m (commands.OpenEp x) idle))
        (has_endpoint d m (commands.OpenEp x) refl)

    module _ (at : endpoint_for d (commands.OpenEp x) ≡ None) where
      none_named : NoneBelow d m (commands.OpenEp x) 5
      none_named =
          one_more d m (commands.OpenEp x) 4
          (one_more d m (commands.OpenEp x) 3
          (one_more d m (commands.OpenEp x) 2 none_idle_open
          (not_closed d m (commands.OpenEp x) (ap (λ (q : Option Endpoint). option_and_then (end_for (commands.OpenEp x)) q) at)))
          (not_open d m (commands.OpenEp x) (ap (λ (q : Option Endpoint). is_some q) at)))
          (not_long d m (commands.OpenEp x) refl)

      placed_below : (HasNoPlacement d (commands.OpenEp x) → ⊥) → NoneBelow d m (commands.OpenEp x) 6
      placed_below place = one_more d m (commands.OpenEp x) 5 none_named (has_place d m (commands.OpenEp x) place)

      of_queue : is_isochronous x.kind ≡ false → runs_for d (commands.OpenEp x) ≡ 2 ∷ 1 ∷ []
      of_queue is = ap (λ (b : Bool). if b then [] else 2 ∷ 1 ∷ []) is

      -- of the ring
      ring_kind : (k : EpKind) → is_periodic k ≡ false → is_isochronous k ≡ false
      ring_kind kinds.Bulk is = refl
      ring_kind kinds.Control is = refl
      ring_kind kinds.Interrupt is = absurd (false≢true (sym is))
      ring_kind kinds.Iso is = absurd (false≢true (sym is))

      in_ring : is_periodic x.kind ≡ false → IsAnswered d m (commands.OpenEp x) (taken_open d x (take_runs (holding d.book m) (2 ∷ 1 ∷ [])))
      in_ring is =
          taken_by_runs d m (commands.OpenEp x) (taken_open d x) (record { lacks = λ why. refl; has = λ h. (_, refl) })
          (placed_below (λ h. false≢true (sym is ∙ h.0))) (holding d.book m) (2 ∷ 1 ∷ []) refl (of_queue (ring_kind x.kind is))

      idle_command : (c : Option Command) → d.command ≡ c → is_some c ≡ false → d.command ≡ None
      idle_command None is never = is
      idle_command (Some c) is never = absurd (false≢true (sym never))

      command_is : d.command ≡ None
      command_is = idle_command d.command refl idle

      unnamed : endpoint_named d x.name ≡ None
      unnamed = sym (named_is d x.name) ∙ at

      -- in the frames
      module _ (kind : is_periodic x.kind ≡ true) where
        rule : (offered d m (commands.OpenEp x) ≡ Err errors.NoPlacement) ↔ BreaksBudgets d x
        rule = exactly x refl (record { idle = command_is; name = unnamed; kind = kind })

        open_is_planned : (r : Result Placement Refused) → answer d.periodic.plan (asked d x) ≡ r
            → offered d m (commands.OpenEp x) ≡ planned_open d m x r
        open_is_planned r is =
            ap (λ (b : Bool). if b then Err errors.Busy else offered_next d m (commands.OpenEp x)) idle
            ∙ ap (λ (q : Option Endpoint). offered_open d m x q) unnamed
            ∙ ap (λ (b : Bool). if b then planned_open d m x (answer d.periodic.plan (asked d x)) else taken_open d x
            (take_runs (holding d.book m) (2 ∷ 1 ∷ []))) kind
            ∙ ap (λ (q : Result Placement Refused). planned_open d m x q) is

        ok_err : (o : Offered) → ◌≡◌ {A = Result Offered OfferError} (Ok o) (Err errors.NoPlacement) → ⊥
        ok_err o e = cc

        blocks_err : (p : ℕ × ℕ) → ◌≡◌ {A = Result Offered OfferError} (Err (errors.NoBlocks p.0 p.1)) (Err errors.NoPlacement) → ⊥
        blocks_err p e = cc

        chain_other : (p : Placement) (l : Option (ℕ × ℕ)) (r : Result Holding OfferError) → IsFound l r
            → taken_chain d x p r ≡ Err errors.NoPlacement → ⊥
        chain_other p None r found e = ok_err _ (sym (ap (taken_chain d x p) found.1) ∙ e)
        chain_other p (Some l) r found e = blocks_err l (sym (ap (taken_chain d x p) found) ∙ e)

        placed_other : (p : Placement) (k : EpKind) → placed_open d m x p k ≡ Err errors.NoPlacement → ⊥
        placed_other p kinds.Iso e = ok_err _ e
        placed_other p _ e = chain_other p (lacking_run m (2 ∷ 1 ∷ [])) (take_runs (holding d.book m) (2 ∷ 1 ∷ []))
            (runs_found (holding d.book m) (2 ∷ 1 ∷ [])) e

        fits : (p : Placement) → answer d.periodic.plan (asked d x) ≡ Ok p → HasNoPlacement d (commands.OpenEp x) → ⊥
        fits p is h = placed_other p x.kind (sym (open_is_planned (Ok p) is) ∙ rule.1 h.1)

        placed_by : (p : Placement) → answer d.periodic.plan (asked d x) ≡ Ok p → (k : EpKind) → x.kind ≡ k
            → IsAnswered d m (commands.OpenEp x) (placed_open d m x p k)
        placed_by p is kinds.Iso kind_is =
            none_at_all d m (commands.OpenEp x)
            (one_more d m (commands.OpenEp x) 6 (placed_below (fits p is))
            (lacks_none d m (commands.OpenEp x) (ap (λ (k : EpKind). lacking_run m (if is_isochronous k then [] else 2 ∷ 1 ∷ [])) kind_is)))
        placed_by p is kinds.Interrupt kind_is =
            taken_by_runs d m (commands.OpenEp x) (taken_chain d x p) (record { lacks = λ why. refl; has = λ h. (_, refl) })
            (placed_below (fits p is)) (holding d.book m) (2 ∷ 1 ∷ []) refl (of_queue (ap is_isochronous kind_is))
        placed_by p is kinds.Bulk kind_is = absurd (false≢true (sym (ap is_periodic kind_is) ∙ kind))
        placed_by p is kinds.Control kind_is = absurd (false≢true (sym (ap is_periodic kind_is) ∙ kind))

        planned : (r : Result Placement Refused) → answer d.periodic.plan (asked d x) ≡ r
            → IsAnswered d m (commands.OpenEp x) (planned_open d m x r)
        planned (Err why) is = record { stands = (kind, rule.0 (open_is_planned (Err why) is)); first = none_named }
        planned (Ok p) is = placed_by p is x.kind refl

      by_kind : (b : Bool) → is_periodic x.kind ≡ b
          → IsAnswered d m (commands.OpenEp x)
          (if b then planned_open d m x (answer d.periodic.plan (asked d x)) else taken_open d x
          (take_runs (holding d.book m) (2 ∷ 1 ∷ [])))
      by_kind true is = planned is (answer d.periodic.plan (asked d x)) refl
      by_kind false is = in_ring is

    again : (old : Endpoint) → endpoint_for d (commands.OpenEp x) ≡ Some old → (c : Option EndCause) → old.ended ≡ c
        → IsAnswered d m (commands.OpenEp x) (elim c [ Some cause ↦ Err (errors.Closed cause) | None ↦ Err errors.AlreadyOpen ])
    again old at (Some cause) is = record {
      stands = ap (λ (q : Option Endpoint). option_and_then (end_for (commands.OpenEp x)) q) at ∙ is;
      first = none_idle_open;
    }
    again old at None is = record {
      stands = ap (λ (q : Option Endpoint). is_some q) at;
      first = one_more d m (commands.OpenEp x) 2 none_idle_open
          (not_closed d m (commands.OpenEp x) (ap (λ (q : Option Endpoint). option_and_then (end_for (commands.OpenEp x)) q) at ∙ is));
    }

    open_answered : (o : Option Endpoint) → endpoint_for d (commands.OpenEp x) ≡ o
        → IsAnswered d m (commands.OpenEp x) (offered_open d m x o)
    open_answered None at = by_kind at (is_periodic x.kind) refl
    open_answered (Some old) at = again old at old.ended refl

-- ---- any command

module _ (d : DriverContent) (m : Mem) where
  unbuilt : (cmd : Cmd) → is_some d.command ≡ false → opens cmd ≡ false → endpoint_for d cmd ≡ None → IsFirstCause d m cmd errors.NoEndpoint
  unbuilt cmd idle other at = untaken d m cmd idle other true (lacks_is d m cmd idle other None at) refl

  next_answered : (cmd : Cmd) → PlansExactly d m cmd → is_some d.command ≡ false → IsAnswered d m cmd (offered_next d m cmd)
  next_answered (commands.OpenEp x) exactly idle = open_answered d m idle x exactly (endpoint_named d x.name) (named_is d x.name)
  next_answered (commands.Get name len by) exactly idle = gets d m idle name len by
  next_answered (commands.Put name bytes by) exactly idle = puts d m idle name bytes by
  next_answered (commands.Control name setup bytes) exactly idle = controls d m idle name setup bytes
  next_answered (commands.Iso name count len seed) exactly idle =
      iso_answered d m idle name count len seed (endpoint_named d name) (named_is d name)
  next_answered (commands.Cancel name) exactly idle = cancel_answered d m idle name (endpoint_named d name) (named_is d name)
  next_answered (commands.Clear name) exactly idle = unbuilt (commands.Clear name) idle refl refl
  next_answered (commands.Reset port) exactly idle = unbuilt (commands.Reset port) idle refl refl
  next_answered (commands.Give port) exactly idle = unbuilt (commands.Give port) idle refl refl
  next_answered (commands.DiskRead addr lba count) exactly idle = unbuilt (commands.DiskRead addr lba count) idle refl refl
  next_answered (commands.DiskWrite addr lba bytes) exactly idle = unbuilt (commands.DiskWrite addr lba bytes) idle refl refl
  next_answered (commands.Revive addr) exactly idle = unbuilt (commands.Revive addr) idle refl refl

  by_busy : (cmd : Cmd) (b : Bool) → is_some d.command ≡ b → PlansExactly d m cmd
      → IsAnswered d m cmd (if b then Err errors.Busy else offered_next d m cmd)
  by_busy cmd true is exactly = record { stands = is; first = none_first d m cmd }
  by_busy cmd false is exactly = next_answered cmd exactly is

pub commands_are_answered : CommandsAreAnswered
commands_are_answered d m cmd exactly = by_busy d m cmd (is_some d.command) refl exactly
