-- Each accepted command was accepted for a reason.
use Rattle.std.proofs.Common.{◌≡◌, ℕ, zero, suc, ◌+◌, ◌-◌, ◌*◌, ◌≤◌, Bool, true, false, not, ◌&&◌, ◌||◌, cond, min, max, nat_lt, nat_le, nat_eq, List, [], ◌∷◌, ◌++◌, length, map, slice_get, Option, Some, None, Result, Ok, Err, unwrap_or, ap, sym, ◌∙◌, refl, arith}
use Rattle.std.specs.Prelude.{option_and_then, is_some, count_by}
use Rattle.std.proofs.lemmas.Bool.{false≢true}
use Rattle.std.proofs.lemmas.List.Sums.{count_by-le-length}
use Rattle.std.proofs.lemmas.Nat.{mul-le}
use Rattle.std.specs.List.{range_with_len}
use Rattle.std.proofs.lemmas.Bool.Decides.{nat_tests}
use Rattle.law_driver.proofs.Common.{ok_is, control_kind, queue_kind, found_there}
use Rattle.usb_base.specs.declared.endpoints.EpDesc.{EpDesc}
use Rattle.usb_base.specs.declared.endpoints.EndCause.{EndCause}
use Rattle.usb_base.specs.declared.endpoints.EndCause.TheVariants as causes
use Rattle.usb_base.specs.declared.commands.Cmd.{Cmd}
use Rattle.usb_base.specs.declared.commands.Cmd.TheVariants as commands
use Rattle.usb_base.specs.declared.reports.OfferError.{OfferError}
use Rattle.usb_base.specs.declared.reports.OfferError.TheVariants as errors
use Rattle.word_mem.specs.Memory.{Mem}
use Rattle.mem_runs.specs.Book.{Holding, holding}
use Rattle.drv_table.specs.declared.content.Endpoint.{Endpoint}
use Rattle.drv_table.specs.declared.content.Stage.{Stage}
use Rattle.drv_table.specs.declared.content.Command.{Command}
use Rattle.drv_table.specs.declared.content.Sort.TheVariants as sorts
use Rattle.drv_table.specs.declared.content.Slots.{Slots}
use Rattle.usb_base.specs.declared.packets.EpKind.{EpKind}
use Rattle.usb_base.specs.declared.packets.EpKind.TheVariants as kinds
use Rattle.usb_base.specs.declared.packets.Way.TheVariants as ways
use Rattle.bandwidth.specs.declared.placements.Placement.{Placement}
use Rattle.bandwidth.specs.declared.placements.Refused.{Refused}
use Rattle.bandwidth.specs.Placements.{has, below}
use Rattle.bandwidth.specs.Admission.{answer}
use Rattle.drv_periodic_table.specs.Periodic.{is_periodic, want_of}
use Rattle.drv_periodic_table.specs.Descriptors.{slots_before, slot_limit}
use Rattle.drv_table.specs.Kinds.{is_iso}
use Rattle.drv_table.specs.DriverContent.{DriverContent, is_same_way, waits_for, endpoint_of, endpoint_named}
use Rattle.drv_table.specs.Words.{pieces, in_stage, out_stage, get_stages, put_stages, request_length, request_stages, asks_in, setup_stage, data_stage, status_stage, needs}
use Rattle.drv_table.specs.Accepting.{Offered, take_runs}
use Rattle.drv_table.specs.Offers.{Asked, taken_open, taken_chain, placed_open, planned_open, offered_open, taken_transfer, open_transfer, found_transfer, takes_get, takes_put, takes_control, offered_next, offered}
use Rattle.drv_table.specs.IsoOffers.{total_of, slots_of, iso_needs, taken_iso, spans_too_long, has_slots, open_iso, offered_iso}
use Rattle.drv_table.specs.CancelOffers.{cancelled_by, offered_cancel}
use Rattle.claims_driver.specs.Owners.{is_descriptor}
use Rattle.law_driver.specs.run_owners.Accepts.{AreShort, Accepts, opens, chains, places, transfers, describes, cancels, unchains}

-- ---- the stages of a transfer

record AreAsked (a : Asked) : Type 0 where
  short : a.most ≤ 20480 → AreShort a.stages
  some : 1 ≤ length a.stages
  sort : is_descriptor a.sort ≡ false

cuts_short : (f : ℕ → Stage) (g : ℕ → ℕ) (xs : List ℕ) → ((n : ℕ) → (f (g n)).long ≤ 20480) → AreShort (map f (map g xs))
cuts_short f g [] each = tt
cuts_short f g (x ∷ xs) each = (each x, cuts_short f g xs each)

cuts_many : (f : ℕ → Stage) (g : ℕ → ℕ) (from n : ℕ) → length (map f (map g (range_with_len from n))) ≡ n
cuts_many f g from zero = refl
cuts_many f g from (suc n) = ap suc (cuts_many f g (from + 1) n)

get_asked : (len by : ℕ) → AreAsked (record { sort = sorts.Get; stages = get_stages len by; most = len; bytes = [] })
get_asked len by = record {
  short = λ few. cuts_short in_stage (λ k. min by (len - k * by)) (range_with_len 0 (max 1 (pieces len by))) (λ n. omega (arith, few));
  some = let m = cuts_many in_stage (λ k. min by (len - k * by)) 0 (max 1 (pieces len by)) in omega (arith, m);
  sort = refl;
}

put_asked : (bytes : List ℕ) (by : ℕ) → AreAsked (record { sort = sorts.Put; stages = put_stages (length bytes) by; most = length bytes; bytes = bytes })
put_asked bytes by = record {
  short = λ few. cuts_short out_stage (λ k. min by (length bytes - k * by)) (range_with_len 0 (max 1 (pieces (length bytes) by))) (λ n. omega (arith, few));
  some = let m = cuts_many out_stage (λ k. min by (length bytes - k * by)) 0 (max 1 (pieces (length bytes) by)) in omega (arith, m);
  sort = refl;
}

request_short : (setup : List ℕ) (n : ℕ) (b : Bool) → n ≤ 20480 → AreShort (cond b (setup_stage ∷ status_stage true ∷ []) (setup_stage ∷ data_stage (asks_in setup) n ∷ status_stage (not (asks_in setup)) ∷ []))
request_short setup n true few = (omega arith, (omega arith, tt))
request_short setup n false few = (omega arith, (few, (omega arith, tt)))

request_some : (b : Bool) (x y : List Stage) → 1 ≤ length x → 1 ≤ length y → 1 ≤ length (cond b x y)
request_some true x y one two = one
request_some false x y one two = two

control_asked : (setup bytes : List ℕ) → AreAsked (record { sort = sorts.Request; stages = request_stages setup; most = request_length setup; bytes = setup ++ bytes })
control_asked setup bytes = record {
  short = λ few. request_short setup (request_length setup) (nat_eq (request_length setup) 0) few;
  some = request_some (nat_eq (request_length setup) 0) _ _ (omega arith) (omega arith);
  sort = refl;
}

-- ---- transfers

taken_why : (d : DriverContent) (m : Mem) (e : ℕ) (x : Endpoint) (a : Asked) (o : Offered) (r : Result Holding OfferError) → d.command ≡ None → slice_get d.endpoints e ≡ Some x → x.ended ≡ None → is_iso x.desc.kind ≡ false → AreAsked a → a.most ≤ 20480 → take_runs (holding d.book m) (needs a.stages) ≡ r → taken_transfer d e x a r ≡ Ok o → Accepts d m o
taken_why d m e x a o (Err why) idle here ended queued asked few is f = absurd (cc)
taken_why d m e x a o (Ok h) idle here ended queued asked few is f =
    transfers (record {
      number = e;
      endpoint = x;
      asked = a;
      holding_after = h;
      idle = idle;
      here = here;
      goes_on = ended;
      queued = queued;
      sort = asked.sort;
      short = asked.short few;
      some = asked.some;
      runs = is;
      is = ok_is _ o f;
    })

long_why : (d : DriverContent) (m : Mem) (e : ℕ) (x : Endpoint) (a : Asked) (o : Offered) (b : Bool) → d.command ≡ None → slice_get d.endpoints e ≡ Some x → x.ended ≡ None → is_iso x.desc.kind ≡ false → AreAsked a → nat_lt 20480 a.most ≡ b → cond b (Err errors.TooLong) (taken_transfer d e x a (take_runs (holding d.book m) (needs a.stages))) ≡ Ok o → Accepts d m o
long_why d m e x a o true idle here ended queued asked is f = absurd (cc)
long_why d m e x a o false idle here ended queued asked is f =
    let few : a.most ≤ 20480 = grind (arith, nat_tests) in
    taken_why d m e x a o (take_runs (holding d.book m) (needs a.stages)) idle here ended queued asked few refl f

ended_why : (d : DriverContent) (m : Mem) (e : ℕ) (x : Endpoint) (a : Asked) (o : Offered) (c : Option EndCause) → d.command ≡ None → slice_get d.endpoints e ≡ Some x → x.ended ≡ c → is_iso x.desc.kind ≡ false → AreAsked a → open_transfer d m e x a c ≡ Ok o → Accepts d m o
ended_why d m e x a o (Some cause) idle here ended queued asked f = absurd (cc)
ended_why d m e x a o None idle here ended queued asked f = long_why d m e x a o (nat_lt 20480 a.most) idle here ended queued asked refl f

takes_why : (d : DriverContent) (m : Mem) (e : ℕ) (x : Endpoint) (a : Asked) (o : Offered) (b : Bool) → d.command ≡ None → slice_get d.endpoints e ≡ Some x → (b ≡ true → is_iso x.desc.kind ≡ false) → AreAsked a → cond b (open_transfer d m e x a x.ended) (Err errors.NoEndpoint) ≡ Ok o → Accepts d m o
takes_why d m e x a o false idle here queued asked f = absurd (cc)
takes_why d m e x a o true idle here queued asked f = ended_why d m e x a o x.ended idle here refl (queued refl) asked f

found_why : (d : DriverContent) (m : Mem) (takes : Endpoint → Bool) (e : ℕ) (a : Asked) (o : Offered) (q : Option Endpoint) → d.command ≡ None → slice_get d.endpoints e ≡ q → ((x : Endpoint) → takes x ≡ true → is_iso x.desc.kind ≡ false) → AreAsked a → found_transfer d m takes a e q ≡ Ok o → Accepts d m o
found_why d m takes e a o None idle here queued asked f = absurd (cc)
found_why d m takes e a o (Some x) idle here queued asked f = takes_why d m e x a o (takes x) idle here (queued x) asked f

named_why : (d : DriverContent) (m : Mem) (takes : Endpoint → Bool) (a : Asked) (o : Offered) (q : Option ℕ) → d.command ≡ None → ((x : Endpoint) → takes x ≡ true → is_iso x.desc.kind ≡ false) → AreAsked a → found_transfer d m takes a (unwrap_or q 0) (option_and_then (λ e. slice_get d.endpoints e) q) ≡ Ok o → Accepts d m o
named_why d m takes a o None idle queued asked f = absurd (cc)
named_why d m takes a o (Some e) idle queued asked f = found_why d m takes e a o (slice_get d.endpoints e) idle refl queued asked f

-- ---- descriptors

slots_eight : (s : Slots) → slots_before s.smask 8 ≤ 8
unfolding slots_before
slots_eight s = count_by-le-length (has s.smask) (below 8)

slots_few : (s : Slots) → s.slot ≤ slot_limit s.split → total_of s ≤ 24576
slots_few s few = at s.split few
  where
    at : (split : Bool) → s.slot ≤ slot_limit split → cond split s.slot (slots_before s.smask 8 * s.slot) ≤ 24576
    at true few = omega (arith, few)
    at false few = mul-le (slots_before s.smask 8) s.slot 8 3072 (slots_eight s) few

iso_why : (d : DriverContent) (m : Mem) (e : ℕ) (x : Endpoint) (s : Slots) (n seed : ℕ) (o : Offered) (r : Result Holding OfferError) → d.command ≡ None → slice_get d.endpoints e ≡ Some x → x.ended ≡ None → is_iso x.desc.kind ≡ true → total_of s ≤ 24576 → take_runs (holding d.book m) (iso_needs s n) ≡ r → taken_iso d e x s n seed r ≡ Ok o → Accepts d m o
iso_why d m e x s n seed o (Err why) idle here ended iso short is f = absurd (cc)
iso_why d m e x s n seed o (Ok h) idle here ended iso short is f =
    describes (record {
      number = e;
      endpoint = x;
      slots = s;
      count = n;
      seed = seed;
      holding_after = h;
      idle = idle;
      here = here;
      goes_on = ended;
      isochronous = iso;
      short = short;
      runs = is;
      is = ok_is _ o f;
    })

iso_long : (d : DriverContent) (m : Mem) (e : ℕ) (x : Endpoint) (s : Slots) (n seed : ℕ) (o : Offered) (a b : Bool) → d.command ≡ None → slice_get d.endpoints e ≡ Some x → x.ended ≡ None → is_iso x.desc.kind ≡ true → (b ≡ true → s.slot ≤ slot_limit s.split) → cond (a || not b) (Err errors.TooLong) (taken_iso d e x s n seed (take_runs (holding d.book m) (iso_needs s n))) ≡ Ok o → Accepts d m o
iso_long d m e x s n seed o true b idle here ended iso few f = absurd (cc)
iso_long d m e x s n seed o false false idle here ended iso few f = absurd (cc)
iso_long d m e x s n seed o false true idle here ended iso few f =
    iso_why d m e x s n seed o (take_runs (holding d.book m) (iso_needs s n)) idle here ended iso (slots_few s (few refl)) refl f

few_slots : (x : Endpoint) (s : Slots) → has_slots x s ≡ true → s.slot ≤ slot_limit s.split
few_slots x s has = first (slot_limit s.split) (nat_le s.slot (slot_limit s.split)) refl (has_first (nat_le s.slot (slot_limit s.split)) (nat_le x.desc.max 1024) (nat_le 1 x.desc.multi) (nat_le x.desc.multi 3) (nat_le x.desc.port 127) has)
  where
    has_first : (a b c d f : Bool) → a && b && c && d && f ≡ true → a ≡ true
    has_first true b c d f e = refl
    has_first false b c d f e = e

    first : (most : ℕ) (a : Bool) → nat_le s.slot most ≡ a → a ≡ true → s.slot ≤ most
    first most a is on = grind (arith, nat_tests)

iso_ended : (d : DriverContent) (m : Mem) (e : ℕ) (x : Endpoint) (s : Slots) (n seed : ℕ) (o : Offered) (c : Option EndCause) → d.command ≡ None → slice_get d.endpoints e ≡ Some x → x.ended ≡ c → is_iso x.desc.kind ≡ true → open_iso d m e x s n seed c ≡ Ok o → Accepts d m o
iso_ended d m e x s n seed o (Some cause) idle here ended iso f = absurd (cc)
iso_ended d m e x s n seed o None idle here ended iso f =
    iso_long d m e x s n seed o (spans_too_long x (n + count_by (waits_for e) d.transfers)) (has_slots x s) idle here ended iso (few_slots x s) f

iso_kind : (d : DriverContent) (m : Mem) (e : ℕ) (x : Endpoint) (len n seed : ℕ) (o : Offered) (b : Bool) → d.command ≡ None → slice_get d.endpoints e ≡ Some x → is_iso x.desc.kind ≡ b → cond b (open_iso d m e x (slots_of x len) n seed x.ended) (Err errors.NoEndpoint) ≡ Ok o → Accepts d m o
iso_kind d m e x len n seed o false idle here iso f = absurd (cc)
iso_kind d m e x len n seed o true idle here iso f = iso_ended d m e x (slots_of x len) n seed o x.ended idle here refl iso f

iso_found : (d : DriverContent) (m : Mem) (e : ℕ) (len n seed : ℕ) (o : Offered) (q : Option Endpoint) → d.command ≡ None → slice_get d.endpoints e ≡ q → offered_iso d m e n len seed q ≡ Ok o → Accepts d m o
iso_found d m e len n seed o None idle here f = absurd (cc)
iso_found d m e len n seed o (Some x) idle here f = iso_kind d m e x len n seed o (is_iso x.desc.kind) idle here refl f

iso_named : (d : DriverContent) (m : Mem) (len n seed : ℕ) (o : Offered) (q : Option ℕ) → d.command ≡ None → offered_iso d m (unwrap_or q 0) n len seed (option_and_then (λ e. slice_get d.endpoints e) q) ≡ Ok o → Accepts d m o
iso_named d m len n seed o None idle f = absurd (cc)
iso_named d m len n seed o (Some e) idle f = iso_found d m e len n seed o (slice_get d.endpoints e) idle refl f

-- ---- an open

opened_why : (d : DriverContent) (m : Mem) (x : EpDesc) (o : Offered) (r : Result Holding OfferError) → d.command ≡ None → endpoint_of d x.name ≡ None → is_periodic x.kind ≡ false → take_runs (holding d.book m) (2 ∷ 1 ∷ []) ≡ r → taken_open d x r ≡ Ok o → Accepts d m o
opened_why d m x o (Err why) idle none ring is f = absurd (cc)
opened_why d m x o (Ok h) idle none ring is f =
    opens (record { desc = x; holding_after = h; idle = idle; new_name = none; ring = ring; runs = is; is = ok_is _ o f })

chained_why : (d : DriverContent) (m : Mem) (x : EpDesc) (p : Placement) (o : Offered) (r : Result Holding OfferError) → d.command ≡ None → endpoint_of d x.name ≡ None → is_periodic x.kind ≡ true → is_iso x.kind ≡ false → take_runs (holding d.book m) (2 ∷ 1 ∷ []) ≡ r → taken_chain d x p r ≡ Ok o → Accepts d m o
chained_why d m x p o (Err why) idle none frames queued is f = absurd (cc)
chained_why d m x p o (Ok h) idle none frames queued is f =
    chains (record { desc = x; placement = p; holding_after = h; idle = idle; new_name = none; periodic = frames; queued = queued; runs = is; is = ok_is _ o f })

kind_why : (d : DriverContent) (m : Mem) (x : EpDesc) (p : Placement) (o : Offered) (k : EpKind) → x.kind ≡ k → d.command ≡ None → endpoint_of d x.name ≡ None → is_periodic x.kind ≡ true → placed_open d m x p k ≡ Ok o → Accepts d m o
kind_why d m x p o kinds.Iso kind idle none frames f =
    places (record { desc = x; placement = p; idle = idle; new_name = none; isochronous = ap is_iso kind; is = ok_is _ o f })
kind_why d m x p o kinds.Interrupt kind idle none frames f = chained_why d m x p o (take_runs (holding d.book m) (2 ∷ 1 ∷ [])) idle none frames (ap is_iso kind) refl f
kind_why d m x p o _ kind idle none frames f = absurd (false≢true (sym (ap is_periodic kind) ∙ frames))

planned_why : (d : DriverContent) (m : Mem) (x : EpDesc) (o : Offered) (r : Result Placement Refused) → d.command ≡ None → endpoint_of d x.name ≡ None → is_periodic x.kind ≡ true → planned_open d m x r ≡ Ok o → Accepts d m o
planned_why d m x o (Err why) idle none frames f = absurd (cc)
planned_why d m x o (Ok p) idle none frames f = kind_why d m x p o x.kind refl idle none frames f

new_why : (d : DriverContent) (m : Mem) (x : EpDesc) (o : Offered) (b : Bool) → d.command ≡ None → endpoint_of d x.name ≡ None → is_periodic x.kind ≡ b → cond b (planned_open d m x (answer d.periodic.plan (want_of (length d.endpoints) x))) (taken_open d x (take_runs (holding d.book m) (2 ∷ 1 ∷ []))) ≡ Ok o → Accepts d m o
new_why d m x o true idle none frames f = planned_why d m x o (answer d.periodic.plan (want_of (length d.endpoints) x)) idle none frames f
new_why d m x o false idle none ring f = opened_why d m x o (take_runs (holding d.book m) (2 ∷ 1 ∷ [])) idle none ring refl f

again_why : (d : DriverContent) (m : Mem) (x : EpDesc) (old : Endpoint) (o : Offered) (c : Option EndCause) → old.ended ≡ c → offered_open d m x (Some old) ≡ Ok o → Accepts d m o
again_why d m x old o (Some cause) is f =
    let e : offered_open d m x (Some old) ≡ Err (errors.Closed cause) = ap (λ (k : Option EndCause). again k) is in absurd (cc)
  where
    again : Option EndCause → Result Offered OfferError
    again k = elim k [ Some cause ↦ Err (errors.Closed cause) | None ↦ Err errors.AlreadyOpen ]
again_why d m x old o None is f =
    let e : offered_open d m x (Some old) ≡ Err errors.AlreadyOpen = ap (λ (k : Option EndCause). again k) is in absurd (cc)
  where
    again : Option EndCause → Result Offered OfferError
    again k = elim k [ Some cause ↦ Err (errors.Closed cause) | None ↦ Err errors.AlreadyOpen ]

open_why : (d : DriverContent) (m : Mem) (x : EpDesc) (o : Offered) (n : Option ℕ) (q : Option Endpoint) → d.command ≡ None → endpoint_of d x.name ≡ n → option_and_then (λ e. slice_get d.endpoints e) n ≡ q → (n ≡ None → q ≡ None) → ((e : ℕ) → n ≡ Some e → (y : Endpoint) × (slice_get d.endpoints e ≡ Some y)) → offered_open d m x q ≡ Ok o → Accepts d m o
open_why d m x o n (Some old) idle is at none some f = again_why d m x old o old.ended refl f
open_why d m x o None None idle is at none some f = new_why d m x o (is_periodic x.kind) idle is refl f
open_why d m x o (Some e) None idle is at none some f = let y = some e refl in let w : Some y.0 ≡ None = sym y.1 ∙ at in absurd (cc)

-- ---- a cancel

cancelled_why : (d : DriverContent) (m : Mem) (e : ℕ) (x : Endpoint) (o : Offered) (p : Option Placement) → d.command ≡ None → slice_get d.endpoints e ≡ Some x → x.cancelled ≡ false → x.placement ≡ p → ◌≡◌ {A = Result Offered OfferError} (Ok (record { driver = cancelled_by d e x p; memory = m })) (Ok o) → Accepts d m o
cancelled_why d m e x o None idle here fresh is f = cancels (record { number = e; endpoint = x; idle = idle; here = here; fresh = fresh; ring = is; is = ok_is _ o f })
cancelled_why d m e x o (Some p) idle here fresh is f =
    unchains (record { number = e; endpoint = x; placement = p; idle = idle; here = here; fresh = fresh; placed = is; is = ok_is _ o f })

cancel_why : (d : DriverContent) (m : Mem) (e : ℕ) (x : Endpoint) (o : Offered) (b : Bool) → d.command ≡ None → slice_get d.endpoints e ≡ Some x → x.cancelled ≡ b → cond b (Err (errors.Closed causes.Cancel)) (Ok (record { driver = cancelled_by d e x x.placement; memory = m })) ≡ Ok o → Accepts d m o
cancel_why d m e x o true idle here is f = absurd (cc)
cancel_why d m e x o false idle here is f = cancelled_why d m e x o x.placement idle here is refl f

cancel_at : (d : DriverContent) (m : Mem) (o : Offered) (e : ℕ) (q : Option Endpoint) → d.command ≡ None → slice_get d.endpoints e ≡ q → offered_cancel d m e q ≡ Ok o → Accepts d m o
cancel_at d m o e None idle here f = absurd (cc)
cancel_at d m o e (Some x) idle here f = cancel_why d m e x o x.cancelled idle here refl f

cancel_named : (d : DriverContent) (m : Mem) (o : Offered) (q : Option ℕ) → d.command ≡ None → offered_cancel d m (unwrap_or q 0) (option_and_then (λ e. slice_get d.endpoints e) q) ≡ Ok o → Accepts d m o
cancel_named d m o None idle f = absurd (cc)
cancel_named d m o (Some e) idle f = cancel_at d m o e (slice_get d.endpoints e) idle refl f

-- ---- any command

next_why : (d : DriverContent) (m : Mem) (cmd : Cmd) (o : Offered) → d.command ≡ None → offered_next d m cmd ≡ Ok o → Accepts d m o
next_why d m (commands.OpenEp x) o idle f =
    open_why d m x o (endpoint_of d x.name) (endpoint_named d x.name) idle refl refl (λ none. ap (λ (n : Option ℕ). option_and_then (λ e. slice_get d.endpoints e) n) none) (λ e is. found_there d.endpoints _ e is) f
next_why d m (commands.Get name len by) o idle f = named_why d m takes_get _ o (endpoint_of d name) idle (λ x takes. queue_kind x.desc.kind (is_same_way x.desc.name.way ways.In) takes) (get_asked len by) f
next_why d m (commands.Put name bytes by) o idle f = named_why d m takes_put _ o (endpoint_of d name) idle (λ x takes. queue_kind x.desc.kind (is_same_way x.desc.name.way ways.Out) takes) (put_asked bytes by) f
next_why d m (commands.Control name setup bytes) o idle f = named_why d m takes_control _ o (endpoint_of d name) idle (λ x takes. control_kind x.desc.kind takes) (control_asked setup bytes) f
next_why d m (commands.Iso name count len seed) o idle f = iso_named d m len count seed o (endpoint_of d name) idle f
next_why d m (commands.Cancel name) o idle f = cancel_named d m o (endpoint_of d name) idle f
next_why d m _ o idle f = absurd (cc)

busy_why : (d : DriverContent) (m : Mem) (cmd : Cmd) (o : Offered) (c : Option Command) → d.command ≡ c → cond (is_some c) (Err errors.Busy) (offered_next d m cmd) ≡ Ok o → Accepts d m o
busy_why d m cmd o (Some c) is f = absurd (cc)
busy_why d m cmd o None is f = next_why d m cmd o is f

pub each_command_has_its_reason : (d : DriverContent) (m : Mem) (cmd : Cmd) (o : Offered) → offered d m cmd ≡ Ok o → Accepts d m o
each_command_has_its_reason d m cmd o f = busy_why d m cmd o d.command refl f
