-- An accepted open of an interrupt endpoint, as its queue tells it: what is to be lent is that of the newest endpoint, which isn't in the ring.
use Rattle.std.proofs.Common.{◌≡◌, ◌≢◌, ℕ, suc, ◌-◌, ◌*◌, ◌⊎◌, Bool, true, false, ◌||◌, ◌&&◌, ◌==◌, cond, length, map, slice_get, Option, Some, None, option_map, ap, refl, sym, ◌∙◌, ⊎_elim, arith}
use Rattle.std.specs.Prelude.{not, is_some}
use Rattle.std.proofs.lemmas.Bool.{true≢false, false_from_ne_true, eq-eqb, and_from, or_left, or_right, or_parts}
use Rattle.std.proofs.lemmas.Option.{same_Some}
use Rattle.law_common.proofs.Booleans.{and_true}
use Rattle.law_world.proofs.Common2.{queued_owner}
use Rattle.word_mem.specs.Memory.{Mem}
use Rattle.drv_periodic_table.specs.Periodic.{is_periodic}
use Rattle.drv_table.specs.declared.content.Endpoint.{Endpoint}
use Rattle.drv_table.specs.declared.content.Transfer.{Transfer}
use Rattle.drv_table.specs.declared.content.Command.{Command}
use Rattle.drv_table.specs.declared.content.Command.TheVariants as unfinished
use Rattle.drv_table.specs.Words.{head_block}
use Rattle.drv_table.specs.DriverContent.{DriverContent}
use Rattle.drv_table.specs.Kinds.{is_iso}
use Rattle.claims_driver.specs.Leaving.{HasOwners}
use Rattle.claims_driver.specs.Owners.{Owner, QueueHead as QueueOf, TransferRuns, runs_of_endpoint, runs_of_transfer}
use Rattle.law_driver.specs.endpoint_lives.Lives.{is_one_of, any_at}
use Rattle.law_driver.proofs.lemmas.endpoint_lives.Lives.{there_any}
use Rattle.law_driver_ring.specs.fed_queues.Places.{HasHead, AreMet}
use Rattle.law_queues.specs.reached_rings.Reaching.{may_reach, is_reached}
use Rattle.law_world.specs.memory.framed_memory.Chained.{chained_queue, IsChainReady}
use Rattle.law_world.proofs.lemmas.memory.lemmas.framed_memory.LeavingReached.{interrupt_is_unreached}
use Rattle.law_queues.specs.open_laws.Queues.{IsOpenToLend}
use Rattle.law_queues.proofs.lemmas.open_laws.Newest.{new_heads_rest}
use Rattle.law_driver.specs.queued_drivers.Queued.{queue_of, with_queue, queued_endpoint, queued_transfer, queued_command, queued_made, queued}
use Rattle.law_driver.proofs.lemmas.queued_drivers.RowLists.{queue_at, IsMapped, mapped}
use Rattle.law_world.proofs.lemmas.memory.QueueViews.{told_queue}

-- ---- the queue head of an endpoint that isn't in the ring

abbrev is_there : DriverContent → ℕ → ℕ → Endpoint → Bool
is_there d n e x = (n == 32 * x.queue) && may_reach d true e x

reached_by : (d : DriverContent) (n : ℕ) → (n ≡ 32 * head_block) ⊎ HasHead d n → is_reached d true n ≡ true
reached_by d n =
    ⊎_elim (λ (head : n ≡ 32 * head_block). or_left (n == 32 * head_block) (any_at (is_there d n) d.endpoints) (eq-eqb n (32 * head_block) head))
    (λ (h : HasHead d n).
    let near : may_reach d true h.number h.endpoint ≡ true =
    ap (λ (b : Bool). h.endpoint.linked || (is_one_of h.number d.waiting || b)) (and_true (is_one_of h.number d.rung)) ∙ h.met.near in
    or_right (n == 32 * head_block) (any_at (is_there d n) d.endpoints)
    (there_any (is_there d n) d.endpoints h.number h.endpoint h.here (and_from (n == 32 * h.endpoint.queue) (may_reach d true h.number h.endpoint) (eq-eqb n (32 * h.endpoint.queue) h.at) near)))

-- the walk of the ring doesn't meet that of an interrupt endpoint
pub off_ring : (d : DriverContent) (member : ℕ → Bool) (e : ℕ) (x : Endpoint) → HasOwners d → AreMet d member → slice_get d.endpoints e ≡ Some x → is_iso x.desc.kind ≡ false → is_periodic x.desc.kind ≡ true → x.gone ≡ false → member (32 * x.queue) ≡ false
off_ring d member e x owners ring here queue frames kept =
    false_from_ne_true (member (32 * x.queue))
    (λ on. true≢false (sym (reached_by d (32 * x.queue) (ring.only (32 * x.queue) on)) ∙ interrupt_is_unreached d true e x owners here queue frames kept))

queue_number : Owner → ℕ
queue_number (QueueOf e) = e
queue_number o = 0

-- an endpoint's queue head is that of no other
pub its_own : (d : DriverContent) (owners : HasOwners d) (e f : ℕ) (x y : Endpoint) → slice_get d.endpoints e ≡ Some x → (runs_of_endpoint x).bare ≡ false → slice_get d.endpoints f ≡ Some y → (runs_of_endpoint y).bare ≡ false → y.queue ≡ x.queue → f ≡ e
unfolding queue_number
its_own d owners e f x y here bare there kept same =
    let mine = (owners.owned.each.queue e (runs_of_endpoint x) (ap (option_map runs_of_endpoint) here) bare).owned in
    let other = (owners.owned.each.queue f (runs_of_endpoint y) (ap (option_map runs_of_endpoint) there) kept).owned in
    ap queue_number (sym other ∙ ap owners.owner same ∙ mine)

-- ---- what is to be lent

module _ (d : DriverContent) (m : Mem) (owners : HasOwners d) (k : IsChainReady d m) (newest : suc k.number ≡ length d.endpoints) where
  abbrev x : Endpoint
  x = k.endpoint

  bare : (runs_of_endpoint k.endpoint).bare ≡ false
  bare = k.opened.here.queued

  pub queue : is_iso k.endpoint.desc.kind ≡ false
  queue = (or_parts (is_iso x.desc.kind) x.gone bare).0

  pub kept : k.endpoint.gone ≡ false
  kept = (or_parts (is_iso x.desc.kind) x.gone bare).1

  pub frames : is_periodic k.endpoint.desc.kind ≡ true
  frames = sym (owners.orderly.steady k.number x k.here).placed ∙ ap is_some k.placed

  pub here_told : slice_get (map queued_endpoint d.endpoints) k.number ≡ Some (with_queue k.endpoint)
  here_told = queue_at d.endpoints k.number x k.here queue

  pub last : slice_get d.endpoints (length d.endpoints - 1) ≡ Some k.endpoint
  last = let same : length d.endpoints - 1 ≡ k.number = omega (arith, newest) in ap (slice_get d.endpoints) same ∙ k.here

  pub none_of : (t : ℕ) (y : Transfer) → slice_get (map (queued_transfer d.endpoints) d.transfers) t ≡ Some y → y.endpoint ≢ k.number
  none_of t y there same =
      let w : IsMapped (queued_transfer d.endpoints) d.transfers t y = mapped (queued_transfer d.endpoints) d.transfers t y there in
      k.opened.no_transfer t (runs_of_transfer w.one) (ap (option_map runs_of_transfer) w.here) (sym (queued_owner d.endpoints w.one) ∙ ap (λ (z : Transfer). z.endpoint) w.is ∙ same)

  pub none_in : (t : ℕ) (o : Option Transfer) (y : TransferRuns) → slice_get (map (queued_transfer d.endpoints) d.transfers) t ≡ o → option_map runs_of_transfer o ≡ Some y → y.endpoint ≢ k.number
  none_in t None y there is same = absurd (cc)
  none_in t (Some z) y there is same = none_of t z there (ap (λ (r : TransferRuns). r.endpoint) (same_Some (runs_of_transfer z) y is) ∙ same)

  abbrev pub to_lend : IsOpenToLend (queued d) m
  to_lend = record {
    number = k.number;
    endpoint = with_queue k.endpoint;
    here = here_told;
    command = ap (queued_command d.endpoints) k.command ∙ ap (λ (o : Option Endpoint). Some (unfinished.Open (queue_of o))) last;
    made = ap (λ (o : Option Command). queued_made o d.made) k.command ∙ ap (queued_made (Some unfinished.Chain)) k.made;
    fresh = ap (λ (b : Bool). cond b (not x.gone) x.linked) frames ∙ ap not kept;
    none = none_of;
    queue = chained_queue k.endpoint k.place k.link;
    rests = (new_heads_rest x.desc k.place.smask k.place.cmask k.link x.dummy).1;
    opened = record {
      here = record { here = ap (option_map runs_of_endpoint) here_told; queued = ap (λ (b : Bool). b || x.gone) (told_queue x) ∙ kept };
      taken = k.opened.taken;
      queue_kept = k.opened.queue_kept;
      dummy_kept = k.opened.dummy_kept;
      no_transfer = λ t y there. none_in t (slice_get (map (queued_transfer d.endpoints) d.transfers) t) y refl there;
      queue_words = k.opened.queue_words;
      dummy_words = k.opened.dummy_words;
      range = k.opened.range;
    };
  }
