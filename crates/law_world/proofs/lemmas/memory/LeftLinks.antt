-- Where the queue heads lead for which Async Advance was cleared, until they are given back: to live ones, or to ones that left later.
use Rattle.std.proofs.Common.{◌≡◌, ℕ, zero, suc, ◌+◌, ◌-◌, ◌/◌, ◌<◌, ◌≤◌, ◌⊎◌, true, false, List, [], ◌∷◌, ◌++◌, length}
use Rattle.std.proofs.Common.{take, drop, slice_get, Option, Some, None, ap, refl, sym, subst, ◌∙◌, arith, ⊎_elim, inl}
use Rattle.std.proofs.Common.{append_assoc, length-set}
use Rattle.std.specs.Prelude.{◌||◌}
use Rattle.std.proofs.lemmas.Bool.{false≢true}
use Rattle.std.proofs.lemmas.Option.{same_Some}
use Rattle.law_driver.proofs.Common.{among_later, same_endpoint, ring_queue}
use Rattle.law_world.proofs.Common2.{among_either}
use Rattle.word_mem.specs.declared.blocks.BlockState.TheVariants.{Lent}
use Rattle.word_mem.specs.Memory.{Mem, state_at}
use Rattle.mem_runs.specs.Book.{slot_of}
use Rattle.drv_chains.specs.Chains.{id_of}
use Rattle.drv_periodic_table.specs.Periodic.{is_periodic}
use Rattle.drv_table.specs.declared.content.Command.{Command}
use Rattle.drv_table.specs.declared.content.Command.TheVariants as unfinished
use Rattle.drv_table.specs.declared.content.Endpoint.{Endpoint}
use Rattle.drv_table.specs.DriverContent.{DriverContent}
use Rattle.drv_table.specs.Kinds.{is_iso}
use Rattle.drv_table.specs.Rows.{driver_row}
use Rattle.bus_world.specs.World.{World, driver_parts, driver_next}
use Rattle.claims_driver.specs.Leaving.{HasOwners, times}
use Rattle.claims_driver.specs.Owners.{QueueHead, HasRun}
use Rattle.law_driver.specs.listed_members.Members.{IsListed}
use Rattle.claims_driver.specs.Ring.{link_in, IsAmong, first, later, IsQueueOf}
use Rattle.law_driver.specs.in_place.InPlace.{IsSound}
use Rattle.claims_world.specs.Memory.{linked_to}
use Rattle.claims_world.specs.Links.{IsLive, the_head, a_queue, IsLiveOrLater, live, left_later, HasLeftBefore, AreLeft}
use Rattle.law_driver.proofs.lemmas.ring_members.Leaving.{among_times, get_take}
use Rattle.law_driver.proofs.lemmas.ring_members.Placed.{has_queue, queue_placed}
use Rattle.law_driver.proofs.lemmas.run_owners.Orders.{has_left}
use Rattle.law_driver.proofs.lemmas.run_owners.Runs.{placed_run}
use Rattle.law_footprints.proofs.EndpointsChanged.{endpoints_step}
use Rattle.law_footprints.specs.Changes.{EndpointsStep, same as none_changes, one as one_changes}
use Rattle.law_frame_list.proofs.lemmas.list_aside.Aside.{IsOwn, own}
use Rattle.law_world.specs.memory.Aside.{IsAside}
use Rattle.law_world.specs.memory.Links.{IsOut, AreOut, HasCleared, DriverKeepsCleared}
use Rattle.law_world.specs.memory.Mixed.{Standing, IsMixedAt, IsMixedWorld}
use Rattle.law_world.proofs.lemmas.memory.Driving.{driver_keeps_mixed}
use Rattle.law_world.proofs.lemmas.memory.LinkLent.{driver_leaves_lent}
use Rattle.law_world.proofs.lemmas.memory.LinkWords.{driver_leaves_aside}
use Rattle.law_world.proofs.lemmas.memory.RingGoes.{before_of, IsNow, NextLeft, goes_on, clears, gives, Goes, row_goes}
use Rattle.law_world.proofs.lemmas.memory.RingLeads.{left_leads, left_lent}

-- ---- those that left, and aren't given back, are in runs of their own

pub record IsCleared (d : DriverContent) (e : ℕ) (x : Endpoint) : Type 0 where
  pub off : x.linked ≡ false
  pub alive : x.gone ≡ false
  pub ring : is_periodic x.desc.kind ≡ false

pub left_is : (d : DriverContent) → HasOwners d → (e : ℕ) (x : Endpoint) → IsAmong e d.cleared ⊎ IsAmong e d.rung
    → slice_get d.endpoints e ≡ Some x → IsCleared d e x
left_is d has e x among here =
    let one : 1 ≤ times e d.rung + times e d.cleared
    = ⊎_elim (λ (a : IsAmong e d.cleared). let n = among_times e d.cleared a in omega (arith, n))
    (λ (a : IsAmong e d.rung). let n = among_times e d.rung a in omega (arith, n)) among in
    let l = has_left d.endpoints e (slice_get d.endpoints e) refl (let most = has.orderly.leaving e in omega (arith, most, one)) in
    let same = same_Some l.endpoint x (sym l.here ∙ here) in
    record {
      off = ap (λ (z : Endpoint). z.linked) (sym same) ∙ l.linked;
      alive = ap (λ (z : Endpoint). z.gone) (sym same) ∙ l.gone;
      ring = ap (λ (z : Endpoint). is_periodic z.desc.kind) (sym same) ∙ l.ring;
    }

module _ (d : DriverContent) (has : HasOwners d) (e : ℕ) (x : Endpoint) (k : IsCleared d e x) (here : slice_get d.endpoints e ≡ Some x)
  where
    pub queued : is_iso x.desc.kind || x.gone ≡ false
    queued = has_queue x (ring_queue x.desc.kind k.ring) k.alive

    pub cleared_run : HasRun (slot_of d.book.slots x.queue)
    cleared_run = placed_run x.queue (QueueHead e) (queue_placed d e x has here queued)

    pub cleared_aside : IsListed d → IsAside d has.owner x.queue
    cleared_aside listed = record {
      whose = QueueHead e;
      placed = queue_placed d e x has here queued;
      list = λ same. cc same;
      head = λ same. cc same;
      element = λ t same. cc same;
      ring = λ f y there on same.
          let one : e ≡ f = same_endpoint e f same in
          let is : x ≡ y = same_Some x y (sym here ∙ ap (slice_get d.endpoints) one ∙ there) in
          false≢true (sym k.off ∙ ap (λ (z : Endpoint). z.linked) is ∙ on);
      members = λ m on same.
          let o : IsOwn d has.owner (id_of m / 32) = own d m has listed on in
          o.other.ring e x here k.ring
          (sym o.owned ∙ ap has.owner same ∙ (queue_placed d e x has here queued).owned);
    }

-- ---- one that left, after an event

-- still live then, or it left meanwhile
pub data LiveThen (new : DriverContent) (fs : List ℕ) (b : ℕ) : Type 0 where
  still : IsLive new b → LiveThen new fs b
  meanwhile : (g : ℕ) → IsAmong g fs → IsQueueOf new.endpoints g b → LiveThen new fs b

among_left : (g : ℕ) (es fs : List ℕ) → IsAmong g es → IsAmong g (es ++ fs)
among_left g [] fs a = elim a [ ]
among_left g (e ∷ es) fs (first _) = first (es ++ fs)
among_left g (e ∷ es) fs (later _ _ rest) = later e (es ++ fs) (among_left g es fs rest)

among_more : (es fs gs : List ℕ) → ((g : ℕ) → IsAmong g fs → IsAmong g gs) → (g : ℕ) → IsAmong g (es ++ fs) → IsAmong g (es ++ gs)
among_more [] fs gs more g a = more g a
among_more (e ∷ es) fs gs more g (first _) = first (es ++ gs)
among_more (e ∷ es) fs gs more g (later _ _ rest) = later e (es ++ gs) (among_more es fs gs more g rest)

among_rest : (g : ℕ) (es : List ℕ) → IsAmong g (drop 1 es) → IsAmong g es
among_rest g [] a = elim a [ ]
among_rest g (e ∷ es) a = later e es a

-- what an event makes of its link
pub record IsKept (m new_m : Mem) (new : DriverContent) (e : ℕ) (x : Endpoint) : Type 0 where
  pub off : (z : Endpoint) → slice_get new.endpoints e ≡ Some z → z.linked ≡ false
  pub word : link_in new_m x.queue ≡ link_in m x.queue
  pub lent : state_at new_m x.queue ≡ Some Lent

module _ (m new_m : Mem) (d new : DriverContent) (fs gs : List ℕ)
    (ends : (e : ℕ) (x : Endpoint) → slice_get d.endpoints e ≡ Some x → IsNow new e x)
    (more : (g : ℕ) → IsAmong g fs → IsAmong g gs)
    (stays : (b : ℕ) → IsLive d b → LiveThen new gs b) where
  queue_then : (e b : ℕ) → IsQueueOf d.endpoints e b → IsQueueOf new.endpoints e b
  queue_then e b at =
      let n : IsNow new e at.endpoint = ends e at.endpoint at.here in
      record { endpoint = n.endpoint; here = n.here; queue = n.queue ∙ at.queue }

  live_then : (es : List ℕ) (b : ℕ) → LiveThen new gs b → IsLiveOrLater new (es ++ gs) b
  live_then es b (still l) = live l
  live_then es b (meanwhile g a at) = left_later g (among_later g es gs a) at

  target_then : (es : List ℕ) (b : ℕ) → IsLiveOrLater d (es ++ fs) b → IsLiveOrLater new (es ++ gs) b
  target_then es b (live l) = live_then es b (stays b l)
  target_then es b (left_later e a at) = left_later e (among_more es fs gs more e a) (queue_then e b at)

  out_then : (es : List ℕ) (e : ℕ) (o : IsOut m d (es ++ fs) e) → IsKept m new_m new e o.left.endpoint → IsOut new_m new (es ++ gs) e
  out_then es e o k =
      let h : HasLeftBefore m d (es ++ fs) e = o.left in
      let n : IsNow new e h.endpoint = ends e h.endpoint h.here in
      record {
        left = record {
          endpoint = n.endpoint;
          here = n.here;
          out = k.off n.endpoint n.here;
          leads = record {
            block = h.leads.block;
            link = ap (link_in new_m) n.queue ∙ k.word ∙ h.leads.link;
            is = target_then es h.leads.block h.leads.is;
          };
        };
        lent = ap (state_at new_m) n.queue ∙ k.lent;
      }

  pub all_then : (es : List ℕ)
      → ((e : ℕ) (x : Endpoint) → IsAmong e es → slice_get d.endpoints e ≡ Some x → state_at m x.queue ≡ Some Lent → IsKept m new_m new e x)
      → AreOut m d fs es → AreOut new_m new gs es
  all_then [] keep all = tt
  all_then (e ∷ es) keep all = (
    out_then es e all.0 (keep e all.0.left.endpoint (first es) all.0.left.here all.0.lent),
    all_then es (λ f x a here lent. keep f x (later e es a) here lent) all.1,
  )

-- ---- where Async Advance is cleared

both_out : (m : Mem) (d : DriverContent) (es fs gs : List ℕ) → AreOut m d (fs ++ gs) es → AreOut m d gs fs → AreOut m d gs (es ++ fs)
both_out m d [] fs gs one two = two
both_out m d (e ∷ es) fs gs one two =
    (subst (λ (hs : List ℕ). IsOut m d hs e) (sym (append_assoc es fs gs)) one.0, both_out m d es fs gs one.1 two)

less_out : (m : Mem) (d : DriverContent) (es fs : List ℕ) → AreOut m d fs es → AreOut m d fs (drop 1 es)
less_out m d [] fs all = tt
less_out m d (e ∷ es) fs all = all.1

rung_out : (m : Mem) (d : DriverContent) (fs es : List ℕ)
    → ((e : ℕ) (x : Endpoint) → IsAmong e es → slice_get d.endpoints e ≡ Some x → state_at m x.queue ≡ Some Lent)
    → AreLeft m d (es ++ fs) → AreOut m d fs es
rung_out m d fs [] lent all = tt
rung_out m d fs (e ∷ es) lent all = (
  record { left = all.0; lent = lent e all.0.endpoint (first es) all.0.here },
  rung_out m d fs es (λ f x a. lent f x (later e es a)) all.1,
)

-- ---- live ones, after an event of the driver

pub linked_before : (d : DriverContent) (o : Option Command) (e : ℕ) (x : Endpoint) → slice_get (linked_to o d.endpoints) e ≡ Some x
    → slice_get d.endpoints e ≡ Some x
linked_before d (Some (unfinished.Open q)) e x there = (get_take d.endpoints (length d.endpoints - 1) e x there).1
linked_before d (Some (unfinished.Publish b words)) e x there = there
linked_before d (Some (unfinished.Unlink f b link)) e x there = there
linked_before d (Some unfinished.Chain) e x there = there
linked_before d (Some (unfinished.Iso f t count)) e x there = there
linked_before d (Some (unfinished.Unchain f)) e x there = there
linked_before d None e x there = there

taken : (xs : List Endpoint) (n e : ℕ) (x : Endpoint) → e < n → slice_get xs e ≡ Some x → slice_get (take n xs) e ≡ Some x
taken xs zero e x low here = absurd (omega (arith, low))
taken [] (suc n) e x low here = here
taken (y ∷ xs) (suc n) zero x low here = here
taken (y ∷ xs) (suc n) (suc e) x low here = taken xs n e x (omega (arith, low)) here

module _ (d new : DriverContent) (command : (new.command ≡ d.command) ⊎ (new.command ≡ None))
    (size : length new.endpoints ≡ length d.endpoints) where
  open_is : (q : ℕ) → new.command ≡ Some (unfinished.Open q) → d.command ≡ Some (unfinished.Open q)
  open_is q is =
      ⊎_elim (λ (same : new.command ≡ d.command). sym same ∙ is) (λ (none : new.command ≡ None). absurd (cc (none, is))) command

  below_last : (q e : ℕ) (x : Endpoint) → new.command ≡ Some (unfinished.Open q) → slice_get (linked_to d.command d.endpoints) e ≡ Some x
      → e < length new.endpoints - 1
  below_last q e x is there =
      let was : slice_get (take (length d.endpoints - 1) d.endpoints) e ≡ Some x
      = ap (λ (o : Option Command). slice_get (linked_to o d.endpoints) e) (sym (open_is q is)) ∙ there in
      let low = (get_take d.endpoints (length d.endpoints - 1) e x was).0 in
      omega (arith, low, size)

  linked_by : (o : Option Command) → new.command ≡ o → (e : ℕ) (x z : Endpoint) → slice_get (linked_to d.command d.endpoints) e ≡ Some x
      → slice_get new.endpoints e ≡ Some z → slice_get (linked_to o new.endpoints) e ≡ Some z
  linked_by (Some (unfinished.Open q)) is e x z there now =
      taken new.endpoints (length new.endpoints - 1) e z (below_last q e x is there) now
  linked_by (Some (unfinished.Publish b words)) is e x z there now = now
  linked_by (Some (unfinished.Unlink f b link)) is e x z there now = now
  linked_by (Some unfinished.Chain) is e x z there now = now
  linked_by (Some (unfinished.Iso f t count)) is e x z there now = now
  linked_by (Some (unfinished.Unchain f)) is e x z there now = now
  linked_by None is e x z there now = now

  live_stays : (fs : List ℕ) → ((e : ℕ) → IsAmong e new.waiting → IsAmong e fs)
      → ((e : ℕ) (x : Endpoint) → slice_get d.endpoints e ≡ Some x → IsNow new e x) → (b : ℕ) → IsLive d b → LiveThen new fs b
  live_stays fs within ends b (the_head at) = still (the_head at)
  live_stays fs within ends b (a_queue e x there on at) =
      let n : IsNow new e x = ends e x (linked_before d d.command e x there) in
      ⊎_elim
      (λ (linked : n.endpoint.linked ≡ true).
      still (a_queue e n.endpoint (linked_by new.command refl e x n.endpoint there n.here) linked (at ∙ sym n.queue)))
      (λ (waits : IsAmong e new.waiting).
      meanwhile e (within e waits) (record { endpoint = n.endpoint; here = n.here; queue = n.queue ∙ sym at }))
      (n.ring on)

-- ---- an event of the driver

same_length : (xs ys : List Endpoint) → EndpointsStep xs ys → length ys ≡ length xs
same_length xs _ none_changes = refl
same_length xs _ (one_changes e x y at change) = length-set xs e y

module _ (s : Standing) (w : World) (k : IsMixedAt s w) (cleared : HasCleared w) where
  abbrev d : DriverContent
  d = w.driver

  abbrev m : Mem
  m = w.memory

  abbrev new : DriverContent
  new = (driver_next w).driver

  abbrev sound : IsSound w.memory w.driver
  sound = k.now.framed.place.sound

  later_mixed : IsMixedWorld (driver_next w)
  later_mixed = driver_keeps_mixed w (record { standing = s; mixed = k })

  goes : Goes (before_of w.driver) (driver_next w).driver
  goes = row_goes (driver_row (driver_parts w)) (driver_parts w)

  size : length (driver_next w).driver.endpoints ≡ length w.driver.endpoints
  size =
      same_length w.driver.endpoints (driver_next w).driver.endpoints
      (endpoints_step (driver_row (driver_parts w)) (driver_parts w) w.driver.command refl)

  -- one that isn't given back yet
  keep : (e : ℕ) (x : Endpoint) → IsAmong e w.driver.cleared ⊎ IsAmong e w.driver.rung → IsAmong e (driver_next w).driver.cleared
      → slice_get w.driver.endpoints e ≡ Some x → state_at w.memory x.queue ≡ Some Lent
      → IsKept w.memory (driver_next w).memory (driver_next w).driver e x
  keep e x was now here lent =
      let n : IsNow new e x = goes.ends e x here in
      let has : HasOwners new = later_mixed.mixed.now.framed.place.sound.owners in
      let then : IsCleared new e n.endpoint = left_is new has e n.endpoint (inl now) n.here in
      let run : HasRun (slot_of new.book.slots x.queue)
      = subst (λ (c : ℕ). HasRun (slot_of new.book.slots c)) n.queue (cleared_run new has e n.endpoint then n.here) in
      let aside : IsAside d sound.owners.owner x.queue
      = cleared_aside d sound.owners e x (left_is d sound.owners e x was here) here sound.listed in
      record {
        off = λ z there. ap (λ (y : Endpoint). y.linked) (sym (same_Some n.endpoint z (sym n.here ∙ there))) ∙ then.off;
        word = driver_leaves_aside s w k x.queue aside lent run;
        lent = driver_leaves_lent s w k x.queue lent run;
      }

  stays : (b : ℕ) → IsLive w.driver b → LiveThen (driver_next w).driver ((driver_next w).driver.rung ++ (driver_next w).driver.waiting) b
  stays =
      live_stays d new goes.command size (new.rung ++ new.waiting) (λ e a. among_later e new.rung new.waiting a) goes.ends

  abbrev Then : List ℕ → Type 0
  Then es = AreOut (driver_next w).memory (driver_next w).driver ((driver_next w).driver.rung ++ (driver_next w).driver.waiting) es

  by_left : NextLeft (before_of w.driver) (driver_next w).driver → HasCleared (driver_next w)
  by_left (goes_on more same lists) =
      subst Then (sym same)
      (all_then m (driver_next w).memory d new (d.rung ++ d.waiting) (new.rung ++ new.waiting) goes.ends
      (λ g a. subst (IsAmong g) (sym lists) (among_left g (d.rung ++ d.waiting) more a)) stays d.cleared
      (λ e x a. keep e x (inl a) (subst (IsAmong e) (sym same) a)) cleared)
  by_left (clears same lists) =
      let rung : AreOut m d d.waiting d.rung
      = rung_out m d d.waiting d.rung (λ e x a. left_lent s w k e x (among_left e d.rung d.waiting a)) (left_leads s w k) in
      subst Then (sym same)
      (all_then m (driver_next w).memory d new d.waiting (new.rung ++ new.waiting) goes.ends
      (λ g a. subst (IsAmong g) (sym lists) a) stays (d.cleared ++ d.rung)
      (λ e x a. keep e x (among_either e d.cleared d.rung a) (subst (IsAmong e) (sym same) a))
      (both_out m d d.cleared d.rung d.waiting cleared rung))
  by_left (gives same lists) =
      subst Then (sym same)
      (all_then m (driver_next w).memory d new (d.rung ++ d.waiting) (new.rung ++ new.waiting) goes.ends
      (λ g a. subst (IsAmong g) (sym lists) a) stays (drop 1 d.cleared)
      (λ e x a. keep e x (inl (among_rest e d.cleared a)) (subst (IsAmong e) (sym same) a))
      (less_out m d d.cleared (d.rung ++ d.waiting) cleared))

pub driver_keeps_cleared : DriverKeepsCleared
driver_keeps_cleared = λ w k cleared. by_left k.standing w k.mixed cleared (goes k.standing w k.mixed cleared).left
