-- What an event of the driver leaves of those that left the ring and aren't given back, and of its endpoints: a queue head stays where
-- it is, and an endpoint that leaves the ring waits from then on.
use Rattle.std.proofs.Common.{◌≡◌, ◌≢◌, ℕ, suc, ◌⊎◌, inl, inr, Bool, true, false, cond, nat_lt, List, [], ◌∷◌, ◌++◌, length, drop, set}
use Rattle.std.proofs.Common.{slice_get, is_none, Option, Some, None, option_map, ap, refl, sym, subst, ◌∙◌, ⊎_elim}
use Rattle.std.proofs.lemmas.Bool.{cases_eq}
use Rattle.std.proofs.lemmas.List.{append_assoc}
use Rattle.std.proofs.lemmas.Option.{same_Some}
use Rattle.law_common.proofs.Lists.{append_none, set_here, set_there}
use Rattle.usb_base.specs.declared.reports.What.TheVariants as lines
use Rattle.word_mem.specs.Memory.{Mem}
use Rattle.mem_runs.specs.Book.{holding, lend_taken}
use Rattle.drv_periodic_table.specs.Linking.{begun_next}
use Rattle.drv_periodic_table.specs.Periodic.{PeriodicContent}
use Rattle.drv_periodic_table.specs.declared.content.Removed.TheVariants as removed
use Rattle.drv_table.specs.declared.content.Command.{Command}
use Rattle.drv_table.specs.declared.content.Command.TheVariants as unfinished
use Rattle.drv_table.specs.declared.content.Endpoint.{Endpoint}
use Rattle.drv_table.specs.declared.rows.DriverRow.{DriverRow}
use Rattle.drv_table.specs.declared.rows.DriverRow.TheVariants as rows
use Rattle.drv_table.specs.DriverContent.{DriverContent}
use Rattle.drv_table.specs.Commands.{events_of, links, removes_members, no_command, leave_ring, leave_frames, finished, list_after}
use Rattle.drv_table.specs.Commands.{advanced_by, removal_of}
use Rattle.drv_table.specs.FrameChoice.{with_notes, framed_notes, placement_at, framed_by, linked_by}
use Rattle.drv_table.specs.Parts.{Parts}
use Rattle.drv_table.specs.Harvests.{reported}
use Rattle.drv_table.specs.Releases.{after_endpoint, cancel_told, cancelled_bytes, is_told}
use Rattle.drv_table.specs.Removals.{after_placed}
use Rattle.drv_table.specs.Rows.{after_driver_row}
use Rattle.claims_driver.specs.Ring.{IsAmong, first, later}
use Rattle.law_driver.proofs.lemmas.ring_members.Harvests.{endpoint_set, harvest_stays}
use Rattle.law_driver.proofs.lemmas.ring_members.Links.{RingOf, ring_of, SameRing}
use Rattle.law_driver.proofs.lemmas.run_owners.Released.{cancel_same}
use Rattle.law_footprints.proofs.Fields.{endpoints_stays, command_stays, cleared_stays, rung_stays, waiting_stays}
use Rattle.law_footprints.specs.Footprint.{footprint}

-- ---- what the next content is compared with

pub record Before : Type 0 where
  pub endpoints : List Endpoint
  pub command : Option Command
  pub cleared : List ℕ
  pub rung : List ℕ
  pub waiting : List ℕ

abbrev pub before_of : DriverContent → Before
before_of d = record { endpoints = d.endpoints; command = d.command; cleared = d.cleared; rung = d.rung; waiting = d.waiting }

-- endpoint e was x, and it stays in the ring or waits
pub record IsNow (new : DriverContent) (e : ℕ) (x : Endpoint) : Type 0 where
  pub endpoint : Endpoint
  pub here : slice_get new.endpoints e ≡ Some endpoint
  pub queue : endpoint.queue ≡ x.queue
  pub desc : endpoint.desc ≡ x.desc
  pub ring : x.linked ≡ true → (endpoint.linked ≡ true) ⊎ IsAmong e new.waiting

-- one more leaves, or Async Advance is cleared, or the first is given back
pub data NextLeft (b : Before) (new : DriverContent) : Type 0 where
  goes_on : (more : List ℕ) → new.cleared ≡ b.cleared → new.rung ++ new.waiting ≡ (b.rung ++ b.waiting) ++ more → NextLeft b new
  clears : new.cleared ≡ b.cleared ++ b.rung → new.rung ++ new.waiting ≡ b.waiting → NextLeft b new
  gives : new.cleared ≡ drop 1 b.cleared → new.rung ++ new.waiting ≡ b.rung ++ b.waiting → NextLeft b new

pub record Goes (b : Before) (new : DriverContent) : Type 0 where
  pub ends : (e : ℕ) (x : Endpoint) → slice_get b.endpoints e ≡ Some x → IsNow new e x
  pub command : (new.command ≡ b.command) ⊎ (new.command ≡ None)
  pub left : NextLeft b new

-- ---- endpoints

now_by : (new : DriverContent) (e : ℕ) (x : Endpoint) (o : Option Endpoint) → slice_get new.endpoints e ≡ o
    → option_map ring_of o ≡ Some (ring_of x) → IsNow new e x
now_by new e x None here is = absurd (cc)
now_by new e x (Some z) here is =
    let same : ring_of z ≡ ring_of x = same_Some (ring_of z) (ring_of x) is in
    record {
      endpoint = z;
      here = here;
      queue = ap (λ (r : RingOf). r.queue) same;
      desc = ap (λ (r : RingOf). r.desc) same;
      ring = λ on. inl (ap (λ (r : RingOf). r.linked) same ∙ on);
    }

ends_same : (xs : List Endpoint) (new : DriverContent) → SameRing xs new.endpoints → (e : ℕ) (x : Endpoint) → slice_get xs e ≡ Some x
    → IsNow new e x
ends_same xs new same e x here =
    now_by new e x (slice_get new.endpoints e) refl (same e ∙ ap (option_map ring_of) here)

same_lists : (xs ys : List Endpoint) → ys ≡ xs → SameRing xs ys
same_lists xs ys is i = ap (λ (zs : List Endpoint). option_map ring_of (slice_get zs i)) is

-- ---- the lists

more_none : (b : Before) (new : DriverContent) → new.cleared ≡ b.cleared → new.rung ≡ b.rung → new.waiting ≡ b.waiting → NextLeft b new
more_none b new cleared rung waiting =
    goes_on [] cleared (ap (λ es. es ++ new.waiting) rung ∙ ap (λ es. b.rung ++ es) waiting ∙ sym (append_none (b.rung ++ b.waiting)))

stays : (b : Before) (new : DriverContent) → SameRing b.endpoints new.endpoints → (new.command ≡ b.command) ⊎ (new.command ≡ None)
    → new.cleared ≡ b.cleared → new.rung ≡ b.rung → new.waiting ≡ b.waiting → Goes b new
stays b new ends command cleared rung waiting = record {
  ends = ends_same b.endpoints new ends;
  command = command;
  left = more_none b new cleared rung waiting;
}

-- ---- the command goes on

last_among : (e : ℕ) (es : List ℕ) → IsAmong e (es ++ e ∷ [])
last_among e [] = first []
last_among e (f ∷ es) = later f (es ++ e ∷ []) (last_among e es)

abbrev out_of_ring : DriverContent → ℕ → Endpoint → DriverContent
out_of_ring d e x = record d { waiting = d.waiting ++ e ∷ []; endpoints = set d.endpoints e (record x { linked = false }) }

out_goes : (d : DriverContent) (e : ℕ) (x : Endpoint) → slice_get d.endpoints e ≡ Some x → (b : Before)
    → before_of d ≡ record b { command = None }
    → Goes b (out_of_ring d e x)
out_goes d e x here b is = record {
  ends = λ i y at.
      let there : slice_get d.endpoints i ≡ Some y = ap (λ (c : Before). slice_get c.endpoints i) is ∙ at in
      ⊎_elim
      (λ (same : i ≡ e).
      let one : y ≡ x = same_Some y x (sym there ∙ ap (slice_get d.endpoints) same ∙ here) in
      record {
        endpoint = record x { linked = false };
        here = ap (slice_get (set d.endpoints e (record x { linked = false }))) same ∙ set_here d.endpoints e x
            (record x { linked = false }) here;
        queue = ap (λ (z : Endpoint). z.queue) (sym one);
        desc = ap (λ (z : Endpoint). z.desc) (sym one);
        ring = λ on. inr (subst (λ (k : ℕ). IsAmong k (d.waiting ++ e ∷ [])) (sym same) (last_among e d.waiting));
      })
      (λ (differs : i ≢ e). record {
        endpoint = y;
        here = set_there d.endpoints e i (record x { linked = false }) differs ∙ there;
        queue = refl;
        desc = refl;
        ring = λ on. inl on;
      })
      (cases_eq i e);
  command = inr (ap (λ (c : Before). c.command) is);
  left = goes_on (e ∷ []) (ap (λ (c : Before). c.cleared) is)
      (sym (append_assoc d.rung d.waiting (e ∷ []))
      ∙ ap (λ (es : List ℕ). es ++ e ∷ []) (ap (λ (c : Before). c.rung ++ c.waiting) is));
}

module _ (d : DriverContent) where
  none_left : (n : ℕ) (q : PeriodicContent) → Goes (before_of d) (no_command (record d { made = n; periodic = q }))
  none_left n q = stays (before_of d) _ (λ i. refl) (inr refl) refl refl refl

  ring_out : (n : ℕ) (q : PeriodicContent) (e : ℕ) (o : Option Endpoint) → slice_get d.endpoints e ≡ o
      → Goes (before_of d) (leave_ring (no_command (record d { made = n; periodic = q })) e o)
  ring_out n q e None here = none_left n q
  ring_out n q e (Some x) here = by x.linked
    where
      g : DriverContent
      g = no_command (record d { made = n; periodic = q })

      by : (b : Bool)
          → Goes (before_of d) (cond b (out_of_ring (no_command (record d { made = n; periodic = q })) e x)
          (no_command (record d { made = n; periodic = q })))
      by true = out_goes (no_command (record d { made = n; periodic = q })) e x here (before_of d) refl
      by false = none_left n q

  frames_out : (n : ℕ) (q : PeriodicContent) (e : ℕ) (o : Option Endpoint) → slice_get d.endpoints e ≡ o
      → Goes (before_of d) (leave_frames (no_command (record d { made = n; periodic = q })) e o)
  frames_out n q e None here = none_left n q
  frames_out n q e (Some x) here = by x.chained
    where
      by : (b : Bool) → Goes (before_of d) (cond b (record (no_command (record d { made = n; periodic = q })) {
        endpoints = set d.endpoints e (record x { chained = false });
        periodic = record q { removals = q.removals ++ removal_of (removed.Endpoint e) ∷ [] };
      }) (no_command (record d { made = n; periodic = q })))
      by true = stays (before_of d) _ (endpoint_set d.endpoints e x (record x { chained = false }) here refl) (inr refl) refl refl refl
      by false = none_left n q

  done_goes : (n : ℕ) (q : PeriodicContent) (c : Command) → Goes (before_of d) (finished (record d { made = n; periodic = q }) c)
  done_goes n q (unfinished.Unlink e b link) = ring_out n q e (slice_get d.endpoints e) refl
  done_goes n q (unfinished.Unchain e) = frames_out n q e (slice_get d.endpoints e) refl
  done_goes n q _ = none_left n q

  pub advanced_goes : (o : Option Command) → Goes (before_of d) (advanced_by d o)
  advanced_goes None = stays (before_of d) d (λ i. refl) (inl refl) refl refl refl
  advanced_goes (Some c) =
      let q = begun_next (removes_members c) (record d.periodic { list = list_after d c }) in
      by q (nat_lt (suc d.made) (length (events_of c))) (links c) (is_none q.list.work)
    where
      by : (q : PeriodicContent) (a b k : Bool) → Goes (before_of d) (cond a (record d { made = suc d.made })
          (cond b (cond k (finished (record d { made = length (events_of c); periodic = q }) c)
          (record d { made = length (events_of c); periodic = q })) (finished d c)))
      by q true b k = stays (before_of d) _ (λ i. refl) (inl refl) refl refl refl
      by q false true true = done_goes (length (events_of c)) q c
      by q false true false = stays (before_of d) _ (λ i. refl) (inl refl) refl refl refl
      by q false false k = done_goes d.made d.periodic c

framed_goes : (d : DriverContent) (n : ℕ) (o : Option Command) → Goes (before_of d) (framed_by d n o)
framed_goes d n (Some (unfinished.Iso e t count)) =
    advanced_goes (with_notes d n _ (framed_notes d n e t count (placement_at d e))) d.command
framed_goes d n _ = stays (before_of d) d (λ i. refl) (inl refl) refl refl refl

-- ---- what is given back, and what is harvested

endpoint_gone : (p : Parts) (e : ℕ) (o : Option Endpoint) → slice_get p.driver.endpoints e ≡ o
    → SameRing p.driver.endpoints (after_endpoint p e o).driver.endpoints
endpoint_gone p e None here = λ i. refl
endpoint_gone p e (Some x) here =
    subst (λ (xs : List Endpoint). SameRing p.driver.endpoints (set xs e (record x { gone = true })))
    (sym (cancel_same p.driver p.memory e x).endpoints) (endpoint_set p.driver.endpoints e x (record x { gone = true }) here refl)

placed_gone : (p : Parts) (e : ℕ) (o : Option Endpoint) → slice_get p.driver.endpoints e ≡ o
    → SameRing p.driver.endpoints (after_placed p e o).driver.endpoints
placed_gone p e None here = λ i. refl
placed_gone p e (Some x) here =
    subst (λ (xs : List Endpoint). SameRing p.driver.endpoints (set xs e (record x { gone = true })))
    (sym (cancel_same p.driver p.memory e x).endpoints) (endpoint_set p.driver.endpoints e x (record x { gone = true }) here refl)

abbrev same_waiting : (row : DriverRow) (p : Parts) → (footprint row p.driver.command).rung ≡ false
    → (footprint row p.driver.command).waiting ≡ false
    → (after_driver_row row p).driver.rung ++ (after_driver_row row p).driver.waiting ≡ p.driver.rung ++ p.driver.waiting
same_waiting row p one two =
    ap (λ es. es ++ (after_driver_row row p).driver.waiting) (rung_stays row p p.driver.command refl one)
    ∙ ap (λ es. p.driver.rung ++ es) (waiting_stays row p p.driver.command refl two)

told_by : (b : Bool) (d told : DriverContent) → told.cleared ≡ d.cleared → (cond b told d).cleared ≡ d.cleared
told_by true d told same = same
told_by false d told same = refl

told_cleared : (d : DriverContent) (m : Mem) (e : ℕ) (x : Endpoint) → (cancel_told d m e x).cleared ≡ d.cleared
told_cleared d m e x = told_by (is_told x) d (reported d lines.Cancel x.desc.name (cancelled_bytes d.notes m e x.queue d.transfers)) refl

endpoint_left : (p : Parts) (e : ℕ) (o : Option Endpoint)
    → (after_endpoint p e o).driver.rung ++ (after_endpoint p e o).driver.waiting ≡ p.driver.rung ++ p.driver.waiting
    → NextLeft (before_of p.driver) (after_endpoint p e o).driver
endpoint_left p e None same = goes_on [] refl (sym (append_none (p.driver.rung ++ p.driver.waiting)))
endpoint_left p e (Some x) same = gives (ap (λ (es : List ℕ). drop 1 es) (told_cleared p.driver p.memory e x)) same

-- ---- each row

other : (row : DriverRow) (p : Parts) → SameRing p.driver.endpoints (after_driver_row row p).driver.endpoints
    → (footprint row p.driver.command).command ≡ false → (footprint row p.driver.command).cleared ≡ false
    → (footprint row p.driver.command).rung ≡ false → (footprint row p.driver.command).waiting ≡ false
    → Goes (before_of p.driver) (after_driver_row row p).driver
other row p ends command cleared rung waiting =
    let o = p.driver.command in
    stays (before_of p.driver) _ ends (inl (command_stays row p o refl command)) (cleared_stays row p o refl cleared)
    (rung_stays row p o refl rung) (waiting_stays row p o refl waiting)

quiet : (row : DriverRow) (p : Parts) → (footprint row p.driver.command).endpoints ≡ false
    → (footprint row p.driver.command).command ≡ false → (footprint row p.driver.command).cleared ≡ false
    → (footprint row p.driver.command).rung ≡ false → (footprint row p.driver.command).waiting ≡ false
    → Goes (before_of p.driver) (after_driver_row row p).driver
quiet row p ends = other row p (same_lists p.driver.endpoints _ (endpoints_stays row p p.driver.command refl ends))

pub row_goes : (row : DriverRow) (p : Parts) → Goes (before_of p.driver) (after_driver_row row p).driver
row_goes rows.Lend p = advanced_goes (record p.driver { book = (lend_taken (holding p.driver.book p.memory)).book }) p.driver.command
row_goes (rows.Store b at v) p = advanced_goes p.driver p.driver.command
row_goes rows.LendDescriptors p =
    advanced_goes (record p.driver { book = (lend_taken (holding p.driver.book (linked_by p.driver p.memory p.driver.command))).book })
    p.driver.command
row_goes rows.Frames p = framed_goes p.driver p.registers.frame_index p.driver.command
row_goes (rows.ReleaseRemoved (removed.Endpoint e)) p =
    other (rows.ReleaseRemoved (removed.Endpoint e)) p (placed_gone p e (slice_get p.driver.endpoints e) refl) refl refl refl refl
row_goes (rows.ReleaseEndpoint e) p = record {
  ends = ends_same p.driver.endpoints _ (endpoint_gone p e (slice_get p.driver.endpoints e) refl);
  command = inl (command_stays (rows.ReleaseEndpoint e) p p.driver.command refl refl);
  left = endpoint_left p e (slice_get p.driver.endpoints e) (same_waiting (rows.ReleaseEndpoint e) p refl refl);
}
row_goes rows.ClearAdvance p = record {
  ends = ends_same p.driver.endpoints _ (λ i. refl);
  command = inl refl;
  left = clears refl refl;
}
row_goes rows.RingBell p = record {
  ends = ends_same p.driver.endpoints _ (λ i. refl);
  command = inl refl;
  left = goes_on [] refl refl;
}
row_goes (rows.Harvest e t found) p =
    other (rows.Harvest e t found) p
    (harvest_stays p.driver p.memory e t found (slice_get p.driver.endpoints e) (slice_get p.driver.transfers t) refl).endpoints refl refl
    refl refl
row_goes row p = quiet row p refl refl refl refl refl
