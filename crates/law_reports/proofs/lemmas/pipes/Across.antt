-- What an event of the driver leaves of its endpoints, by their own descriptions, and of the unfinished command: none begins.
use Rattle.std.proofs.Common.{◌≡◌, ◌≢◌, ℕ, suc, Bool, true, false, cond, nat_lt, List, length, set, slice_get, Option, Some, None}
use Rattle.std.proofs.Common.{is_none, ap, refl, sym, subst, ◌∙◌, ⊎_elim, inl, inr}
use Rattle.std.specs.Prelude.{◌⊎◌, ◌++◌, ◌∷◌, [], take, drop}
use Rattle.std.proofs.lemmas.Bool.{false≢true, cases_eq}
use Rattle.std.proofs.lemmas.Option.{same_Some}
use Rattle.law_world.proofs.Common2.{done_none}
use Rattle.law_queues.proofs.Common.{none_open, set_which}
use Rattle.law_common.proofs.Lists.{set_here, set_there}
use Rattle.drv_periodic_table.specs.Linking.{begun_next}
use Rattle.drv_periodic_table.specs.Periodic.{PeriodicContent}
use Rattle.drv_table.specs.declared.content.Command.{Command}
use Rattle.drv_table.specs.declared.content.Command.TheVariants as unfinished
use Rattle.drv_table.specs.declared.content.Endpoint.{Endpoint}
use Rattle.drv_table.specs.declared.rows.DriverRow.{DriverRow}
use Rattle.drv_table.specs.declared.rows.DriverRow.TheVariants as rows
use Rattle.drv_table.specs.DriverContent.{DriverContent}
use Rattle.drv_table.specs.Commands.{events_of, links, removes_members, leave_ring, leave_frames, finished, list_after}
use Rattle.drv_table.specs.Commands.{advanced_by, advance}
use Rattle.drv_table.specs.FrameChoice.{with_notes, framed_notes, placement_at, framed_by}
use Rattle.drv_table.specs.Parts.{Parts}
use Rattle.drv_table.specs.Rows.{after_driver_row}
use Rattle.law_driver.specs.queued_drivers.Queued.{queued_command, queued}
use Rattle.law_driver.proofs.lemmas.queued_drivers.RowLists.{command_stays as queued_stays}
use Rattle.law_footprints.specs.Changes.{EndpointChange, off_ring, off_frames, let_go, over, onward, EndpointsStep, same, one}
use Rattle.law_footprints.proofs.EndpointsChanged.{endpoints_step}
use Rattle.law_footprints.proofs.Fields.{command_stays}

-- ---- endpoints

-- the endpoint z comes of y: who was given back stays so
pub record ComesOf (y z : Endpoint) : Type 0 where
  pub desc : z.desc ≡ y.desc
  pub queue : z.queue ≡ y.queue
  pub alive : z.gone ≡ false → y.gone ≡ false

of_itself : (y : Endpoint) → ComesOf y y
of_itself y = record { desc = refl; queue = refl; alive = λ kept. kept }

changed : (y z : Endpoint) → EndpointChange y z → ComesOf y z
changed y _ off_ring = record { desc = refl; queue = refl; alive = λ kept. kept }
changed y _ off_frames = record { desc = refl; queue = refl; alive = λ kept. kept }
changed y _ let_go = record { desc = refl; queue = refl; alive = λ kept. absurd (false≢true (sym kept)) }
changed y _ (over cause) = record { desc = refl; queue = refl; alive = λ kept. kept }
changed y _ (onward t) = record { desc = refl; queue = refl; alive = λ kept. kept }

-- endpoint e was so, and has become so
pub record WasIn (old : List Endpoint) (e : ℕ) (z : Endpoint) : Type 0 where
  pub endpoint : Endpoint
  pub here : slice_get old e ≡ Some endpoint
  pub comes : ComesOf endpoint z

pub record IsNowIn (new : List Endpoint) (e : ℕ) (y : Endpoint) : Type 0 where
  pub endpoint : Endpoint
  pub here : slice_get new e ≡ Some endpoint
  pub comes : ComesOf y endpoint

pub was_in : (old new : List Endpoint) → EndpointsStep old new → (i : ℕ) (z : Endpoint) → slice_get new i ≡ Some z → WasIn old i z
was_in old _ same i z here = record { endpoint = z; here = here; comes = of_itself z }
was_in old _ (one e x y at change) i z here =
    ⊎_elim
    (λ (own : (i ≡ e) × (z ≡ y)).
    record {
      endpoint = x;
      here = ap (slice_get old) own.0 ∙ at;
      comes = subst (ComesOf x) (sym own.1) (changed x y change);
    })
    (λ (other : (i ≢ e) × (slice_get old i ≡ Some z)). record { endpoint = z; here = other.1; comes = of_itself z })
    (set_which old e i x y z at here)

pub is_now_in : (old new : List Endpoint) → EndpointsStep old new → (i : ℕ) (y : Endpoint) → slice_get old i ≡ Some y → IsNowIn new i y
is_now_in old _ same i y here = record { endpoint = y; here = here; comes = of_itself y }
is_now_in old _ (one e x z at change) i y here =
    ⊎_elim
    (λ (own : i ≡ e).
    let is : x ≡ y = same_Some x y (sym at ∙ ap (slice_get old) (sym own) ∙ here) in
    record {
      endpoint = z;
      here = ap (slice_get (set old e z)) own ∙ set_here old e x z at;
      comes = subst (λ (v : Endpoint). ComesOf v z) is (changed x z change);
    })
    (λ (differs : i ≢ e). record { endpoint = y; here = set_there old e i z differs ∙ here; comes = of_itself y }) (cases_eq i e)

-- ---- the unfinished command

-- it stays, or none is unfinished
abbrev pub StaysOrEnds : Option Command → Option Command → Type 0
StaysOrEnds c new = (new ≡ c) ⊎ (new ≡ None)

ring_left : (d : DriverContent) (e : ℕ) (o : Option Endpoint) → (leave_ring d e o).command ≡ d.command
ring_left d e None = refl
ring_left d e (Some x) = by x.linked
  where
    by : (b : Bool)
        → (cond b (record d { waiting = d.waiting ++ e ∷ []; endpoints = set d.endpoints e (record x { linked = false }) }) d).command
        ≡ d.command
    by true = refl
    by false = refl

either : (b : Bool) (f d : DriverContent) → f.command ≡ d.command → (cond b f d).command ≡ d.command
either true f d kept = kept
either false f d kept = refl

frames_left : (d : DriverContent) (e : ℕ) (o : Option Endpoint) → (leave_frames d e o).command ≡ d.command
frames_left d e None = refl
frames_left d e (Some x) = either x.chained _ d refl

went_on : (d : DriverContent) (o : Option Command) → d.command ≡ o → StaysOrEnds d.command (advanced_by d o).command
went_on d None is = inl refl
went_on d (Some c) is =
    let q = begun_next (removes_members c) (record d.periodic { list = list_after d c }) in
    by q (nat_lt (suc d.made) (length (events_of c))) (links c) (is_none q.list.work)
  where
    by : (q : PeriodicContent) (a b k : Bool) → StaysOrEnds d.command (cond a (record d { made = suc d.made })
        (cond b (cond k (finished (record d { made = length (events_of c); periodic = q }) c)
        (record d { made = length (events_of c); periodic = q })) (finished d c))).command
    by q true b k = inl refl
    by q false true true = inr (done_none (record d { made = length (events_of c); periodic = q }) c)
    by q false true false = inl refl
    by q false false k = inr (done_none d c)

-- of a content with other runs, or other frames
advanced : (d g : DriverContent) → g.command ≡ d.command → StaysOrEnds d.command (advance g).command
advanced d g is = subst (λ (c : Option Command). StaysOrEnds c (advance g).command) is (went_on g g.command refl)

framed : (d : DriverContent) (n : ℕ) (o : Option Command) → StaysOrEnds d.command (framed_by d n o).command
framed d n (Some (unfinished.Iso e t count)) =
    advanced d (with_notes d n (take count (drop t d.transfers)) (framed_notes d n e t count (placement_at d e))) refl
framed d n _ = inl refl

pub row_command : (row : DriverRow) (p : Parts) → StaysOrEnds p.driver.command (after_driver_row row p).driver.command
row_command rows.Lend p = advanced p.driver (record p.driver { book = _ }) refl
row_command (rows.Store b at v) p = advanced p.driver p.driver refl
row_command rows.LendDescriptors p = advanced p.driver (record p.driver { book = _ }) refl
row_command rows.Frames p = framed p.driver p.registers.frame_index p.driver.command
row_command row p = inl (command_stays row p p.driver.command refl refl)

-- ---- .. as the queues tell it

told_command : (old new : List Endpoint) → EndpointsStep old new → (c : Option Command) → queued_command new c ≡ queued_command old c
told_command old _ same c = refl
told_command old _ (one e x y at change) c = queued_stays old e x y at (changed x y change).queue c

-- no event begins an open
pub opened_before : (d f : DriverContent) → EndpointsStep d.endpoints f.endpoints → StaysOrEnds d.command f.command → (q : ℕ)
    → (queued f).command ≡ Some (unfinished.Open q) → (queued d).command ≡ Some (unfinished.Open q)
opened_before d f step command q opens =
    ⊎_elim
    (λ (is : f.command ≡ d.command).
    ap (queued_command d.endpoints) (sym is) ∙ sym (told_command d.endpoints f.endpoints step f.command) ∙ opens)
    (λ (none : f.command ≡ None). absurd (none_open q (sym (ap (queued_command f.endpoints) none) ∙ opens))) command

-- ---- an event

pub row_ends : (row : DriverRow) (p : Parts) → EndpointsStep p.driver.endpoints (after_driver_row row p).driver.endpoints
row_ends row p = endpoints_step row p p.driver.command refl
