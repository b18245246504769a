-- Commands, and rows that store no word of a queue.
use Rattle.std.proofs.Common.{◌≡◌, ◌≢◌, ℕ, ◌-◌, ◌*◌, ◌==◌, Bool, true, false, if◌then◌else◌, List, [], ◌∷◌, ◌++◌, length, take, get_or, slice_get, option_map, Option, Some, None, ap, refl, sym, subst, ◌∙◌, ⊎_elim, inl, inr, ◌||◌}
use Rattle.std.proofs.lemmas.Bool.{cases_eq, eq-eqb, false≢true, or_cases}
use Rattle.std.proofs.lemmas.Option.{same_Some}
use Rattle.law_queues.proofs.Common.{stall_or}
use Rattle.law_common.proofs.Numbers.{other_number}
use Rattle.law_common.proofs.Lists.{push_which}
use Rattle.usb_base.specs.declared.endpoints.EpDesc.{EpDesc}
use Rattle.word_mem.specs.Memory.{Mem}
use Rattle.mem_runs.specs.Book.{holding}
use Rattle.drv_table.specs.declared.content.Bell.TheVariants as bells
use Rattle.drv_table.specs.declared.content.Endpoint.{Endpoint}
use Rattle.drv_table.specs.declared.content.Transfer.{Transfer}
use Rattle.drv_table.specs.declared.content.Command.{Command}
use Rattle.drv_table.specs.declared.content.Command.TheVariants as unfinished
use Rattle.drv_table.specs.declared.rows.DriverRow.{DriverRow}
use Rattle.drv_table.specs.declared.rows.DriverRow.TheVariants as rows
use Rattle.drv_table.specs.declared.rows.Found.{Found}
use Rattle.drv_table.specs.declared.rows.Found.TheVariants as founds
use Rattle.drv_table.specs.DriverContent.{DriverContent}
use Rattle.drv_table.specs.Accepting.{Offered, new_runs}
use Rattle.drv_table.specs.Offers.{new_endpoint, with_queued}
use Rattle.drv_table.specs.Parts.{Parts}
use Rattle.drv_table.specs.Rows.{driver_row, after_driver_row}
use Rattle.drv_table.specs.Releases.{after_transfer, freed_by}
use Rattle.drv_table.specs.Kinds.{is_iso}
use Rattle.law_driver.specs.run_owners.Accepts.{Opens, Transfers}
use Rattle.law_driver.specs.run_owners.Due.{IsDue, IsHarvestDue}
use Rattle.claims_driver.specs.Leaving.{HasOwners}
use Rattle.claims_driver.specs.Owners.{EndpointRuns, runs_of_endpoint}
use Rattle.law_driver.proofs.lemmas.run_owners.Reasons.{each_event_is_due}
use Rattle.law_structures.specs.lent_structures.Structures.{StructureSets}
use Rattle.law_ring.specs.Hand.{Hand}
use Rattle.law_ring.specs.Order.{IsAmong}
use Rattle.law_ring.specs.Fewer.{without_those}
use Rattle.law_ring.specs.Told.{Endpoint as Told}
use Rattle.law_driver_ring.specs.Driven.{is_quiet}
use Rattle.law_driver_ring.proofs.Viewing.{harvest_views}
use Rattle.law_driver_ring.specs.Released.{release_row}
use Rattle.law_controller.specs.controlled_streams.Returned.{staying, staying_of}
use Rattle.law_controller.proofs.lemmas.controlled_streams.Storing.{among_with}
use Rattle.claims_driver.specs.Scripts.{receives}
use Rattle.law_driver.specs.chained_transfers.Asynchronous.{OnlyAsynchronous}
use Rattle.law_driver.specs.chained_transfers.AsynchronousTurns.{AsynchronousTakesTurns}
use Rattle.law_driver_ring.specs.fed_queues.Places.{IsMet, AreStillOut}
use Rattle.law_queues.specs.fed_lends.Commands.{QueuesStand}
use Rattle.law_queues.proofs.lemmas.fed_lends.Asked.{set_which}
use Rattle.law_queues.specs.fed_harvests.Harvests.{HarvestLeaves, with_out}
use Rattle.law_queues.specs.fed_harvests.Stalls.{StallLeaves}
use Rattle.law_queues.proofs.lemmas.fed_harvests.Harvests.{unstalled_stands, wait_stands}
use Rattle.law_queues.proofs.lemmas.fed_harvests.Stalls.{stall_stands}
use Rattle.law_queues.proofs.lemmas.fed_harvests.Told.{in_both}
use Rattle.law_queues.specs.mended_heads.Stalling.{IsStall}
use Rattle.law_driver.specs.chained_transfers.Out.{out_now}
use Rattle.law_driver.proofs.lemmas.chained_transfers.BulkAndControl.{not_iso}
use Rattle.law_driver_ring.proofs.lemmas.walk_members.Descriptions.{desc_of, row_left}
use Rattle.law_queues.specs.whole_sends.Whole.{AreSentWhole}
use Rattle.law_queues.proofs.lemmas.whole_sends.Keeping.{spared_is_whole, returned_is_whole}
use Rattle.law_world.specs.streams.put_laws.Sent.{SentStand, WasOut, OutsWere}
use Rattle.law_world.specs.streams.put_laws.SentRows.{AreFewer, FewerAreSent, AcceptedSends, QuietSends, HarvestSends, ReleaseSends}
use Rattle.law_driver.specs.endpoint_lives.Lives.{may_meet, is_one_of}
use Rattle.law_driver.proofs.lemmas.endpoint_lives.Lives.{met_alike, linked_met, waiting_met, rung_met, one_of_joined}
use Rattle.law_driver_ring.proofs.lemmas.fed_queues.Places.{stands_met}
use Rattle.law_driver.proofs.lemmas.ring_members.Harvests.{harvest_stays}
use Rattle.law_driver.proofs.lemmas.ring_members.Links.{RingOf}
use Rattle.law_driver.proofs.lemmas.ring_members.Events.{ring_back}

-- ---- contents with the same OUT endpoints

fewer_whole : (order : ℕ → ℕ) (out later : List ℕ) (hand : Hand) (n : ℕ) (parts : StructureSets) → ((a : ℕ) → IsAmong a later → IsAmong a out) → AreSentWhole order out hand n (parts n) → AreSentWhole order later hand n (parts n)
fewer_whole order out later hand n parts fewer k =
    spared_is_whole order out later hand hand n (parts n) (parts n) (λ ends. ends) fewer
    (λ r here. record { queue = r; here = here; rest = record { token = refl; current = refl; next = refl; alternate = refl } }) (λ a t here. here) k

pub fewer_are_sent : FewerAreSent
fewer_are_sent d f hand parts order out later were fewer k e z here met sends =
    let w : WasOut d z = were e z here met sends in
    let q : ℕ = w.endpoint.queue in
    subst (λ (i : ℕ). AreSentWhole (order (32 * i)) (later (32 * i)) hand (32 * i) (parts (32 * i))) (sym w.queue)
    (fewer_whole (order (32 * q)) (out (32 * q)) (later (32 * q)) hand (32 * q) parts
    (λ a among. subst (λ (i : ℕ). IsAmong a (out (32 * i))) w.queue (fewer e z a here met (subst (λ (i : ℕ). IsAmong a (later (32 * i))) (sym w.queue) among)))
    (k w.number w.endpoint w.here w.met w.sends))

-- where no command is unfinished what is near is met
idle_met : (d : DriverContent) (e : ℕ) (x : Endpoint) → d.command ≡ None → x.gone ≡ false → may_meet d e x ≡ true → IsMet d e x
idle_met d e x idle kept near = record { there = record { linked = λ is. no_open x.queue (sym idle ∙ is); kept = kept }; near = near }
  where
    no_open : (b : ℕ) → ◌≡◌ {A = Option Command} None (Some (unfinished.Open b)) → ⊥
    no_open b same = cc

itself : (d : DriverContent) (e : ℕ) (z : Endpoint) → slice_get d.endpoints e ≡ Some z → IsMet d e z → receives z.desc.name.way ≡ false → WasOut d z
itself d e z here met sends = record { number = e; endpoint = z; here = here; met = met; sends = sends; queue = refl }

-- ---- a command

module _ (d : DriverContent) (m : Mem) (o : Offered) where
  opened_outs : Opens d m o → OutsWere d o.driver
  opened_outs w e z here met sends =
      let new : Endpoint = new_endpoint w.desc (get_or (new_runs d w.holding_after) 0 0) (get_or (new_runs d w.holding_after) 1 0) in
      let near : may_meet o.driver e z ≡ may_meet d e z = met_alike d o.driver e z z refl (ap (λ (p : Offered). p.driver.waiting) w.is) (ap (λ (p : Offered). p.driver.rung) w.is) in
      ⊎_elim (λ (was : slice_get d.endpoints e ≡ Some z). itself d e z was (idle_met d e z w.idle met.there.kept (sym near ∙ met.near)) sends)
      (λ (is : (e ≡ length d.endpoints) × (z ≡ new)). absurd (met.there.linked (ap (λ (p : Offered). p.driver.command) w.is ∙ ap (λ (y : Endpoint). Some (unfinished.Open y.queue)) (sym is.1))))
      (push_which d.endpoints new e z (ap (λ (p : Offered). slice_get p.driver.endpoints e) (sym w.is) ∙ here))

  asked_outs : Transfers d m o → OutsWere d o.driver
  asked_outs w e z here met sends =
      let dummy : ℕ = get_or (take (length w.asked.stages) (new_runs d w.holding_after)) (length w.asked.stages - 1) 0 in
      let queued : Endpoint = with_queued w.endpoint dummy (length d.transfers) in
      let near : (y : Endpoint) → z.linked ≡ y.linked → may_meet o.driver e z ≡ may_meet d e y =
      λ y linked. met_alike d o.driver e y z linked (ap (λ (p : Offered). p.driver.waiting) w.is) (ap (λ (p : Offered). p.driver.rung) w.is) in
      ⊎_elim
      (λ (own : (e ≡ w.number) × (z ≡ queued)). record {
        number = w.number;
        endpoint = w.endpoint;
        here = w.here;
        met = idle_met d w.number w.endpoint w.idle (ap (λ (y : Endpoint). y.gone) (sym own.1) ∙ met.there.kept)
            (ap (λ (i : ℕ). may_meet d i w.endpoint) (sym own.0) ∙ (sym (near w.endpoint (ap (λ (y : Endpoint). y.linked) own.1)) ∙ met.near));
        sends = ap (λ (y : Endpoint). receives y.desc.name.way) (sym own.1) ∙ sends;
        queue = ap (λ (y : Endpoint). y.queue) own.1;
      })
      (λ (other : (e ≢ w.number) × (slice_get d.endpoints e ≡ Some z)). itself d e z other.1 (idle_met d e z w.idle met.there.kept (sym (near z refl) ∙ met.near)) sends)
      (set_which d.endpoints w.number e w.endpoint queued z w.here (ap (λ (p : Offered). slice_get p.driver.endpoints e) (sym w.is) ∙ here))

pub accepted_sends : AcceptedSends
accepted_sends d m o hand parts order out (inl opened) k = fewer_are_sent d o.driver hand parts order out out (opened_outs d m o opened) (λ e z a here met among. among) k
accepted_sends d m o hand parts order out (inr asked) k = fewer_are_sent d o.driver hand parts order out out (asked_outs d m o asked) (λ e z a here met among. among) k

-- ---- rows that store nothing

-- an endpoint whose queue and name are told alike
record WasLike (o : Option Endpoint) (z : Endpoint) : Type 0 where
  endpoint : Endpoint
  here : o ≡ Some endpoint
  queue : z.queue ≡ endpoint.queue
  desc : z.desc ≡ endpoint.desc
  bare : (is_iso z.desc.kind || z.gone) ≡ (is_iso endpoint.desc.kind || endpoint.gone)

was_like : (o : Option Endpoint) (z : Endpoint) → Some (runs_of_endpoint z) ≡ option_map runs_of_endpoint o → Some z.desc ≡ option_map desc_of o → WasLike o z
was_like None z runs desc = absurd cc
was_like (Some b) z runs desc = record {
  endpoint = b;
  here = refl;
  queue = ap (λ (r : EndpointRuns). r.queue) (same_Some (runs_of_endpoint z) (runs_of_endpoint b) runs);
  desc = same_Some z.desc b.desc desc;
  bare = ap (λ (r : EndpointRuns). r.bare) (same_Some (runs_of_endpoint z) (runs_of_endpoint b) runs);
}

harvest_outs : (p : Parts) (e t : ℕ) (found : Found) → OnlyAsynchronous p.driver → p.driver.command ≡ None → OutsWere p.driver (after_driver_row (rows.Harvest e t found) p).driver
harvest_outs p e t found bulk idle i z here met sends =
    let now : DriverContent = (after_driver_row (rows.Harvest e t found) p).driver in
    let w : WasLike (slice_get p.driver.endpoints i) z =
    was_like (slice_get p.driver.endpoints i) z (sym (ap (option_map runs_of_endpoint) here) ∙ (harvest_views p.driver p.memory e t found).endpoint i)
    (sym (ap (option_map desc_of) here) ∙ row_left (rows.Harvest e t found) p i) in
    let k = harvest_stays p.driver p.memory e t found (slice_get p.driver.endpoints e) (slice_get p.driver.transfers t) refl in
    let back = ring_back p.driver.endpoints now.endpoints i z k.endpoints here in
    let same : back.endpoint ≡ w.endpoint = same_Some back.endpoint w.endpoint (sym back.here ∙ w.here) in
    let linked : z.linked ≡ w.endpoint.linked = ap (λ (r : RingOf). r.linked) (sym back.same) ∙ ap (λ (x : Endpoint). x.linked) same in
    let kind : is_iso w.endpoint.desc.kind ≡ false = not_iso w.endpoint.desc (bulk.endpoints i w.endpoint w.here).asynchronous in
    let gone : z.gone ≡ w.endpoint.gone =
    sym (ap (λ (b : Bool). b || z.gone) (ap (λ (c : EpDesc). is_iso c.kind) w.desc ∙ kind)) ∙ (w.bare ∙ ap (λ (b : Bool). b || w.endpoint.gone) kind) in
    record {
      number = i;
      endpoint = w.endpoint;
      here = w.here;
      met = idle_met p.driver i w.endpoint idle (sym gone ∙ met.there.kept) (sym (met_alike p.driver now i w.endpoint z linked k.waiting k.rung) ∙ met.near);
      sends = ap (λ (r : EpDesc). receives r.name.way) (sym w.desc) ∙ sends;
      queue = w.queue;
    }

-- who is near after the doorbell was answered was so before
near_cleared : (d : DriverContent) (cleared : List ℕ) (e : ℕ) (z : Endpoint) → may_meet (record d { rung = []; cleared = cleared; bell = bells.Quiet }) e z ≡ true → may_meet d e z ≡ true
near_cleared d cleared e z near =
    ⊎_elim (λ (on : z.linked ≡ true). linked_met d e z on)
    (λ (left : (is_one_of e d.waiting || false) ≡ true).
    ⊎_elim (λ (waits : is_one_of e d.waiting ≡ true). waiting_met d e z waits) (λ (never : false ≡ true). absurd (false≢true never)) (or_cases (is_one_of e d.waiting) false left))
    (or_cases z.linked (is_one_of e d.waiting || false) near)

-- .. and so is who is when it is rung
near_rung : (d : DriverContent) (e : ℕ) (z : Endpoint) → (z.linked || (false || is_one_of e (d.rung ++ d.waiting))) ≡ true → may_meet d e z ≡ true
near_rung d e z near =
    ⊎_elim (λ (on : z.linked ≡ true). linked_met d e z on)
    (λ (left : is_one_of e (d.rung ++ d.waiting) ≡ true).
    ⊎_elim (λ (rung : is_one_of e d.rung ≡ true). rung_met d e z rung) (λ (waits : is_one_of e d.waiting ≡ true). waiting_met d e z waits)
    (or_cases (is_one_of e d.rung) (is_one_of e d.waiting) (sym (one_of_joined e d.rung d.waiting) ∙ left)))
    (or_cases z.linked (is_one_of e (d.rung ++ d.waiting)) near)

quiet_outs : (row : DriverRow) (p : Parts) → is_quiet row ≡ true → OnlyAsynchronous p.driver → IsDue p row → OutsWere p.driver (after_driver_row row p).driver
quiet_outs rows.ClearAdvance p quiet bulk due e z here met sends = itself p.driver e z here (idle_met p.driver e z due.0 met.there.kept (near_cleared p.driver (p.driver.cleared ++ p.driver.rung) e z met.near)) sends
quiet_outs rows.RingBell p quiet bulk due e z here met sends = itself p.driver e z here (idle_met p.driver e z due.0 met.there.kept (near_rung p.driver e z met.near)) sends
quiet_outs (rows.ReadStatus heard) p quiet bulk due e z here met sends = itself p.driver e z here (idle_met p.driver e z due.0 met.there.kept met.near) sends
quiet_outs (rows.ReadFrame n) p quiet bulk due e z here met sends = itself p.driver e z here (idle_met p.driver e z due.0 met.there.kept met.near) sends
quiet_outs (rows.Harvest i t found) p quiet bulk due e z here met sends = harvest_outs p i t found bulk due.idle e z here met sends
quiet_outs rows.Rest p quiet bulk due e z here met sends = itself p.driver e z here met sends
quiet_outs _ p quiet bulk due e z here met sends = absurd (false≢true quiet)

pub quiet_sends : QuietSends
quiet_sends p hand parts order out later quiet bulk fewer k =
    fewer_are_sent p.driver (after_driver_row (driver_row p) p).driver hand parts order out later (quiet_outs (driver_row p) p quiet bulk (each_event_is_due p)) fewer k

-- ---- a harvest

module _ (p : Parts) (e t : ℕ) (found : Found) (member streams : ℕ → Bool) (ends : ℕ → Told) (parts : StructureSets) (order : ℕ → ℕ → ℕ) (out later : ℕ → List ℕ) (due : IsHarvestDue p e t found) (owners : HasOwners p.driver) (turns : AsynchronousTakesTurns p.driver) (queues : QueuesStand p.driver member streams ends parts order out) where
  abbrev new : DriverContent
  new = (after_driver_row (rows.Harvest e t found) p).driver

  its_met : IsMet p.driver e due.endpoint
  its_met = stands_met p.driver e due.endpoint (turns.asynchronous.endpoints e due.endpoint due.here) due.goes_on (λ is. no_open (sym due.idle ∙ is))
    where
      no_open : ◌≡◌ {A = Option Command} None (Some (unfinished.Open due.endpoint.queue)) → ⊥
      no_open same = cc

  -- what isn't done is out still
  not_done : found ≡ founds.Active → AreStillOut new later → AreFewer new out later
  not_done is still i z a here met among =
      let same : AreStillOut new out = subst (λ (f : Found). AreStillOut (after_driver_row (rows.Harvest e t f) p).driver out) (sym is)
      (wait_stands p e t member streams ends parts order out (subst (IsHarvestDue p e t) is due) queues).out_are in
      subst (IsAmong a) (still i z here met.there ∙ sym (same i z here met.there)) among

  -- of the queue of its endpoint no more is out than before
  less_out : (left : List ℕ) → AreStillOut new (with_out out (32 * due.endpoint.queue) left) → ((a : ℕ) → IsAmong a left → IsAmong a (out_now p.driver e)) → AreStillOut new later → AreFewer new out later
  less_out left now fewer still i z a here met among =
      let n : ℕ = 32 * due.endpoint.queue in
      let those : later (32 * z.queue) ≡ with_out out n left (32 * z.queue) = still i z here met.there ∙ sym (now i z here met.there) in
      ⊎_elim (λ (same : 32 * z.queue ≡ n).
      let was : out n ≡ out_now p.driver e = queues.out_are e due.endpoint due.here (its_met.there) in
      let is : with_out out n left (32 * z.queue) ≡ left = ap (λ (b : Bool). if b then left else out (32 * z.queue)) (eq-eqb (32 * z.queue) n same) in
      subst (IsAmong a) (sym was ∙ ap out (sym same)) (fewer a (subst (IsAmong a) (those ∙ is) among)))
      (λ (apart : 32 * z.queue ≢ n).
      subst (IsAmong a) (those ∙ ap (λ (b : Bool). if b then left else out (32 * z.queue)) (other_number (32 * z.queue) n apart)) among) (cases_eq (32 * z.queue) n)

  one_less : found ≢ founds.Active → (IsStall due.endpoint.desc.kind found → ⊥) → AreStillOut new later → AreFewer new out later
  one_less differs unstalled =
      let l : HarvestLeaves p e t found due member streams ends parts order out = unstalled_stands p e t found member streams ends parts order out due differs unstalled owners turns queues in
      less_out (l.harvested.before ++ l.harvested.behind) l.stand.out_are (λ a among. subst (IsAmong a) (sym l.harvested.was) (among_with (32 * due.transfer.place) l.harvested.before l.harvested.behind a among))

  stall_less : IsStall due.endpoint.desc.kind found → AreStillOut new later → AreFewer new out later
  stall_less stall =
      let l : StallLeaves p e t found due member streams ends parts order out = stall_stands p e t found member streams ends parts order out due stall owners turns queues in
      less_out (l.stalled.before ++ l.stalled.later) l.stand.out_are
      (λ a among.
      subst (IsAmong a) (sym l.stalled.was)
      (among_with (32 * due.transfer.place) l.stalled.before l.stalled.behind a (in_both a l.stalled.before l.stalled.later l.stalled.before l.stalled.behind (λ is. is) (l.stalled.fewer a) among)))

  is_done : found ≢ founds.Active → AreStillOut new later → AreFewer new out later
  is_done differs =
      ⊎_elim (λ (stall : IsStall due.endpoint.desc.kind found). stall_less stall) (λ (none : IsStall due.endpoint.desc.kind found → ⊥). one_less differs none) (stall_or due.endpoint.desc.kind found)

  fewer_by : (f : Found) → found ≡ f → AreStillOut new later → AreFewer new out later
  fewer_by founds.Active is still = not_done is still
  fewer_by (founds.Moved k) is still = is_done (λ active. moved (sym is ∙ active)) still
    where
      moved : founds.Moved k ≡ founds.Active → ⊥
      moved same = cc
  fewer_by (founds.Ended k what) is still = is_done (λ active. ended (sym is ∙ active)) still
    where
      ended : founds.Ended k what ≡ founds.Active → ⊥
      ended same = cc
  fewer_by (founds.Served k) is still = is_done (λ active. served (sym is ∙ active)) still
    where
      served : founds.Served k ≡ founds.Active → ⊥
      served same = cc

  pub harvest_fewer : AreStillOut new later → AreFewer new out later
  harvest_fewer still = fewer_by found refl still

pub harvest_sends : HarvestSends
harvest_sends p e t found hand member streams ends parts order out later row owners turns queues still k =
    let due : IsHarvestDue p e t found = subst (IsDue p) row (each_event_is_due p) in
    subst (λ (r : DriverRow). SentStand (after_driver_row r p).driver order later hand parts) (sym row)
    (fewer_are_sent p.driver (after_driver_row (rows.Harvest e t found) p).driver hand parts order out later (harvest_outs p e t found turns.asynchronous due.idle)
    (harvest_fewer p e t found member streams ends parts order out later due owners turns queues (subst (λ (r : DriverRow). AreStillOut (after_driver_row r p).driver later) row still)) k)

-- ---- blocks are given back

stays_among : (goes : ℕ → Bool) (a : ℕ) (xs : List ℕ) → IsAmong a (staying goes xs) → IsAmong a xs
stays_among goes a [] among = among
stays_among goes a (x ∷ xs) among = by (goes x) (stays_among goes a xs) among
  where
    by : (b : Bool) → (IsAmong a (staying goes xs) → IsAmong a xs) → IsAmong a (if b then staying goes xs else x ∷ staying goes xs) → IsAmong a (x ∷ xs)
    by true rest there = inr (rest there)
    by false rest (inl same) = inl same
    by false rest (inr there) = inr (rest there)

staying_among : (n : ℕ) (goes : ℕ → Bool) (out : ℕ → List ℕ) (m a : ℕ) → IsAmong a (staying_of n goes out m) → IsAmong a (out m)
staying_among n goes out m a among = by (m == n) among
  where
    by : (b : Bool) → IsAmong a (if b then staying goes (out m) else out m) → IsAmong a (out m)
    by true there = stays_among goes a (out m) there
    by false there = there

pub release_sends : ReleaseSends
release_sends p t y hand parts order out n goes here k =
    let h = freed_by p.driver (holding p.driver.book p.memory) (Some y) in
    let row_is : after_driver_row (release_row t) p ≡ after_transfer p t (Some y) h = ap (λ (o : Option Transfer). after_transfer p t o (freed_by p.driver (holding p.driver.book p.memory) o)) here in
    subst (λ (q : Parts). SentStand q.driver order (staying_of n goes out) hand (without_those parts n goes)) (sym row_is)
    (λ e z there met sends.
    let m = 32 * z.queue in
    returned_is_whole (order m) (out m) (staying_of n goes out m) hand m parts n goes (λ a among. staying_among n goes out m a among) (k e z there (record { there = record { linked = met.there.linked; kept = met.there.kept }; near = met.near }) sends))
