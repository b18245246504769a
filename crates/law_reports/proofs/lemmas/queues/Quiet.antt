-- Steps and commands that leave queues as they are, but for links and for who is met.
use Rattle.std.proofs.Common.{◌≡◌, ◌≢◌, ℕ, ◌-◌, ◌*◌, ◌≤◌, ◌==◌, ◌&&◌, not, Bool, true, false, if◌then◌else◌, List, length, slice_get, Option, Some, None, Result, Ok, Err, ap, refl, sym, subst, ◌∙◌, ⊎_elim}
use Rattle.std.specs.Prelude.{is_some}
use Rattle.std.proofs.lemmas.Bool.{cases_eq, eq-eqb, false≢true}
use Rattle.law_ring.proofs.Common.{those_here}
use Rattle.usb_base.specs.declared.commands.Cmd.{Cmd}
use Rattle.qh_qtd.specs.declared.qtd.Qtd.{Qtd}
use Rattle.qh_qtd.specs.declared.queue_head.Qh.{Qh}
use Rattle.drv_periodic_table.specs.declared.content.Removed.TheVariants as removed
use Rattle.drv_table.specs.declared.content.Command.{Command}
use Rattle.drv_table.specs.declared.content.Endpoint.{Endpoint}
use Rattle.drv_table.specs.declared.content.Transfer.{Transfer}
use Rattle.drv_table.specs.declared.rows.DriverRow.TheVariants as rows
use Rattle.usb_base.specs.declared.reports.OfferError.{OfferError}
use Rattle.usb_base.specs.declared.reports.OfferError.TheVariants as errors
use Rattle.drv_table.specs.DriverContent.{DriverContent}
use Rattle.drv_table.specs.Accepting.{Offered}
use Rattle.drv_table.specs.Offers.{offered, offered_next}
use Rattle.drv_table.specs.Words.{head_block, to_queue_head}
use Rattle.law_driver.specs.queued_drivers.Queued.{queued}
use Rattle.law_driver.specs.queued_drivers.Rows.{QueuesAlike}
use Rattle.law_driver.proofs.lemmas.queued_drivers.RowEvents.{idle_told}
use Rattle.law_structures.specs.lent_structures.Structures.{QueueHead, Element, Structures, StructureSets}
use Rattle.law_structures.proofs.lemmas.lent_structures.Names.{put_beside, put_else, put_found}
use Rattle.law_structures.proofs.lemmas.lent_structures.Altering.{no_two, same_queue}
use Rattle.law_ring.specs.Front.{HadRest}
use Rattle.law_world.specs.steps.endpoint_releases.Released.{without_queue}
use Rattle.law_world.specs.steps.unlinked_streams.Unlinks.{IsAtUnlink, parts_unlinked}
use Rattle.bus_world.specs.World.{World, name_in, commanded_by, commanded}
use Rattle.law_world.specs.memory.Mixed.{Standing, IsMixedAt}
use Rattle.law_world.specs.memory.Steps.{AreStill, HasNoStep, left_alike, left_by_frames, left_by_bell, left_by_status, left_by_command, IsWithout, LeftBy, left_the_ring, left_its_frames}
use Rattle.law_world.proofs.lemmas.memory.RingBasis.{due_is}
use Rattle.law_reports.specs.queues.Onward.{LeadsOnward, IsUnpublished, StandsOnward}
use Rattle.law_reports.specs.queues.OnwardLaws.{GoOnward, CommandKeepsOnward}
use Rattle.law_reports.proofs.lemmas.queues.Returns.{fewer_links, those_beside}
use Rattle.law_reports.proofs.lemmas.queues.Spared.{IsSpared, spared_itself, spared_same, spared_relinked, spared_links, spared_stands, stores, none_stored}

-- ---- what is being stored is being stored yet

pub alike_stored : (d f : DriverContent) → QueuesAlike d f → (n a : ℕ) → IsUnpublished d n a → IsUnpublished f n a
alike_stored d f k n a un = record {
  block = un.block;
  words = un.words;
  command = k.command ∙ un.command;
  lent = subst (λ (m : ℕ). 1 ≤ m) (sym k.made) un.lent;
  at = un.at;
  transfer = un.transfer;
  newest = ap (λ (ts : List Transfer). slice_get ts (length ts - 1)) k.transfers ∙ un.newest;
  endpoint = un.endpoint;
  here = ap (λ (xs : List Endpoint). slice_get xs un.transfer.endpoint) k.endpoints ∙ un.here;
  its = un.its;
}

-- while no command is unfinished nothing is
pub idle_stored : (d f : DriverContent) → d.command ≡ None → (n a : ℕ) → IsUnpublished (queued d) n a → IsUnpublished f n a
idle_stored d f idle n a un = absurd (none_stored (queued d) None n a (idle_told d idle) refl un)

-- ---- commands

accepted_idle : (d : DriverContent) (r : Result Offered OfferError) (o : Offered) (c : Option Command) → d.command ≡ c
    → (if is_some c then Err errors.Busy else r) ≡ Ok o → d.command ≡ None
accepted_idle d r o None is f = is
accepted_idle d r o (Some c) is f = absurd (cc)

by_offer : (w : World) (line : ℕ) (cmd : Cmd) (r : Result Offered OfferError) → offered w.driver w.memory cmd ≡ r → (n a : ℕ)
    → IsUnpublished (queued w.driver) n a → IsUnpublished (queued (commanded_by w line (name_in cmd) r).driver) n a
by_offer w line cmd (Ok o) is n a un =
    idle_stored w.driver (queued o.driver)
    (accepted_idle w.driver (offered_next w.driver w.memory cmd) o w.driver.command refl is) n a un
by_offer w line cmd (Err why) is n a un = record {
  block = un.block;
  words = un.words;
  command = un.command;
  lent = un.lent;
  at = un.at;
  transfer = un.transfer;
  newest = un.newest;
  endpoint = un.endpoint;
  here = un.here;
  its = un.its;
}

pub command_stored : (w : World) (line : ℕ) (cmd : Cmd) (n a : ℕ) → IsUnpublished (queued w.driver) n a
    → IsUnpublished (queued (commanded w line cmd).driver) n a
command_stored w line cmd n a = by_offer w line cmd (offered w.driver w.memory cmd) refl n a

pub command_keeps_onward : CommandKeepsOnward
command_keeps_onward s w line cmd k = record {
  links = k.links;
  stand = λ n q on other pipe here off.
      spared_stands (s.order n) (queued w.driver) (queued (commanded w line cmd).driver) n (s.parts n) (s.parts n)
      (spared_itself n (s.parts n)) (λ a un. command_stored w line cmd n a un)
      (λ r there awake. k.stand n r on other pipe there awake) q here
      off;
}

-- ---- steps

module _ (s : Standing) (w new : World) (mixed : IsMixedAt s w) (k : GoOnward s (queued w.driver)) where
  abbrev d : DriverContent
  d = queued w.driver

  abbrev f : DriverContent
  f = queued new.driver

  pub spared_onward : (t : Standing) → ((n : ℕ) → t.near n ≡ true → s.near n ≡ true) → t.ends ≡ s.ends → t.order ≡ s.order
      → ((n : ℕ) → n ≢ 32 * head_block → LeadsOnward n (t.parts n))
      → ((n : ℕ) → t.near n ≡ true → n ≢ 32 * head_block → (s.ends n).dtc ≡ false → IsSpared n (s.parts n) (t.parts n))
      → ((n a : ℕ) → IsUnpublished (queued w.driver) n a → IsUnpublished (queued new.driver) n a) → GoOnward t (queued new.driver)
  spared_onward t near ends order links spared un = record {
    links = links;
    stand = λ n q on other pipe here off.
        let quiet : (s.ends n).dtc ≡ false = ap (λ g. (g n).dtc) (sym ends) ∙ pipe in
        subst (λ (g : ℕ → ℕ → ℕ). StandsOnward (g n) f n (t.parts n) q) (sym order)
        (spared_stands (s.order n) d f n (s.parts n) (t.parts n) (spared n on other quiet) (un n)
        (λ r there awake. k.stand n r (near n on) other quiet there awake) q here off);
  }

  -- no queue has a step
  none_stays : HasNoStep w new → (n a : ℕ) → IsUnpublished (queued w.driver) n a → IsUnpublished (queued new.driver) n a
  none_stays (left_alike alike tells) n a un = alike_stored d f alike n a un
  none_stays (left_by_frames alike of is) n a un = alike_stored d f alike n a un
  none_stays (left_by_bell is) n a un = idle_stored w.driver f (due_is s w mixed rows.RingBell is.next).0 n a un
  none_stays (left_by_status heard is) n a un = idle_stored w.driver f (due_is s w mixed (rows.ReadStatus heard) is.next).0 n a un
  none_stays (left_by_command line cmd fits room is) n a un =
      subst (λ (v : World). IsUnpublished (queued v.driver) n a) (sym is) (command_stored w line cmd n a un)

  pub stays_onward : (t : Standing) → HasNoStep w new → AreStill s t → GoOnward t (queued new.driver)
  stays_onward t none still =
      spared_onward t (λ n on. sym (ap (λ (g : ℕ → Bool). g n) still.near) ∙ on) still.ends still.order
      (λ n other. spared_links n (s.parts n) (t.parts n) (spared_relinked n (s.parts n) (t.parts n) (still.told.parts n)) (k.links n other))
      (λ n on other pipe. spared_relinked n (s.parts n) (t.parts n) (still.told.parts n)) (none_stays none)

  -- all structures are as they were
  pub same_onward : (t : Standing) → ((n : ℕ) → t.near n ≡ true → s.near n ≡ true) → t.ends ≡ s.ends → t.order ≡ s.order
      → t.parts ≡ s.parts → (queued w.driver).command ≡ None → GoOnward t (queued new.driver)
  same_onward t near ends order parts idle =
      let same : (n : ℕ) → IsSpared n (s.parts n) (t.parts n)
      = λ n. spared_same n (s.parts n) (t.parts n) (ap (λ (ps : StructureSets). ps n) parts) in
      spared_onward t near ends order (λ n other. spared_links n (s.parts n) (t.parts n) (same n) (k.links n other))
      (λ n on other pipe. same n) (λ n a un. absurd (none_stored d None n a idle refl un))

  -- ---- a queue head leaves the ring

  module _ (at : IsAtUnlink (queued w.driver) s.near s.parts) where
    abbrev m : ℕ
    m = 32 * at.before

    abbrev head : Qh
    head = record at.queue { link = to_queue_head at.after }

    abbrev now : StructureSets
    now = parts_unlinked s.parts at.before at.queue at.after

    no_element : (u : Qtd) → Element u ≡ QueueHead head → ⊥
    no_element u e = cc

    head_rest : (r : Qh) → r ≡ head → HadRest (s.parts m) m r
    head_rest r is = record {
      queue = at.queue;
      here = at.head;
      rest = record {
        token = ap (λ (q : Qh). q.token) is;
        current = ap (λ (q : Qh). q.current) is;
        next = ap (λ (q : Qh). q.next) is;
        alternate = ap (λ (q : Qh). q.alternate) is;
      };
    }

    unlinked_head : (n : ℕ) (r : Qh) → now n n ≡ Some (QueueHead r) → HadRest (s.parts n) n r
    unlinked_head n r here =
        ⊎_elim
        (λ (is : (n ≡ m) × (n ≡ m) × (QueueHead r ≡ QueueHead head)).
        subst (λ (i : ℕ). HadRest (s.parts i) i r) (sym is.0) (head_rest r (same_queue r head is.2)))
        (λ (was : s.parts n n ≡ Some (QueueHead r)).
        record { queue = r; here = was; rest = record { token = refl; current = refl; next = refl; alternate = refl } })
        (put_found s.parts m m (QueueHead head) n n (QueueHead r) here)

    unlinked_still : (n a : ℕ) (u : Qtd) → s.parts n a ≡ Some (Element u) → now n a ≡ Some (Element u)
    unlinked_still n a u here =
        ⊎_elim
        (λ (same : n ≡ m).
        let differs : a ≢ m =
        no_two (s.parts m) a m (Element u) (QueueHead at.queue) (ap (λ (i : ℕ). s.parts i a) (sym same) ∙ here) at.head (λ e. cc) in
        ap (λ (i : ℕ). now i a) same ∙ put_else s.parts m m (QueueHead head) a differs ∙ ap (λ (i : ℕ). s.parts i a) (sym same) ∙ here)
        (λ (differs : n ≢ m). ap (λ (part : Structures). part a) (put_beside s.parts m m (QueueHead head) n differs) ∙ here) (cases_eq n m)

    unlinked_spared : (n : ℕ) → IsSpared n (s.parts n) (now n)
    unlinked_spared n = record {
      head = unlinked_head n;
      were = λ a u here.
          ⊎_elim (λ (is : (n ≡ m) × (a ≡ m) × (Element u ≡ QueueHead head)). absurd (no_element u is.2))
          (λ (was : s.parts n a ≡ Some (Element u)). was) (put_found s.parts m m (QueueHead head) n a (Element u) here);
      done = λ a u here off. unlinked_still n a u here;
    }

    pub unlinks_onward : (t : Standing) → t.near ≡ s.near → t.ends ≡ s.ends → t.order ≡ s.order
        → t.parts ≡ parts_unlinked s.parts at.before at.queue at.after → GoOnward t (queued new.driver)
    unlinks_onward t near ends order parts =
        let same : (n : ℕ) → IsSpared n (s.parts n) (t.parts n)
        = λ n. subst (λ (ps : StructureSets). IsSpared n (s.parts n) (ps n)) (sym parts) (unlinked_spared n) in
        spared_onward t (λ n on. sym (ap (λ (g : ℕ → Bool). g n) near) ∙ on) ends order
        (λ n other. spared_links n (s.parts n) (t.parts n) (same n) (k.links n other)) (λ n on other pipe. same n)
        (λ n a un. absurd (none_stored d d.command n a refl (ap stores at.command) un))

  -- ---- an endpoint is given back

  left_idle : (e : ℕ) (c : DriverContent) → LeftBy w e c → w.driver.command ≡ None
  left_idle e _ (left_the_ring is) = (due_is s w mixed (rows.ReleaseEndpoint e) is).idle
  left_idle e _ (left_its_frames is) = (due_is s w mixed (rows.ReleaseRemoved (removed.Endpoint e)) is).idle

  still_on : (a b : Bool) → (a && not b) ≡ true → (a ≡ true) × (b ≡ false)
  still_on true false on = (refl, refl)
  still_on true true on = absurd (false≢true on)
  still_on false b on = absurd (false≢true on)

  pub goes_onward : (e : ℕ) (c : DriverContent) (t : Standing) (n : ℕ) → LeftBy w e c → IsWithout s t n → GoOnward t (queued new.driver)
  goes_onward e c t n left is =
      let beside : (m : ℕ) → m ≢ n → t.parts m ≡ s.parts m
      = λ m differs. ap (λ (ps : StructureSets). ps m) is.parts ∙ those_beside s.parts n m (λ a. true) differs in
      spared_onward t (λ m on. (still_on (s.near m) (m == n) (sym (is.near m) ∙ on)).0) is.ends is.order
      (λ m other.
      ⊎_elim
      (λ (same : m ≡ n).
      subst (LeadsOnward m) (sym (ap (λ (ps : StructureSets). ps m) is.parts ∙ ap (without_queue s.parts n) same
      ∙ those_here s.parts n (λ a. true)))
      (fewer_links m (λ a. true) (s.parts n) (subst (λ (i : ℕ). LeadsOnward m (s.parts i)) same (k.links m other))))
      (λ (differs : m ≢ n). subst (LeadsOnward m) (sym (beside m differs)) (k.links m other)) (cases_eq m n))
      (λ m on other pipe.
      spared_same m (s.parts m) (t.parts m)
      (beside m (λ same. false≢true (sym (still_on (s.near m) (m == n) (sym (is.near m) ∙ on)).1 ∙ eq-eqb m n same))))
      (λ m a un. idle_stored w.driver f (left_idle e c left) m a un)
