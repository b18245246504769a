-- What a command with descriptors links next is one of its own, after each event of the driver and each accepted command.
use Rattle.std.proofs.Common.{◌≡◌, ℕ, ◌+◌, suc, Bool, true, false, cond, nat_lt, List, [], ◌∷◌, length, take, drop, slice_get, Option, Some, None, Ok, ap, sym, subst, ◌∙◌, refl, arith}
use Rattle.std.specs.Prelude.{is_none}
use Rattle.std.specs.List.{AllByRecursion}
use Rattle.std.proofs.lemmas.Bool.{false≢true}
use Rattle.std.proofs.lemmas.Bool.Decides.{nat_tests}
use Rattle.std.proofs.lemmas.Option.{same_Some}
use Rattle.law_frame_list.proofs.Common.{frames_first}
use Rattle.law_descriptors.proofs.Common.{out_of_frames, either, same_endpoint, same_first, no_work}
use Rattle.usb_base.specs.declared.commands.Cmd.{Cmd}
use Rattle.word_mem.specs.Memory.{Mem}
use Rattle.mem_runs.specs.Book.{Book, holding, lend_taken}
use Rattle.drv_chains.specs.declared.members.Member.{Member}
use Rattle.drv_periodic.specs.declared.work.Work.{Work}
use Rattle.drv_periodic.specs.Periodic.{Periodic, begun, is_more, members_after, inserting, after_work, after_store}
use Rattle.drv_periodic_table.specs.Periodic.{PeriodicContent, descriptor_member}
use Rattle.drv_periodic_table.specs.Linking.{may_link, with_first, begun_next}
use Rattle.drv_table.specs.declared.content.Reserve.{Reserve}
use Rattle.drv_table.specs.declared.content.Endpoint.{Endpoint}
use Rattle.drv_table.specs.declared.content.Command.{Command}
use Rattle.drv_table.specs.declared.content.Command.TheVariants as unfinished
use Rattle.drv_table.specs.declared.rows.DriverRow.{DriverRow}
use Rattle.drv_table.specs.declared.rows.DriverRow.TheVariants as rows
use Rattle.drv_table.specs.DriverContent.{DriverContent}
use Rattle.drv_table.specs.Opening.{opening}
use Rattle.drv_table.specs.Accepting.{Offered}
use Rattle.drv_table.specs.Offers.{offered}
use Rattle.drv_table.specs.CancelOffers.{endpoint_members, with_cancel}
use Rattle.drv_table.specs.Parts.{Parts}
use Rattle.drv_table.specs.Commands.{events_of, links, removes_members, no_command, finished, list_after, or_finished, linked_on, advanced_by}
use Rattle.drv_table.specs.FrameChoice.{framed_by, framed_notes, with_notes, placement_at, linked_by}
use Rattle.drv_table.specs.Rows.{driver_row, after_driver_row}
use Rattle.law_driver.specs.run_owners.Accepts.{Accepts, opens, chains, places, transfers, describes, cancels, unchains, Describes, Unchains}
use Rattle.law_driver.specs.run_owners.Due.{IsDue}
use Rattle.law_driver.proofs.lemmas.run_owners.Commands.{each_command_has_its_reason}
use Rattle.law_driver.proofs.lemmas.run_owners.Reasons.{each_event_is_due, stays_idle}
use Rattle.law_driver.proofs.lemmas.run_owners.Stays.{begun_notes}
use Rattle.drv_table.specs.declared.content.Transfer.{Transfer}
use Rattle.drv_periodic_table.specs.declared.content.DescriptorNote.{DescriptorNote}
use Rattle.claims_driver.specs.FrameListMembers.{placed_in}
use Rattle.law_driver.specs.listed_members.Members.{IsWaitingOf, IsUnderWay, IsListed}
use Rattle.law_descriptors.specs.Queued.{LinksQueued, DescriptorsComeFirst, LeavingComeFirst}
use Rattle.law_descriptors.proofs.Coming.{waiting_members_come}
use Rattle.law_descriptors.proofs.Chained.{out_of_ring}

-- ---- where no command links descriptors

LinksNone : DriverContent → Type 0
LinksNone d = (e t count : ℕ) → d.command ≡ Some (unfinished.Iso e t count) → ⊥

none_linked : (d : DriverContent) → LinksNone d → LinksQueued d
unfolding LinksNone
none_linked d none e t count w is there = absurd (none e t count is)

idle_none : (d : DriverContent) → d.command ≡ None → LinksNone d
unfolding LinksNone
idle_none d none e t count is = let no : ◌≡◌ {A = Option Command} None (Some (unfinished.Iso e t count)) = sym none ∙ is in cc

idle_linked : (d : DriverContent) → d.command ≡ None → LinksQueued d
idle_linked d none = none_linked d (idle_none d none)

done_none : (d : DriverContent) (c : Command) → (finished d c).command ≡ None
done_none d (unfinished.Unlink e b link) = out_of_ring (no_command d) e (slice_get d.endpoints e) refl
done_none d (unfinished.Unchain e) = out_of_frames (no_command d) e (slice_get d.endpoints e) refl
done_none d _ = refl

-- ---- a command without descriptors goes on

other_goes : (d : DriverContent) (c : Command) → LinksNone d → LinksNone (advanced_by d (Some c))
unfolding LinksNone
other_goes d c none =
    either LinksNone (record d { made = suc d.made }) (cond (links c) (linked_on d c) (finished d c)) (nat_lt (suc d.made) (length (events_of c))) none
    (either LinksNone (linked_on d c) (finished d c) (links c) linked (idle_none (finished d c) (done_none d c)))
  where
    g : DriverContent
    g = record d { made = length (events_of c); periodic = begun_next (removes_members c) (record d.periodic { list = list_after d c }) }

    linked : LinksNone (linked_on d c)
    linked = either LinksNone (finished g c) g (is_none g.periodic.list.work) (idle_none (finished g c) (done_none g c)) none

-- ---- the member that is begun

begins_one : (Q : Member → Type 0) (q : PeriodicContent) → AllByRecursion Q q.queued → ((w : Work) → q.list.work ≡ Some w → Q w.member) → (w : Work) → (begun_next false q).list.work ≡ Some w → Q w.member
begins_one Q q all old = by (is_none q.list.work)
  where
    one : (m : Member) (b : Bool) → Q m → (w : Work) → (cond b (inserting q.list m) q.list).work ≡ Some w → Q w.member
    one m true is w there = subst Q (ap (λ (v : Work). v.member) (same_Some (begun m false) w there)) is
    one m false is w there = old w there

    first : (ms : List Member) → AllByRecursion Q ms → (w : Work) → (with_first false q ms).list.work ≡ Some w → Q w.member
    first [] all w there = old w there
    first (m ∷ ms) all w there = one m (may_link q.list m) all.0 w there

    by : (b : Bool) → (w : Work) → (cond b (with_first false q q.queued) q).list.work ≡ Some w → Q w.member
    by true w there = first q.queued all w there
    by false w there = old w there

stores_one : (Q : Member → Type 0) (p : Periodic) → ((w : Work) → p.work ≡ Some w → Q w.member) → (w : Work) → (after_store p).work ≡ Some w → Q w.member
stores_one Q p old = at p.work refl
  where
    more : (v : Work) (b : Bool) → Q v.member → (w : Work) → (cond b (record p { work = Some (record v { made = v.made + 1 }) }) (record { list = p.list; members = members_after p.members v; work = None })).work ≡ Some w → Q w.member
    more v true is w there = subst Q (ap (λ (u : Work). u.member) (same_Some (record v { made = v.made + 1 }) w there)) is
    more v false is w there = absurd (cc)

    at : (o : Option Work) → p.work ≡ o → (w : Work) → (after_work p o).work ≡ Some w → Q w.member
    at None is w there = old w there
    at (Some v) is w there = more v (is_more p.members.schedule v) (old v is) w there

listed_one : (Q : Member → Type 0) (p : Periodic) (b : Bool) → ((w : Work) → p.work ≡ Some w → Q w.member) → (w : Work) → (cond b p (after_store p)).work ≡ Some w → Q w.member
listed_one Q p true old = old
listed_one Q p false old = stores_one Q p old

still_waits : (d f : DriverContent) (e t : ℕ) (m : Member) → f.endpoints ≡ d.endpoints → f.transfers ≡ d.transfers → f.periodic.notes ≡ d.periodic.notes → IsWaitingOf d e t m → IsWaitingOf f e t m
still_waits d f e t m ends ts notes w = record {
  number = w.number;
  placed = w.placed;
  here = ap (λ (xs : List Endpoint). placed_in xs f.transfers w.number) ends ∙ ap (λ (us : List Transfer). placed_in d.endpoints us w.number) ts ∙ w.here;
  later = w.later;
  endpoint = w.endpoint;
  waits = w.waits;
  is = ap (λ (ns : List DescriptorNote). descriptor_member ns w.placed.block) notes ∙ w.is;
}

-- ---- a command with descriptors goes on

iso_goes : (d : DriverContent) (k : Book) (e t n : ℕ) → d.command ≡ Some (unfinished.Iso e t n) → IsListed d → LinksQueued d → LinksQueued (advanced_by (record d { book = k }) (Some (unfinished.Iso e t n)))
iso_goes d k e t n is listed old = by (nat_lt (suc d.made) 2) refl
  where
    c : Command
    c = unfinished.Iso e t n

    h : DriverContent
    h = record d { book = k }

    q : PeriodicContent
    q = record d.periodic { list = list_after h c }

    g : DriverContent
    g = record h { made = 2; periodic = begun_next false q }

    Q : Member → Type 0
    Q m = IsWaitingOf d e t m

    one : (w : Work) → g.periodic.list.work ≡ Some w → Q w.member
    one = begins_one Q q (subst (λ (o : Option Command). IsUnderWay d o) is listed.way).members
        (listed_one Q d.periodic.list (nat_lt d.made 2) (λ w there. (old e t n w is there).1))

    now : LinksQueued g
    now i u m w same there =
        let alike : (e ≡ i) × (t ≡ u) = (same_endpoint e t n i u m (sym is ∙ same), same_first e t n i u m (sym is ∙ same)) in (
          omega arith,
          subst (λ (a : ℕ). IsWaitingOf g a u w.member) alike.0 (subst (λ (a : ℕ). IsWaitingOf g e a w.member) alike.1
              (still_waits d g e t w.member refl refl (begun_notes false q) (one w there))),
        )

    by : (b : Bool) → nat_lt (suc d.made) 2 ≡ b → LinksQueued (cond b (record h { made = suc d.made }) (or_finished g c))
    by false late = either LinksQueued (finished g c) g (is_none g.periodic.list.work) (idle_linked (finished g c) (done_none g c)) now
    by true early = λ i u m w same there. let o = old i u m w same there in absurd (grind (arith, nat_tests))

-- ---- any command goes on

unlike : (d : DriverContent) (c : Command) → d.command ≡ Some c → ((e t n : ℕ) → c ≡ unfinished.Iso e t n → ⊥) → LinksNone d
unfolding LinksNone
unlike d c is other e t n now = other e t n (same_Some c (unfinished.Iso e t n) (sym is ∙ now))

command_goes : (d : DriverContent) (k : Book) (o : Option Command) → d.command ≡ o → IsListed d → LinksQueued d → LinksQueued (advanced_by (record d { book = k }) o)
command_goes d k None is listed old = idle_linked (record d { book = k }) is
command_goes d k (Some (unfinished.Iso e t n)) is listed old = iso_goes d k e t n is listed old
command_goes d k (Some (unfinished.Open queue)) is listed old =
    let h = record d { book = k } in none_linked (advanced_by h (Some (unfinished.Open queue))) (other_goes h (unfinished.Open queue) (unlike h (unfinished.Open queue) is (λ e t n same. cc)))
command_goes d k (Some (unfinished.Publish b words)) is listed old =
    let h = record d { book = k } in none_linked (advanced_by h (Some (unfinished.Publish b words))) (other_goes h (unfinished.Publish b words) (unlike h (unfinished.Publish b words) is (λ e t n same. cc)))
command_goes d k (Some (unfinished.Unlink f b link)) is listed old =
    let h = record d { book = k } in none_linked (advanced_by h (Some (unfinished.Unlink f b link))) (other_goes h (unfinished.Unlink f b link) (unlike h (unfinished.Unlink f b link) is (λ e t n same. cc)))
command_goes d k (Some unfinished.Chain) is listed old =
    let h = record d { book = k } in none_linked (advanced_by h (Some unfinished.Chain)) (other_goes h unfinished.Chain (unlike h unfinished.Chain is (λ e t n same. cc)))
command_goes d k (Some (unfinished.Unchain f)) is listed old =
    let h = record d { book = k } in none_linked (advanced_by h (Some (unfinished.Unchain f))) (other_goes h (unfinished.Unchain f) (unlike h (unfinished.Unchain f) is (λ e t n same. cc)))

frames_go : (d : DriverContent) (n : ℕ) (c : Command) → d.command ≡ Some c → slice_get (events_of c) d.made ≡ Some rows.Frames → LinksQueued d → LinksQueued (framed_by d n (Some c))
frames_go d n (unfinished.Open queue) is next old = old
frames_go d n (unfinished.Publish b words) is next old = old
frames_go d n (unfinished.Unlink e b link) is next old = old
frames_go d n unfinished.Chain is next old = old
frames_go d n (unfinished.Unchain e) is next old = old
frames_go d n (unfinished.Iso e t count) is next old =
    subst (λ (o : Option Command). LinksQueued (advanced_by f o)) (sym is)
    (subst (λ (b : Bool). LinksQueued (cond b g (linked_on f (unfinished.Iso e t count)))) (sym (ap (λ (k : ℕ). nat_lt (suc k) 2) none)) early)
  where
    f : DriverContent
    f = with_notes d n (take count (drop t d.transfers)) (framed_notes d n e t count (placement_at d e))

    g : DriverContent
    g = record f { made = suc d.made }

    none : d.made ≡ 0
    none = frames_first e t count d.made next

    early : LinksQueued g
    early i u m w same there = let o = (old i u m w same there).0 in absurd (omega (arith, none, o))

-- ---- any event

row_linked : (row : DriverRow) (p : Parts) → IsDue p row → IsListed p.driver → LinksQueued p.driver
    → LinksQueued (after_driver_row row p).driver
row_linked rows.Lend p due listed old =
    command_goes p.driver (lend_taken (holding p.driver.book p.memory)).book p.driver.command refl listed old
row_linked (rows.Store b at v) p due listed old = command_goes p.driver p.driver.book p.driver.command refl listed old
row_linked rows.Frames p due listed old =
    subst (λ (o : Option Command). LinksQueued (framed_by p.driver p.registers.frame_index o)) (sym due.unfinished)
    (frames_go p.driver p.registers.frame_index due.command due.unfinished due.next old)
row_linked rows.LendDescriptors p due listed old =
    command_goes p.driver (lend_taken (holding p.driver.book (linked_by p.driver p.memory p.driver.command))).book p.driver.command refl
    listed old
row_linked rows.Rest p due listed old = old
row_linked row p due listed old = idle_linked (after_driver_row row p).driver (stays_idle row p due refl refl)

pub events_link_queued : (p : Parts) → IsListed p.driver → LinksQueued p.driver → LinksQueued (after_driver_row (driver_row p) p).driver
events_link_queued p listed old = row_linked (driver_row p) p (each_event_is_due p) listed old

-- ---- an accepted command

never : (d : DriverContent) (c : Command) → d.command ≡ Some c → ((e t n : ℕ) → c ≡ unfinished.Iso e t n → ⊥) → LinksQueued d
never d c is other = none_linked d (unlike d c is other)

described : (d : DriverContent) (m : Mem) (o : Offered) → IsListed d → Describes d m o → LinksQueued o.driver
described d m o listed why e t n w is there =
    let now : ◌≡◌ {A = Option Work} None (Some w) = sym (ap (λ (f : Offered). f.driver.periodic.list.work) why.is ∙ no_work d why.idle listed) ∙ there in absurd (cc)

unchained : (d : DriverContent) (m : Mem) (o : Offered) → Unchains d m o → LinksQueued o.driver
unchained d m o why =
    let e : ℕ = why.number in
    let f = with_cancel d e why.endpoint (endpoint_members d e why.endpoint why.placement) in
    let c : Command = unfinished.Unchain e in
    subst (λ (g : Offered). LinksQueued g.driver) (sym why.is)
    (either LinksQueued (finished f c) f (is_none f.periodic.list.work) (idle_linked (finished f c) (done_none f c)) (never f c refl (λ i u n same. cc)))

accepted_linked : (d : DriverContent) (m : Mem) (o : Offered) → IsListed d → Accepts d m o → LinksQueued o.driver
accepted_linked d m o listed (opens why) = never o.driver _ (ap (λ (f : Offered). f.driver.command) why.is) (λ e t n is. cc)
accepted_linked d m o listed (chains why) = never o.driver _ (ap (λ (f : Offered). f.driver.command) why.is) (λ e t n is. cc)
accepted_linked d m o listed (places why) = idle_linked o.driver (ap (λ (f : Offered). f.driver.command) why.is ∙ why.idle)
accepted_linked d m o listed (transfers why) = never o.driver _ (ap (λ (f : Offered). f.driver.command) why.is) (λ e t n is. cc)
accepted_linked d m o listed (describes why) = described d m o listed why
accepted_linked d m o listed (cancels why) = never o.driver _ (ap (λ (f : Offered). f.driver.command) why.is) (λ e t n is. cc)
accepted_linked d m o listed (unchains why) = unchained d m o why

pub commands_link_queued : (d : DriverContent) (m : Mem) (cmd : Cmd) (o : Offered) → IsListed d → offered d m cmd ≡ Ok o
    → LinksQueued o.driver
commands_link_queued d m cmd o listed is = accepted_linked d m o listed (each_command_has_its_reason d m cmd o is)

pub new_driver_links_queued : (n : ℕ) (room : Reserve) → LinksQueued (opening n room).driver
new_driver_links_queued n room = idle_linked (opening n room).driver refl

-- ---- so it may be linked

pub descriptors_come_first : DescriptorsComeFirst
descriptors_come_first base member met recent descs parts hand frame c d index e t count runs described are has lent queued is w there keeps none =
    let q = queued e t count w is there in
    waiting_members_come base member met recent descs parts hand frame c d index (unfinished.Iso e t count) e t w.member runs described are has lent is refl q.0 q.1

pub leaving_come_first : LeavingComeFirst
leaving_come_first member recent parts d e listed is w there keeps none =
    let way = subst (λ (o : Option Command). IsUnderWay d o) is listed.way in
    let same = same_Some way.work w (sym way.begun ∙ there) in
    absurd (false≢true (sym keeps ∙ ap (λ (v : Work). v.removes) (sym same) ∙ way.removes))
