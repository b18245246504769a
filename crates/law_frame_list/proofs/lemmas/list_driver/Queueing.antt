-- The descriptors of a command are queued once they have their frames, and lead on once they are lent, until they are linked.
use Rattle.std.proofs.Common.{◌≡◌, ℕ, zero, suc, ◌+◌, ◌-◌, ◌≤◌, Bool, true, false, if◌then◌else◌, List, [], ◌∷◌, map, take, drop, slice_get, nat_eq, Option, Some, None, ap, refl, sym, subst, ◌∙◌, arith}
use Rattle.std.specs.Prelude.{is_none, is_some, nat_le, nat_lt, ◌||◌}
use Rattle.std.proofs.lemmas.Bool.{false≢true, le-leb, eq-eqb}
use Rattle.std.proofs.lemmas.Option.{same_Some, slice_get_within}
use Rattle.word_mem.specs.Memory.{Mem}
use Rattle.mem_runs.specs.Book.{holding, lend_taken}
use Rattle.drv_chains.specs.declared.members.Member.{Member}
use Rattle.drv_chains.specs.Chains.{id_of}
use Rattle.drv_periodic.specs.declared.work.Store.{Store}
use Rattle.drv_periodic.specs.Periodic.{next_store}
use Rattle.drv_periodic_table.specs.declared.content.DescriptorNote.{DescriptorNote}
use Rattle.drv_periodic_table.specs.Periodic.{descriptor_member}
use Rattle.drv_table.specs.declared.content.Transfer.{Transfer}
use Rattle.drv_table.specs.declared.content.Command.{Command}
use Rattle.drv_table.specs.declared.content.Command.TheVariants as unfinished
use Rattle.drv_table.specs.declared.rows.DriverRow.{DriverRow}
use Rattle.drv_table.specs.declared.rows.DriverRow.TheVariants as rows
use Rattle.drv_table.specs.DriverContent.{DriverContent}
use Rattle.drv_table.specs.Accepting.{Offered}
use Rattle.drv_table.specs.CancelOffers.{with_cancel, endpoint_members}
use Rattle.drv_table.specs.Parts.{Parts}
use Rattle.drv_table.specs.Rows.{driver_row, after_driver_row, row_for}
use Rattle.drv_table.specs.Commands.{command_row, link_row, advanced_by, linked_on, or_finished, finished, no_command}
use Rattle.drv_table.specs.FrameChoice.{framed_by, framed_notes, placement_at, with_notes, linked_by}
use Rattle.law_driver.specs.run_owners.Accepts.{Accepts, opens, chains, places, transfers, describes, cancels, unchains}
use Rattle.law_driver.specs.in_place.InPlace.{IsSound}
use Rattle.claims_driver.specs.FrameListMembers.{Placed, placed_in}
use Rattle.law_driver.specs.listed_members.Members.{is_in_names, IsDescribing, IsUnderWay, IsListed}
use Rattle.law_driver.proofs.lemmas.listed_members.Standing.{IsSeen, seen}
use Rattle.claims_driver.specs.DueMembers.{HasOneEach}
use Rattle.claims_driver.specs.FrameWords.{ListStands}
use Rattle.law_frame_list.specs.list_driver.Keeping.{AreLeading, AreToLink}
use Rattle.law_frame_list.specs.list_steps.Steps.{IsLinkingStep}
use Rattle.law_frame_list.proofs.lemmas.list_queued.Apart.{way_of}
use Rattle.law_frame_list.proofs.lemmas.list_queued.Linked.{goes_on as stored_on, link_leads}
use Rattle.law_frame_list.proofs.lemmas.list_queued.Lent.{goes_on as lent_on, taken_there, lend_leads}
use Rattle.law_frame_list.proofs.lemmas.list_driver.Coming.{frames_none, row_comes}

-- ---- which row of such a command comes next

abbrev IsIso : Parts → ℕ → ℕ → ℕ → Type 0
IsIso p e f n = p.driver.command ≡ Some (unfinished.Iso e f n)

frames_row : (p : Parts) (e f n : ℕ) → IsIso p e f n → p.driver.made ≡ 0 → driver_row p ≡ rows.Frames
frames_row p e f n is at =
    ap (λ (o : Option Command). row_for p o) is
    ∙ ap (λ (k : ℕ). if nat_le 2 k then link_row (next_store p.driver.periodic.list) else command_row (unfinished.Iso e f n) k) at

lend_row : (p : Parts) (e f n : ℕ) → IsIso p e f n → p.driver.made ≡ 1 → driver_row p ≡ rows.LendDescriptors
lend_row p e f n is at =
    ap (λ (o : Option Command). row_for p o) is
    ∙ ap (λ (k : ℕ). if nat_le 2 k then link_row (next_store p.driver.periodic.list) else command_row (unfinished.Iso e f n) k) at

store_row : (p : Parts) (e f n : ℕ) → IsIso p e f n → 2 ≤ p.driver.made → driver_row p ≡ link_row (next_store p.driver.periodic.list)
store_row p e f n is late =
    ap (λ (o : Option Command). row_for p o) is
    ∙ ap (λ (b : Bool). if b then link_row (next_store p.driver.periodic.list) else command_row (unfinished.Iso e f n) p.driver.made) (le-leb 2 p.driver.made late)

-- ---- they have their frames

map_named : (g : ℕ → Member) (ts : List Transfer) (i : ℕ) (z : Transfer) → slice_get ts i ≡ Some z → is_in_names (id_of (g z.first)) (map (λ (t : Transfer). g t.first) ts) ≡ true
map_named g [] i z there = absurd (cc)
map_named g (t ∷ ts) zero z there =
    let same : t ≡ z = same_Some t z there in
    ap (λ b. b || is_in_names (id_of (g z.first)) (map (λ (u : Transfer). g u.first) ts)) (eq-eqb (id_of (g t.first)) (id_of (g z.first)) (ap (λ (u : Transfer). id_of (g u.first)) same))
map_named g (t ∷ ts) (suc i) z there = by (nat_eq (id_of (g t.first)) (id_of (g z.first))) (map_named g ts i z there)
  where
    by : (b : Bool) → is_in_names (id_of (g z.first)) (map (λ (u : Transfer). g u.first) ts) ≡ true → b || is_in_names (id_of (g z.first)) (map (λ (u : Transfer). g u.first) ts) ≡ true
    by true rest = refl
    by false rest = rest

abbrev framed : DriverContent → ℕ → ℕ → ℕ → ℕ → DriverContent
framed d i e f n = with_notes d i (take n (drop f d.transfers)) (framed_notes d i e f n (placement_at d e))

framed_is : (d : DriverContent) (i e f n : ℕ) → d.command ≡ Some (unfinished.Iso e f n) → d.made ≡ 0 → framed_by d i (Some (unfinished.Iso e f n)) ≡ record (framed d i e f n) { made = suc d.made }
framed_is d i e f n is at =
    ap (λ (o : Option Command). advanced_by (framed d i e f n) o) is
    ∙ ap (λ (k : ℕ). if nat_lt (suc k) 2 then record (framed d i e f n) { made = suc d.made } else linked_on (framed d i e f n) (unfinished.Iso e f n)) at

all_queued : (d : DriverContent) (i e f n : ℕ) → d.command ≡ Some (unfinished.Iso e f n) → IsListed d → (t : ℕ) (y : Placed) → f ≤ t → placed_in d.endpoints d.transfers t ≡ Some y
    → is_in_names (id_of (descriptor_member (framed_notes d i e f n (placement_at d e)) y.block)) (framed d i e f n).periodic.queued ≡ true
all_queued d i e f n is listed t y later here =
    let notes : List DescriptorNote = framed_notes d i e f n (placement_at d e) in
    let way : IsDescribing d e f n = way_of d e f n is listed in
    let s : IsSeen d.endpoints d.transfers t y = seen d.endpoints d.transfers t y here in
    let within = slice_get_within d.transfers t s.transfer s.there in
    let number : f + (t - f) ≡ t = omega (arith, later) in
    let there : slice_get (take n (drop f d.transfers)) (t - f) ≡ Some s.transfer =
    taken_there n f (t - f) d.transfers s.transfer (let all = way.all in omega (arith, all, within, later)) (ap (slice_get d.transfers) number ∙ s.there) in
    ap (λ b. is_in_names (id_of (descriptor_member notes b)) (framed d i e f n).periodic.queued) s.block ∙ map_named (descriptor_member notes) (take n (drop f d.transfers)) (t - f) s.transfer there

framed_to_link : (d : DriverContent) (i e f n : ℕ) → d.command ≡ Some (unfinished.Iso e f n) → d.made ≡ 0 → IsListed d → AreToLink d → AreToLink (framed_by d i d.command)
framed_to_link d i e f n is at listed to =
    subst (λ (o : Option Command). AreToLink (framed_by d i o)) (sym is)
    (subst AreToLink (sym (framed_is d i e f n is at))
    (λ g h k was made.
    let same : h ≡ f = let one : Some (unfinished.Iso e f n) ≡ Some (unfinished.Iso g h k) = sym is ∙ was in cc in
    record {
      idle = (to e f n is (omega (arith, at))).idle;
      all = λ one t y later here. all_queued d i e f n is listed t y (omega (arith, same, later)) here;
    }))

framed_leading : (m : Mem) (d : DriverContent) (i e f n : ℕ) → d.command ≡ Some (unfinished.Iso e f n) → d.made ≡ 0 → AreLeading m (framed_by d i d.command)
framed_leading m d i e f n is at =
    subst (λ (o : Option Command). AreLeading m (framed_by d i o)) (sym is)
    (subst (AreLeading m) (sym (framed_is d i e f n is at)) (λ g h k was made. absurd (omega (arith, at, made))))

-- ---- they are lent or linked

late_if : (g : DriverContent) (e f n : ℕ) → g.made ≡ 2 → AreToLink (or_finished g (unfinished.Iso e f n))
late_if g e f n at = by (is_none g.periodic.list.work)
  where
    by : (b : Bool) → AreToLink (if b then no_command g else g)
    by true = λ h i k is made. absurd (false≢true (ap is_some is))
    by false = λ h i k is made. absurd (omega (arith, at, made))

stored_to_link : (p : Parts) (e f n : ℕ) (o : Option Store) → IsIso p e f n → 2 ≤ p.driver.made → AreToLink p.driver → AreToLink (after_driver_row (link_row o) p).driver
stored_to_link p e f n None is late to = to
stored_to_link p e f n (Some s) is late to = subst AreToLink (sym (stored_on p.driver e f n is late)) (late_if _ e f n refl)

to_link_by : (p : Parts) (e f n k : ℕ) → p.driver.made ≡ k → IsIso p e f n → IsListed p.driver → AreToLink p.driver → AreToLink (after_driver_row (driver_row p) p).driver
to_link_by p e f n zero at is listed to =
    subst (λ (r : DriverRow). AreToLink (after_driver_row r p).driver) (sym (frames_row p e f n is at)) (framed_to_link p.driver p.registers.frame_index e f n is at listed to)
to_link_by p e f n (suc zero) at is listed to =
    subst (λ (r : DriverRow). AreToLink (after_driver_row r p).driver) (sym (lend_row p e f n is at))
    (subst AreToLink (sym (lent_on p.driver (lend_taken (holding p.driver.book (linked_by p.driver p.memory p.driver.command))).book e f n is at)) (late_if _ e f n refl))
to_link_by p e f n (suc (suc k)) at is listed to =
    let late : 2 ≤ p.driver.made = omega (arith, at) in
    subst (λ (r : DriverRow). AreToLink (after_driver_row r p).driver) (sym (store_row p e f n is late)) (stored_to_link p e f n (next_store p.driver.periodic.list) is late to)

pub event_to_link : (p : Parts) → IsListed p.driver → AreToLink p.driver → AreToLink (after_driver_row (driver_row p) p).driver
event_to_link p listed to e f n is made = to_link_by p e f n p.driver.made refl (row_comes (driver_row p) p (unfinished.Iso e f n) is) listed to e f n is made

leading_by : (p : Parts) (e f n k : ℕ) → p.driver.made ≡ k → IsIso p e f n → IsSound p.memory p.driver → HasOneEach p.driver → ListStands p.memory p.driver → AreToLink p.driver → AreLeading p.memory p.driver
    → AreLeading (after_driver_row (driver_row p) p).memory (after_driver_row (driver_row p) p).driver
leading_by p e f n zero at is sound one old to leading =
    subst (λ (r : DriverRow). AreLeading (after_driver_row r p).memory (after_driver_row r p).driver) (sym (frames_row p e f n is at)) (framed_leading p.memory p.driver p.registers.frame_index e f n is at)
leading_by p e f n (suc zero) at is sound one old to leading = lend_leads p (lend_row p e f n is at) sound one to
leading_by p e f n (suc (suc k)) at is sound one old to leading =
    let late : 2 ≤ p.driver.made = omega (arith, at) in
    let step : IsLinkingStep p (unfinished.Iso e f n) = record { unfinished = is; links = refl; late = late } in
    link_leads p e f n step sound one leading old

pub event_leading : (p : Parts) → IsSound p.memory p.driver → HasOneEach p.driver → ListStands p.memory p.driver → AreToLink p.driver → AreLeading p.memory p.driver
    → AreLeading (after_driver_row (driver_row p) p).memory (after_driver_row (driver_row p) p).driver
event_leading p sound one old to leading e f n is made =
    leading_by p e f n p.driver.made refl (row_comes (driver_row p) p (unfinished.Iso e f n) is) sound one old to leading e f n is made

-- ---- a command

pub record AreQueued (m : Mem) (d : DriverContent) : Type 0 where
  pub to_link : AreToLink d
  pub leading : AreLeading m d

abbrev commanded : Offered → Option Command
commanded o = o.driver.command

no_iso : (m : Mem) (d : DriverContent) → ((e f n : ℕ) → d.command ≡ Some (unfinished.Iso e f n) → ⊥) → AreQueued m d
no_iso m d none = record { to_link = λ e f n is made. absurd (none e f n is); leading = λ e f n is made. absurd (none e f n is) }

unchains_none : (g : DriverContent) (h e f n : ℕ) → g.command ≡ Some (unfinished.Unchain h) → (or_finished g (unfinished.Unchain h)).command ≡ Some (unfinished.Iso e f n) → ⊥
unchains_none g h e f n was = by (is_none g.periodic.list.work)
  where
    by : (b : Bool) → (if b then finished g (unfinished.Unchain h) else g).command ≡ Some (unfinished.Iso e f n) → ⊥
    by true is = false≢true (ap is_some (sym (frames_none g h (slice_get g.endpoints h))) ∙ ap is_some is)
    by false is = let one : Some (unfinished.Unchain h) ≡ Some (unfinished.Iso e f n) = sym was ∙ is in cc

pub accepted_queued : (d : DriverContent) (m : Mem) (o : Offered) → Accepts d m o → IsListed d → AreQueued o.memory o.driver
accepted_queued d m o (opens why) listed = no_iso o.memory o.driver (λ e f n is. let one = sym (ap commanded why.is) ∙ is in cc)
accepted_queued d m o (chains why) listed = no_iso o.memory o.driver (λ e f n is. let one = sym (ap commanded why.is) ∙ is in cc)
accepted_queued d m o (places why) listed = no_iso o.memory o.driver (λ e f n is. let one : None ≡ Some (unfinished.Iso e f n) = sym why.idle ∙ sym (ap commanded why.is) ∙ is in cc)
accepted_queued d m o (transfers why) listed = no_iso o.memory o.driver (λ e f n is. let one = sym (ap commanded why.is) ∙ is in cc)
accepted_queued d m o (cancels why) listed = no_iso o.memory o.driver (λ e f n is. let one = sym (ap commanded why.is) ∙ is in cc)
accepted_queued d m o (unchains why) listed =
    no_iso o.memory o.driver
    (λ e f n is.
    unchains_none (with_cancel d why.number why.endpoint (endpoint_members d why.number why.endpoint why.placement)) why.number e f n refl (sym (ap commanded why.is) ∙ is))
accepted_queued d m o (describes why) listed =
    subst (λ (g : Offered). AreQueued g.memory g.driver) (sym why.is)
    (record {
      to_link = λ e f n is made. record { idle = (subst (IsUnderWay d) why.idle listed.way).work; all = λ at. absurd (omega (arith, at)) };
      leading = λ e f n is made. absurd (omega (arith, made));
    })
