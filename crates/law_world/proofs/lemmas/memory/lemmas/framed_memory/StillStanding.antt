-- Who stands in the frame list, and what is recent, where a command is accepted: as before.
use Rattle.std.proofs.Common.{◌≡◌, ◌≢◌, ℕ, suc, ◌*◌, ◌/◌, ◌<◌, ◌≤◌, Bool, true, false, cond, List, [], ◌∷◌, ◌++◌, length, drop, get_or, set, slice_get, Option, Some, None, inl, inr, ap, refl, sym, subst, ◌∙◌, ⊎_elim, arith}
use Rattle.std.specs.Prelude.{◌||◌, is_none}
use Rattle.std.specs.List.{list_any, AllByRecursion}
use Rattle.std.proofs.lemmas.Bool.{cases_eq, eqb-true, false≢true}
use Rattle.std.proofs.lemmas.Option.{same_Some}
use Rattle.law_common.proofs.Lists.{still_there, drop_first, set_here, set_there}
use Rattle.law_descriptors.proofs.Common.{no_work}
use Rattle.usb_base.specs.declared.endpoints.EpDesc.{EpDesc}
use Rattle.word_mem.specs.Memory.{Mem}
use Rattle.mem_runs.specs.Book.{Holding, holding, slot_of, Stands}
use Rattle.drv_chains.specs.declared.members.Descriptor.{Descriptor}
use Rattle.drv_chains.specs.declared.members.Member.{Member}
use Rattle.drv_chains.specs.Chains.{Schedule}
use Rattle.drv_periodic_table.specs.declared.content.DescriptorNote.{DescriptorNote}
use Rattle.drv_periodic_table.specs.declared.content.Removal.{Removal}
use Rattle.drv_periodic_table.specs.declared.content.Removed.{Removed}
use Rattle.drv_periodic_table.specs.declared.content.Removed.TheVariants as removed
use Rattle.drv_periodic_table.specs.Periodic.{PeriodicContent, note_at}
use Rattle.drv_periodic_table.specs.Linking.{with_first, begun_next}
use Rattle.drv_table.specs.declared.content.Endpoint.{Endpoint}
use Rattle.drv_table.specs.declared.content.Transfer.{Transfer}
use Rattle.drv_table.specs.declared.content.Command.{Command}
use Rattle.drv_table.specs.declared.content.Command.TheVariants as unfinished
use Rattle.drv_table.specs.DriverContent.{DriverContent}
use Rattle.drv_table.specs.Kinds.{is_iso}
use Rattle.drv_table.specs.Commands.{no_command, removal_of, leave_frames, finished}
use Rattle.drv_table.specs.Accepting.{Offered, first_waiting, new_runs}
use Rattle.drv_table.specs.IsoOffers.{Descriptors, total_of, iso_needs, all_descriptors, entered_iso}
use Rattle.drv_table.specs.CancelOffers.{first_end, with_cancel, accepted_unchain}
use Rattle.claims_driver.specs.Owners.{Owner, Described, HasRun}
use Rattle.law_driver.specs.run_owners.Accepts.{Describes}
use Rattle.claims_driver.specs.Leaving.{HasOwners}
use Rattle.law_driver.proofs.lemmas.run_owners.Runs.{placed_run}
use Rattle.law_driver.proofs.lemmas.run_owners.Taking.{AreTakenSome, runs_taken}
use Rattle.law_driver.proofs.lemmas.run_owners.Accepted.{fresh_differs}
use Rattle.law_driver_ring.proofs.Lists.{IsOneOf}
use Rattle.law_frames.specs.Met.{Kind}
use Rattle.law_driver.specs.listed_members.Listed.{IsOwnedAs}
use Rattle.law_driver.specs.listed_members.Members.{IsListed}
use Rattle.law_driver.proofs.lemmas.listed_members.Owned.{members_have_runs}
use Rattle.law_descriptors.specs.Meeting.{kind_of_descriptor, queue_begins, descriptor_begins, kind_by, kind_at, standing_in, standing}
use Rattle.claims_driver.specs.Unlinked.{led}
use Rattle.law_descriptors.specs.Removed.{IsRemovedAt, a_descriptor, a_queue, a_waiting, IsRemovedSince, IsUnchainedNow}
use Rattle.law_descriptors.specs.Recent.{AreRecent}
use Rattle.law_descriptors.proofs.Accepted.{made, all_transfers, notes_other}
use Rattle.law_descriptors.proofs.ListRows.{idle_led, unlinking_led}
use Rattle.law_descriptors.proofs.RowStaying.{unchain_is_recent}

-- ---- what is recent

-- an endpoint that is there still, with its queue head
pub record IsThereStill (xs : List Endpoint) (e : ℕ) (x : Endpoint) : Type 0 where
  pub endpoint : Endpoint
  pub here : slice_get xs e ≡ Some endpoint
  pub desc : endpoint.desc ≡ x.desc
  pub queue : endpoint.queue ≡ x.queue

pub pushed_still : (xs ys : List Endpoint) (e : ℕ) (x : Endpoint) → slice_get xs e ≡ Some x → IsThereStill (xs ++ ys) e x
pushed_still xs ys e x here = record { endpoint = x; here = still_there xs ys e x here; desc = refl; queue = refl }

pub set_still : (xs : List Endpoint) (e : ℕ) (x z : Endpoint) → slice_get xs e ≡ Some x → z.desc ≡ x.desc → z.queue ≡ x.queue → (i : ℕ) (w : Endpoint) → slice_get xs i ≡ Some w → IsThereStill (set xs e z) i w
set_still xs e x z here desc queue i w there =
    ⊎_elim (λ (same : i ≡ e).
    let one : x ≡ w = same_Some x w (sym here ∙ ap (slice_get xs) (sym same) ∙ there) in
    record {
      endpoint = z;
      here = ap (slice_get (set xs e z)) same ∙ set_here xs e x z here;
      desc = desc ∙ ap (λ (v : Endpoint). v.desc) one;
      queue = queue ∙ ap (λ (v : Endpoint). v.queue) one;
    })
    (λ (differs : i ≢ e). record { endpoint = w; here = set_there xs e i z differs ∙ there; desc = refl; queue = refl }) (cases_eq i e)

removed_still : (xs ys : List Endpoint) (ts us : List Transfer) (n : ℕ) (what : Removed) → ((e : ℕ) (x : Endpoint) → slice_get xs e ≡ Some x → IsThereStill ys e x) → ((t : ℕ) (y : Transfer) → slice_get ts t ≡ Some y → slice_get us t ≡ Some y) → IsRemovedAt xs ts n what → IsRemovedAt ys us n what
removed_still xs ys ts us n _ ends on (a_descriptor t y at is) = a_descriptor t y (on t y at) is
removed_still xs ys ts us n _ ends on (a_queue e x at queued is) =
    let z = ends e x at in a_queue e z.endpoint z.here (ap (λ (k : EpDesc). is_iso k.kind) z.desc ∙ queued) (is ∙ ap (λ (q : ℕ). 32 * q) (sym z.queue))
removed_still xs ys ts us n _ ends on (a_waiting e t x y at iso there sort waits is) =
    let z = ends e x at in a_waiting e t z.endpoint y z.here (ap (λ (k : EpDesc). is_iso k.kind) z.desc ∙ iso) (on t y there) sort waits is

not_unchained : (e : ℕ) (o : Option Command) → o ≡ None → o ≡ Some (unfinished.Unchain e) → ⊥
not_unchained e o none is = cc

pub recent_still : (d f : DriverContent) (recent : ℕ → Option Kind) (index : ℕ) → d.command ≡ None → ((e : ℕ) (x : Endpoint) → slice_get d.endpoints e ≡ Some x → IsThereStill f.endpoints e x) → ((t : ℕ) (y : Transfer) → slice_get d.transfers t ≡ Some y → slice_get f.transfers t ≡ Some y) → f.periodic.removals ≡ d.periodic.removals → AreRecent d index recent → AreRecent f index recent
recent_still d f recent index idle ends on same are n kind is =
    ⊎_elim (λ (s : IsRemovedSince d.endpoints d.transfers d.periodic.removals index n).
    inl
    (record {
      place = s.place;
      removal = s.removal;
      here = ap (λ (rs : List Removal). slice_get rs s.place) same ∙ s.here;
      what = removed_still d.endpoints f.endpoints d.transfers f.transfers n s.removal.what ends on s.what;
      within = s.within;
    }))
    (λ (now : IsUnchainedNow d.endpoints d.transfers d.command n). absurd (not_unchained now.endpoint d.command idle now.command)) (are n kind is)

-- ---- where the same members stand

-- of what a descriptor is, only its note tells
no_kind : (queue : Bool) (one two : Kind) → kind_by queue false one ≡ kind_by queue false two
no_kind true one two = refl
no_kind false one two = refl

pub kind_same : (q r : PeriodicContent) (s : Schedule) (n : ℕ) → (list_any (descriptor_begins n) s.descriptors ≡ true → note_at r.notes (n / 32) ≡ note_at q.notes (n / 32)) → kind_at r s n ≡ kind_at q s n
kind_same q r s n same = by (list_any (descriptor_begins n) s.descriptors) refl
  where
    queue : Bool
    queue = list_any (queue_begins n) s.queues

    one : Kind
    one = kind_of_descriptor (note_at r.notes (n / 32)).split

    two : Kind
    two = kind_of_descriptor (note_at q.notes (n / 32)).split

    by : (b : Bool) → list_any (descriptor_begins n) s.descriptors ≡ b → kind_by queue (list_any (descriptor_begins n) s.descriptors) one ≡ kind_by queue (list_any (descriptor_begins n) s.descriptors) two
    by true on = ap (λ (note : DescriptorNote). kind_by queue (list_any (descriptor_begins n) s.descriptors) (kind_of_descriptor note.split)) (same on)
    by false off = ap (λ (b : Bool). kind_by queue b one) off ∙ no_kind queue one two ∙ ap (λ (b : Bool). kind_by queue b two) (sym off)

-- ---- the members of an endpoint are to be unlinked

left_stands : (d : DriverContent) (e : ℕ) (o : Option Endpoint) (n : ℕ) → standing (leave_frames d e o) n ≡ standing d n
left_stands d e None n = refl
left_stands d e (Some x) n = by x.chained
  where
    f : DriverContent
    f = record d { endpoints = set d.endpoints e (record x { chained = false }); periodic = record d.periodic { removals = d.periodic.removals ++ removal_of (removed.Endpoint e) ∷ [] } }

    by : (b : Bool) → standing (cond b f d) n ≡ standing d n
    by true = refl
    by false = refl

begun_stands : (q : PeriodicContent) (n : ℕ) → standing_in (begun_next true q) n ≡ standing_in q n
begun_stands q n = by (is_none q.list.work)
  where
    first : (ms : List Member) → standing_in (with_first true q ms) n ≡ standing_in q n
    first [] = refl
    first (m ∷ ms) = ap (λ (s : Schedule). kind_at q s n) (unlinking_led q.list m)

    by : (b : Bool) → standing_in (cond b (with_first true q q.queued) q) n ≡ standing_in q n
    by true = first q.queued
    by false = refl

begun_removals : (q : PeriodicContent) → (begun_next true q).removals ≡ q.removals
begun_removals q = by (is_none q.list.work)
  where
    first : (ms : List Member) → (with_first true q ms).removals ≡ q.removals
    first [] = refl
    first (m ∷ ms) = refl

    by : (b : Bool) → (cond b (with_first true q q.queued) q).removals ≡ q.removals
    by true = first q.queued
    by false = refl

pub unchain_stands : (d : DriverContent) (e : ℕ) (x : Endpoint) (ms : List Member) (n : ℕ) → standing (accepted_unchain d e x ms) n ≡ standing d n
unchain_stands d e x ms n = by (is_none f.periodic.list.work)
  where
    f : DriverContent
    f = with_cancel d e x ms

    begun : standing f n ≡ standing d n
    begun = begun_stands (record d.periodic { queued = ms }) n

    by : (b : Bool) → standing (cond b (finished f (unfinished.Unchain e)) f) n ≡ standing d n
    by true = left_stands (no_command f) e (slice_get f.endpoints e) n ∙ begun
    by false = begun

pub unchain_recent_still : (d : DriverContent) (e : ℕ) (x : Endpoint) (ms : List Member) (recent : ℕ → Option Kind) (index : ℕ) → d.command ≡ None → slice_get d.endpoints e ≡ Some x → x.chained ≡ true → AreRecent d index recent → AreRecent (accepted_unchain d e x ms) index recent
unchain_recent_still d e x ms recent index idle here chained are = by (is_none f.periodic.list.work)
  where
    f : DriverContent
    f = with_cancel d e x ms

    z : Endpoint
    z = record x { cancelled = true; ended = first_end x.ended }

    begun : AreRecent f index recent
    begun = recent_still d f recent index idle (set_still d.endpoints e x z here refl refl) (λ t y there. there) (begun_removals (record d.periodic { queued = ms })) are

    by : (b : Bool) → AreRecent (cond b (finished f (unfinished.Unchain e)) f) index recent
    by true = unchain_is_recent f recent index e z refl (set_here d.endpoints e x z here) chained begun
    by false = begun

-- ---- descriptors are accepted: no member has a run that is new

begins_block : (b n : ℕ) → 32 * b ≡ n → n / 32 ≡ b
begins_block b n is = omega (arith, is)

-- whose the descriptors of a schedule are
abbrev AreOwned : DriverContent → (ℕ → Owner) → List Descriptor → Type 0
AreOwned d owner ks = AllByRecursion (λ (k : Descriptor). (split : Bool) × ((t : ℕ) × IsOwnedAs d owner k.id (Described split t))) ks

first_run : (d : DriverContent) (owner : ℕ → Owner) (n : ℕ) (k : Descriptor) (ks : List Descriptor) (b : Bool) → descriptor_begins n k ≡ b → AreOwned d owner (k ∷ ks) → (list_any (descriptor_begins n) ks ≡ true → HasRun (slot_of d.book.slots (n / 32))) → b || list_any (descriptor_begins n) ks ≡ true → HasRun (slot_of d.book.slots (n / 32))
first_run d owner n k ks true on all later any =
    subst (λ (b : ℕ). HasRun (slot_of d.book.slots b)) (sym (begins_block (k.id / 32) n (eqb-true (32 * (k.id / 32)) n on)))
    (placed_run (k.id / 32) (Described all.0.0 all.0.1.0) all.0.1.1)
first_run d owner n k ks false off all later any = later any

member_run : (d : DriverContent) (owner : ℕ → Owner) (n : ℕ) (ks : List Descriptor) → AreOwned d owner ks → list_any (descriptor_begins n) ks ≡ true → HasRun (slot_of d.book.slots (n / 32))
member_run d owner n [] all any = absurd (false≢true any)
member_run d owner n (k ∷ ks) all any = first_run d owner n k ks (descriptor_begins n k) refl all (λ there. member_run d owner n ks all.1 there) any

-- its place in a list
record IsAtPlace (c : ℕ) (bs : List ℕ) : Type 0 where
  place : ℕ
  below : place < length bs
  is : c ≡ get_or bs place 0

place_of : (c : ℕ) (bs : List ℕ) → IsOneOf c bs → IsAtPlace c bs
place_of c [] one = absurd one
place_of c (b ∷ bs) (inl is) = record { place = 0; below = omega arith; is = is }
place_of c (b ∷ bs) (inr there) = let at = place_of c bs there in let low = at.below in record { place = suc at.place; below = omega (arith, low); is = at.is }

-- what is noted, listed and written before
abbrev pub before : DriverContent → Mem → Descriptors
before d m = record { notes = d.periodic.notes; transfers = d.transfers; memory = m }

abbrev pub after : (d : DriverContent) (m : Mem) (o : Offered) → Describes d m o → Descriptors
after d m o why =
    all_descriptors why.holding_after.book why.number why.endpoint.desc why.slots why.count why.seed (new_runs d why.holding_after) (before d why.holding_after.memory)

-- a run that there was isn't new
pub note_still : (d : DriverContent) (m : Mem) (o : Offered) (why : Describes d m o) (b : ℕ) → Stands (holding d.book m) → HasRun (slot_of d.book.slots b) → note_at (after d m o why).notes b ≡ note_at d.periodic.notes b
note_still d m o why b stands run =
    let g : Holding = why.holding_after in
    let all : AreTakenSome (holding d.book m) g (iso_needs why.slots why.count) = runs_taken (holding d.book m) g (iso_needs why.slots why.count) stands why.runs in
    let new : new_runs d g ≡ all.blocks = ap (drop (length d.book.taken)) all.are.taken ∙ drop_first d.book.taken all.blocks in
    let long = all.are.long in
    let enough : length (iso_needs why.slots why.count) ≤ length all.blocks = omega (arith, long) in
    notes_other g.book why.number why.endpoint.desc why.slots why.count why.seed (new_runs d g) (before d g.memory) b
    (subst (λ (bs : List ℕ). length (iso_needs why.slots why.count) ≤ length bs) (sym new) enough)
    (λ one.
    let at : IsAtPlace b all.blocks = place_of b all.blocks (subst (IsOneOf b) new one) in
    fresh_differs at.place b all.are at.below run (sym at.is))

pub described_stands : (d : DriverContent) (m : Mem) (o : Offered) (why : Describes d m o) → Stands (holding d.book m) → HasOwners d → IsListed d → (n : ℕ) → standing o.driver n ≡ standing d n
described_stands d m o why stands has listed n =
    let led_is : led d ≡ d.periodic.list.members.schedule = idle_led d.periodic.list (no_work d why.idle listed) in
    let runs = members_have_runs d has listed in
    ap (λ (f : Offered). standing f.driver n) why.is
    ∙ kind_same d.periodic (record d.periodic { notes = (after d m o why).notes }) (led d) n
    (λ any. note_still d m o why (n / 32) stands
    (member_run d has.owner n d.periodic.list.members.schedule.descriptors runs.descriptors (sym (ap (λ (s : Schedule). list_any (descriptor_begins n) s.descriptors) led_is) ∙ any)))

pub described_recent : (d : DriverContent) (m : Mem) (o : Offered) (why : Describes d m o) (recent : ℕ → Option Kind) (index : ℕ) → AreRecent d index recent → AreRecent o.driver index recent
described_recent d m o why recent index are =
    let x : Endpoint = why.endpoint in
    let g : Holding = why.holding_after in
    let many : (after d m o why).transfers ≡ d.transfers ++ made why.number why.slots why.count (new_runs d g)
    = all_transfers g.book why.number x.desc why.slots why.count why.seed (new_runs d g) (before d g.memory) in
    let now : Offered = entered_iso d why.number x why.count (total_of why.slots) g.book (after d m o why) in
    subst (λ (f : Offered). AreRecent f.driver index recent) (sym why.is)
    (recent_still d now.driver recent index why.idle (set_still d.endpoints why.number x (record x { next = first_waiting x.next (length d.transfers) }) why.here refl refl)
    (λ t y there. ap (λ (ts : List Transfer). slice_get ts t) many ∙ still_there d.transfers (made why.number why.slots why.count (new_runs d g)) t y there) refl are)
