-- Lemmas that several files need.
use Rattle.std.proofs.Common.{Bool, ◌≡◌, cond, true, false, ℕ, Option, None, refl, Some, ◌<◌, slice_index, ◌+◌, ◌*◌, ◌/◌, arith, ◌∙◌, ap, get_or, List, ◌∷◌, [], if◌then◌else◌, ◌++◌, zero, suc, length, inl, inr, slice_get, drop, ◌≤◌, ⊎_elim, not, nat_eq, ◌&&◌, subst, set, sym, ◌≢◌, option_map}
use Rattle.std.specs.Prelude.{is_none}
use Rattle.std.proofs.lemmas.Map.Views.{any-filter_same}
use Rattle.std.proofs.lemmas.Bool.{and_parts, eq-eqb, cases_eq}
use Rattle.std.proofs.lemmas.Option.{same_Some, slice_get-map}
use Rattle.word_mem.specs.Memory.{Mem, word_at, with_word}
use Rattle.word_mem.specs.Views.{words_at}
use Rattle.word_mem.proofs.Words.{get_or-words_in}
use Rattle.mem_runs.specs.Book.{Book, store, can_store, slot_of}
use Rattle.mem_runs.specs.declared.slots.Slot.{Slot}
use Rattle.law_common.proofs.Lists.{set_here, set_there}
use Rattle.drv_chains.specs.declared.members.Member.{Member}
use Rattle.drv_chains.specs.Chains.{Schedule, is_the}
use Rattle.drv_chains.specs.declared.members.Member.TheVariants.{Once, Each}
use Rattle.drv_chains.specs.Boundary.{frame_number, after_reading}
use Rattle.drv_chains.specs.declared.boundary.Boundary.TheVariants.{Since, Seen, Unread}
use Rattle.drv_chains.specs.declared.boundary.Boundary.{Boundary}
use Rattle.drv_members.specs.Members.{is_linked, without_member, is_that, is_this}
use Rattle.drv_members.specs.Ranks.{is_called, is_named}
use Rattle.drv_periodic.specs.declared.work.Work.{Work}
use Rattle.drv_periodic.specs.Periodic.{Periodic, is_more}
use Rattle.drv_periodic_table.specs.Periodic.{PeriodicContent, read_again, read_once}
use Rattle.drv_periodic_table.specs.Linking.{begun_next, with_first}
use Rattle.drv_periodic_table.specs.declared.content.Removal.{Removal}
use Rattle.drv_periodic_table.specs.declared.content.Removed.{Removed}
use Rattle.drv_table.specs.DriverContent.{DriverContent, waits_for}
use Rattle.drv_table.specs.declared.content.Endpoint.{Endpoint}
use Rattle.drv_table.specs.Commands.{leave_frames, no_command, or_finished, finished, removal_of}
use Rattle.drv_table.specs.declared.content.Command.{Command}
use Rattle.drv_table.specs.declared.content.Transfer.{Transfer}
use Rattle.drv_table.specs.Parts.{Parts}
use Rattle.drv_table.specs.Removals.{after_unlink}
use Rattle.law_structures.specs.lent_structures.Structures.{Structure, Structures}
use Rattle.law_frames.specs.Met.{Kind}
use Rattle.claims_driver.specs.Owners.{TransferRuns, transfer_in, IsOneOf as IsAmong, is_descriptor, SlotHas}
use Rattle.claims_driver.specs.FrameWords.{HasMember}
use Rattle.claims_driver.specs.Unlinked.{IsOpenAt}
use Rattle.law_driver.specs.listed_members.Members.{IsListed, IsUnderWay}
use Rattle.law_frame_list.proofs.lemmas.list_closed.Chained.{still_linked}
use Rattle.law_descriptors.specs.Meeting.{or_recent}
use Rattle.law_descriptors.specs.Written.{words_in, blocks_in}
use Rattle.law_descriptors.specs.Recent.{AreRecent}
use Rattle.law_descriptors.specs.Removed.{IsRemovedSince, IsUnchainedNow, IsRemovedAt, a_descriptor, a_queue, a_waiting}
use Rattle.law_descriptors.specs.Growing.{IsLeftOut}
use Rattle.law_descriptors.specs.ListRows.{leaves_now, leaves_by}
use Rattle.law_descriptors.specs.Staying.{also}
use Rattle.law_descriptors.specs.Described.{HasItsBuffer}
use Rattle.drv_periodic_table.specs.declared.content.Removed.TheVariants as removed
use Rattle.drv_table.specs.declared.content.Command.TheVariants as unfinished

pub either_book : (k : Book) (b : Bool) (e f : DriverContent) → e.book ≡ k → f.book ≡ k → (cond b e f).book ≡ k
either_book k true e f one other = one
either_book k false e f one other = other

pub left_book : (d : DriverContent) (e : ℕ) (o : Option Endpoint) → (leave_frames d e o).book ≡ d.book
left_book d e None = refl
left_book d e (Some x) = either_book d.book x.chained _ d refl refl

pub first_of_words : (m : Mem) (a n : ℕ) → 0 < n → slice_index (words_at m a n) 0 ≡ word_at m a
first_of_words m a n many =
    let same : (a + 4 * 0) / 4 ≡ a / 4 = omega arith in
    get_or-words_in m.words a n 0 many ∙ ap (λ (k : ℕ). get_or m.words k 0) same

pub none_some : (s : Structure) → ◌≡◌ {A = Option Structure} None (Some s) → ⊥
none_some s is = cc

pub next_removals : (removes : Bool) (q : PeriodicContent) → (begun_next removes q).removals ≡ q.removals
next_removals removes q = by_work (is_none q.list.work)
  where
    by_first : (ms : List Member) → (with_first removes q ms).removals ≡ q.removals
    by_first [] = refl
    by_first (m ∷ ms) = refl

    by_work : (b : Bool) → (cond b (with_first removes q q.queued) q).removals ≡ q.removals
    by_work true = by_first q.queued
    by_work false = refl

pub chain_unchain : (o : Option Command) (e : ℕ) → o ≡ Some unfinished.Chain → o ≡ Some (unfinished.Unchain e) → ⊥
chain_unchain o e one two = cc

pub others_led : (s : Schedule) (w : Work) (x : Member) (b : Bool) → is_the w.member x ≡ false → is_linked s x ≡ true
    → is_linked (if b then s else without_member s w.member) x ≡ true
others_led s w x true other on = on
others_led s w x false other on = still_linked s w.member x other on

pub further : (o recent : Option Kind) (kind : Kind) → o ≡ Some kind → or_recent o recent ≡ Some kind
further o recent kind is = ap (λ x. or_recent x recent) is

pub states_stored : (k : Book) (m : Mem) (b at v : ℕ) → (store k m b at v).states ≡ m.states
states_stored k m b at v = by (can_store (slot_of k.slots b) at)
  where
    by : (can : Bool) → (cond can (with_word m at v) m).states ≡ m.states
    by true = refl
    by false = refl

pub old_there : (ts us : List Transfer) (t : ℕ) (y : TransferRuns) → transfer_in ts t ≡ Some y → transfer_in (ts ++ us) t ≡ Some y
old_there [] us t y there = absurd (cc)
old_there (z ∷ ts) us zero y there = there
old_there (z ∷ ts) us (suc t) y there = old_there ts us t y there

pub among_at : (cs : List ℕ) (i : ℕ) → i < length cs → IsAmong (get_or cs i 0) cs
among_at [] i below = absurd (omega (arith, below))
among_at (c ∷ cs) zero below = inl refl
among_at (c ∷ cs) (suc i) below = inr (among_at cs i (omega (arith, below)))

pub dropped : (rs : List Removal) (k : ℕ) (r : Removal) → slice_get rs (suc k) ≡ Some r → slice_get (drop 1 rs) k ≡ Some r
dropped [] k r here = absurd cc
dropped (m ∷ ms) k r here = here

pub none_else : (s : Structure) → None ≡ Some s → ⊥
none_else s e = cc

pub words_few : (split : Bool) → words_in split ≤ 8 * blocks_in split
words_few true = omega arith
words_few false = omega arith

pub unlink_registers : (p : Parts) (t : ℕ) (o : Option Transfer) → (after_unlink p t o).registers ≡ p.registers
unlink_registers p t None = refl
unlink_registers p t (Some z) = refl

pub first_removals : (removes : Bool) (q : PeriodicContent) (ms : List Member) → (with_first removes q ms).removals ≡ q.removals
first_removals removes q [] = refl
first_removals removes q (x ∷ xs) = refl

pub no_unchain : (d : DriverContent) (later : ℕ → Option Kind) (index : ℕ) → ((e : ℕ) → d.command ≡ Some (unfinished.Unchain e) → ⊥)
    → AreRecent d index later → AreRecent (no_command d) index later
no_unchain d later index none are n kind on =
    ⊎_elim (λ (since : IsRemovedSince d.endpoints d.transfers d.periodic.removals index n). inl since)
    (λ (now : IsUnchainedNow d.endpoints d.transfers d.command n). absurd (none now.endpoint now.command)) (are n kind on)

pub gone : (s : Schedule) (m : Member) → is_linked (without_member s m) m ≡ false
gone s (Once d) =
    any-filter_same (is_that d) (λ x. not (is_called d.id x)) false
    (λ x is. ap not (and_parts (nat_eq x.id d.id) (nat_eq x.frame d.frame) is).0) s.descriptors
gone s (Each q) =
    any-filter_same (is_this q) (λ x. not (is_named q.id x)) false
    (λ x is. ap not (and_parts (nat_eq x.id q.id) (nat_eq x.period q.period && nat_eq x.phase q.phase) is).0) s.queues

pub way_by : (s : Schedule) (o : Option Work) (w : Work) → o ≡ Some w → HasMember s o → is_linked s w.member ≡ true
way_by s None w is has = absurd (cc)
way_by s (Some v) w is has = subst (λ (x : Work). is_linked s x.member ≡ true) (same_Some v w is) has.1

pub leaves_it : (p : Periodic) (w : Work) (x : Member) → p.work ≡ Some w → IsLeftOut p w x → leaves_now p ≡ Some w.member
leaves_it p w x under out =
    ap (leaves_by p.members.schedule) under
    ∙ ap (λ (b : Bool). if b && not (is_more p.members.schedule w) then Some w.member else None) out.removes
    ∙ ap (λ (b : Bool). if not b then Some w.member else None) out.last

pub also_here : (n i : ℕ) (kind : Kind) (left : ℕ → Option Kind) → i ≡ n → also n kind left i ≡ Some kind
also_here n i kind left is = ap (λ (b : Bool). if b then Some kind else left i) (eq-eqb i n is)

pub unchained_book : (d : DriverContent) (e : ℕ) → (or_finished d (unfinished.Unchain e)).book ≡ d.book
unchained_book d e = either_book d.book (is_none d.periodic.list.work) (finished d (unfinished.Unchain e)) d
    (left_book (no_command d) e (slice_get d.endpoints e)) refl

pub out_of_frames : (d : DriverContent) (e : ℕ) (o : Option Endpoint) → d.command ≡ None → (leave_frames d e o).command ≡ None
out_of_frames d e None none = none
out_of_frames d e (Some x) none = by x.chained
  where
    by : (b : Bool) → (cond b (record d {
      endpoints = set d.endpoints e (record x { chained = false });
      periodic =
          record d.periodic { removals = d.periodic.removals ++ removal_of (removed.Endpoint e) ∷ [] };
    }) d).command ≡ None
    by true = none
    by false = none

pub either : (P : DriverContent → Type 0) (d f : DriverContent) (b : Bool) → P d → P f → P (cond b d f)
either P d f true one two = one
either P d f false one two = two

pub same_endpoint : (e t n i u m : ℕ) → ◌≡◌ {A = Option Command} (Some (unfinished.Iso e t n)) (Some (unfinished.Iso i u m)) → e ≡ i
same_endpoint e t n i u m is = cc

pub same_first : (e t n i u m : ℕ) → ◌≡◌ {A = Option Command} (Some (unfinished.Iso e t n)) (Some (unfinished.Iso i u m)) → t ≡ u
same_first e t n i u m is = cc

pub no_work : (d : DriverContent) → d.command ≡ None → IsListed d → d.periodic.list.work ≡ None
no_work d none listed = (subst (λ (o : Option Command). IsUnderWay d o) none listed.way).work

pub let_go : (xs : List Endpoint) (ts : List Transfer) (n t : ℕ) (y : Transfer) (w : Removed) → slice_get ts t ≡ Some y
    → IsRemovedAt xs ts n w → IsRemovedAt xs (set ts t (record y { released = true })) n w
let_go xs ts n t y _ there (a_descriptor u z at is) =
    ⊎_elim (λ (same : u ≡ t).
    let one : z ≡ y = same_Some z y (sym at ∙ ap (slice_get ts) same ∙ there) in
    subst (λ (i : ℕ). IsRemovedAt xs (set ts t (record y { released = true })) n (removed.Descriptor i)) (sym same)
    (a_descriptor t (record y { released = true }) (set_here ts t y (record y { released = true }) there)
    (subst (λ (v : Transfer). n ≡ 32 * v.first) one is)))
    (λ (differs : u ≢ t). a_descriptor u z (set_there ts t u (record y { released = true }) differs ∙ at) is) (cases_eq u t)
let_go xs ts n t y _ there (a_queue f z at queued is) = a_queue f z at queued is
let_go xs ts n t y _ there (a_waiting f u x z at iso in_list sort waits is) =
    ⊎_elim (λ (same : u ≡ t).
    let one : z ≡ y = same_Some z y (sym in_list ∙ ap (slice_get ts) same ∙ there) in
    a_waiting f t x (record y { released = true }) at iso (set_here ts t y (record y { released = true }) there)
    (subst (λ (v : Transfer). is_descriptor v.sort ≡ true) one sort)
    (subst (λ (v : Transfer). waits_for f v ≡ true) one waits) (subst (λ (v : Transfer). n ≡ 32 * v.first) one is))
    (λ (differs : u ≢ t). a_waiting f u x z at iso (set_there ts t u (record y { released = true }) differs ∙ in_list) sort waits is)
    (cases_eq u t)

pub buffer_follows : (slot other : ℕ → Slot) (part : Structures) (cs : List ℕ) → ((c k : ℕ) → SlotHas (slot c) k → SlotHas (other c) k)
    → HasItsBuffer slot part cs → HasItsBuffer other part cs
buffer_follows slot other part [] slots has = tt
buffer_follows slot other part (c ∷ cs) slots has = record {
  pages = has.pages;
  start = has.start;
  bytes = has.bytes;
  here = has.here;
  runs = λ j is. let inside = has.runs j is in record { at = inside.at; among = inside.among; has = slots inside.at j inside.has };
}

pub same_frame : (index first : ℕ) (b : Bool) → first ≡ frame_number index → nat_eq (frame_number index) first ≡ b
    → IsOpenAt index (if b then Since first else Seen)
same_frame index first true still is = still
same_frame index first false still is = let e : false ≡ true = sym is ∙ eq-eqb (frame_number index) first (sym still) in cc

pub open_again : (index : ℕ) (b : Boundary) → IsOpenAt index b → IsOpenAt index (after_reading index b)
open_again index Unread still = refl
open_again index (Since first) still = same_frame index first (nat_eq (frame_number index) first) still refl
open_again index Seen still = absurd still

pub removed_again : (xs : List Endpoint) (ts : List Transfer) (rs : List Removal) (index n : ℕ) → IsRemovedSince xs ts rs index n
    → IsRemovedSince xs ts (read_again index rs) index n
removed_again xs ts rs index n r = record {
  place = r.place;
  removal = read_once index r.removal;
  here = slice_get-map (read_once index) rs r.place ∙ ap (option_map (read_once index)) r.here;
  what = r.what;
  within = open_again index r.removal.boundary r.within;
}
