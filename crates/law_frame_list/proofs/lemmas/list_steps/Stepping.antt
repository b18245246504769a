-- Once a store of a command that links or unlinks members is made, the words stand for the list with what is begun next.
use Rattle.std.proofs.Common.{◌≡◌, ℕ, suc, ◌≤◌, Bool, true, false, if◌then◌else◌, List, [], ◌∷◌, length, slice_get, Option, Some, None, inl, inr, ap, refl, sym, subst, ◌∙◌, arith}
use Rattle.std.specs.Prelude.{is_none, not, ◌&&◌, nat_lt, nat_le}
use Rattle.std.proofs.lemmas.Bool.{and_parts, le-leb, false≢true}
use Rattle.law_common.proofs.Booleans.{not_on, either_if}
use Rattle.law_common.proofs.Numbers.{not_below}
use Rattle.law_driver.proofs.Common.{no_work, is_one}
use Rattle.law_frame_list.proofs.Common.{none_queued}
use Rattle.word_mem.specs.Memory.{Mem, IsShaped, word_at}
use Rattle.mem_runs.specs.Book.{holding, Stands, store}
use Rattle.drv_chains.specs.declared.members.Member.{Member}
use Rattle.drv_chains.specs.declared.members.Predecessor.TheVariants.{After}
use Rattle.drv_chains.specs.Chains.{has_name, id_of, successor}
use Rattle.drv_members.specs.Members.{is_member, is_linked, has_room, takes, with_member, frame_of}
use Rattle.drv_periodic.specs.declared.work.Store.{Store}
use Rattle.drv_periodic.specs.Periodic.{Periodic, link_to, address_of, next_store, inserting, removing, after_store}
use Rattle.drv_periodic_table.specs.Periodic.{PeriodicContent}
use Rattle.drv_periodic_table.specs.Linking.{may_link, may_unlink, linking, unlinking, begun, with_first, begun_next}
use Rattle.claims_driver.specs.FrameWords.{IsInOrder, StandFor, ListStands}
use Rattle.law_frame_words.proofs.lemmas.frame_words.Begins.{insert_stands, remove_stands}
use Rattle.law_frame_words.proofs.lemmas.frame_words.Order.{insert_in_order, remove_in_order}
use Rattle.drv_table.specs.declared.content.Endpoint.{Endpoint}
use Rattle.drv_table.specs.declared.content.Command.{Command}
use Rattle.drv_table.specs.declared.content.Command.TheVariants as unfinished
use Rattle.drv_table.specs.DriverContent.{DriverContent}
use Rattle.drv_table.specs.Parts.{Parts}
use Rattle.drv_table.specs.Rows.{driver_row, after_driver_row, row_for}
use Rattle.drv_table.specs.Commands.{next_row, command_row, link_row, events_of, links, removes_members, advance, advanced_by, or_finished, finished, no_command, leave_ring, leave_frames}
use Rattle.claims_driver.specs.Leaving.{HasOwners}
use Rattle.law_driver.specs.listed_members.Members.{IsUnderWay, IsListed}
use Rattle.law_frame_list.specs.list_stores.Storing.{IsStoredFor}
use Rattle.law_frame_list.proofs.lemmas.list_stores.Making.{each_store_of_the_list_is_made}
use Rattle.law_frame_list.specs.list_steps.Steps.{IsLinkingStep, NextLeads, IsOfInterrupt}

-- ---- what is begun next

pub record PeriodicStands (word : ℕ → ℕ) (p : Periodic) : Type 0 where
  pub order : IsInOrder p
  pub words : StandFor p word

-- its own link leads to the one that will be behind it
abbrev Leads : (ℕ → ℕ) → Periodic → Member → Type 0
Leads word p x = may_link p x ≡ true → word (address_of p.list (After x)) ≡ link_to (successor (with_member p.members.schedule x) x (frame_of x))

linking_stands : (word : ℕ → ℕ) (p : Periodic) (x : Member) → PeriodicStands word p → Leads word p x → PeriodicStands word (linking p x)
linking_stands word p x old own =
    either_if (PeriodicStands word) (may_link p x) (inserting p x) p
    (λ e.
    let both = and_parts (is_none p.work) (takes p.members x) e in
    let one = and_parts (is_member x) (not (has_name p.members.schedule (id_of x)) && has_room p.members x) both.1 in
    let new = and_parts (not (has_name p.members.schedule (id_of x))) (has_room p.members x) one.1 in
    record {
      order = insert_in_order p x old.order (is_one x one.0) (not_on (has_name p.members.schedule (id_of x)) new.0);
      words = insert_stands p x word old.order.kept (not_on (has_name p.members.schedule (id_of x)) new.0) (no_work p.work both.0) (own e) old.words;
    })
    (λ e. old)

unlinking_stands : (word : ℕ → ℕ) (p : Periodic) (x : Member) → PeriodicStands word p → PeriodicStands word (unlinking p x)
unlinking_stands word p x old =
    either_if (PeriodicStands word) (may_unlink p x) (removing p x) p
    (λ e.
    let both = and_parts (is_none p.work) (is_member x && is_linked p.members.schedule x) e in
    let one = and_parts (is_member x) (is_linked p.members.schedule x) both.1 in
    record {
      order = remove_in_order p x old.order (is_one x one.0) one.1;
      words = remove_stands p x word old.order.kept (is_one x one.0) one.1 (no_work p.work both.0) old.words;
    })
    (λ e. old)

begun_stands : (word : ℕ → ℕ) (removes : Bool) (p : Periodic) (x : Member) → PeriodicStands word p → (removes ≡ false → Leads word p x) → PeriodicStands word (begun removes p x)
begun_stands word true p x old own = unlinking_stands word p x old
begun_stands word false p x old own = linking_stands word p x old (own refl)

first_stands : (word : ℕ → ℕ) (removes : Bool) (q : PeriodicContent) (ms : List Member) → PeriodicStands word q.list → ((x : Member) (xs : List Member) → ms ≡ x ∷ xs → removes ≡ false → Leads word q.list x)
    → PeriodicStands word (with_first removes q ms).list
first_stands word removes q [] old own = old
first_stands word removes q (x ∷ xs) old own = begun_stands word removes q.list x old (own x xs refl)

pub next_stands : (word : ℕ → ℕ) (removes : Bool) (q : PeriodicContent) → PeriodicStands word q.list → ((x : Member) (xs : List Member) → q.queued ≡ x ∷ xs → removes ≡ false → Leads word q.list x)
    → PeriodicStands word (begun_next removes q).list
next_stands word removes q old own =
    either_if (λ (r : PeriodicContent). PeriodicStands word r.list) (is_none q.list.work) (with_first removes q q.queued) q (λ e. first_stands word removes q q.queued old own) (λ e. old)

-- ---- the command goes on

abbrev list_of : DriverContent → Periodic
list_of d = d.periodic.list

ring_list : (d : DriverContent) (e : ℕ) (o : Option Endpoint) → list_of (leave_ring d e o) ≡ list_of d
ring_list d e None = refl
ring_list d e (Some x) = either_if (λ (f : DriverContent). list_of f ≡ list_of d) x.linked _ d (λ on. refl) (λ on. refl)

frames_list : (d : DriverContent) (e : ℕ) (o : Option Endpoint) → list_of (leave_frames d e o) ≡ list_of d
frames_list d e None = refl
frames_list d e (Some x) = either_if (λ (f : DriverContent). list_of f ≡ list_of d) x.chained _ d (λ on. refl) (λ on. refl)

finished_list : (d : DriverContent) (c : Command) → list_of (finished d c) ≡ list_of d
finished_list d (unfinished.Unlink e b link) = ring_list (no_command d) e (slice_get d.endpoints e)
finished_list d (unfinished.Unchain e) = frames_list (no_command d) e (slice_get d.endpoints e)
finished_list d _ = refl

ended_list : (d : DriverContent) (c : Command) → list_of (or_finished d c) ≡ list_of d
ended_list d c = either_if (λ (f : DriverContent). list_of f ≡ list_of d) (is_none d.periodic.list.work) (finished d c) d (λ e. finished_list d c) (λ e. refl)

-- behind its own events each event of such a command is a store of the list
goes_by : (d : DriverContent) (c : Command) (b t : Bool) → links c ≡ true → b ≡ false → t ≡ false
    → list_of (if b then record d { made = suc d.made } else (if links c then or_finished (record d { made = length (events_of c); periodic = begun_next (removes_members c) (record d.periodic { list = if t then d.periodic.list else after_store d.periodic.list }) }) c else finished d c))
    ≡ (begun_next (removes_members c) (record d.periodic { list = after_store d.periodic.list })).list
goes_by d c b t on not_on late =
    rw (not_on, late, on) (ended_list (record d {
      made = length (events_of c);
      periodic =
          begun_next (removes_members c) (record d.periodic { list = after_store d.periodic.list });
    }) c)

pub goes_on_list : (d : DriverContent) (c : Command) → d.command ≡ Some c → links c ≡ true → length (events_of c) ≤ d.made
    → list_of (advance d) ≡ (begun_next (removes_members c) (record d.periodic { list = after_store d.periodic.list })).list
goes_on_list d c is on late =
    ap (λ (o : Option Command). list_of (advanced_by d o)) is
    ∙ goes_by d c (nat_lt (suc d.made) (length (events_of c))) (nat_lt d.made (length (events_of c))) on (not_below (suc d.made) (length (events_of c)) (omega (arith, late))) (not_below d.made (length (events_of c)) late)

-- ---- the event

stands_from : (m : Mem) (d : DriverContent) (p : Periodic) → list_of d ≡ p → PeriodicStands (word_at m) p → ListStands m d
stands_from m d p is s = record {
  order = subst IsInOrder (sym is) s.order;
  words = subst (λ (x : Periodic). StandFor x (word_at m)) (sym is) s.words;
}

pub stored_stands : (p : Parts) (c : Command) (s : Store) → IsLinkingStep p c → IsStoredFor p.memory p.driver s → next_store p.driver.periodic.list ≡ Some s → (removes_members c ≡ false → NextLeads p)
    → ListStands (store p.driver.book p.memory s.block s.at s.value) (advance p.driver)
stored_stands p c s step stored is own =
    let m : Mem = store p.driver.book p.memory s.block s.at s.value in
    stands_from m (advance p.driver) (begun_next (removes_members c) (record p.driver.periodic { list = after_store p.driver.periodic.list })).list
    (goes_on_list p.driver c step.unfinished step.links step.late)
    (next_stands (word_at m) (removes_members c) (record p.driver.periodic { list = after_store p.driver.periodic.list }) (record { order = stored.order; words = stored.words })
    (λ x xs queued removes may. own removes s x xs is queued may))

row_is : (d : DriverContent) (c : Command) → links c ≡ true → length (events_of c) ≤ d.made → next_row d c ≡ link_row (next_store d.periodic.list)
row_is d c on late = by (links c) (nat_le (length (events_of c)) d.made) on (le-leb (length (events_of c)) d.made late)
  where
    by : (a b : Bool) → a ≡ true → b ≡ true → (if a && b then link_row (next_store d.periodic.list) else command_row c d.made) ≡ link_row (next_store d.periodic.list)
    by true true one two = refl
    by false b one two = absurd (false≢true one)
    by true false one two = absurd (false≢true two)

by_store : (p : Parts) (c : Command) (o : Option Store) → next_store p.driver.periodic.list ≡ o → IsLinkingStep p c → Stands (holding p.driver.book p.memory) → IsShaped p.memory → HasOwners p.driver → IsListed p.driver
    → ListStands p.memory p.driver → (removes_members c ≡ false → NextLeads p) → ListStands (after_driver_row (link_row o) p).memory (after_driver_row (link_row o) p).driver
by_store p c None is step stands shape has listed old own = old
by_store p c (Some s) is step stands shape has listed old own = stored_stands p c s step (each_store_of_the_list_is_made p.driver p.memory s stands shape has listed old is) is own

pub a_step_keeps_the_list_standing : (p : Parts) (c : Command) → IsLinkingStep p c → Stands (holding p.driver.book p.memory) → IsShaped p.memory → HasOwners p.driver → IsListed p.driver → ListStands p.memory p.driver
    → (removes_members c ≡ false → NextLeads p) → ListStands (after_driver_row (driver_row p) p).memory (after_driver_row (driver_row p) p).driver
a_step_keeps_the_list_standing p c step stands shape has listed old own =
    subst (λ r. ListStands (after_driver_row r p).memory (after_driver_row r p).driver)
    (sym (ap (row_for p) step.unfinished ∙ row_is p.driver c step.links step.late))
    (by_store p c (next_store p.driver.periodic.list) refl step stands shape has listed old own)

-- ---- of interrupt endpoints

chain_leads : (p : Parts) → p.driver.command ≡ Some unfinished.Chain → IsListed p.driver → NextLeads p
chain_leads p is listed s x xs stored queued may =
    let way : IsUnderWay p.driver (Some unfinished.Chain) = subst (IsUnderWay p.driver) is listed.way in
    absurd (none_queued x xs (sym way.1 ∙ queued))

own_leads : (p : Parts) (c : Command) → IsLinkingStep p c → IsListed p.driver → IsOfInterrupt c → removes_members c ≡ false → NextLeads p
own_leads p c step listed (inl chain) keeps = chain_leads p (step.unfinished ∙ ap Some chain) listed
own_leads p c step listed (inr unchain) keeps = absurd (false≢true (sym keeps ∙ ap removes_members unchain.1))

pub steps_of_interrupt_endpoints_keep_it_standing : (p : Parts) (c : Command) → IsLinkingStep p c → IsOfInterrupt c → Stands (holding p.driver.book p.memory) → IsShaped p.memory → HasOwners p.driver → IsListed p.driver → ListStands p.memory p.driver
    → ListStands (after_driver_row (driver_row p) p).memory (after_driver_row (driver_row p) p).driver
steps_of_interrupt_endpoints_keep_it_standing p c step of stands shape has listed old = a_step_keeps_the_list_standing p c step stands shape has listed old (own_leads p c step listed of)
