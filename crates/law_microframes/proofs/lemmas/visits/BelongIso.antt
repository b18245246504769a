-- A command with isochronous descriptors writes each iTD with the fields of its endpoint, and leaves those that there were.
use Rattle.std.proofs.Common.{◌≡◌, ◌≢◌, ℕ, zero, suc, ◌+◌, ◌*◌, ◌%◌, ◌<◌, ◌≤◌, Bool, true, false, cond, List, [], ◌∷◌, ◌++◌, length, drop, get_or, set, slice_get, Option, Some, None, Result, Ok, Err, option_map, ap, refl, sym, subst, ◌∙◌, ⊎_elim, inl, inr, arith, if◌then◌else◌}
use Rattle.std.specs.Prelude.{◌⊎◌, ◌||◌, not, is_some, unwrap_or, option_and_then, count_by, IfOk}
use Rattle.std.proofs.lemmas.Bool.{true≢false, false≢true}
use Rattle.std.proofs.lemmas.Option.{same_Some, get_or_from_slice_get}
use Rattle.std.proofs.lemmas.Result.{IfOk-at_ok}
use Rattle.std.specs.List.{position}
use Rattle.std.proofs.lemmas.List.{get_or-set_same, get_or-drop, length-append, length-drop, length-set}
use Rattle.std.proofs.lemmas.List.Quantifiers.{position-Some}
use Rattle.law_admission.proofs.Common.{or_else}
use Rattle.law_driver.proofs.Common.{blocks_run, drop_old}
use Rattle.law_common.proofs.Lists.{drop_first}
use Rattle.usb_base.specs.declared.commands.Cmd.TheVariants as commands
use Rattle.usb_base.specs.declared.endpoints.EpName.{EpName}
use Rattle.usb_base.specs.declared.endpoints.EpDesc.{EpDesc}
use Rattle.usb_base.specs.declared.endpoints.EndCause.{EndCause}
use Rattle.usb_base.specs.declared.packets.Speed.{Speed}
use Rattle.usb_base.specs.declared.packets.Speed.TheVariants as speeds
use Rattle.usb_base.specs.declared.reports.OfferError.{OfferError}
use Rattle.usb_base.specs.declared.reports.OfferError.TheVariants as errors
use Rattle.word_mem.specs.Memory.{Mem}
use Rattle.word_mem.specs.Views.{words_at}
use Rattle.mem_runs.specs.declared.slots.Slot.{Slot}
use Rattle.mem_runs.specs.declared.slots.Slot.TheVariants as slots
use Rattle.mem_runs.specs.Book.{Book, Holding, holding, slot_of}
use Rattle.mem_runs.proofs.Standing.{keeps_within, lends_within}
use Rattle.itd_sitd.specs.declared.slot.ItdSlot.{ItdSlot}
use Rattle.itd_sitd.specs.Slot.{slot_rows, slot_at, no_slot}
use Rattle.itd_sitd.specs.Itd.{slot_of as microframe_of, itd_at, itd_words}
use Rattle.itd_sitd.specs.Sitd.{sitd_words}
use Rattle.link_words.specs.Layout.{word_of}
use Rattle.bandwidth.specs.Placements.{has, is_classic}
use Rattle.bandwidth.specs.declared.placements.Placement.{Placement}
use Rattle.drv_periodic_table.specs.declared.content.DescriptorNote.{DescriptorNote}
use Rattle.drv_periodic_table.specs.Periodic.{note_at, no_descriptor}
use Rattle.drv_periodic_table.specs.Descriptors.{new_itd, new_sitd, active_slot, slots_before, descriptor_words}
use Rattle.drv_table.specs.declared.content.Endpoint.{Endpoint}
use Rattle.drv_table.specs.declared.content.Slots.{Slots}
use Rattle.drv_table.specs.declared.content.Transfer.{Transfer}
use Rattle.drv_table.specs.declared.content.Command.{Command}
use Rattle.drv_table.specs.DriverContent.{DriverContent, is_same_name, endpoint_of, endpoint_named, waits_for}
use Rattle.drv_table.specs.Words.{buffer_needs}
use Rattle.drv_table.specs.Kinds.{is_iso}
use Rattle.drv_table.specs.Accepting.{Offered, take_runs, new_runs}
use Rattle.drv_table.specs.IsoOffers.{Descriptors, offered_iso, open_iso, taken_iso, iso_needs, slots_of, slot_runs, total_of, spans_too_long, has_slots, descriptor_note, descriptor_transfer, one_descriptor, all_descriptors, entered_iso, smask_of}
use Rattle.drv_table.specs.Offers.{offered, offered_next}
use Rattle.claims_driver.specs.Owners.{HasRun, is_descriptor, runs_of_transfer}
use Rattle.law_driver.specs.in_place.InPlace.{IsInPlace}
use Rattle.law_driver_ring.proofs.Lists.{IsOneOf}
use Rattle.law_driver.proofs.lemmas.run_owners.Taking.{AreTaken, runs_taken, run_some}
use Rattle.law_driver.specs.run_owners.Accepts.{Accepts}
use Rattle.law_driver.proofs.lemmas.run_owners.Runs.{placed_run}
use Rattle.law_descriptors.specs.Written.{HasFields, words_in as words_of_descriptor}
use Rattle.law_descriptors.proofs.Accepted.{made, all_transfers, notes_other}
use Rattle.law_world.specs.memory.framed_memory.Isochronous.{AwaitsLend, AreAwaiting}
use Rattle.law_microframes.specs.visits.DescriptorFields.{itd_in, HaveItdFields, IsServed, ItdsStand}
use Rattle.law_microframes.proofs.lemmas.visits.BelongSeen.{Seen, seen_in, IsSeenIn, seen_set, seen_there}
use Rattle.law_world.proofs.lemmas.memory.LeavesLent.{leaves_lent}
use Rattle.law_microframes.proofs.lemmas.visits.BelongItdCommands.{old_stays}

-- ---- what was accepted

pub record IsIsoAccepted (d : DriverContent) (m : Mem) (o : Offered) : Type 0 where
  pub number : ℕ
  pub endpoint : Endpoint
  pub len : ℕ
  pub count : ℕ
  pub seed : ℕ
  pub after : Holding
  pub idle : d.command ≡ None
  pub here : slice_get d.endpoints number ≡ Some endpoint
  pub iso : is_iso endpoint.desc.kind ≡ true
  pub goes_on : endpoint.ended ≡ None
  pub runs : take_runs (holding d.book m) (iso_needs (slots_of endpoint len) count) ≡ Ok after
  pub is : o ≡ entered_iso d number endpoint count (total_of (slots_of endpoint len)) after.book
      (all_descriptors after.book number endpoint.desc (slots_of endpoint len) count seed (new_runs d after) (record { notes = d.periodic.notes; transfers = d.transfers; memory = after.memory }))

-- .. at the endpoint of this name, with this many bytes in a slot
pub record IsIsoOf (d : DriverContent) (m : Mem) (name : EpName) (len : ℕ) (o : Offered) : Type 0 where
  pub accepted : IsIsoAccepted d m o
  pub named : is_same_name accepted.endpoint.desc.name name ≡ true
  pub same : accepted.len ≡ len

module _ (d : DriverContent) (m : Mem) (idle : d.command ≡ None) (name : EpName) where
  iso_taken : (e : ℕ) (x : Endpoint) (len n seed : ℕ) (r : Result Holding OfferError) → slice_get d.endpoints e ≡ Some x
      → is_same_name x.desc.name name ≡ true → is_iso x.desc.kind ≡ true → x.ended ≡ None
      → take_runs (holding d.book m) (iso_needs (slots_of x len) n) ≡ r
      → IfOk (taken_iso d e x (slots_of x len) n seed r) (IsIsoOf d m name len)
  iso_taken e x len n seed (Err why) here named iso goes is = tt
  iso_taken e x len n seed (Ok h) here named iso goes is = record {
    accepted = record {
      number = e;
      endpoint = x;
      len = len;
      count = n;
      seed = seed;
      after = h;
      idle = idle;
      here = here;
      iso =
          iso;
      goes_on = goes;
      runs = is;
      is = refl;
    };
    named = named;
    same = refl;
  }

  iso_ended : (e : ℕ) (x : Endpoint) (len n seed : ℕ) (c : Option EndCause) → slice_get d.endpoints e ≡ Some x
      → is_same_name x.desc.name name ≡ true → is_iso x.desc.kind ≡ true → x.ended ≡ c
      → IfOk (open_iso d m e x (slots_of x len) n seed c) (IsIsoOf d m name len)
  iso_ended e x len n seed (Some cause) here named iso goes = tt
  iso_ended e x len n seed None here named iso goes =
      or_else (IsIsoOf d m name len) (spans_too_long x (n + count_by (waits_for e) d.transfers) || not (has_slots x (slots_of x len)))
      (Err errors.TooLong)
      (taken_iso d e x (slots_of x len) n seed (take_runs (holding d.book m) (iso_needs (slots_of x len) n))) tt
      (iso_taken e x len n seed (take_runs (holding d.book m) (iso_needs (slots_of x len) n)) here named iso goes refl)

  iso_kind : (e n len seed : ℕ) (x : Endpoint) (b : Bool) → is_iso x.desc.kind ≡ b → slice_get d.endpoints e ≡ Some x
      → is_same_name x.desc.name name ≡ true
      → IfOk (if b then open_iso d m e x (slots_of x len) n seed x.ended else Err errors.NoEndpoint) (IsIsoOf d m name len)
  iso_kind e n len seed x true iso here named = iso_ended e x len n seed x.ended here named iso refl
  iso_kind e n len seed x false iso here named = tt

  iso_found : (e n len seed : ℕ) (q : Option Endpoint)
      → ((x : Endpoint) → q ≡ Some x → (slice_get d.endpoints e ≡ Some x) × (is_same_name x.desc.name name ≡ true))
      → IfOk (offered_iso d m e n len seed q) (IsIsoOf d m name len)
  iso_found e n len seed None here = tt
  iso_found e n len seed (Some x) here = let at = here x refl in iso_kind e n len seed x (is_iso x.desc.kind) refl at.0 at.1

-- the endpoint of a name stands at its number, and has the name
there_by : (xs : List Endpoint) (name : EpName) (o : Option ℕ) (x : Endpoint)
    → position (λ (e : Endpoint). is_same_name e.desc.name name) xs ≡ o → option_and_then (λ e. slice_get xs e) o ≡ Some x
    → (slice_get xs (unwrap_or o 0) ≡ Some x) × (is_same_name x.desc.name name ≡ true)
there_by xs name None x at e = absurd (cc)
there_by xs name (Some k) x at e = (
  e,
  ap (λ (z : Endpoint). is_same_name z.desc.name name) (sym (get_or_from_slice_get xs k x x e))
      ∙ (position-Some (λ (z : Endpoint). is_same_name z.desc.name name) xs k x at).1,
)

pub is_iso_of : (d : DriverContent) (m : Mem) (name : EpName) (n len seed : ℕ) (o : Offered)
    → offered d m (commands.Iso name n len seed) ≡ Ok o → IsIsoOf d m name len o
is_iso_of d m name n len seed o is = IfOk-at_ok (IsIsoOf d m name len) is (by d.command refl)
  where
    by : (c : Option Command) → d.command ≡ c
        → IfOk (cond (is_some c) (Err errors.Busy) (offered_next d m (commands.Iso name n len seed))) (IsIsoOf d m name len)
    by (Some c) idle = tt
    by None idle = iso_found d m idle name (unwrap_or (endpoint_of d name) 0) n len seed (endpoint_named d name)
        (λ x e. there_by d.endpoints name (endpoint_of d name) x refl e)

pub is_iso_accepted : (d : DriverContent) (m : Mem) (name : EpName) (n len seed : ℕ) (o : Offered)
    → offered d m (commands.Iso name n len seed) ≡ Ok o → IsIsoAccepted d m o
is_iso_accepted d m name n len seed o is = (is_iso_of d m name n len seed o is).accepted

-- ---- what is noted of the new ones

abbrev pub Noted : Slots → DescriptorNote → Type 0
Noted s note = (note.smask ≡ s.smask) × (note.split ≡ s.split) × (note.cmask ≡ s.cmask) × (note.slot ≡ s.slot)

module _ (k : Book) (e : ℕ) (x : EpDesc) (s : Slots) where
  abbrev All : ℕ → ℕ → List ℕ → Descriptors → Descriptors
  All n seed rs a = all_descriptors k e x s n seed rs a

  set_noted : (notes : List DescriptorNote) (b c : ℕ) (note : DescriptorNote) → Noted s note → Noted s (note_at notes c) → Noted s (note_at (set notes b note) c)
  set_noted [] b c note new old = old
  set_noted (v ∷ vs) zero zero note new old = new
  set_noted (v ∷ vs) zero (suc c) note new old = old
  set_noted (v ∷ vs) (suc b) zero note new old = old
  set_noted (v ∷ vs) (suc b) (suc c) note new old = set_noted vs b c note new old

  stays_noted : (n seed : ℕ) (rs : List ℕ) (a : Descriptors) (c : ℕ) → Noted s (note_at a.notes c) → Noted s (note_at (All n seed rs a).notes c)
  unfolding all_descriptors
  stays_noted zero seed rs a c old = old
  stays_noted (suc n) seed rs a c old =
      stays_noted n ((seed + total_of s) % 256) (drop (suc (slot_runs s)) rs) (one_descriptor k e x s seed rs a) c
      (set_noted a.notes (get_or rs 0 0) c (descriptor_note s (drop 1 rs)) (refl, refl, refl, refl) old)

  new_noted : (n seed : ℕ) (rs : List ℕ) (a : Descriptors) (i : ℕ) (y : Transfer) → length (iso_needs s n) ≤ length rs → ((j : ℕ) → j < length rs → get_or rs j 0 < length a.notes)
      → slice_get (made e s n rs) i ≡ Some y → Noted s (note_at (All n seed rs a).notes y.first)
  unfolding all_descriptors
  new_noted zero seed rs a i y enough within there = absurd (cc)
  new_noted (suc n) seed rs a zero y enough within there =
      let b = get_or rs 0 0 in
      let note = descriptor_note s (drop 1 rs) in
      let same : note_at (set a.notes b note) b ≡ note = get_or-set_same a.notes b note no_descriptor (within 0 (omega (arith, enough))) in
      subst (λ (t : Transfer). Noted s (note_at (All n ((seed + total_of s) % 256) (drop (suc (slot_runs s)) rs) (one_descriptor k e x s seed rs a)).notes t.first)) (same_Some (descriptor_transfer e s b) y there)
      (stays_noted n ((seed + total_of s) % 256) (drop (suc (slot_runs s)) rs) (one_descriptor k e x s seed rs a) b
      (subst (Noted s) (sym same) (refl, refl, refl, refl)))
  new_noted (suc n) seed rs a (suc i) y enough within there =
      let long = length-append (buffer_needs (total_of s)) (iso_needs s n) in
      let left = length-drop (suc (slot_runs s)) rs in
      let many = length-set a.notes (get_or rs 0 0) (descriptor_note s (drop 1 rs)) in
      new_noted n ((seed + total_of s) % 256) (drop (suc (slot_runs s)) rs) (one_descriptor k e x s seed rs a) i y (omega (arith, enough, long, left))
      (λ j below.
      let w = within (suc (slot_runs s) + j) (omega (arith, below, left)) in
      let at = get_or-drop (suc (slot_runs s)) rs j 0 in
      omega (arith, w, at, many)) there

-- ---- the words of a new one

active_by : (s : ItdSlot) → Bool
active_by s = (slot_at (word_of slot_rows s)).active

pick : (b : Bool) (s : ItdSlot) → active_by (if b then s else no_slot) ≡ true → b ≡ true
unfolding active_by slot_at
pick true s on = refl
pick false s on = absurd (false≢true on)

own_of : (x : EpDesc) (smask slot : ℕ) (runs : List ℕ) (u : ℕ) → u < 8 → (microframe_of u (itd_at (itd_words (new_itd x smask slot runs)))).active ≡ true → has smask u ≡ true
unfolding active_by itd_at itd_words
own_of x smask slot runs zero small on = pick (has smask 0) (active_slot slot runs (slots_before smask 0 * slot)) on
own_of x smask slot runs (suc zero) small on = pick (has smask 1) (active_slot slot runs (slots_before smask 1 * slot)) on
own_of x smask slot runs (suc (suc zero)) small on = pick (has smask 2) (active_slot slot runs (slots_before smask 2 * slot)) on
own_of x smask slot runs (suc (suc (suc zero))) small on = pick (has smask 3) (active_slot slot runs (slots_before smask 3 * slot)) on
own_of x smask slot runs (suc (suc (suc (suc zero)))) small on = pick (has smask 4) (active_slot slot runs (slots_before smask 4 * slot)) on
own_of x smask slot runs (suc (suc (suc (suc (suc zero))))) small on = pick (has smask 5) (active_slot slot runs (slots_before smask 5 * slot)) on
own_of x smask slot runs (suc (suc (suc (suc (suc (suc zero)))))) small on = pick (has smask 6) (active_slot slot runs (slots_before smask 6 * slot)) on
own_of x smask slot runs (suc (suc (suc (suc (suc (suc (suc zero))))))) small on = pick (has smask 7) (active_slot slot runs (slots_before smask 7 * slot)) on
own_of x smask slot runs (suc (suc (suc (suc (suc (suc (suc (suc u)))))))) small on = absurd (omega (arith, small))

max_of : (x : EpDesc) (smask slot : ℕ) (runs : List ℕ) → x.max ≤ 1024 → (itd_at (itd_words (new_itd x smask slot runs))).max ≡ x.max
unfolding itd_at itd_words
max_of x smask slot runs few = omega (arith, few)

multi_of : (x : EpDesc) (smask slot : ℕ) (runs : List ℕ) → x.multi ≤ 3 → (itd_at (itd_words (new_itd x smask slot runs))).multi ≡ x.multi
unfolding itd_at itd_words
multi_of x smask slot runs few = omega (arith, few)

high_of : (v : Speed) → is_classic v ≡ false → v ≡ speeds.High
high_of speeds.High is = refl
high_of _ is = absurd (true≢false is)

-- its words are those of a new iTD
await_words : (x : EpDesc) (note : DescriptorNote) (m : Mem) (b : ℕ) → note.split ≡ false → words_at m (32 * b) (words_of_descriptor note.split) ≡ descriptor_words x note
    → itd_in m b ≡ itd_at (itd_words (new_itd x note.smask note.slot note.buffer))
await_words x note m b split words =
    ap itd_at
    (ap (λ (c : Bool). words_at m (32 * b) (words_of_descriptor c)) (sym split) ∙ words
    ∙ ap (λ (c : Bool). if c then sitd_words (new_sitd x note.smask note.cmask note.slot note.buffer) else itd_words (new_itd x note.smask note.slot note.buffer)) split)

-- ---- lists

pub record IsLater (ys : List Transfer) (z : Transfer) : Type 0 where
  pub index : ℕ
  pub there : slice_get ys index ≡ Some z

pub which : (xs ys : List Transfer) (t : ℕ) (z : Transfer) → slice_get (xs ++ ys) t ≡ Some z → (slice_get xs t ≡ Some z) ⊎ IsLater ys z
which [] ys t z there = inr (record { index = t; there = there })
which (x ∷ xs) ys zero z there = inl there
which (x ∷ xs) ys (suc t) z there = which xs ys t z there

pub made_is : (e : ℕ) (s : Slots) (n : ℕ) (rs : List ℕ) (i : ℕ) (y : Transfer) → slice_get (made e s n rs) i ≡ Some y → (y.endpoint ≡ e) × (y.reported ≡ false)
made_is e s zero rs i y there = absurd (cc)
made_is e s (suc n) rs zero y there = subst (λ (t : Transfer). (t.endpoint ≡ e) × (t.reported ≡ false)) (same_Some (descriptor_transfer e s (get_or rs 0 0)) y there) (refl, refl)
made_is e s (suc n) rs (suc i) y there = made_is e s n (drop (suc (slot_runs s)) rs) i y there

none_of : (c : ℕ) (bs : List ℕ) → ((i : ℕ) → i < length bs → c ≢ get_or bs i 0) → IsOneOf c bs → ⊥
none_of c [] not one = one
none_of c (b ∷ bs) not (inl same) = not 0 (omega arith) same
none_of c (b ∷ bs) not (inr later) = none_of c bs (λ i below. not (suc i) (omega (arith, below))) later

slot_below : (ss : List Slot) (b : ℕ) (c : Slot) → slot_of ss b ≡ c → HasRun c → b < length ss
slot_below ss b slots.Empty is run = absurd run
slot_below ss b (slots.Keeps r) is run = keeps_within ss b r is
slot_below ss b (slots.Lends r) is run = lends_within ss b r is

-- ---- by the runs that it takes

pub record IsByRuns (d : DriverContent) (m : Mem) (o : Offered) (k : IsIsoAccepted d m o) (bs : List ℕ) : Type 0 where
  pub taken : AreTaken (holding d.book m) k.after (iso_needs (slots_of k.endpoint k.len) k.count) bs
  pub is : o ≡ entered_iso d k.number k.endpoint k.count (total_of (slots_of k.endpoint k.len)) k.after.book
      (all_descriptors k.after.book k.number k.endpoint.desc (slots_of k.endpoint k.len) k.count k.seed bs (record { notes = d.periodic.notes; transfers = d.transfers; memory = k.after.memory }))

module _ (d : DriverContent) (m : Mem) (o : Offered) (place : IsInPlace m d) (k : IsIsoAccepted d m o) where
  abbrev s : Slots
  s = slots_of k.endpoint k.len

  module _ (bs : List ℕ) (by : IsByRuns d m o k bs) where
    abbrev first : Descriptors
    first = record { notes = d.periodic.notes; transfers = d.transfers; memory = k.after.memory }

    enough : length (iso_needs (slots_of k.endpoint k.len) k.count) ≤ length bs
    enough = let long = by.taken.long in omega (arith, long)

    pub transfer_there : (t : ℕ) (z : Transfer) → slice_get o.driver.transfers t ≡ Some z → (slice_get d.transfers t ≡ Some z) ⊎ IsLater (made k.number (slots_of k.endpoint k.len) k.count bs) z
    transfer_there t z there =
        which d.transfers (made k.number s k.count bs) t z
        (ap (λ (ts : List Transfer). slice_get ts t) (sym (all_transfers k.after.book k.number k.endpoint.desc s k.count k.seed bs first)) ∙ ap (λ (g : Offered). slice_get g.driver.transfers t) (sym by.is) ∙ there)

    note_is : (c : ℕ) → note_at o.driver.periodic.notes c ≡ note_at (all_descriptors k.after.book k.number k.endpoint.desc (slots_of k.endpoint k.len) k.count k.seed bs (record { notes = d.periodic.notes; transfers = d.transfers; memory = k.after.memory })).notes c
    note_is c = ap (λ (g : Offered). note_at g.driver.periodic.notes c) by.is

    pub note_was : (t : ℕ) (z : Transfer) → slice_get d.transfers t ≡ Some z → is_descriptor z.sort ≡ true → z.released ≡ false → note_at o.driver.periodic.notes z.first ≡ note_at d.periodic.notes z.first
    note_was t z there sort held =
        let run : HasRun (slot_of d.book.slots z.first) = placed_run z.first _ (place.sound.owners.owned.each.described t (runs_of_transfer z) (ap (option_map runs_of_transfer) there) sort held).descriptor in
        note_is z.first
        ∙ notes_other k.after.book k.number k.endpoint.desc s k.count k.seed bs first z.first enough
        (none_of z.first bs (λ i below same. run_some (slot_of d.book.slots z.first) run (ap (slot_of d.book.slots) same ∙ by.taken.fresh i below)))

    pub noted : (z : Transfer) → IsLater (made k.number (slots_of k.endpoint k.len) k.count bs) z → Noted (slots_of k.endpoint k.len) (note_at o.driver.periodic.notes z.first)
    noted z new =
        subst (Noted s) (sym (note_is z.first))
        (new_noted k.after.book k.number k.endpoint.desc s k.count k.seed bs first new.index z enough
        (λ j below.
        let b = get_or bs j 0 in
        let inside = slot_below k.after.book.slots b (slot_of k.after.book.slots b) refl (blocks_run _ (slot_of k.after.book.slots b) (by.taken.new j below)) in
        let many = by.taken.many in
        let as_many = place.sound.owners.owned.as_many in
        omega (arith, inside, many, as_many)) new.there)

  pub by_runs : IsByRuns d m o k (runs_taken (holding d.book m) k.after (iso_needs (slots_of k.endpoint k.len) k.count) place.sound.stands k.runs).blocks
  by_runs =
      let all = runs_taken (holding d.book m) k.after (iso_needs s k.count) place.sound.stands k.runs in
      let new : new_runs d k.after ≡ all.blocks = ap (drop (length d.book.taken)) all.are.taken ∙ drop_first d.book.taken all.blocks in
      record {
        taken = all.are;
        is = k.is
            ∙ ap (λ (rs : List ℕ). entered_iso d k.number k.endpoint k.count (total_of (slots_of k.endpoint k.len)) k.after.book
            (all_descriptors k.after.book k.number k.endpoint.desc (slots_of k.endpoint k.len) k.count k.seed rs (record { notes = d.periodic.notes; transfers = d.transfers; memory = k.after.memory }))) new;
      }

-- ---- they stand

module _ (d : DriverContent) (m : Mem) (o : Offered) (place : IsInPlace m d) (reason : Accepts d m o) (old : ItdsStand d m) (k : IsIsoAccepted d m o)
    (awaits : AreAwaiting o.driver o.memory) where
  abbrev e : ℕ
  e = k.number

  abbrev x : Endpoint
  x = k.endpoint

  abbrev n : ℕ
  n = k.count

  module _ (bs : List ℕ) (by : IsByRuns d m o k bs) where
    endpoint_there : (i : ℕ) (v : Endpoint) → slice_get o.driver.endpoints i ≡ Some v → IsSeenIn d.endpoints i v
    endpoint_there i v there =
        seen_there o.driver.endpoints d.endpoints i v (sym (ap (λ (g : Offered). seen_in g.driver.endpoints i) by.is ∙ seen_set d.endpoints e i x _ k.here refl)) there

    -- ---- one that was there

    module _ (t : ℕ) (z : Transfer) (there : slice_get d.transfers t ≡ Some z) (sort : is_descriptor z.sort ≡ true) (held : z.released ≡ false) where
      split_was : (note_at o.driver.periodic.notes z.first).split ≡ false → (note_at d.periodic.notes z.first).split ≡ false
      split_was split = ap (λ (v : DescriptorNote). v.split) (sym (note_was d m o place k bs by t z there sort held)) ∙ split

      itd_was : (note_at o.driver.periodic.notes z.first).split ≡ false → itd_in o.memory z.first ≡ itd_in m z.first
      itd_was split = old_stays d m o.memory t z place k.idle (leaves_lent d m o reason place) there sort held (split_was split)

    -- ---- a new one

    module _ (t : ℕ) (z : Transfer) (new : IsLater (made k.number (slots_of k.endpoint k.len) k.count bs) z) (split : (note_at o.driver.periodic.notes z.first).split ≡ false) where
      awaited : AwaitsLend o.driver o.memory k.number (length d.transfers)
      awaited =
          let none : o.driver.made ≡ 0 = ap (λ (g : Offered). g.driver.made) by.is in
          awaits e (length d.transfers) n (ap (λ (g : Offered). g.driver.command) by.is) (omega (arith, none))

      dropped : slice_get (drop (length d.transfers) o.driver.transfers) new.index ≡ Some z
      dropped =
          ap (λ (g : Offered). slice_get (drop (length d.transfers) g.driver.transfers) new.index) by.is
          ∙ ap (λ (ts : List Transfer). slice_get (drop (length d.transfers) ts) new.index) (all_transfers k.after.book e x.desc (s d m o place k) n k.seed bs (first d m o place k bs by))
          ∙ ap (λ (ts : List Transfer). slice_get ts new.index) (drop_old d.transfers (made e (s d m o place k) n bs)) ∙ new.there

      new_fields : (v : Endpoint) (p : Placement) → slice_get o.driver.endpoints z.endpoint ≡ Some v → v.placement ≡ Some p → HaveItdFields (itd_in o.memory z.first) v.desc p
      new_fields v p here placed =
          let a = awaited in
          let note = note_at o.driver.periodic.notes z.first in
          let at_e : z.endpoint ≡ e = (made_is e (s d m o place k) n bs new.index z new.there).0 in
          let here_e : slice_get o.driver.endpoints e ≡ Some v = ap (slice_get o.driver.endpoints) (sym at_e) ∙ here in
          let same : a.endpoint ≡ v = same_Some a.endpoint v (sym a.here ∙ here_e) in
          let of : IsSeenIn d.endpoints e v = endpoint_there e v here_e in
          let was : of.endpoint ≡ x = same_Some of.endpoint x (sym of.here ∙ k.here) in
          let placed_x : x.placement ≡ Some p = ap (λ (c : Endpoint). c.placement) (sym was) ∙ ap (λ (c : Seen). c.placement) of.same ∙ placed in
          let its = await_words a.endpoint.desc note o.memory z.first split (a.await.each new.index z dropped).written.words in
          let its_v = subst (λ (c : Endpoint). itd_in o.memory z.first ≡ itd_at (itd_words (new_itd c.desc note.smask note.slot note.buffer))) same its in
          let fields = subst (λ (c : Endpoint). HasFields c.desc) same a.await.fields in
          let classic : is_classic x.desc.speed ≡ false = sym (noted d m o place k bs by z new).1 ∙ split in
          record {
            speed = high_of v.desc.speed (ap (λ (c : Seen). is_classic c.desc.speed) (sym of.same) ∙ ap (λ (c : Endpoint). is_classic c.desc.speed) was ∙ classic);
            longest = ap (λ c. c.max) its_v ∙ max_of v.desc note.smask note.slot note.buffer fields.max;
            multi = ap (λ c. c.multi) its_v ∙ multi_of v.desc note.smask note.slot note.buffer fields.multi_most;
            own = λ u small on.
                subst (λ (mask : ℕ). has mask u ≡ true) ((noted d m o place k bs by z new).0 ∙ ap smask_of placed_x)
                (own_of v.desc note.smask note.slot note.buffer u small (ap (λ c. (microframe_of u c).active) (sym its_v) ∙ on));
          }

    iso_stand : ItdsStand o.driver o.memory
    iso_stand = record {
      fields = λ t z v p there sort held split here placed.
          ⊎_elim {C = HaveItdFields (itd_in o.memory z.first) v.desc p}
          (λ (was : slice_get d.transfers t ≡ Some z).
          let of : IsSeenIn d.endpoints z.endpoint v = endpoint_there z.endpoint v here in
          let h = old.fields t z of.endpoint p was sort held (split_was t z was sort held split) of.here (ap (λ (c : Seen). c.placement) of.same ∙ placed) in
          subst (λ c. HaveItdFields c v.desc p) (sym (itd_was t z was sort held split)) (subst (λ (y : EpDesc). HaveItdFields (itd_in m z.first) y p) (ap (λ (c : Seen). c.desc) of.same) h))
          (λ (new : IsLater (made k.number (slots_of k.endpoint k.len) k.count bs) z). new_fields t z new split v p here placed) (transfer_there d m o place k bs by t z there);
      served = λ t z there sort reported held split.
          ⊎_elim {C = IsServed (itd_in o.memory z.first)}
          (λ (was : slice_get d.transfers t ≡ Some z). subst IsServed (sym (itd_was t z was sort held split)) (old.served t z was sort reported held (split_was t z was sort held split)))
          (λ (new : IsLater (made k.number (slots_of k.endpoint k.len) k.count bs) z).
          absurd (true≢false (sym reported ∙ (made_is e (s d m o place k) n bs new.index z new.there).1))) (transfer_there d m o place k bs by t z there);
    }

  pub iso_keeps : ItdsStand o.driver o.memory
  iso_keeps = iso_stand _ (by_runs d m o place k)
