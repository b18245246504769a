-- The descriptors of a frame are due in it, and no two that wait are of one endpoint.
use Rattle.std.proofs.Common.{◌≡◌, ◌≢◌, ℕ, zero, suc, ◌+◌, ◌-◌, ◌<◌, ◌≤◌, ◌&&◌, not, Bool, true, false, cond, nat_lt, nat_le, List, [], ◌∷◌, length, map, slice_get, Option, Some, None, Ok, option_map, refl, ap, sym, subst, ◌∙◌, ⊎_elim, arith, inl, inr, length-append}
use Rattle.std.specs.Prelude.{◌⊎◌, nat_eq, filter, is_some}
use Rattle.std.specs.List.{AllByRecursion}
use Rattle.std.proofs.lemmas.Bool.{false≢true, cases_eq, cases_lt, eqb-true, and_parts}
use Rattle.std.proofs.lemmas.List.{length-map}
use Rattle.std.proofs.lemmas.Option.{same_Some, slice_get_within}
use Rattle.std.proofs.Math.Nat.{mul-le-mul_right}
use Rattle.law_driver.proofs.Common.{once_is, iso_frames}
use Rattle.law_common.proofs.Booleans.{or_none}
use Rattle.usb_base.specs.declared.commands.Cmd.{Cmd}
use Rattle.word_mem.specs.Memory.{Mem}
use Rattle.mem_runs.specs.Book.{holding, Stands}
use Rattle.bandwidth.specs.declared.placements.Placement.{Placement}
use Rattle.bandwidth.specs.Placements.{frame_period}
use Rattle.bandwidth.specs.Sums.{is_active}
use Rattle.drv_chains.specs.declared.members.Descriptor.{Descriptor}
use Rattle.drv_chains.specs.declared.members.Member.TheVariants.{Once}
use Rattle.drv_chains.specs.Chains.{id_of}
use Rattle.drv_periodic_table.specs.Periodic.{note_at, descriptor_name}
use Rattle.drv_table.specs.declared.content.Endpoint.{Endpoint}
use Rattle.drv_table.specs.declared.content.Command.{Command}
use Rattle.drv_table.specs.declared.content.Command.TheVariants as unfinished
use Rattle.drv_table.specs.declared.content.Reserve.{Reserve}
use Rattle.drv_table.specs.DriverContent.{DriverContent}
use Rattle.drv_table.specs.Opening.{opening}
use Rattle.drv_table.specs.Kinds.{is_iso}
use Rattle.drv_table.specs.Parts.{Parts}
use Rattle.drv_table.specs.Rows.{driver_row, after_driver_row}
use Rattle.drv_table.specs.Accepting.{Offered}
use Rattle.drv_table.specs.Offers.{offered, IsOffered}
use Rattle.claims_driver.specs.Leaving.{HasOwners}
use Rattle.claims_driver.specs.FrameListMembers.{framed_of, framed_in, is_chained, Placed, placed_in, is_among, member_of}
use Rattle.law_driver.specs.listed_members.Members.{is_in_names, is_linked_by, IsStanding, IsUnderWay, IsListed}
use Rattle.law_driver.proofs.lemmas.listed_members.Standing.{seen, in_frames}
use Rattle.law_driver.proofs.lemmas.listed_members.Framing.{not_below}
use Rattle.law_driver.specs.planned_endpoints.Planned.{IsPlanned}
use Rattle.law_driver.proofs.lemmas.planned_endpoints.Laws.{endpoints_count_until_given_back}
use Rattle.law_driver.specs.iso_frames.Steps.{AreApart}
use Rattle.law_driver.specs.iso_frames.Frames.{mark, before, waiting_from, waiting_of, frame_in, frames_of, IsStepped, AreInFrames}
use Rattle.claims_driver.specs.DueMembers.{framed_to, IsWaitingFor, IsDueDescriptor, IsHarvested, AreDueDescriptors, HasOneEach}
use Rattle.law_driver.proofs.lemmas.iso_frames.Steps.{frames_in_step_are_apart}
use Rattle.law_driver.proofs.lemmas.iso_frames.Rows.{event_stepped}
use Rattle.law_driver.proofs.lemmas.iso_frames.Places.{event_places, command_places, is_well}
use Rattle.law_driver.proofs.lemmas.iso_frames.Accepted.{command_stepped}
use Rattle.law_driver.proofs.lemmas.iso_frames.Waiting.{more_waiting, mark_is}

-- ---- the opening

pub opening_frames : (n : ℕ) (room : Reserve) → AreInFrames (opening n room).driver
opening_frames n room = record { places = tt; stepped = λ e x p here. absurd (cc) }

-- ---- the frame of one that waits is among those of its endpoint

pub in_waiting : (P : ℕ → Type 0) (v : ℕ → Option Placed) (g : ℕ → ℕ) (e a n t b : ℕ) → a ≤ t → t < a + n → mark e (v t) ≡ Some b → AllByRecursion P (map g (waiting_from v e a n)) → P (g b)
unfolding waiting_from
in_waiting P v g e a zero t b low high is all = absurd (omega (arith, low, high))
in_waiting P v g e a (suc n) t b low high is all =
    ⊎_elim
    (λ (at : a ≡ t). (subst (λ m. AllByRecursion P (map g (before m (waiting_from v e (suc a) n)))) (ap (λ u. mark e (v u)) at ∙ is) all).0)
    (λ (off : a ≢ t). in_waiting P v g e (suc a) n t b (omega (arith, low, off)) (omega (arith, high)) is (rest (mark e (v a)) all)) (cases_eq a t)
  where
    rest : (m : Option ℕ) → AllByRecursion P (map g (before m (waiting_from v e (suc a) n))) → AllByRecursion P (map g (waiting_from v e (suc a) n))
    rest None all = all
    rest (Some c) all = all.1

-- two of them have different frames
two_apart : (v : ℕ → Option Placed) (g : ℕ → ℕ) (e a n t u b c : ℕ) → a ≤ t → t < u → u < a + n → mark e (v t) ≡ Some b → mark e (v u) ≡ Some c → AreApart (map g (waiting_from v e a n)) → g c ≢ g b
unfolding waiting_from
two_apart v g e a zero t u b c low less high one two all = absurd (omega (arith, low, less, high))
two_apart v g e a (suc n) t u b c low less high one two all =
    ⊎_elim
    (λ (at : a ≡ t).
    let here = subst (λ m. AreApart (map g (before m (waiting_from v e (suc a) n)))) (ap (λ k. mark e (v k)) at ∙ one) all in
    in_waiting (λ f. f ≢ g b) v g e (suc a) n u c (omega (arith, at, less)) (omega (arith, high)) two here.0)
    (λ (off : a ≢ t). two_apart v g e (suc a) n t u b c (omega (arith, low, off)) less (omega (arith, high)) one two (rest (mark e (v a)) all)) (cases_eq a t)
  where
    rest : (m : Option ℕ) → AreApart (map g (before m (waiting_from v e (suc a) n))) → AreApart (map g (waiting_from v e (suc a) n))
    rest None all = all
    rest (Some k) all = all.1

-- ---- an endpoint that has one

record IsFramedFor (d : DriverContent) (e : ℕ) (p : Placement) : Type 0 where
  frames : AreApart (frames_of d e)
  active : AllByRecursion (λ f. is_active p f ≡ true) (frames_of d e)

cut_within : (d : DriverContent) → IsListed d → framed_to d.command d.made (length d.transfers) ≤ length d.transfers
cut_within d listed = by d.command d.made listed.way
  where
    by : (c : Option Command) (made : ℕ) → IsUnderWay d c → framed_to c made (length d.transfers) ≤ length d.transfers
    by None made way = omega arith
    by (Some (unfinished.Open queue)) made way = omega arith
    by (Some (unfinished.Publish b words)) made way = omega arith
    by (Some (unfinished.Unlink e b link)) made way = omega arith
    by (Some unfinished.Chain) made way = omega arith
    by (Some (unfinished.Iso e first count)) zero way = omega (arith, way.all)
    by (Some (unfinished.Iso e first count)) (suc made) way = omega arith
    by (Some (unfinished.Unchain e)) made way = omega arith

all_small : (d : DriverContent) → IsListed d → (bs : List ℕ) → AllByRecursion (λ f. f < 1024) (map (frame_in d.periodic.notes) bs)
all_small d listed [] = tt
all_small d listed (b ∷ bs) = (listed.list.frames b, all_small d listed bs)

framed_for : (d : DriverContent) (e : ℕ) (p : Placement) → IsListed d → IsStepped d e p → IsFramedFor d e p
framed_for d e p listed h =
    let v = placed_in d.endpoints d.transfers in
    let cut = framed_to d.command d.made (length d.transfers) in
    let low = cut_within d listed in
    let sum : cut + (length d.transfers - cut) ≡ length d.transfers = omega (arith, low) in
    let split = ap (λ n. length (waiting_from v e 0 n)) (sym sum) ∙ ap (λ (bs : List ℕ). length bs) (more_waiting v e 0 cut (length d.transfers - cut)) in
    let both = length-append (waiting_from v e 0 cut) (waiting_from v e (0 + cut) (length d.transfers - cut)) in
    let long = length-map (waiting_from v e 0 cut) (frame_in d.periodic.notes) in
    let less : length (frames_of d e) ≤ length (waiting_of d e) = omega (arith, split, both, long) in
    let scaled = mul-le-mul_right (frame_period p.period) less in
    record { frames = frames_in_step_are_apart p (frames_of d e) (all_small d listed (waiting_from v e 0 cut)) (omega (arith, scaled, h.few)) h.steps; active = h.active }

-- the isochronous endpoint of one that waits
record IsOwn (d : DriverContent) (e : ℕ) : Type 0 where
  endpoint : Endpoint
  here : slice_get d.endpoints e ≡ Some endpoint
  iso : is_iso endpoint.desc.kind ≡ true
  chained : endpoint.chained ≡ true
  placement : Placement
  placed : endpoint.placement ≡ Some placement

some_placement : (o : Option Placement) → is_some o ≡ true → (p : Placement) × (o ≡ Some p)
some_placement None e = absurd (false≢true e)
some_placement (Some p) e = (p, refl)

waiting_own : (d : DriverContent) (k : Descriptor) (e : ℕ) → HasOwners d → IsWaitingFor d k e → IsOwn d e
waiting_own d k e has w =
    let s = seen d.endpoints d.transfers w.number w.placed w.here in
    let both = and_parts (not s.transfer.reported) (is_chained (framed_in d.endpoints s.transfer.endpoint)) (sym s.waits ∙ w.waits) in
    let x = in_frames d.endpoints s.transfer.endpoint both.1 in
    let at : s.transfer.endpoint ≡ e = sym s.endpoint ∙ w.endpoint in
    let here : slice_get d.endpoints e ≡ Some x.endpoint = ap (slice_get d.endpoints) (sym at) ∙ x.here in
    let iso : is_iso x.endpoint.desc.kind ≡ true = sym (has.orderly.sorts w.number s.transfer x.endpoint s.there x.here) ∙ s.sort in
    let p = some_placement x.endpoint.placement ((has.orderly.steady e x.endpoint here).placed ∙ iso_frames x.endpoint.desc.kind iso) in
    record { endpoint = x.endpoint; here = here; iso = iso; chained = x.chained; placement = p.0; placed = p.1 }

own_framed : (d : DriverContent) (e : ℕ) (x : IsOwn d e) → IsListed d → AreInFrames d → IsFramedFor d e x.placement
own_framed d e x listed h = framed_for d e x.placement listed (h.stepped e (framed_of x.endpoint) x.placement (ap (option_map framed_of) x.here) x.iso x.chained x.placed)

-- ---- both

own_mark : (d : DriverContent) (k : Descriptor) (e : ℕ) → (w : IsWaitingFor d k e) → mark e (placed_in d.endpoints d.transfers w.number) ≡ Some w.placed.block
own_mark d k e w = ap (mark e) w.here ∙ mark_is e w.placed w.endpoint w.waits

own_frame : (d : DriverContent) (k : Descriptor) (e : ℕ) → (w : IsWaitingFor d k e) → frame_in d.periodic.notes w.placed.block ≡ k.frame
own_frame d k e w = ap (λ (x : Descriptor). x.frame) (once_is (record { id = descriptor_name (note_at d.periodic.notes w.placed.block) w.placed.block; frame = (note_at d.periodic.notes w.placed.block).frame }) k w.is)

pub an_endpoint_has_one_descriptor_a_frame : (d : DriverContent) → HasOwners d → IsListed d → AreInFrames d → HasOneEach d
an_endpoint_has_one_descriptor_a_frame d has listed h e k l w v same =
    let x = waiting_own d k e has w in
    let f = own_framed d e x listed h in
    let view = placed_in d.endpoints d.transfers in
    let cut = framed_to d.command d.made (length d.transfers) in
    ⊎_elim
    (λ (at : w.number ≡ v.number).
    let placed : w.placed ≡ v.placed = same_Some w.placed v.placed (sym w.here ∙ ap view at ∙ v.here) in
    once_is k l (sym w.is ∙ ap (member_of d.periodic) placed ∙ v.is))
    (λ (off : w.number ≢ v.number).
    ⊎_elim
    (λ (less : w.number < v.number).
    absurd (two_apart view (frame_in d.periodic.notes) e 0 cut w.number v.number w.placed.block v.placed.block (omega arith) less (omega (arith, v.framed)) (own_mark d k e w) (own_mark d l e v) f.frames
    (own_frame d l e v ∙ sym same ∙ sym (own_frame d k e w))))
    (λ (more : v.number ≤ w.number).
    absurd (two_apart view (frame_in d.periodic.notes) e 0 cut v.number w.number v.placed.block w.placed.block (omega arith) (omega (arith, more, off)) (omega (arith, w.framed)) (own_mark d l e v) (own_mark d k e w) f.frames
    (own_frame d k e w ∙ same ∙ sym (own_frame d l e v)))) (cases_lt w.number v.number)) (cases_eq w.number v.number)

-- one that is linked has its frame
linked_framed : (d : DriverContent) (t : ℕ) (y : Placed) → t < length d.transfers → is_linked_by d.command d.made d.periodic t y ≡ true → t < framed_to d.command d.made (length d.transfers)
linked_framed d t y low on = by d.command d.made on
  where
    by : (c : Option Command) (made : ℕ) → is_linked_by c made d.periodic t y ≡ true → t < framed_to c made (length d.transfers)
    by None made on = low
    by (Some (unfinished.Open queue)) made on = low
    by (Some (unfinished.Publish b words)) made on = low
    by (Some (unfinished.Unlink e b link)) made on = low
    by (Some unfinished.Chain) made on = low
    by (Some (unfinished.Iso e first count)) zero on =
        ⊎_elim (λ (less : t < first). less) (λ (more : first ≤ t). absurd (not_below t first more (or_none (nat_lt t first) (nat_le 1 0 && not (is_in_names (id_of (member_of d.periodic y)) d.periodic.queued)) refl on))) (cases_lt t first)
    by (Some (unfinished.Iso e first count)) (suc made) on = low
    by (Some (unfinished.Unchain e)) made on = low

one_due : (d : DriverContent) (f : ℕ) (k : Descriptor) → HasOwners d → IsListed d → IsPlanned d → AreInFrames d → k.frame ≡ f → IsStanding d (Once k) → IsDueDescriptor d f k ⊎ IsHarvested d k
one_due d f k has listed planned h at stands =
    ⊎_elim
    (λ (on : is_among stands.number d.periodic.unlinks ≡ true). inr (record { number = stands.number; placed = stands.placed; here = stands.here; among = on; is = stands.is }))
    (λ waits.
    let s = seen d.endpoints d.transfers stands.number stands.placed stands.here in
    let w : IsWaitingFor d k stands.placed.endpoint = record {
      number = stands.number;
      placed = stands.placed;
      here = stands.here;
      framed = linked_framed d stands.number stands.placed (slice_get_within d.transfers stands.number s.transfer s.there) waits.1;
      endpoint = refl;
      waits = waits.0;
      is = stands.is;
    } in
    let x = waiting_own d k stands.placed.endpoint has w in
    let g = own_framed d stands.placed.endpoint x listed h in
    let on = in_waiting (λ j. is_active x.placement j ≡ true) (placed_in d.endpoints d.transfers) (frame_in d.periodic.notes) stands.placed.endpoint 0 (framed_to d.command d.made (length d.transfers)) w.number w.placed.block (omega arith) (omega (arith, w.framed)) (own_mark d k stands.placed.endpoint w) g.active in
    let kept : x.endpoint.gone ≡ false = alive x.endpoint.gone x.endpoint.chained (λ e. ((has.orderly.steady stands.placed.endpoint x.endpoint x.here).gone e).1) x.chained in
    inl (record {
      number = stands.placed.endpoint;
      endpoint = x.endpoint;
      placement = x.placement;
      waiting = w;
      frame = at;
      here = x.here;
      isochronous = x.iso;
      placed = x.placed;
      counts = endpoints_count_until_given_back d stands.placed.endpoint x.endpoint x.placement planned x.here kept x.placed;
      active = subst (λ j. is_active x.placement j ≡ true) (own_frame d k stands.placed.endpoint w ∙ at) on;
    })) stands.stands
  where
    alive : (g c : Bool) → (g ≡ true → c ≡ false) → c ≡ true → g ≡ false
    alive true c out on = absurd (false≢true (sym (out refl) ∙ on))
    alive false c out on = refl

filtered : (d : DriverContent) (f : ℕ) (ks : List Descriptor) → ((k : Descriptor) → k.frame ≡ f → IsStanding d (Once k) → IsDueDescriptor d f k ⊎ IsHarvested d k) → AllByRecursion (λ k. IsStanding d (Once k)) ks
    → AllByRecursion (λ k. IsDueDescriptor d f k ⊎ IsHarvested d k) (filter (λ k. nat_eq k.frame f) ks)
filtered d f [] each h = tt
filtered d f (k ∷ ks) each h = at (nat_eq k.frame f) refl (filtered d f ks each h.1)
  where
    at : (b : Bool) → nat_eq k.frame f ≡ b → AllByRecursion (λ k. IsDueDescriptor d f k ⊎ IsHarvested d k) (filter (λ k. nat_eq k.frame f) ks)
        → AllByRecursion (λ k. IsDueDescriptor d f k ⊎ IsHarvested d k) (cond b (k ∷ filter (λ k. nat_eq k.frame f) ks) (filter (λ k. nat_eq k.frame f) ks))
    at true on rest = (each k (eqb-true k.frame f on) h.0, rest)
    at false off rest = rest

pub descriptors_of_a_frame_are_due : (d : DriverContent) (f : ℕ) → HasOwners d → IsListed d → IsPlanned d → AreInFrames d
    → AreDueDescriptors d f
descriptors_of_a_frame_are_due d f has listed planned h = filtered d f d.periodic.list.members.schedule.descriptors (λ k at s. one_due d f k has listed planned h at s) listed.list.members.descriptors

-- ---- kept

pub commands_keep_the_frames : (d : DriverContent) (m : Mem) (cmd : Cmd) (o : Offered) → Stands (holding d.book m) → HasOwners d → IsPlanned d → IsOffered d.room cmd → AreInFrames d → offered d m cmd ≡ Ok o → AreInFrames o.driver
commands_keep_the_frames d m cmd o stands has planned may h made = record {
  places = command_places d m cmd o may made h.places;
  stepped = command_stepped d m cmd o stands has (is_well d has planned h.places) made h.stepped;
}

pub events_keep_the_frames : (p : Parts) → HasOwners p.driver → IsListed p.driver → IsPlanned p.driver → AreInFrames p.driver → AreInFrames (after_driver_row (driver_row p) p).driver
events_keep_the_frames p has listed planned h = record {
  places = event_places p h.places;
  stepped = event_stepped p has listed (λ e x q here chained placed. (is_well p.driver has planned h.places e x q here chained placed).place) h.stepped;
}
