-- The next store of the frame list, beside both walks.
use Rattle.std.proofs.Common.{◌≡◌, ℕ, ◌+◌, ◌*◌, ◌/◌, ◌<◌, ◌≤◌, ◌⊎◌, Bool, true, false, inl, inr, Option, Some, None, if◌then◌else◌, ⊎_elim, ap, refl, sym, subst, ◌∙◌, arith}
use Rattle.std.specs.Prelude.{◌==◌, not, ◌&&◌, ◌||◌, nat_lt, slice_get, slice_set, option_map, option_and_then}
use Rattle.std.proofs.lemmas.Bool.{true≢false, eqb-true}
use Rattle.std.proofs.lemmas.List.{get_or-set_other}
use Rattle.std.proofs.lemmas.Option.{same_Some}
use Rattle.law_common.proofs.Lists.{nth_all}
use Rattle.law_frame_words.proofs.Common.{same_itself}
use Rattle.law_descriptors.proofs.Common.{others_led, gone, way_by, leaves_it, also_here}
use Rattle.law_common.proofs.Booleans.{or_both}
use Rattle.word_mem.specs.Memory.{Mem, word_at, with_word}
use Rattle.link_words.specs.Links.{link_read, link_fields, IsLinkWord}
use Rattle.drv_chains.specs.declared.members.Member.{Member}
use Rattle.drv_chains.specs.declared.members.Member.TheVariants.{Once, Each}
use Rattle.drv_chains.specs.declared.members.Predecessor.{Predecessor}
use Rattle.drv_chains.specs.declared.members.Predecessor.TheVariants.{Element, After}
use Rattle.drv_chains.specs.Chains.{Schedule, id_of, is_the, successor}
use Rattle.drv_chains.specs.Stores.{is_same, is_word}
use Rattle.drv_members.specs.Members.{Members, IsKept, is_linked, without_member, with_schedule, frame_of}
use Rattle.law_frame_words.specs.frame_words.InWords.{IsSpread}
use Rattle.claims_driver.specs.FrameWords.{IsInOrder}
use Rattle.law_frame_words.proofs.lemmas.frame_words.Decoded.{IsWordOf}
use Rattle.law_frame_words.proofs.lemmas.frame_words.InChains.{fewer_in, words_in}
use Rattle.law_frame_list.specs.list_closed.Closed.{IsNext}
use Rattle.law_frame_list.proofs.lemmas.list_closed.Chained.{still_linked, successor_is, other_words}
use Rattle.law_frame_list.proofs.lemmas.list_spread.Spreading.{queue_there, standing_there}
use Rattle.law_driver.specs.listed_members.Members.{IsListed, IsQueueOf, IsStanding}
use Rattle.drv_periodic.specs.declared.work.Work.{Work}
use Rattle.drv_periodic.specs.declared.work.Store.{Store}
use Rattle.drv_periodic.specs.Periodic.{Periodic, link_to, address_of, words_of, value_of, store_at, store_of, is_more, after_work, after_store}
use Rattle.drv_periodic_table.specs.Periodic.{note_at}
use Rattle.drv_table.specs.DriverContent.{DriverContent}
use Rattle.hc_core.specs.Controller.{Content}
use Rattle.law_structures.specs.lent_structures.Structures.{Structure, QueueHead as Head, Table, Isochronous, SplitIsochronous, Structures, StructureSets, put, Tells}
use Rattle.law_ring.specs.Hand.{Hand}
use Rattle.claims_base.specs.Controller.{Base}
use Rattle.law_frames.specs.Met.{Kind, AQueue, AnItd, ASitd, LeadsTo, IsMetAs}
use Rattle.law_frames.specs.FrameHand.{FrameHand}
use Rattle.law_controller.specs.frame_control.Both.{RunsBoth}
use Rattle.law_controller.specs.frame_stores.Stores.{HasLink, link_in, linked, frame_linked, IsMetFurther}
use Rattle.law_controller.proofs.lemmas.frame_stores.Framing.{leads_further}
use Rattle.claims_driver.specs.Unlinked.{is_led, led_by, led_in, led}
use Rattle.law_descriptors.specs.Meeting.{kind_of, standing, or_recent, met}
use Rattle.law_descriptors.specs.Growing.{IsLeftOut, AreApartFrom, KeepsMembers}
use Rattle.law_descriptors.specs.RowLaws.{HasFrames}
use Rattle.law_descriptors.specs.Rows.{IsMetBeside}
use Rattle.law_descriptors.specs.ListRows.{leaves_by, leaves_now, recent_with, HasPart, Comes, ComesFirst, an_element, a_link, ListStored, StoresNext, NextStoreLeavesBoth}
use Rattle.law_descriptors.proofs.Finding.{begins_at, member_kind, IsMemberAt, member_at}
use Rattle.law_descriptors.proofs.Leading.{none_made, led_linked, led_spread, members_lead_to_standing}
use Rattle.law_descriptors.proofs.Closing.{leads_as, standing_met}
use Rattle.law_descriptors.proofs.Growing.{same_kind, stores_keep_members, members_stay_met}
use Rattle.law_descriptors.proofs.Storing.{element_store_meets, link_store_meets}

-- all who stand from the store on, and didn't before
abbrev AreComing : (ℕ → Bool) → (ℕ → Option Kind) → StructureSets → DriverContent → DriverContent → Type 0
AreComing member recent parts d new = (n : ℕ) (kind : Kind) → standing new n ≡ Some kind → standing d n ≡ None → Comes member recent parts n kind

-- ---- its word

record NextWord (p : Periodic) (st : Store) : Type 0 where
  work : Work
  under_way : p.work ≡ Some work
  word : Predecessor
  here : slice_get (words_of p.members.schedule work) work.made ≡ Some word
  is : store_at p.list word (value_of p.members.schedule work) ≡ st

next_by : (p : Periodic) (w : Work) (st : Store) (o : Option Predecessor) → p.work ≡ Some w → slice_get (words_of p.members.schedule w) w.made ≡ o
    → option_map (λ word. store_at p.list word (value_of p.members.schedule w)) o ≡ Some st → NextWord p st
next_by p w st None under here is = absurd cc
next_by p w st (Some word) under here is =
    record { work = w; under_way = under; word = word; here = here; is = same_Some (store_at p.list word (value_of p.members.schedule w)) st is }

next_word : (p : Periodic) (st : Store) (o : Option Work) → p.work ≡ o → option_and_then (λ w. store_of p.list p.members.schedule w) o ≡ Some st → NextWord p st
next_word p st None under is = absurd cc
next_word p st (Some w) under is = next_by p w st (slice_get (words_of p.members.schedule w) w.made) under refl is

-- ---- the one that is linked or unlinked

-- two members with one name are one
one_name : (list : ℕ) (s : Schedule) (m x : Member) → IsSpread list s → is_linked s m ≡ true → is_linked s x ≡ true → is_the m x ≡ true → x ≡ m
one_name list s m x spread one two is = spread.once x m two one (ap (λ (n : ℕ). n / 32) (eqb-true (id_of x) (id_of m) is))

other_by : (list : ℕ) (s : Schedule) (m x : Member) (b : Bool) → IsSpread list s → is_linked s m ≡ true → is_linked s x ≡ true → is_same x m ≡ false → is_the m x ≡ b → b ≡ false
other_by list s m x false spread one two differs is = refl
other_by list s m x true spread one two differs is =
    absurd (true≢false (sym (same_itself m) ∙ ap (λ (y : Member). is_same y m) (sym (one_name list s m x spread one two is)) ∙ differs))

-- ---- the link word of a member

queue_word : (id b : ℕ) → id ≡ 32 * b + 2 → IsLinkWord id
queue_word id b is = inr (omega (arith, is), omega (arith, is))

descriptor_word : (id b : ℕ) (split : Bool) → id ≡ (if split then 32 * b + 4 else 32 * b) → IsLinkWord id
descriptor_word id b true is = inr (omega (arith, is), omega (arith, is))
descriptor_word id b false is = inr (omega (arith, is), omega (arith, is))

member_word : (d : DriverContent) (m : Member) → IsListed d → is_linked d.periodic.list.members.schedule m ≡ true → IsLinkWord (id_of m)
member_word d (Each q) listed on = let s : IsQueueOf d q = queue_there d q listed on in queue_word q.id s.framed.queue (ap id_of s.is)
member_word d (Once k) listed on =
    let s : IsStanding d (Once k) = standing_there d k listed on in
    descriptor_word k.id s.placed.block (note_at d.periodic.notes s.placed.block).split (ap id_of (sym s.is))

next_link : (d : DriverContent) (f : ℕ) (o : Option Member) → IsListed d → IsNext d.periodic.list.members.schedule f o → IsLinkWord (link_to o)
next_link d f None listed next = inl refl
next_link d f (Some m) listed next = member_word d m listed next.0

value_by : (d : DriverContent) (m : Member) (b : Bool) → IsListed d → IsKept d.periodic.list.members.schedule → is_linked d.periodic.list.members.schedule m ≡ true
    → IsLinkWord (if b then link_to (successor d.periodic.list.members.schedule m (frame_of m)) else id_of m)
value_by d m true listed kept on = next_link d (frame_of m) (successor d.periodic.list.members.schedule m (frame_of m)) listed (successor_is d.periodic.list.members.schedule m (frame_of m) kept)
value_by d m false listed kept on = member_word d m listed on

-- ---- what stands there, but for its link

met_part : (met : ℕ → Option Kind) (n : ℕ) (part : Structures) (kind : Kind) → HasPart n part kind → ((s : Structure) → part n ≡ Some s → LeadsTo met (link_in s)) → IsMetAs met n part kind
met_part met n part AQueue k leads = record { part_is = k.part_is; link = leads (Head k.part_is.queue) k.part_is.here }
met_part met n part AnItd k leads = record { itd = k.itd; here = k.here; link = leads (Isochronous k.itd) k.here; slots = k.slots }
met_part met n part ASitd k leads = record { sitd = k.sitd; here = k.here; link = leads (SplitIsochronous k.sitd) k.here; bytes = k.bytes }

record HasOwnLink (parts : StructureSets) (n : ℕ) : Type 0 where
  structure : Structure
  here : parts n n ≡ Some structure
  link : HasLink structure

own_link : (met : ℕ → Option Kind) (parts : StructureSets) (n : ℕ) (kind : Kind) → IsMetAs met n (parts n) kind → HasOwnLink parts n
own_link met parts n AQueue k = record { structure = Head k.part_is.queue; here = k.part_is.here; link = tt }
own_link met parts n AnItd k = record { structure = Isochronous k.itd; here = k.here; link = tt }
own_link met parts n ASitd k = record { structure = SplitIsochronous k.sitd; here = k.here; link = tt }

-- ---- who is linked before it and after it

way_linked : (p : Periodic) (w : Work) → IsInOrder p → p.work ≡ Some w → is_linked p.members.schedule w.member ≡ true
way_linked p w order under = way_by p.members.schedule p.work w under order.member

spread_in : (m : Mem) (d new : DriverContent) (p : Periodic) (st : Store) → StoresNext m d new p st → IsSpread d.periodic.list.list p.members.schedule
spread_in m d new p st k = subst (λ (x : Schedule). IsSpread d.periodic.list.list x) (sym (ap (λ x. x.schedule) k.members)) k.frames.spread

before_linked : (m : Mem) (d new : DriverContent) (p : Periodic) (st : Store) (x : Member) → StoresNext m d new p st → is_linked (led d) x ≡ true → is_linked p.members.schedule x ≡ true
before_linked m d new p st x k on = led_linked p.members.schedule p.work x (ap (λ (s : Schedule). is_linked s x) k.before ∙ on)

-- each is then, but one that is left out
then_linked : (m : Mem) (d new : DriverContent) (p : Periodic) (st : Store) (w : Work) (x : Member) → StoresNext m d new p st → p.work ≡ Some w → is_linked (led d) x ≡ true
    → (is_linked (led new) x ≡ true) ⊎ IsLeftOut p w x
then_linked m d new p st w x k under on =
    ⊎_elim (λ (still : is_linked (led_in (after_store p)) x ≡ true). inl (ap (λ (s : Schedule). is_linked s x) k.after ∙ still)) (λ (out : IsLeftOut p w x). inr out)
    (stores_keep_members p w x under (ap (λ (s : Schedule). is_linked s x) k.before ∙ on))

removal_led : (s : Schedule) (w : Work) → w.removes ≡ true → led_by s (Some w) ≡ s
removal_led s w is = ap (λ (b : Bool). if b || nat_lt 0 w.made then s else without_member s w.member) is

-- one that leaves stands until then
leaver_linked : (m : Mem) (d new : DriverContent) (p : Periodic) (st : Store) (w : Work) → StoresNext m d new p st → p.work ≡ Some w → w.removes ≡ true → is_linked (led d) w.member ≡ true
leaver_linked m d new p st w k under removes =
    ap (λ (s : Schedule). is_linked s w.member) (sym k.before ∙ ap (led_by p.members.schedule) under ∙ removal_led p.members.schedule w removes)
    ∙ way_linked p w k.order under

stood : (m : Mem) (d new : DriverContent) (p : Periodic) (st : Store) (x : Member) → StoresNext m d new p st → is_linked (led d) x ≡ true → standing d (begins_at x) ≡ Some (kind_of d.periodic x)
stood m d new p st x k on =
    member_kind d.periodic d.periodic.list.list (led d) x (led_spread d.periodic.list.list d.periodic.list.members.schedule d.periodic.list.work k.frames.spread) on

stands_then : (m : Mem) (d new : DriverContent) (p : Periodic) (st : Store) (x : Member) → StoresNext m d new p st → is_linked (led new) x ≡ true → standing new (begins_at x) ≡ Some (kind_of new.periodic x)
stands_then m d new p st x k on =
    member_kind new.periodic new.periodic.list.list (led new) x (led_spread new.periodic.list.list new.periodic.list.members.schedule new.periodic.list.work k.frames_after.spread) on

-- ---- what is recent then

record Leaves (p : Periodic) (m : Member) : Type 0 where
  work : Work
  under_way : p.work ≡ Some work
  removes : work.removes ≡ true
  last : is_more p.members.schedule work ≡ false
  is : work.member ≡ m

leaves_as : (p : Periodic) (w : Work) (m : Member) (a b : Bool) → p.work ≡ Some w → w.removes ≡ a → is_more p.members.schedule w ≡ b → (if a && not b then Some w.member else None) ≡ Some m → Leaves p m
leaves_as p w m true false under removes last is = record { work = w; under_way = under; removes = removes; last = last; is = same_Some w.member m is }
leaves_as p w m true true under removes last is = absurd cc
leaves_as p w m false b under removes last is = absurd cc

leaves_is : (p : Periodic) (m : Member) (o : Option Work) → p.work ≡ o → leaves_by p.members.schedule o ≡ Some m → Leaves p m
leaves_is p m None under is = absurd cc
leaves_is p m (Some w) under is = leaves_as p w m w.removes (is_more p.members.schedule w) under refl refl is

-- at any other place it is what it was
also_by : (n i : ℕ) (kind found : Kind) (recent : ℕ → Option Kind) (b : Bool) → (i == n) ≡ b → (if b then Some kind else recent i) ≡ Some found → ((i ≡ n) × (kind ≡ found)) ⊎ (recent i ≡ Some found)
also_by n i kind found recent true is on = inl (eqb-true i n is, same_Some kind found on)
also_by n i kind found recent false is on = inr on

none_some : {X : Type 0} (o : Option X) (x : X) → o ≡ None → o ≡ Some x → ⊥
none_some o x none some = cc

-- it is what was recent, or one that leaves
pub record AtLeaver (m : Mem) (d new : DriverContent) (p : Periodic) (n : ℕ) (kind : Kind) : Type 0 where
  pub work : Work
  pub under_way : p.work ≡ Some work
  pub removes : work.removes ≡ true
  pub last : is_more p.members.schedule work ≡ false
  pub begins : n ≡ begins_at work.member
  pub kind_is : kind_of d.periodic work.member ≡ kind

then_by : (m : Mem) (d new : DriverContent) (p : Periodic) (recent : ℕ → Option Kind) (n : ℕ) (kind : Kind) (o : Option Member) → leaves_now p ≡ o → recent_with d.periodic o recent n ≡ Some kind
    → (recent n ≡ Some kind) ⊎ AtLeaver m d new p n kind
then_by m d new p recent n kind None leaves on = inl on
then_by m d new p recent n kind (Some x) leaves on =
    let k : Leaves p x = leaves_is p x p.work refl leaves in
    ⊎_elim (λ (here : (n ≡ begins_at x) × (kind_of d.periodic x ≡ kind)).
    inr (record {
      work = k.work;
      under_way = k.under_way;
      removes = k.removes;
      last = k.last;
      begins = here.0 ∙ ap begins_at (sym k.is);
      kind_is = ap (kind_of d.periodic) k.is ∙ here.1;
    }))
    (λ (before : recent n ≡ Some kind). inl before)
    (also_by (begins_at x) n (kind_of d.periodic x) kind recent (n == begins_at x) refl on)

pub then_recent : (m : Mem) (d new : DriverContent) (p : Periodic) (recent : ℕ → Option Kind) (n : ℕ) (kind : Kind) → recent_with d.periodic (leaves_now p) recent n ≡ Some kind
    → (recent n ≡ Some kind) ⊎ AtLeaver m d new p n kind
then_recent m d new p recent n kind on = then_by m d new p recent n kind (leaves_now p) refl on

leaver_stood : (m : Mem) (d new : DriverContent) (p : Periodic) (st : Store) (n : ℕ) (kind : Kind) → StoresNext m d new p st → AtLeaver m d new p n kind → standing d n ≡ Some kind
leaver_stood m d new p st n kind k at =
    ap (standing d) at.begins ∙ stood m d new p st at.work.member k (leaver_linked m d new p st at.work k at.under_way at.removes) ∙ ap (λ (x : Kind). Some x) at.kind_is

-- what was recent is
further_by : (d : DriverContent) (recent : ℕ → Option Kind) (m : Mem) (new : DriverContent) (p : Periodic) (st : Store) → StoresNext m d new p st → AreApartFrom d recent → (o : Option Member) → leaves_now p ≡ o
    → (n : ℕ) (kind : Kind) → recent n ≡ Some kind → recent_with d.periodic o recent n ≡ Some kind
further_by d recent m new p st k apart None leaves n kind on = on
further_by d recent m new p st k apart (Some x) leaves n kind on =
    let l : Leaves p x = leaves_is p x p.work refl leaves in
    at_by (n == begins_at x) refl
  where
    at_by : (b : Bool) → (n == begins_at x) ≡ b → (if b then Some (kind_of d.periodic x) else recent n) ≡ Some kind
    at_by false is = on
    at_by true is =
        let l : Leaves p x = leaves_is p x p.work refl leaves in
        absurd (none_some (standing d n) (kind_of d.periodic l.work.member) (apart n kind on)
        (ap (standing d) (eqb-true n (begins_at x) is ∙ ap begins_at (sym l.is)) ∙ stood m d new p st l.work.member k (leaver_linked m d new p st l.work k l.under_way l.removes)))

recent_further : (m : Mem) (d new : DriverContent) (p : Periodic) (st : Store) (recent : ℕ → Option Kind) → StoresNext m d new p st → AreApartFrom d recent
    → IsMetFurther recent (recent_with d.periodic (leaves_now p) recent)
recent_further m d new p st recent k apart n kind on = further_by d recent m new p st k apart (leaves_now p) refl n kind on

-- ---- no recent one stands then

after_last : (p : Periodic) (w : Work) → p.work ≡ Some w → w.removes ≡ true → is_more p.members.schedule w ≡ false → led_in (after_store p) ≡ without_member p.members.schedule w.member
after_last p w under removes last = ap (λ (o : Option Work). led_in (after_work p o)) under ∙ by w.removes (is_more p.members.schedule w) removes last
  where
    by : (a b : Bool) → a ≡ true → b ≡ false
        → led_in (if b then record p { work = Some (record w { made = w.made + 1 }) } else record { list = p.list; members = if a then with_schedule p.members (without_member p.members.schedule w.member) else p.members; work = None })
        ≡ without_member p.members.schedule w.member
    by true false one two = refl
    by false b one two = absurd (true≢false (sym one))
    by true true one two = absurd (true≢false two)

leaver_gone : (m : Mem) (d new : DriverContent) (p : Periodic) (st : Store) (n : ℕ) (kind there : Kind) → StoresNext m d new p st → AtLeaver m d new p n kind → standing new n ≡ Some there → ⊥
leaver_gone m d new p st n kind there k at stands =
    let w : Work = at.work in
    let f : IsMemberAt (led new) n = member_at new.periodic (led new) n there stands in
    let on : is_linked (without_member p.members.schedule w.member) f.member ≡ true
    = ap (λ (s : Schedule). is_linked s f.member) (sym (k.after ∙ after_last p w at.under_way at.removes at.last)) ∙ f.linked in
    let same : f.member ≡ w.member
    = (spread_in m d new p st k).once f.member w.member (fewer_in p.members.schedule w.member f.member on) (way_linked p w k.order at.under_way)
    (same_begin f.member w.member (f.begins ∙ at.begins)) in
    true≢false (sym on ∙ ap (is_linked (without_member p.members.schedule w.member)) same ∙ gone p.members.schedule w.member)
  where
    same_begin : (a b : Member) → begins_at a ≡ begins_at b → id_of a / 32 ≡ id_of b / 32
    same_begin a b is = same_numbers (id_of a / 32) (id_of b / 32) is
      where
        same_numbers : (a b : ℕ) → 32 * a ≡ 32 * b → a ≡ b
        same_numbers a b is = omega (arith, is)

recent_apart : (m : Mem) (d new : DriverContent) (p : Periodic) (st : Store) (member : ℕ → Bool) (recent : ℕ → Option Kind) (parts : StructureSets) → StoresNext m d new p st → AreApartFrom d recent
    → AreComing member recent parts d new → AreApartFrom new (recent_with d.periodic (leaves_now p) recent)
recent_apart m d new p st member recent parts k apart coming n kind on = by (standing new n) refl
  where
    by : (o : Option Kind) → standing new n ≡ o → o ≡ None
    by None is = refl
    by (Some there) is =
        absurd (⊎_elim (λ (before : recent n ≡ Some kind).
        none_some (recent n) kind (coming n there is (apart n kind before)).fresh before)
        (λ (at : AtLeaver m d new p n kind). leaver_gone m d new p st n kind there k at is)
        (then_recent m d new p recent n kind on))

-- ---- all that were met are met

all_kept : (m : Mem) (d new : DriverContent) (p : Periodic) (st : Store) (w : Work) (recent : ℕ → Option Kind) → StoresNext m d new p st → p.work ≡ Some w
    → KeepsMembers d new (recent_with d.periodic (leaves_now p) recent)
all_kept m d new p st w recent k under x on =
    ⊎_elim (λ (still : is_linked (led new) x ≡ true). inl still)
    (λ (out : IsLeftOut p w x).
    let same : x ≡ w.member
    = one_name d.periodic.list.list p.members.schedule w.member x (spread_in m d new p st k) (way_linked p w k.order under) (before_linked m d new p st x k on) out.is in
    inr (ap (λ (o : Option Member). recent_with d.periodic o recent (begins_at x)) (leaves_it p w x under out)
    ∙ also_here (begins_at w.member) (begins_at x) (kind_of d.periodic w.member) recent (ap begins_at same) ∙ ap (λ (y : Member). Some (kind_of d.periodic y)) (sym same)))
    (then_linked m d new p st w x k under on)

met_further : (m : Mem) (d new : DriverContent) (p : Periodic) (st : Store) (w : Work) (member : ℕ → Bool) (recent : ℕ → Option Kind) (parts : StructureSets) → StoresNext m d new p st → p.work ≡ Some w
    → AreApartFrom d recent → AreComing member recent parts d new → IsMetFurther (met d recent) (met new (recent_with d.periodic (leaves_now p) recent))
met_further m d new p st w member recent parts k under apart coming =
    members_stay_met d new recent (recent_with d.periodic (leaves_now p) recent) k.frames.spread k.frames_after.spread k.notes (all_kept m d new p st w recent k under)
    (recent_further m d new p st recent k apart) (recent_apart m d new p st member recent parts k apart coming)

-- one that the store's word belongs to stands
word_linked : (m : Mem) (d new : DriverContent) (p : Periodic) (st : Store) (g : NextWord p st) (x : Member) → StoresNext m d new p st → is_linked p.members.schedule x ≡ true
    → is_same x g.work.member ≡ false → is_linked (led d) x ≡ true
word_linked m d new p st g x k its other =
    ap (λ (s : Schedule). is_linked s x) (sym k.before ∙ ap (led_by p.members.schedule) g.under_way)
    ∙ others_led p.members.schedule g.work x (is_led g.work)
    (other_by d.periodic.list.list p.members.schedule g.work.member x (is_the g.work.member x) (spread_in m d new p st k) (way_linked p g.work k.order g.under_way) its other refl) its

-- ---- who comes

-- where the store goes, one stood, or the list is
goes_beside : (m : Mem) (d new : DriverContent) (p : Periodic) (st : Store) (g : NextWord p st) (n : ℕ) (kind : Kind) → StoresNext m d new p st → standing d n ≡ None → standing new n ≡ Some kind
    → st.at / 4 ≡ n / 4 → ⊥
goes_beside m d new p st g n kind k none stands same =
    let f : IsMemberAt (led new) n = member_at new.periodic (led new) n kind stands in
    let at : st.at ≡ address_of p.list g.word = ap (λ (x : Store). x.at) (sym g.is) in
    at_word g.word (nth_all (IsWordOf p.members.schedule) (words_of p.members.schedule g.work) g.work.made g.word (words_in p.members.schedule g.work.member k.order.kept) g.here)
    (nth_all (λ w. is_word w (After g.work.member) ≡ false) (words_of p.members.schedule g.work) g.work.made g.word (other_words p.members.schedule g.work.member) g.here)
    (ap (λ (a : ℕ). a / 4) (sym at) ∙ same) f
  where
    in_list : (list i b n : ℕ) → (32 * list + 4 * i) / 4 ≡ n / 4 → 32 * b ≡ n → i < 1024 → (b < list) ⊎ (list + 128 ≤ b) → ⊥
    in_list list i b n same is low (inl below) = omega (arith, same, is, low, below)
    in_list list i b n same is low (inr above) = omega (arith, same, is, low, above)

    own : (a b n : ℕ) → a * 32 / 4 ≡ n / 4 → 32 * b ≡ n → 32 * a ≡ n
    own a b n same is = omega (arith, same, is)

    at_word : (v : Predecessor) → IsWordOf p.members.schedule v → is_word v (After g.work.member) ≡ false → address_of p.list v / 4 ≡ n / 4 → IsMemberAt (led new) n → ⊥
    at_word (Element i) its other same f =
        in_list p.list i (id_of f.member / 32) n same f.begins its
        (subst (λ (l : ℕ). (id_of f.member / 32 < l) ⊎ (l + 128 ≤ id_of f.member / 32)) (k.start ∙ sym k.list)
        (k.frames_after.spread.apart f.member (led_linked new.periodic.list.members.schedule new.periodic.list.work f.member f.linked)))
    at_word (After x) its other same f =
        none_some (standing d n) (kind_of d.periodic x) none
        (ap (standing d) (sym (own (id_of x / 32) (id_of f.member / 32) n same f.begins)) ∙ stood m d new p st x k (word_linked m d new p st g x k its other))

record NewlyStands (d new : DriverContent) (recent : ℕ → Option Kind) (n : ℕ) (kind : Kind) : Type 0 where
  before : standing d n ≡ None
  after : standing new n ≡ Some kind

neither : (o r : Option Kind) → or_recent o r ≡ None → (o ≡ None) × (r ≡ None)
neither None r is = (refl, is)
neither (Some kind) r is = absurd cc

newly_by : (m : Mem) (d new : DriverContent) (p : Periodic) (st : Store) (recent : ℕ → Option Kind) (n : ℕ) (kind : Kind) (o : Option Kind) → StoresNext m d new p st → standing new n ≡ o
    → or_recent o (recent_with d.periodic (leaves_now p) recent n) ≡ Some kind → standing d n ≡ None → recent n ≡ None → NewlyStands d new recent n kind
newly_by m d new p st recent n kind (Some there) k is on none fresh = record { before = none; after = is ∙ on }
newly_by m d new p st recent n kind None k is on none fresh =
    absurd (⊎_elim (λ (before : recent n ≡ Some kind). none_some (recent n) kind fresh before)
    (λ (at : AtLeaver m d new p n kind). none_some (standing d n) kind none (leaver_stood m d new p st n kind k at))
    (then_recent m d new p recent n kind on))

-- its link isn't where the store goes
own_word : (m : Mem) (d new : DriverContent) (p : Periodic) (st : Store) (g : NextWord p st) (n : ℕ) (kind : Kind) → StoresNext m d new p st → standing d n ≡ None → standing new n ≡ Some kind
    → word_at (with_word m st.at st.value) n ≡ word_at m n
own_word m d new p st g n kind k none stands =
    get_or-set_other m.words (st.at / 4) (n / 4) st.value 0 (λ same. goes_beside m d new p st g n kind k none stands (omega (arith, same)))

comer_met : (m : Mem) (d new : DriverContent) (p : Periodic) (st : Store) (g : NextWord p st) (parts : StructureSets) (later : ℕ → Option Kind) (n : ℕ) (kind : Kind) → StoresNext m d new p st → Tells m parts
    → standing d n ≡ None → standing new n ≡ Some kind → HasPart n (parts n) kind → IsMetAs (met new later) n (parts n) kind
comer_met m d new p st g parts later n kind k told none stands part =
    met_part (met new later) n (parts n) kind part
    (λ s here.
    leads_further (standing new) (met new later) (link_in s) (standing_met new later)
    (leads_as (standing new) m n s (told.each n n s here)
    (subst (λ (w : ℕ). LeadsTo (standing new) (link_read w)) (own_word m d new p st g n kind k none stands)
    (members_lead_to_standing (with_word m st.at st.value) new n kind k.frames_after stands))))

comers_sound : (m : Mem) (d new : DriverContent) (p : Periodic) (st : Store) (g : NextWord p st) (member : ℕ → Bool) (recent : ℕ → Option Kind) (parts : StructureSets) → StoresNext m d new p st → Tells m parts
    → AreComing member recent parts d new → (n : ℕ) (kind : Kind) → met new (recent_with d.periodic (leaves_now p) recent) n ≡ Some kind → met d recent n ≡ None
    → (member n ≡ false) × IsMetAs (met new (recent_with d.periodic (leaves_now p) recent)) n (parts n) kind
comers_sound m d new p st g member recent parts k told coming n kind on none =
    let both = neither (standing d n) (recent n) none in
    let newly : NewlyStands d new recent n kind = newly_by m d new p st recent n kind (standing new n) k refl on both.0 both.1 in
    let c : Comes member recent parts n kind = coming n kind newly.after newly.before in
    (c.off, comer_met m d new p st g parts (recent_with d.periodic (leaves_now p) recent) n kind k told newly.before newly.after c.part)

-- ---- the store

stored_value : (m : Mem) (d new : DriverContent) (p : Periodic) (st : Store) (g : NextWord p st) → StoresNext m d new p st → IsLinkWord st.value
stored_value m d new p st g k =
    subst (λ (x : Store). IsLinkWord x.value) g.is
    (subst (λ (ms : Members). IsLinkWord (value_of ms.schedule g.work)) (sym k.members)
    (value_by d g.work.member g.work.removes k.frames.listed k.frames.list.order.kept
    (ap (λ (ms : Members). is_linked ms.schedule g.work.member) (sym k.members) ∙ way_linked p g.work k.order g.under_way)))

beside : (base : Base) (member : ℕ → Bool) (recent : ℕ → Option Kind) (parts : StructureSets) (hand : Hand) (frame : FrameHand) (c : Content) (d new : DriverContent) (p : Periodic) (st : Store) (g : NextWord p st)
    → RunsBoth base member (met d recent) parts hand frame c → StoresNext c.memory d new p st → AreApartFrom d recent → AreComing member recent parts d new
    → IsMetBeside member (met d recent) (met new (recent_with d.periodic (leaves_now p) recent)) parts
beside base member recent parts hand frame c d new p st g runs k apart coming = record {
  further = met_further c.memory d new p st g.work member recent parts k g.under_way apart coming;
  sound = comers_sound c.memory d new p st g member recent parts k runs.ring.tells coming;
}

in_element : (base : Base) (member : ℕ → Bool) (recent : ℕ → Option Kind) (parts : StructureSets) (hand : Hand) (frame : FrameHand) (c : Content) (d new : DriverContent) (p : Periodic) (st : Store) (g : NextWord p st)
    → RunsBoth base member (met d recent) parts hand frame c → base.periodic_list_base ≡ 32 * d.periodic.list.list → StoresNext c.memory d new p st → AreApartFrom d recent → AreComing member recent parts d new
    → (i : ℕ) → i < 1024 → st.at ≡ base.periodic_list_base + 4 * i
    → ListStored base member (recent_with d.periodic (leaves_now p) recent) parts hand frame st new (record c { memory = with_word c.memory st.at st.value })
in_element base member recent parts hand frame c d new p st g runs is k apart coming i low at =
    let later : ℕ → Option Kind = recent_with d.periodic (leaves_now p) recent in
    record {
      now = put parts base.periodic_list_base base.periodic_list_base (Table (slice_set runs.list.words i st.value));
      frame_later = frame;
      stored = an_element i runs.list low at refl refl;
      runs = subst (λ (a : ℕ). RunsBoth base member (met new later) (put parts base.periodic_list_base base.periodic_list_base (Table (slice_set runs.list.words i st.value))) hand frame (record c { memory = with_word c.memory a st.value })) (sym at)
          (element_store_meets base member recent later parts hand frame c d new i st.value runs (beside base member recent parts hand frame c d new p st g runs k apart coming)
          (is ∙ ap (λ (l : ℕ). 32 * l) (sym k.start)) (subst (λ (a : ℕ). HasFrames (with_word c.memory a st.value) new) at k.frames_after) runs.list low);
      frames = k.frames_after;
      apart = recent_apart c.memory d new p st member recent parts k apart coming;
    }

in_link : (base : Base) (member : ℕ → Bool) (recent : ℕ → Option Kind) (parts : StructureSets) (hand : Hand) (frame : FrameHand) (c : Content) (d new : DriverContent) (p : Periodic) (st : Store) (g : NextWord p st)
    → RunsBoth base member (met d recent) parts hand frame c → StoresNext c.memory d new p st → AreApartFrom d recent → AreComing member recent parts d new
    → (x : Member) → is_linked (led d) x ≡ true → is_linked (led new) x ≡ true → st.at ≡ begins_at x
    → ListStored base member (recent_with d.periodic (leaves_now p) recent) parts hand frame st new (record c { memory = with_word c.memory st.at st.value })
in_link base member recent parts hand frame c d new p st g runs k apart coming x on still at =
    let later : ℕ → Option Kind = recent_with d.periodic (leaves_now p) recent in
    let here : met d recent st.at ≡ Some (kind_of d.periodic x) = standing_met d recent st.at (kind_of d.periodic x) (ap (standing d) at ∙ stood c.memory d new p st x k on) in
    let own : HasOwnLink parts st.at = own_link (met d recent) parts st.at (kind_of d.periodic x) (runs.members st.at (kind_of d.periodic x) here) in
    record {
      now = put parts st.at st.at (linked (link_fields (link_read st.value)) own.structure);
      frame_later = frame_linked st.at (link_fields (link_read st.value)) frame;
      stored = a_link own.structure own.here own.link refl refl;
      runs = link_store_meets base member recent later parts hand frame c d new st.at st.value own.structure (kind_of new.periodic x) runs
          (beside base member recent parts hand frame c d new p st g runs k apart coming) k.frames_after own.here own.link (stored_value c.memory d new p st g k)
          (runs.apart st.at (kind_of d.periodic x) here) (ap (standing new) at ∙ stands_then c.memory d new p st x k still);
      frames = k.frames_after;
      apart = recent_apart c.memory d new p st member recent parts k apart coming;
    }

-- the store goes to an element, or to the link of one that stands and stays
in_word : (base : Base) (member : ℕ → Bool) (recent : ℕ → Option Kind) (parts : StructureSets) (hand : Hand) (frame : FrameHand) (c : Content) (d new : DriverContent) (p : Periodic) (st : Store) (g : NextWord p st)
    → RunsBoth base member (met d recent) parts hand frame c → base.periodic_list_base ≡ 32 * d.periodic.list.list → StoresNext c.memory d new p st → AreApartFrom d recent → AreComing member recent parts d new
    → (v : Predecessor) → IsWordOf p.members.schedule v → is_word v (After g.work.member) ≡ false → st.at ≡ address_of p.list v
    → ListStored base member (recent_with d.periodic (leaves_now p) recent) parts hand frame st new (record c { memory = with_word c.memory st.at st.value })
in_word base member recent parts hand frame c d new p st g runs is k apart coming (Element i) its other at =
    in_element base member recent parts hand frame c d new p st g runs is k apart coming i its
    (at ∙ ap (λ (l : ℕ). l + 4 * i) (ap (λ (l : ℕ). 32 * l) k.list ∙ sym is))
in_word base member recent parts hand frame c d new p st g runs is k apart coming (After x) its other at =
    let on : is_linked (led d) x ≡ true = word_linked c.memory d new p st g x k its other in
    in_link base member recent parts hand frame c d new p st g runs k apart coming x on
    (⊎_elim (λ (still : is_linked (led new) x ≡ true). still)
    (λ (out : IsLeftOut p g.work x).
    absurd (true≢false (sym out.is
    ∙ other_by d.periodic.list.list p.members.schedule g.work.member x (is_the g.work.member x) (spread_in c.memory d new p st k) (way_linked p g.work k.order g.under_way) its other refl)))
    (then_linked c.memory d new p st g.work x k g.under_way on))
    (at ∙ turned (id_of x / 32))
  where
    turned : (b : ℕ) → b * 32 ≡ 32 * b
    turned b = omega arith

-- ---- only one that is linked comes, by its first store

after_fewer : (p : Periodic) (x : Member) (o : Option Work) → is_linked (led_in (after_work p o)) x ≡ true → p.work ≡ o → is_linked p.members.schedule x ≡ true
after_fewer p x None on under = led_linked p.members.schedule p.work x on
after_fewer p x (Some w) on under = by (is_more p.members.schedule w) w.removes on
  where
    by : (b a : Bool)
        → is_linked (led_in (if b then record p { work = Some (record w { made = w.made + 1 }) } else record { list = p.list; members = if a then with_schedule p.members (without_member p.members.schedule w.member) else p.members; work = None })) x ≡ true
        → is_linked p.members.schedule x ≡ true
    by true a on = led_linked p.members.schedule (Some (record w { made = w.made + 1 })) x on
    by false true on = fewer_in p.members.schedule w.member x on
    by false false on = on

-- it was linked before, or it is linked by this store
comer_by : (p : Periodic) (w : Work) (x : Member) (b a : Bool) → is_led w ≡ b → is_the w.member x ≡ a → is_linked p.members.schedule x ≡ true
    → (is_linked (if b then p.members.schedule else without_member p.members.schedule w.member) x ≡ true) ⊎ ((is_led w ≡ false) × (is_the w.member x ≡ true))
comer_by p w x true a led is on = inl on
comer_by p w x false false led is on = inl (still_linked p.members.schedule w.member x is on)
comer_by p w x false true led is on = inr (led, is)

first_comes : (m : Mem) (d new : DriverContent) (p : Periodic) (st : Store) (g : NextWord p st) (member : ℕ → Bool) (recent : ℕ → Option Kind) (parts : StructureSets) → StoresNext m d new p st
    → ComesFirst member recent parts d p → AreComing member recent parts d new
first_comes m d new p st g member recent parts k comes n kind stands none =
    let w : Work = g.work in
    let f : IsMemberAt (led new) n = member_at new.periodic (led new) n kind stands in
    let x : Member = f.member in
    let linked : is_linked p.members.schedule x ≡ true
    = after_fewer p x p.work (ap (λ (s : Schedule). is_linked s x) (sym k.after) ∙ f.linked) refl in
    ⊎_elim (λ (before : is_linked (if is_led w then p.members.schedule else without_member p.members.schedule w.member) x ≡ true).
    absurd (none_some (standing d n) (kind_of d.periodic x) none
    (ap (standing d) (sym f.begins) ∙ stood m d new p st x k (ap (λ (s : Schedule). is_linked s x) (sym k.before ∙ ap (led_by p.members.schedule) g.under_way) ∙ before))))
    (λ (is : (is_led w ≡ false) × (is_the w.member x ≡ true)).
    let parted = or_both w.removes (nat_lt 0 w.made) is.0 in
    let one : x ≡ w.member = one_name d.periodic.list.list p.members.schedule w.member x (spread_in m d new p st k) (way_linked p w k.order g.under_way) linked is.1 in
    let c : Comes member recent parts (begins_at w.member) (kind_of d.periodic w.member) = comes w g.under_way parted.0 (none_made w.made parted.1) in
    let at : begins_at w.member ≡ n = ap begins_at (sym one) ∙ f.begins in
    let kinds : kind_of d.periodic w.member ≡ kind
    = same_Some (kind_of d.periodic w.member) kind
    (ap (λ (y : Member). Some (kind_of d.periodic y)) (sym one) ∙ ap (λ (i : Kind). Some i) (sym (same_kind d.periodic new.periodic x k.notes)) ∙ sym (stands_then m d new p st x k f.linked)
    ∙ ap (standing new) f.begins ∙ stands) in
    subst (λ (i : ℕ). Comes member recent parts i kind) at (subst (Comes member recent parts (begins_at w.member)) kinds c))
    (comer_by p w x (is_led w) (is_the w.member x) refl refl linked)

pub next_store_leaves_both : NextStoreLeavesBoth
next_store_leaves_both base member recent parts hand frame c d new p st runs is k apart comes =
    let g : NextWord p st = next_word p st p.work refl k.next in
    let coming : AreComing member recent parts d new = first_comes c.memory d new p st g member recent parts k comes in
    in_word base member recent parts hand frame c d new p st g runs is k apart coming g.word
    (nth_all (IsWordOf p.members.schedule) (words_of p.members.schedule g.work) g.work.made g.word (words_in p.members.schedule g.work.member k.order.kept) g.here)
    (nth_all (λ w. is_word w (After g.work.member) ≡ false) (words_of p.members.schedule g.work) g.work.made g.word (other_words p.members.schedule g.work.member) g.here)
    (ap (λ (x : Store). x.at) (sym g.is))
